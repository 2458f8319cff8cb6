-- The wait for the first that was chosen is put, unless it stands for nothing.
use Rattle.std.proofs.Common.{◌≡◌, ◌∙◌, ap, sym, map, Some, None, Ok}
use Rattle.std.specs.Prelude.{slice_get}
use Rattle.closing.specs.Called.{naturals_in}
use Rattle.closing.specs.Entry.{ids_of, unless_past, wait_for_one}
use Rattle.closing.specs.Sinks.{GoesOn}
use Rattle.closing.specs.Steps.{Own}
use Rattle.closing.specs.declared.stop.Stop.TheVariants.{Memory}
use Rattle.closing.proofs.FollowLemmas.{residual}
use Rattle.closing.proofs.WaitingLemmas.{memory_stops, none_put, now_all, one_put, past_nothing}
use Rattle.closing.proofs.walk.Walk.waits_for_chosen.Goals as goal

pub returns-then-at-clause-takes : goal.returns-then-at-clause-takes
returns-then-at-clause-takes c = λ spot is tells same chosen.
    past_nothing (tt {0}) spot spot.is_past (wait_for_one (ids_of spot.lines (naturals_in c.args.chosen.now)) (ids_of spot.lines (naturals_in c.args.requests.now)))
    c.args.self.now.list (sym is.is_past ∙ c.if-at.true)

pub returns-in_err-find-clause-takes : goal.returns-in_err-find-clause-takes
returns-in_err-find-clause-takes c = λ spot is tells same chosen.
    memory_stops spot (GoesOn (unless_past spot.is_past (wait_for_one (ids_of spot.lines (naturals_in c.args.chosen.now)) (ids_of spot.lines (naturals_in c.args.requests.now)))))
    c.from_residual.result c.args.self.now.list c.args.self.now.list (residual c.from_residual.result Memory c.from_residual.ensures.1)

pub returns-in_err-find-2-clause-takes : goal.returns-in_err-find-2-clause-takes
returns-in_err-find-2-clause-takes c = λ spot is tells same chosen.
    memory_stops spot (GoesOn (unless_past spot.is_past (wait_for_one (ids_of spot.lines (naturals_in c.args.chosen.now)) (ids_of spot.lines (naturals_in c.args.requests.now)))))
    c.from_residual-in_err-find-2.result c.args.self.now.list c.args.self.now.list (residual c.from_residual-in_err-find-2.result Memory c.from_residual-in_err-find-2.ensures.1)

pub returns-in-Some-clause-takes : goal.returns-in-Some-clause-takes
returns-in-Some-clause-takes c = λ spot is tells same chosen.
    let first : Some c.in-Some.wanted ≡ slice_get c.as_slice.result.now 0 = c.in-Some.ensures in
    now_all spot spot.is_past (wait_for_one (ids_of spot.lines (naturals_in c.args.chosen.now)) (ids_of spot.lines (naturals_in c.args.requests.now)))
    c.waits_for_one.result c.args.self.now.list c.waits_for_one.new.self (sym is.is_past ∙ c.if-at.false)
    (one_put spot c.in-Some.wanted c.as_slice-in-Some.result.now c.as_slice.result.now (ids_of spot.lines (naturals_in c.args.chosen.now)) (ids_of spot.lines (naturals_in c.args.requests.now))
    c.waits_for_one.result c.args.self.now.list c.waits_for_one.new.self first
    (ap (map Own) c.as_slice.ensures.value ∙ c.in_ok-find.ensures.told spot.lines tells chosen)
    (ap (map Own) c.as_slice-in-Some.ensures.value ∙ c.in_ok-find-2.ensures.told spot.lines tells same) c.waits_for_one.ensures)

pub returns-in-None-clause-takes : goal.returns-in-None-clause-takes
returns-in-None-clause-takes c = λ spot is tells same chosen.
    let first : None ≡ slice_get c.as_slice.result.now 0 = c.in-None.ensures in
    now_all spot spot.is_past (wait_for_one (ids_of spot.lines (naturals_in c.args.chosen.now)) (ids_of spot.lines (naturals_in c.args.requests.now)))
    (Ok (tt {0})) c.args.self.now.list c.args.self.now.list (sym is.is_past ∙ c.if-at.false)
    (none_put (tt {0}) spot c.as_slice.result.now (ids_of spot.lines (naturals_in c.args.chosen.now)) (ids_of spot.lines (naturals_in c.args.requests.now)) c.args.self.now.list first
    (ap (map Own) c.as_slice.ensures.value ∙ c.in_ok-find.ensures.told spot.lines tells chosen))
