use Rattle.std.proofs.Common.{◌≡◌, ◌∙◌, length, take, refl, sym, arith}
use Rattle.std.proofs.lemmas.List.{take_all}
use Rattle.std.proofs.lemmas.Bool.{eq-eqb}
use Rattle.callstore.specs.Recordings.{calls_of}
use Rattle.callstore.specs.Requests.{started_in}
use Rattle.callstore.proofs.OptionLemmas.{same_map}
use Rattle.pairing.specs.inner.Starts.{place_in}
use Rattle.pairing.proofs.ActiveLemmas.{one_inactive, all_started}
use Rattle.pairing.proofs.active.Active.each_start_of.Goals as goal

pub returns-in-None-clause-written : goal.returns-in-None-clause-written
returns-in-None-clause-written c recording is_active =
    c.loop-i.invariant ∙ same_map (place_in c.args.self.now c.args.rank) (started_in (calls_of recording c.args.rank)) (take c.loop-i.i c.args.reqs.now) (is_active c.args.rank)

pub returns-in-None-clause-all : goal.returns-in-None-clause-all
returns-in-None-clause-all c recording is_active =
    one_inactive (calls_of recording c.args.rank) c.args.reqs.now c.loop-i.i c.loop-i-test.true (sym (c.start_of.ensures.value recording is_active) ∙ c.in-None.is)

pub returns-clause-written : goal.returns-clause-written
returns-clause-written c recording is_active =
    let end : c.loop-i.i ≡ length c.args.reqs.now = omega arith in
    rw end at c.loop-i.invariant
    ∙ same_map (place_in c.args.self.now c.args.rank) (started_in (calls_of recording c.args.rank)) (take (length c.args.reqs.now) c.args.reqs.now) (is_active c.args.rank)

pub returns-clause-all : goal.returns-clause-all
returns-clause-all c recording is_active =
    let end : c.loop-i.i ≡ length c.args.reqs.now = omega arith in
    let whole = take_all (length c.args.reqs.now) c.args.reqs.now (omega arith) in
    all_started (calls_of recording c.args.rank) c.args.reqs.now (take (length c.args.reqs.now) c.loop-i.into)
    (rw (end, whole) at c.loop-i.invariant ∙ same_map (place_in c.args.self.now c.args.rank) (started_in (calls_of recording c.args.rank)) c.args.reqs.now (is_active c.args.rank))
    ∙ sym (eq-eqb (length c.args.reqs.now) (length c.args.reqs.now) refl)
