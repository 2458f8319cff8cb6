-- A send is started, and then a sink; both are waited for.
use Rattle.std.proofs.Common.{refl, ap, ◌∷◌, [], None, Some}
use Rattle.closing.specs.Steps.{Whole, Starts, after_step, least_free}
use Rattle.closing.specs.inner.Lists.{start_call}
use Rattle.closing.specs.inner.Sunk.{exchange_pending, sink_step}
use Rattle.closing.specs.declared.stop.Stop.TheVariants.{Memory}
use Rattle.closing.specs.declared.walk.Walk.{Walk}
use Rattle.closing.proofs.FollowLemmas.{residual}
use Rattle.closing.proofs.SunkBlocks.{exchange_items, halves_pending, pends_message}
use Rattle.closing.proofs.SunkLemmas.{has_plain, kept_plain, whole_plain}
use Rattle.closing.proofs.SunkSteps.{kept_list, no_memory_pends, pends_cut_by, pends_first, sink_stops_by, then_sink}
use Rattle.closing.proofs.walk.Walk.pends_for_halves.Goals as goal

pub returns-in_err-number-clause-takes : goal.returns-in_err-number-clause-takes
returns-in_err-number-clause-takes c = λ handed progress stands kept fits.
    pends_first c.starts_numbered.result c.in_err-number.field-0.0 c.from_residual.result (exchange_pending (Some c.args.wants.now.wanted) progress) handed progress c.args.self.now.line
    (Whole c.args.self.now.line) (start_call c.args.start) None c.args.wants.now.wanted c.args.wants.now.is_known c.args.self.now (record c.args.self.now { list = c.starts_numbered.new.self })
    c.in_err-number.was (residual c.from_residual.result c.in_err-number.field-0.0 c.from_residual.ensures.1) stands kept refl
    (c.starts_numbered.ensures.comes handed progress c.args.self.now.line (Whole c.args.self.now.line) stands fits.0 tt)

pub returns-in_err-puts_sink-clause-takes : goal.returns-in_err-puts_sink-clause-takes
returns-in_err-puts_sink-clause-takes c = λ handed progress stands kept fits.
    let line = c.args.self.now.line in
    let first = Starts (Whole line) (start_call c.args.start) in
    let mid = record c.args.self.now { list = c.starts_numbered.new.self } in
    let wanted = c.args.wants.now.wanted in
    let known = c.args.wants.now.is_known in
    let stopped = residual c.from_residual-in_err-puts_sink.result c.in_err-puts_sink.field-0.0 c.from_residual-in_err-puts_sink.ensures.1 in
    pends_cut_by (exchange_pending (Some wanted) progress) c.in_err-puts_sink.field-0.0 (first ∷ sink_step None wanted known ∷ []) c.from_residual-in_err-puts_sink.result handed progress line c.puts_sink.new.self stopped
    (then_sink c.from_residual-in_err-puts_sink.result handed progress line (Whole line) (start_call c.args.start) None wanted known c.puts_sink.new.self (whole_plain line)
    (sink_stops_by c.puts_sink.result c.in_err-puts_sink.field-0.0 c.from_residual-in_err-puts_sink.result handed (after_step progress line first) line None wanted known
    mid c.puts_sink.new.self c.in_err-puts_sink.was stopped
    (c.in_ok-number.ensures.comes handed progress line (Whole line) stands fits.0 tt)
    (kept_plain progress.records _ line (Whole line) mid (whole_plain line) (kept_list progress.records c.args.self.now mid c.starts_numbered.new.self refl kept))
    c.puts_sink.ensures.same
    (c.puts_sink.ensures.puts handed (after_step progress line first) line known
    (c.in_ok-number.ensures.comes handed progress line (Whole line) stands fits.0 tt)
    (has_plain progress.records _ line (Whole line) c.args.self.now.sinks (whole_plain line) kept.sinks) fits.1.0)))

pub returns-in_err-push-clause-takes : goal.returns-in_err-push-clause-takes
returns-in_err-push-clause-takes c = λ handed progress stands kept fits.
    no_memory_pends (exchange_pending (Some c.args.wants.now.wanted) progress)
    (Starts (Whole c.args.self.now.line) (start_call c.args.start) ∷ sink_step None c.args.wants.now.wanted c.args.wants.now.is_known ∷ [])
    c.from_residual-in_err-push.result handed progress c.args.self.now.line _ (residual c.from_residual-in_err-push.result Memory c.from_residual-in_err-push.ensures.1)

pub returns-clause-takes : goal.returns-clause-takes
returns-clause-takes c = λ handed progress stands kept fits.
    let line = c.args.self.now.line in
    let first = Starts (Whole line) (start_call c.args.start) in
    let wanted = c.args.wants.now.wanted in
    let known = c.args.wants.now.is_known in
    pends_message line (first ∷ sink_step None wanted known ∷ []) (exchange_pending (Some wanted) progress) wanted c.pends_for.result handed progress _ c.pends_for.new.self c.pends_for.ensures.pends
    (exchange_items c.args.self.now.pending c.puts_sink.new.self.pending c.push.new.self.items c.in_ok-number.number (least_free progress.active) wanted kept.pending
    (ap (λ (walk : Walk). walk.pending) c.puts_sink.ensures.same) c.in_ok-push.ensures.items (c.in_ok-number.ensures.number handed progress stands))
    (halves_pending handed progress line (Whole line) (start_call c.args.start) wanted known (exchange_pending (Some wanted) progress) c.args.self.now c.puts_sink.new.self c.pends_for.new.self
    c.puts_sink.ensures.same c.pends_for.ensures.same
    (c.in_ok-puts_sink.ensures.puts handed (after_step progress line first) line known
    (c.in_ok-number.ensures.comes handed progress line (Whole line) stands fits.0 tt)
    (has_plain progress.records _ line (Whole line) c.args.self.now.sinks (whole_plain line) kept.sinks) fits.1.0) kept)
