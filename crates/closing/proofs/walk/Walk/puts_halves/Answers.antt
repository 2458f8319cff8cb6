-- A send is started, and then a sink.
use Rattle.std.proofs.Common.{refl, None}
use Rattle.closing.specs.Steps.{Whole, Starts, after_step}
use Rattle.closing.specs.inner.Lists.{start_call}
use Rattle.closing.proofs.FollowLemmas.{residual}
use Rattle.closing.proofs.SunkLemmas.{kept_plain, whole_plain}
use Rattle.closing.proofs.SunkSteps.{first_stops_by, kept_list, then_sink}
use Rattle.closing.proofs.walk.Walk.puts_halves.Goals as goal

pub returns-in_err-starts_unnamed-clause-takes : goal.returns-in_err-starts_unnamed-clause-takes
returns-in_err-starts_unnamed-clause-takes c = λ handed progress stands kept fits.
    first_stops_by c.starts_unnamed.result c.in_err-starts_unnamed.field-0.0 c.from_residual.result handed progress c.args.self.now.line (Whole c.args.self.now.line) (start_call c.args.start)
    None c.args.wants.now.wanted c.args.wants.now.is_known c.args.self.now (record c.args.self.now { list = c.starts_unnamed.new.self })
    c.in_err-starts_unnamed.was (residual c.from_residual.result c.in_err-starts_unnamed.field-0.0 c.from_residual.ensures.1) stands kept refl
    (c.starts_unnamed.ensures handed progress c.args.self.now.line (Whole c.args.self.now.line) stands fits.0 tt)

pub returns-clause-takes : goal.returns-clause-takes
returns-clause-takes c = λ handed progress stands kept fits.
    let line = c.args.self.now.line in
    let first = Starts (Whole line) (start_call c.args.start) in
    let mid = record c.args.self.now { list = c.starts_unnamed.new.self } in
    then_sink c.starts_sink.result handed progress line (Whole line) (start_call c.args.start) None c.args.wants.now.wanted c.args.wants.now.is_known c.starts_sink.new.self (whole_plain line)
    (c.starts_sink.ensures.takes handed (after_step progress line first)
    (c.in_ok-starts_unnamed.ensures handed progress line (Whole line) stands fits.0 tt)
    (kept_plain progress.records _ line (Whole line) mid (whole_plain line) (kept_list progress.records c.args.self.now mid c.starts_unnamed.new.self refl kept))
    fits.1)
