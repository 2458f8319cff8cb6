-- By whether it came back.
use Rattle.std.proofs.Common.{refl, ap, not, if◌then◌else◌, None}
use Rattle.closing.specs.Called.{naturals_in}
use Rattle.closing.specs.Pending.{PendingCall, unknown}
use Rattle.closing.specs.inner.Sunk.{any_pending}
use Rattle.closing.specs.declared.stop.Stop.TheVariants.{Memory}
use Rattle.closing.proofs.FollowLemmas.{residual}
use Rattle.closing.proofs.SunkWaits.{left_alone, no_memory_sunk, none_pend}
use Rattle.closing.proofs.walk.Walk.chooses_none.Goals as goal

pub returns-then-at-clause-takes : goal.returns-then-at-clause-takes
returns-then-at-clause-takes c = λ lines line pending tells stand whole handed progress stands kept fits.
    left_alone line c.args.at.now.came_back None (pending progress) (if not c.args.at.now.came_back then any_pending lines (naturals_in c.args.requests.now) progress else unknown)
    handed progress c.args.self.now refl (ap (λ b. if not b then any_pending lines (naturals_in c.args.requests.now) progress else unknown) c.if-at.true) stands kept

pub returns-in_err-pends_for_any-clause-takes : goal.returns-in_err-pends_for_any-clause-takes
returns-in_err-pends_for_any-clause-takes c = λ lines line pending tells stand whole.
    no_memory_sunk line c.args.at.now.came_back (λ records. None) pending (λ progress. if not c.args.at.now.came_back then any_pending lines (naturals_in c.args.requests.now) progress else unknown)
    c.from_residual.result c.args.self.now c.pends_for_any.new.self (residual c.from_residual.result Memory c.from_residual.ensures.1)

pub returns-clause-takes : goal.returns-clause-takes
returns-clause-takes c = λ lines line pending tells stand whole handed progress stands kept fits.
    none_pend lines c.args.requests.now c.args.self.now c.pends_for_any.new.self handed progress tells stand c.pends_for_any.ensures.same stands kept
    line c.args.at.now.came_back (pending progress) whole c.if-at.false
    (c.in_ok-pends_for_any.ensures.pending (ap (λ (call : PendingCall). call.items) kept.pending))
