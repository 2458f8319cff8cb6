-- Calls that are what they are without sinks: there are none, and the message is known.
use Rattle.std.proofs.Common.{◌≡◌, refl, sym, ℕ, Bool, true, false, ◌||◌, not, if◌then◌else◌, Option, Some, None, option_map, Ok, List, []}
use Rattle.std.specs.Prelude.{is_some}
use Rattle.closing.specs.Called.{Awaited}
use Rattle.closing.specs.Pending.{unknown}
use Rattle.closing.specs.Reported.{done_of, message_of}
use Rattle.closing.specs.Sinks.{Outcome, ends}
use Rattle.closing.specs.inner.Sunk.{TakesSunk, blocks_sunk, message_pending, names_sink, starts_receive_sunk, waits_pending, waits_sunk, wants_in}
use Rattle.closing.specs.inner.Views.{called_view}
use Rattle.closing.specs.inner.Walks.{Spot}
use Rattle.closing.specs.declared.called.Called.{Called as CalledCode}
use Rattle.closing.specs.declared.walk.Walk.{Walk}
use Rattle.closing.specs.declared.walk.sinks.Leaves.{Leaves}
use Rattle.closing.specs.declared.why.Why.TheVariants.{NeverCameBack, NotJudged}
use Rattle.closing.proofs.SunkBlocks.{blocks_plain, none_met, starts_plain}
use Rattle.closing.proofs.SunkCalls.{IsOther, TakesCalled, called_as, others_alone}
use Rattle.closing.proofs.SunkWaits.{left_alone, names_none}

pub some_mapped : {A B : Type 0} (f : A → B) (o : Option A) → is_some o ≡ true → is_some (option_map f o) ≡ true
some_mapped f None e = e
some_mapped f (Some it) e = e

-- a call that neither receives, probes nor waits
pub other_as : (spot : Spot) (came_back : Bool) (it call : CalledCode) (walk : Walk) → it ≡ call → IsOther spot came_back (called_view call)
    → TakesCalled spot came_back (called_view it) (Ok false) walk walk
other_as spot came_back it call walk e other =
    called_as spot came_back it call (Ok false) walk walk e (others_alone spot came_back (called_view call) walk other)

pub receives_plain : (spot : Spot) (came_back : Bool) (leaves : Leaves) (awaited : Awaited) (walk : Walk) → walk.sinks.all.items ≡ []
    → is_some (message_of awaited spot.got) ≡ true
    → TakesSunk spot.line came_back (blocks_sunk spot came_back leaves awaited (message_of awaited spot.got))
    (λ progress. message_pending (wants_in spot.size spot.number awaited (message_of awaited spot.got))) (λ progress. unknown) (Ok false) walk walk
receives_plain spot came_back leaves awaited walk none known = λ handed progress stands kept fits.
    left_alone spot.line came_back (blocks_sunk spot came_back leaves awaited (message_of awaited spot.got) progress.records)
    (message_pending (wants_in spot.size spot.number awaited (message_of awaited spot.got))) unknown handed progress walk
    (blocks_plain spot came_back leaves awaited (message_of awaited spot.got) progress.records known
    (λ wanted. none_met progress.records walk.sinks wanted kept.sinks none)) refl stands kept

pub starts_receive_plain : (spot : Spot) (came_back : Bool) (own : ℕ) (awaited : Awaited) (walk : Walk) → walk.sinks.all.items ≡ []
    → is_some (message_of awaited (done_of spot.lines own)) ≡ true
    → TakesSunk spot.line came_back (starts_receive_sunk spot own awaited (message_of awaited (done_of spot.lines own)))
    (λ progress. unknown) (λ progress. unknown) (Ok false) walk walk
starts_receive_plain spot came_back own awaited walk none known = λ handed progress stands kept fits.
    left_alone spot.line came_back (starts_receive_sunk spot own awaited (message_of awaited (done_of spot.lines own)) progress.records) unknown unknown
    handed progress walk
    (starts_plain spot own awaited (message_of awaited (done_of spot.lines own)) progress.records known
    (λ wanted. none_met progress.records walk.sinks wanted kept.sinks none)) refl stands kept

none_named : (past named came_back : Bool) → named ≡ false
    → (if past || not named then None else Some (ends (if came_back then NotJudged else NeverCameBack))) ≡ None
none_named true named came_back e = refl
none_named false false came_back e = refl
none_named false true came_back e = cc

pub waits_plain : (spot : Spot) (came_back : Bool) (requests : List ℕ) (walk : Walk) → walk.sinks.all.items ≡ []
    → TakesSunk spot.line came_back (waits_sunk spot came_back requests) (waits_pending spot.lines requests) (λ progress. unknown) (Ok false) walk walk
waits_plain spot came_back requests walk none = λ handed progress stands kept fits.
    left_alone spot.line came_back (waits_sunk spot came_back requests progress.records) (waits_pending spot.lines requests progress) unknown
    handed progress walk
    (none_named spot.is_past (names_sink spot.lines requests progress.records) came_back
    (sym (names_none spot.lines requests progress.records walk.sinks kept.sinks none))) refl stands kept
