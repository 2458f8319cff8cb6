-- What some run over what is kept passes is passed by a run over what is kept after a step.
use Rattle.std.proofs.Common.{◌≡◌, ℕ, ◌<◌, true, false, None, List, length, map, refl, ◌∙◌, ⊎_elim, arith}
use Rattle.std.proofs.lemmas.Bool.{cases_Bool}
use Rattle.std.proofs.lemmas.List.{length-map}
use Rattle.mpicall.specs.declared.call.Call.{Call}
use Rattle.callstore.specs.Recordings.{appended}
use Rattle.moves.proofs.AnalyserLemmas.{goes_on_by}
use Rattle.rankfeed.specs.Rings.{taker_ring}
use Rattle.rankfeed.specs.declared.answer.Took.{Took}
use Rattle.rankfeed.specs.declared.ring.Taker.{Taker}
use Rattle.gather.specs.inner.Takers.{Collects}
use Rattle.watches.specs.Publications.{ArePassed}
use Rattle.gather.specs.Collected.{Kept, Enters, EntersRecord, is_accepting, fault_behind_kept, wanting, with_fault, torn}
use Rattle.gather.specs.declared.fault.RankFault.{RankFault}
use Rattle.gather.specs.declared.fault.RankFault.TheVariants.{OfSource}
use Rattle.watches.specs.declared.stands.Stands.{Stands}
use Rattle.gather.specs.declared.ledger.Stepped.{Stepped}
use Rattle.gather.specs.declared.ledger.Stepped.TheVariants.{Refused, Discarded, Empty, Ended}
use Rattle.watches.proofs.PassedLemmas.{passed_on}

record_passed_on : (rank : ℕ) (call : Call) (before after : Kept) (answer : Stepped) (list : List Stands) → rank < length before.recording → EntersRecord rank call before answer after → ArePassed before.reading before.groups before.recording list → ArePassed after.reading after.groups after.recording list
record_passed_on rank call before after Stepped.Took list within so are =
    rw so.2 (passed_on before.reading before.groups before.recording (appended before.recording rank call) list (goes_on_by before.recording rank call within) are)
record_passed_on rank call before after Refused list within so are = rw so.1.2 are
record_passed_on rank call before after Discarded list within so are =
    ⊎_elim (λ (same : (is_accepting before rank ≡ false) × (after ≡ before)). rw same.1 are) (λ (wants : (is_accepting before rank ≡ true) × (fault_behind_kept before rank call ≡ None) × (after ≡ wanting before)). rw wants.2 are) so
record_passed_on rank call before after Empty list within so are = absurd so
record_passed_on rank call before after Ended list within so are = absurd so

torn_passed_on : (rank : ℕ) (fault : RankFault) (before after : Kept) (list : List Stands) → after ≡ torn before rank fault → ArePassed before.reading before.groups before.recording list → ArePassed after.reading after.groups after.recording list
torn_passed_on rank fault before after list is are =
    ⊎_elim
    (λ (o : is_accepting before rank ≡ true). let now : after ≡ with_fault before rank fault = is ∙ rw o refl in rw now are)
    (λ (s : is_accepting before rank ≡ false). let now : after ≡ before = is ∙ rw s refl in rw now are)
    (cases_Bool (is_accepting before rank))

pub step_passed : (rank : ℕ) (found : Took) (answer : Stepped) (before after : Kept) (list : List Stands) → rank < length before.recording → Enters rank found before answer after → ArePassed before.reading before.groups before.recording list → ArePassed after.reading after.groups after.recording list
step_passed rank (Took.Record call) answer before after list within so are = record_passed_on rank call before after answer list within so are
step_passed rank Took.Empty answer before after list within so are = rw so.1 are
step_passed rank Took.Sealed answer before after list within so are = rw so.1 are
step_passed rank (Took.Torn fault) answer before after list within so are = torn_passed_on rank (OfSource fault) before after list so.1 are

-- the rank of a feed has a list of calls
pub is_one_of : (takers : List Taker) (kept : Kept) (rank : ℕ) → Collects takers kept → rank < length (map taker_ring takers) → rank < length kept.recording
is_one_of takers kept rank collects within = omega (arith, within, collects.one_a_rank, length-map takers taker_ring)
