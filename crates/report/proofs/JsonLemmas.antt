-- Lists of JSON values, told one value at a time, and that ranks and causes have no float.
use Rattle.moves.specs.declared.reading.Reading.{Reading}
use Rattle.std.proofs.Common.{◌≡◌, ℕ, ◌+◌, ◌<◌, Bool, true, false, ◌||◌, List, [], ◌∷◌, ◌++◌, length, map, take, get_or, refl, sym, ap, ⊎_elim}
use Rattle.std.proofs.lemmas.List.{map-append, take_more}
use Rattle.mpigroup.specs.Groups.{Groups}
use Rattle.callstore.specs.Recordings.{Lists}
use Rattle.moves.specs.declared.need.Need.{Need}
use Rattle.moves.specs.declared.need.Need.TheVariants.{At, Lacking}
use Rattle.serde_json.specs.Data.{Data}
use Rattle.serde_json.specs.View.{view, items_of}
use Rattle.serde_json.specs.Written.{has_float, items_have_float}
use Rattle.serde_json.specs.declared.value.Value.{Value}
use Rattle.waitgraph.specs.Causes.{CauseView, CycleOf, MissingOf, StarvedOf, view_of}
use Rattle.report.specs.JsonReport.{numeral, each, need_data, rank_data, cause_data}
use Rattle.report.specs.Judged.{call_data}
use Rattle.report.specs.declared.judged.CallOf.{CallOf}
use Rattle.std.proofs.lemmas.Bool.{cases_Bool}
use Rattle.waitgraph.specs.Pending.{PendingView}
use Rattle.waitgraph.specs.PendingNeeds.{awaited_in}
use Rattle.waitgraph.specs.Stuck.{unmet_of}
use Rattle.waitgraph.specs.declared.awaited.Awaited.{Awaited}
use Rattle.waitgraph.specs.declared.awaited.Awaited.TheVariants as awaited
use Rattle.report.specs.PendingReport.{awaited_data, at_open_data, data_of_rank, has_unmet, pending_of}
use Rattle.waitgraph.specs.declared.cause.Cause.{Cause}

-- one element more is told
pub one_told : {A : Type 0} (told : A → Data) (elements : List A) (i : ℕ) (element : A) (so_far later : List Value) (value : Value)
    → map view so_far ≡ map told (take i elements) → later ≡ so_far ++ value ∷ [] → view value ≡ told element → i < length elements → element ≡ get_or elements i element
    → map view later ≡ map told (take (i + 1) elements)
one_told told elements i element so_far later value h pushed is within there =
    let here : get_or elements i element ≡ element = sym there in
    rw (pushed, take_more elements i element within, map-append, map-append, h, is, here) refl

-- to tell each cause is to tell what contracts see of each
pub told_as_seen : (causes : List Cause) → map (λ cause. cause_data (view_of cause)) causes ≡ map cause_data (map view_of causes)
told_as_seen [] = refl
told_as_seen (cause ∷ causes) = ap (λ (told : List Data). cause_data (view_of cause) ∷ told) (told_as_seen causes)

either_false : (a b : Bool) → a ≡ false → b ≡ false → (a || b) ≡ false
either_false a b p q = rw (p, q) refl

-- what is told of each element has no float where none of them has one
no_float_told : {A : Type 0} (told : A → Data) → ((element : A) → has_float (told element) ≡ false) → (elements : List A) → has_float (each told elements) ≡ false
no_float_told told none [] = refl
no_float_told told none (element ∷ elements) =
    either_false (has_float (told element)) (items_have_float (items_of (map told elements))) (none element) (no_float_told told none elements)

no_float_need : (need : Need) → has_float (need_data need) ≡ false
no_float_need (At rank place) = refl
no_float_need (Lacking rank) = refl

pub no_float_rank : (reading : Reading) (groups : Groups) (recording : Lists) (rank : ℕ) → has_float (rank_data reading groups recording rank) ≡ false
no_float_rank reading groups recording rank = rw (no_float_told need_data no_float_need (unmet_of reading groups recording rank)) refl

-- nor has what a rank at its open waits for
no_float_awaited : (one : Awaited) → has_float (awaited_data one) ≡ false
no_float_awaited (awaited.Call need) = no_float_need need
no_float_awaited (awaited.Rank rank) = refl
no_float_awaited awaited.Nobody = refl

no_float_at_open : (reading : Reading) (groups : Groups) (recording : Lists) (call : PendingView) (at_open : List (List Awaited)) (rank : ℕ) → has_float (at_open_data reading groups recording call at_open rank) ≡ false
no_float_at_open reading groups recording call at_open rank = rw (no_float_told awaited_data no_float_awaited (awaited_in at_open rank)) refl

pub no_float_rank_of : (reading : Reading) (groups : Groups) (recording : Lists) (pending : List PendingView) (at_open : List (List Awaited)) (rank : ℕ) → has_float (data_of_rank reading groups recording pending at_open rank) ≡ false
no_float_rank_of reading groups recording pending at_open rank =
    ⊎_elim
    (λ (some : has_unmet reading groups recording rank ≡ true). rw some (no_float_rank reading groups recording rank))
    (λ (none : has_unmet reading groups recording rank ≡ false). rw none (no_float_at_open reading groups recording (pending_of pending rank) at_open rank))
    (cases_Bool (has_unmet reading groups recording rank))

-- so have the causes
no_float_cause : (cause : CauseView) → has_float (cause_data cause) ≡ false
no_float_cause (CycleOf ranks) = rw (no_float_told numeral (λ n. refl) ranks) refl
no_float_cause (MissingOf rank peer) = refl
no_float_cause (StarvedOf rank) = refl

pub no_float_causes : (causes : List CauseView) → has_float (each cause_data causes) ≡ false
no_float_causes causes = no_float_told cause_data no_float_cause causes

-- so have calls
pub no_float_calls : (calls : List CallOf) → has_float (each call_data calls) ≡ false
no_float_calls calls = no_float_told call_data (λ call. refl) calls
