-- The numbered places of a survey stand for the communicators of the head.
use Rattle.std.proofs.Common.{◌≡◌, refl, sym, ap, subst, ◌∙◌, ℕ, arith, List, [], ◌∷◌, length, filter, Option, Some, None}
use Rattle.std.specs.Prelude.{slice_get}
use Rattle.std.specs.List.{AllZip, filter_map, flat_map}
use Rattle.mpicall.specs.declared.limits.TheConstants.{GREATEST_COMM}
use Rattle.closing.specs.Keys.{Key, World, each_once}
use Rattle.closing.specs.Entries.{Run, entries_at, ranks_of}
use Rattle.closing.specs.Made.{inferred_key, keys_at}
use Rattle.closing.specs.Numbers.{is_named, numbered_keys}
use Rattle.closing.specs.inner.Table.{HasKey}
use Rattle.closing.specs.inner.Surveyed.{IsInferred, IsSurveyed, as_list, keys_got}
use Rattle.closing.specs.inner.Given.{as_places, is_named_at, numbered_places, or_none, places_from, places_once}
use Rattle.closing.specs.declared.survey.Survey.{Survey}
use Rattle.closing.proofs.KeyedLemmas.{once_same, ranks_same, zip_filter, zip_take}
use Rattle.closing.proofs.WorldLemmas.{all_worldless, filter_worldless, once_world}

as_same : (place : Option ℕ) → as_list place ≡ as_places place
as_same None = refl
as_same (Some place) = refl

-- the places that a survey keeps of all ranks
abbrev pub places_in : Survey → List ℕ
places_in it = places_from it.got.items it.inferred.items 0 0 it.ends.items

inferred_same : (run : Run) (it : Survey) (rank : ℕ) → IsInferred run it rank → AllZip (HasKey it.keys) (as_places (or_none (slice_get it.inferred.items rank))) (filter_map (inferred_key run) (entries_at run rank))
inferred_same run it rank h =
    let P : List ℕ → Type 0 = λ xs. AllZip (HasKey it.keys) xs (filter_map (inferred_key run) (entries_at run rank)) in
    subst P (as_same h.place ∙ sym (ap (λ o. as_places (or_none o)) h.stands)) h.is

-- they stand for the keys of all ranks
pub places_same : (run : Run) (it : Survey) → IsSurveyed run it → AllZip (HasKey it.keys) (places_in it) (flat_map (keys_at run) (ranks_of run))
places_same run it h =
    let P : List ℕ → Type 0 = λ ends. AllZip (HasKey it.keys) (places_from it.got.items it.inferred.items 0 0 ends) (flat_map (keys_at run) (ranks_of run)) in
    subst P (sym h.ends)
    (ranks_same (HasKey it.keys) it.got.items it.inferred.items (keys_got run) (λ rank. filter_map (inferred_key run) (entries_at run rank)) (length run) 0 0 (omega arith) h.got
    (λ rank low high. inferred_same run it rank (h.inferred rank (omega arith))))

-- those that have numbers stand for the communicators of the head
pub numbered_same : (run : Run) (it : Survey) → IsSurveyed run it → AllZip (HasKey it.keys) (numbered_places it.named.items (places_in it)) (numbered_keys run)
numbered_same run it h =
    let all = flat_map (keys_at run) (ranks_of run) in
    let named = filter (is_named run) all in
    let kept = zip_filter (HasKey it.keys) (is_named_at it.named.items) (is_named run) (places_in it) all h.named (places_same run it h) in
    let once = once_same it.keys (0 ∷ []) (filter (is_named_at it.named.items) (places_in it)) (World ∷ []) named h.table (h.table.world, tt) kept in
    let same : each_once (World ∷ []) named ≡ each_once [] named = once_world [] named (filter_worldless (is_named run) all (all_worldless run)) in
    let P : List Key → Type 0 = λ keys. AllZip (HasKey it.keys) (places_once (0 ∷ []) (filter (is_named_at it.named.items) (places_in it))) keys in
    (h.table.world, zip_take (HasKey it.keys) GREATEST_COMM (places_once (0 ∷ []) (filter (is_named_at it.named.items) (places_in it))) (each_once [] named) (subst P same once))
