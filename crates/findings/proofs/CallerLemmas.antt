-- Members without a call in a wave: nothing is found of them in it, nor in those after it.
use Rattle.std.proofs.Common.{◌≡◌, ℕ, ◌≤◌, Bool, false, Option, Some, None, List, [], ◌∷◌, ◌++◌, inl, inr, length, flat_map, refl, ap, ◌∙◌, arith}
use Rattle.std.specs.Prelude.{is_some, option_and_then}
use Rattle.std.specs.List.{filter}
use Rattle.std.proofs.lemmas.Bool.{cases_Bool}
use Rattle.std.proofs.lemmas.Option.{slice_get_past}
use Rattle.mpicall.specs.declared.call.Call.{Call}
use Rattle.mpigroup.specs.Groups.{Groups, world_rank_of}
use Rattle.mpigroup.proofs.ListLemmas.{none_there}
use Rattle.callstore.specs.Recordings.{Lists, calls_of}
use Rattle.callstore.specs.Places.{places}
use Rattle.callstore.specs.Waves.{does_join, place_in_wave, member_of}
use Rattle.findings.specs.Places.{call_in_wave, call_of_member}
use Rattle.findings.specs.Findings.{Comparison, compared, found_of_member, found_in_wave}
use Rattle.findings.specs.declared.finding.Finding.{Finding}

-- what is listed of those that are kept, where nothing is listed of the others
kept_lists : {A B : Type 0} (kept : A → Bool) (listed : A → List B) → ((x : A) → kept x ≡ false → listed x ≡ []) → (xs : List A) → flat_map listed (filter kept xs) ≡ flat_map listed xs
kept_lists kept listed none [] = refl
kept_lists kept listed none (x ∷ xs) =
    elim (cases_Bool (kept x)) [
      | inl stays ↦ rw stays (ap (λ rest. listed x ++ rest) (kept_lists kept listed none xs))
      | inr goes ↦ rw (goes, none x goes) (kept_lists kept listed none xs)
    ]

no_later_call : (recording : Lists) (comm wave later rank : ℕ) (place : Option ℕ) → place_in_wave recording comm wave rank ≡ place → is_some place ≡ false → wave ≤ later → call_in_wave recording comm later rank ≡ None
no_later_call recording comm wave later rank None is none behind =
    let calls = places (does_join comm) (calls_of recording rank) in
    let past : length calls ≤ later = omega (arith, none_there calls wave is, behind) in
    rw (slice_get_past calls later past) refl
no_later_call recording comm wave later rank (Some place) is none behind = absurd cc

no_call : (groups : Groups) (recording : Lists) (comm wave later g : ℕ) → is_some (member_of groups recording comm wave g) ≡ false → wave ≤ later → call_of_member groups recording comm later g ≡ None
no_call groups recording comm wave later g none behind = by_rank (world_rank_of groups comm g) none
  where
    by_rank : (rank : Option ℕ) → is_some (option_and_then (place_in_wave recording comm wave) rank) ≡ false → option_and_then (call_in_wave recording comm later) rank ≡ None
    by_rank None none = refl
    by_rank (Some rank) none = no_later_call recording comm wave later rank (place_in_wave recording comm wave rank) refl none behind

no_second : (compare : Call → Call → List Finding) (first : Option Call) → compared compare first None ≡ []
no_second compare None = refl
no_second compare (Some call) = refl

-- fewer members are asked from a wave on
pub fewer : (compare : Comparison) (groups : Groups) (recording : Lists) (comm wave : ℕ) (others callers : List ℕ) →
    callers ≡ filter (λ g. is_some (member_of groups recording comm wave g)) others →
    ((later : ℕ) → wave ≤ later → flat_map (found_of_member compare groups recording comm later) others ≡ found_in_wave compare groups recording comm later) →
    (later : ℕ) → wave ≤ later → flat_map (found_of_member compare groups recording comm later) callers ≡ found_in_wave compare groups recording comm later
fewer compare groups recording comm wave others callers kept all later behind =
    ap (λ (members : List ℕ). flat_map (found_of_member compare groups recording comm later) members) kept
    ∙ kept_lists (λ g. is_some (member_of groups recording comm wave g)) (found_of_member compare groups recording comm later)
    (λ g none.
    ap (λ (call : Option Call). compared (compare comm later g) (call_of_member groups recording comm later 0) call) (no_call groups recording comm wave later g none behind)
    ∙ no_second (compare comm later g) (call_of_member groups recording comm later 0))
    others
    ∙ all later behind
