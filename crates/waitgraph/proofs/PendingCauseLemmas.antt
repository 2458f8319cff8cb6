-- The causes where pending calls and sinks are known are those that the search finds.
use Rattle.moves.specs.declared.reading.Reading.{Reading}
use Rattle.std.proofs.Common.{◌≡◌, ◌↔◌, ℕ, ◌<◌, ◌≤◌, true, false, Option, Some, None, List, ◌∷◌, ◌++◌, length, map, refl, sym, ap, ◌∙◌, ⊎_elim, arith}
use Rattle.std.specs.Prelude.{option_map, option_and_then}
use Rattle.std.specs.List.{filter_map, range_with_len}
use Rattle.std.proofs.lemmas.List.FromFn.{length-map-range_with_len}
use Rattle.std.proofs.lemmas.Bool.{cases_Bool, cases_lt}
use Rattle.mpigroup.specs.Groups.{Groups}
use Rattle.callstore.specs.Recordings.{Lists}
use Rattle.waitgraph.specs.Held.{Set, is_missing}
use Rattle.waitgraph.specs.Causes.{CauseView, CycleOf, MissingOf, IsCycle}
use Rattle.waitgraph.specs.Pending.{Known}
use Rattle.waitgraph.specs.PendingHeld.{AreHeldBy}
use Rattle.waitgraph.specs.PendingNeeds.{held_up_by}
use Rattle.waitgraph.specs.PendingCauses.{next_to, missing_to, starved_to, end_to, next_by, missing_by, starved_by, end_by, AreCausesBy}
use Rattle.waitgraph.specs.declared.awaited.Awaited.{Awaited}
use Rattle.waitgraph.specs.declared.awaited.Awaited.TheVariants as awaited
use Rattle.waitgraph.specs.declared.next_hop.NextHop.{NextHop}
use Rattle.waitgraph.specs.inner.Causes.{Walks, hop_in, to_of, lacked_by, next_in, cycle_at, missing_at, starved_at, causes_in, end_at}
use Rattle.waitgraph.specs.inner.Causes as walk
use Rattle.waitgraph.specs.inner.Scenes.{hop_from_awaited}
use Rattle.waitgraph.proofs.CauseLemmas.{given_same, cycle_same, rest_by, rest_to, rest_from, cycle_is}
use Rattle.waitgraph.proofs.PendingLemmas.{held_within}
use Rattle.waitgraph.proofs.RangeLemmas.{in_table, past_table}

-- how the walk goes on by what is awaited
next_from : (recording : Lists) (o : Option Awaited) → option_and_then to_of (option_map (hop_from_awaited recording) o) ≡ option_and_then (next_to recording) o
next_from recording None = refl
next_from recording (Some (awaited.Call need)) =
    ⊎_elim
    (λ (is : is_missing recording need ≡ true). rw is refl)
    (λ (no : is_missing recording need ≡ false). rw no refl)
    (cases_Bool (is_missing recording need))
next_from recording (Some (awaited.Rank rank)) = refl
next_from recording (Some awaited.Nobody) = refl

missing_from : (recording : Lists) (rank : ℕ) (o : Option Awaited) → option_map (MissingOf rank) (option_and_then lacked_by (option_map (hop_from_awaited recording) o)) ≡ option_and_then (missing_to recording rank) o
missing_from recording rank None = refl
missing_from recording rank (Some (awaited.Call need)) =
    ⊎_elim
    (λ (is : is_missing recording need ≡ true). rw is refl)
    (λ (no : is_missing recording need ≡ false). rw no refl)
    (cases_Bool (is_missing recording need))
missing_from recording rank (Some (awaited.Rank other)) = refl
missing_from recording rank (Some awaited.Nobody) = refl

starved_from : (recording : Lists) (rank : ℕ) (o : Option Awaited) → option_and_then (walk.starved_to rank) (option_map (hop_from_awaited recording) o) ≡ option_and_then (starved_to rank) o
starved_from recording rank None = refl
starved_from recording rank (Some (awaited.Call need)) =
    ⊎_elim
    (λ (is : is_missing recording need ≡ true). rw is refl)
    (λ (no : is_missing recording need ≡ false). rw no refl)
    (cases_Bool (is_missing recording need))
starved_from recording rank (Some (awaited.Rank other)) = refl
starved_from recording rank (Some awaited.Nobody) = refl

end_from : (recording : Lists) (rank : ℕ) (o : Option Awaited) → option_and_then (walk.end_to rank) (option_map (hop_from_awaited recording) o) ≡ option_and_then (end_to recording rank) o
end_from recording rank None = refl
end_from recording rank (Some (awaited.Call need)) =
    ⊎_elim
    (λ (is : is_missing recording need ≡ true). rw is refl)
    (λ (no : is_missing recording need ≡ false). rw no refl)
    (cases_Bool (is_missing recording need))
end_from recording rank (Some (awaited.Rank other)) = refl
end_from recording rank (Some awaited.Nobody) = refl

-- the walks by these held ranks
abbrev pub walks_with : Reading → Groups → Lists → Known → Set → Walks
walks_with reading groups recording known held =
    map (λ rank. option_map (hop_from_awaited recording) (held_up_by reading groups recording known held rank)) (range_with_len 0 (length recording))

pub not_held_up : (reading : Reading) (groups : Groups) (recording : Lists) (known : Known) (held : Set) (rank : ℕ) → held rank ≡ false → held_up_by reading groups recording known held rank ≡ None
unfolding held_up_by
not_held_up reading groups recording known held rank outside = rw outside refl

pub hop_is : (reading : Reading) (groups : Groups) (recording : Lists) (known : Known) (held : Set) → AreHeldBy reading groups recording known held → (rank : ℕ) → hop_in (walks_with reading groups recording known held) rank ≡ option_map (hop_from_awaited recording) (held_up_by reading groups recording known held rank)
hop_is reading groups recording known held are rank =
    ⊎_elim
    (λ (within : rank < length recording).
    ap (λ (step : Option (Option NextHop)). option_and_then (λ there. there) step)
    (in_table (λ rank. option_map (hop_from_awaited recording) (held_up_by reading groups recording known held rank)) (length recording) rank None within))
    (λ (past : length recording ≤ rank).
    ap (λ (step : Option (Option NextHop)). option_and_then (λ there. there) step)
    (past_table (λ rank. option_map (hop_from_awaited recording) (held_up_by reading groups recording known held rank)) (length recording) rank past)
    ∙ sym (ap (option_map (hop_from_awaited recording)) (not_held_up reading groups recording known held rank (outside past))))
    (cases_lt rank (length recording))
  where
    outside : length recording ≤ rank → held rank ≡ false
    outside past =
        ⊎_elim
        (λ (is : held rank ≡ true). absurd (let within = held_within reading groups recording known rank ((are rank).0 is) in omega arith))
        (λ (no : held rank ≡ false). no)
        (cases_Bool (held rank))

pub next_is : (reading : Reading) (groups : Groups) (recording : Lists) (known : Known) (held : Set) → AreHeldBy reading groups recording known held → (rank : ℕ) → next_in (walks_with reading groups recording known held) rank ≡ next_by reading groups recording known held rank
next_is reading groups recording known held are rank =
    ap (option_and_then to_of) (hop_is reading groups recording known held are rank) ∙ next_from recording (held_up_by reading groups recording known held rank)

pub missing_is : (reading : Reading) (groups : Groups) (recording : Lists) (known : Known) (held : Set) → AreHeldBy reading groups recording known held → (rank : ℕ) → missing_at (walks_with reading groups recording known held) rank ≡ missing_by reading groups recording known held rank
missing_is reading groups recording known held are rank =
    ap (λ (o : Option NextHop). option_map (MissingOf rank) (option_and_then lacked_by o)) (hop_is reading groups recording known held are rank)
    ∙ missing_from recording rank (held_up_by reading groups recording known held rank)

pub starved_is : (reading : Reading) (groups : Groups) (recording : Lists) (known : Known) (held : Set) → AreHeldBy reading groups recording known held → (rank : ℕ) → starved_at (walks_with reading groups recording known held) rank ≡ starved_by reading groups recording known held rank
starved_is reading groups recording known held are rank =
    ap (option_and_then (walk.starved_to rank)) (hop_is reading groups recording known held are rank)
    ∙ starved_from recording rank (held_up_by reading groups recording known held rank)

pub end_is : (reading : Reading) (groups : Groups) (recording : Lists) (known : Known) (held : Set) → AreHeldBy reading groups recording known held → (rank : ℕ) → end_at (walks_with reading groups recording known held) rank ≡ end_by reading groups recording known held rank
end_is reading groups recording known held are rank =
    ap (option_and_then (walk.end_to rank)) (hop_is reading groups recording known held are rank)
    ∙ end_from recording rank (held_up_by reading groups recording known held rank)

pub walk_count : (reading : Reading) (groups : Groups) (recording : Lists) (known : Known) (held : Set) → length (walks_with reading groups recording known held) ≡ length recording
walk_count reading groups recording known held =
    length-map-range_with_len (λ rank. option_map (hop_from_awaited recording) (held_up_by reading groups recording known held rank)) 0 (length recording)

-- the cycles that the search finds are those of the recording
pub cycles_are : (reading : Reading) (groups : Groups) (recording : Lists) (known : Known) (held : Set) → AreHeldBy reading groups recording known held → (low : ℕ) (rest : List ℕ) → (rest_by (walks_with reading groups recording known held) low ≡ Some rest) ↔ IsCycle (next_by reading groups recording known held) low rest
cycles_are reading groups recording known held are low rest =
    let next = next_is reading groups recording known held are in (
      λ is. cycle_same (next_in (walks_with reading groups recording known held)) (next_by reading groups recording known held) next low rest (rest_to (walks_with reading groups recording known held) low rest is),
      λ cycle. rest_from (walks_with reading groups recording known held) low rest
          (cycle_same (next_by reading groups recording known held) (next_in (walks_with reading groups recording known held)) (λ rank. sym (next rank)) low rest cycle),
    )

-- and all of the causes
pub all_causes : (reading : Reading) (groups : Groups) (recording : Lists) (known : Known) (held : Set) → AreHeldBy reading groups recording known held → causes_in (walks_with reading groups recording known held) ≡ filter_map (λ low. option_map (λ rest. CycleOf (low ∷ rest)) (rest_by (walks_with reading groups recording known held) low)) (range_with_len 0 (length recording)) ++ filter_map (missing_by reading groups recording known held) (range_with_len 0 (length recording)) ++ filter_map (starved_by reading groups recording known held) (range_with_len 0 (length recording))
all_causes reading groups recording known held are =
    ap (λ (ranks : ℕ). filter_map (cycle_at (walks_with reading groups recording known held)) (range_with_len 0 ranks) ++ filter_map (missing_at (walks_with reading groups recording known held)) (range_with_len 0 ranks) ++ filter_map (starved_at (walks_with reading groups recording known held)) (range_with_len 0 ranks)) (walk_count reading groups recording known held)
    ∙ three (given_same (cycle_at (walks_with reading groups recording known held)) (λ low. option_map (λ rest. CycleOf (low ∷ rest)) (rest_by (walks_with reading groups recording known held) low)) (cycle_is (walks_with reading groups recording known held)) (range_with_len 0 (length recording)))
    (given_same (missing_at (walks_with reading groups recording known held)) (missing_by reading groups recording known held) (missing_is reading groups recording known held are) (range_with_len 0 (length recording)))
    (given_same (starved_at (walks_with reading groups recording known held)) (starved_by reading groups recording known held) (starved_is reading groups recording known held are) (range_with_len 0 (length recording)))
  where
    three : {a b c d e f : List CauseView} → a ≡ d → b ≡ e → c ≡ f → (a ++ b ++ c) ≡ (d ++ e ++ f)
    three one two last = cc (one, two, last)

-- these walks have the causes
pub causes_are_by : (reading : Reading) (groups : Groups) (recording : Lists) (known : Known) (held : Set) → AreHeldBy reading groups recording known held → AreCausesBy reading groups recording known (causes_in (walks_with reading groups recording known held))
causes_are_by reading groups recording known held are = record {
  held = held;
  are_held = are;
  rest_of = rest_by (walks_with reading groups recording known held);
  are_cycles = cycles_are reading groups recording known held are;
  are_all = all_causes reading groups recording known held are;
}
