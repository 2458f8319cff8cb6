-- What is known, as it is gathered rank by rank, and the calls that are named of ranks at their opens.
use Rattle.std.proofs.Common.{◌≡◌, ◌∙◌, ℕ, ◌+◌, Option, Some, None, List, [], ◌∷◌, ◌++◌, map, sym, ap, arith}
use Rattle.std.specs.Prelude.{option_map}
use Rattle.std.specs.List.{flat_map, range_with_len}
use Rattle.std.proofs.lemmas.Grind.{flat_map-append}
use Rattle.std.proofs.lemmas.List.{append-nil, map-append, map-id}
use Rattle.std.proofs.lemmas.List.FromFn.{map-range_with_len_more}
use Rattle.std.proofs.lemmas.Option.{none-some, same_Some}
use Rattle.waitgraph.specs.Pending.{PendingView, view_of}
use Rattle.waitgraph.specs.declared.pending.PendingCall.{PendingCall}
use Rattle.judging.specs.NamedCalls.{CallAt}
use Rattle.judging.specs.declared.reported.Spot.{Spot}
use Rattle.judging.specs.inner.Spots.{with_calls}
use Rattle.judging.proofs.SpotLemmas.{both_added}

-- ---- One rank more ----

range_more : (n : ℕ) → range_with_len 0 (n + 1) ≡ range_with_len 0 n ++ n ∷ []
range_more n =
    sym (map-id (range_with_len 0 (n + 1))) ∙ map-range_with_len_more (λ k. k) 0 n n (omega arith)
    ∙ ap (λ (ns : List ℕ). ns ++ n ∷ []) (map-id (range_with_len 0 n))

pub flat_map_more : {X : Type 0} (f : ℕ → List X) (n : ℕ) → flat_map f (range_with_len 0 (n + 1)) ≡ flat_map f (range_with_len 0 n) ++ f n
flat_map_more {X = X} f n =
    ap (λ (ns : List ℕ). flat_map f ns) (range_more n) ∙ flat_map-append f (range_with_len 0 n) (n ∷ [])
    ∙ ap (λ (xs : List X). flat_map f (range_with_len 0 n) ++ xs) (append-nil (f n))

pub views_more : (f : ℕ → PendingView) (rank : ℕ) (old new : List PendingCall) (call : PendingCall) → new ≡ old ++ call ∷ [] → view_of call ≡ f rank → map view_of old ≡ map f (range_with_len 0 rank) →
    map view_of new ≡ map f (range_with_len 0 (rank + 1))
views_more f rank old new call is view so_far =
    ap (λ (calls : List PendingCall). map view_of calls) is ∙ map-append view_of old (call ∷ [])
    ∙ ap (λ (one : PendingView). map view_of old ++ one ∷ []) view
    ∙ ap (λ (views : List PendingView). views ++ f rank ∷ []) so_far
    ∙ sym (map-range_with_len_more f 0 rank rank (omega arith))

pub all_more : {X : Type 0} (f : ℕ → List X) (rank : ℕ) (old new xs : List X) → new ≡ old ++ xs → xs ≡ f rank → old ≡ flat_map f (range_with_len 0 rank) → new ≡ flat_map f (range_with_len 0 (rank + 1))
all_more {X = X} f rank old new xs is own so_far =
    is ∙ ap (λ (ys : List X). old ++ ys) own ∙ ap (λ (ys : List X). ys ++ f rank) so_far ∙ sym (flat_map_more f rank)

-- what is found says what there is
pub one_found : {R S : Type 0} (said : R → S) (found : Option R) (one : R) (own : S) → found ≡ Some one → option_map said found ≡ Some own → said one ≡ own
one_found said found one own is all = same_Some (said one) own (ap (option_map said) (sym is) ∙ all)

pub none_found : {R S : Type 0} (said : R → S) (found : Option R) (own : S) → found ≡ None → option_map said found ≡ Some own → ⊥
none_found said found own is all = none-some own (ap (option_map said) (sym is) ∙ all)

-- ---- Calls that are named of a rank at its open ----

pub opens_more : (calls_of : ℕ → List CallAt) (rank : ℕ) (old mid new : List Spot) → mid ≡ with_calls old (flat_map calls_of (range_with_len 0 rank)) → new ≡ with_calls mid (calls_of rank) →
    new ≡ with_calls old (flat_map calls_of (range_with_len 0 (rank + 1)))
opens_more calls_of rank old mid new so_far more =
    both_added (flat_map calls_of (range_with_len 0 rank)) (calls_of rank) old mid new so_far more
    ∙ ap (λ (calls : List CallAt). with_calls old calls) (sym (flat_map_more calls_of rank))
