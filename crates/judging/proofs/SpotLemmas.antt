-- Sets of calls, as calls are added.
use Rattle.std.proofs.Common.{◌≡◌, ◌∙◌, ◌<◌, ◌≤◌, ℕ, zero, suc, ◌+◌, Bool, true, false, ◌&&◌, ◌||◌, ◌==◌, nat_lt, Option, Some, None, List, [], ◌∷◌, ◌++◌, length, map, take, take_all, get_or, slice_get, refl, sym, ap, subst, arith}
use Rattle.std.specs.Prelude.{cond, option_and_then, slice_index, Result, Ok, Err, IfOk}
use Rattle.std.specs.List.{flat_map, list_any, list_all, AllByRecursion}
use Rattle.std.specs.List.Sorted.{IsStrictlySortedBy}
use Rattle.std.specs.BTreeSet.{insert_key}
use Rattle.std.specs.Option.{option_map_or}
use Rattle.std.specs.Ordering.{nat_cmp, ordering_then, match_ordering}
use Rattle.std.specs.declared.cmp.Ordering.{Ordering}
use Rattle.std.specs.declared.cmp.Ordering.TheVariants.{Less, Equal, Greater}
use Rattle.std.proofs.lemmas.Grind.{fold-append, flat_map-append}
use Rattle.std.proofs.lemmas.List.{take_more, append-nil}
use Rattle.std.proofs.lemmas.Map.Lookups.{exact_unsigned}
use Rattle.std.proofs.lemmas.Option.{slice_get-get_or}
use Rattle.mpicall.specs.declared.call.Call.{Call}
use Rattle.callstore.specs.Recordings.{Lists, calls_of}
use Rattle.callstore.specs.Requests.{completes, started_before}
use Rattle.pairing.specs.Pairs.{completed_of}
use Rattle.moves.specs.Stands.{stands_of}
use Rattle.moves.specs.declared.need.Need.{Need}
use Rattle.moves.specs.declared.reading.Reading.{Reading}
use Rattle.mpigroup.specs.Groups.{Groups}
use Rattle.waitgraph.specs.Stuck.{unmet_of}
use Rattle.report.specs.declared.judged.LineAt.{LineAt}
use Rattle.judging.specs.NamedCalls.{CallAt, HaveLines, HaveNumbers, are_in_order, call_at, calls_needed, calls_of_stuck, calls_there, comes_before, is_call_at, is_line_at, starts_of}
use Rattle.judging.specs.declared.reported.Spot.{Spot}
use Rattle.judging.specs.inner.Spots.{spot_cmp, spot_of, with_call, with_calls}
use Rattle.judging.specs.inner.Tables.{line_of_spot}

-- ---- Loops that add calls ----

-- one more of what calls come from
pub adds_more : {X : Type 0} (calls_of : X → List CallAt) (xs : List X) (index : ℕ) (other : X) (old mid new : List Spot) → index < length xs →
    mid ≡ with_calls old (flat_map calls_of (take index xs)) → new ≡ with_calls mid (calls_of (get_or xs index other)) →
    new ≡ with_calls old (flat_map calls_of (take (index + 1) xs))
adds_more {X = X} calls_of xs index other old mid new within so_far more =
    more
    ∙ ap (λ (spots : List Spot). with_calls spots (calls_of (get_or xs index other))) so_far
    ∙ sym (fold-append with_call old (flat_map calls_of (take index xs)) (calls_of (get_or xs index other)))
    ∙ ap (λ (calls : List CallAt). with_calls old calls)
    (ap (λ (calls : List CallAt). flat_map calls_of (take index xs) ++ calls) (sym (append-nil (calls_of (get_or xs index other))))
    ∙ sym (flat_map-append calls_of (take index xs) (get_or xs index other ∷ []))
    ∙ ap (λ (ys : List X). flat_map calls_of ys) (sym (take_more xs index other within)))

-- ---- Which calls a set has ----

same_spot : (spot other : Spot) → spot_cmp spot other ≡ Equal → spot ≡ other
same_spot spot other is = by (nat_cmp spot.rank other.rank) refl is
  where
    by : (ranks : Ordering) → nat_cmp spot.rank other.rank ≡ ranks → ordering_then ranks (nat_cmp spot.place other.place) ≡ Equal → spot ≡ other
    by Less ranks h = cc
    by Equal ranks h =
        ap (λ (rank : ℕ). record { rank = rank; place = spot.place }) (exact_unsigned spot.rank other.rank ranks)
        ∙ ap (λ (place : ℕ). record { rank = other.rank; place = place }) (exact_unsigned spot.place other.place h)
    by Greater ranks h = cc

or_twice : (first rest : Bool) → first || rest ≡ first || (first || rest)
or_twice true rest = refl
or_twice false rest = refl

or_later : (first next rest : Bool) → next || (first || rest) ≡ first || (next || rest)
or_later true true rest = refl
or_later true false rest = refl
or_later false next rest = refl

or_past : (first next rest : Bool) → (first || next) || rest ≡ next || (first || rest)
or_past true true rest = refl
or_past true false rest = refl
or_past false next rest = refl

module _ (test : Spot → Bool) where
  with_spot : (spots : List Spot) (spot : Spot) → list_any test (insert_key spot_cmp spots spot) ≡ test spot || list_any test spots
  with_spot [] spot = refl
  with_spot (first ∷ spots) spot = by (with_spot spots spot) (spot_cmp spot first) refl
    where
      by : list_any test (insert_key spot_cmp spots spot) ≡ test spot || list_any test spots → (order : Ordering) → spot_cmp spot first ≡ order →
          list_any test (match_ordering order (spot ∷ first ∷ spots) (first ∷ spots) (first ∷ insert_key spot_cmp spots spot)) ≡ test spot || list_any test (first ∷ spots)
      by so_far Less is = refl
      by so_far Equal is =
          or_twice (test first) (list_any test spots) ∙ ap (λ (it : Spot). test it || (test first || list_any test spots)) (sym (same_spot spot first is))
      by so_far Greater is =
          ap (λ (is_any : Bool). test first || is_any) so_far ∙ or_later (test spot) (test first) (list_any test spots)

  with_all : (spots : List Spot) (calls : List CallAt) → list_any test (with_calls spots calls) ≡ list_any (λ call. test (spot_of call)) calls || list_any test spots
  with_all spots [] = refl
  with_all spots (call ∷ calls) =
      with_all (with_call spots call) calls
      ∙ ap (λ (is_any : Bool). list_any (λ it. test (spot_of it)) calls || is_any) (with_spot spots (spot_of call))
      ∙ sym (or_past (test (spot_of call)) (list_any (λ it. test (spot_of it)) calls) (list_any test spots))

or_none : (first : Bool) → first || false ≡ first
or_none true = refl
or_none false = refl

lines_have : (rows : List (List ℕ)) (rank place : ℕ) (spots : List Spot) → list_any (is_line_at rank place) (map (line_of_spot rows) spots) ≡ list_any (λ (spot : Spot). spot.rank == rank && spot.place == place) spots
lines_have rows rank place [] = refl
lines_have rows rank place (spot ∷ spots) = ap (λ (is_any : Bool). (spot.rank == rank && spot.place == place) || is_any) (lines_have rows rank place spots)

-- the lines of a set of calls are of these and no others
lines_name : (rows : List (List ℕ)) (calls : List CallAt) (spots : List Spot) (lines : List LineAt) (rank place : ℕ) → spots ≡ with_calls [] calls → lines ≡ map (line_of_spot rows) spots →
    list_any (is_line_at rank place) lines ≡ list_any (is_call_at rank place) calls
lines_name rows calls spots lines rank place have are =
    ap (λ (ls : List LineAt). list_any (is_line_at rank place) ls) (are ∙ ap (λ (ss : List Spot). map (line_of_spot rows) ss) have)
    ∙ lines_have rows rank place (with_calls [] calls)
    ∙ with_all (λ (spot : Spot). spot.rank == rank && spot.place == place) [] calls
    ∙ or_none (list_any (is_call_at rank place) calls)

-- ---- Their order ----

either : (low tie lower same : Bool) → ordering_then (cond low Less (cond tie Equal Greater)) (cond lower Less (cond same Equal Greater)) ≡ Less → low || tie && lower ≡ true
either true tie lower same is = refl
either false true true same is = refl
either false true false true is = cc
either false true false false is = cc
either false false lower same is = cc

less_before : (rows : List (List ℕ)) (spot other : Spot) → spot_cmp spot other ≡ Less → comes_before (line_of_spot rows spot) (line_of_spot rows other) ≡ true
less_before rows spot other is =
    either (nat_lt spot.rank other.rank) (spot.rank == other.rank) (nat_lt spot.place other.place) (spot.place == other.place) is

all_before : (rows : List (List ℕ)) (spot : Spot) (spots : List Spot) → AllByRecursion (λ other. spot_cmp spot other ≡ Less) spots → list_all (comes_before (line_of_spot rows spot)) (map (line_of_spot rows) spots) ≡ true
all_before rows spot [] all = refl
all_before rows spot (other ∷ spots) all = rw (less_before rows spot other all.0) (all_before rows spot spots all.1)

in_order : (rows : List (List ℕ)) (spots : List Spot) → IsStrictlySortedBy spot_cmp spots → are_in_order (map (line_of_spot rows) spots) ≡ true
unfolding IsStrictlySortedBy
in_order rows [] sorted = refl
in_order rows (spot ∷ spots) sorted = rw (all_before rows spot spots sorted.0) (in_order rows spots sorted.1)

-- ---- The lines of a set ----

pub have_lines : (rows : List (List ℕ)) (calls : List CallAt) (spots : List Spot) (lines : List LineAt) → spots ≡ with_calls [] calls → lines ≡ map (line_of_spot rows) spots →
    IsStrictlySortedBy spot_cmp spots → HaveLines calls lines
have_lines rows calls spots lines have are sorted = record {
  are_these = λ rank place. lines_name rows calls spots lines rank place have are;
  in_order = ap are_in_order are ∙ in_order rows spots sorted;
}

pub have_numbers : (rows : List (List ℕ)) (spots : List Spot) (lines : List LineAt) → lines ≡ map (line_of_spot rows) spots → HaveNumbers rows lines
have_numbers rows spots lines are = subst (λ (ls : List LineAt). HaveNumbers rows ls) (sym are) (by spots)
  where
    by : (ss : List Spot) → HaveNumbers rows (map (line_of_spot rows) ss)
    by [] place other within = absurd (omega (arith, within))
    by (spot ∷ ss) zero other within = refl
    by (spot ∷ ss) (suc place) other within = by ss place other (omega (arith, within))

-- so it is of those that are answered
pub named_lines : {T E : Type 0} (items_of : T → List LineAt) (answer : Result T E) (rows : List (List ℕ)) (calls : List CallAt) (spots : List Spot) → spots ≡ with_calls [] calls →
    IfOk answer (λ it. items_of it ≡ map (line_of_spot rows) spots) → IfOk answer (λ it. IsStrictlySortedBy spot_cmp spots) → IfOk answer (λ it. HaveLines calls (items_of it))
named_lines items_of (Ok it) rows calls spots have are sorted = have_lines rows calls spots (items_of it) have are sorted
named_lines items_of (Err fault) rows calls spots have are sorted = tt

pub numbered_lines : {T E : Type 0} (items_of : T → List LineAt) (answer : Result T E) (rows : List (List ℕ)) (spots : List Spot) →
    IfOk answer (λ it. items_of it ≡ map (line_of_spot rows) spots) → IfOk answer (λ it. HaveNumbers rows (items_of it))
numbered_lines items_of (Ok it) rows spots are = have_numbers rows spots (items_of it) are
numbered_lines items_of (Err fault) rows spots are = tt

-- calls and then others
pub both_added : (calls others : List CallAt) (old mid new : List Spot) → mid ≡ with_calls old calls → new ≡ with_calls mid others → new ≡ with_calls old (calls ++ others)
both_added calls others old mid new first next =
    next ∙ ap (λ (spots : List Spot). with_calls spots others) first ∙ sym (fold-append with_call old calls others)

-- those of a stuck rank
pub stuck_added : (reading : Reading) (groups : Groups) (recording : Lists) (rank stand : ℕ) (needs : List Need) (old mid more new : List Spot) → stand ≡ slice_index (stands_of reading groups recording) rank →
    needs ≡ unmet_of reading groups recording rank → mid ≡ with_call old (call_at rank stand) → more ≡ with_calls mid (flat_map calls_needed needs) →
    new ≡ with_calls more (starts_of recording rank stand) → new ≡ with_calls old (calls_of_stuck reading groups recording rank)
stuck_added reading groups recording rank stand needs old mid more new at are first next last =
    both_added (flat_map calls_needed needs) (starts_of recording rank stand) mid more new next last
    ∙ ap (λ (spots : List Spot). with_calls spots (flat_map calls_needed needs ++ starts_of recording rank stand)) first
    ∙ ap (λ (ns : List Need). with_calls (with_call old (call_at rank stand)) (flat_map calls_needed ns ++ starts_of recording rank stand)) are
    ∙ ap (λ (place : ℕ). with_calls (with_call old (call_at rank place)) (flat_map calls_needed (unmet_of reading groups recording rank) ++ starts_of recording rank place)) at

-- ---- The starts of requests ----

-- the requests that the call at a place completes, and the start of one
abbrev pub requests_at : Lists → ℕ → ℕ → List ℕ
requests_at recording rank place = option_map_or completes (slice_get (calls_of recording rank) place) []

abbrev pub start_of : Lists → ℕ → ℕ → ℕ → List CallAt
start_of recording rank place req = calls_there rank (started_before recording rank place req)

completed_by : (started : ℕ → Option ℕ) (found : Option Call) (index : ℕ) → index < length (option_map_or completes found []) →
    option_and_then started (option_and_then (λ call. slice_get (completes call) index) found) ≡ started (get_or (option_map_or completes found []) index 0)
completed_by started None index within = absurd (omega (arith, within))
completed_by started (Some call) index within = ap (λ (req : Option ℕ). option_and_then started req) (slice_get-get_or (completes call) index 0 within)

pub starts_more : (recording : Lists) (rank place index : ℕ) (start : Option ℕ) (old mid new : List Spot) → index < length (requests_at recording rank place) →
    mid ≡ with_calls old (flat_map (start_of recording rank place) (take index (requests_at recording rank place))) →
    start ≡ completed_of recording rank place index → new ≡ with_calls mid (calls_there rank start) →
    new ≡ with_calls old (flat_map (start_of recording rank place) (take (index + 1) (requests_at recording rank place)))
starts_more recording rank place index start old mid new within so_far is more =
    adds_more (start_of recording rank place) (requests_at recording rank place) index 0 old mid new within so_far
    (more ∙ ap (λ (found : Option ℕ). with_calls mid (calls_there rank found)) (is ∙ completed_by (started_before recording rank place) (slice_get (calls_of recording rank) place) index within))

-- and all of them
pub starts_all : (recording : Lists) (rank place index : ℕ) (old new : List Spot) → length (requests_at recording rank place) ≤ index →
    new ≡ with_calls old (flat_map (start_of recording rank place) (take index (requests_at recording rank place))) → new ≡ with_calls old (starts_of recording rank place)
starts_all recording rank place index old new all are =
    are ∙ ap (λ (reqs : List ℕ). with_calls old (flat_map (start_of recording rank place) reqs)) (take_all index (requests_at recording rank place) all)

-- as many as the call there completes
pub count_requests : (recording : Lists) (rank place : ℕ) (call own : Call) (reqs : List ℕ) → slice_get (calls_of recording rank) place ≡ Some call → own ≡ call → reqs ≡ completes own →
    length (requests_at recording rank place) ≡ length reqs
count_requests recording rank place call own reqs is same are =
    ap (λ (found : Option Call). length (option_map_or completes found [])) is ∙ ap (λ (it : Call). length (completes it)) (sym same) ∙ ap (λ (rs : List ℕ). length rs) (sym are)
