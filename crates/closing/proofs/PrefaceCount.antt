-- A preface has fewer lines than a list may have, and a list has them one after the other.
use Rattle.std.proofs.Common.{◌≡◌, ◌∙◌, refl, sym, ap, subst, arith, ℕ, zero, suc, ◌+◌, ◌≤◌, ◌<◌, Bool, true, false, not, List, [], ◌∷◌, ◌++◌, length, take, filter, Some, None}
use Rattle.std.specs.Prelude.{if◌then◌else◌, ◌&&◌, IsTrue, slice_get, option_map}
use Rattle.std.specs.List.{list_all, list_any, flat_map}
use Rattle.std.proofs.lemmas.List.{length-map, map-append, take_all}
use Rattle.std.proofs.lemmas.Option.{slice_get-map}
use Rattle.std.proofs.lemmas.List.Filters.{length-filter_both}
use Rattle.mpicall.specs.Limits.{in_ranges}
use Rattle.mpicall.specs.declared.call.Call.{Call}
use Rattle.mpicall.specs.declared.limits.TheConstants.{GREATEST_COMM}
use Rattle.closing.specs.Keys.{Key, each_once}
use Rattle.closing.specs.Entries.{Run, ranks_of}
use Rattle.closing.specs.Made.{keys_at}
use Rattle.closing.specs.Recording.{progress_first}
use Rattle.closing.specs.Steps.{Does, Progress, Written, after_step, plain}
use Rattle.closing.specs.inner.Lists.{Handed, Stands}
use Rattle.closing.specs.declared.list.List.{List as ListCode}
use Rattle.closing.proofs.LineLemmas.{taken_count}
use Rattle.closing.proofs.PlacedLemmas.{take_slice}
use Rattle.closing.specs.Numbers.{is_named, is_of_call, numbered_keys, preface_keys, preface_lines, preface_of, preface_split, put_in_line, put_in_lines, share_member}

by_share : (ranks : ℕ) (key : Key) (line : List Key) (lines : List (List Key)) (b : Bool) → length (put_in_line ranks key lines) ≤ length lines + 1
    → length (if b then line ∷ put_in_line ranks key lines else (line ++ key ∷ []) ∷ lines) ≤ length (line ∷ lines) + 1
by_share ranks key line lines true h = omega (arith, h)
by_share ranks key line lines false h = omega arith

in_line : (ranks : ℕ) (key : Key) (lines : List (List Key)) → length (put_in_line ranks key lines) ≤ length lines + 1
in_line ranks key [] = omega arith
in_line ranks key (line ∷ lines) = by_share ranks key line lines (list_any (share_member ranks key) line) (in_line ranks key lines)

in_lines : (ranks : ℕ) (keys : List Key) (lines : List (List Key)) → length (put_in_lines ranks keys lines) ≤ length lines + length keys
in_lines ranks [] lines = omega arith
in_lines ranks (key ∷ keys) lines = omega (arith, in_lines ranks keys (put_in_line ranks key lines), in_line ranks key lines)

filtered : {A : Type 0} (test : A → Bool) (xs : List A) → length (filter test xs) ≤ length xs
filtered test xs = omega (arith, length-filter_both test (λ x. not (test x)) (λ x. refl) xs)

pub preface_short : (run : Run) (rank : ℕ) → length (preface_of run rank) ≤ GREATEST_COMM + 1
preface_short run rank =
    let keys = each_once [] (filter (is_named run) (flat_map (keys_at run) (ranks_of run))) in
    let all : length (numbered_keys run) ≤ GREATEST_COMM + 1 = omega (arith, taken_count GREATEST_COMM keys) in
    omega (
      arith,
      length-map (preface_lines run) (preface_split run rank 0),
      in_lines (length run) (preface_keys run) [],
      filtered (λ key. not (is_of_call key)) (numbered_keys run),
      all,
    )

-- ---- Line by line ----

-- a list with so many of these lines
abbrev pub with_lines : ℕ → List Call → Progress
with_lines n calls = record { records = plain 0 (take n calls); active = []; late = [] }

both_true : (a b : Bool) → IsTrue (a && b) → IsTrue a × IsTrue b
both_true true b h = (refl, h)
both_true false b h = absurd (cc (h))

all_at : (calls : List Call) (n : ℕ) (call : Call) → slice_get calls n ≡ Some call → IsTrue (list_all in_ranges calls) → IsTrue (in_ranges call)
all_at [] n call e all = absurd (cc (e))
all_at (x ∷ xs) zero call e all =
    let same : x ≡ call = cc (e) in
    subst (λ (it : Call). IsTrue (in_ranges it)) same (both_true (in_ranges x) (list_all in_ranges xs) all).0
all_at (x ∷ xs) (suc n) call e all = all_at xs n call e (both_true (in_ranges x) (list_all in_ranges xs) all).1

-- the split of a line
pub split_at : (run : Run) (rank line : ℕ) (keys : List Key) → slice_get (preface_lines run) line ≡ Some keys → slice_get (preface_of run rank) line ≡ Some (preface_split run rank 0 keys)
split_at run rank line keys e =
    slice_get-map (preface_split run rank 0) (preface_lines run) line ∙ ap (option_map (preface_split run rank 0)) e

-- one line more
pub line_put : (handed : Handed) (run : Run) (rank line : ℕ) (call : Call) (old new : ListCode) → slice_get (preface_of run rank) line ≡ Some call → IsTrue (list_all in_ranges (preface_of run rank))
    → (IsTrue (in_ranges call) → old.count + 1 < 1000000 → Stands handed (after_step (with_lines line (preface_of run rank)) 0 (Does call)) new)
    → Stands handed (with_lines line (preface_of run rank)) old → Stands handed (with_lines (line + 1) (preface_of run rank)) new
line_put handed run rank line call old new at all puts stands =
    let calls = preface_of run rank in
    let one : line + 1 ≡ suc line = omega arith in
    let more : plain 0 (take line calls) ++ plain 0 (call ∷ []) ≡ plain 0 (take (line + 1) calls) =
    sym (ap (plain 0) (ap (λ k. take k calls) one ∙ take_slice calls line call at) ∙ map-append {B = Written} (λ (it : Call). record { call = it; line = 0; starts = None }) (take line calls) (call ∷ [])) in
    let few : old.count + 1 < 1000000 =
    omega (arith, stands.count, length-map {B = Written} (take line calls) (λ (it : Call). record { call = it; line = 0; starts = None }), fewer line calls, preface_short run rank) in
    subst (λ (xs : List Written). Stands handed (record { records = xs; active = []; late = [] }) new) more (puts (all_at calls line call at all) few)
  where
    fewer : (n : ℕ) (xs : List Call) → length (take n xs) ≤ length xs
    fewer zero xs = omega arith
    fewer (suc n) [] = omega arith
    fewer (suc n) (x ∷ xs) = omega (arith, fewer n xs)

-- all of them
pub lines_put : (handed : Handed) (run : Run) (rank count : ℕ) (it : ListCode) → length (preface_lines run) ≤ count → Stands handed (with_lines count (preface_of run rank)) it → Stands handed (progress_first run rank) it
lines_put handed run rank count it h stands =
    let all : take count (preface_of run rank) ≡ preface_of run rank =
    take_all count (preface_of run rank) (omega (arith, h, length-map (preface_lines run) (preface_split run rank 0))) in
    subst (λ (calls : List Call). Stands handed (record { records = plain 0 calls; active = []; late = [] }) it) all stands
