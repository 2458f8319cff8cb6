-- The front of a head's text decides what the head says: a line that is too long is a fault however it
-- goes on, and so is a line too many.
use Rattle.std.proofs.Common.{◌≡◌, ℕ, ◌+◌, ◌-◌, ◌<◌, ◌≤◌, min, Bool, false, List, [], ◌∷◌, length, take, drop, eqb, leb, sym, ap, ◌∙◌, refl, arith, inl, inr, ◌⊎◌, Some, None, Result, Ok, Err, true, zero, suc, ltb, ◌*◌}
use Rattle.std.specs.List.{position, position_or_len, range_with_len}
use Rattle.std.proofs.lemmas.List.Sums.{fails_before_first, passes_at_first, position_or_len_is, prefix_len-le-length}
use Rattle.std.proofs.lemmas.List.{length-take, get_or-take, take-take, take_all}
use Rattle.std.proofs.BufReadLemmas.{drop-take_min}
use Rattle.std.proofs.lemmas.Bool.{cases_lt}
use Rattle.std.proofs.lemmas.Bool.Decides.{nat_tests}
use Rattle.mpigroup.specs.declared.limits.TheConstants.{MOST_COMMS, MOST_HEAD_LINE_BYTES}
use Rattle.mpigroup.specs.declared.fault.HeadFault.{HeadFault}
use Rattle.mpigroup.specs.declared.fault.HeadFaultKind.{HeadFaultKind}
use Rattle.mpigroup.specs.declared.fault.HeadFaultKind.TheVariants.{LineForm, TooManyComms}
use Rattle.mpicall.specs.Lines.{lines_of}
use Rattle.mpigroup.specs.HeadText.{is_head_line, ranks_of_line, group_of_line, at_line, put_front, put_line, groups_of_lines, groups_behind, head_of_lines, read_head}
use Rattle.mpigroup.proofs.LineLemmas.{lines_at_feed, lines_without_feed}

abbrev is_feed : ℕ → Bool
is_feed byte = eqb byte 10

-- where the first line feed is
abbrev feed_at : List ℕ → ℕ
feed_at xs = position_or_len is_feed xs

feed_at-within : (xs : List ℕ) → feed_at xs ≤ length xs
feed_at-within xs = prefix_len-le-length _ xs

-- a front has its first line feed where the text has it, if that is within the front
feed_at-take : (xs : List ℕ) (n m : ℕ) → m ≡ min (feed_at xs) n → feed_at (take n xs) ≡ m
feed_at-take xs n m is =
    let within : feed_at xs ≤ length xs = feed_at-within xs in
    let len : length (take n xs) ≡ min n (length xs) = length-take n xs in
    position_or_len_is is_feed (take n xs) m 0 (omega arith)
    (λ k h. rw (get_or-take n xs k 0 (omega arith)) (fails_before_first is_feed xs k 0 (omega arith)))
    (λ h. let place : m ≡ feed_at xs = omega arith in
    rw (get_or-take n xs m 0 (omega arith), place) (passes_at_first is_feed xs 0 (omega arith)))

-- how many bytes the first line has
lines_cut_at : (xs : List ℕ) (k : ℕ) → 0 < length xs → k ≡ min (feed_at xs + 1) (length xs) → lines_of xs ≡ take k xs ∷ lines_of (drop k xs)
lines_cut_at xs k some is =
    let within : feed_at xs ≤ length xs = feed_at-within xs in
    elim (cases_lt (feed_at xs) (length xs)) [
      | inl h ↦ let e : k ≡ feed_at xs + 1 = omega arith in
          let at : position is_feed xs ≡ Some (feed_at xs) = grind (arith, nat_tests) in
          rw e (lines_at_feed xs (feed_at xs) at)
      | inr h ↦ let e : k ≡ length xs = omega arith in
          let none : position is_feed xs ≡ None = grind (arith, nat_tests) in
          rw e (lines_without_feed xs some none)
    ]

-- a line that is too long, and a line too many
too_long : (line : List ℕ) → MOST_HEAD_LINE_BYTES < length line → is_head_line line ≡ false
too_long line long = let test : leb (length line) MOST_HEAD_LINE_BYTES ≡ false = grind (arith, nat_tests) in rw test refl

ranks_of_line-long : (line : List ℕ) → MOST_HEAD_LINE_BYTES < length line → ranks_of_line line ≡ Err LineForm
ranks_of_line-long line long = rw (too_long line long) refl

group_of_line-long : (ranks number : ℕ) (line : List ℕ) → number ≤ MOST_COMMS → MOST_HEAD_LINE_BYTES < length line → group_of_line ranks number line ≡ Err LineForm
group_of_line-long ranks number line few long =
    let within : ltb MOST_COMMS number ≡ false = grind (arith, nat_tests) in
    rw (within, too_long line long) refl

group_of_line-past : (ranks number : ℕ) (line : List ℕ) → MOST_COMMS < number → group_of_line ranks number line ≡ Err TooManyComms
group_of_line-past ranks number line past = let test : ltb MOST_COMMS number ≡ true = grind (arith, nat_tests) in rw test refl

-- the lines of a front: the same first line, or the whole front where the text has a longer one
pub record IsFront (n k : ℕ) (xs : List ℕ) : Type 0 where
  pub whole_text : lines_of xs ≡ take k xs ∷ lines_of (drop k xs)
  pub first_len : length (take k xs) ≡ k
  pub front : ((k ≤ n) × (lines_of (take n xs) ≡ take k xs ∷ lines_of (take (n - k) (drop k xs)))) ⊎ ((n < k) × (lines_of (take n xs) ≡ take n xs ∷ lines_of (drop n (take n xs))) × (length (take n xs) ≡ n))

is_front : (xs : List ℕ) (n k : ℕ) → 0 < n → 0 < length xs → k ≡ min (feed_at xs + 1) (length xs) → IsFront n k xs
is_front xs n k much some is =
    let within : feed_at xs ≤ length xs = feed_at-within xs in
    let len : length (take n xs) ≡ min n (length xs) = length-take n xs in
    let place : feed_at (take n xs) ≡ min (feed_at xs) n = feed_at-take xs n (min (feed_at xs) n) refl in
    record {
      whole_text = lines_cut_at xs k some is;
      first_len = omega (arith, length-take k xs);
      front = elim (cases_lt n k) [
        | inl h ↦
            let all : take n (take n xs) ≡ take n xs = take-take n n xs (omega arith) in
            inr (h, rw all at (lines_cut_at (take n xs) n (omega arith) (omega arith)), omega arith)
        | inr h ↦
            let rest : drop k (take n xs) ≡ take (n - k) (drop k xs) = drop-take_min xs n k k (omega arith) in
            let first : take k (take n xs) ≡ take k xs = take-take k n xs h in
            inl (h, rw (← rest, ← first) (lines_cut_at (take n xs) k (omega arith) (omega arith)))
      ];
    }

-- a fault of a line hides what follows it
same_fault : (ranks number : ℕ) (line other : List ℕ) (more others : List (List ℕ)) (kind : HeadFaultKind) → group_of_line ranks number line ≡ Err kind → group_of_line ranks number other ≡ Err kind → groups_of_lines ranks number (line ∷ more) ≡ groups_of_lines ranks number (other ∷ others)
same_fault ranks number line other more others kind e d =
    ap (λ r. put_line (at_line number r) (groups_of_lines ranks (number + 1) more)) e ∙ sym (ap (λ r. put_line (at_line number r) (groups_of_lines ranks (number + 1) others)) d)

-- with a line too many in front, nothing else matters
past_cases : (xs : List ℕ) (n k ranks number : ℕ) → MOST_COMMS < number → IsFront n k xs → groups_of_lines ranks number (lines_of (take n xs)) ≡ groups_of_lines ranks number (lines_of xs)
past_cases xs n k ranks number past f = elim f.front [
  | inl h ↦ ap (groups_of_lines ranks number) h.1 ∙ same_fault ranks number (take k xs) (take k xs) (lines_of (take (n - k) (drop k xs))) (lines_of (drop k xs)) TooManyComms (group_of_line-past ranks number (take k xs) past) (group_of_line-past ranks number (take k xs) past) ∙ sym (ap (groups_of_lines ranks number) f.whole_text)
  | inr h ↦ ap (groups_of_lines ranks number) h.1 ∙ same_fault ranks number (take n xs) (take k xs) (lines_of (drop n (take n xs))) (lines_of (drop k xs)) TooManyComms (group_of_line-past ranks number (take n xs) past) (group_of_line-past ranks number (take k xs) past) ∙ sym (ap (groups_of_lines ranks number) f.whole_text)
]

-- where the lines after the first of a front say what they say in the text, so does the front
further_cases : (xs : List ℕ) (n k ranks number : ℕ) → number ≤ MOST_COMMS → MOST_HEAD_LINE_BYTES < n → IsFront n k xs → (k ≤ MOST_HEAD_LINE_BYTES → k ≤ n → groups_of_lines ranks (number + 1) (lines_of (take (n - k) (drop k xs))) ≡ groups_of_lines ranks (number + 1) (lines_of (drop k xs))) → groups_of_lines ranks number (lines_of (take n xs)) ≡ groups_of_lines ranks number (lines_of xs)
further_cases xs n k ranks number few much f same = elim f.front [
  | inl h ↦
      let here : groups_of_lines ranks number (take k xs ∷ lines_of (take (n - k) (drop k xs))) ≡ groups_of_lines ranks number (take k xs ∷ lines_of (drop k xs)) =
      elim (cases_lt MOST_HEAD_LINE_BYTES k) [
        | inl long ↦ let e : group_of_line ranks number (take k xs) ≡ Err LineForm = group_of_line-long ranks number (take k xs) few (omega (arith, f.first_len)) in same_fault ranks number (take k xs) (take k xs) (lines_of (take (n - k) (drop k xs))) (lines_of (drop k xs)) LineForm e e
        | inr short ↦ ap (put_line (at_line number (group_of_line ranks number (take k xs)))) (same short h.0)
      ] in
      ap (groups_of_lines ranks number) h.1 ∙ here ∙ sym (ap (groups_of_lines ranks number) f.whole_text)
  | inr h ↦
      let e : group_of_line ranks number (take n xs) ≡ Err LineForm = group_of_line-long ranks number (take n xs) few (omega (arith, h.2)) in
      let d : group_of_line ranks number (take k xs) ≡ Err LineForm = group_of_line-long ranks number (take k xs) few (omega (arith, f.first_len, h.0)) in
      ap (groups_of_lines ranks number) h.1 ∙ same_fault ranks number (take n xs) (take k xs) (lines_of (drop n (take n xs))) (lines_of (drop k xs)) LineForm e d ∙ sym (ap (groups_of_lines ranks number) f.whole_text)
]

-- so many bytes decide so many lines, of which the first has this number
further_front : (left number ranks : ℕ) (xs : List ℕ) (n : ℕ) → number + left ≡ MOST_COMMS + 1 → left * MOST_HEAD_LINE_BYTES < n → groups_of_lines ranks number (lines_of (take n xs)) ≡ groups_of_lines ranks number (lines_of xs)
further_front left number ranks [] n last much = rw (take_all {A = ℕ} n [] (omega arith)) refl
further_front zero number ranks (x ∷ xs) n last much =
    past_cases (x ∷ xs) n (min (feed_at (x ∷ xs) + 1) (length (x ∷ xs))) ranks number (omega arith) (is_front (x ∷ xs) n _ (omega arith) (omega arith) refl)
further_front (suc left) number ranks (x ∷ xs) n last much =
    let k : ℕ = min (feed_at (x ∷ xs) + 1) (length (x ∷ xs)) in
    further_cases (x ∷ xs) n k ranks number (omega arith) (omega arith) (is_front (x ∷ xs) n k (omega arith) (omega arith) refl)
    (λ short within. further_front left (number + 1) ranks (drop k (x ∷ xs)) (n - k) (omega arith) (omega arith))

-- what the first line says decides how the others are read
behind_same : (first : Result ℕ HeadFault) (some others : List (List ℕ)) → ((ranks : ℕ) → groups_of_lines ranks 2 some ≡ groups_of_lines ranks 2 others) → groups_behind first some ≡ groups_behind first others
behind_same (Ok ranks) some others same = ap (put_front (range_with_len 0 ranks)) (same ranks)
behind_same (Err fault) some others same = refl

behind_fault : (first second : Result ℕ HeadFaultKind) (some others : List (List ℕ)) → first ≡ Err LineForm → second ≡ Err LineForm → groups_behind (at_line 1 first) some ≡ groups_behind (at_line 1 second) others
behind_fault first second some others e d = ap (λ r. groups_behind (at_line 1 r) some) e ∙ sym (ap (λ r. groups_behind (at_line 1 r) others) d)

head_cases : (xs : List ℕ) (n k : ℕ) → MOST_COMMS * MOST_HEAD_LINE_BYTES < n → IsFront n k xs → head_of_lines (lines_of (take n xs)) ≡ head_of_lines (lines_of xs)
head_cases xs n k much f = elim f.front [
  | inl h ↦
      let same : groups_behind (at_line 1 (ranks_of_line (take k xs))) (lines_of (take (n - k) (drop k xs))) ≡ groups_behind (at_line 1 (ranks_of_line (take k xs))) (lines_of (drop k xs)) =
      elim (cases_lt MOST_HEAD_LINE_BYTES k) [
        | inl long ↦ let e : ranks_of_line (take k xs) ≡ Err LineForm = ranks_of_line-long (take k xs) (omega (arith, f.first_len)) in behind_fault (ranks_of_line (take k xs)) (ranks_of_line (take k xs)) (lines_of (take (n - k) (drop k xs))) (lines_of (drop k xs)) e e
        | inr short ↦ behind_same (at_line 1 (ranks_of_line (take k xs))) (lines_of (take (n - k) (drop k xs))) (lines_of (drop k xs)) (λ ranks. further_front (MOST_COMMS - 1) 2 ranks (drop k xs) (n - k) (omega arith) (omega arith))
      ] in
      ap head_of_lines h.1 ∙ same ∙ sym (ap head_of_lines f.whole_text)
  | inr h ↦
      let long : MOST_HEAD_LINE_BYTES < length (take n xs) = omega (arith, h.2) in
      let longer : MOST_HEAD_LINE_BYTES < length (take k xs) = omega (arith, f.first_len, h.0) in
      let same : groups_behind (at_line 1 (ranks_of_line (take n xs))) (lines_of (drop n (take n xs))) ≡ groups_behind (at_line 1 (ranks_of_line (take k xs))) (lines_of (drop k xs)) =
      behind_fault (ranks_of_line (take n xs)) (ranks_of_line (take k xs)) (lines_of (drop n (take n xs))) (lines_of (drop k xs)) (ranks_of_line-long (take n xs) long) (ranks_of_line-long (take k xs) longer) in
      ap head_of_lines h.1 ∙ same ∙ sym (ap head_of_lines f.whole_text)
]

pub read_head-front : (xs : List ℕ) (n : ℕ) → MOST_COMMS * MOST_HEAD_LINE_BYTES < n → read_head (take n xs) ≡ read_head xs
unfolding read_head
read_head-front [] n much = rw (take_all {A = ℕ} n [] (omega arith)) refl
read_head-front (x ∷ xs) n much =
    head_cases (x ∷ xs) n (min (feed_at (x ∷ xs) + 1) (length (x ∷ xs))) much (is_front (x ∷ xs) n (min (feed_at (x ∷ xs) + 1) (length (x ∷ xs))) (omega arith) (omega arith) refl)
