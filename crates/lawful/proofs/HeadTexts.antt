-- The text of a head reads as the head.
use Rattle.std.proofs.Common.{◌≡◌, ℕ, zero, suc, ◌+◌, ◌-◌, ◌≤◌, ◌<◌, ◌==◌, ◌&&◌, not, cond, Bool, true, false, if◌then◌else◌, get_or, Some, None, List, [], ◌∷◌, ◌++◌, length, map, drop, refl, sym, ap, subst, ◌∙◌, arith, inl, inr, append_assoc, length-append}
use Rattle.std.specs.Prelude.{⊤, Ok, nat_le, nat_lt, codes}
use Rattle.std.specs.List.{list_all, flat_map, join_with_byte, range_with_len}
use Rattle.std.specs.Fmt.{decimal}
use Rattle.std.proofs.lemmas.Bool.{cases_lt, and_parts, le-leb, le-ltb, lt-ltb, ltb-true, ne_eqb}
use Rattle.std.proofs.lemmas.Fmt.{length-decimal-le}
use Rattle.std.proofs.lemmas.List.{take_at, get_or_push, length-map}
use Rattle.std.proofs.lemmas.List.Folds.{list_all-append}
use Rattle.std.proofs.lemmas.Option.{none-some}
use Rattle.mpicall.specs.Argument.{Number}
use Rattle.mpicall.specs.Lines.{lines_of, has_line_feed, split_fields, body_of}
use Rattle.mpicall.specs.Number.{is_canonical, value_of, number_up_to}
use Rattle.mpicall.specs.Spelling.{space, line_feed}
use Rattle.mpicall.proofs.ArgumentLemmas.{above_space, argument_field}
use Rattle.mpicall.proofs.BeginningLemmas.{WithoutFeed}
use Rattle.mpicall.proofs.DecimalLemmas.{number-of-decimal, value_decimal}
use Rattle.mpigroup.specs.HeadText.{is_head_line, ranks_of_fields, ranks_of_line, is_group, group_of_fields, group_of_line, groups_of_lines, head_of_lines, read_head}
use Rattle.mpigroup.specs.declared.limits.TheConstants.{MOST_RANKS, MOST_COMMS, MOST_HEAD_LINE_BYTES}
use Rattle.closing.specs.Keys.{Key, group_of_key}
use Rattle.closing.specs.Entries.{Run, ranks_of}
use Rattle.closing.specs.Entry.{Choice}
use Rattle.closing.specs.Numbers.{numbered_keys, groups_of}
use Rattle.closing.specs.Recording.{list_of, recording_of}
use Rattle.closing.specs.Texts.{line_with}
use Rattle.lawful.specs.Laws.{EachRecordingReadsBack}
use Rattle.lawful.proofs.ReadLemmas.{line_first, each_list_in_ranges_reads_back}
use Rattle.lawful.proofs.GroupFacts.{IsGroupOf, cost, cost_below, few_cost}
use Rattle.lawful.proofs.FullFacts.{FitsRanks}
use Rattle.lawful.proofs.RunFull.{RunFull, run_full}
use Rattle.lawful.proofs.KeyGroups.{AllKeys, numbered_full}
use Rattle.lawful.proofs.HeadLemmas.{group_is, few_numbered}
use Rattle.lawful.proofs.RangedLists.{each_list_is_in_ranges}
use Rattle.std.proofs.lemmas.List.FromFn.{length-range_with_len}

-- ---- Fields without spaces ----

abbrev AllClean : List (List ℕ) → Type 0
AllClean [] = ⊤
AllClean (field ∷ fields) = (list_all above_space field ≡ true) × AllClean fields

not_space : (byte : ℕ) → above_space byte ≡ true → (byte == space) ≡ false
not_space byte h = ne_eqb byte space (λ same. absurd (apart byte same (ltb-true 32 byte h)))
  where
    apart : (b : ℕ) → b ≡ space → 32 < b → ⊥
    apart b same over = omega (arith, same, over)

not_feed : (byte : ℕ) → above_space byte ≡ true → (byte == line_feed) ≡ false
not_feed byte h = ne_eqb byte line_feed (λ same. absurd (apart byte same (ltb-true 32 byte h)))
  where
    apart : (b : ℕ) → b ≡ line_feed → 32 < b → ⊥
    apart b same over = omega (arith, same, over)

split_first : (field rest : List ℕ) → list_all above_space field ≡ true → split_fields (field ++ space ∷ rest) ≡ field ∷ split_fields rest
split_first [] rest clean = refl
split_first (byte ∷ field) rest clean =
    let parts = and_parts (above_space byte) (list_all above_space field) clean in
    rw (not_space byte parts.0, split_first field rest parts.1) refl

split_last : (field : List ℕ) → list_all above_space field ≡ true → split_fields field ≡ field ∷ []
split_last [] clean = refl
split_last (byte ∷ field) clean =
    let parts = and_parts (above_space byte) (list_all above_space field) clean in
    rw (not_space byte parts.0, split_last field parts.1) refl

split_join : (word : List ℕ) (fields : List (List ℕ)) → list_all above_space word ≡ true → AllClean fields → split_fields (join_with_byte space (word ∷ fields)) ≡ word ∷ fields
split_join word [] clean all = split_last word clean
split_join word (next ∷ fields) clean all =
    split_first word (join_with_byte space (next ∷ fields)) clean ∙ ap (λ (rest : List (List ℕ)). word ∷ rest) (split_join next fields all.0 all.1)

clean_without : (field : List ℕ) → list_all above_space field ≡ true → WithoutFeed field
clean_without [] clean = refl
clean_without (byte ∷ field) clean =
    let parts = and_parts (above_space byte) (list_all above_space field) clean in
    rw (not_feed byte parts.0, clean_without field parts.1) refl

join_without : (word : List ℕ) (fields : List (List ℕ)) → list_all above_space word ≡ true → AllClean fields → WithoutFeed (join_with_byte space (word ∷ fields))
join_without word [] clean all = clean_without word clean
join_without word (next ∷ fields) clean all =
    rw (list_all-append (λ byte. not (byte == line_feed)) word (space ∷ join_with_byte space (next ∷ fields)), clean_without word clean)
    (join_without next fields all.0 all.1)

-- ---- Numbers ----

-- numbers no greater than that of the ranks of a run
abbrev AllSmall : List ℕ → Type 0
AllSmall [] = ⊤
AllSmall (number ∷ numbers) = (number ≤ MOST_RANKS) × AllSmall numbers

decimal_clean : (number : ℕ) → number ≤ MOST_RANKS → list_all above_space (decimal number) ≡ true
decimal_clean number small = (argument_field (Number MOST_RANKS number) refl (le-leb number MOST_RANKS small)).clean

decimals_clean : (numbers : List ℕ) → AllSmall numbers → AllClean (map decimal numbers)
decimals_clean [] all = tt
decimals_clean (number ∷ numbers) all = (decimal_clean number all.0, decimals_clean numbers all.1)

if_true : (b : Bool) (v n : ℕ) → cond b (Some v) None ≡ Some n → b ≡ true
if_true true v n h = refl
if_true false v n h = absurd (none-some n h)

canonical : (number : ℕ) → number ≤ MOST_RANKS → is_canonical (decimal number) ≡ true
unfolding number_up_to
canonical number small =
    (and_parts (is_canonical (decimal number)) (nat_le (value_of (decimal number)) MOST_RANKS)
    (if_true (is_canonical (decimal number) && nat_le (value_of (decimal number)) MOST_RANKS) (value_of (decimal number)) number
    (number-of-decimal MOST_RANKS number (omega arith) small))).0

canonicals : (numbers : List ℕ) → AllSmall numbers → list_all is_canonical (map decimal numbers) ≡ true
canonicals [] all = refl
canonicals (number ∷ numbers) all = rw (canonical number all.0, canonicals numbers all.1) refl

value_of_number : (number : ℕ) → number ≤ MOST_RANKS → value_of (decimal number) ≡ number
value_of_number number small = value_decimal number (omega (arith, small))

values : (numbers : List ℕ) → AllSmall numbers → map value_of (map decimal numbers) ≡ numbers
values [] all = refl
values (number ∷ numbers) all = rw (value_of_number number all.0, values numbers all.1) refl

-- ---- Lines ----

abbrev body : List ℕ → List ℕ → List ℕ
body word numbers = join_with_byte space (word ∷ map decimal numbers)

body_is : (bytes : List ℕ) → body_of (bytes ++ line_feed ∷ []) ≡ bytes
body_is bytes =
    let n : length (bytes ++ line_feed ∷ []) - 1 ≡ length bytes = omega (arith, length-append bytes (line_feed ∷ [])) in
    rw n (take_at bytes (line_feed ∷ []) (length bytes) refl)

ends_line : (bytes : List ℕ) → has_line_feed (bytes ++ line_feed ∷ []) ≡ true
ends_line bytes =
    let n : length (bytes ++ line_feed ∷ []) - 1 ≡ length bytes = omega (arith, length-append bytes (line_feed ∷ [])) in
    let some : nat_lt 0 (length (bytes ++ line_feed ∷ [])) ≡ true = lt-ltb 0 (length (bytes ++ line_feed ∷ [])) (omega (arith, length-append bytes (line_feed ∷ []))) in
    let last : get_or (bytes ++ line_feed ∷ []) (length bytes) 0 ≡ line_feed = get_or_push bytes line_feed 0 (length bytes) refl in
    rw (some, n, last) refl

head_line : (bytes : List ℕ) → length bytes < MOST_HEAD_LINE_BYTES → is_head_line (bytes ++ line_feed ∷ []) ≡ true
head_line bytes short =
    rw (le-leb (length (bytes ++ line_feed ∷ [])) MOST_HEAD_LINE_BYTES (omega (arith, short, length-append bytes (line_feed ∷ []))), ends_line bytes) refl

-- ---- Lengths ----

-- the bytes of a number, with the space before it
field_cost : ℕ → ℕ
field_cost number = 1 + length (decimal number)

most_cost : ℕ → ℕ
most_cost number = if nat_lt number 10 then 2 else (if nat_lt number 100 then 3 else (if nat_lt number 1000 then 4 else 5))

cost_low : (number : ℕ) → number < MOST_RANKS → field_cost number ≤ most_cost number
unfolding field_cost most_cost
cost_low number low =
    elim (cases_lt number 10) [
      | inl one ↦ rw (lt-ltb number 10 one) (let few = length-decimal-le 1 number (omega arith) one (omega (arith, low)) in omega (arith, few))
      | inr no_one ↦ rw (le-ltb number 10 no_one) (two number low)
    ]
  where
    four : (n : ℕ) → n < MOST_RANKS → 1 + length (decimal n) ≤ 5
    four n small = let few = length-decimal-le 4 n (omega arith) (omega (arith, small)) (omega (arith, small)) in omega (arith, few)

    three : (n : ℕ) → n < MOST_RANKS → 1 + length (decimal n) ≤ (if nat_lt n 1000 then 4 else 5)
    three n small =
        elim (cases_lt n 1000) [
          | inl is ↦ rw (lt-ltb n 1000 is) (let few = length-decimal-le 3 n (omega arith) is (omega (arith, small)) in omega (arith, few))
          | inr is ↦ rw (le-ltb n 1000 is) (four n small)
        ]

    two : (n : ℕ) → n < MOST_RANKS → 1 + length (decimal n) ≤ (if nat_lt n 100 then 3 else (if nat_lt n 1000 then 4 else 5))
    two n small =
        elim (cases_lt n 100) [
          | inl is ↦ rw (lt-ltb n 100 is) (let few = length-decimal-le 2 n (omega arith) is (omega (arith, small)) in omega (arith, few))
          | inr is ↦ rw (le-ltb n 100 is) (three n small)
        ]

costs_low : (n : ℕ) → n ≤ MOST_RANKS → cost_below field_cost n ≤ cost_below most_cost n
unfolding cost_below
costs_low zero le = omega arith
costs_low (suc n) le =
    let rest = costs_low n (omega (arith, le)) in
    let one = cost_low n (omega (arith, le)) in
    omega (arith, rest, one)

cost_more : (each : ℕ → ℕ) (m d : ℕ) → cost_below each m ≤ cost_below each (m + d)
unfolding cost_below
cost_more each m zero = subst (λ (n : ℕ). cost_below each m ≤ cost_below each n) (plus_zero m) (omega arith)
  where
    plus_zero : (n : ℕ) → n ≡ n + 0
    plus_zero n = omega arith
cost_more each m (suc d) =
    subst (λ (n : ℕ). cost_below each m ≤ cost_below each n) (one_more m d) (let rest = cost_more each m d in omega (arith, rest))
  where
    one_more : (a b : ℕ) → suc (a + b) ≡ a + suc b
    one_more a b = omega arith

all_costs : cost_below most_cost 1024 ≡ 4010
unfolding cost_below most_cost
all_costs = refl

group_cost : (ranks : ℕ) (group : List ℕ) → ranks ≤ MOST_RANKS → IsGroupOf ranks group → cost field_cost group ≤ 4010
group_cost ranks group le is =
    let few = few_cost field_cost ranks group is.once is.below in
    let more : cost_below field_cost ranks ≤ cost_below field_cost MOST_RANKS = subst (λ (n : ℕ). cost_below field_cost ranks ≤ cost_below field_cost n) (filled ranks le) (cost_more field_cost ranks (MOST_RANKS - ranks)) in
    let low = costs_low MOST_RANKS (omega arith) in
    chain (cost field_cost group) (cost_below field_cost ranks) (cost_below field_cost MOST_RANKS) (cost_below most_cost MOST_RANKS) few more low all_costs
  where
    filled : (n : ℕ) → n ≤ MOST_RANKS → n + (MOST_RANKS - n) ≡ MOST_RANKS
    filled n small = omega (arith, small)

    chain : (a b c d : ℕ) → a ≤ b → b ≤ c → c ≤ d → d ≡ 4010 → a ≤ 4010
    chain a b c d ab bc cd is = omega (arith, ab, bc, cd, is)

body_length : (word : List ℕ) (numbers : List ℕ) → length (body word numbers) ≡ length word + cost field_cost numbers
unfolding field_cost
body_length word [] = omega arith
body_length word (number ∷ numbers) =
    let rest = body_length (decimal number) numbers in
    let both = length-append word (space ∷ join_with_byte space (decimal number ∷ map decimal numbers)) in
    omega (arith, rest, both)

-- ---- The line of a group ----

small_group : (ranks : ℕ) (group : List ℕ) → ranks ≤ MOST_RANKS → list_all (λ (rank : ℕ). nat_lt rank ranks) group ≡ true → AllSmall group
small_group ranks [] le all = tt
small_group ranks (rank ∷ group) le all =
    let parts = and_parts (nat_lt rank ranks) (list_all (λ (r : ℕ). nat_lt r ranks) group) all in
    (lower rank ranks (ltb-true rank ranks parts.0) le, small_group ranks group le parts.1)
  where
    lower : (a b : ℕ) → a < b → b ≤ MOST_RANKS → a ≤ MOST_RANKS
    lower a b ab bc = omega (arith, ab, bc)

comm_clean : list_all above_space (codes "comm") ≡ true
comm_clean = refl

ranks_clean : list_all above_space (codes "ranks") ≡ true
ranks_clean = refl

fields_read : (ranks : ℕ) (group : List ℕ) → AllSmall group → is_group ranks group ≡ true → group_of_fields ranks (codes "comm" ∷ map decimal group) ≡ Ok group
fields_read ranks group small is = rw (canonicals group small, values group small, is) refl

group_line : (ranks number : ℕ) (bytes : List ℕ) (fields : List (List ℕ)) (group : List ℕ) → number ≤ MOST_COMMS → length bytes < MOST_HEAD_LINE_BYTES → split_fields bytes ≡ fields → group_of_fields ranks fields ≡ Ok group → group_of_line ranks number (bytes ++ line_feed ∷ []) ≡ Ok group
group_line ranks number bytes fields group few short are reads =
    rw (le-ltb MOST_COMMS number few, head_line bytes short, body_is bytes, are) reads

group_read : (ranks number : ℕ) (group : List ℕ) → ranks ≤ MOST_RANKS → number ≤ MOST_COMMS → IsGroupOf ranks group → group_of_line ranks number (line_with (codes "comm") group) ≡ Ok group
group_read ranks number group le few is =
    let small = small_group ranks group le is.below in
    group_line ranks number (body (codes "comm") group) (codes "comm" ∷ map decimal group) group few
    (shorter (length (body (codes "comm") group)) (cost field_cost group) (body_length (codes "comm") group) (group_cost ranks group le is))
    (split_join (codes "comm") (map decimal group) comm_clean (decimals_clean group small))
    (fields_read ranks group small (group_is ranks group is))
  where
    shorter : (a b : ℕ) → a ≡ 4 + b → b ≤ 4010 → a < MOST_HEAD_LINE_BYTES
    shorter a b ab bc = omega (arith, ab, bc)

abbrev AllGroups : ℕ → List (List ℕ) → Type 0
AllGroups ranks [] = ⊤
AllGroups ranks (group ∷ groups) = IsGroupOf ranks group × AllGroups ranks groups

groups_read : (ranks number : ℕ) (groups : List (List ℕ)) → ranks ≤ MOST_RANKS → number + length groups ≤ MOST_COMMS + 1 → AllGroups ranks groups → groups_of_lines ranks number (map (line_with (codes "comm")) groups) ≡ Ok groups
groups_read ranks number [] le few all = refl
groups_read ranks number (group ∷ groups) le few all =
    rw (group_read ranks number group le (omega (arith, few)) all.0, groups_read ranks (number + 1) groups le (omega (arith, few)) all.1) refl

-- ---- The first line ----

fields_rank : (ranks : ℕ) → FitsRanks ranks → ranks_of_fields (codes "ranks" ∷ decimal ranks ∷ []) ≡ Ok ranks
unfolding ranks_of_fields
fields_rank ranks fit = rw (canonical ranks fit.1, value_of_number ranks fit.1, le-leb 1 ranks fit.0, le-leb ranks MOST_RANKS fit.1) refl

cost_short : (ranks : ℕ) → ranks ≤ MOST_RANKS → cost field_cost (ranks ∷ []) ≤ 10
unfolding field_cost
cost_short ranks le = let few = length-decimal-le 4 ranks (omega arith) (omega (arith, le)) (omega (arith, le)) in omega (arith, few)

ranks_line : (ranks : ℕ) (bytes : List ℕ) (fields : List (List ℕ)) → length bytes < MOST_HEAD_LINE_BYTES → split_fields bytes ≡ fields → ranks_of_fields fields ≡ Ok ranks → ranks_of_line (bytes ++ line_feed ∷ []) ≡ Ok ranks
ranks_line ranks bytes fields short are reads = rw (head_line bytes short, body_is bytes, are) reads

ranks_read : (ranks : ℕ) → FitsRanks ranks → ranks_of_line (line_with (codes "ranks") (ranks ∷ [])) ≡ Ok ranks
ranks_read ranks fit =
    ranks_line ranks (body (codes "ranks") (ranks ∷ [])) (codes "ranks" ∷ decimal ranks ∷ [])
    (shorter (length (body (codes "ranks") (ranks ∷ []))) (cost field_cost (ranks ∷ [])) (body_length (codes "ranks") (ranks ∷ [])) (cost_short ranks fit.1))
    (split_join (codes "ranks") (decimal ranks ∷ []) ranks_clean (decimal_clean ranks fit.1, tt)) (fields_rank ranks fit)
  where
    shorter : (a b : ℕ) → a ≡ 5 + b → b ≤ 10 → a < MOST_HEAD_LINE_BYTES
    shorter a b ab bc = omega (arith, ab, bc)

-- ---- The text ----

line_text : (word numbers rest : List ℕ) → list_all above_space word ≡ true → AllSmall numbers → lines_of (line_with word numbers ++ rest) ≡ line_with word numbers ∷ lines_of rest
line_text word numbers rest clean small =
    ap lines_of (append_assoc (join_with_byte space (word ∷ map decimal numbers)) (line_feed ∷ []) rest)
    ∙ line_first (join_with_byte space (word ∷ map decimal numbers)) rest (join_without word (map decimal numbers) clean (decimals_clean numbers small))

group_texts : (ranks : ℕ) (groups : List (List ℕ)) → ranks ≤ MOST_RANKS → AllGroups ranks groups → lines_of (flat_map (line_with (codes "comm")) groups) ≡ map (line_with (codes "comm")) groups
group_texts ranks [] le all = refl
group_texts ranks (group ∷ groups) le all =
    line_text (codes "comm") group (flat_map (line_with (codes "comm")) groups) comm_clean (small_group ranks group le all.0.below)
    ∙ ap (λ (lines : List (List ℕ)). line_with (codes "comm") group ∷ lines) (group_texts ranks groups le all.1)

behind_reads : (ranks : ℕ) (first : List ℕ) (others groups : List (List ℕ)) → ranks_of_line first ≡ Ok ranks → groups_of_lines ranks 2 others ≡ Ok groups → head_of_lines (first ∷ others) ≡ Ok (range_with_len 0 ranks ∷ groups)
behind_reads ranks first others groups own rest = rw (own, rest) refl

head_reads : (ranks : ℕ) (groups : List (List ℕ)) → FitsRanks ranks → suc (length groups) ≤ MOST_COMMS → AllGroups ranks groups → read_head (line_with (codes "ranks") (ranks ∷ []) ++ flat_map (line_with (codes "comm")) groups) ≡ Ok (range_with_len 0 ranks ∷ groups)
unfolding read_head
head_reads ranks groups fit few all =
    ap head_of_lines (line_text (codes "ranks") (ranks ∷ []) (flat_map (line_with (codes "comm")) groups) ranks_clean (fit.1, tt)
    ∙ ap (λ (lines : List (List ℕ)). line_with (codes "ranks") (ranks ∷ []) ∷ lines) (group_texts ranks groups fit.1 all))
    ∙ behind_reads ranks (line_with (codes "ranks") (ranks ∷ [])) (map (line_with (codes "comm")) groups) groups (ranks_read ranks fit)
    (groups_read ranks 2 groups fit.1 (omega (arith, few)) all)

-- ---- Recordings ----

groups_all : (ranks : ℕ) (keys : List Key) → AllKeys ranks keys → AllGroups ranks (map (group_of_key ranks) keys)
groups_all ranks [] all = tt
groups_all ranks (key ∷ keys) all = (all.0, groups_all ranks keys all.1)

rest_all : (ranks : ℕ) (groups : List (List ℕ)) → AllGroups ranks groups → AllGroups ranks (drop 1 groups)
rest_all ranks [] all = tt
rest_all ranks (group ∷ groups) all = all.1

few_groups : (run : Run) → length (groups_of run) ≤ MOST_COMMS
few_groups run = subst (λ (n : ℕ). n ≤ MOST_COMMS) (sym (length-map (numbered_keys run) (group_of_key (length run)))) (few_numbered run)

text_reads : (run : Run) → RunFull run → read_head (line_with (codes "ranks") (length run ∷ []) ++ flat_map (line_with (codes "comm")) (drop 1 (groups_of run))) ≡ Ok (groups_of run)
text_reads run is =
    head_reads (length run) (drop 1 (groups_of run)) is.fits (few_groups run)
    (rest_all (length run) (groups_of run) (groups_all (length run) (numbered_keys run) (numbered_full run is)))

ranks_many : (run : Run) (choice : Choice) → length (map (list_of run choice) (ranks_of run)) ≡ length run
ranks_many run choice = length-map (ranks_of run) (list_of run choice) ∙ length-range_with_len 0 (length run)

pub each_recording_reads_back : EachRecordingReadsBack
unfolding recording_of
each_recording_reads_back run choice read = record {
  head = subst (λ (n : ℕ). read_head (line_with (codes "ranks") (n ∷ []) ++ flat_map (line_with (codes "comm")) (drop 1 (groups_of run))) ≡ Ok (groups_of run)) (sym (ranks_many run choice))
      (text_reads run (run_full read.first read.texts run read.is_read));
  traces = λ list there. each_list_in_ranges_reads_back run choice list there (each_list_is_in_ranges run choice read list there);
}
