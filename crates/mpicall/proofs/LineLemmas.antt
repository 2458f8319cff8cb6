-- A line is read as a call exactly where it is that call's spelling, and else its first fault is answered.
use Rattle.std.proofs.Common.{◌≡◌, ◌↔◌, ℕ, ◌+◌, ◌-◌, ◌*◌, ◌<◌, ◌≤◌, Bool, true, false, List, [], ◌∷◌, ◌++◌, length, get_or, drop, take, sym, ap, ◌∙◌, refl, arith, Option, Some, None, Result, Ok, Err, cond, nat_lt, length-append, ◌==◌, zero, suc, map}
use Rattle.std.specs.List.{All, join_with_byte, list_any, list_all}
use Rattle.std.proofs.lemmas.Bool.Decides.{nat_tests}
use Rattle.std.proofs.lemmas.List.Sums.{AllPass-from_list_all, count_by-le-length}
use Rattle.std.proofs.lemmas.List.Splits.{slice_split_at, slice_split_none, join_with_byte-slice_split, length-slice_split}
use Rattle.std.proofs.Math.Seq.{take-append_seam}
use Rattle.std.proofs.lemmas.List.{get_or_push, length-map}
use Rattle.std.proofs.lemmas.Bool.{and_parts}
use Rattle.mpicall.specs.Argument.{spell}
use Rattle.mpicall.specs.Limits.{in_ranges}
use Rattle.mpicall.specs.Word.{text_of}
use Rattle.mpicall.specs.Spelling.{space, line_feed, word_of_call, arguments_of, fields_of, spelling}
use Rattle.mpicall.specs.Line.{is_any, wildcard_at, source_place, shape_of, takes_count, all_in_form, fault_behind, fault_of_line, fault_of_fields}
use Rattle.mpicall.specs.inner.Line.{fits}
use Rattle.mpicall.specs.Lines.{is_blank, most_bytes, has_line_feed, body_of, split_fields}
use Rattle.mpicall.specs.Parsing.{call_of_fields, call_unless, record_of_line}
use Rattle.mpicall.specs.inner.Parsing.{Spells, IsBody}
use Rattle.mpicall.proofs.ArgumentLemmas.{above_space}
use Rattle.mpicall.proofs.WordLemmas.{word_found, text_is}
use Rattle.mpicall.proofs.CallLemmas.{known_call, call_fields, AllFields}
use Rattle.mpicall.specs.declared.call.Call.{Call}
use Rattle.mpicall.specs.declared.word.Word.{Word}
use Rattle.mpicall.specs.declared.fault.LineFault.{LineFault}
use Rattle.mpicall.specs.declared.fault.LineFault.TheVariants.{TooLong, NoLineFeed}

-- The fields of a spelled line are those of the call.

not_space : (byte : ℕ) → above_space byte ≡ true → (byte == space) ≡ false
not_space byte h = grind (arith, nat_tests)

clean_text : (field : List ℕ) → list_all above_space field ≡ true → All (λ byte. (byte == space) ≡ false) field
clean_text field h k d below = not_space _ (AllPass-from_list_all above_space field h k d below)

split_join : (word : List ℕ) (fields : List (List ℕ)) → list_all above_space word ≡ true → AllFields fields → split_fields (join_with_byte space (word ∷ fields)) ≡ word ∷ fields
unfolding AllFields
split_join word [] clean all = slice_split_none (λ byte. byte == space) word (clean_text word clean)
split_join word (next ∷ fields) clean all =
    slice_split_at (λ byte. byte == space) word space (join_with_byte space (next ∷ fields)) (clean_text word clean) refl
    ∙ ap (λ rest. word ∷ rest) (split_join next fields all.0.clean all.1)

split_spelled : (x : Call) → in_ranges x ≡ true → split_fields (join_with_byte space (fields_of x)) ≡ fields_of x
split_spelled x h = split_join (text_of (word_of_call x)) (map spell (arguments_of x)) (text_is (word_of_call x)).clean (call_fields x h)

-- A spelled line is far shorter than a line may be.

length_join : (word : List ℕ) (fields : List (List ℕ)) → AllFields fields → length (join_with_byte space (word ∷ fields)) ≤ length word + 12 * length fields
unfolding AllFields
length_join word [] all = omega arith
length_join word (next ∷ fields) all =
    let more = length_join next fields all.1 in
    let short = all.0.short in
    let both = length-append word (space ∷ join_with_byte space (next ∷ fields)) in
    omega arith

short_spelling : (x : Call) → in_ranges x ≡ true → length (join_with_byte space (fields_of x)) < most_bytes
short_spelling x h =
    let all = length_join (text_of (word_of_call x)) (map spell (arguments_of x)) (call_fields x h) in
    let word = (text_is (word_of_call x)).short in
    let few = (known_call x h).few in
    let same = length-map (arguments_of x) spell in
    omega arith

-- The fields of a call have no fault.

some_bytes : (field : List ℕ) → 0 < length field → is_blank field ≡ false
some_bytes field h = grind (arith, nat_tests)

none_blank : (fields : List (List ℕ)) → AllFields fields → list_any is_blank fields ≡ false
unfolding AllFields
none_blank [] all = refl
none_blank (field ∷ fields) all = rw (some_bytes field all.0.some) (none_blank fields all.1)

none_any : (fields : List (List ℕ)) → AllFields fields → (n : ℕ) → list_any is_any (take n fields) ≡ false
unfolding AllFields
none_any fields all zero = refl
none_any [] all (suc n) = refl
none_any (field ∷ fields) all (suc n) = rw all.0.not_any (none_any fields all.1 n)

all_behind : (fields : List (List ℕ)) → AllFields fields → (n : ℕ) → AllFields (drop n fields)
unfolding AllFields
all_behind fields all zero = all
all_behind [] all (suc n) = tt
all_behind (field ∷ fields) all (suc n) = all_behind fields all.1 n

no_wildcard : (place : Option ℕ) (fields : List (List ℕ)) → AllFields fields → wildcard_at place fields ≡ false
no_wildcard None fields all = refl
no_wildcard (Some place) fields all = none_any (drop place fields) (all_behind fields all place) 2

fitting : (w : Word) (fields : List (List ℕ)) → fits w fields ≡ true → wildcard_at (source_place w) fields ≡ false → fault_behind w fields ≡ None
fitting w fields h plain =
    let parts = and_parts (takes_count (shape_of w (length fields)) (length fields)) (all_in_form (shape_of w (length fields)) fields) h in
    rw (parts.0, plain, parts.1) refl

call_faultless : (x : Call) → in_ranges x ≡ true → fault_of_fields (fields_of x) ≡ None
unfolding fault_of_fields
call_faultless x h =
    let all = call_fields x h in
    let word = some_bytes (text_of (word_of_call x)) (text_is (word_of_call x)).some in
    let blank = none_blank (map spell (arguments_of x)) all in
    let fault = fitting (word_of_call x) (map spell (arguments_of x)) (known_call x h).fits_word (no_wildcard (source_place (word_of_call x)) (map spell (arguments_of x)) all) in
    rw (word, blank, word_found (word_of_call x)) fault

call_back : (x : Call) → in_ranges x ≡ true → call_of_fields (fields_of x) ≡ x
unfolding call_of_fields
call_back x h = rw (word_found (word_of_call x)) (known_call x h).call_is

-- The body of a line.

lt_true : (a b : ℕ) → a < b → nat_lt a b ≡ true
lt_true a b h = grind (arith, nat_tests)

lt_false : (a b : ℕ) → b ≤ a → nat_lt a b ≡ false
lt_false a b h = grind (arith, nat_tests)

body_of_push : (body : List ℕ) → body_of (body ++ line_feed ∷ []) ≡ body
body_of_push body =
    let n : length (body ++ line_feed ∷ []) - 1 ≡ length body = omega (arith, length-append body (line_feed ∷ [])) in
    rw n (take-append_seam body (line_feed ∷ []))

ends_in_line_feed : (body : List ℕ) → has_line_feed (body ++ line_feed ∷ []) ≡ true
ends_in_line_feed body =
    let n : length (body ++ line_feed ∷ []) - 1 ≡ length body = omega (arith, length-append body (line_feed ∷ [])) in
    let some : nat_lt 0 (length (body ++ line_feed ∷ [])) ≡ true = lt_true 0 _ (omega (arith, length-append body (line_feed ∷ []))) in
    let last : get_or (body ++ line_feed ∷ []) (length body) 0 ≡ line_feed = get_or_push body line_feed 0 (length body) refl in
    rw (some, n, last) refl

-- the fault of a line of a short body is that of its fields
fault_of_body : (body : List ℕ) → length body < most_bytes → fault_of_line (body ++ line_feed ∷ []) ≡ fault_of_fields (split_fields body)
unfolding fault_of_line
fault_of_body body short =
    let fits_in : nat_lt most_bytes (length (body ++ line_feed ∷ [])) ≡ false = lt_false _ _ (omega (arith, length-append body (line_feed ∷ []))) in
    simp (fits_in, ends_in_line_feed body, body_of_push body) refl

pub spelling_faultless : (x : Call) → in_ranges x ≡ true → fault_of_line (spelling x) ≡ None
unfolding spelling
spelling_faultless x h =
    fault_of_body (join_with_byte space (fields_of x)) (short_spelling x h)
    ∙ ap fault_of_fields (split_spelled x h) ∙ call_faultless x h

pub spelling_read : (x : Call) → in_ranges x ≡ true → record_of_line (spelling x) ≡ Ok x
unfolding spelling record_of_line
spelling_read x h =
    let none : fault_of_line (join_with_byte space (fields_of x) ++ line_feed ∷ []) ≡ None = spelling_faultless x h in
    rw (none, body_of_push (join_with_byte space (fields_of x)), split_spelled x h) (ap Ok (call_back x h))

pub fault_read : (line : List ℕ) (fault : LineFault) → fault_of_line line ≡ Some fault → record_of_line line ≡ Err fault
unfolding record_of_line
fault_read line fault e = rw e refl

-- What a reader has read of the body of a line.

pub body_spells : (line body : List ℕ) (call : Call) → IsBody line body → split_fields body ≡ fields_of call → in_ranges call ≡ true → Spells line call
unfolding spelling
body_spells line body call is fields h =
    let same : body ≡ join_with_byte space (fields_of call) = sym (join_with_byte-slice_split space body) ∙ ap (join_with_byte space) fields in
    record { line_is = is.line_is ∙ ap (λ b. b ++ line_feed ∷ []) same; in_ranges_is = h }

pub spells_read : (line : List ℕ) (call : Call) → Spells line call → record_of_line line ≡ Ok call
spells_read line call s = ap record_of_line s.line_is ∙ spelling_read call s.in_ranges_is

pub body_fault : (line body : List ℕ) (fault : LineFault) → IsBody line body → fault_of_fields (split_fields body) ≡ Some fault → fault_of_line line ≡ Some fault
body_fault line body fault is e = ap fault_of_line is.line_is ∙ fault_of_body body is.short ∙ e

pub few_fields : (line body : List ℕ) → IsBody line body → length (split_fields body) ≤ 1024
few_fields line body is =
    omega (arith, is.short, length-slice_split (λ (byte : ℕ). byte == space) body, count_by-le-length (λ (byte : ℕ). byte == space) body)

pub spells_same : (line : List ℕ) (r : Result Call LineFault) (call x : Call) → r ≡ Ok call → Spells line call → r ≡ Ok x → Spells line x
spells_same line r call x read s e = let is : call ≡ x = cc in rw is at s

-- The two laws of a line.

pub record_exactly : (line : List ℕ) (r : Result Call LineFault) (x : Call) → record_of_line line ≡ r → ((call : Call) → r ≡ Ok call → Spells line call) → r ≡ Ok x ↔ (in_ranges x ≡ true) × (line ≡ spelling x)
record_exactly line r x is read =
    (λ ok. ((read x ok).in_ranges_is, (read x ok).line_is), λ spelled. sym is ∙ ap record_of_line spelled.1 ∙ spelling_read x spelled.0)

unless_fault : (o : Option LineFault) (call : Call) (fault : LineFault) → call_unless o call ≡ Err fault → o ≡ Some fault
unless_fault None call fault e = cc
unless_fault (Some f) call fault e = cc

pub fault_told : (line : List ℕ) (fault : LineFault) → record_of_line line ≡ Err fault → fault_of_line line ≡ Some fault
unfolding record_of_line
fault_told line fault e = unless_fault (fault_of_line line) (call_of_fields (split_fields (body_of line))) fault e

pub fault_exactly : (line : List ℕ) (r : Result Call LineFault) (fault : LineFault) → record_of_line line ≡ r → r ≡ Err fault ↔ (fault_of_line line ≡ Some fault)
fault_exactly line r fault is = (λ err. fault_told line fault (is ∙ err), λ told. sym is ∙ fault_read line fault told)

-- only a line with its line feed is read
feed_cases : (long ends : Bool) (o : Option LineFault) (call x : Call) → call_unless (cond long (Some TooLong) (cond ends o (Some NoLineFeed))) call ≡ Ok x → ends ≡ true
feed_cases true ends o call x e = cc
feed_cases false true o call x e = refl
feed_cases false false o call x e = cc

pub read_has_feed : (line : List ℕ) (x : Call) → record_of_line line ≡ Ok x → has_line_feed line ≡ true
unfolding record_of_line fault_of_line
read_has_feed line x e =
    feed_cases (nat_lt most_bytes (length line)) (has_line_feed line) (fault_of_fields (split_fields (body_of line))) (call_of_fields (split_fields (body_of line))) x e

-- a line of more than the most bytes is too long, whatever it holds
pub too_long : (line : List ℕ) → most_bytes < length line → record_of_line line ≡ Err TooLong
unfolding record_of_line fault_of_line
too_long line h = rw (lt_true most_bytes (length line) h) refl

-- a line that isn't too long lacks its line feed
pub no_line_feed : (line : List ℕ) → length line ≤ most_bytes → has_line_feed line ≡ false → record_of_line line ≡ Err NoLineFeed
unfolding record_of_line fault_of_line
no_line_feed line short h = rw (lt_false most_bytes (length line) short, h) refl
