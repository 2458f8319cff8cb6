-- The reports of an entry, line by line, and the last call line.
use Rattle.std.proofs.Common.{◌≡◌, refl, eq-eqb, ne_eqb, sym, ap, subst, ◌∙◌, ℕ, zero, suc, ◌+◌, ◌≤◌, ◌<◌, add-one, arith, Bool, true, false, ◌||◌, ◌==◌, List, [], ◌∷◌, length, drop, Option, Some, None, inl, inr, ◌⊎◌}
use Rattle.std.specs.Prelude.{slice_get}
use Rattle.std.proofs.lemmas.Option.{slice_get_past}
use Rattle.std.proofs.lemmas.Bool.{cases_order, false≢true}
use Rattle.journals.specs.Lines.{Line}
use Rattle.journals.specs.Words.{is_call}
use Rattle.journals.specs.Taking.{word_at}
use Rattle.journals.specs.declared.field.Field.{Field}
use Rattle.journals.specs.declared.word.Word.{Word}
use Rattle.journals.specs.declared.word.Word.TheVariants.{Call, Report}
use Rattle.journals.specs.declared.word.CallWord.{CallWord}
use Rattle.journals.specs.declared.word.ReportWord.{ReportWord}
use Rattle.journals.specs.declared.word.ReportWord.TheVariants as report
use Rattle.closing.specs.Entries.{says_back, comes_always}
use Rattle.closing.specs.inner.Noted.{AreReports, SaysWith, IsLastCall, CameLast, IsSeenFrom, came_back_at, comes_back, has_call, say_back, some_report, first_place, line_or, noted, report_if, reports_in}
use Rattle.closing.specs.declared.last.Reports.{Reports}
use Rattle.closing.specs.declared.last.LastCall.{LastCall}

-- ---- Lines at places ----

-- the lines from a place on are the line there and those after it
pub drop_slice : {X : Type 0} (xs : List X) (n : ℕ) (x : X) → slice_get xs n ≡ Some x → drop n xs ≡ x ∷ drop (suc n) xs
drop_slice [] zero x e = cc
drop_slice [] (suc n) x e = cc
drop_slice (y ∷ ys) zero x e = cc
drop_slice (y ∷ ys) (suc n) x e = drop_slice ys n x e

pub drop_none : {X : Type 0} (xs : List X) (n : ℕ) → slice_get xs n ≡ None → drop n xs ≡ []
drop_none [] zero e = refl
drop_none [] (suc n) e = refl
drop_none (y ∷ ys) zero e = cc
drop_none (y ∷ ys) (suc n) e = drop_none ys n e

pub drop_none_more : {X : Type 0} (xs : List X) (n : ℕ) → slice_get xs n ≡ None → drop (suc n) xs ≡ []
drop_none_more [] n e = refl
drop_none_more (y ∷ ys) zero e = cc
drop_none_more (y ∷ ys) (suc n) e = drop_none_more ys n e

drop_past : {X : Type 0} (xs : List X) (n : ℕ) → length xs ≤ n → drop n xs ≡ []
drop_past xs n h = drop_none xs n (slice_get_past xs n h)

abbrev pub line_of : Word → List Field → Line
line_of word fields = record { word = word; fields = fields }

same_line : (x : Line) (word : Word) → x.word ≡ word → Some x ≡ Some (line_of word x.fields)
same_line x word e = let P : Word → Type 0 = λ w. Some x ≡ Some (line_of w x.fields) in subst P e refl

same_word : (x : Line) (word : Word) → Some x.word ≡ Some word → x.word ≡ word
same_word x word e = cc

-- there is a line with the word that stands at a place
pub line_with_word : (lines : List Line) (n : ℕ) (word : Word) → word_at lines n ≡ Some word → (fields : List Field) × (slice_get lines n ≡ Some (line_of word fields))
line_with_word [] n word e = absurd (cc)
line_with_word (x ∷ xs) zero word e = (x.fields, same_line x word (same_word x word e))
line_with_word (x ∷ xs) (suc n) word e = line_with_word xs n word e

no_line : (lines : List Line) (n : ℕ) → word_at lines n ≡ None → slice_get lines n ≡ None
no_line [] n e = refl
no_line (x ∷ xs) zero e = absurd (cc)
no_line (x ∷ xs) (suc n) e = no_line xs n e

-- the lines from a place with a word on
pub lines_from : (lines : List Line) (n : ℕ) (word : Word) → word_at lines n ≡ Some word → (fields : List Field) × ((slice_get lines n ≡ Some (line_of word fields)) × (drop n lines ≡ line_of word fields ∷ drop (n + 1) lines))
lines_from lines n word e =
    let it = line_with_word lines n word e in
    (it.0, (it.1, rw add-one (drop_slice lines n (line_of word it.0) it.1)))

-- ---- Tests ----

or_true : (b : Bool) → (b || true) ≡ true
or_true true = refl
or_true false = refl

or_false : (b : Bool) → (b || false) ≡ b
or_false true = refl
or_false false = refl

or_middle : (a b c : Bool) → ((a || c) || b) ≡ (a || (b || c))
or_middle true b c = refl
or_middle false true c = or_true c
or_middle false false c = or_false c

came_by : (calls outside says always back : Bool) → calls ≡ false → back ≡ (outside || says) → (back || always) ≡ (((calls || outside) || says) || always)
came_by calls outside says always back none e =
    let k : ((calls || outside) || says) ≡ (outside || says) = ap (λ b. (b || outside) || says) none in
    ap (λ b. b || always) (e ∙ sym k)

-- ---- Reports ----

first_step : (lines : List Line) (first : Option ℕ) (n : ℕ) (x : Line) (other all : Option Line) → slice_get lines n ≡ Some x → line_or lines first (Some x) ≡ all → line_or lines (first_place first n) other ≡ all
first_step lines None n x other all e h = cc
first_step lines (Some place) n x other all e h = h

failed_step : (had others all : Bool) → (had || true) ≡ all → (true || others) ≡ all
failed_step had others all h = sym (or_true had) ∙ h

-- a report that is noted
pub says_step : (lines all others : List Line) (it : Reports) (word : ReportWord) (fields : List Field) (n : ℕ) → slice_get lines n ≡ Some (line_of (Report word) fields) → SaysWith lines all (line_of (Report word) fields ∷ others) it → SaysWith lines all others (noted it word n)
says_step lines all others it report.Got fields n e h = record { got = first_step lines it.got n _ _ _ e h.got; chose = h.chose; comm = h.comm; has_failed = h.has_failed }
says_step lines all others it report.Chose fields n e h = record { got = h.got; chose = first_step lines it.chose n _ _ _ e h.chose; comm = h.comm; has_failed = h.has_failed }
says_step lines all others it report.Comm fields n e h = record { got = h.got; chose = h.chose; comm = first_step lines it.comm n _ _ _ e h.comm; has_failed = h.has_failed }
says_step lines all others it report.Failed fields n e h = record { got = h.got; chose = h.chose; comm = h.comm; has_failed = failed_step it.has_failed (some_report report.Failed others) (some_report report.Failed all) h.has_failed }
says_step lines all others it report.Done fields n e h = record { got = h.got; chose = h.chose; comm = h.comm; has_failed = h.has_failed }
says_step lines all others it report.Gone fields n e h = record { got = h.got; chose = h.chose; comm = h.comm; has_failed = h.has_failed }
says_step lines all others it report.Kept fields n e h = record { got = h.got; chose = h.chose; comm = h.comm; has_failed = h.has_failed }
says_step lines all others it report.Moved fields n e h = record { got = h.got; chose = h.chose; comm = h.comm; has_failed = h.has_failed }
says_step lines all others it report.Idup fields n e h = record { got = h.got; chose = h.chose; comm = h.comm; has_failed = h.has_failed }
says_step lines all others it report.NoComm fields n e h = record { got = h.got; chose = h.chose; comm = h.comm; has_failed = h.has_failed }
says_step lines all others it report.Apart fields n e h = record { got = h.got; chose = h.chose; comm = h.comm; has_failed = h.has_failed }

-- what is noted doesn't ask where the reports end
pub says_end : (lines all others : List Line) (it : Reports) (end : ℕ) → SaysWith lines all others it → SaysWith lines all others (record it { end = end })
says_end lines all others it end h = record { got = h.got; chose = h.chose; comm = h.comm; has_failed = h.has_failed }

-- a report at a place is noted, and the next place is the end
pub says_more : (lines all : List Line) (it : Reports) (word : ReportWord) (n : ℕ) → word_at lines n ≡ Some (Report word) → SaysWith lines all (reports_in (drop n lines)) it → SaysWith lines all (reports_in (drop (n + 1) lines)) (noted it word n)
says_more lines all it word n e h =
    let at = lines_from lines n (Report word) e in
    let from : drop n lines ≡ line_of (Report word) at.0 ∷ drop (n + 1) lines = at.1.1 in
    let P : List Line → Type 0 = λ xs. SaysWith lines all (reports_in xs) it in
    says_step lines all (reports_in (drop (n + 1) lines)) it word at.0 n at.1.0 (subst P from h)

pub count_more : (lines : List Line) (word : ReportWord) (n all : ℕ) → word_at lines n ≡ Some (Report word) → n + length (reports_in (drop n lines)) ≡ all → n + 1 + length (reports_in (drop (n + 1) lines)) ≡ all
count_more lines word n all e h =
    let at = lines_from lines n (Report word) e in
    let P : List Line → Type 0 = λ xs. n + length (reports_in xs) ≡ all in
    let k : n + length (line_of (Report word) at.0 ∷ reports_in (drop (n + 1) lines)) ≡ all = subst P at.1.1 h in
    omega arith

-- at their end all is said
pub says_all : (lines all : List Line) (it : Reports) (start : ℕ) → SaysWith lines all [] it → it.end ≡ start + length all → AreReports lines start all it
says_all lines all it start h e = record { got = h.got; chose = h.chose; comm = h.comm; has_failed = sym (or_false it.has_failed) ∙ h.has_failed; end = e }

-- no report is where a call line is, or none
pub none_at_call : (lines : List Line) (word : CallWord) (n : ℕ) → word_at lines n ≡ Some (Call word) → reports_in (drop n lines) ≡ []
none_at_call lines word n e =
    let at = lines_from lines n (Call word) e in ap reports_in at.1.1

pub none_at_none : (lines : List Line) (n : ℕ) → word_at lines n ≡ None → reports_in (drop n lines) ≡ []
none_at_none lines n e = ap reports_in (drop_none lines n (no_line lines n e))

report_word : (it : Option Word) (word : ReportWord) → Some word ≡ report_if it → it ≡ Some (Report word)
report_word None word e = absurd (cc (e))
report_word (Some (Call other)) word e = absurd (cc (e))
report_word (Some (Report other)) word e = let k : other ≡ word = cc in ap (λ w. Some (Report w)) k

-- a report stands there
pub report_there : (lines : List Line) (word : ReportWord) (n : ℕ) → Some word ≡ report_if (word_at lines n) → word_at lines n ≡ Some (Report word)
report_there lines word n e = report_word (word_at lines n) word e

by_word : (lines : List Line) (n : ℕ) (it : Option Word) → word_at lines n ≡ it → None ≡ report_if it → reports_in (drop n lines) ≡ []
by_word lines n None e h = none_at_none lines n e
by_word lines n (Some (Call word)) e h = none_at_call lines word n e
by_word lines n (Some (Report word)) e h = absurd (cc (h))

-- none does
pub none_there : (lines : List Line) (n : ℕ) → None ≡ report_if (word_at lines n) → reports_in (drop n lines) ≡ []
none_there lines n h = by_word lines n (word_at lines n) refl h

-- where no reports are left all is said
pub says_last : (lines all : List Line) (it : Reports) (start n : ℕ) → SaysWith lines all (reports_in (drop n lines)) it → it.end ≡ n → n + length (reports_in (drop n lines)) ≡ start + length all → reports_in (drop n lines) ≡ [] → AreReports lines start all it
says_last lines all it start n h end count none =
    let P : List Line → Type 0 = λ xs. SaysWith lines all xs it in
    let k : length (reports_in (drop n lines)) ≡ 0 = ap length none in
    says_all lines all it start (subst P none h) (omega arith)

pub none_past : (lines : List Line) (n : ℕ) → length lines ≤ n → reports_in (drop n lines) ≡ []
none_past lines n h = ap reports_in (drop_past lines n h)

pub says_none : (lines all : List Line) → SaysWith lines all all (record { got = None; chose = None; comm = None; has_failed = false; end = 0 })
says_none lines all = record { got = refl; chose = refl; comm = refl; has_failed = refl }

-- ---- The last call line ----

pub seen_first : (lines : List Line) (outside : Bool) (n : ℕ) → n ≡ length lines → IsSeenFrom lines outside n outside
seen_first lines outside n e =
    let past : drop n lines ≡ [] = drop_past lines n (omega arith) in
    record { none = ap has_call past; back = sym (ap (λ xs. outside || say_back (reports_in xs)) past ∙ or_false outside) }

-- with a report before the lines from a place on, no call comes
pub seen_report : (lines : List Line) (word : ReportWord) (n m : ℕ) (back outside : Bool) → m ≡ n + 1 → word_at lines n ≡ Some (Report word) → IsSeenFrom lines outside m back → IsSeenFrom lines outside n (back || says_back (Report word))
seen_report lines word n m back outside next e h =
    let at = lines_from lines n (Report word) e in
    let rest = drop m lines in
    let from : drop n lines ≡ line_of (Report word) at.0 ∷ rest = rw next at.1.1 in
    let k : say_back (reports_in (drop n lines)) ≡ (says_back (Report word) || say_back (reports_in rest)) = ap (λ xs. say_back (reports_in xs)) from in
    let swapped : ((outside || say_back (reports_in rest)) || says_back (Report word)) ≡ (outside || (says_back (Report word) || say_back (reports_in rest))) = or_middle outside (says_back (Report word)) (say_back (reports_in rest)) in
    record { none = ap has_call from ∙ h.none; back = ap (λ b. b || says_back (Report word)) h.back ∙ swapped ∙ sym (ap (λ b. outside || b) k) }

pub seen_kept : (lines : List Line) (word : ReportWord) (n m : ℕ) (back outside : Bool) → m ≡ n + 1 → word_at lines n ≡ Some (Report word) → back ≡ true → IsSeenFrom lines outside m back → IsSeenFrom lines outside n back
seen_kept lines word n m back outside next e kept h =
    let k : (back || says_back (Report word)) ≡ back = ap (λ b. b || says_back (Report word)) kept ∙ sym kept in
    let P : Bool → Type 0 = λ b. IsSeenFrom lines outside n b in
    subst P k (seen_report lines word n m back outside next e h)

pub seen_said : (lines : List Line) (word : ReportWord) (n m : ℕ) (back outside said : Bool) → m ≡ n + 1 → word_at lines n ≡ Some (Report word) → back ≡ false → said ≡ says_back (Report word) → IsSeenFrom lines outside m back → IsSeenFrom lines outside n said
seen_said lines word n m back outside said next e kept says h =
    let k : (back || says_back (Report word)) ≡ said = ap (λ b. b || says_back (Report word)) kept ∙ sym says in
    let P : Bool → Type 0 = λ b. IsSeenFrom lines outside n b in
    subst P k (seen_report lines word n m back outside next e h)

pub seen_none : (lines : List Line) (n m : ℕ) (back outside : Bool) → m ≡ n + 1 → word_at lines n ≡ None → IsSeenFrom lines outside m back → IsSeenFrom lines outside n back
seen_none lines n m back outside next e h =
    let here : drop n lines ≡ [] = drop_none lines n (no_line lines n e) in
    let past : drop m lines ≡ [] = rw (next, add-one) (drop_none_more lines n (no_line lines n e)) in
    let P : List Line → Type 0 = λ xs. back ≡ (outside || say_back (reports_in xs)) in
    record { none = ap has_call here; back = subst P (sym here) (subst P past h.back) }

-- the last call line is found
pub last_found : (lines : List Line) (word : CallWord) (n m : ℕ) (back outside : Bool) → m ≡ n + 1 → word_at lines n ≡ Some (Call word) → IsSeenFrom lines outside m back → IsLastCall lines outside (Some (record { line = n; came_back = back || comes_always word }))
last_found lines word n m back outside next e h =
    let P : ℕ → Type 0 = λ k. IsSeenFrom lines outside k back in
    let seen : IsSeenFrom lines outside (n + 1) back = subst P next h in
    let k : (back || comes_always word) ≡ comes_back outside word (drop (n + 1) lines) = came_by (has_call (drop (n + 1) lines)) outside (say_back (reports_in (drop (n + 1) lines))) (comes_always word) back seen.none seen.back in
    (word, record { at = e; none = seen.none; back = k })

pub last_none : (lines : List Line) (n : ℕ) (back outside : Bool) → n ≡ 0 → IsSeenFrom lines outside n back → IsLastCall lines outside None
last_none lines n back outside e h =
    let P : ℕ → Type 0 = λ k. IsSeenFrom lines outside k back in
    let seen : IsSeenFrom lines outside 0 back = subst P e h in seen.none

-- ---- Which calls came back ----

call_is : (x : Line) (word : CallWord) → Some x.word ≡ Some (Call word) → is_call x.word ≡ true
call_is x word e = let k : x.word ≡ Call word = cc in rw k refl

-- a call line from a place on is found
pub call_after : (lines : List Line) (a n : ℕ) (word : CallWord) → a ≤ n → word_at lines n ≡ Some (Call word) → has_call (drop a lines) ≡ true
call_after [] a n word h e = absurd (cc)
call_after (x ∷ xs) zero zero word h e = rw (call_is x word e) refl
call_after (x ∷ xs) zero (suc n) word h e = ap (λ b. is_call x.word || b) (call_after xs zero n word (omega arith) e) ∙ or_true (is_call x.word)
call_after (x ∷ xs) (suc a) zero word h e = absurd (omega arith)
call_after (x ∷ xs) (suc a) (suc n) word h e = call_after xs a n word (omega arith) e

true_or : (a b c d : Bool) → a ≡ true → (((a || b) || c) || d) ≡ true
true_or a b c d e = rw e refl

same_back : (lines : List Line) (outside : Bool) (last : LastCall) (word other : CallWord) → CameLast lines outside last other → word_at lines last.line ≡ Some (Call word) → comes_back outside word (drop (last.line + 1) lines) ≡ last.came_back
same_back lines outside last word other h e =
    let k : word ≡ other = cc (h.at) in
    let P : CallWord → Type 0 = λ w. comes_back outside w (drop (last.line + 1) lines) ≡ last.came_back in
    subst P (sym k) (sym h.back)

by_order : (lines : List Line) (outside : Bool) (last : LastCall) (place : ℕ) (word other : CallWord) → CameLast lines outside last other → word_at lines place ≡ Some (Call word) → (place ≡ last.line) ⊎ ((place < last.line) ⊎ (last.line < place)) → comes_back outside word (drop (place + 1) lines) ≡ came_back_at (Some last) place
by_order lines outside last place word other h e (inl same) =
    let P : ℕ → Type 0 = λ n. comes_back outside word (drop (n + 1) lines) ≡ came_back_at (Some last) n in
    let here : word_at lines last.line ≡ Some (Call word) = subst (λ (n : ℕ). word_at lines n ≡ Some (Call word)) same e in
    let k : came_back_at (Some last) last.line ≡ last.came_back = rw (eq-eqb last.line last.line refl) refl in
    subst P (sym same) (same_back lines outside last word other h here ∙ sym k)
by_order lines outside last place word other h e (inr (inl before)) =
    let k = call_after lines (place + 1) last.line other (omega arith) h.at in
    let test : (last.line == place) ≡ false = ne_eqb last.line place (λ same. absurd (omega arith)) in
    let right : came_back_at (Some last) place ≡ true = rw test refl in
    rw (k, right) refl
by_order lines outside last place word other h e (inr (inr after)) =
    let k : has_call (drop (last.line + 1) lines) ≡ true = call_after lines (last.line + 1) place word (omega arith) e in
    absurd (false≢true (sym h.none ∙ k))

-- the call at a place came back by the last call line
pub came_back_of : (lines : List Line) (outside : Bool) (last : Option LastCall) (place : ℕ) (word : CallWord) → IsLastCall lines outside last → word_at lines place ≡ Some (Call word) → comes_back outside word (drop (place + 1) lines) ≡ came_back_at last place
came_back_of lines outside None place word h e = absurd (false≢true (sym h ∙ call_after lines 0 place word (omega arith) e))
came_back_of lines outside (Some last) place word h e = by_order lines outside last place word h.0 h.1 e (cases_order place last.line)
