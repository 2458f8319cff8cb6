-- What is known of a list that has ended: its sinks, its pending call, and the entries that stand in no line of their own.
use Rattle.std.proofs.Common.{◌≡◌, ◌∙◌, refl, sym, ap, subst, arith, ℕ, zero, suc, ◌+◌, ◌<◌, ◌≤◌, Bool, true, false, ◌&&◌, ◌||◌, ◌==◌, not, Option, Some, None, is_some, List, [], ◌∷◌, ◌++◌, map, take, drop}
use Rattle.std.specs.Prelude.{flat_map, if◌then◌else◌}
use Rattle.std.specs.List.{list_any}
use Rattle.std.proofs.lemmas.Bool.{eq-eqb, ne_eqb}
use Rattle.journals.specs.Journal.{Journal}
use Rattle.journals.specs.Lines.{Line}
use Rattle.journals.specs.Words.{is_call}
use Rattle.journals.specs.Entries.{listing_of}
use Rattle.journals.specs.declared.word.CallWord.{CallWord}
use Rattle.journals.specs.declared.word.Word.{Word}
use Rattle.journals.specs.declared.word.Word.TheVariants.{Call as CallLine, Report}
use Rattle.closing.specs.Entries.{Placed, Run, comes_always, entries_at, entries_from, entries_in, journal_at, placed_at, put_line, says_back}
use Rattle.closing.specs.Entry.{Choice}
use Rattle.closing.specs.Left.{Left as LeftSaid, left_by, left_if, left_said}
use Rattle.closing.specs.Pending.{PendingCall, is_pending, pending_by, pending_in, pending_of, sinks_from, sinks_of, unknown, pending_said}
use Rattle.closing.specs.RankComms.{RankComms, after_line, after_lines, comms_first}
use Rattle.closing.specs.Recording.{Listed, list_of}
use Rattle.closing.specs.Steps.{Id, Own, Whole, ReceiveHalf, Sink, Written}
use Rattle.closing.specs.inner.SoFar.{AreEarlier, comms_at, entries_left, placed_here}
use Rattle.closing.specs.inner.Taken.{IsKept, IsKnown, IsLeftOut, left_of, pending_at, pending_if, sinks_stand}
use Rattle.closing.specs.declared.choice.Calls.{Calls}
use Rattle.closing.specs.declared.choice.Tests.{Tests}
use Rattle.closing.specs.declared.choice.Unreported.{Unreported}
use Rattle.closing.specs.declared.choice.Unreported.TheVariants as unreported
use Rattle.closing.specs.declared.walk.Walk.{Walk}
use Rattle.closing.specs.declared.why.Why.{Why}
use Rattle.closing.specs.declared.why.Why.TheVariants.{NeverCameBack, NeverReported, Failed, NoNumber, TooLong, CannotBe, Stopped, Aborted, Full, Cut, NoJournal, NotJudged}
use Rattle.closing.proofs.ListLemmas.{AllOfLine}
use Rattle.closing.proofs.UnsunkLemmas.{AllUnsunk, IsUnsunk}

-- ---- Entries that stand in no line of their own ----

-- of a list that ends without a reason all are told
left_open : (rank : ℕ) (list : Listed) (one : Written) → list.why ≡ None → left_by rank list one ≡ left_of rank one
left_open rank list one e = by_start one.starts
  where
    by_bool : (said : List LeftSaid) (here ends : Bool) → ends ≡ false → (if here && ends then [] else said) ≡ said
    by_bool said false ends f = refl
    by_bool said true false f = refl
    by_bool said true true f = absurd (cc (f))

    by_start : (it : Option Id) → left_by rank list (record one { starts = it }) ≡ left_of rank (record one { starts = it })
    by_start None = refl
    by_start (Some (Own request)) = refl
    by_start (Some (Whole number)) = refl
    by_start (Some (ReceiveHalf number)) = refl
    by_start (Some (Sink own wanted is_known)) =
        by_bool (left_if rank one.line (Some (if is_known then NotJudged else NeverReported))) (one.line == list.line) (is_some list.why) (ap is_some e)

pub all_open : (rank : ℕ) (list : Listed) (records : List Written) → list.why ≡ None → flat_map (left_by rank list) records ≡ flat_map (left_of rank) records
all_open rank list [] e = refl
all_open rank list (one ∷ records) e =
    ap (λ (xs : List LeftSaid). xs ++ flat_map (left_by rank list) records) (left_open rank list one e)
    ∙ ap (λ (xs : List LeftSaid). left_of rank one ++ xs) (all_open rank list records e)

-- those before the line at which the list ends are told
left_before : (rank : ℕ) (list : Listed) (one : Written) → one.line < list.line → left_by rank list one ≡ left_of rank one
left_before rank list one h = by_start one.starts
  where
    by_start : (it : Option Id) → left_by rank list (record one { starts = it }) ≡ left_of rank (record one { starts = it })
    by_start None = refl
    by_start (Some (Own request)) = refl
    by_start (Some (Whole number)) = refl
    by_start (Some (ReceiveHalf number)) = refl
    by_start (Some (Sink own wanted is_known)) =
        ap (λ (here : Bool). if here && is_some list.why then [] else left_if rank one.line (Some (if is_known then NotJudged else NeverReported)))
        (ne_eqb one.line list.line (λ e. omega (arith, e, h)))

-- those at it aren't
left_at : (rank : ℕ) (list : Listed) (why : Why) (one : Written) → one.line ≡ list.line → list.why ≡ Some why → left_by rank list one ≡ []
left_at rank list why one h e = by_start one.starts
  where
    by_start : (it : Option Id) → left_by rank list (record one { starts = it }) ≡ []
    by_start None = refl
    by_start (Some (Own request)) = refl
    by_start (Some (Whole number)) = refl
    by_start (Some (ReceiveHalf number)) = refl
    by_start (Some (Sink own wanted is_known)) =
        let said : List LeftSaid = left_if rank one.line (Some (if is_known then NotJudged else NeverReported)) in
        ap (λ (here : Bool). if here && is_some list.why then [] else said) (eq-eqb one.line list.line h)
        ∙ ap (λ (ends : Option Why). if is_some ends then [] else said) e

-- no sink is told of
unsunk_at : (rank : ℕ) (list : Listed) (one : Written) → IsUnsunk one.starts → left_by rank list one ≡ []
unsunk_at rank list one h = by_start one.starts h
  where
    by_start : (it : Option Id) → IsUnsunk it → left_by rank list (record one { starts = it }) ≡ []
    by_start None none = refl
    by_start (Some (Own request)) none = refl
    by_start (Some (Whole number)) none = refl
    by_start (Some (ReceiveHalf number)) none = refl
    by_start (Some (Sink own wanted is_known)) none = absurd none

pub unsunk_left : (rank : ℕ) (list : Listed) (records : List Written) → AllUnsunk records → flat_map (left_by rank list) records ≡ []
unsunk_left rank list [] all = refl
unsunk_left rank list (one ∷ records) all =
    ap (λ (xs : List LeftSaid). xs ++ flat_map (left_by rank list) records) (unsunk_at rank list one all.0) ∙ unsunk_left rank list records all.1

left_all_at : (rank : ℕ) (list : Listed) (why : Why) (more : List Written) → AllOfLine list.line more → list.why ≡ Some why → flat_map (left_by rank list) more ≡ []
left_all_at rank list why [] all e = refl
left_all_at rank list why (one ∷ more) all e =
    ap (λ (xs : List LeftSaid). xs ++ flat_map (left_by rank list) more) (left_at rank list why one all.0 e)
    ∙ left_all_at rank list why more all.1 e

pub left_ends : (rank : ℕ) (list : Listed) (why : Why) (records more : List Written) → AreEarlier list.line records → AllOfLine list.line more → list.why ≡ Some why
    → flat_map (left_by rank list) (records ++ more) ≡ flat_map (left_of rank) records
left_ends rank list why [] more early all e = left_all_at rank list why more all e
left_ends rank list why (one ∷ records) more early all e =
    ap (λ (xs : List LeftSaid). xs ++ flat_map (left_by rank list) (records ++ more)) (left_before rank list one early.0)
    ∙ ap (λ (xs : List LeftSaid). left_of rank one ++ xs) (left_ends rank list why records more early.1 all e)

pub earlier_both : (line : ℕ) (xs ys : List Written) → AreEarlier line xs → AreEarlier line ys → AreEarlier line (xs ++ ys)
earlier_both line [] ys one two = two
earlier_both line (x ∷ xs) ys one two = (one.0, earlier_both line xs ys one.1 two)

pub earlier_more : (line other : ℕ) (xs : List Written) → line ≤ other → AreEarlier line xs → AreEarlier other xs
earlier_more line other [] h early = tt
earlier_more line other (x ∷ xs) h early = let first = early.0 in (omega (arith, h, first), earlier_more line other xs h early.1)

pub earlier_of : (line other : ℕ) (xs : List Written) → line < other → AllOfLine line xs → AreEarlier other xs
earlier_of line other [] h all = tt
earlier_of line other (x ∷ xs) h all = let first = all.0 in (omega (arith, h, first), earlier_of line other xs h all.1)

pub taken_of_line : (line n : ℕ) (xs : List Written) → AllOfLine line xs → AllOfLine line (take n xs)
taken_of_line line zero xs all = tt
taken_of_line line (suc n) [] all = tt
taken_of_line line (suc n) (x ∷ xs) all = (all.0, taken_of_line line n xs all.1)

-- ---- The pending call ----

not_pending : (list : Listed) (why : Option Why) (placed : Placed) → list.why ≡ why → (why ≡ Some NeverCameBack → ⊥) → is_pending list placed ≡ false
not_pending list why placed e other = by_why list.why (λ is. other (sym e ∙ is))
  where
    by_why : (found : Option Why) → (found ≡ Some NeverCameBack → ⊥) → is_pending (record list { why = found }) placed ≡ false
    by_why None h = refl
    by_why (Some NeverCameBack) h = absurd (h refl)
    by_why (Some NeverReported) h = refl
    by_why (Some Failed) h = refl
    by_why (Some NoNumber) h = refl
    by_why (Some TooLong) h = refl
    by_why (Some CannotBe) h = refl
    by_why (Some Stopped) h = refl
    by_why (Some Aborted) h = refl
    by_why (Some Full) h = refl
    by_why (Some Cut) h = refl
    by_why (Some NoJournal) h = refl
    by_why (Some NotJudged) h = refl

-- of a list that doesn't end since a call never came back
pub none_pending : (run : Run) (list : Listed) (why : Option Why) (entries : List Placed) → list.why ≡ why → (why ≡ Some NeverCameBack → ⊥)
    → pending_in run list entries ≡ unknown
none_pending run list why [] e other = refl
none_pending run list why (placed ∷ []) e other =
    ap (λ (b : Bool). if b then pending_by run list placed placed.called else unknown) (not_pending list why placed e other)
none_pending run list why (placed ∷ next ∷ others) e other = none_pending run list why (next ∷ others) e other

-- each entry has a line from this on
abbrev AreFrom : ℕ → List Placed → Type 0
AreFrom line [] = Unit {0}
AreFrom line (placed ∷ others) = (line ≤ placed.line) × AreFrom line others

from_more : (line other : ℕ) (entries : List Placed) → line ≤ other → AreFrom other entries → AreFrom line entries
from_more line other [] h from = tt
from_more line other (placed ∷ others) h from = let first = from.0 in (omega (arith, h, first), from_more line other others h from.1)

put_from : (rank : ℕ) (journal : Journal) (number : ℕ) (comms : RankComms) (line : Line) (lines : List Line) (others : List Placed) → AreFrom number others
    → (word : Word) → AreFrom number (put_line rank journal number comms (record line { word = word }) lines others)
put_from rank journal number comms line lines others from (CallLine word) = (omega arith, from)
put_from rank journal number comms line lines others from (Report word) = from

lines_from : (rank : ℕ) (journal : Journal) (number : ℕ) (comms : RankComms) (lines : List Line) → AreFrom number (entries_from rank journal number comms lines)
lines_from rank journal number comms [] = tt
lines_from rank journal number comms (line ∷ lines) =
    let others = entries_from rank journal (number + 1) (after_line comms line) lines in
    put_from rank journal number comms line lines others
    (from_more number (number + 1) others (omega arith) (lines_from rank journal (number + 1) (after_line comms line) lines)) line.word

put_among : (rank : ℕ) (journal : Journal) (number : ℕ) (comms : RankComms) (line : Line) (lines : List Line) (all : List Placed) (placed : Placed) (others : List Placed)
    → (all ≡ placed ∷ others → list_any (λ one. is_call one.word) lines ≡ true)
    → (word : Word) → put_line rank journal number comms (record line { word = word }) lines all ≡ placed ∷ others
    → (is_call word || list_any (λ one. is_call one.word) lines) ≡ true
put_among rank journal number comms line lines all placed others rest (CallLine word) e = refl
put_among rank journal number comms line lines all placed others rest (Report word) e = rest e

-- where an entry is, a call line is
call_among : (rank : ℕ) (journal : Journal) (number : ℕ) (comms : RankComms) (lines : List Line) (placed : Placed) (others : List Placed)
    → entries_from rank journal number comms lines ≡ placed ∷ others → list_any (λ line. is_call line.word) lines ≡ true
call_among rank journal number comms [] placed others e = absurd (cc (e))
call_among rank journal number comms (line ∷ lines) placed others e =
    put_among rank journal number comms line lines (entries_from rank journal (number + 1) (after_line comms line) lines) placed others
    (call_among rank journal (number + 1) (after_line comms line) lines placed others) line.word e

-- the line of the list's end is before them
past_pending : (run : Run) (list : Listed) (entries : List Placed) → AreFrom (list.line + 1) entries → pending_in run list entries ≡ unknown
past_pending run list [] from = refl
past_pending run list (placed ∷ []) from = ap (λ (b : Bool). if b then pending_by run list placed placed.called else unknown) (by_why list.why)
  where
    later : (placed.line == list.line) ≡ false
    later = let first = from.0 in ne_eqb placed.line list.line (λ e. omega (arith, e, first))

    both : (b c : Bool) → c ≡ false → (b && c) ≡ false
    both false c e = refl
    both true c e = e

    by_why : (found : Option Why) → is_pending (record list { why = found }) placed ≡ false
    by_why None = refl
    by_why (Some NeverCameBack) = both (not placed.came_back) (placed.line == list.line) later
    by_why (Some NeverReported) = refl
    by_why (Some Failed) = refl
    by_why (Some NoNumber) = refl
    by_why (Some TooLong) = refl
    by_why (Some CannotBe) = refl
    by_why (Some Stopped) = refl
    by_why (Some Aborted) = refl
    by_why (Some Full) = refl
    by_why (Some Cut) = refl
    by_why (Some NoJournal) = refl
    by_why (Some NotJudged) = refl
past_pending run list (placed ∷ next ∷ others) from = past_pending run list (next ∷ others) from.1

-- the entries before others are no rank's last
skips : (run : Run) (list : Listed) (earlier : List Placed) (placed : Placed) (others : List Placed)
    → pending_in run list (earlier ++ placed ∷ others) ≡ pending_in run list (placed ∷ others)
skips run list [] placed others = refl
skips run list (one ∷ []) placed others = refl
skips run list (one ∷ next ∷ earlier) placed others = skips run list (next ∷ earlier) placed others

-- that of a list that ends at this entry
at_entry : (run : Run) (placed : Placed) (others : List Placed) (list : Listed) (why : Why) → list.line ≡ placed.line → list.why ≡ Some why → AreFrom (placed.line + 1) others
    → ((next : Placed) (more : List Placed) → others ≡ next ∷ more → placed.came_back ≡ true) → pending_in run list (placed ∷ others) ≡ pending_if run placed list why
at_entry run placed [] list why at is from back = by_why why is
  where
    here : (b : Bool) → (if b && (placed.line == list.line) then pending_by run list placed placed.called else unknown) ≡ (if not b then unknown else pending_by run list placed placed.called)
    here false = refl
    here true = ap (λ (c : Bool). if c then pending_by run list placed placed.called else unknown) (eq-eqb placed.line list.line (sym at))

    turn : (b : Bool) → (if not (not b) then unknown else pending_by run list placed placed.called) ≡ (if b then unknown else pending_by run list placed placed.called)
    turn true = refl
    turn false = refl

    none : (one : Why) → list.why ≡ Some one → (one ≡ NeverCameBack → ⊥) → pending_in run list (placed ∷ []) ≡ unknown
    none one e other = none_pending run list (Some one) (placed ∷ []) e (λ same. other (cc (same)))

    never : (found : Option Why) → found ≡ Some NeverCameBack → is_pending (record list { why = found }) placed ≡ (not placed.came_back && (placed.line == list.line))
    never (Some NeverCameBack) e = refl
    never None e = absurd (cc (e))
    never (Some NeverReported) e = absurd (cc (e))
    never (Some Failed) e = absurd (cc (e))
    never (Some NoNumber) e = absurd (cc (e))
    never (Some TooLong) e = absurd (cc (e))
    never (Some CannotBe) e = absurd (cc (e))
    never (Some Stopped) e = absurd (cc (e))
    never (Some Aborted) e = absurd (cc (e))
    never (Some Full) e = absurd (cc (e))
    never (Some Cut) e = absurd (cc (e))
    never (Some NoJournal) e = absurd (cc (e))
    never (Some NotJudged) e = absurd (cc (e))

    by_why : (one : Why) → list.why ≡ Some one → pending_in run list (placed ∷ []) ≡ pending_if run placed list one
    by_why NeverCameBack e =
        ap (λ (b : Bool). if b then pending_by run list placed placed.called else unknown) (never list.why e) ∙ here (not placed.came_back) ∙ turn placed.came_back
    by_why NeverReported e = none NeverReported e (λ same. cc (same))
    by_why Failed e = none Failed e (λ same. cc (same))
    by_why NoNumber e = none NoNumber e (λ same. cc (same))
    by_why TooLong e = none TooLong e (λ same. cc (same))
    by_why CannotBe e = none CannotBe e (λ same. cc (same))
    by_why Stopped e = none Stopped e (λ same. cc (same))
    by_why Aborted e = none Aborted e (λ same. cc (same))
    by_why Full e = none Full e (λ same. cc (same))
    by_why Cut e = none Cut e (λ same. cc (same))
    by_why NoJournal e = none NoJournal e (λ same. cc (same))
    by_why NotJudged e = none NotJudged e (λ same. cc (same))
at_entry run placed (next ∷ more) list why at is from back =
    past_pending run list (next ∷ more) (subst (λ (n : ℕ). AreFrom (n + 1) (next ∷ more)) (sym at) from)
    ∙ sym (back_none why)
  where
    back_none : (one : Why) → pending_if run placed list one ≡ unknown
    back_none NeverCameBack = ap (λ (b : Bool). if b then unknown else pending_by run list placed placed.called) (back next more refl)
    back_none NeverReported = refl
    back_none Failed = refl
    back_none NoNumber = refl
    back_none TooLong = refl
    back_none CannotBe = refl
    back_none Stopped = refl
    back_none Aborted = refl
    back_none Full = refl
    back_none Cut = refl
    back_none NoJournal = refl
    back_none NotJudged = refl

-- ---- The entries of a rank ----

-- those of the lines before a place, and the others
put_split : (rank : ℕ) (journal : Journal) (number : ℕ) (comms : RankComms) (line : Line) (lines : List Line) (all rest earlier : List Placed) → all ≡ earlier ++ rest
    → (word : Word) → (before : List Placed) × (put_line rank journal number comms (record line { word = word }) lines all ≡ before ++ rest)
put_split rank journal number comms line lines all rest earlier e (CallLine word) =
    let first : Placed = placed_at rank journal number comms (record { word = word; fields = line.fields; reports = (listing_of lines).early }) lines in
    (first ∷ earlier, ap (λ (xs : List Placed). first ∷ xs) e)
put_split rank journal number comms line lines all rest earlier e (Report word) = (earlier, e)

split_at : (rank : ℕ) (journal : Journal) (place number : ℕ) (comms : RankComms) (lines : List Line)
    → (earlier : List Placed) × (entries_from rank journal number comms lines ≡ earlier ++ entries_from rank journal (number + place) (after_lines comms (take place lines)) (drop place lines))
split_at rank journal zero number comms lines =
    let same : number ≡ number + 0 = omega arith in ([], ap (λ (n : ℕ). entries_from rank journal n comms lines) same)
split_at rank journal (suc place) number comms [] = ([], refl)
split_at rank journal (suc place) number comms (line ∷ lines) =
    let two = split_at rank journal place (number + 1) (after_line comms line) lines in
    let same : number + 1 + place ≡ number + suc place = omega arith in
    put_split rank journal number comms line lines (entries_from rank journal (number + 1) (after_line comms line) lines)
    (entries_from rank journal (number + suc place) (after_lines (after_line comms line) (take place lines)) (drop place lines)) two.0
    (two.1 ∙ ap (λ (n : ℕ). two.0 ++ entries_from rank journal n (after_lines (after_line comms line) (take place lines)) (drop place lines)) same) line.word

pub entries_split : (run : Run) (rank : ℕ) (journal : Journal) (place : ℕ) → journal_at run rank ≡ Some journal
    → (earlier : List Placed) × (entries_at run rank ≡ earlier ++ entries_left rank journal place)
entries_split run rank journal place there =
    let two = split_at rank journal place 2 (comms_first rank) journal.lines in
    let same : 2 + place ≡ place + 2 = omega arith in (
      two.0,
      ap (entries_in rank) there ∙ two.1
          ∙ ap (λ (n : ℕ). two.0 ++ entries_from rank journal n (comms_at rank journal.lines place) (drop place journal.lines)) same,
    )

-- the pending call of a list that ends at an entry of a rank
pub pending_here : (run : Run) (rank : ℕ) (journal : Journal) (place : ℕ) (word : CallWord) (list : Listed) (why : Why) → journal_at run rank ≡ Some journal
    → entries_left rank journal place ≡ placed_here rank journal place word ∷ entries_left rank journal (place + 1) → list.line ≡ place + 2 → list.why ≡ Some why
    → pending_in run list (entries_at run rank) ≡ pending_if run (placed_here rank journal place word) list why
pending_here run rank journal place word list why there left at is =
    let placed = placed_here rank journal place word in
    let others = entries_left rank journal (place + 1) in
    let split = entries_split run rank journal place there in
    let later = drop (place + 1) journal.lines in
    let same : place + 1 + 2 ≡ place + 2 + 1 = omega arith in
    let back : (next : Placed) (more : List Placed) → others ≡ next ∷ more → placed.came_back ≡ true =
    λ next more e.
    ap (λ (b : Bool). b || journal.heading.is_outside || list_any (λ line. says_back line.word) placed.entry.reports || comes_always word)
    (call_among rank journal (place + 1 + 2) (comms_at rank journal.lines (place + 1)) later next more e) in
    ap (pending_in run list) (split.1 ∙ ap (λ (xs : List Placed). split.0 ++ xs) left)
    ∙ skips run list split.0 placed others
    ∙ at_entry run placed others list why at is
    (subst (λ (n : ℕ). AreFrom n others) same (lines_from rank journal (place + 1 + 2) (comms_at rank journal.lines (place + 1)) later)) back

-- ---- All that is known ----

-- what is known, of the list that is the rank's
pub record IsKnownOf (run : Run) (choice : Choice) (rank : ℕ) (list : Listed) (walk : Walk) : Type 0 where
  pub sinks : walk.sinks.all.items ≡ sinks_of list
  pub pending : pending_said walk.pending ≡ (if sinks_stand choice.unreported then pending_in run list (entries_at run rank) else unknown)
  pub left_out : map (left_said rank) walk.left_out.items ≡ flat_map (left_by rank list) list.records

pending_by_choice : (run : Run) (which : Tests) (calls : Calls) (u : Unreported) (rank : ℕ) (list : Listed)
    → list_of run (record { tests = which; calls = calls; unreported = u }) rank ≡ list
    → (if sinks_stand u then pending_in run list (entries_at run rank) else unknown) ≡ pending_of run (record { tests = which; calls = calls; unreported = u }) rank
pending_by_choice run which calls unreported.Ends rank list e = refl
pending_by_choice run which calls unreported.Sinks rank list e = ap (λ (it : Listed). pending_in run it (entries_at run rank)) (sym e)

pub known_of : (run : Run) (choice : Choice) (rank : ℕ) (list : Listed) (walk : Walk) → walk.rank ≡ rank → list_of run choice rank ≡ list
    → IsKnownOf run choice rank list walk → IsKnown run choice walk
known_of run choice rank list walk rank_is e known = record {
  sinks = known.sinks ∙ ap sinks_of (sym e) ∙ ap (λ (n : ℕ). sinks_of (list_of run choice n)) (sym rank_is);
  pending = known.pending ∙ pending_by_choice run choice.tests choice.calls choice.unreported rank list e ∙ ap (pending_of run choice) (sym rank_is);
  left_out =
      subst (λ (n : ℕ). map (left_said n) walk.left_out.items ≡ flat_map (left_by n (list_of run choice n)) (list_of run choice n).records) (sym rank_is)
      (subst (λ (it : Listed). map (left_said rank) walk.left_out.items ≡ flat_map (left_by rank it) it.records) (sym e) known.left_out);
}

unknown_both : (b : Bool) (it : PendingCall) → it ≡ unknown → unknown ≡ (if b then it else unknown)
unknown_both true it e = sym e
unknown_both false it e = refl

-- of one that ends without a reason
pub known_open : (run : Run) (choice : Choice) (rank : ℕ) (list : Listed) (walk : Walk) → walk.rank ≡ rank → list.why ≡ None → IsKept list.records walk
    → IsKnownOf run choice rank list walk
known_open run choice rank list walk rank_is why kept = record {
  sinks = kept.sinks.all;
  pending = kept.pending ∙ unknown_both (sinks_stand choice.unreported) (pending_in run list (entries_at run rank))
      (none_pending run list None (entries_at run rank) why (λ e. cc (e)));
  left_out = subst (λ (n : ℕ). map (left_said n) walk.left_out.items ≡ flat_map (left_of n) list.records) rank_is kept.left_out
      ∙ sym (all_open rank list list.records why);
}

-- of one that is too long
pub known_long : (run : Run) (choice : Choice) (rank : ℕ) (list : Listed) (records more : List Written) (walk : Walk) → walk.rank ≡ rank → list.why ≡ Some TooLong
    → list.records ≡ records ++ more → AreEarlier list.line records → AllOfLine list.line more → sinks_from 0 list.records ≡ sinks_from 0 records → IsKept records walk
    → IsKnownOf run choice rank list walk
known_long run choice rank list records more walk rank_is why e early all same kept = record {
  sinks = kept.sinks.all ∙ sym same;
  pending = kept.pending ∙ unknown_both (sinks_stand choice.unreported) (pending_in run list (entries_at run rank))
      (none_pending run list (Some TooLong) (entries_at run rank) why (λ found. cc (found)));
  left_out = subst (λ (n : ℕ). map (left_said n) walk.left_out.items ≡ flat_map (left_of n) records) rank_is kept.left_out
      ∙ sym (ap (flat_map (left_by rank list)) e ∙ left_ends rank list TooLong records more early all why);
}

-- of one that ends at an entry
pub known_ends : (run : Run) (choice : Choice) (placed : Placed) (rank : ℕ) (list : Listed) (why : Why) (records more : List Written) (walk : Walk) → walk.rank ≡ rank → list.why ≡ Some why
    → list.records ≡ records ++ more → AreEarlier list.line records → AllOfLine list.line more → walk.sinks.all.items ≡ sinks_from 0 list.records
    → pending_said walk.pending ≡ pending_at run choice placed list why → pending_in run list (entries_at run rank) ≡ pending_if run placed list why → IsLeftOut records walk
    → IsKnownOf run choice rank list walk
known_ends run choice placed rank list why records more walk rank_is why_is e early all sinks pending here left_out = record {
  sinks = sinks;
  pending = pending ∙ sym (ap (λ (it : PendingCall). if sinks_stand choice.unreported then it else unknown) here);
  left_out = subst (λ (n : ℕ). map (left_said n) walk.left_out.items ≡ flat_map (left_of n) records) rank_is left_out
      ∙ sym (ap (flat_map (left_by rank list)) e ∙ left_ends rank list why records more early all why_is);
}
