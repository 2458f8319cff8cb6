-- What the list of a plain journal has so far stays as it is when the journal goes on.
use Rattle.std.proofs.Common.{◌≡◌, ℕ, ◌+◌, ◌||◌, Bool, true, false, Option, Some, None, if◌then◌else◌, List, [], ◌∷◌, ◌++◌, refl, sym, ap, ◌∙◌, append_assoc, append-nil}
use Rattle.std.specs.Prelude.{is_none, ⊤}
use Rattle.std.proofs.lemmas.Bool.{or_parts, false≢true}
use Rattle.std.proofs.lemmas.List.Folds.{list_any-append}
use Rattle.std.proofs.lemmas.Option.{none-some}
use Rattle.mpicall.specs.Word.{or_else}
use Rattle.journals.specs.Lines.{Line}
use Rattle.journals.specs.Entries.{listing_of, put_line, Listing}
use Rattle.journals.specs.Journal.{Journal}
use Rattle.journals.specs.Known.{is_any}
use Rattle.journals.specs.declared.field.Field.{Field}
use Rattle.journals.specs.declared.field.Field.TheVariants.{Natural, Signed, Null, Any, Undefined}
use Rattle.journals.specs.declared.word.Word.{Word}
use Rattle.journals.specs.declared.word.Word.TheVariants.{Call as CallLine, Report}
use Rattle.closing.specs.Called.{Awaited, called}
use Rattle.closing.specs.RankComms.{RankComms, after_line}
use Rattle.closing.specs.Entries.{Run, Placed, entries_from, did_come_back}
use Rattle.closing.specs.Reported.{Message, done_in, done_of, is_gone, says_gone, message_of, message_from, with_wildcards, is_moved, says_moved}
use Rattle.closing.specs.Steps.{Step, Does, Starts, WaitsForAll, WaitsForOne, PutsOff, WaitsForLate, Written, Progress, number_in, wait_one, after_step, after_steps}
use Rattle.closing.specs.Entry.{Choice, matched_in, matched_message}
use Rattle.closing.specs.Recording.{Listed, outcome_in, go_on, list_from}
use Rattle.closing.specs.Sinks.{Outcome, GoesOn, Ends}

-- ---- Lists only grow ----

abbrev pub Grows : List Written → List Written → Type 0
Grows old new = (rest : List Written) × (new ≡ old ++ rest)

pub grows_both : (one two three : List Written) → Grows one two → Grows two three → Grows one three
grows_both one two three first second =
    (first.0 ++ second.0, second.1 ∙ ap (λ (all : List Written). all ++ second.0) first.1 ∙ append_assoc one first.0 second.0)

grows_none : (old : List Written) → Grows old old
grows_none old = ([], sym (append-nil old))

one_grows : (progress : Progress) (line : ℕ) (o : Option ℕ) (numbers : List ℕ) → Grows progress.records (wait_one progress line o numbers).records
one_grows progress line None numbers = grows_none progress.records
one_grows progress line (Some number) numbers = (_, refl)

step_grows : (progress : Progress) (line : ℕ) (step : Step) → Grows progress.records (after_step progress line step).records
step_grows progress line (Does call) = (_, refl)
step_grows progress line (Starts id call) = (_, refl)
step_grows progress line (WaitsForAll ids) = (_, refl)
step_grows progress line (WaitsForOne id ids) = one_grows progress line (number_in progress.active id) _
step_grows progress line (PutsOff ids) = grows_none progress.records
step_grows progress line WaitsForLate = (_, refl)

pub steps_grow : (progress : Progress) (line : ℕ) (steps : List Step) → Grows progress.records (after_steps progress line steps).records
steps_grow progress line [] = grows_none progress.records
steps_grow progress line (step ∷ steps) =
    grows_both progress.records (after_step progress line step).records (after_steps (after_step progress line step) line steps).records
    (step_grows progress line step) (steps_grow (after_step progress line step) line steps)

outcome_grows : (progress : Progress) (line : ℕ) (outcome : Outcome) (others : Progress → Listed) → ((new : Progress) → Grows new.records (others new).records) → Grows progress.records (go_on progress line outcome others).records
outcome_grows progress line (GoesOn steps) others rest =
    grows_both progress.records (after_steps progress line steps).records (others (after_steps progress line steps)).records
    (steps_grow progress line steps) (rest (after_steps progress line steps))
outcome_grows progress line (Ends steps end why) others rest = steps_grow progress line steps

pub list_grows : (run : Run) (choice : Choice) (entries : List Placed) (progress : Progress) → Grows progress.records (list_from run choice progress entries).records
list_grows run choice [] progress = grows_none progress.records
list_grows run choice (placed ∷ others) progress =
    outcome_grows progress placed.line (outcome_in run choice progress.records placed) (λ new. list_from run choice new others) (λ new. list_grows run choice others new)

-- ---- Entries of the longer journal ----

abbrev pub with_later : Placed → Journal → Bool → Placed
with_later placed later back = record placed { journal = later; came_back = back }

-- the entries of the longer journal begin with those of the other
abbrev pub AreAlike : List Line → Journal → List Placed → List Placed → Type 0
AreAlike lines later [] others = ⊤
AreAlike lines later (placed ∷ entries) [] = ⊥
AreAlike lines later (placed ∷ entries) (other ∷ others) =
    ((back : Bool) × (other ≡ with_later placed later back) × (placed.journal.lines ≡ lines)) × AreAlike lines later entries others

early_put : (word : Word) (fields : List Field) (rest other : Listing) → other.early ≡ rest.early → (put_line word fields other).early ≡ (put_line word fields rest).early
early_put (CallLine word) fields rest other same = refl
early_put (Report word) fields rest other same = ap (λ (early : List Line). record { word = Report word; fields = fields } ∷ early) same

early_same : (lines more : List Line) → (listing_of more).early ≡ [] → (listing_of (lines ++ more)).early ≡ (listing_of lines).early
early_same [] more none = none
early_same (line ∷ lines) more none =
    early_put line.word line.fields (listing_of lines) (listing_of (lines ++ more)) (early_same lines more none)

alike_line : (rank : ℕ) (journal later : Journal) (number : ℕ) (comms : RankComms) (word : Word) (fields : List Field) (lines more : List Line) → (listing_of more).early ≡ [] → ((n : ℕ) (c : RankComms) → AreAlike journal.lines later (entries_from rank journal n c lines) (entries_from rank later n c (lines ++ more))) → AreAlike journal.lines later (entries_from rank journal number comms (record { word = word; fields = fields } ∷ lines)) (entries_from rank later number comms (record { word = word; fields = fields } ∷ lines ++ more))
alike_line rank journal later number comms (CallLine word) fields lines more none rest =
    let back = did_come_back later (record { word = word; fields = fields; reports = (listing_of (lines ++ more)).early }) (lines ++ more) in
    let same = ap (λ (early : List Line). the_entry early back) (early_same lines more none) in
    ((back, same, refl), rest (number + 1) (after_line comms (record { word = CallLine word; fields = fields })))
  where
    the_entry : List Line → Bool → Placed
    the_entry early back = record {
      rank = rank;
      journal = later;
      line = number;
      entry = record { word = word; fields = fields; reports = early };
      called = called word fields;
      comms = comms;
      came_back = back;
    }
alike_line rank journal later number comms (Report word) fields lines more none rest =
    rest number_next (after_line comms (record { word = Report word; fields = fields }))
  where
    number_next : ℕ
    number_next = number + 1

pub alike : (rank : ℕ) (journal later : Journal) (lines more : List Line) → (listing_of more).early ≡ [] → (number : ℕ) (comms : RankComms) → AreAlike journal.lines later (entries_from rank journal number comms lines) (entries_from rank later number comms (lines ++ more))
alike rank journal later [] more none number comms = tt
alike rank journal later (line ∷ lines) more none number comms =
    alike_line rank journal later number comms line.word line.fields lines more none (λ n c. alike rank journal later lines more none n c)

-- ---- Messages ----

or_assoc : {A : Type 0} (a b c : Option A) → or_else (or_else a b) c ≡ or_else a (or_else b c)
or_assoc None b c = refl
or_assoc (Some x) b c = refl

pub done_append : (lines more : List Line) (request : ℕ) → done_of (lines ++ more) request ≡ or_else (done_of lines request) (done_of more request)
done_append [] more request = refl
done_append (line ∷ lines) more request =
    ap (λ (o : Option Message). or_else (done_in request line.word line.fields) o) (done_append lines more request)
    ∙ sym (or_assoc (done_in request line.word line.fields) (done_of lines request) (done_of more request))

first_none : (o rest all : Option ℕ) → (all ≡ None → rest ≡ None) → or_else o all ≡ None → or_else o rest ≡ None
first_none None rest all others h = others h
first_none (Some message) rest all others h = absurd (none-some message (sym h))

pub matched_first : (lines more : List Line) (request : ℕ) → matched_message (lines ++ more) request ≡ None → matched_message lines request ≡ None
matched_first [] more request none = refl
matched_first (line ∷ lines) more request none =
    first_none (matched_in request line.word line.fields) (matched_message lines request) (matched_message (lines ++ more) request)
    (λ h. matched_first lines more request h) none

pub gone_first : (lines more : List Line) (request : ℕ) → is_gone (lines ++ more) request ≡ false → is_gone lines request ≡ false
gone_first lines more request none =
    (or_parts (is_gone lines request) (is_gone more request) (sym (list_any-append (λ line. says_gone request line.word line.fields) lines more) ∙ none)).0

pub moved_first : (lines more : List Line) (request : ℕ) → is_moved (lines ++ more) request ≡ false → is_moved lines request ≡ false
moved_first lines more request none =
    (or_parts (is_moved lines request) (is_moved more request) (sym (list_any-append (λ line. says_moved request line.word line.fields) lines more) ∙ none)).0

from_if : (b : Bool) (it : Awaited) (all : Option Message) (o : Option Message) (m : Message) → (if b then with_wildcards it None else all) ≡ Some m → (if b then with_wildcards it o else all) ≡ (if b then with_wildcards it None else all)
from_if true it all o m h = absurd (none-some m h)
from_if false it all o m h = refl

from_more : (source : Field) (it : Awaited) (o : Option Message) (m : Message) → message_from source it None ≡ Some m → message_from source it o ≡ message_from source it None
from_more Null it o m h = refl
from_more (Natural n) it o m h = from_if (is_any it.source || is_any it.tag) it _ o m h
from_more (Signed n) it o m h = from_if (is_any it.source || is_any it.tag) it _ o m h
from_more Any it o m h = from_if (is_any it.source || is_any it.tag) it _ o m h
from_more Undefined it o m h = from_if (is_any it.source || is_any it.tag) it _ o m h

pub message_more : (it : Awaited) (o more : Option Message) → is_none (message_of it o) ≡ false → message_of it (or_else o more) ≡ message_of it o
message_more it (Some message) more known = refl
message_more it None more known = by (message_of it None) refl known
  where
    by : (o : Option Message) → message_of it None ≡ o → is_none o ≡ false → message_of it more ≡ message_of it None
    by None is h = absurd (false≢true (sym h))
    by (Some m) is h = from_more it.source it more m is
