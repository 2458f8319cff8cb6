-- What a journal says of its calls and requests so far stays when it goes on.
use Rattle.std.proofs.Common.{◌≡◌, ◌⊎◌, ℕ, ◌+◌, ◌==◌, ◌||◌, Bool, true, false, Option, Some, None, is_none, List, [], ◌∷◌, ◌++◌, refl, sym, ap, subst, ◌∙◌, append_assoc, append-nil, inl, inr}
use Rattle.std.specs.Prelude.{⊤}
use Rattle.std.specs.List.{list_any}
use Rattle.std.specs.Option.{option_map_or}
use Rattle.std.proofs.lemmas.Bool.{cases_Bool, false≢true}
use Rattle.std.proofs.lemmas.Option.{none-some, same_Some}
use Rattle.journals.specs.Lines.{Line}
use Rattle.journals.specs.Words.{is_call}
use Rattle.journals.specs.Faults.{is_free}
use Rattle.journals.specs.Entries.{Entry, listing_of}
use Rattle.journals.specs.Journal.{Journal}
use Rattle.journals.specs.Known.{is_report, report_of, requests_in}
use Rattle.journals.specs.declared.field.Field.{Field}
use Rattle.journals.specs.declared.word.Word.{Word}
use Rattle.journals.specs.declared.word.Word.TheVariants.{Call as CallLine, Report}
use Rattle.journals.specs.declared.word.CallWord.{CallWord}
use Rattle.journals.specs.declared.word.ReportWord.{ReportWord}
use Rattle.journals.specs.declared.word.ReportWord.TheVariants as report
use Rattle.closing.specs.Called.{Called, StartsSend, StartsReceive, StartsExchange, ProbesMatching, StartsMatched, StartsCollective, StartsDuplicate, ReceivesMatched, Waits, Tests, WaitsAny, WaitsSome, Cancels, FreesRequest, called}
use Rattle.closing.specs.RankComms.{RankComms, comms_first, after_line}
use Rattle.closing.specs.Steps.{Own}
use Rattle.closing.specs.Entries.{Run, Placed, journal_at, lines_at, lines_in, entries_from, entries_in, entries_at, did_come_back, placed_at}
use Rattle.closing.specs.Reported.{Message, done_of, is_gone, is_moved, is_left_out}
use Rattle.closing.specs.Entry.{id_of, is_of_send, starts_send_with}
use Rattle.closing.specs.Sinks.{request_received}
use Rattle.lawful.specs.Laws.{IsRead}
use Rattle.lawful.specs.Longer.{HasMore, NoneIsGone, NoneIsMoved, IsLonger}
use Rattle.lawful.specs.LongerTold.{AreAmong, IsToldMore}
use Rattle.lawful.proofs.LongerAmong.{among_more, SaysSame, same_free, same_push, same_told, has_call, any_among, done_among, report_among, report_same}
use Rattle.lawful.proofs.RightLines.{AreRight}
use Rattle.lawful.proofs.RunFacts.{right_of_rank}
use Rattle.lawful.proofs.NewNumbers.{AllOf, IsKnown, IsKnownMessage, New, Numbers, called_numbers}
use Rattle.lawful.proofs.KnownLines.{same_id, same_send, still_taken}
use Rattle.lawful.proofs.SentRequests.{Sound, sound_first, sound_push, sound_all, send_push, new_taken, free_not_sent, both_false}
use Rattle.lawful.proofs.NamedRequests.{chosen_known}

-- ---- Requests ----

-- what the longer journal says of a request is what the other does
pub record StaysOf (lines later : List Line) (request : ℕ) : Type 0 where
  pub gone : is_gone later request ≡ is_gone lines request
  pub moved : is_moved later request ≡ is_moved lines request
  pub id : id_of later request ≡ id_of lines request
  pub sends : is_of_send later request ≡ is_of_send lines request

abbrev pub NoneOut : List Line → List Line → Type 0
NoneOut lines later =
    (request : ℕ) → is_free lines request ≡ false → (is_gone later request ≡ is_gone lines request) × (is_moved later request ≡ is_moved lines request)

pub out_stays : (lines later : List Line) (request : ℕ) → StaysOf lines later request → is_left_out later request ≡ is_left_out lines request
out_stays lines later request is =
    ap (λ (b : Bool). b || is_moved later request) is.gone ∙ ap (λ (b : Bool). is_gone lines request || b) is.moved

taken_later : (before lines : List Line) (request : ℕ) → is_free before request ≡ false → is_free (before ++ lines) request ≡ false
taken_later before [] request taken = subst (λ (ls : List Line). is_free ls request ≡ false) (sym (append-nil before)) taken
taken_later before (line ∷ lines) request taken =
    subst (λ (ls : List Line). is_free ls request ≡ false) (append_assoc before (line ∷ []) lines)
    (taken_later (before ++ line ∷ []) lines request (still_taken before line request taken))

-- one that was given a number in the first of these lines
request_stays : (all later before first lines others : List Line) (request : ℕ) → all ≡ before ++ lines → later ≡ first ++ others → AreRight before lines → AreRight first others → SaysSame before first → is_free before request ≡ false → NoneOut all later → StaysOf all later request
request_stays all later before first lines others request are also right next same taken out =
    let known : is_free all request ≡ false = subst (λ (ls : List Line). is_free ls request ≡ false) (sym are) (taken_later before lines request taken) in
    let there : is_free first request ≡ false = same_free before first request same ∙ taken in
    record {
      gone = (out request known).0;
      moved = (out request known).1;
      id = ap (λ (ls : List Line). id_of ls request) also ∙ sym (same_id first others request next there)
          ∙ ap (λ (o : Option ℕ). Own (option_map_or (λ message. message) o request)) (same.matched request)
          ∙ same_id before lines request right taken ∙ sym (ap (λ (ls : List Line). id_of ls request) are);
      sends = ap (λ (ls : List Line). is_of_send ls request) also ∙ same_send first others request next there ∙ same.sends request
          ∙ sym (same_send before lines request right taken) ∙ sym (ap (λ (ls : List Line). is_of_send ls request) are);
    }

-- ---- The requests of a call ----

all_as : (Q K : ℕ → Type 0) (numbers : List ℕ) → ((number : ℕ) → Q number → K number) → AllOf Q numbers → AllOf K numbers
all_as Q K [] each all = tt
all_as Q K (number ∷ numbers) each all = (each number all.0, all_as Q K numbers each all.1)

numbers_as : (P Q M K : ℕ → Type 0) (it : Called) → ((number : ℕ) → P number → K number) → ((number : ℕ) → Q number → K number) → ((number : ℕ) → M number → K number) → Numbers P Q M it → Numbers K K K it
numbers_as P Q M K (StartsSend request mode sent) new known message all = new request all
numbers_as P Q M K (StartsReceive request awaited) new known message all = new request all
numbers_as P Q M K (StartsExchange request received sent awaited) new known message all = (new request all.0, new received all.1, all.2)
numbers_as P Q M K (ProbesMatching own awaited) new known message all = new own all
numbers_as P Q M K (StartsMatched request own) new known message all = (new request all.0, message own all.1)
numbers_as P Q M K (StartsCollective request collective comm root) new known message all = new request all
numbers_as P Q M K (StartsDuplicate request comm) new known message all = new request all
numbers_as P Q M K (ReceivesMatched own) new known message all = message own all
numbers_as P Q M K (Waits requests) new known message all = all_as Q K requests known all
numbers_as P Q M K (Tests requests) new known message all = all_as Q K requests known all
numbers_as P Q M K (WaitsAny requests) new known message all = all_as Q K requests known all
numbers_as P Q M K (WaitsSome requests) new known message all = all_as Q K requests known all
numbers_as P Q M K (Cancels request) new known message all = known request all
numbers_as P Q M K (FreesRequest request) new known message all = known request all
numbers_as P Q M K _ new known message all = tt

-- ---- Reports of a call ----

-- what the one entry reports first, the other does; but for messages of requests
abbrev pub KeepsReports : Entry → Entry → Type 0
KeepsReports entry other =
    (word : ReportWord) (line : Line) → is_report word (Report report.Done) ≡ false → report_of word entry ≡ Some line → report_of word other ≡ Some line

-- ---- Entries ----

-- what the longer journal has of an entry
pub record More (placed : Placed) : Type 0 where
  pub later : Journal
  pub entry : Entry
  pub back : Bool
  pub reports : KeepsReports placed.entry entry
  pub numbers : Numbers (StaysOf placed.journal.lines later.lines) (StaysOf placed.journal.lines later.lines) (StaysOf placed.journal.lines later.lines) placed.called
  pub chosen : (line : Line) → report_of report.Chose placed.entry ≡ Some line → AllOf (StaysOf placed.journal.lines later.lines) (requests_in (Some line))
  pub any : (test : Line → Bool) → list_any test placed.journal.lines ≡ true → list_any test later.lines ≡ true
  pub done : (request : ℕ) (m : Message) → done_of placed.journal.lines request ≡ Some m → done_of later.lines request ≡ Some m
  pub sound : Sound placed.journal.lines
  pub receives : (own : ℕ) → request_received placed.called ≡ Some own → is_of_send placed.journal.lines own ≡ false

abbrev pub with_more : (placed : Placed) → More placed → Placed
with_more placed it = record placed { journal = it.later; entry = it.entry; came_back = it.back }

-- another call came after it
pub record IsOver (placed other : Placed) : Type 0 where
  pub entry : report_of report.Comm other.entry ≡ report_of report.Comm placed.entry
  pub came : placed.came_back ≡ true
  pub also : other.came_back ≡ true

-- the entry as if its call line had this number
abbrev pub with_line : Placed → ℕ → Placed
with_line placed line = record placed { line = line }

pub record IsLater (placed other : Placed) : Type 0 where
  pub it : More placed
  pub is : with_line other placed.line ≡ with_more placed it

-- the entries of the longer journal begin with those of the other, but for the numbers of lines
abbrev pub AreLater : List Placed → List Placed → Type 0
AreLater [] others = ⊤
AreLater (placed ∷ entries) [] = ⊥
AreLater (placed ∷ entries) (other ∷ others) = IsLater placed other × ((entries ≡ []) ⊎ IsOver placed other) × AreLater entries others

no_put : (rank : ℕ) (journal : Journal) (number : ℕ) (comms : RankComms) (word : Word) (fields : List Field) (lines : List Line) → (is_call word || has_call lines) ≡ false → (has_call lines ≡ false → entries_from rank journal (number + 1) (after_line comms (record { word = word; fields = fields })) lines ≡ []) → entries_from rank journal number comms (record { word = word; fields = fields } ∷ lines) ≡ []
no_put rank journal number comms (CallLine word) fields lines none rest = absurd (false≢true (sym none))
no_put rank journal number comms (Report word) fields lines none rest = rest none

no_call : (rank : ℕ) (journal : Journal) (number : ℕ) (comms : RankComms) (lines : List Line) → has_call lines ≡ false → entries_from rank journal number comms lines ≡ []
no_call rank journal number comms [] none = refl
no_call rank journal number comms (line ∷ lines) none =
    no_put rank journal number comms line.word line.fields lines none (λ rest. no_call rank journal (number + 1) (after_line comms line) lines rest)

came_by : (journal : Journal) (entry : Entry) (lines : List Line) → has_call lines ≡ true → did_come_back journal entry lines ≡ true
came_by journal entry lines has = rw has refl

-- the request of a started receive is new, and none of a send
received_new : (before : List Line) (word : CallWord) (fields : List Field) (own : ℕ) (it : Called) → Numbers (New before word fields) (IsKnown before) (IsKnownMessage before) it → request_received it ≡ Some own → New before word fields own × (starts_send_with own it ≡ false)
received_new before word fields own (StartsReceive request awaited) all h = (subst (New before word fields) (same_Some request own h) all, refl)
received_new before word fields own (StartsExchange request received sent awaited) all h = (
  subst (New before word fields) (same_Some received own h) all.1,
  subst (λ (n : ℕ). (request == n) ≡ false) (same_Some received own h) all.2,
)
received_new before word fields own _ all h = absurd (none-some own h)

-- all lines of both journals
record Keeps (lines later : List Line) : Type 0 where
  out : NoneOut lines later
  any : (test : Line → Bool) → list_any test lines ≡ true → list_any test later ≡ true
  done : (request : ℕ) (m : Message) → done_of lines request ≡ Some m → done_of later request ≡ Some m

-- some lines of both, and those before them
record Both (journal later : Journal) (before first lines others : List Line) : Type 0 where
  keeps : Keeps journal.lines later.lines
  are : journal.lines ≡ before ++ lines
  also : later.lines ≡ first ++ others
  right : AreRight before lines
  next : AreRight first others
  same : SaysSame before first
  sound : Sound before
  among : AreAmong journal.lines lines others

both_stays : (journal later : Journal) (before first lines others : List Line) (request : ℕ) → Both journal later before first lines others → is_free before request ≡ false → StaysOf journal.lines later.lines request
both_stays journal later before first lines others request both taken =
    request_stays journal.lines later.lines before first lines others request both.are both.also both.right both.next both.same taken both.keeps.out

both_push : (journal later : Journal) (before first lines others : List Line) (line : Line) → Both journal later before first (line ∷ lines) (line ∷ others) → AreAmong journal.lines lines others → Both journal later (before ++ line ∷ []) (first ++ line ∷ []) lines others
both_push journal later before first lines others line both among = record {
  keeps = both.keeps;
  are = both.are ∙ sym (append_assoc before (line ∷ []) lines);
  also = both.also ∙ sym (append_assoc first (line ∷ []) others);
  right = both.right.1;
  next = both.next.1;
  same = same_push before first line both.same;
  sound = sound_push before line both.right.0 both.sound;
  among = among;
}

both_told : (journal later : Journal) (before first lines others : List Line) (line : Line) → Both journal later before first lines (line ∷ others) → line.word ≡ Report report.Done → AreAmong journal.lines lines others → Both journal later before (first ++ line ∷ []) lines others
both_told journal later before first lines others line both is among = record {
  keeps = both.keeps;
  are = both.are;
  also = both.also ∙ sym (append_assoc first (line ∷ []) others);
  right = both.right;
  next = both.next.1;
  same = same_told before first line is both.same;
  sound = both.sound;
  among = among;
}

call_later : (rank : ℕ) (journal later : Journal) (number place : ℕ) (comms : RankComms) (before first : List Line) (word : CallWord) (fields : List Field) (lines others : List Line) → Both journal later before first (record { word = CallLine word; fields = fields } ∷ lines) (record { word = CallLine word; fields = fields } ∷ others) → AreAmong journal.lines lines others → ((n m : ℕ) (c : RankComms) → AreLater (entries_from rank journal n c lines) (entries_from rank later m c others)) → AreLater (entries_from rank journal number comms (record { word = CallLine word; fields = fields } ∷ lines)) (entries_from rank later place comms (record { word = CallLine word; fields = fields } ∷ others))
call_later rank journal later number place comms before first word fields lines others both among rest =
    (record { it = it; is = refl }, over, rest (number + 1) (place + 1) (after_line comms line))
  where
    line : Line
    line = record { word = CallLine word; fields = fields }

    entry : List Line → Entry
    entry ls = record { word = word; fields = fields; reports = (listing_of ls).early }

    now : Placed
    now = record {
      rank = rank;
      journal = journal;
      line = number;
      entry = entry lines;
      called = called word fields;
      comms = comms;
      came_back = did_come_back journal (entry lines) lines;
    }

    next : Placed
    next = record {
      rank = rank;
      journal = later;
      line = place;
      entry = entry others;
      called = called word fields;
      comms = comms;
      came_back = did_come_back later (entry others) others;
    }

    Stays : ℕ → Type 0
    Stays request = StaysOf journal.lines later.lines request

    known : (request : ℕ) → is_free before request ≡ false → Stays request
    known request taken = both_stays journal later before first (line ∷ lines) (line ∷ others) request both taken

    new : (request : ℕ) → New before word fields request → Stays request
    new request is =
        both_stays journal later (before ++ line ∷ []) (first ++ line ∷ []) lines others request (both_push journal later before first lines others line both among)
        (new_taken before word fields request is)

    receives : (own : ℕ) → request_received (called word fields) ≡ Some own → is_of_send journal.lines own ≡ false
    receives own is =
        let start = received_new before word fields own (called word fields) (called_numbers before word fields both.right.0) is in
        subst (λ (ls : List Line). is_of_send ls own ≡ false) (append_assoc before (line ∷ []) lines ∙ sym both.are)
        (same_send (before ++ line ∷ []) lines own both.right.1 (new_taken before word fields own start.0)
        ∙ send_push before line own
        ∙ both_false (is_of_send before own) (starts_send_with own (called word fields)) (free_not_sent before own both.sound start.0.free) start.1)

    it : More now
    it = record {
      later = later;
      entry = entry others;
      back = did_come_back later (entry others) others;
      reports = λ own one apart found. report_among journal.lines own one lines others apart among found;
      numbers = numbers_as (New before word fields) (IsKnown before) (IsKnownMessage before) Stays (called word fields) new (λ request is. known request is.taken) (λ message is. known message is.known.taken) (called_numbers before word fields both.right.0);
      chosen = λ one found. all_as (IsKnown before) Stays (requests_in (Some one)) (λ request is. known request is.taken) (chosen_known before word fields lines one both.right.0 both.right.1 found);
      any = both.keeps.any;
      done = both.keeps.done;
      sound = subst Sound (sym both.are) (sound_all before (line ∷ lines) both.right both.sound);
      receives = receives;
    }

    over_by : has_call lines ≡ true → IsOver now next
    over_by has = record {
      entry = report_same journal.lines report.Comm lines others refl among has;
      came = came_by journal (entry lines) lines has;
      also = came_by later (entry others) others (any_among journal.lines (λ l. is_call l.word) lines others among has);
    }

    over : (entries_from rank journal (number + 1) (after_line comms line) lines ≡ []) ⊎ IsOver now next
    over =
        elim (cases_Bool (has_call lines)) [
          | inl has ↦ inr (over_by has)
          | inr none ↦ inl (no_call rank journal (number + 1) (after_line comms line) lines none)
        ]

line_later : (rank : ℕ) (journal later : Journal) (number place : ℕ) (comms : RankComms) (before first : List Line) (word : Word) (fields : List Field) (lines others : List Line) → Both journal later before first (record { word = word; fields = fields } ∷ lines) (record { word = word; fields = fields } ∷ others) → AreAmong journal.lines lines others → ((n m : ℕ) (c : RankComms) → AreLater (entries_from rank journal n c lines) (entries_from rank later m c others)) → AreLater (entries_from rank journal number comms (record { word = word; fields = fields } ∷ lines)) (entries_from rank later place comms (record { word = word; fields = fields } ∷ others))
line_later rank journal later number place comms before first (CallLine word) fields lines others both among rest =
    call_later rank journal later number place comms before first word fields lines others both among rest
line_later rank journal later number place comms before first (Report word) fields lines others both among rest =
    rest (more number) (more place) (after_line comms (record { word = Report word; fields = fields }))
  where
    more : ℕ → ℕ
    more n = n + 1

told_later : (rank : ℕ) (journal later : Journal) (number place : ℕ) (comms : RankComms) (lines : List Line) (word : Word) (fields : List Field) (others : List Line) → word ≡ Report report.Done → AreLater (entries_from rank journal number comms lines) (entries_from rank later (place + 1) comms others) → AreLater (entries_from rank journal number comms lines) (entries_from rank later place comms (record { word = word; fields = fields } ∷ others))
told_later rank journal later number place comms lines word fields others is rest =
    subst (λ (w : Word). AreLater (entries_from rank journal number comms lines) (entries_from rank later place comms (record { word = w; fields = fields } ∷ others))) (sym is) rest

from_later : (rank : ℕ) (journal later : Journal) (number place : ℕ) (comms : RankComms) (before first lines others : List Line) → Both journal later before first lines others → AreLater (entries_from rank journal number comms lines) (entries_from rank later place comms others)
from_later rank journal later number place comms before first lines others both = by_among number place comms before first lines others both both.among
  where
    by_among : (n m : ℕ) (c : RankComms) (start begin ls os : List Line) → Both journal later start begin ls os → AreAmong journal.lines ls os → AreLater (entries_from rank journal n c ls) (entries_from rank later m c os)
    by_among n m c start begin [] os it among = tt
    by_among n m c start begin (line ∷ ls) [] it among = absurd among
    by_among n m c start begin (line ∷ ls) (other ∷ os) it (inl here) =
        let own : Both journal later start begin (line ∷ ls) (line ∷ os) = subst (λ (one : Line). Both journal later start begin (line ∷ ls) (one ∷ os)) here.0 it in
        subst (λ (one : Line). AreLater (entries_from rank journal n c (line ∷ ls)) (entries_from rank later m c (one ∷ os))) (sym here.0)
        (line_later rank journal later n m c start begin line.word line.fields ls os own here.1
        (λ k l d. by_among k l d (start ++ line ∷ []) (begin ++ line ∷ []) ls os (both_push journal later start begin ls os line own here.1) here.1))
    by_among n m c start begin (line ∷ ls) (other ∷ os) it (inr told) =
        told_later rank journal later n m c (line ∷ ls) other.word other.fields os told.0.word
        (by_among n (m + 1) c start (begin ++ other ∷ []) (line ∷ ls) os (both_told journal later start begin (line ∷ ls) os other it told.0.word told.1) told.1)

none_among : (all lines : List Line) → AreAmong all lines [] → lines ≡ []
none_among all [] among = refl
none_among all (line ∷ lines) among = absurd among

some_none : (o : Option Message) (m : Message) → o ≡ Some m → is_none o ≡ false
some_none o m is = ap (λ (one : Option Message). is_none one) is

in_later : (rank : ℕ) (o other : Option Journal) → AreAmong (lines_in o) (lines_in o) (lines_in other) → ((journal : Journal) → o ≡ Some journal → AreRight [] journal.lines) → ((journal : Journal) → other ≡ Some journal → AreRight [] journal.lines) → NoneOut (lines_in o) (lines_in other) → AreLater (entries_in rank o) (entries_in rank other)
in_later rank None other among right next out = tt
in_later rank (Some journal) None among right next out =
    subst (λ (ls : List Line). AreLater (entries_from rank journal 2 (comms_first rank) ls) []) (sym (none_among journal.lines journal.lines among)) tt
in_later rank (Some journal) (Some later) among right next out =
    from_later rank journal later 2 2 (comms_first rank) [] [] journal.lines later.lines (record {
      keeps = record {
        out = out;
        any = λ test h. any_among journal.lines test journal.lines later.lines among h;
        done = λ request m h. done_among journal.lines request m journal.lines later.lines among (some_none (done_of journal.lines request) m h) h;
      };
      are = refl;
      also = refl;
      right = right journal refl;
      next = next later refl;
      same = record { matched = λ request. refl; sends = λ request. refl; requests = λ request. refl; messages = λ request. refl };
      sound = sound_first;
      among = among;
    })

pub entries_later : (run longer : Run) (rank : ℕ) → IsRead run → IsRead longer → AreAmong (lines_at run rank) (lines_at run rank) (lines_at longer rank) → NoneIsGone run longer rank → NoneIsMoved run longer rank → AreLater (entries_at run rank) (entries_at longer rank)
entries_later run longer rank first read among gone moved =
    in_later rank (journal_at run rank) (journal_at longer rank) among
    (λ journal is. right_of_rank first.first first.texts run first.is_read rank journal is)
    (λ journal is. right_of_rank read.first read.texts longer read.is_read rank journal is) (λ request known. (gone request known, moved request known))

-- ---- Numbers of lines ----

-- the others as if the first of them were of the lines of these
abbrev pub with_lines : List Placed → List Placed → List Placed
with_lines [] others = others
with_lines (placed ∷ entries) [] = []
with_lines (placed ∷ entries) (other ∷ others) = with_line other placed.line ∷ with_lines entries others

with_none : (entries : List Placed) → with_lines entries [] ≡ []
with_none [] = refl
with_none (placed ∷ entries) = refl

line_same : (rank : ℕ) (journal later : Journal) (number : ℕ) (comms : RankComms) (word : Word) (fields : List Field) (lines others : List Line) → ((n : ℕ) (c : RankComms) → with_lines (entries_from rank journal n c lines) (entries_from rank later n c others) ≡ entries_from rank later n c others) → with_lines (entries_from rank journal number comms (record { word = word; fields = fields } ∷ lines)) (entries_from rank later number comms (record { word = word; fields = fields } ∷ others)) ≡ entries_from rank later number comms (record { word = word; fields = fields } ∷ others)
line_same rank journal later number comms (CallLine word) fields lines others rest =
    let line : Line = record { word = CallLine word; fields = fields } in
    let entry : Entry = record { word = word; fields = fields; reports = (listing_of others).early } in
    ap (λ (entries : List Placed). placed_at rank later number comms entry others ∷ entries) (rest (number + 1) (after_line comms line))
line_same rank journal later number comms (Report word) fields lines others rest = rest (more number) (after_line comms (record { word = Report word; fields = fields }))
  where
    more : ℕ → ℕ
    more n = n + 1

from_same : (rank : ℕ) (journal later : Journal) (lines more : List Line) (number : ℕ) (comms : RankComms) → with_lines (entries_from rank journal number comms lines) (entries_from rank later number comms (lines ++ more)) ≡ entries_from rank later number comms (lines ++ more)
from_same rank journal later [] more number comms = refl
from_same rank journal later (line ∷ lines) more number comms =
    line_same rank journal later number comms line.word line.fields lines (lines ++ more) (λ n c. from_same rank journal later lines more n c)

in_same : (rank : ℕ) (o other : Option Journal) (more : List Line) → lines_in other ≡ lines_in o ++ more → with_lines (entries_in rank o) (entries_in rank other) ≡ entries_in rank other
in_same rank None other more lines = refl
in_same rank (Some journal) None more lines = with_none (entries_in rank (Some journal))
in_same rank (Some journal) (Some later) more lines =
    subst (λ (ls : List Line). with_lines (entries_in rank (Some journal)) (entries_from rank later 2 (comms_first rank) ls) ≡ entries_from rank later 2 (comms_first rank) ls) (sym lines)
    (from_same rank journal later journal.lines more 2 (comms_first rank))

-- where lines come after alone
pub same_lines : (run longer : Run) (rank : ℕ) → HasMore run longer rank → with_lines (entries_at run rank) (entries_at longer rank) ≡ entries_at longer rank
same_lines run longer rank has = in_same rank (journal_at run rank) (journal_at longer rank) has.more has.lines

pub told_more : (run longer : Run) → IsLonger run longer → IsToldMore run longer
told_more run longer long = record {
  ranks = long.ranks;
  more = λ rank. subst (λ (ls : List Line). AreAmong (lines_at run rank) (lines_at run rank) ls) (sym (long.more rank).lines)
      (among_more (lines_at run rank) (lines_at run rank) (long.more rank).more);
  none_gone = long.none_gone;
  none_moved = long.none_moved;
  numbers = long.numbers;
  prefaces = long.prefaces;
}
