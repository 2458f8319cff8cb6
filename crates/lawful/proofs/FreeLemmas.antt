-- What is told free was called so.
use Rattle.std.proofs.Common.{◌≡◌, ℕ, zero, suc, ◌+◌, ◌-◌, ◌<◌, ◌||◌, ◌&&◌, ◌==◌, Bool, true, false, Option, Some, None, is_some, if◌then◌else◌, List, [], ◌∷◌, ◌++◌, length, map, refl, sym, ap, subst, ◌∙◌, arith, inl, inr}
use Rattle.std.specs.Prelude.{⊤, flat_map, is_none, slice_get}
use Rattle.std.specs.List.{list_any, list_all, range_with_len}
use Rattle.std.specs.Option.{option_map_or}
use Rattle.std.proofs.lemmas.Bool.{and_parts, cases_Bool, false≢true, or_parts}
use Rattle.std.proofs.lemmas.Option.{none-some, same_Some}
use Rattle.std.proofs.lemmas.List.Folds.{list_any-append}
use Rattle.mpicall.specs.Ending.{ends_list}
use Rattle.mpicall.specs.declared.call.Call.{Call}
use Rattle.mpicall.specs.declared.call.Call.TheVariants.{Finalize, Open}
use Rattle.mpigroup.specs.Groups.{or_empty}
use Rattle.pairing.specs.LeftOpen.{leaves_open, is_left_open}
use Rattle.journals.specs.Lines.{Line}
use Rattle.journals.specs.Journal.{Journal}
use Rattle.journals.specs.Entries.{group_in}
use Rattle.journals.specs.Faults.{ends_journal}
use Rattle.journals.specs.declared.field.Field.{Field}
use Rattle.journals.specs.declared.word.Word.{Word}
use Rattle.journals.specs.declared.word.Word.TheVariants.{Call as CallLine, Report}
use Rattle.closing.specs.Called.{called}
use Rattle.closing.specs.RankComms.{RankComms, comms_first, after_call, after_report}
use Rattle.closing.specs.Entries.{Run, Placed, journal_at, entries_from, entries_in, entries_at, ranks_of}
use Rattle.closing.specs.Entry.{Choice}
use Rattle.closing.specs.Recording.{Recording, Listed, calls_of, is_end, list_of, recording_of}
use Rattle.closing.specs.Left.{Left, left_if, left_by, left_from, left_of}
use Rattle.closing.specs.Steps.{Id, Own, Whole, ReceiveHalf, Sink, Written}
use Rattle.closing.specs.Sinks.{sink_in}
use Rattle.closing.specs.declared.why.Why.{Why}
use Rattle.closing.specs.declared.why.Why.TheVariants.{NeverReported, NotJudged}
use Rattle.lawful.specs.Laws.{IsRead}
use Rattle.lawful.specs.Free.{AreListedThrough, HasCalledItsEnd, IsOfSink, NothingIsLeft, SinksAloneAreLeft, WhatIsFreeIsWhole}
use Rattle.lawful.proofs.NoSinks.{NoSinks, AllWithout, all_without}
use Rattle.lawful.proofs.ListLemmas.{list_of_fits}
use Rattle.lawful.proofs.LawfulLemmas.{list_at, many}
use Rattle.lawful.proofs.RunFacts.{ends_of_rank}
use Rattle.lawful.proofs.JournalEnds.{OnlyLastEnds}
use Rattle.lawful.proofs.EndWords.{end_word}
use Rattle.lawful.proofs.EndLemmas.{none_of, open_no_end, each_finalize_is_listed_through, what_is_left_is_open}

-- ---- The last line ----

record LastEnds (lines : List Line) : Type 0 where
  before : List Line
  last : Line
  are : lines ≡ before ++ last ∷ []
  ends : ends_journal last.word ≡ true

abbrev is_last : Placed → Bool
is_last placed = is_end placed.called

one_more : (line : Line) (lines : List Line) → LastEnds lines → LastEnds (line ∷ lines)
one_more line lines it =
    record { before = line ∷ it.before; last = it.last; are = ap (λ (all : List Line). line ∷ all) it.are; ends = it.ends }

abbrev Has : ℕ → Journal → List Line → Type 0
Has rank journal lines =
    (number : ℕ) (comms : RankComms) → list_any is_last (entries_from rank journal number comms lines) ≡ true → LastEnds lines

last_line : (rank : ℕ) (journal : Journal) (number : ℕ) (comms : RankComms) (word : Word) (fields : List Field) (lines : List Line) → list_any is_last (entries_from rank journal number comms (record { word = word; fields = fields } ∷ lines)) ≡ true → (ends_journal word ≡ true → lines ≡ []) → Has rank journal lines → LastEnds (record { word = word; fields = fields } ∷ lines)
last_line rank journal number comms (CallLine word) fields lines has only rest =
    let line : Line = record { word = CallLine word; fields = fields } in
    elim (cases_Bool (is_end (called word fields))) [
      | inl ends ↦ let end = end_word word fields ends in
          record { before = []; last = line; are = ap (λ (all : List Line). line ∷ all) (only end); ends = end }
      | inr goes ↦ one_more line lines (rest (number + 1) (after_call comms (called word fields)) (rw goes at has))
    ]
last_line rank journal number comms (Report word) fields lines has only rest =
    let line : Line = record { word = Report word; fields = fields } in
    one_more line lines (rest (number + 1) (after_report comms word fields (group_in line)) has)

last_ends : (rank : ℕ) (journal : Journal) (lines : List Line) → OnlyLastEnds lines → Has rank journal lines
last_ends rank journal [] only number comms has = absurd (false≢true has)
last_ends rank journal (line ∷ lines) only number comms has =
    last_line rank journal number comms line.word line.fields lines has only.0 (last_ends rank journal lines only.1)

-- ---- A rank ----

or_true : (b : Bool) → (b || true) ≡ true
or_true true = refl
or_true false = refl

gone_has : (run : Run) (choice : Choice) (rank : ℕ) (entries : List Placed) → AreListedThrough run choice rank entries → list_any is_last entries ≡ true
gone_has run choice rank entries gone =
    let last : list_any is_last (gone.last ∷ gone.after) ≡ true = ap (λ (b : Bool). b || list_any is_last gone.after) gone.ends in
    ap (λ (all : List Placed). list_any is_last all) gone.are
    ∙ list_any-append is_last gone.before (gone.last ∷ gone.after)
    ∙ ap (λ (b : Bool). list_any is_last gone.before || b) last
    ∙ or_true (list_any is_last gone.before)

called_by : (run : Run) (rank : ℕ) (o : Option Journal) → journal_at run rank ≡ o → list_any is_last (entries_in rank o) ≡ true → ((journal : Journal) → journal_at run rank ≡ Some journal → OnlyLastEnds journal.lines) → HasCalledItsEnd run rank
called_by run rank None is has only = absurd (false≢true has)
called_by run rank (Some journal) is has only =
    let it = last_ends rank journal journal.lines (only journal is) 2 (comms_first rank) has in
    record { journal = journal; is_there = is; before = it.before; last = it.last; are = it.are; ends = it.ends }

called_end : (run : Run) (choice : Choice) (rank : ℕ) → IsRead run → (list_of run choice rank).end ≡ Finalize → HasCalledItsEnd run rank
called_end run choice rank read ends =
    let gone = ((each_finalize_is_listed_through run choice rank).0 ends).0 in
    called_by run rank (journal_at run rank) refl (gone_has run choice rank (entries_at run rank) gone)
    (λ journal is. ends_of_rank read.first read.texts run read.is_read rank journal is)

-- ---- All ranks ----

at_the_last : (calls : List Call) (end : Call) → slice_get (calls ++ end ∷ []) (length calls) ≡ Some end
at_the_last [] end = refl
at_the_last (one ∷ calls) end = at_the_last calls end

one_longer : (calls : List Call) (end : Call) → length (calls ++ end ∷ []) ≡ suc (length calls)
one_longer [] end = refl
one_longer (one ∷ calls) end = ap suc (one_longer calls end)

one_less : (n m : ℕ) → n ≡ suc m → m ≡ n - 1
one_less n m is = omega (arith, is)

last_of_all : (calls : List Call) (end : Call) → slice_get (calls ++ end ∷ []) (length (calls ++ end ∷ []) - 1) ≡ Some end
last_of_all calls end =
    subst (λ (place : ℕ). slice_get (calls ++ end ∷ []) place ≡ Some end)
    (one_less (length (calls ++ end ∷ [])) (length calls) (one_longer calls end)) (at_the_last calls end)

not_open : (end : Call) → ends_list end ≡ true → leaves_open end ≡ false → end ≡ Finalize
not_open Finalize ends closed = refl
not_open Open ends closed = absurd (false≢true (sym closed))
not_open _ ends closed = absurd (false≢true ends)

list_end : (lists : List (List Call)) (rank : ℕ) (it : Listed) → or_empty lists rank ≡ calls_of it → is_left_open lists rank ≡ false → leaves_open it.end ≡ false
list_end lists rank it same closed =
    let calls = map (λ one. one.call) it.records in
    let own : option_map_or leaves_open (slice_get (calls ++ it.end ∷ []) (length (calls ++ it.end ∷ []) - 1)) false ≡ false =
    subst (λ (all : List Call). option_map_or leaves_open (slice_get all (length all - 1)) false ≡ false) same closed in
    subst (λ (o : Option Call). option_map_or leaves_open o false ≡ false) (last_of_all calls it.end) own

none_in : (test : ℕ → Bool) (count first rank : ℕ) → list_any test (range_with_len first count) ≡ false → rank < count → test (first + rank) ≡ false
none_in test zero first rank none within = absurd (omega (arith, within))
none_in test (suc count) first zero none within =
    subst (λ (n : ℕ). test n ≡ false) (plus_zero first) (or_parts (test first) (list_any test (range_with_len (first + 1) count)) none).0
  where
    plus_zero : (n : ℕ) → n ≡ n + 0
    plus_zero n = omega arith
none_in test (suc count) first (suc rank) none within =
    subst (λ (n : ℕ). test n ≡ false) (one_further first rank)
    (none_in test count (first + 1) rank (or_parts (test first) (list_any test (range_with_len (first + 1) count)) none).1 (omega (arith, within)))
  where
    one_further : (a b : ℕ) → (a + 1) + b ≡ a + suc b
    one_further a b = omega arith

all_in : (test : Listed → Bool) (list : ℕ → Listed) (count first : ℕ) → ((rank : ℕ) → rank < count → test (list (first + rank)) ≡ true) → list_all test (map list (range_with_len first count)) ≡ true
all_in test list zero first all = refl
all_in test list (suc count) first all =
    let here : test (list first) ≡ true = subst (λ (n : ℕ). test (list n) ≡ true) (plus_zero first) (all 0 (omega arith)) in
    rw (here, all_in test list count (first + 1) (λ rank within. subst (λ (n : ℕ). test (list n) ≡ true) (one_further first rank) (all (suc rank) (omega (arith, within))))) refl
  where
    plus_zero : (n : ℕ) → n + 0 ≡ n
    plus_zero n = omega arith

    one_further : (a b : ℕ) → a + suc b ≡ (a + 1) + b
    one_further a b = omega arith

no_why : (it : Listed) (o : Option Why) → it.why ≡ o → ((why : Why) → it.why ≡ Some why → it.end ≡ Open) → it.end ≡ Finalize → is_none o ≡ true
no_why it None is left ends = refl
no_why it (Some why) is left ends = absurd (open_no_end (sym (left why is) ∙ ends))

pub what_is_free_is_whole : WhatIsFreeIsWhole
unfolding recording_of
what_is_free_is_whole run choice read none =
    let lists : List (List Call) = map calls_of (map (list_of run choice) (ranks_of run)) in
    let closed : list_any (is_left_open lists) (range_with_len 0 (length run)) ≡ false =
    subst (λ (n : ℕ). list_any (is_left_open lists) (range_with_len 0 n) ≡ false) (many run choice) none in
    let ends : (rank : ℕ) → rank < length run → (list_of run choice rank).end ≡ Finalize =
    λ rank within. not_open (list_of run choice rank).end (list_of_fits run choice rank).1
    (list_end lists rank (list_of run choice rank) (list_at run choice rank within) (at_rank lists (length run) rank closed within)) in
    record {
      called = λ rank within. called_end run choice rank read (ends rank within);
      none_left = all_in (λ (list : Listed). is_none list.why) (list_of run choice) (length run) 0
          (λ rank within. none_at rank (ends rank within));
    }
  where
    at_rank : (lists : List (List Call)) (count rank : ℕ) → list_any (is_left_open lists) (range_with_len 0 count) ≡ false → rank < count → is_left_open lists rank ≡ false
    at_rank lists count rank closed within =
        subst (λ (n : ℕ). is_left_open lists n ≡ false) (zero_plus rank) (none_in (is_left_open lists) count 0 rank closed within)
      where
        zero_plus : (n : ℕ) → 0 + n ≡ n
        zero_plus n = omega arith

    none_at : (rank : ℕ) → (list_of run choice rank).end ≡ Finalize → is_none (list_of run choice (0 + rank)).why ≡ true
    none_at rank ends =
        subst (λ (n : ℕ). is_none (list_of run choice n).why ≡ true) (plus_zero rank)
        (no_why (list_of run choice rank) (list_of run choice rank).why refl (what_is_left_is_open run choice rank) ends)
      where
        plus_zero : (n : ℕ) → n ≡ 0 + n
        plus_zero n = omega arith

-- ---- What is left of it ----

abbrev AllLeft : (Left → Type 0) → List Left → Type 0
AllLeft P [] = ⊤
AllLeft P (left ∷ others) = P left × AllLeft P others

left_append : (P : Left → Type 0) (xs ys : List Left) → AllLeft P xs → AllLeft P ys → AllLeft P (xs ++ ys)
left_append P [] ys first others = others
left_append P (x ∷ xs) ys first others = (first.0, left_append P xs ys first.1 others)

left_there : (P : Left → Type 0) (all : List Left) (place : ℕ) (left : Left) → AllLeft P all → slice_get all place ≡ Some left → P left
left_there P [] place left every h = absurd (none-some left h)
left_there P (first ∷ all) zero left every h = subst P (same_Some first left h) every.0
left_there P (first ∷ all) (suc place) left every h = left_there P all place left every.1 h

-- some records are those of a list from a place on
abbrev AreFrom : List Written → ℕ → List Written → Type 0
AreFrom all first records = (place : ℕ) (one : Written) → slice_get records place ≡ Some one → slice_get all (first + place) ≡ Some one

from_next : (all : List Written) (first : ℕ) (one : Written) (records : List Written) → AreFrom all first (one ∷ records) → AreFrom all (suc first) records
from_next all first one records are place other h =
    subst (λ (n : ℕ). slice_get all n ≡ Some other) (one_further first place) (are (suc place) other h)
  where
    one_further : (a b : ℕ) → a + suc b ≡ suc a + b
    one_further a b = omega arith

here_first : (all : List Written) (first : ℕ) (one : Written) (records : List Written) → AreFrom all first (one ∷ records) → slice_get all first ≡ Some one
here_first all first one records are = subst (λ (n : ℕ). slice_get all n ≡ Some one) (plus_zero first) (are 0 one refl)
  where
    plus_zero : (a : ℕ) → a + 0 ≡ a
    plus_zero a = omega arith

-- the line of a record is left for a sink, or not at all
of_record : (it : Recording) (rank : ℕ) (list : Listed) (place : ℕ) (written : Written) (o : Option Id) → written.starts ≡ o → slice_get it.lists rank ≡ Some list → slice_get list.records place ≡ Some written → AllLeft (IsOfSink it) (left_by rank list written)
of_record it rank list place written None starts is_list is_written = rw starts tt
of_record it rank list place written (Some (Own request)) starts is_list is_written = rw starts tt
of_record it rank list place written (Some (Whole line)) starts is_list is_written = rw starts tt
of_record it rank list place written (Some (ReceiveHalf line)) starts is_list is_written = rw starts tt
of_record it rank list place written (Some (Sink own wanted is_known)) starts is_list is_written =
    rw starts (unless (written.line == list.line && is_some list.why) is_known)
  where
    of_why : (b : Bool) → IsOfSink it (record { rank = rank; line = written.line; why = if b then NotJudged else NeverReported })
    of_why true = record {
      list = list;
      is_list = is_list;
      place = place;
      written = written;
      is_written = is_written;
      is_sink = ap (λ (o : Option Id). is_some (sink_in o)) starts;
      is_line = refl;
      why = inr refl;
    }
    of_why false = record {
      list = list;
      is_list = is_list;
      place = place;
      written = written;
      is_written = is_written;
      is_sink = ap (λ (o : Option Id). is_some (sink_in o)) starts;
      is_line = refl;
      why = inl refl;
    }

    unless : (b c : Bool) → AllLeft (IsOfSink it) (if b then [] else left_if rank written.line (Some (if c then NotJudged else NeverReported)))
    unless true c = tt
    unless false c = (of_why c, tt)

of_records : (it : Recording) (rank : ℕ) (list : Listed) (first : ℕ) (records : List Written) → slice_get it.lists rank ≡ Some list → AreFrom list.records first records → AllLeft (IsOfSink it) (flat_map (left_by rank list) records)
of_records it rank list first [] is_list are = tt
of_records it rank list first (one ∷ records) is_list are =
    left_append (IsOfSink it) (left_by rank list one) (flat_map (left_by rank list) records)
    (of_record it rank list first one one.starts refl is_list (here_first list.records first one records are))
    (of_records it rank list (suc first) records is_list (from_next list.records first one records are))

of_lists : (it : Recording) (rank : ℕ) (lists : List Listed) → ((place : ℕ) (list : Listed) → slice_get lists place ≡ Some list → slice_get it.lists (rank + place) ≡ Some list) → list_all (λ (list : Listed). is_none list.why) lists ≡ true → AllLeft (IsOfSink it) (left_from rank lists)
of_lists it rank [] are none = tt
of_lists it rank (list ∷ lists) are none =
    let parts = and_parts (is_none list.why) (list_all (λ (other : Listed). is_none other.why) lists) none in
    let here : slice_get it.lists rank ≡ Some list = subst (λ (n : ℕ). slice_get it.lists n ≡ Some list) (plus_zero rank) (are 0 list refl) in
    left_append (IsOfSink it) (flat_map (left_by rank list) list.records ++ left_if rank list.line list.why) (left_from (rank + 1) lists)
    (left_append (IsOfSink it) (flat_map (left_by rank list) list.records) (left_if rank list.line list.why)
    (of_records it rank list 0 list.records here (λ place one h. subst (λ (n : ℕ). slice_get list.records n ≡ Some one) (zero_plus place) h))
    (rw (none_of list.why parts.0) tt))
    (of_lists it (rank + 1) lists (λ place other h. subst (λ (n : ℕ). slice_get it.lists n ≡ Some other) (one_further rank place) (are (suc place) other h)) parts.1)
  where
    plus_zero : (a : ℕ) → a + 0 ≡ a
    plus_zero a = omega arith

    one_further : (a b : ℕ) → a + suc b ≡ (a + 1) + b
    one_further a b = omega arith

    zero_plus : (a : ℕ) → a ≡ 0 + a
    zero_plus a = omega arith

pub sinks_alone_are_left : SinksAloneAreLeft
sinks_alone_are_left run choice read none place left h =
    let it = recording_of run choice in
    left_there (IsOfSink it) (left_of it.lists) place left
    (of_lists it 0 it.lists (λ at list is. subst (λ (n : ℕ). slice_get it.lists n ≡ Some list) (zero_plus at) is) (what_is_free_is_whole run choice read none).none_left) h
  where
    zero_plus : (a : ℕ) → a ≡ 0 + a
    zero_plus a = omega arith

-- where lists have no sinks nothing is left
not_sinks : (rank : ℕ) (list : Listed) (records : List Written) → NoSinks records → flat_map (left_by rank list) records ≡ []
not_sinks rank list [] none = refl
not_sinks rank list (one ∷ records) none = rw (not_sink one.starts none.0 one refl) (not_sinks rank list records none.1)
  where
    not_sink : (o : Option Id) → is_none (sink_in o) ≡ true → (written : Written) → written.starts ≡ o → left_by rank list written ≡ []
    not_sink None none written starts = rw starts refl
    not_sink (Some (Own request)) none written starts = rw starts refl
    not_sink (Some (Whole line)) none written starts = rw starts refl
    not_sink (Some (ReceiveHalf line)) none written starts = rw starts refl
    not_sink (Some (Sink own wanted is_known)) none written starts = absurd (false≢true none)

left_none : (rank : ℕ) (lists : List Listed) → AllWithout lists → list_all (λ (list : Listed). is_none list.why) lists ≡ true → left_from rank lists ≡ []
left_none rank [] without none = refl
left_none rank (list ∷ lists) without none =
    let parts = and_parts (is_none list.why) (list_all (λ (other : Listed). is_none other.why) lists) none in
    rw (not_sinks rank list list.records without.0, none_of list.why parts.0) (left_none (rank + 1) lists without.1 parts.1)

pub nothing_is_left : NothingIsLeft
unfolding recording_of
nothing_is_left run choice ends read none =
    left_none 0 (map (list_of run choice) (ranks_of run)) (all_without run choice (ranks_of run) ends) (what_is_free_is_whole run choice read none).none_left
