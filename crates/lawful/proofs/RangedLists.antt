-- Each call of a recording of journals that were read is in its ranges.
use Rattle.std.proofs.Common.{◌≡◌, ℕ, zero, suc, ◌+◌, ◌-◌, ◌≤◌, ◌<◌, not, Bool, true, false, if◌then◌else◌, get_or, Option, Some, None, List, [], ◌∷◌, ◌++◌, length, map, take, filter, refl, sym, ap, subst, arith, inl, inr, length-append}
use Rattle.std.specs.Prelude.{⊤, nat_le, nat_lt, is_none, slice_get, option_and_then}
use Rattle.std.specs.List.{list_all, list_any}
use Rattle.std.specs.Option.{option_map_or}
use Rattle.std.proofs.lemmas.Bool.{cases_Bool, false≢true, le-leb, and_parts}
use Rattle.std.proofs.lemmas.List.{length-map, take-map}
use Rattle.std.proofs.lemmas.List.Quantifiers.{position-Some}
use Rattle.std.proofs.lemmas.Option.{none-some, same_Some}
use Rattle.mpicall.specs.Argument.{none_or_up_to}
use Rattle.mpicall.specs.Ending.{ends_list}
use Rattle.mpicall.specs.Limits.{in_ranges}
use Rattle.mpicall.specs.declared.limits.TheConstants.{GREATEST_COMM, GREATEST_RANK, GREATEST_COLOUR, GREATEST_REQUEST}
use Rattle.mpicall.specs.declared.call.Call.{Call}
use Rattle.mpicall.specs.declared.call.Call.TheVariants.{Split, Finalize, Open}
use Rattle.mpicall.specs.declared.call.Mode.TheVariants.{Standard}
use Rattle.journals.specs.Lines.{Line}
use Rattle.journals.specs.Journal.{Journal}
use Rattle.journals.specs.declared.field.Field.{Field}
use Rattle.journals.specs.declared.word.Word.{Word}
use Rattle.journals.specs.declared.word.Word.TheVariants.{Call as CallLine, Report}
use Rattle.closing.specs.Called.{Called, Sent, Awaited, Receives, StartsReceive, Exchanges, StartsExchange, Probes, ProbesMatching}
use Rattle.closing.specs.Keys.{Key, World, same_key, group_of_key, has_member}
use Rattle.closing.specs.RankComms.{RankComms, comms_first, after_line}
use Rattle.closing.specs.Entries.{Run, Placed, journal_at, entries_from, entries_in, entries_at, ranks_of}
use Rattle.closing.specs.Numbers.{numbered_keys, number_of, named_key, is_of_call, preface_keys, share_member, put_in_line, put_in_lines, preface_lines, rank_in, preface_split, preface_of}
use Rattle.closing.specs.Reported.{Message, got_in, done_of, from_nobody, is_moved, unless_moved, message_of}
use Rattle.closing.specs.Steps.{Written, Progress, Step, WaitsForLate, after_steps}
use Rattle.closing.specs.Endings.{awaited_at, message_at, awaited_can_be, sends_can_be, can_be, size_at, number_at, why_at}
use Rattle.closing.specs.Entry.{Choice, is_past, here_at, on_none, parent_group, steps_by, steps_of}
use Rattle.closing.specs.Recording.{Listed, is_end, steps_before, outcome_by, outcome_in, go_on, list_from, progress_first, whole_list, most_records, line_of, cut, without_journal, list_of, calls_of, recording_of}
use Rattle.closing.specs.Sinks.{Outcome, GoesOn, Ends}
use Rattle.closing.specs.declared.pending.Wanted.{Wanted}
use Rattle.closing.specs.declared.why.Why.{Why}
use Rattle.closing.specs.declared.why.Why.TheVariants.{NeverReported, TooLong}
use Rattle.lawful.specs.Closed.{EachListIsInRanges}
use Rattle.lawful.proofs.KeyLemmas.{same_key_is_equal}
use Rattle.lawful.proofs.StepLemmas.{AreSaid, calls_in, plain_calls}
use Rattle.lawful.proofs.TableLemmas.{steps_said}
use Rattle.lawful.proofs.ListLemmas.{list_of_fits, sinks_said}
use Rattle.lawful.proofs.PassLemmas.{AreSteps, steps_unless}
use Rattle.lawful.proofs.NameLemmas.{none_names, message_fits, on_group}
use Rattle.lawful.proofs.SinkCases.{IsUnsure, PassCalls, by_lists, calls_pass, half_sent, in_passes, lists_both}
use Rattle.lawful.proofs.CallLemmas.{can_at}
use Rattle.lawful.proofs.FaultLemmas.{records_short}
use Rattle.lawful.proofs.RangeLemmas.{AllRanged, Ranged, InRanges, ranged_take, ranged_all, steps_ranged}
use Rattle.lawful.proofs.GroupFacts.{few_members}
use Rattle.lawful.proofs.FullFacts.{LineFull, LinesFull}
use Rattle.lawful.proofs.RunFull.{RunFull, run_full, journal_at_full}
use Rattle.lawful.proofs.KeyGroups.{KeyFull, AllKeys, numbered_full, early_full}
use Rattle.lawful.proofs.HeadLemmas.{few_numbered}
use Rattle.lawful.proofs.FieldRanges.{FieldOk, ReportedOk, MessageOk, line_ok, got_ok, done_ok, message_ok}
use Rattle.lawful.proofs.CalledRanges.{CalledOk, SentOk, called_in}
use Rattle.lawful.proofs.RangedTable.{Given, on_comm_ranged, maker_ranged, rank_low, start_send_ranged}

-- ---- Communicators of the head ----

keys_get : (ranks : ℕ) (keys : List Key) (i : ℕ) (d : Key) → i < length keys → AllKeys ranks keys → KeyFull ranks (get_or keys i d)
keys_get ranks [] i d within all = absurd (omega (arith, within))
keys_get ranks (key ∷ keys) zero d within all = all.0
keys_get ranks (key ∷ keys) (suc i) d within all = keys_get ranks keys i d (omega (arith, within)) all.1

-- a group of the head is no larger than a run may be
full_size : (run : Run) (key : Key) → RunFull run → KeyFull (length run) key → length (group_of_key (length run) key) ≤ GREATEST_RANK + 1
full_size run key is full =
    le_le (length (group_of_key (length run) key)) (length run) (GREATEST_RANK + 1) (few_members (length run) (group_of_key (length run) key) full) is.fits.1
  where
    le_le : (a b c : ℕ) → a ≤ b → b ≤ c → a ≤ c
    le_le a b c ab bc = omega (arith, ab, bc)

number_low : (run : Run) (key : Key) (number : ℕ) → number_of run key ≡ Some number → nat_le number GREATEST_COMM ≡ true
number_low run key number h =
    let found = position-Some (λ (k : Key). same_key k key) (numbered_keys run) number World h in
    le-leb number GREATEST_COMM (below number (length (numbered_keys run)) found.0 (few_numbered run))
  where
    below : (a b : ℕ) → a < b → b ≤ GREATEST_COMM + 1 → a ≤ GREATEST_COMM
    below a b ab few = omega (arith, ab, few)

given : (run : Run) → RunFull run → (key : Key) (number : ℕ) → number_of run key ≡ Some number → Given run key number
given run is key number h =
    let found = position-Some (λ (k : Key). same_key k key) (numbered_keys run) number World h in
    let same = same_key_is_equal (get_or (numbered_keys run) number World) key found.1 in
    let full : KeyFull (length run) key = subst (λ (k : Key). KeyFull (length run) k) same
    (keys_get (length run) (numbered_keys run) number World found.0 (numbered_full run is)) in
    record { number = number_low run key number h; size = full_size run key is full }

-- ---- Entries ----

pub record EntryFull (run : Run) (placed : Placed) : Type 0 where
  pub reports : LinesFull (length run) placed.entry.reports
  pub lines : LinesFull (length run) placed.journal.lines
  pub ok : CalledOk placed.called

abbrev pub EntriesFull : Run → List Placed → Type 0
EntriesFull run [] = ⊤
EntriesFull run (placed ∷ entries) = EntryFull run placed × EntriesFull run entries

put_full : (run : Run) (rank : ℕ) (journal : Journal) (number : ℕ) (comms : RankComms) (word : Word) (fields : List Field) (lines : List Line) → RunFull run → LinesFull (length run) journal.lines → LineFull (length run) (record { word = word; fields = fields }) → LinesFull (length run) lines → EntriesFull run (entries_from rank journal (number + 1) (after_line comms (record { word = word; fields = fields })) lines) → EntriesFull run (entries_from rank journal number comms (record { word = word; fields = fields } ∷ lines))
put_full run rank journal number comms (CallLine word) fields lines is whole full all others = (
  record {
    reports = early_full (length run) lines all;
    lines = whole;
    ok = called_in (length run) word fields full.read (line_ok (length run) (record { word = CallLine word; fields = fields }) is.fits.1 full);
  },
  others,
)
put_full run rank journal number comms (Report word) fields lines is whole full all others = others

from_full : (run : Run) (rank : ℕ) (journal : Journal) (number : ℕ) (comms : RankComms) (lines : List Line) → RunFull run → LinesFull (length run) journal.lines → LinesFull (length run) lines → EntriesFull run (entries_from rank journal number comms lines)
from_full run rank journal number comms [] is whole all = tt
from_full run rank journal number comms (line ∷ lines) is whole all =
    put_full run rank journal number comms line.word line.fields lines is whole all.0 all.1
    (from_full run rank journal (number + 1) (after_line comms line) lines is whole all.1)

in_full : (run : Run) (rank : ℕ) (o : Option Journal) → RunFull run → ((journal : Journal) → o ≡ Some journal → LinesFull (length run) journal.lines) → EntriesFull run (entries_in rank o)
in_full run rank None is full = tt
in_full run rank (Some journal) is full = from_full run rank journal 2 (comms_first rank) journal.lines is (full journal refl) (full journal refl)

pub entries_full : (run : Run) (rank : ℕ) → RunFull run → EntriesFull run (entries_at run rank)
entries_full run rank is = in_full run rank (journal_at run rank) is (λ journal h. journal_at_full run rank journal is h)

-- ---- Messages ----

abbrev AwaitedOk : Awaited × Option Message → Type 0
AwaitedOk it = FieldOk it.0.tag × ReportedOk it.1

unless_ok : (lines : List Line) (request : ℕ) (it : Awaited) → FieldOk it.tag → FieldOk (unless_moved lines request it).tag
unless_ok lines request it ok = by (is_moved lines request)
  where
    by : (b : Bool) → FieldOk (if b then from_nobody it else it).tag
    by true = refl
    by false = ok

awaited_ok : (run : Run) (placed : Placed) (it : Called) → placed.called ≡ it → CalledOk it → RunFull run → EntryFull run placed → (one : Awaited × Option Message) → awaited_at placed ≡ Some one → AwaitedOk one
awaited_ok run placed (Receives awaited) is ok full entry one h =
    subst AwaitedOk (same_Some (awaited, got_in placed.entry) one (rw is at h)) (ok, got_ok (length run) placed.entry full.fits.1 entry.reports)
awaited_ok run placed (StartsReceive request awaited) is ok full entry one h =
    subst AwaitedOk (same_Some (unless_moved placed.journal.lines request awaited, done_of placed.journal.lines request) one (rw is at h)) (unless_ok placed.journal.lines request awaited ok, done_ok (length run) placed.journal.lines request full.fits.1 entry.lines)
awaited_ok run placed (Exchanges sent awaited) is ok full entry one h =
    subst AwaitedOk (same_Some (awaited, got_in placed.entry) one (rw is at h)) (ok.1, got_ok (length run) placed.entry full.fits.1 entry.reports)
awaited_ok run placed (StartsExchange request received sent awaited) is ok full entry one h =
    subst AwaitedOk (same_Some (unless_moved placed.journal.lines received awaited, done_of placed.journal.lines received) one (rw is at h)) (unless_ok placed.journal.lines received awaited ok.1, done_ok (length run) placed.journal.lines received full.fits.1 entry.lines)
awaited_ok run placed (Probes awaited) is ok full entry one h =
    subst AwaitedOk (same_Some (awaited, got_in placed.entry) one (rw is at h)) (ok, got_ok (length run) placed.entry full.fits.1 entry.reports)
awaited_ok run placed (ProbesMatching message awaited) is ok full entry one h =
    subst AwaitedOk (same_Some (awaited, got_in placed.entry) one (rw is at h)) (ok, got_ok (length run) placed.entry full.fits.1 entry.reports)
awaited_ok run placed _ is ok full entry one h = absurd (none-some one (rw is at h))

message_in_range : (run : Run) (placed : Placed) (it : Message) → RunFull run → EntryFull run placed → message_at placed ≡ Some it → MessageOk it
message_in_range run placed it full entry h = of_awaited (awaited_at placed) refl h
  where
    of_awaited : (o : Option (Awaited × Option Message)) → awaited_at placed ≡ o → option_and_then (λ a. message_of a.0 a.1) o ≡ Some it → MessageOk it
    of_awaited None is e = absurd (none-some it e)
    of_awaited (Some one) is e =
        let ok = awaited_ok run placed placed.called refl entry.ok full entry one is in
        message_ok one.0 one.1 it ok.0 ok.1 e

-- ---- Steps ----

-- the communicator of an entry
record IsOn (run : Run) (placed : Placed) (comm : ℕ) : Type 0 where
  key : Key
  is_key : named_key placed ≡ Some key
  is_number : number_of run key ≡ Some comm

on_key : (run : Run) (placed : Placed) (comm : ℕ) (o : Option Key) → named_key placed ≡ o → option_and_then (number_of run) o ≡ Some comm → IsOn run placed comm
on_key run placed comm None is h = absurd (none-some comm h)
on_key run placed comm (Some key) is h = record { key = key; is_key = is; is_number = h }

by_ranged : (run : Run) (choice : Choice) (placed : Placed) (o : Option ℕ) → number_at run placed ≡ o → RunFull run → EntryFull run placed → can_be run placed ≡ true → AreSteps Ranged (steps_by run choice placed o)
by_ranged run choice placed None is full entry can =
    steps_unless Ranged (is_past choice.calls placed) (on_none choice placed placed.journal.lines placed.called)
    (none_names Ranged choice placed placed.journal.lines placed.called)
by_ranged run choice placed (Some comm) is full entry can =
    let on = on_key run placed comm (named_key placed) refl is in
    let group = group_of_key (length run) on.key in
    let size : size_at run placed ≡ length group = ap (λ (o : Option Key). option_map_or (λ k. length (group_of_key (length run) k)) o 0) on.is_key in
    let parent : parent_group run placed ≡ group = ap (λ (o : Option Key). option_map_or (group_of_key (length run)) o []) on.is_key in
    let facts = given run full on.key comm on.is_number in
    let parts = and_parts (sends_can_be (size_at run placed) placed.called) (option_map_or (awaited_can_be (size_at run placed)) (awaited_at placed) true) can in
    on_comm_ranged (here_at run choice placed comm) group placed.called (record { number = facts.number; size = facts.size })
    (maker_ranged run placed comm facts.number (subst (λ (g : List ℕ). length g ≤ GREATEST_RANK + 1) (sym parent) facts.size) entry.ok (given run full))
    (subst (λ (n : ℕ). sends_can_be n placed.called ≡ true) size parts.0) entry.ok
    (λ it known. record {
      fits = message_fits group (awaited_at placed) it (subst (λ (n : ℕ). option_map_or (awaited_can_be n) (awaited_at placed) true ≡ true) size parts.1) known;
      ok = message_in_range run placed it full entry known;
    })

steps_in : (run : Run) (choice : Choice) (placed : Placed) → RunFull run → EntryFull run placed → can_be run placed ≡ true → AreSteps Ranged (steps_of run choice placed)
steps_in run choice placed full entry can = by_ranged run choice placed (number_at run placed) refl full entry can

-- ---- Lists ----

abbrev pub StepsOk : List Step → Type 0
StepsOk steps = AreSaid steps × AreSteps Ranged steps

abbrev pub OutcomeOk : Outcome → Type 0
OutcomeOk (GoesOn steps) = StepsOk steps
OutcomeOk (Ends steps end why) = StepsOk steps

before_ok : (run : Run) (choice : Choice) (placed : Placed) (it : Called) (why : Why) → why_at run placed ≡ Some why → RunFull run → EntryFull run placed → StepsOk (steps_before run choice placed it why)
before_ok run choice placed (StartsExchange request received sent awaited) NeverReported is full entry =
    (steps_said run choice placed, steps_in run choice placed full entry (can_at run placed (rw is refl)))
before_ok run choice placed _ _ is full entry = (tt, tt)

end_ok : (run : Run) (choice : Choice) (placed : Placed) (b : Bool) → StepsOk (steps_of run choice placed) → OutcomeOk (if b then Ends (WaitsForLate ∷ []) Finalize None else GoesOn (steps_of run choice placed))
end_ok run choice placed true ok = ((tt, tt), (tt, tt))
end_ok run choice placed false ok = ok

outcome_ok : (run : Run) (choice : Choice) (placed : Placed) (o : Option Why) → why_at run placed ≡ o → RunFull run → EntryFull run placed → OutcomeOk (outcome_by run choice placed o)
outcome_ok run choice placed (Some why) is full entry = before_ok run choice placed placed.called why is full entry
outcome_ok run choice placed None is full entry =
    end_ok run choice placed (is_end placed.called) (steps_said run choice placed, steps_in run choice placed full entry (can_at run placed (rw is refl)))

-- what an exchange sends is in its ranges
half_ok : (it : Called) (sent : Sent) → half_sent it ≡ Some sent → CalledOk it → SentOk Standard sent
half_ok (Exchanges one awaited) sent h ok = subst (λ (s : Sent). SentOk Standard s) (same_Some one sent h) ok.0
half_ok (StartsExchange request received one awaited) sent h ok = subst (λ (s : Sent). SentOk Standard s) (same_Some one sent h) ok.0
half_ok _ sent h ok = absurd (none-some sent h)

sink_ranged : (run : Run) (placed : Placed) (wanted : Wanted) → RunFull run → EntryFull run placed → IsUnsure run placed wanted → PassCalls Ranged placed wanted
sink_ranged run placed wanted full entry is =
    let on = on_group run placed wanted is in
    let facts = given run full on.key wanted.comm (subst (λ (o : Option Key). option_and_then (number_of run) o ≡ Some wanted.comm) on.is_key is.number) in
    record {
      sink = λ number started. rw (started, facts.number) refl;
      half = λ sent h number.
          start_send_ranged wanted.comm (group_of_key (length run) on.key) Standard sent (record { number = facts.number; size = facts.size }) (on.half sent h)
          (half_ok placed.called sent h entry.ok) number;
    }

pub outcome_in_ok : (run : Run) (choice : Choice) (records : List Written) (placed : Placed) → RunFull run → EntryFull run placed → OutcomeOk (outcome_in run choice records placed)
outcome_in_ok run choice records placed full entry =
    in_passes run choice records placed OutcomeOk (outcome_ok run choice placed (why_at run placed) refl full entry)
    (by_lists run placed StepsOk OutcomeOk (λ steps ok awaits. ok) (λ steps why ok. ok)
    (lists_both run placed AreSaid (AreSteps Ranged) (sinks_said run placed)
    (calls_pass Ranged run placed (λ wanted is. sink_ranged run placed wanted full entry is))))

abbrev RecordsRanged : Listed → Type 0
RecordsRanged it = AllRanged 0 (map (λ one. one.call) it.records)

on_outcome : (progress : Progress) (line : ℕ) (outcome : Outcome) (others : Progress → Listed) → OutcomeOk outcome → InRanges progress → ((new : Progress) → InRanges new → RecordsRanged (others new)) → RecordsRanged (go_on progress line outcome others)
on_outcome progress line (GoesOn steps) others ok ranges rest = rest (after_steps progress line steps) (steps_ranged progress line steps ok.0 ok.1 ranges)
on_outcome progress line (Ends steps end why) others ok ranges rest = (steps_ranged progress line steps ok.0 ok.1 ranges).ranged

list_ranged : (run : Run) (choice : Choice) (entries : List Placed) (progress : Progress) → RunFull run → EntriesFull run entries → InRanges progress → RecordsRanged (list_from run choice progress entries)
list_ranged run choice [] progress full all ranges = ranges.ranged
list_ranged run choice (placed ∷ entries) progress full all ranges =
    on_outcome progress placed.line (outcome_in run choice progress.records placed) (λ new. list_from run choice new entries)
    (outcome_in_ok run choice progress.records placed full all.0) ranges (λ new new_ranges. list_ranged run choice entries new full all.1 new_ranges)

-- ---- The preface ----

abbrev sizes : List (List Key) → ℕ
sizes [] = 0
sizes (line ∷ lines) = length line + sizes lines

put_sizes : (ranks : ℕ) (key : Key) (lines : List (List Key)) → sizes (put_in_line ranks key lines) ≡ suc (sizes lines)
put_sizes ranks key [] = omega arith
put_sizes ranks key (line ∷ lines) =
    elim (cases_Bool (list_any (share_member ranks key) line)) [
      | inl shares ↦ rw shares (let rest = put_sizes ranks key lines in omega (arith, rest))
      | inr apart ↦ rw apart (let more = length-append line (key ∷ []) in omega (arith, more))
    ]

puts_sizes : (ranks : ℕ) (keys : List Key) (lines : List (List Key)) → sizes (put_in_lines ranks keys lines) ≡ length keys + sizes lines
puts_sizes ranks [] lines = omega arith
puts_sizes ranks (key ∷ keys) lines =
    let rest = puts_sizes ranks keys (put_in_line ranks key lines) in
    let first = put_sizes ranks key lines in
    omega (arith, rest, first)

filter_short : (test : Key → Bool) (keys : List Key) → length (filter test keys) ≤ length keys
filter_short test [] = omega arith
filter_short test (key ∷ keys) =
    elim (cases_Bool (test key)) [
      | inl stays ↦ rw stays (let rest = filter_short test keys in omega (arith, rest))
      | inr goes ↦ rw goes (let rest = filter_short test keys in omega (arith, rest))
    ]

abbrev AllLines : ℕ → List (List Key) → Type 0
AllLines ranks [] = ⊤
AllLines ranks (line ∷ lines) = AllKeys ranks line × AllLines ranks lines

keys_push : (ranks : ℕ) (keys : List Key) (key : Key) → AllKeys ranks keys → KeyFull ranks key → AllKeys ranks (keys ++ key ∷ [])
keys_push ranks [] key all is = (is, tt)
keys_push ranks (one ∷ keys) key all is = (all.0, keys_push ranks keys key all.1 is)

put_lines : (ranks : ℕ) (key : Key) (lines : List (List Key)) → KeyFull ranks key → AllLines ranks lines → AllLines ranks (put_in_line ranks key lines)
put_lines ranks key [] is all = ((is, tt), tt)
put_lines ranks key (line ∷ lines) is all =
    elim (cases_Bool (list_any (share_member ranks key) line)) [
      | inl shares ↦ rw shares (all.0, put_lines ranks key lines is all.1)
      | inr apart ↦ rw apart (keys_push ranks line key all.0 is, all.1)
    ]

puts_lines : (ranks : ℕ) (keys : List Key) (lines : List (List Key)) → AllKeys ranks keys → AllLines ranks lines → AllLines ranks (put_in_lines ranks keys lines)
puts_lines ranks [] lines keys all = all
puts_lines ranks (key ∷ others) lines keys all = puts_lines ranks others (put_in_line ranks key lines) keys.1 (put_lines ranks key lines keys.0 all)

keys_filter : (ranks : ℕ) (test : Key → Bool) (keys : List Key) → AllKeys ranks keys → AllKeys ranks (filter test keys)
keys_filter ranks test [] all = tt
keys_filter ranks test (key ∷ keys) all =
    elim (cases_Bool (test key)) [
      | inl stays ↦ rw stays (all.0, keys_filter ranks test keys all.1)
      | inr goes ↦ rw goes (keys_filter ranks test keys all.1)
    ]

new_low : (run : Run) (key : Key) (o : Option ℕ) → number_of run key ≡ o → none_or_up_to GREATEST_COMM o ≡ true
new_low run key None is = refl
new_low run key (Some number) is = number_low run key number is

either_in : (b : Bool) (first other : Call) → in_ranges first ≡ true → in_ranges other ≡ true → in_ranges (if b then first else other) ≡ true
either_in true first other is_first is_other = is_first
either_in false first other is_first is_other = is_other

split_in : (run : Run) (rank colour : ℕ) (keys : List Key) → RunFull run → AllKeys (length run) keys → colour + length keys ≤ GREATEST_COLOUR → in_ranges (preface_split run rank colour keys) ≡ true
split_in run rank colour [] is all short = refl
split_in run rank colour (key ∷ keys) is all short =
    either_in (has_member (length run) rank key) (Split 0 (Some colour) (rank_in run rank key) (number_of run key)) (preface_split run rank (colour + 1) keys)
    (rw (le-leb colour GREATEST_COLOUR (omega (arith, short)), rank_low run rank key (full_size run key is all.0), new_low run key (number_of run key) refl) refl)
    (split_in run rank (colour + 1) keys is all.1 (omega (arith, short)))

record PrefaceOk (run : Run) : Type 0 where
  lines : AllLines (length run) (preface_lines run)
  short : sizes (preface_lines run) ≤ GREATEST_COLOUR

preface_ok : (run : Run) → RunFull run → PrefaceOk run
preface_ok run is = record {
  lines = puts_lines (length run) (preface_keys run) []
      (keys_filter (length run) (λ (key : Key). not (is_of_call key)) (numbered_keys run) (numbered_full run is)) tt;
  short = few (sizes (preface_lines run)) (length (preface_keys run)) (length (numbered_keys run)) (puts_sizes (length run) (preface_keys run) [])
      (filter_short (λ (key : Key). not (is_of_call key)) (numbered_keys run)) (few_numbered run);
}
  where
    few : (a b c : ℕ) → a ≡ b + 0 → b ≤ c → c ≤ GREATEST_COMM + 1 → a ≤ GREATEST_COLOUR
    few a b c ab bc cg = omega (arith, ab, bc, cg)

splits_in : (run : Run) (rank : ℕ) (lines : List (List Key)) → RunFull run → AllLines (length run) lines → sizes lines ≤ GREATEST_COLOUR → list_all in_ranges (map (preface_split run rank 0) lines) ≡ true
splits_in run rank [] is all short = refl
splits_in run rank (line ∷ lines) is all short =
    rw (split_in run rank 0 line is all.0 (omega (arith, short)), splits_in run rank lines is all.1 (omega (arith, short))) refl

-- each line of the preface is in its ranges
pub preface_in : (run : Run) (rank : ℕ) → RunFull run → list_all in_ranges (preface_of run rank) ≡ true
preface_in run rank is =
    let ok = preface_ok run is in
    splits_in run rank (preface_lines run) is ok.lines ok.short

ranged_in : (place : ℕ) (calls : List Call) → list_all in_ranges calls ≡ true → AllRanged place calls
ranged_in place [] all = tt
ranged_in place (call ∷ calls) all =
    let parts = and_parts (in_ranges call) (list_all in_ranges calls) all in
    ((λ within. parts.0), ranged_in (place + 1) calls parts.1)

first_ranged : (run : Run) (rank : ℕ) → RunFull run → InRanges (progress_first run rank)
first_ranged run rank is = record {
  ranged = subst (λ (calls : List Call). AllRanged 0 calls) (sym (plain_calls 0 (preface_of run rank))) (ranged_in 0 (preface_of run rank) (preface_in run rank is));
  low = zero_le (length (calls_in (progress_first run rank)));
}
  where
    zero_le : (n : ℕ) → 0 ≤ n
    zero_le n = omega arith

-- ---- A list of a recording ----

whole_ranged : (run : Run) (choice : Choice) (rank : ℕ) → RunFull run → RecordsRanged (whole_list run choice rank)
whole_ranged run choice rank is = list_ranged run choice (entries_at run rank) (progress_first run rank) is (entries_full run rank is) (first_ranged run rank is)

ranged_if : (b : Bool) (first other : Listed) → RecordsRanged first → RecordsRanged other → RecordsRanged (if b then first else other)
ranged_if true first other is_first is_other = is_first
ranged_if false first other is_first is_other = is_other

cut_ranged : (it : Listed) → RecordsRanged it → RecordsRanged (cut it)
cut_ranged it all =
    ranged_if (nat_lt (length it.records) most_records) it
    (record { records = take (most_records - 1) it.records; end = Open; line = line_of (slice_get it.records (most_records - 1)); why = Some TooLong; active = it.active }) all
    (subst (λ (calls : List Call). AllRanged 0 calls) (take-map (λ (one : Written). one.call) (most_records - 1) it.records)
    (ranged_take (most_records - 1) 0 (map (λ one. one.call) it.records) all))

without_ranged : (b : Bool) (it : Listed) → RecordsRanged it → RecordsRanged (without_journal b it)
without_ranged true it all = all
without_ranged false it all = all

list_of_ranged : (run : Run) (choice : Choice) (rank : ℕ) → RunFull run → RecordsRanged (list_of run choice rank)
list_of_ranged run choice rank is =
    without_ranged (is_none (journal_at run rank)) (cut (whole_list run choice rank)) (cut_ranged (whole_list run choice rank) (whole_ranged run choice rank is))

end_in : (call : Call) → ends_list call ≡ true → in_ranges call ≡ true
end_in Finalize h = refl
end_in Open h = refl
end_in _ h = absurd (false≢true h)

all_append : (xs : List Call) (y : Call) → list_all in_ranges xs ≡ true → in_ranges y ≡ true → list_all in_ranges (xs ++ y ∷ []) ≡ true
all_append [] y all is = rw is refl
all_append (x ∷ xs) y all is =
    let parts = and_parts (in_ranges x) (list_all in_ranges xs) all in
    rw (parts.0, all_append xs y parts.1 is) refl

list_in : (run : Run) (choice : Choice) (rank : ℕ) → RunFull run → list_all in_ranges (calls_of (list_of run choice rank)) ≡ true
list_in run choice rank is =
    let it = list_of run choice rank in
    let calls : List Call = map (λ one. one.call) it.records in
    let same : length calls ≡ length it.records = length-map it.records (λ one. one.call) in
    all_append calls it.end (ranged_all 0 calls (short (length calls) (length it.records) same (records_short run choice rank)) (list_of_ranged run choice rank is))
    (end_in it.end (list_of_fits run choice rank).1)
  where
    short : (a b : ℕ) → a ≡ b → b < most_records → 0 + a ≤ GREATEST_REQUEST
    short a b ab low = omega (arith, ab, low)

in_there : (run : Run) (choice : Choice) (list : Listed) (ranks : List ℕ) (k : ℕ) → RunFull run → k < length (map (list_of run choice) ranks) → get_or (map (list_of run choice) ranks) k list ≡ list → list_all in_ranges (calls_of list) ≡ true
in_there run choice list [] k full within is = absurd (omega (arith, within))
in_there run choice list (rank ∷ ranks) zero full within is = subst (λ (it : Listed). list_all in_ranges (calls_of it) ≡ true) is (list_in run choice rank full)
in_there run choice list (rank ∷ ranks) (suc k) full within is = in_there run choice list ranks k full (omega (arith, within)) is

pub each_list_is_in_ranges : EachListIsInRanges
unfolding recording_of
each_list_is_in_ranges run choice read list there =
    in_there run choice list (ranks_of run) there.0 (run_full read.first read.texts run read.is_read) there.1 there.2
