-- The groups of the head: each is of distinct ranks of the run, some.
use Rattle.std.proofs.Common.{◌≡◌, ℕ, zero, suc, ◌+◌, ◌≤◌, ◌<◌, ◌&&◌, not, Bool, true, Option, Some, None, List, [], ◌∷◌, ◌++◌, length, take, filter, refl, subst, arith, inl, inr}
use Rattle.std.specs.Prelude.{⊤, option_map, option_and_then}
use Rattle.std.specs.List.{find, filter_map, cons_option, flat_map, range_with_len}
use Rattle.std.proofs.lemmas.Bool.{cases_Bool, false≢true}
use Rattle.std.proofs.lemmas.Option.{none-some, same_Some}
use Rattle.mpicall.specs.declared.limits.TheConstants.{GREATEST_COMM}
use Rattle.journals.specs.Lines.{Line}
use Rattle.journals.specs.Journal.{Journal}
use Rattle.journals.specs.Entries.{Listing, put_line, listing_of, group_in}
use Rattle.journals.specs.Known.{is_report, report_of}
use Rattle.journals.specs.declared.field.Field.{Field}
use Rattle.journals.specs.declared.field.Field.TheVariants.{Natural}
use Rattle.journals.specs.declared.word.Word.{Word}
use Rattle.journals.specs.declared.word.Word.TheVariants.{Call as CallLine, Report}
use Rattle.journals.specs.declared.word.CallWord.{CallWord}
use Rattle.journals.specs.declared.word.CallWord.TheVariants as call
use Rattle.journals.specs.declared.word.ReportWord.{ReportWord}
use Rattle.journals.specs.declared.word.ReportWord.TheVariants as report
use Rattle.closing.specs.Called.{Called, MakesOfGroup, called}
use Rattle.closing.specs.Keys.{Key, OfGroup, Apart, group_of_key, has_member, is_key_among, each_once, group_count}
use Rattle.closing.specs.RankComms.{Wave, RankComms, comms_first, under, key_next, makes_comm, with_some, with_key, made_in, duplicated_in, with_made, after_report, after_line, after_lines, comms_after}
use Rattle.closing.specs.Entries.{Run, Placed, ranks_of, journal_at, lines_at, lines_in, entries_from, entries_in, entries_at, all_entries}
use Rattle.closing.specs.Made.{wave_at, is_wave, may_give, made_with, reported_key, keys_of_wave, others_key, inferred_key, keys_at}
use Rattle.closing.specs.Numbers.{is_named, numbered_keys}
use Rattle.lawful.proofs.GroupFacts.{IsGroupOf, world_group, alone_group}
use Rattle.lawful.proofs.FullFacts.{GroupFull, LineFull, LinesFull}
use Rattle.lawful.proofs.RunFull.{RunFull, journal_at_full}
use Rattle.lawful.proofs.CalledLemmas.{GroupIs, MakesGroup, called_group}

abbrev pub KeyFull : ℕ → Key → Type 0
KeyFull ranks key = IsGroupOf ranks (group_of_key ranks key)

-- ---- Lists of keys ----

abbrev pub AllKeys : ℕ → List Key → Type 0
AllKeys ranks [] = ⊤
AllKeys ranks (key ∷ keys) = KeyFull ranks key × AllKeys ranks keys

keys_append : (ranks : ℕ) (xs ys : List Key) → AllKeys ranks xs → AllKeys ranks ys → AllKeys ranks (xs ++ ys)
keys_append ranks [] ys first others = others
keys_append ranks (x ∷ xs) ys first others = (first.0, keys_append ranks xs ys first.1 others)

keys_some : (ranks : ℕ) (keys : List Key) (o : Option Key) → AllKeys ranks keys → ((key : Key) → o ≡ Some key → KeyFull ranks key) → AllKeys ranks (with_some keys o)
keys_some ranks keys None all one = all
keys_some ranks keys (Some key) all one = keys_append ranks keys (key ∷ []) all (one key refl, tt)

keys_filter : (ranks : ℕ) (test : Key → Bool) (keys : List Key) → AllKeys ranks keys → AllKeys ranks (filter test keys)
keys_filter ranks test [] all = tt
keys_filter ranks test (key ∷ keys) all =
    elim (cases_Bool (test key)) [
      | inl stays ↦ rw stays (all.0, keys_filter ranks test keys all.1)
      | inr goes ↦ rw goes (keys_filter ranks test keys all.1)
    ]

keys_once : (ranks : ℕ) (before keys : List Key) → AllKeys ranks keys → AllKeys ranks (each_once before keys)
keys_once ranks before [] all = tt
keys_once ranks before (key ∷ keys) all =
    elim (cases_Bool (is_key_among key before)) [
      | inl stood ↦ rw stood (keys_once ranks before keys all.1)
      | inr new ↦ rw new (all.0, keys_once ranks (key ∷ before) keys all.1)
    ]

keys_take : (ranks n : ℕ) (keys : List Key) → AllKeys ranks keys → AllKeys ranks (take n keys)
keys_take ranks zero keys all = tt
keys_take ranks (suc n) [] all = tt
keys_take ranks (suc n) (key ∷ keys) all = (all.0, keys_take ranks n keys all.1)

-- ---- What a rank gets ----

pub next_full : (ranks : ℕ) (comms : RankComms) (it : Called) (key : Key) → GroupIs (IsGroupOf ranks) it → key_next comms it ≡ Some key → KeyFull ranks key
next_full ranks comms (MakesOfGroup group) key is h =
    subst (λ (k : Key). KeyFull ranks k) (same_Some (OfGroup group (group_count group comms.groups)) key h) is
next_full ranks comms _ key is h = absurd (none-some key h)

with_full : (ranks number : ℕ) (comms : RankComms) (o : Option Key) → AllKeys ranks comms.keys → ((key : Key) → o ≡ Some key → KeyFull ranks key) → AllKeys ranks (with_key comms number o).keys
with_full ranks number comms None all one = all
with_full ranks number comms (Some key) all one = keys_append ranks comms.keys (key ∷ []) all (one key refl, tt)

pub mapped_full : (ranks : ℕ) (group : List ℕ) (way : List ℕ → Wave → Key) (o : Option Wave) (key : Key) → ((wave : Wave) → KeyFull ranks (way group wave)) → option_map (way group) o ≡ Some key → KeyFull ranks key
mapped_full ranks group way None key full h = absurd (none-some key h)
mapped_full ranks group way (Some wave) key full h = subst (λ (k : Key). KeyFull ranks k) (same_Some (way group wave) key h) (full wave)

made_full : (ranks number : ℕ) (group : List ℕ) (comms : RankComms) (own : Option Key) → IsGroupOf ranks group → AllKeys ranks comms.keys → AllKeys ranks (with_made comms number group own).keys
made_full ranks number group comms (Some key) is all = all
made_full ranks number group comms None is all =
    with_full ranks number comms (option_map (made_in group) comms.wave) all (λ key h. mapped_full ranks group made_in comms.wave key (λ wave. is) h)

report_full : (ranks : ℕ) (comms : RankComms) (word : ReportWord) (fields : List Field) (group : List ℕ) → GroupFull ranks (Report word) group → AllKeys ranks comms.keys → AllKeys ranks (after_report comms word fields group).keys
report_full ranks comms report.Comm (Natural number ∷ fields) group is all = made_full ranks number group comms comms.own is all
report_full ranks comms report.Idup (Natural number ∷ Natural request ∷ fields) group is all =
    with_full ranks number comms (option_map (duplicated_in group) (under request comms.duplicates)) all
    (λ key h. mapped_full ranks group duplicated_in (under request comms.duplicates) key (λ wave. is) h)
report_full ranks comms report.Apart (Natural number ∷ fields) group is all =
    keys_append ranks comms.keys (Apart group (group_count group comms.apart) ∷ []) all (is, tt)
report_full ranks comms _ fields group is all = all

pub makes_group : (ranks : ℕ) (word : CallWord) (group : List ℕ) → GroupFull ranks (CallLine word) group → MakesGroup (IsGroupOf ranks) word group
makes_group ranks call.CommCreateGroup group is = is
makes_group ranks _ group is = tt

line_full_keys : (ranks : ℕ) (comms : RankComms) (word : Word) (fields : List Field) → GroupFull ranks word (group_in (record { word = word; fields = fields })) → AllKeys ranks comms.keys → AllKeys ranks (after_line comms (record { word = word; fields = fields })).keys
line_full_keys ranks comms (CallLine word) fields is all =
    keys_some ranks comms.keys (key_next comms (called word fields)) all
    (λ key h. next_full ranks comms (called word fields) key
    (called_group (IsGroupOf ranks) word fields (makes_group ranks word (group_in (record { word = CallLine word; fields = fields })) is)) h)
line_full_keys ranks comms (Report word) fields is all = report_full ranks comms word fields (group_in (record { word = Report word; fields = fields })) is all

lines_full_keys : (ranks : ℕ) (lines : List Line) (comms : RankComms) → LinesFull ranks lines → AllKeys ranks comms.keys → AllKeys ranks (after_lines comms lines).keys
lines_full_keys ranks [] comms full all = all
lines_full_keys ranks (line ∷ lines) comms full all =
    lines_full_keys ranks lines (after_line comms line) full.1 (line_full_keys ranks comms line.word line.fields full.0.group all)

-- ---- Entries ----

abbrev pub AllPlaced : ℕ → List Placed → Type 0
AllPlaced ranks [] = ⊤
AllPlaced ranks (placed ∷ entries) = LinesFull ranks placed.entry.reports × AllPlaced ranks entries

placed_append : (ranks : ℕ) (xs ys : List Placed) → AllPlaced ranks xs → AllPlaced ranks ys → AllPlaced ranks (xs ++ ys)
placed_append ranks [] ys first others = others
placed_append ranks (x ∷ xs) ys first others = (first.0, placed_append ranks xs ys first.1 others)

early_put : (ranks : ℕ) (word : Word) (fields : List Field) (rest : Listing) → LineFull ranks (record { word = word; fields = fields }) → LinesFull ranks rest.early → LinesFull ranks (put_line word fields rest).early
early_put ranks (CallLine word) fields rest full all = tt
early_put ranks (Report word) fields rest full all = (full, all)

pub early_full : (ranks : ℕ) (lines : List Line) → LinesFull ranks lines → LinesFull ranks (listing_of lines).early
early_full ranks [] all = tt
early_full ranks (line ∷ lines) all = early_put ranks line.word line.fields (listing_of lines) all.0 (early_full ranks lines all.1)

entries_put : (ranks rank : ℕ) (journal : Journal) (number : ℕ) (comms : RankComms) (word : Word) (fields : List Field) (lines : List Line) → LinesFull ranks lines → AllPlaced ranks (entries_from rank journal (number + 1) (after_line comms (record { word = word; fields = fields })) lines) → AllPlaced ranks (entries_from rank journal number comms (record { word = word; fields = fields } ∷ lines))
entries_put ranks rank journal number comms (CallLine word) fields lines full others = (early_full ranks lines full, others)
entries_put ranks rank journal number comms (Report word) fields lines full others = others

entries_from_full : (ranks rank : ℕ) (journal : Journal) (number : ℕ) (comms : RankComms) (lines : List Line) → LinesFull ranks lines → AllPlaced ranks (entries_from rank journal number comms lines)
entries_from_full ranks rank journal number comms [] full = tt
entries_from_full ranks rank journal number comms (line ∷ lines) full =
    entries_put ranks rank journal number comms line.word line.fields lines full.1
    (entries_from_full ranks rank journal (number + 1) (after_line comms line) lines full.1)

-- what a journal's lines are, if there is one
abbrev JournalOk : ℕ → Option Journal → Type 0
JournalOk ranks o = (journal : Journal) → o ≡ Some journal → LinesFull ranks journal.lines

entries_in_full : (ranks rank : ℕ) (o : Option Journal) → JournalOk ranks o → AllPlaced ranks (entries_in rank o)
entries_in_full ranks rank None full = tt
entries_in_full ranks rank (Some journal) full = entries_from_full ranks rank journal 2 (comms_first rank) journal.lines (full journal refl)

lines_in_full : (ranks : ℕ) (o : Option Journal) → JournalOk ranks o → LinesFull ranks (lines_in o)
lines_in_full ranks None full = tt
lines_in_full ranks (Some journal) full = full journal refl

entries_at_full : (run : Run) (rank : ℕ) → RunFull run → AllPlaced (length run) (entries_at run rank)
entries_at_full run rank is = entries_in_full (length run) rank (journal_at run rank) (λ journal h. journal_at_full run rank journal is h)

mapped_entries : (run : Run) (ranks : List ℕ) → RunFull run → AllPlaced (length run) (flat_map (entries_at run) ranks)
mapped_entries run [] is = tt
mapped_entries run (rank ∷ ranks) is =
    placed_append (length run) (entries_at run rank) (flat_map (entries_at run) ranks) (entries_at_full run rank is) (mapped_entries run ranks is)

-- ---- What calls gave ----

comm_full : (ranks : ℕ) (word : Word) (group : List ℕ) → is_report report.Comm word ≡ true → GroupFull ranks word group → IsGroupOf ranks group
comm_full ranks (Report report.Comm) group is full = full
comm_full ranks _ group is full = absurd (false≢true is)

found_full : (ranks : ℕ) (lines : List Line) (line : Line) → LinesFull ranks lines → find (λ (l : Line). is_report report.Comm l.word) lines ≡ Some line → IsGroupOf ranks (group_in line)
found_full ranks [] line full found = absurd (none-some line found)
found_full ranks (first ∷ lines) line full found =
    elim (cases_Bool (is_report report.Comm first.word)) [
      | inl here ↦ subst (λ (l : Line). IsGroupOf ranks (group_in l)) (same_Some first line (rw here at found)) (comm_full ranks first.word (group_in first) here full.0.group)
      | inr there ↦ found_full ranks lines line full.1 (rw there at found)
    ]

with_wave_full : (ranks : ℕ) (o : Option Wave) (group : List ℕ) (key : Key) → IsGroupOf ranks group → made_with o group ≡ Some key → KeyFull ranks key
with_wave_full ranks o group key is h = mapped_full ranks group made_in o key (λ wave. is) h

of_line_full : (ranks : ℕ) (placed : Placed) (key : Key) (o : Option Line) → LinesFull ranks placed.entry.reports → report_of report.Comm placed.entry ≡ o → option_and_then (made_with (wave_at placed)) (option_map group_in o) ≡ Some key → KeyFull ranks key
of_line_full ranks placed key None full is h = absurd (none-some key h)
of_line_full ranks placed key (Some line) full is h =
    with_wave_full ranks (wave_at placed) (group_in line) key (found_full ranks placed.entry.reports line full is) h

reported_full : (ranks : ℕ) (placed : Placed) (key : Key) → LinesFull ranks placed.entry.reports → reported_key placed ≡ Some key → KeyFull ranks key
reported_full ranks placed key full h =
    elim (cases_Bool (makes_comm placed.called)) [
      | inl makes_one ↦ of_line_full ranks placed key (report_of report.Comm placed.entry) full refl (rw makes_one at h)
      | inr makes_none ↦ absurd (none-some key (rw makes_none at h))
    ]

cons_full : (ranks : ℕ) (o : Option Key) (keys : List Key) → ((key : Key) → o ≡ Some key → KeyFull ranks key) → AllKeys ranks keys → AllKeys ranks (cons_option o keys)
cons_full ranks None keys one all = all
cons_full ranks (Some key) keys one all = (one key refl, all)

wave_keys_full : (ranks : ℕ) (wave : Wave) (entries : List Placed) → AllPlaced ranks entries → AllKeys ranks (filter_map reported_key (filter (λ (placed : Placed). is_wave wave (wave_at placed)) entries))
wave_keys_full ranks wave [] full = tt
wave_keys_full ranks wave (placed ∷ entries) full =
    elim (cases_Bool (is_wave wave (wave_at placed))) [
      | inl same ↦ rw same (cons_full ranks (reported_key placed) _ (λ key h. reported_full ranks placed key full.0 h) (wave_keys_full ranks wave entries full.1))
      | inr apart ↦ rw apart (wave_keys_full ranks wave entries full.1)
    ]

find_full : (ranks : ℕ) (test : Key → Bool) (keys : List Key) (key : Key) → AllKeys ranks keys → find test keys ≡ Some key → KeyFull ranks key
find_full ranks test [] key all h = absurd (none-some key h)
find_full ranks test (one ∷ keys) key all h =
    elim (cases_Bool (test one)) [
      | inl here ↦ subst (λ (k : Key). KeyFull ranks k) (same_Some one key (rw here at h)) all.0
      | inr there ↦ find_full ranks test keys key all.1 (rw there at h)
    ]

of_wave_full : (run : Run) (placed : Placed) (key : Key) (o : Option Wave) → RunFull run → option_and_then (others_key run placed.rank) o ≡ Some key → KeyFull (length run) key
of_wave_full run placed key None is h = absurd (none-some key h)
of_wave_full run placed key (Some wave) is h =
    find_full (length run) (has_member (length run) placed.rank) (keys_of_wave run wave) key
    (wave_keys_full (length run) wave (all_entries run) (mapped_entries run (ranks_of run) is)) h

inferred_full : (run : Run) (placed : Placed) (key : Key) → RunFull run → inferred_key run placed ≡ Some key → KeyFull (length run) key
inferred_full run placed key is h =
    elim (cases_Bool (may_give placed.called && not placed.came_back)) [
      | inl may ↦ of_wave_full run placed key (wave_at placed) is (rw may at h)
      | inr never ↦ absurd (none-some key (rw never at h))
    ]

inferred_all : (run : Run) (entries : List Placed) → RunFull run → AllKeys (length run) (filter_map (inferred_key run) entries)
inferred_all run [] is = tt
inferred_all run (placed ∷ entries) is =
    cons_full (length run) (inferred_key run placed) (filter_map (inferred_key run) entries) (λ key h. inferred_full run placed key is h) (inferred_all run entries is)

-- ---- The head ----

keys_at_full : (run : Run) (rank : ℕ) → rank < length run → RunFull run → AllKeys (length run) (keys_at run rank)
keys_at_full run rank within is =
    keys_append (length run) (comms_after rank (lines_at run rank)).keys (filter_map (inferred_key run) (entries_at run rank))
    (lines_full_keys (length run) (lines_at run rank) (comms_first rank)
    (lines_in_full (length run) (journal_at run rank) (λ journal h. journal_at_full run rank journal is h))
    (alone_group (length run) rank within, tt))
    (inferred_all run (entries_at run rank) is)

ranks_full : (run : Run) (first count : ℕ) → first + count ≤ length run → RunFull run → AllKeys (length run) (flat_map (keys_at run) (range_with_len first count))
ranks_full run first zero le is = tt
ranks_full run first (suc count) le is =
    keys_append (length run) (keys_at run first) (flat_map (keys_at run) (range_with_len (first + 1) count))
    (keys_at_full run first (omega (arith, le)) is) (ranks_full run (first + 1) count (omega (arith, le)) is)

-- each communicator that the ranks got
pub got_full : (run : Run) → RunFull run → AllKeys (length run) (flat_map (keys_at run) (ranks_of run))
got_full run is = ranks_full run 0 (length run) (omega arith) is

pub numbered_full : (run : Run) → RunFull run → AllKeys (length run) (numbered_keys run)
numbered_full run is = (
  world_group (length run) is.fits.0,
  keys_take (length run) GREATEST_COMM (each_once [] (filter (is_named run) (flat_map (keys_at run) (ranks_of run))))
      (keys_once (length run) [] (filter (is_named run) (flat_map (keys_at run) (ranks_of run)))
      (keys_filter (length run) (is_named run) (flat_map (keys_at run) (ranks_of run)) (got_full run is))),
)
