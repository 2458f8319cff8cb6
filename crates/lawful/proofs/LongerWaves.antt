-- A wave brings a communicator with a number in the longer run exactly if it does in the other.
use Rattle.std.proofs.Common.{◌≡◌, ℕ, ◌+◌, ◌≤◌, ◌==◌, ◌&&◌, ◌||◌, not, Bool, true, false, Option, Some, None, is_some, if◌then◌else◌, List, [], ◌∷◌, ◌++◌, length, take, filter, refl, sym, ap, subst, ◌∙◌, arith, eq-eqb, eqb-true, inl, inr, zero, suc}
use Rattle.std.specs.Prelude.{⊤, option_map, option_and_then}
use Rattle.std.specs.List.{find, list_any, filter_map, flat_map, range_with_len, cons_option}
use Rattle.std.specs.Option.{option_map_or}
use Rattle.std.proofs.lemmas.Bool.{cases_Bool, and_parts, false≢true}
use Rattle.std.proofs.lemmas.List.Folds.{list_any-append}
use Rattle.std.proofs.lemmas.Option.{none-some, same_Some}
use Rattle.mpicall.specs.declared.limits.TheConstants.{GREATEST_COMM}
use Rattle.journals.specs.Lines.{Line}
use Rattle.journals.specs.Entries.{group_in, listing_of}
use Rattle.journals.specs.Journal.{Journal}
use Rattle.journals.specs.Known.{is_report, report_of}
use Rattle.journals.specs.declared.field.Field.{Field}
use Rattle.journals.specs.declared.field.Field.TheVariants.{Natural}
use Rattle.journals.specs.declared.word.Word.{Word}
use Rattle.journals.specs.declared.word.Word.TheVariants.{Call as CallLine, Report}
use Rattle.journals.specs.declared.word.CallWord.{CallWord}
use Rattle.journals.specs.declared.word.ReportWord.{ReportWord}
use Rattle.journals.specs.declared.word.ReportWord.TheVariants as report
use Rattle.closing.specs.Called.{Called, MakesOfGroup, called}
use Rattle.closing.specs.FitComms.{comm_is_numbered, comms_are_numbered}
use Rattle.closing.specs.Keys.{Key, Made, Duplicated, same_key, has_member, is_key_among, each_once}
use Rattle.closing.specs.RankComms.{Wave, RankComms, comms_first, comms_after, key_next, makes_comm, wave_next, made_in, duplicated_in, under, with_key, with_made, with_some, after_call, after_report, after_line, after_lines}
use Rattle.closing.specs.Entries.{Run, Placed, journal_at, lines_in, entries_from, entries_in, lines_at, entries_at, all_entries, ranks_of}
use Rattle.closing.specs.Made.{wave_at, is_wave, may_give, made_with, reported_key, keys_of_wave, others_key, inferred_key, keys_at}
use Rattle.closing.specs.Numbers.{is_named, number_of, numbered_keys}
use Rattle.closing.specs.Entry.{brings}
use Rattle.lawful.specs.Laws.{IsRead}
use Rattle.lawful.proofs.CommsFit.{fit_comms}
use Rattle.lawful.proofs.KeyLemmas.{same_key_is_equal}
use Rattle.lawful.proofs.KeyFacts.{same_key_self, times, is, counted}
use Rattle.lawful.proofs.LongerLemmas.{More, with_more, AreLater}

-- ---- Lists of keys ----

abbrev All : (Key → Type 0) → List Key → Type 0
All P [] = ⊤
All P (key ∷ keys) = P key × All P keys

all_append : (P : Key → Type 0) (xs ys : List Key) → All P xs → All P ys → All P (xs ++ ys)
all_append P [] ys first others = others
all_append P (x ∷ xs) ys first others = (first.0, all_append P xs ys first.1 others)

all_take : (P : Key → Type 0) (n : ℕ) (xs : List Key) → All P xs → All P (take n xs)
all_take P zero xs all = tt
all_take P (suc n) [] all = tt
all_take P (suc n) (x ∷ xs) all = (all.0, all_take P n xs all.1)

all_put : (P : Key → Type 0) (b : Bool) (key : Key) (keys : List Key) → P key → All P keys → All P (if b then key ∷ keys else keys)
all_put P true key keys first all = (first, all)
all_put P false key keys first all = all

all_filter : (P : Key → Type 0) (test : Key → Bool) (keys : List Key) → All P keys → All P (filter test keys)
all_filter P test [] all = tt
all_filter P test (key ∷ keys) all = all_put P (test key) key (filter test keys) all.0 (all_filter P test keys all.1)

all_if : (P : Key → Type 0) (b : Bool) (xs ys : List Key) → All P xs → All P ys → All P (if b then xs else ys)
all_if P true xs ys first others = first
all_if P false xs ys first others = others

all_once : (P : Key → Type 0) (before keys : List Key) → All P keys → All P (each_once before keys)
all_once P before [] all = tt
all_once P before (key ∷ keys) all =
    all_if P (is_key_among key before) (each_once before keys) (key ∷ each_once (key ∷ before) keys)
    (all_once P before keys all.1) (all.0, all_once P (key ∷ before) keys all.1)

all_option : (P : Key → Type 0) (o : Option Key) (keys : List Key) → ((key : Key) → o ≡ Some key → P key) → All P keys → All P (cons_option o keys)
all_option P None keys one all = all
all_option P (Some key) keys one all = (one key refl, all)

-- a key that is counted
all_there : (P : Key → Type 0) (key : Key) (keys : List Key) → All P keys → 1 ≤ times (is key) keys → P key
all_there P key [] all has = absurd (omega (arith, has))
all_there P key (one ∷ keys) all has =
    elim (cases_Bool (same_key one key)) [
      | inl here ↦ subst P (same_key_is_equal one key here) all.0
      | inr there ↦ all_there P key keys all.1 (omega (arith, rw there at has))
    ]

-- one of them that passes a test
record Passes (P : Key → Type 0) (test : Key → Bool) : Type 0 where
  key : Key
  is_so : P key
  passes : test key ≡ true

any_passes : (P : Key → Type 0) (test : Key → Bool) (keys : List Key) → All P keys → list_any test keys ≡ true → Passes P test
any_passes P test [] all has = absurd (false≢true has)
any_passes P test (key ∷ keys) all has =
    elim (cases_Bool (test key)) [
      | inl here ↦ record { key = key; is_so = all.0; passes = here }
      | inr there ↦ any_passes P test keys all.1 (rw there at has)
    ]

or_right : (a b : Bool) → b ≡ true → (a || b) ≡ true
or_right true b h = refl
or_right false b h = h

or_left : (a b : Bool) → a ≡ true → (a || b) ≡ true
or_left a b h = rw h refl

any_same : (test : Key → Bool) (key : Key) (keys : List Key) → test key ≡ true → list_any (is key) keys ≡ true → list_any test keys ≡ true
any_same test key [] passes has = absurd (false≢true has)
any_same test key (one ∷ keys) passes has =
    elim (cases_Bool (same_key one key)) [
      | inl here ↦ or_left (test one) (list_any test keys) (ap test (same_key_is_equal one key here) ∙ passes)
      | inr there ↦ or_right (test one) (list_any test keys) (any_same test key keys passes (rw there at has))
    ]

find_is : (test : Key → Bool) (key : Key) (keys : List Key) → find test keys ≡ Some key → list_any (is key) keys ≡ true
find_is test key [] found = absurd (none-some key found)
find_is test key (one ∷ keys) found =
    elim (cases_Bool (test one)) [
      | inl here ↦ or_left (same_key one key) (list_any (is key) keys)
          (subst (λ (k : Key). same_key one k ≡ true) (same_Some one key (rw here at found)) (same_key_self one))
      | inr there ↦ or_right (same_key one key) (list_any (is key) keys) (find_is test key keys (rw there at found))
    ]

find_so : (P : Key → Type 0) (test : Key → Bool) (key : Key) (keys : List Key) → All P keys → find test keys ≡ Some key → P key
find_so P test key [] all found = absurd (none-some key found)
find_so P test key (one ∷ keys) all found =
    elim (cases_Bool (test one)) [
      | inl here ↦ subst P (same_Some one key (rw here at found)) all.0
      | inr there ↦ find_so P test key keys all.1 (rw there at found)
    ]

-- ---- The communicators of a wave ----

abbrev wave_keys : Wave → List Placed → List Key
wave_keys wave entries = filter_map reported_key (filter (λ placed. is_wave wave (wave_at placed)) entries)

abbrev OfWave : Wave → Key → Type 0
OfWave wave key = (group : List ℕ) × (key ≡ Made wave.parent wave.count group)

wave_same : (wave : Wave) (o : Option Wave) (group : List ℕ) (key : Key) → is_wave wave o ≡ true → made_with o group ≡ Some key → OfWave wave key
wave_same wave None group key same made = absurd (none-some key made)
wave_same wave (Some other) group key same made =
    let parts = and_parts (same_key wave.parent other.parent) (wave.count == other.count) same in (
      group,
      sym (same_Some (Made other.parent other.count group) key made)
          ∙ ap (λ (parent : Key). Made parent other.count group) (sym (same_key_is_equal wave.parent other.parent parts.0))
          ∙ ap (λ (count : ℕ). Made wave.parent count group) (sym (eqb-true wave.count other.count parts.1)),
    )

reported_of : (wave : Wave) (placed : Placed) (key : Key) (b : Bool) (o : Option Line) → is_wave wave (wave_at placed) ≡ true → (if b then option_and_then (made_with (wave_at placed)) (option_map group_in o) else None) ≡ Some key → OfWave wave key
reported_of wave placed key false o same h = absurd (none-some key h)
reported_of wave placed key true None same h = absurd (none-some key h)
reported_of wave placed key true (Some line) same h = wave_same wave (wave_at placed) (group_in line) key same h

wave_all : (wave : Wave) (entries : List Placed) → All (OfWave wave) (wave_keys wave entries)
wave_all wave [] = tt
wave_all wave (placed ∷ entries) =
    elim (cases_Bool (is_wave wave (wave_at placed))) [
      | inl same ↦ rw same (all_option (OfWave wave) (reported_key placed) (wave_keys wave entries)
          (λ key h. reported_of wave placed key (makes_comm placed.called) (report_of report.Comm placed.entry) same h) (wave_all wave entries))
      | inr apart ↦ rw apart (wave_all wave entries)
    ]

-- an entry's communicator is among those of its wave
abbrev HasKeys : (Wave → List Key) → List Placed → Type 0
HasKeys keys [] = ⊤
HasKeys keys (placed ∷ entries) =
    ((wave : Wave) (key : Key) → wave_at placed ≡ Some wave → reported_key placed ≡ Some key → list_any (is key) (keys wave) ≡ true) × HasKeys keys entries

has_more : (keys more : Wave → List Key) (entries : List Placed) → ((wave : Wave) (key : Key) → list_any (is key) (keys wave) ≡ true → list_any (is key) (more wave) ≡ true) → HasKeys keys entries → HasKeys more entries
has_more keys more [] up has = tt
has_more keys more (placed ∷ entries) up has = (λ wave key at own. up wave key (has.0 wave key at own), has_more keys more entries up has.1)

any_option : (key : Key) (o : Option Key) (keys : List Key) → list_any (is key) keys ≡ true → list_any (is key) (cons_option o keys) ≡ true
any_option key None keys h = h
any_option key (Some one) keys h = or_right (same_key one key) (list_any (is key) keys) h

first_has : (wave : Wave) (key : Key) (placed : Placed) (entries : List Placed) → wave_at placed ≡ Some wave → reported_key placed ≡ Some key → list_any (is key) (wave_keys wave (placed ∷ entries)) ≡ true
first_has wave key placed entries at own =
    let same : is_wave wave (wave_at placed) ≡ true = ap (λ (o : Option Wave). is_wave wave o) at ∙ rw (same_key_self wave.parent, eq-eqb wave.count wave.count refl) refl in
    rw (same, own) (or_left (same_key key key) (list_any (is key) (wave_keys wave entries)) (same_key_self key))

more_has : (wave : Wave) (key : Key) (placed : Placed) (entries : List Placed) → list_any (is key) (wave_keys wave entries) ≡ true → list_any (is key) (wave_keys wave (placed ∷ entries)) ≡ true
more_has wave key placed entries h =
    elim (cases_Bool (is_wave wave (wave_at placed))) [
      | inl same ↦ rw same (any_option key (reported_key placed) (wave_keys wave entries) h)
      | inr apart ↦ rw apart h
    ]

all_have : (entries : List Placed) → HasKeys (λ wave. wave_keys wave entries) entries
all_have [] = tt
all_have (placed ∷ entries) = (
  λ wave key at own. first_has wave key placed entries at own,
  has_more (λ wave. wave_keys wave entries) (λ wave. wave_keys wave (placed ∷ entries)) entries (λ wave key h. more_has wave key placed entries h) (all_have entries),
)

has_first : (keys : Wave → List Key) (one two : List Placed) → HasKeys keys (one ++ two) → HasKeys keys one
has_first keys [] two has = tt
has_first keys (placed ∷ one) two has = (has.0, has_first keys one two has.1)

has_second : (keys : Wave → List Key) (one two : List Placed) → HasKeys keys (one ++ two) → HasKeys keys two
has_second keys [] two has = has
has_second keys (placed ∷ one) two has = has_second keys one two has.1

-- ---- The communicators of a rank ----

-- one that a wave made was reported by one of its calls
abbrev IsBrought : (Wave → List Key) → Key → Type 0
IsBrought keys (Made parent count group) = list_any (is (Made parent count group)) (keys (record { parent = parent; count = count })) ≡ true
IsBrought keys key = ⊤

abbrev is_comm_line : Line → Bool
is_comm_line line = is_report report.Comm line.word

abbrev Awaits : (Wave → List Key) → RankComms → List Line → Type 0
Awaits keys comms lines =
    (wave : Wave) → comms.wave ≡ Some wave → comms.own ≡ None → (line : Line) →
    find is_comm_line (listing_of lines).early ≡ Some line → IsBrought keys (Made wave.parent wave.count (group_in line))

next_brought : (keys : Wave → List Key) (comms : RankComms) (it : Called) → All (IsBrought keys) comms.keys → All (IsBrought keys) (with_some comms.keys (key_next comms it))
next_brought keys comms (MakesOfGroup group) all = all_append (IsBrought keys) comms.keys _ all (tt, tt)
next_brought keys comms _ all = all

record Goes (keys : Wave → List Key) (comms : RankComms) (lines : List Line) : Type 0 where
  all : All (IsBrought keys) comms.keys
  awaits : Awaits keys comms lines

made_goes : (keys : Wave → List Key) (comms : RankComms) (number : ℕ) (fields : List Field) (group : List ℕ) (lines : List Line) (own : Option Key) → comms.own ≡ own → group ≡ group_in (record { word = Report report.Comm; fields = Natural number ∷ fields }) → Goes keys comms (record { word = Report report.Comm; fields = Natural number ∷ fields } ∷ lines) → Goes keys (with_made comms number group own) lines
made_goes keys comms number fields group lines (Some key) is same goes = record {
  all = goes.all;
  awaits = λ wave at none line found. absurd (none-some key (sym none ∙ is));
}
made_goes keys comms number fields group lines None is same goes = record {
  all = by_wave comms.wave refl;
  awaits = λ wave at none line found. absurd (none-some wave at);
}
  where
    by_wave : (o : Option Wave) → comms.wave ≡ o → All (IsBrought keys) (with_key comms number (option_map (made_in group) o)).keys
    by_wave None at = goes.all
    by_wave (Some wave) at =
        all_append (IsBrought keys) comms.keys (Made wave.parent wave.count group ∷ []) goes.all
        (subst (λ (g : List ℕ). IsBrought keys (Made wave.parent wave.count g)) (sym same) (goes.awaits wave at is _ refl), tt)

key_goes : (keys : Wave → List Key) (comms : RankComms) (number : ℕ) (o : Option Key) (lines rest : List Line) → ((key : Key) → o ≡ Some key → IsBrought keys key) → find is_comm_line (listing_of lines).early ≡ find is_comm_line (listing_of rest).early → Goes keys comms lines → Goes keys (with_key comms number o) rest
key_goes keys comms number None lines rest one same goes = record { all = goes.all; awaits = λ wave at none line found. goes.awaits wave at none line (same ∙ found) }
key_goes keys comms number (Some key) lines rest one same goes = record {
  all = all_append (IsBrought keys) comms.keys (key ∷ []) goes.all (one key refl, tt);
  awaits = λ wave at none line found. goes.awaits wave at none line (same ∙ found);
}

duplicate_brought : (keys : Wave → List Key) (group : List ℕ) (o : Option Wave) (key : Key) → option_map (duplicated_in group) o ≡ Some key → IsBrought keys key
duplicate_brought keys group None key h = absurd (none-some key h)
duplicate_brought keys group (Some wave) key h = subst (λ (k : Key). IsBrought keys k) (same_Some (Duplicated wave.parent wave.count group) key h) tt

report_goes : (keys : Wave → List Key) (comms : RankComms) (word : ReportWord) (fields : List Field) (lines : List Line) → comm_is_numbered (Report word) fields ≡ true → Goes keys comms (record { word = Report word; fields = fields } ∷ lines) → Goes keys (after_report comms word fields (group_in (record { word = Report word; fields = fields }))) lines
report_goes keys comms report.Comm (Natural number ∷ fields) lines numbered goes =
    made_goes keys comms number fields (group_in (record { word = Report report.Comm; fields = Natural number ∷ fields })) lines comms.own refl refl goes
report_goes keys comms report.Comm _ lines numbered goes = absurd (false≢true numbered)
report_goes keys comms report.Idup (Natural number ∷ Natural request ∷ fields) lines numbered goes =
    let line : Line = record { word = Report report.Idup; fields = Natural number ∷ Natural request ∷ fields } in
    key_goes keys comms number (option_map (duplicated_in (group_in line)) (under request comms.duplicates)) (line ∷ lines) lines
    (duplicate_brought keys (group_in line) (under request comms.duplicates)) refl goes
report_goes keys comms report.Apart (Natural number ∷ fields) lines numbered goes = record {
  all = all_append (IsBrought keys) comms.keys _ goes.all (tt, tt);
  awaits = λ wave at none line found. goes.awaits wave at none line found;
}
report_goes keys comms word fields lines numbered goes = record { all = goes.all; awaits = λ wave at none line found. goes.awaits wave at none line found }

call_goes : (keys : Wave → List Key) (rank : ℕ) (journal : Journal) (number : ℕ) (comms : RankComms) (word : CallWord) (fields : List Field) (lines : List Line) → HasKeys keys (entries_from rank journal number comms (record { word = CallLine word; fields = fields } ∷ lines)) → All (IsBrought keys) comms.keys → Goes keys (after_call comms (called word fields)) lines
call_goes keys rank journal number comms word fields lines has all = record {
  all = next_brought keys comms (called word fields) all;
  awaits = λ wave at none line found. made (makes_comm (called word fields)) refl wave at line found;
}
  where
    made : (b : Bool) → makes_comm (called word fields) ≡ b → (wave : Wave) → (if b then wave_next comms (called word fields) else None) ≡ Some wave → (line : Line) → find is_comm_line (listing_of lines).early ≡ Some line → IsBrought keys (Made wave.parent wave.count (group_in line))
    made false is wave at line found = absurd (none-some wave at)
    made true is wave at line found =
        has.0 wave (Made wave.parent wave.count (group_in line)) at
        (ap (λ (b : Bool). if b then option_and_then (made_with (wave_next comms (called word fields))) (option_map group_in (find is_comm_line (listing_of lines).early)) else None) is
        ∙ ap (λ (o : Option Line). option_and_then (made_with (wave_next comms (called word fields))) (option_map group_in o)) found
        ∙ ap (λ (o : Option Wave). made_with o (group_in line)) at)

line_goes : (keys : Wave → List Key) (rank : ℕ) (journal : Journal) (number : ℕ) (comms : RankComms) (word : Word) (fields : List Field) (lines : List Line) → comm_is_numbered word fields ≡ true → HasKeys keys (entries_from rank journal number comms (record { word = word; fields = fields } ∷ lines)) → Goes keys comms (record { word = word; fields = fields } ∷ lines) → Goes keys (after_line comms (record { word = word; fields = fields })) lines
line_goes keys rank journal number comms (CallLine word) fields lines numbered has goes = call_goes keys rank journal number comms word fields lines has goes.all
line_goes keys rank journal number comms (Report word) fields lines numbered has goes = report_goes keys comms word fields lines numbered goes

has_rest : (keys : Wave → List Key) (rank : ℕ) (journal : Journal) (number : ℕ) (comms : RankComms) (word : Word) (fields : List Field) (lines : List Line) → HasKeys keys (entries_from rank journal number comms (record { word = word; fields = fields } ∷ lines)) → HasKeys keys (entries_from rank journal (number + 1) (after_line comms (record { word = word; fields = fields })) lines)
has_rest keys rank journal number comms (CallLine word) fields lines has = has.1
has_rest keys rank journal number comms (Report word) fields lines has = has

lines_go : (keys : Wave → List Key) (rank : ℕ) (journal : Journal) (number : ℕ) (comms : RankComms) (lines : List Line) → comms_are_numbered lines ≡ true → HasKeys keys (entries_from rank journal number comms lines) → Goes keys comms lines → All (IsBrought keys) (after_lines comms lines).keys
lines_go keys rank journal number comms [] numbered has goes = goes.all
lines_go keys rank journal number comms (line ∷ lines) numbered has goes =
    let parts = and_parts (comm_is_numbered line.word line.fields) (comms_are_numbered lines) numbered in
    lines_go keys rank journal (number + 1) (after_line comms line) lines parts.1 (has_rest keys rank journal number comms line.word line.fields lines has)
    (line_goes keys rank journal number comms line.word line.fields lines parts.0 has goes)

first_goes : (keys : Wave → List Key) (rank : ℕ) (lines : List Line) → Goes keys (comms_first rank) lines
first_goes keys rank lines = record { all = (tt, tt); awaits = λ wave at none line found. absurd (none-some wave at) }

journal_brought : (keys : Wave → List Key) (rank : ℕ) (o : Option Journal) → comms_are_numbered (lines_in o) ≡ true → HasKeys keys (entries_in rank o) → All (IsBrought keys) (comms_after rank (lines_in o)).keys
journal_brought keys rank None numbered has = (tt, tt)
journal_brought keys rank (Some journal) numbered has =
    lines_go keys rank journal 2 (comms_first rank) journal.lines numbered has (first_goes keys rank journal.lines)

-- ---- Those that others report ----

others_brought : (run : Run) (placed : Placed) (key : Key) (b : Bool) (o : Option Wave) → (if b then option_and_then (others_key run placed.rank) o else None) ≡ Some key → IsBrought (keys_of_wave run) key
others_brought run placed key false o h = absurd (none-some key h)
others_brought run placed key true None h = absurd (none-some key h)
others_brought run placed key true (Some wave) h =
    let own = find_so (OfWave wave) (has_member (length run) placed.rank) key (keys_of_wave run wave) (wave_all wave (all_entries run)) h in
    subst (λ (k : Key). IsBrought (keys_of_wave run) k) (sym own.1)
    (subst (λ (k : Key). list_any (is k) (keys_of_wave run wave) ≡ true) own.1 (find_is (has_member (length run) placed.rank) key (keys_of_wave run wave) h))

inferred_brought : (run : Run) (entries : List Placed) → All (IsBrought (keys_of_wave run)) (filter_map (inferred_key run) entries)
inferred_brought run [] = tt
inferred_brought run (placed ∷ entries) =
    all_option (IsBrought (keys_of_wave run)) (inferred_key run placed) (filter_map (inferred_key run) entries)
    (λ key h. others_brought run placed key (may_give placed.called && not placed.came_back) (wave_at placed) h) (inferred_brought run entries)

ranks_brought : (run : Run) (ranks : List ℕ) → IsRead run → HasKeys (keys_of_wave run) (flat_map (entries_at run) ranks) → All (IsBrought (keys_of_wave run)) (flat_map (keys_at run) ranks)
ranks_brought run [] read has = tt
ranks_brought run (rank ∷ ranks) read has =
    all_append (IsBrought (keys_of_wave run)) (keys_at run rank) (flat_map (keys_at run) ranks)
    (all_append (IsBrought (keys_of_wave run)) (comms_after rank (lines_at run rank)).keys (filter_map (inferred_key run) (entries_at run rank))
    (journal_brought (keys_of_wave run) rank (journal_at run rank) ((fit_comms run read).numbered rank) (has_first (keys_of_wave run) (entries_at run rank) (flat_map (entries_at run) ranks) has))
    (inferred_brought run (entries_at run rank)))
    (ranks_brought run ranks read (has_second (keys_of_wave run) (entries_at run rank) (flat_map (entries_at run) ranks) has))

numbered_brought : (run : Run) → IsRead run → All (IsBrought (keys_of_wave run)) (numbered_keys run)
numbered_brought run read = (
  tt,
  all_take (IsBrought (keys_of_wave run)) GREATEST_COMM (each_once [] (filter (is_named run) (flat_map (keys_at run) (ranks_of run))))
      (all_once (IsBrought (keys_of_wave run)) [] (filter (is_named run) (flat_map (keys_at run) (ranks_of run)))
      (all_filter (IsBrought (keys_of_wave run)) (is_named run) (flat_map (keys_at run) (ranks_of run))
      (ranks_brought run (ranks_of run) read (all_have (all_entries run))))),
)

-- ---- Both runs ----

abbrev has_number : Run → Key → Bool
has_number run key = is_some (number_of run key)

some_number : (o : Option ℕ) → is_some o ≡ true → (number : ℕ) × (o ≡ Some number)
some_number None h = absurd (false≢true h)
some_number (Some number) h = (number, refl)

brings_back : (run longer : Run) (wave : Wave) → IsRead run → ((key : Key) → number_of longer key ≡ number_of run key) → brings longer wave ≡ true → brings run wave ≡ true
brings_back run longer wave read numbers h =
    let one = any_passes (OfWave wave) (has_number longer) (keys_of_wave longer wave) (wave_all wave (all_entries longer)) h in
    let has : has_number run one.key ≡ true = ap (λ (o : Option ℕ). is_some o) (sym (numbers one.key)) ∙ one.passes in
    let number = some_number (number_of run one.key) has in
    let brought : IsBrought (keys_of_wave run) (Made wave.parent wave.count one.is_so.0) =
    subst (λ (k : Key). IsBrought (keys_of_wave run) k) one.is_so.1
    (all_there (IsBrought (keys_of_wave run)) one.key (numbered_keys run) (numbered_brought run read) (counted run one.key number.0 number.1)) in
    any_same (has_number run) (Made wave.parent wave.count one.is_so.0) (keys_of_wave run wave)
    (subst (λ (k : Key). has_number run k ≡ true) one.is_so.1 has) brought

-- an entry whose call gives one of a wave that passes a test
abbrev gives : (Key → Bool) → Wave → Placed → Bool
gives test wave placed = is_wave wave (wave_at placed) && option_map_or test (reported_key placed) false

any_cons : (test : Key → Bool) (o : Option Key) (keys : List Key) → list_any test (cons_option o keys) ≡ (option_map_or test o false || list_any test keys)
any_cons test None keys = refl
any_cons test (Some key) keys = refl

any_gives : (test : Key → Bool) (wave : Wave) (entries : List Placed) → list_any test (wave_keys wave entries) ≡ list_any (gives test wave) entries
any_gives test wave [] = refl
any_gives test wave (placed ∷ entries) =
    elim (cases_Bool (is_wave wave (wave_at placed))) [
      | inl same ↦ rw same (any_cons test (reported_key placed) (wave_keys wave entries) ∙ ap (λ (b : Bool). option_map_or test (reported_key placed) false || b) (any_gives test wave entries))
      | inr apart ↦ rw apart (any_gives test wave entries)
    ]

reported_kept : (placed : Placed) (it : More placed) (key : Key) (b : Bool) (o : Option Line) → report_of report.Comm placed.entry ≡ o → (if b then option_and_then (made_with (wave_at placed)) (option_map group_in o) else None) ≡ Some key → (if b then option_and_then (made_with (wave_at placed)) (option_map group_in (report_of report.Comm it.entry)) else None) ≡ Some key
reported_kept placed it key false o is h = absurd (none-some key h)
reported_kept placed it key true None is h = absurd (none-some key h)
reported_kept placed it key true (Some line) is h =
    ap (λ (o : Option Line). option_and_then (made_with (wave_at placed)) (option_map group_in o)) (it.reports report.Comm line refl is) ∙ h

gives_by : (run longer : Run) (placed : Placed) (it : More placed) (w : Bool) (o : Option Key) → ((key : Key) → number_of longer key ≡ number_of run key) → reported_key placed ≡ o → (w && option_map_or (has_number run) o false) ≡ true → (w && option_map_or (has_number longer) (reported_key (with_more placed it)) false) ≡ true
gives_by run longer placed it false o numbers is h = absurd (false≢true h)
gives_by run longer placed it true None numbers is h = absurd (false≢true h)
gives_by run longer placed it true (Some key) numbers is h =
    ap (λ (o : Option Key). option_map_or (has_number longer) o false)
    (reported_kept placed it key (makes_comm placed.called) (report_of report.Comm placed.entry) refl is)
    ∙ ap (λ (o : Option ℕ). is_some o) (numbers key) ∙ h

entries_give : (run longer : Run) (wave : Wave) (entries others : List Placed) → ((key : Key) → number_of longer key ≡ number_of run key) → AreLater entries others → list_any (gives (has_number run) wave) entries ≡ true → list_any (gives (has_number longer) wave) others ≡ true
entries_give run longer wave [] others numbers all h = absurd (false≢true h)
entries_give run longer wave (placed ∷ entries) [] numbers all h = absurd all
entries_give run longer wave (placed ∷ entries) (other ∷ others) numbers all h =
    elim (cases_Bool (gives (has_number run) wave placed)) [
      | inl here ↦ or_left (gives (has_number longer) wave other) (list_any (gives (has_number longer) wave) others)
          (subst (λ (one : Placed). gives (has_number longer) wave one ≡ true) (sym all.0.is)
          (gives_by run longer placed all.0.it (is_wave wave (wave_at placed)) (reported_key placed) numbers refl here))
      | inr there ↦ or_right (gives (has_number longer) wave other) (list_any (gives (has_number longer) wave) others)
          (entries_give run longer wave entries others numbers all.2 (rw there at h))
    ]

or_split : (a b c d : Bool) → (a ≡ true → c ≡ true) → (b ≡ true → d ≡ true) → (a || b) ≡ true → (c || d) ≡ true
or_split true b c d first second h = or_left c d (first refl)
or_split false b c d first second h = or_right c d (second h)

ranks_give : (run longer : Run) (wave : Wave) (ranks : List ℕ) → ((key : Key) → number_of longer key ≡ number_of run key) → ((rank : ℕ) → AreLater (entries_at run rank) (entries_at longer rank)) → list_any (gives (has_number run) wave) (flat_map (entries_at run) ranks) ≡ true → list_any (gives (has_number longer) wave) (flat_map (entries_at longer) ranks) ≡ true
ranks_give run longer wave [] numbers all h = absurd (false≢true h)
ranks_give run longer wave (rank ∷ ranks) numbers all h =
    list_any-append (gives (has_number longer) wave) (entries_at longer rank) (flat_map (entries_at longer) ranks)
    ∙ or_split (list_any (gives (has_number run) wave) (entries_at run rank)) (list_any (gives (has_number run) wave) (flat_map (entries_at run) ranks))
    (list_any (gives (has_number longer) wave) (entries_at longer rank)) (list_any (gives (has_number longer) wave) (flat_map (entries_at longer) ranks))
    (entries_give run longer wave (entries_at run rank) (entries_at longer rank) numbers (all rank)) (ranks_give run longer wave ranks numbers all)
    (sym (list_any-append (gives (has_number run) wave) (entries_at run rank) (flat_map (entries_at run) ranks)) ∙ h)

brings_still : (run longer : Run) (wave : Wave) → length longer ≡ length run → ((key : Key) → number_of longer key ≡ number_of run key) → ((rank : ℕ) → AreLater (entries_at run rank) (entries_at longer rank)) → brings run wave ≡ true → brings longer wave ≡ true
brings_still run longer wave ranks numbers all h =
    any_gives (has_number longer) wave (all_entries longer)
    ∙ subst (λ (n : ℕ). list_any (gives (has_number longer) wave) (flat_map (entries_at longer) (range n)) ≡ true) (sym ranks)
    (ranks_give run longer wave (ranks_of run) numbers all (sym (any_gives (has_number run) wave (all_entries run)) ∙ h))
  where
    range : ℕ → List ℕ
    range n = range_with_len 0 n

pub waves_same : (run longer : Run) → IsRead run → length longer ≡ length run → ((key : Key) → number_of longer key ≡ number_of run key) → ((rank : ℕ) → AreLater (entries_at run rank) (entries_at longer rank)) → (wave : Wave) → brings longer wave ≡ brings run wave
waves_same run longer read ranks numbers all wave =
    both (brings run wave) (brings longer wave) (brings_still run longer wave ranks numbers all) (brings_back run longer wave read numbers)
  where
    both : (a b : Bool) → (a ≡ true → b ≡ true) → (b ≡ true → a ≡ true) → b ≡ a
    both true b on back = on refl
    both false true on back = sym (back refl)
    both false false on back = refl
