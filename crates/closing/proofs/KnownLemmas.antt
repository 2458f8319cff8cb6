-- The communicator that an entry's call names is the world's or one that its rank gets by its lines.
use Rattle.std.proofs.Common.{◌≡◌, refl, sym, ap, subst, ◌∙◌, inl, inr, ℕ, zero, suc, ◌+◌, ◌<◌, zero-add, Bool, true, false, ◌||◌, ◌&&◌, not, ◌==◌, if◌then◌else◌, List, [], ◌∷◌, ◌++◌, length, option_and_then, option_map, Option, Some, None}
use Rattle.std.specs.Prelude.{slice_get}
use Rattle.std.specs.List.{cons_option, filter_map, flat_map, list_any, range_with_len}
use Rattle.std.proofs.lemmas.Bool.{cases_Bool, false≢true}
use Rattle.std.proofs.lemmas.List.FromFn.{get_or-range_with_len, length-range_with_len}
use Rattle.std.proofs.lemmas.Option.{slice_get-get_or}
use Rattle.mpicall.specs.Word.{or_else}
use Rattle.journals.specs.Entries.{Entry, group_in, listing_of}
use Rattle.journals.specs.Journal.{Journal}
use Rattle.journals.specs.Lines.{Line}
use Rattle.journals.specs.Words.{is_call}
use Rattle.journals.specs.declared.field.Field.{Field}
use Rattle.journals.specs.declared.field.Field.TheVariants.{Natural}
use Rattle.journals.specs.declared.word.ReportWord.{ReportWord}
use Rattle.journals.specs.declared.word.ReportWord.TheVariants as report
use Rattle.journals.specs.declared.word.Word.{Word}
use Rattle.journals.specs.declared.word.Word.TheVariants.{Call, Report}
use Rattle.closing.specs.Called.{Called, called, comm_of}
use Rattle.closing.specs.Entries.{Placed, Run, comes_always, entries_at, entries_from, entries_in, journal_at, lines_in, placed_at, ranks_of, says_back}
use Rattle.closing.specs.Keys.{Key, World, Alone, Apart, group_count, is_key_among, same_key}
use Rattle.closing.specs.Made.{inferred_key, may_give, others_key, wave_at}
use Rattle.closing.specs.Numbers.{named_key}
use Rattle.closing.specs.RankComms.{RankComms, after_call, after_line, after_lines, after_report, after_word, comms_after, comms_first, duplicated_in, key_next, key_under, made_in, under, with_key, with_made, with_some}
use Rattle.closing.specs.inner.Numbered.{is_known}
use Rattle.closing.specs.inner.Surveyed.{keys_got}
use Rattle.closing.proofs.KeyLemmas.{same_key_itself}
use Rattle.closing.proofs.SomeLemmas.{any_flat, some_either, some_first, some_of, some_second}

abbrev is_held : Key → List Key → Bool
is_held key keys = list_any (λ other. same_key other key) (World ∷ keys)

-- a rank has what its numbers name, and what its last call made of a group
record IsSound (comms : RankComms) : Type 0 where
  numbers : (number : ℕ) (key : Key) → under number comms.numbers ≡ Some key → is_held key comms.keys ≡ true
  own : (key : Key) → comms.own ≡ Some key → is_held key comms.keys ≡ true

-- what it has it has later on
record IsNext (old new : RankComms) : Type 0 where
  sound : IsSound old → IsSound new
  more : (key : Key) → is_held key old.keys ≡ true → is_held key new.keys ≡ true

held_more : (keys more : List Key) (key : Key) → is_held key keys ≡ true → is_held key (keys ++ more) ≡ true
held_more keys more key h = some_first (λ other. same_key other key) (World ∷ keys) more h

held_last : (keys : List Key) (last key : Key) → last ≡ key → is_held key (keys ++ last ∷ []) ≡ true
held_last keys last key e =
    some_second (λ other. same_key other key) (World ∷ keys) (last ∷ [])
    (ap (λ k. same_key k key || false) e ∙ ap (λ b. b || false) (same_key_itself key))

-- ---- Numbers ----

put_sound : (numbers : List (ℕ × Key)) (number : ℕ) (it : Key) (keys : List Key) → is_held it keys ≡ true → ((n : ℕ) (key : Key) → under n numbers ≡ Some key → is_held key keys ≡ true)
    → (n : ℕ) (key : Key) → under n ((number, it) ∷ numbers) ≡ Some key → is_held key keys ≡ true
put_sound numbers number it keys has others n key e = by (number == n) e
  where
    by : (b : Bool) → (if b then Some it else under n numbers) ≡ Some key → is_held key keys ≡ true
    by true f = let same : it ≡ key = cc in subst (λ k. is_held k keys ≡ true) same has
    by false f = others n key f

next_key : (comms : RankComms) (number : ℕ) (it : Option Key) → IsNext comms (with_key comms number it)
next_key comms number None = record { sound = λ h. h; more = λ key h. h }
next_key comms number (Some k) = record {
  sound = λ h. record {
    numbers = put_sound comms.numbers number k (comms.keys ++ k ∷ []) (held_last comms.keys k k refl) (λ n key e. held_more comms.keys (k ∷ []) key (h.numbers n key e));
    own = λ key e. held_more comms.keys (k ∷ []) key (h.own key e);
  };
  more = held_more comms.keys (k ∷ []);
}

next_apart : (comms : RankComms) (group : List ℕ) (number : ℕ) (it : Key) → IsNext comms (with_key (record comms { apart = comms.apart ++ group ∷ [] }) number (Some it))
next_apart comms group number it =
    let one = next_key (record comms { apart = comms.apart ++ group ∷ [] }) number (Some it) in
    record { sound = λ h. one.sound (record { numbers = h.numbers; own = h.own }); more = one.more }

next_made : (comms : RankComms) (number : ℕ) (group : List ℕ) (own : Option Key) → comms.own ≡ own → IsNext comms (with_made comms number group own)
next_made comms number group (Some key) e = record {
  sound = λ h. record { numbers = put_sound comms.numbers number key comms.keys (h.own key e) h.numbers; own = h.own };
  more = λ other h. h;
}
next_made comms number group None e =
    let one = next_key comms number (option_map (made_in group) comms.wave) in
    record { sound = λ h. let s = one.sound h in record { numbers = s.numbers; own = s.own }; more = one.more }

-- ---- Lines ----

next_report : (comms : RankComms) (word : ReportWord) (fields : List Field) (group : List ℕ) → IsNext comms (after_report comms word fields group)
next_report comms report.Comm (Natural number ∷ fields) group = next_made comms number group comms.own refl
next_report comms report.Idup (Natural number ∷ Natural request ∷ fields) group = next_key comms number (option_map (duplicated_in group) (under request comms.duplicates))
next_report comms report.Apart (Natural number ∷ fields) group = next_apart comms group number (Apart group (group_count group comms.apart))
next_report comms word fields group = record { sound = λ h. h; more = λ key h. h }

some_held : (keys : List Key) (it : Option Key) (key : Key) → is_held key keys ≡ true → is_held key (with_some keys it) ≡ true
some_held keys None key h = h
some_held keys (Some k) key h = held_more keys (k ∷ []) key h

own_held : (keys : List Key) (it : Option Key) (key : Key) → it ≡ Some key → is_held key (with_some keys it) ≡ true
own_held keys None key e = absurd (cc (e))
own_held keys (Some k) key e = let same : k ≡ key = cc in held_last keys k key same

next_call : (comms : RankComms) (it : Called) → IsNext comms (after_call comms it)
next_call comms it = record {
  sound = λ h. record {
    numbers = λ n key e. some_held comms.keys (key_next comms it) key (h.numbers n key e);
    own = own_held comms.keys (key_next comms it);
  };
  more = some_held comms.keys (key_next comms it);
}

next_word : (comms : RankComms) (word : Word) (fields : List Field) (group : List ℕ) → IsNext comms (after_word comms word fields group)
next_word comms (Call word) fields group = next_call comms (called word fields)
next_word comms (Report word) fields group = next_report comms word fields group

lines_held : (comms : RankComms) (lines : List Line) (key : Key) → is_held key comms.keys ≡ true → is_held key (after_lines comms lines).keys ≡ true
lines_held comms [] key h = h
lines_held comms (line ∷ lines) key h = lines_held (after_line comms line) lines key ((next_word comms line.word line.fields (group_in line)).more key h)

-- ---- Entries ----

named_here : (comms : RankComms) (it : Called) (key : Key) → IsSound comms → or_else (key_next comms it) (option_and_then (key_under comms) (comm_of it)) ≡ Some key → is_held key (after_call comms it).keys ≡ true
named_here comms it key h e = by (key_next comms it) (comm_of it) e
  where
    by : (next : Option Key) (comm : Option ℕ) → or_else next (option_and_then (key_under comms) comm) ≡ Some key → is_held key (with_some comms.keys next) ≡ true
    by (Some k) comm f = let same : k ≡ key = cc in held_last comms.keys k key same
    by None None f = absurd (cc (f))
    by None (Some n) f = h.numbers n key f

abbrev AreNamedHeld : ℕ → Journal → ℕ → RankComms → List Line → Type 0
AreNamedHeld rank journal number comms lines =
    (n : ℕ) (placed : Placed) (key : Key) → slice_get (entries_from rank journal number comms lines) n ≡ Some placed → named_key placed ≡ Some key
    → is_held key (after_lines comms lines).keys ≡ true

line_named : (rank : ℕ) (journal : Journal) (number : ℕ) (comms : RankComms) (word : Word) (fields : List Field) (lines : List Line) → IsSound comms
    → AreNamedHeld rank journal (number + 1) (after_line comms (record { word = word; fields = fields })) lines
    → AreNamedHeld rank journal number comms (record { word = word; fields = fields } ∷ lines)
line_named rank journal number comms (Report word) fields lines h others n placed key e f = others n placed key e f
line_named rank journal number comms (Call word) fields lines h others zero placed key e f =
    let here : named_key (placed_at rank journal number comms (record { word = word; fields = fields; reports = (listing_of lines).early }) lines) ≡ Some key =
    ap (λ (o : Option Placed). option_and_then named_key o) e ∙ f in
    lines_held (after_call comms (called word fields)) lines key (named_here comms (called word fields) key h here)
line_named rank journal number comms (Call word) fields lines h others (suc n) placed key e f = others n placed key e f

lines_named : (rank : ℕ) (journal : Journal) (number : ℕ) (comms : RankComms) (lines : List Line) → IsSound comms → AreNamedHeld rank journal number comms lines
lines_named rank journal number comms [] h = λ n placed key e f. absurd (cc (e))
lines_named rank journal number comms (line ∷ lines) h =
    line_named rank journal number comms line.word line.fields lines h
    (lines_named rank journal (number + 1) (after_line comms line) lines ((next_word comms line.word line.fields (group_in line)).sound h))

first_sound : (rank : ℕ) → IsSound (comms_first rank)
first_sound rank = record {
  numbers = put_sound ((1, Alone rank) ∷ []) 0 World (Alone rank ∷ []) refl
      (put_sound [] 1 (Alone rank) (Alone rank ∷ []) (held_last [] (Alone rank) (Alone rank) refl) (λ n key e. absurd (cc (e))));
  own = λ key e. absurd (cc (e));
}

journal_named : (rank : ℕ) (journal : Option Journal) (n : ℕ) (placed : Placed) (key : Key) → slice_get (entries_in rank journal) n ≡ Some placed → named_key placed ≡ Some key → is_held key (comms_after rank (lines_in journal)).keys ≡ true
journal_named rank None n placed key e f = absurd (cc (e))
journal_named rank (Some journal) n placed key e f = lines_named rank journal 2 (comms_first rank) journal.lines (first_sound rank) n placed key e f

-- a rank of the run
pub rank_at : (count rank : ℕ) → rank < count → slice_get (range_with_len 0 count) rank ≡ Some rank
rank_at count rank small =
    let within : rank < length (range_with_len 0 count) = subst (λ n. rank < n) (sym (length-range_with_len 0 count)) small in
    slice_get-get_or (range_with_len 0 count) rank 0 within ∙ ap Some (get_or-range_with_len 0 count rank 0 small ∙ zero-add rank)

-- what a rank has is known
pub got_known : (run : Run) (rank : ℕ) (key : Key) → rank < length run → is_key_among key (World ∷ keys_got run rank) ≡ true → is_known run key ≡ true
got_known run rank key small h =
    let t : Key → Bool = λ other. same_key other key in
    elim (some_either t (World ∷ []) (keys_got run rank) h) [
      | inl world ↦ some_first t (World ∷ []) (flat_map (keys_got run) (ranks_of run)) world
      | inr got ↦ some_second t (World ∷ []) (flat_map (keys_got run) (ranks_of run))
          (any_flat t (keys_got run) (ranks_of run)
          ∙ some_of (λ one. list_any t (keys_got run one)) (ranks_of run) rank rank (rank_at (length run) rank small) got)
    ]

-- what an entry names is known
pub named_known : (run : Run) (rank n : ℕ) (placed : Placed) (key : Key) → rank < length run → slice_get (entries_at run rank) n ≡ Some placed → named_key placed ≡ Some key → is_known run key ≡ true
named_known run rank n placed key small e f = got_known run rank key small (journal_named rank (journal_at run rank) n placed key e f)

-- ---- The last entry ----

some_back : (a b c d : Bool) → a ≡ true → (a || b || c || d) ≡ true
some_back true b c d e = refl
some_back false b c d e = absurd (false≢true e)

none_back : (a b c d : Bool) → (a || b || c || d) ≡ false → a ≡ false
none_back true b c d e = absurd (false≢true (sym e))
none_back false b c d e = refl

no_entries : (rank : ℕ) (journal : Journal) (number : ℕ) (comms : RankComms) (lines : List Line) → list_any (λ line. is_call line.word) lines ≡ false → entries_from rank journal number comms lines ≡ []
no_entries rank journal number comms [] h = refl
no_entries rank journal number comms (line ∷ lines) h = by line.word line.fields h (no_entries rank journal (number + 1) (after_line comms line) lines)
  where
    by : (word : Word) (fields : List Field) → list_any (λ line. is_call line.word) (record { word = word; fields = fields } ∷ lines) ≡ false
        → (list_any (λ line. is_call line.word) lines ≡ false → entries_from rank journal (number + 1) (after_line comms (record { word = word; fields = fields })) lines ≡ [])
        → entries_from rank journal number comms (record { word = word; fields = fields } ∷ lines) ≡ []
    by (Call word) fields h others = absurd (false≢true (sym h))
    by (Report word) fields h others = others h

module _ {A : Type 0} (f : Placed → Option A) (none : (placed : Placed) → placed.came_back ≡ true → f placed ≡ None) where
  first_of_one : (it : Option A) → slice_get (cons_option it []) 0 ≡ it
  first_of_one None = refl
  first_of_one (Some x) = refl

  abbrev IsLastOf : ℕ → Journal → ℕ → RankComms → List Line → Type 0
  IsLastOf rank journal number comms lines =
      (n : ℕ) (placed : Placed) → slice_get (entries_from rank journal number comms lines) n ≡ Some placed → placed.came_back ≡ false
      → slice_get (filter_map f (entries_from rank journal number comms lines)) 0 ≡ f placed

  line_last : (rank : ℕ) (journal : Journal) (number : ℕ) (comms : RankComms) (word : Word) (fields : List Field) (lines : List Line)
      → IsLastOf rank journal (number + 1) (after_line comms (record { word = word; fields = fields })) lines
      → IsLastOf rank journal number comms (record { word = word; fields = fields } ∷ lines)
  line_last rank journal number comms (Report word) fields lines others n placed e g = others n placed e g
  line_last rank journal number comms (Call word) fields lines others zero placed e g =
      let entry : Entry = record { word = word; fields = fields; reports = (listing_of lines).early } in
      let here = placed_at rank journal number comms entry lines in
      let same : here ≡ placed = cc in
      let calls : list_any (λ line. is_call line.word) lines ≡ false =
      none_back (list_any (λ line. is_call line.word) lines) journal.heading.is_outside (list_any (λ line. says_back line.word) entry.reports) (comes_always word)
      (ap (λ (p : Placed). p.came_back) same ∙ g) in
      let rest : entries_from rank journal (number + 1) (after_call comms (called word fields)) lines ≡ [] = no_entries rank journal (number + 1) (after_call comms (called word fields)) lines calls in
      ap (λ xs. slice_get (cons_option (f here) (filter_map f xs)) 0) rest ∙ first_of_one (f here) ∙ ap f same
  line_last rank journal number comms (Call word) fields lines others (suc n) placed e g =
      let entry : Entry = record { word = word; fields = fields; reports = (listing_of lines).early } in
      let here = placed_at rank journal number comms entry lines in
      let after = after_call comms (called word fields) in
      let rest = entries_from rank journal (number + 1) after lines in
      let calls : list_any (λ line. is_call line.word) lines ≡ true = elim (cases_Bool (list_any (λ line. is_call line.word) lines)) [
        | inl holds ↦ holds
        | inr fails ↦
            let gone : ◌≡◌ {A = Option Placed} None (Some placed) = sym (ap (λ xs. slice_get xs n) (no_entries rank journal (number + 1) after lines fails)) ∙ e in
            absurd (cc (gone))
      ] in
      let back : here.came_back ≡ true =
      some_back (list_any (λ line. is_call line.word) lines) journal.heading.is_outside (list_any (λ line. says_back line.word) entry.reports) (comes_always word) calls in
      ap (λ o. slice_get (cons_option o (filter_map f rest)) 0) (none here back) ∙ others n placed e g

  lines_last : (rank : ℕ) (journal : Journal) (number : ℕ) (comms : RankComms) (lines : List Line) → IsLastOf rank journal number comms lines
  lines_last rank journal number comms [] = λ n placed e g. absurd (cc (e))
  lines_last rank journal number comms (line ∷ lines) = line_last rank journal number comms line.word line.fields lines (lines_last rank journal (number + 1) (after_line comms line) lines)

  journal_last : (rank : ℕ) (journal : Option Journal) (n : ℕ) (placed : Placed) → slice_get (entries_in rank journal) n ≡ Some placed → placed.came_back ≡ false → slice_get (filter_map f (entries_in rank journal)) 0 ≡ f placed
  journal_last rank None n placed e g = absurd (cc (e))
  journal_last rank (Some journal) n placed e g = lines_last rank journal 2 (comms_first rank) journal.lines n placed e g

  -- of what entries give that never came back the first is that of the one that didn't
  pub last_gives : (run : Run) (rank n : ℕ) (placed : Placed) → slice_get (entries_at run rank) n ≡ Some placed → placed.came_back ≡ false → slice_get (filter_map f (entries_at run rank)) 0 ≡ f placed
  last_gives run rank n placed e g = journal_last rank (journal_at run rank) n placed e g

inferred_none : (run : Run) (placed : Placed) → placed.came_back ≡ true → inferred_key run placed ≡ None
inferred_none run placed h = by (may_give placed.called) placed.came_back h
  where
    by : (b c : Bool) → c ≡ true → (if b && not c then option_and_then (others_key run placed.rank) (wave_at placed) else None) ≡ None
    by b false e = absurd (false≢true e)
    by true true e = refl
    by false true e = refl

-- what is inferred of a rank is that of its call that never came back
pub inferred_of_last : (run : Run) (rank n : ℕ) (placed : Placed) → slice_get (entries_at run rank) n ≡ Some placed → placed.came_back ≡ false → slice_get (filter_map (inferred_key run) (entries_at run rank)) 0 ≡ inferred_key run placed
inferred_of_last run rank n placed e g = last_gives (inferred_key run) (inferred_none run) run rank n placed e g
