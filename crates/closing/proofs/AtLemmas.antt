-- What a walk has of where an entry's call stands, against the definitions.
use Rattle.std.proofs.Common.{◌≡◌, ◌∙◌, refl, sym, ap, subst, arith, ℕ, zero, suc, ◌+◌, ◌<◌, ◌≤◌, Bool, true, false, List, [], ◌∷◌, length, drop, inl, inr, ◌⊎◌, Option, Some, None, option_map, option_and_then}
use Rattle.std.specs.Prelude.{◌&&◌, if◌then◌else◌, not, slice_get}
use Rattle.std.specs.List.{filter_map}
use Rattle.std.specs.Option.{option_map_or, option_or}
use Rattle.std.proofs.lemmas.Bool.{cases_lt}
use Rattle.std.proofs.lemmas.Option.{slice_get_past, slice_get_within}
use Rattle.mpicall.specs.Word.{or_else}
use Rattle.journals.specs.Journal.{Journal}
use Rattle.journals.specs.Known.{report_of, requests_in}
use Rattle.journals.specs.Lines.{Line}
use Rattle.journals.specs.Taking.{word_at, fields_at}
use Rattle.journals.specs.declared.field.Field.{Field}
use Rattle.journals.specs.declared.word.Word.{Word}
use Rattle.journals.specs.declared.word.Word.TheVariants.{Call, Report}
use Rattle.journals.specs.declared.word.CallWord.{CallWord}
use Rattle.journals.specs.declared.word.ReportWord.TheVariants as report
use Rattle.closing.specs.Called.{Called, called, naturals_in}
use Rattle.closing.specs.Entries.{Run, Placed, entries_at, entries_in, journal_at, lines_in}
use Rattle.closing.specs.Keys.{Key, group_of_key}
use Rattle.closing.specs.Numbers.{named_key, number_of}
use Rattle.closing.specs.Entry.{Choice, is_past}
use Rattle.closing.specs.FitComms.{HasFitComms, comms_are_numbered}
use Rattle.closing.specs.Made.{inferred_key, key_made, may_give, others_key, reported_key, wave_at}
use Rattle.closing.specs.RankComms.{RankComms, after_call, key_next}
use Rattle.closing.specs.Reported.{got_in, message_in}
use Rattle.closing.specs.Table.{Table}
use Rattle.closing.specs.inner.Holds.{HasComms, key_on}
use Rattle.closing.specs.inner.Noted.{line_if}
use Rattle.closing.specs.inner.Numbered.{IsNumberedRun, is_known, named_as}
use Rattle.closing.specs.inner.Pending.{pending}
use Rattle.closing.specs.inner.SoFar.{HasNamed, IsAtEntry, IsFitEntry, comms_at, entries_left, placed_here}
use Rattle.closing.specs.inner.Table.{Grows, HasKey, IsPlaceOf, IsWaveOf}
use Rattle.closing.specs.inner.Views.{message_view}
use Rattle.closing.specs.inner.Walked.{fields_of_line}
use Rattle.closing.specs.declared.numbers.Communicators.{Communicators}
use Rattle.closing.specs.declared.numbers.Named.{Named}
use Rattle.closing.specs.declared.rank_comms.RankComms.{RankComms as CommsCode}
use Rattle.closing.specs.declared.walk.At.{At}
use Rattle.closing.proofs.HoldsLemmas.{place_grows}
use Rattle.closing.proofs.KnownLemmas.{inferred_of_last, named_known}
use Rattle.closing.proofs.LastLemmas.{line_of, lines_from}
use Rattle.closing.proofs.PendingLemmas.{pending_after, place_either}
use Rattle.closing.proofs.PlacedLemmas.{comms_next, entries_after_report, entries_at_call}

-- ---- The entry ----

-- what the rank has after the call
pub comms_called : (rank : ℕ) (lines : List Line) (n : ℕ) (word : CallWord) → word_at lines n ≡ Some (Call word)
    → after_call (comms_at rank lines n) (called word (fields_at lines n)) ≡ comms_at rank lines (n + 1)
comms_called rank lines n word e =
    let at = lines_from lines n (Call word) e in
    let there : slice_get lines n ≡ Some (line_of (Call word) at.0) = at.1.0 in
    let fields : fields_at lines n ≡ at.0 = rw there refl in
    ap (λ (fs : List Field). after_call (comms_at rank lines n) (called word fs)) fields
    ∙ sym (comms_next rank lines n (line_of (Call word) at.0) there)

none_later : (lines : List Line) (k place : ℕ) → k ≤ place → word_at lines k ≡ None → word_at lines place ≡ None
none_later [] k place h e = refl
none_later (x ∷ xs) zero place h e = absurd (cc (e))
none_later (x ∷ xs) (suc k) zero h e = absurd (omega arith)
none_later (x ∷ xs) (suc k) (suc place) h e = none_later xs k place (omega arith) e

-- a rank with a journal is one of the run
pub rank_within : (run : Run) (rank : ℕ) (journal : Journal) → journal_at run rank ≡ Some journal → rank < length run
rank_within run rank journal e = by_order (cases_lt rank (length run))
  where
    by_order : (rank < length run) ⊎ (length run ≤ rank) → rank < length run
    by_order (inl within) = within
    by_order (inr past) = let none = rw (slice_get_past run rank past) at e in absurd (cc (none))

module _ (run : Run) (rank : ℕ) (journal : Journal) (place : ℕ) (word : CallWord) (call : word_at journal.lines place ≡ Some (Call word)) where
  abbrev IsAmong : List Placed → Type 0
  IsAmong entries = (n : ℕ) × (slice_get entries n ≡ Some (placed_here rank journal place word))

  one_on : (first : Placed) (others : List Placed) → IsAmong others → IsAmong (first ∷ others)
  one_on first others among = (suc among.0, among.1)

  among_from : (d k : ℕ) → d + k ≡ place → IsAmong (entries_left rank journal k)
  among_from zero k e =
      let same : k ≡ place = omega (arith, e) in
      subst (λ (n : ℕ). IsAmong (entries_left rank journal n)) (sym same)
      (subst (λ (entries : List Placed). IsAmong entries) (sym (entries_at_call rank journal place word call)) (0, refl))
  among_from (suc d) k e = by_word (word_at journal.lines k) refl (among_from d (k + 1) (omega (arith, e)))
    where
      by_word : (it : Option Word) → word_at journal.lines k ≡ it → IsAmong (entries_left rank journal (k + 1)) → IsAmong (entries_left rank journal k)
      by_word None at next = let none = none_later journal.lines k place (omega (arith, e)) at in absurd (cc (none, call))
      by_word (Some (Call other)) at next =
          subst (λ (entries : List Placed). IsAmong entries) (sym (entries_at_call rank journal k other at))
          (one_on (placed_here rank journal k other) (entries_left rank journal (k + 1)) next)
      by_word (Some (Report other)) at next =
          subst (λ (entries : List Placed). IsAmong entries) (sym (entries_after_report rank journal k other at)) next

  -- it is one of the rank's entries
  pub entry_among : journal_at run rank ≡ Some journal → (n : ℕ) × (slice_get (entries_at run rank) n ≡ Some (placed_here rank journal place word))
  entry_among there =
      subst (λ (it : Option Journal). IsAmong (entries_in rank it)) (sym there) (among_from place 0 (omega arith))

-- ---- The communicator ----

-- what is kept of the communicator that an entry's call names
pub named_is : (run : Run) (kept : Communicators) (placed : Placed) (n : ℕ) (place : Option ℕ) (named : Option Named) → IsNumberedRun run kept → placed.rank < length run
    → slice_get (entries_at run placed.rank) n ≡ Some placed → IsPlaceOf kept.keys place (named_key placed)
    → named ≡ option_and_then (λ at. slice_get kept.named.items at) place
    → ((key : Key) (at : ℕ) → place ≡ Some at → HasKey kept.keys at key → is_known run key ≡ true → named ≡ Some (named_as run at key))
    → HasNamed run kept.keys placed named
named_is run kept placed n place named numbered within among at none known = by_key place (named_key placed) refl refl at
  where
    sizes : Option Key → ℕ
    sizes key = option_map_or (λ one. length (group_of_key (length run) one)) key 0

    has_none : named ≡ None → named_key placed ≡ None → HasNamed run kept.keys placed named
    has_none e f =
        subst (λ (it : Option Named). HasNamed run kept.keys placed it) (sym e)
        (record {
          size = sym (ap sizes f);
          number = sym (ap (option_and_then (number_of run)) f);
          place = subst (λ (key : Option Key). IsPlaceOf kept.keys None key) (sym f) tt;
        })

    has_one : (one : ℕ) (key : Key) → named ≡ Some (named_as run one key) → named_key placed ≡ Some key → HasKey kept.keys one key → HasNamed run kept.keys placed named
    has_one one key e f has =
        subst (λ (it : Option Named). HasNamed run kept.keys placed it) (sym e)
        (record {
          size = sym (ap sizes f);
          number = sym (ap (option_and_then (number_of run)) f);
          place = subst (λ (it : Option Key). IsPlaceOf kept.keys (Some one) it) (sym f) has;
        })

    by_key : (one : Option ℕ) (key : Option Key) → place ≡ one → named_key placed ≡ key → IsPlaceOf kept.keys place (named_key placed) → HasNamed run kept.keys placed named
    by_key one key e f at = by_both one key e f (subst (λ (it : Option ℕ). IsPlaceOf kept.keys it key) e (subst (λ (it : Option Key). IsPlaceOf kept.keys place it) f at))
      where
        by_both : (one : Option ℕ) (key : Option Key) → place ≡ one → named_key placed ≡ key → IsPlaceOf kept.keys one key → HasNamed run kept.keys placed named
        by_both None None e f has = has_none (none ∙ ap (λ (it : Option ℕ). option_and_then (λ at. slice_get kept.named.items at) it) e) f
        by_both None (Some key) e f has = absurd has
        by_both (Some one) None e f has = absurd has
        by_both (Some one) (Some key) e f has = has_one one key (known key one e has (named_known run placed.rank n placed key within among f)) f has

-- ---- Reports ----

pub got_is : (lines : List Line) (place : Option ℕ) (found : Option Line) → line_if lines place ≡ found
    → message_in (fields_of_line lines place) ≡ option_and_then (λ line. message_in line.fields) found
got_is lines None None e = refl
got_is lines None (Some line) e = absurd (cc (e))
got_is lines (Some place) None e = rw e refl
got_is lines (Some place) (Some line) e = rw e refl

pub chose_is : (found : Option Line) → ((line : Line) → found ≡ Some line → naturals_in line.fields ≡ requests_in (Some line))
    → option_map naturals_in (option_map (λ line. line.fields) found) ≡ option_map (λ line. requests_in (Some line)) found
chose_is None same = refl
chose_is (Some line) same = ap Some (same line refl)

-- ---- Fields of a line that is there ----

pub fields_there : (lines : List Line) (place : ℕ) (word : Word) → word_at lines place ≡ Some word
    → Some (fields_at lines place) ≡ option_map (λ line. line.fields) (slice_get lines place)
fields_there lines place word e = by_line (slice_get lines place) refl
  where
    by_line : (it : Option Line) → slice_get lines place ≡ it → Some (fields_at lines place) ≡ option_map (λ line. line.fields) (slice_get lines place)
    by_line None at = let none = rw at at e in absurd (cc (none))
    by_line (Some line) at = rw at refl

pub fields_none : (lines : List Line) (place : ℕ) → word_at lines place ≡ None → None ≡ option_map (λ line. line.fields) (slice_get lines place)
fields_none lines place e = by_line (slice_get lines place) refl
  where
    by_line : (it : Option Line) → slice_get lines place ≡ it → None ≡ option_map (λ line. line.fields) (slice_get lines place)
    by_line None at = rw at refl
    by_line (Some line) at = let some = rw at at e in absurd (cc (some))

-- ---- As the call is taken ----

pub comms_start : (rank : ℕ) (lines : List Line) (place start : ℕ) (word : CallWord) (it : Called) (table : Table) (kept : CommsCode) → word_at lines place ≡ Some (Call word)
    → it ≡ called word (fields_at lines place) → start ≡ place + 1 → HasComms table kept (after_call (comms_at rank lines place) it) → HasComms table kept (comms_at rank lines start)
comms_start rank lines place start word it table kept call same first has =
    subst (λ (comms : RankComms). HasComms table kept comms)
    (ap (after_call (comms_at rank lines place)) same ∙ comms_called rank lines place word call ∙ ap (comms_at rank lines) (sym first)) has

-- the communicator that the call names, by its place
pub key_named : (first last : Table) (placed : Placed) (it : Called) (own on key : Option ℕ) → it ≡ placed.called → key ≡ option_or own on → Grows first last
    → IsPlaceOf first own (key_next placed.comms it) → IsPlaceOf first on (key_on placed.comms it) → IsPlaceOf last key (named_key placed)
key_named first last placed it own on key same is grows own_is on_is =
    let both = place_either first own on (key_next placed.comms it) (key_on placed.comms it) own_is on_is in
    let there = subst (λ (one : Option ℕ). IsPlaceOf first one (or_else (key_next placed.comms it) (key_on placed.comms it))) (sym is) both in
    place_grows first last key (named_key placed) grows
    (subst (λ (one : Called). IsPlaceOf first key (or_else (key_next placed.comms one) (key_on placed.comms one))) same there)

-- ---- What the call made ----

-- the key that the reports of an entry bring
pub key_reported : (rank : ℕ) (journal : Journal) (place start : ℕ) (word : CallWord) (table : Table) (made : Option ℕ) → word_at journal.lines place ≡ Some (Call word)
    → start ≡ place + 1 → IsPlaceOf table made (pending (comms_at rank journal.lines start) (drop start journal.lines))
    → IsPlaceOf table made (reported_key (placed_here rank journal place word))
key_reported rank journal place start word table made call first is =
    let lines = journal.lines in
    let comms = comms_at rank lines place in
    let now = called word (fields_at lines place) in
    let same : pending (comms_at rank lines start) (drop start lines) ≡ reported_key (placed_here rank journal place word) =
    ap (λ (n : ℕ). pending (comms_at rank lines n) (drop n lines)) first
    ∙ ap (λ (after : RankComms). pending after (drop (place + 1) lines)) (sym (comms_called rank lines place word call))
    ∙ pending_after comms now (drop (place + 1) lines) in
    subst (λ (key : Option Key). IsPlaceOf table made key) same is

-- what others report of what it made
pub inferred_there : (run : Run) (rank n : ℕ) (placed : Placed) (table : Table) (place : Option ℕ) → slice_get (entries_at run rank) n ≡ Some placed → placed.came_back ≡ false
    → IsPlaceOf table place (slice_get (filter_map (inferred_key run) (entries_at run rank)) 0) → IsPlaceOf table place (inferred_key run placed)
inferred_there run rank n placed table place at back is =
    subst (λ (key : Option Key). IsPlaceOf table place key) (inferred_of_last run rank n placed at back) is

pub inferred_none : (run : Run) (placed : Placed) (table : Table) → (may_give placed.called && not placed.came_back) ≡ false → IsPlaceOf table None (inferred_key run placed)
inferred_none run placed table none =
    subst (λ (b : Bool). IsPlaceOf table None (if b then option_and_then (others_key run placed.rank) (wave_at placed) else None)) (sym none) tt

-- the journal of a rank is numbered where those of the run are
pub numbered_lines : (run : Run) (rank : ℕ) (journal : Journal) → HasFitComms run → journal_at run rank ≡ Some journal → comms_are_numbered journal.lines ≡ true
numbered_lines run rank journal fit there = sym (ap (λ (it : Option Journal). comms_are_numbered (lines_in it)) there) ∙ fit.numbered rank

-- all that is kept of where the call stands
pub at_is : (run : Run) (choice : Choice) (placed : Placed) (kept : Communicators) (it : At) → IsNumberedRun run kept → IsFitEntry run placed → HasNamed run kept.keys placed it.named
    → IsWaveOf kept.keys it.wave (wave_at placed) → placed.came_back ≡ it.came_back → it.is_past ≡ is_past choice.calls placed → option_map message_view it.got ≡ got_in placed.entry
    → option_map (λ fields. naturals_in fields.now) it.chose ≡ option_map (λ line. requests_in (Some line)) (report_of report.Chose placed.entry)
    → IsPlaceOf kept.keys it.made (key_made run placed)
    → IsAtEntry run choice placed kept it
at_is run choice placed kept it numbered fit named wave back past got chose made = record {
  at = record { size = named.size; small = fit.small; number = named.number; is_past = past; got = got; chose = chose };
  numbered = numbered;
  came_back = back;
  named = named.place;
  wave = wave;
  made = made;
}

pub place_there : (lines : List Line) (n : ℕ) (word : CallWord) → word_at lines n ≡ Some (Call word) → n < length lines
place_there lines n word e =
    let from = lines_from lines n (Call word) e in
    slice_get_within lines n (line_of (Call word) from.0) from.1.0

pub map_through : {A B C : Type 0} (f : A → B) (g : B → C) (it : Option A) → option_map (λ x. g (f x)) it ≡ option_map g (option_map f it)
map_through f g None = refl
map_through f g (Some x) = refl
