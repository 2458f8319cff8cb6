-- The communicators that calls of all members gave ranks are those that their entries report.
use Rattle.std.proofs.Common.{◌≡◌, refl, sym, ap, subst, ◌∙◌, ◌⊎◌, inl, inr, ℕ, ◌+◌, Bool, true, false, ◌||◌, cond, if◌then◌else◌, List, [], ◌∷◌, ◌++◌, option_map, option_and_then, Option, Some, None}
use Rattle.std.specs.List.{find, list_any}
use Rattle.std.proofs.lemmas.Bool.{and_parts, false≢true}
use Rattle.std.proofs.lemmas.List.Folds.{list_any-append}
use Rattle.journals.specs.Entries.{group_in, listing_of}
use Rattle.journals.specs.Journal.{Journal}
use Rattle.journals.specs.Known.{is_report}
use Rattle.journals.specs.Lines.{Line}
use Rattle.journals.specs.declared.field.Field.{Field}
use Rattle.journals.specs.declared.field.Field.TheVariants.{Natural}
use Rattle.journals.specs.declared.word.CallWord.{CallWord}
use Rattle.journals.specs.declared.word.ReportWord.{ReportWord}
use Rattle.journals.specs.declared.word.ReportWord.TheVariants as report
use Rattle.journals.specs.declared.word.Word.{Word}
use Rattle.journals.specs.declared.word.Word.TheVariants.{Call, Report}
use Rattle.closing.specs.Called.{Called, MakesOfGroup, called}
use Rattle.closing.specs.Entries.{Placed, Run, entries_at, entries_from, entries_in, journal_at, lines_at, lines_in, placed_at}
use Rattle.closing.specs.Keys.{Key, Made, Apart, group_count, is_key_among, same_key}
use Rattle.closing.specs.Made.{made_with, reported_key}
use Rattle.closing.specs.RankComms.{RankComms, Wave, after_call, after_line, after_lines, after_report, comms_after, comms_first, duplicated_in, key_next, made_in, makes_comm, under, wave_next, with_key, with_made, with_some}
use Rattle.closing.specs.FitComms.{comm_is_numbered, comms_are_numbered}
use Rattle.closing.proofs.NumberLists.{or_true}
use Rattle.closing.proofs.SomeLemmas.{passes, some_either}

-- the entry reports the key
abbrev pub gives : Key → Placed → Bool
gives key placed = passes (λ other. same_key other key) (reported_key placed)

-- the communicator of a last call is still to be reported, and is this one
abbrev early_gives : Key → Option Key → Option Wave → List Line → Bool
early_gives key (Some own) wave early = false
early_gives key None wave early =
    passes (λ other. same_key other key) (option_and_then (made_with wave) (option_map group_in (find (λ line. is_report report.Comm line.word) early)))

-- the rank had the key, or the first of the reports is of it, or a later entry's
abbrev IsFrom : Key → ℕ → Journal → ℕ → RankComms → List Line → Type 0
IsFrom key rank journal number comms lines =
    (is_key_among key comms.keys ≡ true)
    ⊎ ((early_gives key comms.own comms.wave (listing_of lines).early ≡ true)
    ⊎ (list_any (gives key) (entries_from rank journal number comms lines) ≡ true))

no_wave : (key : Key) (group : Option (List ℕ)) → passes (λ other. same_key other key) (option_and_then (made_with None) group) ≡ false
no_wave key None = refl
no_wave key (Some group) = refl

no_pending : (key : Key) (own : Option Key) (early : List Line) → early_gives key own None early ≡ true → ⊥
no_pending key (Some own) early h = false≢true h
no_pending key None early h = false≢true (sym (no_wave key (option_map group_in (find (λ line. is_report report.Comm line.word) early))) ∙ h)

-- a report of another word is none of the communicator
early_skip : (key : Key) (own : Option Key) (wave : Option Wave) (line : Line) (early : List Line) → is_report report.Comm line.word ≡ false → early_gives key own wave early ≡ true → early_gives key own wave (line ∷ early) ≡ true
early_skip key (Some own) wave line early e h = absurd (false≢true h)
early_skip key None wave line early e h =
    ap (λ b. passes (λ other. same_key other key) (option_and_then (made_with wave) (option_map group_in (cond b (Some line) (find (λ one. is_report report.Comm one.word) early))))) e ∙ h

or_none_right : (a b : Bool) → b ≡ false → (a || (b || false)) ≡ true → a ≡ true
or_none_right true b e h = refl
or_none_right false b e h = absurd (false≢true (sym (ap (λ x. x || false) e) ∙ h))

or_false_true : (b : Bool) → (b || false) ≡ true → b ≡ true
or_false_true true h = refl
or_false_true false h = h

-- what the report of another word leaves as it was
record IsQuiet (key : Key) (old new : RankComms) : Type 0 where
  keys : is_key_among key new.keys ≡ true → is_key_among key old.keys ≡ true
  wave : new.wave ≡ old.wave
  own : new.own ≡ old.own

module _ (p : Key) (c : ℕ) (g : List ℕ) where
  push_other : (k : Key) (keys : List Key) → same_key k (Made p c g) ≡ false → is_key_among (Made p c g) (keys ++ k ∷ []) ≡ true → is_key_among (Made p c g) keys ≡ true
  push_other k keys e h =
      or_none_right (is_key_among (Made p c g) keys) (same_key k (Made p c g)) e
      (sym (list_any-append (λ other. same_key other (Made p c g)) keys (k ∷ [])) ∙ h)

  with_key_quiet : (comms : RankComms) (number : ℕ) (it : Option Key) → passes (λ other. same_key other (Made p c g)) it ≡ false → IsQuiet (Made p c g) comms (with_key comms number it)
  with_key_quiet comms number None e = record { keys = λ h. h; wave = refl; own = refl }
  with_key_quiet comms number (Some k) e = record { keys = push_other k comms.keys e; wave = refl; own = refl }

  duplicated_other : (group : List ℕ) (wave : Option Wave) → passes (λ other. same_key other (Made p c g)) (option_map (duplicated_in group) wave) ≡ false
  duplicated_other group None = refl
  duplicated_other group (Some wave) = refl

  apart_quiet : (comms : RankComms) (group : List ℕ) (number : ℕ) (it : Key) → same_key it (Made p c g) ≡ false → IsQuiet (Made p c g) comms (with_key (record comms { apart = comms.apart ++ group ∷ [] }) number (Some it))
  apart_quiet comms group number it e = record { keys = push_other it comms.keys e; wave = refl; own = refl }

  report_quiet : (comms : RankComms) (word : ReportWord) (fields : List Field) (group : List ℕ) → is_report report.Comm (Report word) ≡ false → IsQuiet (Made p c g) comms (after_report comms word fields group)
  report_quiet comms report.Comm fields group e = absurd (false≢true (sym e))
  report_quiet comms report.Idup (Natural number ∷ Natural request ∷ fields) group e =
      with_key_quiet comms number (option_map (duplicated_in group) (under request comms.duplicates)) (duplicated_other group (under request comms.duplicates))
  report_quiet comms report.Apart (Natural number ∷ fields) group e = apart_quiet comms group number (Apart group (group_count group comms.apart)) refl
  report_quiet comms word fields group e = record { keys = λ h. h; wave = refl; own = refl }

  next_quiet : (comms : RankComms) (it : Called) → is_key_among (Made p c g) (with_some comms.keys (key_next comms it)) ≡ true → is_key_among (Made p c g) comms.keys ≡ true
  next_quiet comms (MakesOfGroup group) h = push_other _ comms.keys refl h
  next_quiet comms it h = h

  -- ---- A line ----

  quiet_step : (rank : ℕ) (journal : Journal) (number : ℕ) (comms new : RankComms) (word : ReportWord) (fields : List Field) (lines : List Line) → is_report report.Comm (Report word) ≡ false → IsQuiet (Made p c g) comms new
      → IsFrom (Made p c g) rank journal (number + 1) new lines
      → (is_key_among (Made p c g) comms.keys ≡ true)
      ⊎ ((early_gives (Made p c g) comms.own comms.wave (record { word = Report word; fields = fields } ∷ (listing_of lines).early) ≡ true)
      ⊎ (list_any (gives (Made p c g)) (entries_from rank journal (number + 1) new lines) ≡ true))
  quiet_step rank journal number comms new word fields lines e quiet from = elim from [
    | inl had ↦ inl (quiet.keys had)
    | inr more ↦ elim more [
      | inl early ↦
          let same : early_gives (Made p c g) comms.own comms.wave (listing_of lines).early ≡ true =
          sym (ap (λ o. early_gives (Made p c g) o new.wave (listing_of lines).early) quiet.own
          ∙ ap (λ w. early_gives (Made p c g) comms.own w (listing_of lines).early) quiet.wave) ∙ early in
          inr (inl (early_skip (Made p c g) comms.own comms.wave (record { word = Report word; fields = fields }) (listing_of lines).early e same))
      | inr given ↦ inr (inr given)
    ]
  ]

  -- the report of the last call's communicator
  comm_step : (rank : ℕ) (journal : Journal) (number comm : ℕ) (comms : RankComms) (fields : List Field) (group : List ℕ) (lines : List Line) (own : Option Key) (wave : Option Wave)
      → group ≡ group_in (record { word = Report report.Comm; fields = fields }) → comms.own ≡ own → comms.wave ≡ wave
      → IsFrom (Made p c g) rank journal (number + 1) (with_made comms comm group own) lines
      → (is_key_among (Made p c g) comms.keys ≡ true)
      ⊎ ((early_gives (Made p c g) own wave (record { word = Report report.Comm; fields = fields } ∷ (listing_of lines).early) ≡ true)
      ⊎ (list_any (gives (Made p c g)) (entries_from rank journal (number + 1) (with_made comms comm group own) lines) ≡ true))
  comm_step rank journal number comm comms fields group lines (Some key) wave is e f from = elim from [
    | inl had ↦ inl had
    | inr more ↦ elim more [
      | inl early ↦ absurd (false≢true (ap (λ o. early_gives (Made p c g) o comms.wave (listing_of lines).early) (sym e) ∙ early))
      | inr given ↦ inr (inr given)
    ]
  ]
  comm_step rank journal number comm comms fields group lines None None is e f from = elim from [
    | inl had ↦ inl (subst (λ w. is_key_among (Made p c g) (with_key comms comm (option_map (made_in group) w)).keys ≡ true) f had)
    | inr more ↦ elim more [
      | inl early ↦ absurd (no_pending (Made p c g) (with_made comms comm group None).own (listing_of lines).early early)
      | inr given ↦ inr (inr given)
    ]
  ]
  comm_step rank journal number comm comms fields group lines None (Some it) is e f from = elim from [
    | inl had ↦
        let made : is_key_among (Made p c g) (comms.keys ++ made_in group it ∷ []) ≡ true =
        subst (λ w. is_key_among (Made p c g) (with_key comms comm (option_map (made_in group) w)).keys ≡ true) f had in
        elim (some_either (λ other. same_key other (Made p c g)) comms.keys (made_in group it ∷ []) made) [
          | inl before ↦ inl before
          | inr here ↦ inr (inl (ap (λ gs. same_key (made_in gs it) (Made p c g)) (sym is) ∙ or_false_true (same_key (made_in group it) (Made p c g)) here))
        ]
    | inr more ↦ elim more [
      | inl early ↦ absurd (no_pending (Made p c g) (with_made comms comm group None).own (listing_of lines).early early)
      | inr given ↦ inr (inr given)
    ]
  ]

  -- a call whose communicator is reported by one of the next reports
  call_gives : (placed : Placed) (early : List Line) → placed.entry.reports ≡ early
      → early_gives (Made p c g) (key_next placed.comms placed.called) (if makes_comm placed.called then wave_next placed.comms placed.called else None) early ≡ true
      → gives (Made p c g) placed ≡ true
  call_gives placed early e h = by (key_next placed.comms placed.called) (makes_comm placed.called) h
    where
      by : (own : Option Key) (b : Bool) → early_gives (Made p c g) own (if b then wave_next placed.comms placed.called else None) early ≡ true
          → passes (λ other. same_key other (Made p c g)) (if b then option_and_then (made_with (wave_next placed.comms placed.called)) (option_map group_in (find (λ line. is_report report.Comm line.word) placed.entry.reports)) else None) ≡ true
      by (Some own) b h = absurd (false≢true h)
      by None true h = ap (λ rs. passes (λ other. same_key other (Made p c g)) (option_and_then (made_with (wave_next placed.comms placed.called)) (option_map group_in (find (λ line. is_report report.Comm line.word) rs)))) e ∙ h
      by None false h = absurd (no_pending (Made p c g) None early h)

  call_step : (rank : ℕ) (journal : Journal) (number : ℕ) (comms : RankComms) (word : CallWord) (fields : List Field) (lines : List Line)
      → IsFrom (Made p c g) rank journal (number + 1) (after_call comms (called word fields)) lines
      → IsFrom (Made p c g) rank journal number comms (record { word = Call word; fields = fields } ∷ lines)
  call_step rank journal number comms word fields lines from =
      let placed = placed_at rank journal number comms (record { word = word; fields = fields; reports = (listing_of lines).early }) lines in
      let others = entries_from rank journal (number + 1) (after_call comms (called word fields)) lines in
      elim from [
        | inl had ↦ inl (next_quiet comms (called word fields) had)
        | inr more ↦ elim more [
          | inl early ↦ inr (inr (ap (λ b. b || list_any (gives (Made p c g)) others) (call_gives placed (listing_of lines).early refl early)))
          | inr given ↦ inr (inr (ap (λ b. gives (Made p c g) placed || b) given ∙ or_true (gives (Made p c g) placed)))
        ]
      ]

  line_step : (rank : ℕ) (journal : Journal) (number : ℕ) (comms : RankComms) (word : Word) (fields : List Field) (lines : List Line)
      → comm_is_numbered word fields ≡ true
      → IsFrom (Made p c g) rank journal (number + 1) (after_line comms (record { word = word; fields = fields })) lines
      → IsFrom (Made p c g) rank journal number comms (record { word = word; fields = fields } ∷ lines)
  line_step rank journal number comms (Call word) fields lines fit from = call_step rank journal number comms word fields lines from
  line_step rank journal number comms (Report report.Comm) (Natural comm ∷ fields) lines fit from =
      comm_step rank journal number comm comms (Natural comm ∷ fields) (group_in (record { word = Report report.Comm; fields = Natural comm ∷ fields })) lines comms.own comms.wave refl refl refl from
  line_step rank journal number comms (Report report.Comm) fields lines fit from = absurd (false≢true fit)
  line_step rank journal number comms (Report word) fields lines fit from =
      quiet_step rank journal number comms (after_report comms word fields (group_in (record { word = Report word; fields = fields }))) word fields lines refl
      (report_quiet comms word fields (group_in (record { word = Report word; fields = fields })) refl) from

  from_lines : (rank : ℕ) (journal : Journal) (number : ℕ) (comms : RankComms) (lines : List Line) → comms_are_numbered lines ≡ true
      → is_key_among (Made p c g) (after_lines comms lines).keys ≡ true → IsFrom (Made p c g) rank journal number comms lines
  from_lines rank journal number comms [] fit h = inl h
  from_lines rank journal number comms (line ∷ lines) fit h =
      let fits = and_parts (comm_is_numbered line.word line.fields) (comms_are_numbered lines) fit in
      line_step rank journal number comms line.word line.fields lines fits.0
      (from_lines rank journal (number + 1) (after_line comms line) lines fits.1 h)

  rank_from : (rank : ℕ) (journal : Option Journal) → comms_are_numbered (lines_in journal) ≡ true → is_key_among (Made p c g) (comms_after rank (lines_in journal)).keys ≡ true → list_any (gives (Made p c g)) (entries_in rank journal) ≡ true
  rank_from rank None fit h = absurd (false≢true h)
  rank_from rank (Some journal) fit h = elim (from_lines rank journal 2 (comms_first rank) journal.lines fit h) [
    | inl had ↦ absurd (false≢true had)
    | inr more ↦ elim more [
      | inl early ↦ absurd (no_pending (Made p c g) None (listing_of journal.lines).early early)
      | inr given ↦ given
    ]
  ]

  -- some entry of the rank reports the key that it got
  pub rank_reported : (run : Run) (rank : ℕ) → comms_are_numbered (lines_at run rank) ≡ true → is_key_among (Made p c g) (comms_after rank (lines_at run rank)).keys ≡ true → list_any (gives (Made p c g)) (entries_at run rank) ≡ true
  rank_reported run rank fit h = rank_from rank (journal_at run rank) fit h
