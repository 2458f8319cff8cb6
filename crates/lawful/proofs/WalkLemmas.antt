-- A rank's list along the lines of its journal.
use Rattle.std.proofs.Common.{◌≡◌, ℕ, ◌+◌, ◌<◌, ◌&&◌, not, Bool, true, false, if◌then◌else◌, Option, Some, None, List, [], ◌∷◌, ◌++◌, length, map, refl, sym, ap, subst, ◌∙◌, inl, inr}
use Rattle.std.specs.Prelude.{is_none, option_map}
use Rattle.std.specs.List.{find}
use Rattle.std.proofs.lemmas.Bool.{cases_Bool, false≢true}
use Rattle.std.proofs.lemmas.Option.{none-some}
use Rattle.mpicall.specs.Word.{or_else}
use Rattle.mpicall.specs.declared.call.Call.{Call}
use Rattle.mpicall.specs.declared.call.Call.TheVariants.{Finalize}
use Rattle.journals.specs.Lines.{Line}
use Rattle.journals.specs.Journal.{Journal}
use Rattle.journals.specs.Entries.{listing_of, group_in}
use Rattle.journals.specs.Known.{is_among, is_report, has_report}
use Rattle.journals.specs.declared.field.Field.{Field}
use Rattle.journals.specs.declared.field.Field.TheVariants.{Natural}
use Rattle.journals.specs.declared.word.Word.{Word}
use Rattle.journals.specs.declared.word.Word.TheVariants.{Call as CallLine, Report}
use Rattle.journals.specs.declared.word.CallWord.{CallWord}
use Rattle.journals.specs.declared.word.CallWord.TheVariants as call
use Rattle.journals.specs.declared.word.ReportWord.{ReportWord}
use Rattle.journals.specs.declared.word.ReportWord.TheVariants as report
use Rattle.closing.specs.Called.{Called, StartsExchange, Duplicates, Splits, Makes, Stops, Cuts, Aborts, Fills, called, awaited}
use Rattle.closing.specs.Keys.{Key, Made}
use Rattle.closing.specs.RankComms.{Wave, RankComms, under, makes_comm, wave_next, key_next, duplicated_in, with_key, with_made, after_call, after_report}
use Rattle.closing.specs.Entries.{Run, Placed, placed_at, entries_from, is_window}
use Rattle.closing.specs.Numbers.{groups_of}
use Rattle.closing.specs.Steps.{Step, Does, WaitsForLate, Progress, after_steps}
use Rattle.closing.specs.Endings.{breaks_off, can_be, first_of, is_unknown, is_unreported, lacks_number, needs_number, number_at, why_at}
use Rattle.closing.specs.Entry.{Choice, Here, here_at, maker, on_comm, steps_by, steps_of}
use Rattle.closing.specs.Recording.{Listed, is_end, steps_before, outcome_by, outcome_in, go_on, list_from}
use Rattle.closing.specs.Sinks.{Outcome, GoesOn, Ends}
use Rattle.closing.specs.declared.why.Why.{Why}
use Rattle.closing.specs.declared.why.Why.TheVariants.{NeverCameBack, NeverReported, Failed, NoNumber, CannotBe}
use Rattle.lawful.proofs.StepLemmas.{calls_in, added_plain}
use Rattle.lawful.proofs.HoldLemmas.{AllHold}
use Rattle.lawful.proofs.LineFacts.{WordFits, LineFits, LinesFit}
use Rattle.lawful.proofs.KeptLemmas.{Ready, Kept, KeptBy, kept_call, report_kept}
use Rattle.lawful.proofs.CalledLemmas.{MakesGroup, called_group}
use Rattle.lawful.proofs.SafeLemmas.{GroupOk, KeptAfter, next_ok, own_at, sinks_keep, waits_keep, steps_of_keep}
use Rattle.lawful.proofs.SinkCases.{awaits_makes_none, by_lists, in_passes}
use Rattle.lawful.proofs.MakerLemmas.{early_fit}
use Rattle.lawful.proofs.EntryLemmas.{waves_after, maker_after, reported_made}

-- ---- What a call line says of groups ----

makes_group : (rank : ℕ) (word : CallWord) (fields : List Field) (group : List ℕ) → WordFits rank (CallLine word) fields group → MakesGroup (λ (it : List ℕ). is_among rank it ≡ true) word group
makes_group rank call.CommCreateGroup fields group fits = fits
makes_group rank _ fields group fits = tt

called_ok : (rank : ℕ) (word : CallWord) (fields : List Field) → LineFits rank (CallLine word) fields → GroupOk rank (called word fields)
called_ok rank word fields fits =
    called_group (λ (group : List ℕ). is_among rank group ≡ true) word fields
    (makes_group rank word fields (group_in (record { word = CallLine word; fields = fields })) fits)

-- ---- What is still to be reported ----

abbrev is_comm_line : Line → Bool
is_comm_line line = is_report report.Comm line.word

-- the communicator that the first report of one brings is there
abbrev pub Pending : Run → RankComms → List Line → List Call → Type 0
Pending run comms lines calls =
    (wave : Wave) → comms.wave ≡ Some wave → comms.own ≡ None → (line : Line) →
    find is_comm_line (listing_of lines).early ≡ Some line → Ready run calls (Made wave.parent wave.count (group_in line))

pending_passed : (run : Run) (comms : RankComms) (number : ℕ) (group : List ℕ) (own : Option Key) (lines : List Line) (calls : List Call) → comms.own ≡ own → Pending run (with_made comms number group own) lines calls
pending_passed run comms number group (Some key) lines calls is wave wave_is own_is line found =
    absurd (none-some key (sym own_is ∙ is))
pending_passed run comms number group None lines calls is wave wave_is own_is line found = absurd (none-some wave wave_is)

duplicated_wave : (comms : RankComms) (number : ℕ) (o : Option Key) → ((with_key comms number o).wave ≡ comms.wave) × ((with_key comms number o).own ≡ comms.own)
duplicated_wave comms number None = (refl, refl)
duplicated_wave comms number (Some key) = (refl, refl)

-- after another report than that of a communicator
pending_other : (run : Run) (comms after : RankComms) (lines rest : List Line) (calls : List Call) → after.wave ≡ comms.wave → after.own ≡ comms.own → find is_comm_line (listing_of rest).early ≡ find is_comm_line (listing_of lines).early → Pending run comms lines calls → Pending run after rest calls
pending_other run comms after lines rest calls same_wave same_own same_found pending wave wave_is own_is line found =
    pending wave (sym same_wave ∙ wave_is) (sym same_own ∙ own_is) line (sym same_found ∙ found)

pending_report : (run : Run) (rank : ℕ) (comms : RankComms) (word : ReportWord) (fields : List Field) (group : List ℕ) (lines : List Line) (calls : List Call) → WordFits rank (Report word) fields group → Pending run comms (record { word = Report word; fields = fields } ∷ lines) calls → Pending run (after_report comms word fields group) lines calls
pending_report run rank comms report.Comm (Natural number ∷ fields) group lines calls fits pending =
    pending_passed run comms number group comms.own lines calls refl
pending_report run rank comms report.Comm fields group lines calls fits pending = absurd fits.1
pending_report run rank comms report.Idup (Natural number ∷ Natural request ∷ fields) group lines calls fits pending =
    let same = duplicated_wave comms number (option_map (duplicated_in group) (under request comms.duplicates)) in
    pending_other run comms (after_report comms report.Idup (Natural number ∷ Natural request ∷ fields) group)
    (record { word = Report report.Idup; fields = Natural number ∷ Natural request ∷ fields } ∷ lines) lines calls same.0 same.1 refl pending
pending_report run rank comms report.Apart (Natural number ∷ fields) group lines calls fits pending =
    pending_other run comms (after_report comms report.Apart (Natural number ∷ fields) group)
    (record { word = Report report.Apart; fields = Natural number ∷ fields } ∷ lines) lines calls refl refl refl pending
pending_report run rank comms word fields group lines calls fits pending =
    pending_other run comms comms (record { word = Report word; fields = fields } ∷ lines) lines calls refl refl refl pending

-- ---- An entry ----

-- the list goes on after an entry only if its communicator has a number
goes_on_of : (a b c d e : Bool) → first_of ((a, Failed) ∷ (b, CannotBe) ∷ (c, NoNumber) ∷ (d, NeverReported) ∷ (e, NeverCameBack) ∷ []) ≡ None → c ≡ false
goes_on_of true b c d e h = absurd (none-some Failed (sym h))
goes_on_of false true c d e h = absurd (none-some CannotBe (sym h))
goes_on_of false false true d e h = absurd (none-some NoNumber (sym h))
goes_on_of false false false d e h = refl

pub breaks_none : (w : Bool) (it : Called) (o : Option Why) → or_else (breaks_off w it) o ≡ None → o ≡ None
breaks_none w Stops o h = absurd (none-some _ (sym h))
breaks_none w Aborts o h = absurd (none-some _ (sym h))
breaks_none w Fills o h = absurd (none-some _ (sym h))
breaks_none true Cuts o h = h
breaks_none false Cuts o h = absurd (none-some _ (sym h))
breaks_none w _ o h = h

needs : (it : Called) → makes_comm it ≡ true → needs_number it ≡ true
needs (Duplicates comm) h = refl
needs (Splits comm colour key) h = refl
needs (Makes comm) h = refl
needs _ h = absurd (false≢true h)

some_number : (b : Bool) (o : Option ℕ) → b ≡ true → (b && is_none o) ≡ false → (number : ℕ) × (o ≡ Some number)
some_number b None is h = absurd (false≢true (sym (rw is at h)))
some_number b (Some number) is h = (number, refl)

has_number : (run : Run) (placed : Placed) → makes_comm placed.called ≡ true → why_at run placed ≡ None → (number : ℕ) × (number_at run placed ≡ Some number)
has_number run placed makes_one h =
    some_number (needs_number placed.called) (number_at run placed) (needs placed.called makes_one)
    (goes_on_of (has_report report.Failed placed.entry) (not (can_be run placed)) (lacks_number run placed) (is_unreported placed placed.called)
    (is_unknown placed placed.called) (breaks_none (is_window run) placed.called _ h))

maker_steps : (here : Here) (it : Called) → makes_comm it ≡ true → on_comm here it ≡ Does here.maker ∷ []
maker_steps here (Duplicates comm) h = refl
maker_steps here (Splits comm colour key) h = refl
maker_steps here (Makes comm) h = refl
maker_steps here _ h = absurd (false≢true h)

no_next : (comms : RankComms) (it : Called) → makes_comm it ≡ true → key_next comms it ≡ None
no_next comms (Duplicates comm) h = refl
no_next comms (Splits comm colour key) h = refl
no_next comms (Makes comm) h = refl
no_next comms _ h = absurd (false≢true h)

not_end : (it : Called) → makes_comm it ≡ true → is_end it ≡ false
not_end (Duplicates comm) h = refl
not_end (Splits comm colour key) h = refl
not_end (Makes comm) h = refl
not_end _ h = absurd (false≢true h)

-- what a list has after an entry: what its rank has then, and what is still to be reported
record Went (run : Run) (rank : ℕ) (placed : Placed) (lines : List Line) (calls : List Call) : Type 0 where
  kept : KeptBy run rank (after_call placed.comms placed.called) calls
  pending : Pending run (after_call placed.comms placed.called) lines calls

-- an entry with what comes after it
record Stands (rank : ℕ) (placed : Placed) (lines : List Line) : Type 0 where
  is_rank : placed.rank ≡ rank
  group_ok : GroupOk rank placed.called
  reports_are : placed.entry.reports ≡ (listing_of lines).early
  fit : LinesFit rank lines

other_went_by : (run : Run) (rank : ℕ) (placed : Placed) (lines : List Line) (steps : List Step) (progress : Progress) → Stands rank placed lines → makes_comm placed.called ≡ false → KeptAfter run rank placed progress steps → Went run rank placed lines (calls_in (after_steps progress placed.line steps))
other_went_by run rank placed lines steps progress stands makes_not kept = record {
  kept = kept_call run rank placed.comms (calls_in (after_steps progress placed.line steps))
      (option_map (λ (wave : Wave). wave.parent) (wave_next placed.comms placed.called)) (key_next placed.comms placed.called) kept
      (λ key h. next_ok (length run) rank placed.comms placed.called key stands.group_ok h);
  pending = λ wave wave_is own_is line found. absurd (none-some wave (rw makes_not at wave_is));
}

other_went : (run : Run) (choice : Choice) (rank : ℕ) (placed : Placed) (lines : List Line) (progress : Progress) → rank < length run → Stands rank placed lines → makes_comm placed.called ≡ false → KeptBy run rank placed.comms (calls_in progress) → Went run rank placed lines (calls_in (after_steps progress placed.line (steps_of run choice placed)))
other_went run choice rank placed lines progress within stands makes_not kept =
    other_went_by run rank placed lines (steps_of run choice placed) progress stands makes_not
    (steps_of_keep run choice rank placed progress within makes_not stands.group_ok kept)

maker_went_by : (run : Run) (choice : Choice) (rank comm : ℕ) (placed : Placed) (lines : List Line) (progress : Progress) → Stands rank placed lines → makes_comm placed.called ≡ true → number_at run placed ≡ Some comm → KeptBy run rank placed.comms (calls_in progress) → Went run rank placed lines (calls_in (after_steps progress placed.line (Does (maker run placed comm) ∷ [])))
maker_went_by run choice rank comm placed lines progress stands makes_one is kept =
    let call = maker run placed comm in
    let calls = calls_in progress in
    let same = added_plain progress placed.line (call ∷ []) in
    let reports : LinesFit rank placed.entry.reports = subst (λ (ls : List Line). LinesFit rank ls) (sym stands.reports_are) (early_fit rank lines stands.fit) in
    let after = maker_after run rank comm placed calls stands.is_rank reports (own_at run rank placed calls comm kept stands.group_ok is) kept in
    let it : Went run rank placed lines (calls ++ call ∷ []) = record {
      kept = subst (λ (own : Option Key). Kept run rank placed.comms.numbers (waves_after placed) own (calls ++ call ∷ [])) (sym (no_next placed.comms placed.called makes_one)) after.kept;
      pending = λ wave wave_is own_is line found.
          after.gave (Made wave.parent wave.count (group_in line))
          (reported_made run placed wave line makes_one (rw makes_one at wave_is)
          (ap (λ (ls : List Line). find is_comm_line ls) stands.reports_are ∙ found));
    } in
    subst (λ (all : List Call). Went run rank placed lines all) (sym same) it

maker_went : (run : Run) (choice : Choice) (rank : ℕ) (placed : Placed) (lines : List Line) (progress : Progress) → Stands rank placed lines → makes_comm placed.called ≡ true → why_at run placed ≡ None → KeptBy run rank placed.comms (calls_in progress) → Went run rank placed lines (calls_in (after_steps progress placed.line (steps_of run choice placed)))
maker_went run choice rank placed lines progress stands makes_one why kept =
    let number = has_number run placed makes_one why in
    let steps : steps_of run choice placed ≡ Does (maker run placed number.0) ∷ [] =
    ap (λ (o : Option ℕ). steps_by run choice placed o) number.1 ∙ maker_steps (here_at run choice placed number.0) placed.called makes_one in
    subst (λ (all : List Step). Went run rank placed lines (calls_in (after_steps progress placed.line all))) (sym steps)
    (maker_went_by run choice rank number.0 placed lines progress stands makes_one number.1 kept)

went : (run : Run) (choice : Choice) (rank : ℕ) (placed : Placed) (lines : List Line) (progress : Progress) → rank < length run → Stands rank placed lines → why_at run placed ≡ None → KeptBy run rank placed.comms (calls_in progress) → Went run rank placed lines (calls_in (after_steps progress placed.line (steps_of run choice placed)))
went run choice rank placed lines progress within stands why kept =
    elim (cases_Bool (makes_comm placed.called)) [
      | inl makes_one ↦ maker_went run choice rank placed lines progress stands makes_one why kept
      | inr makes_none ↦ other_went run choice rank placed lines progress within stands makes_none kept
    ]

-- ---- The entry that ends a list ----

abbrev pub RecordsHold : Run → ℕ → Listed → Type 0
RecordsHold run rank it = AllHold (groups_of run) rank [] (map (λ one. one.call) it.records)

exchange_makes_none : (it : Called) (why : Why) (P : List Step → Type 0) (run : Run) (choice : Choice) (placed : Placed) → placed.called ≡ it → P [] → (makes_comm placed.called ≡ false → P (steps_of run choice placed)) → P (steps_before run choice placed it why)
exchange_makes_none (StartsExchange request received sent awaited) NeverReported P run choice placed is none some = some (rw is refl)
exchange_makes_none _ _ P run choice placed is none some = none

ended_holds : (run : Run) (choice : Choice) (rank : ℕ) (placed : Placed) (progress : Progress) (why : Why) → rank < length run → GroupOk rank placed.called → KeptBy run rank placed.comms (calls_in progress) → AllHold (groups_of run) rank [] (calls_in (after_steps progress placed.line (steps_before run choice placed placed.called why)))
ended_holds run choice rank placed progress why within ok kept =
    exchange_makes_none placed.called why (λ (steps : List Step). AllHold (groups_of run) rank [] (calls_in (after_steps progress placed.line steps)))
    run choice placed refl kept.all (λ makes_not. (steps_of_keep run choice rank placed progress within makes_not ok kept).all)

-- what comes after an entry, by what the list has then
abbrev Rest : Run → ℕ → Placed → List Line → (Progress → Listed) → Type 0
Rest run rank placed lines others = (progress : Progress) → Went run rank placed lines (calls_in progress) → RecordsHold run rank (others progress)

gone_on : (run : Run) (choice : Choice) (rank : ℕ) (placed : Placed) (lines : List Line) (progress : Progress) (others : Progress → Listed) (end : Bool) → rank < length run → Stands rank placed lines → why_at run placed ≡ None → KeptBy run rank placed.comms (calls_in progress) → Rest run rank placed lines others → RecordsHold run rank (go_on progress placed.line (if end then Ends (WaitsForLate ∷ []) Finalize None else GoesOn (steps_of run choice placed)) others)
gone_on run choice rank placed lines progress others true within stands why kept rest =
    (waits_keep run rank placed.line placed.comms progress (WaitsForLate ∷ []) within (tt, tt) kept).all
gone_on run choice rank placed lines progress others false within stands why kept rest =
    rest (after_steps progress placed.line (steps_of run choice placed)) (went run choice rank placed lines progress within stands why kept)

entry_holds_by : (run : Run) (choice : Choice) (rank : ℕ) (placed : Placed) (lines : List Line) (progress : Progress) (others : Progress → Listed) (o : Option Why) → why_at run placed ≡ o → rank < length run → Stands rank placed lines → KeptBy run rank placed.comms (calls_in progress) → Rest run rank placed lines others → RecordsHold run rank (go_on progress placed.line (outcome_by run choice placed o) others)
entry_holds_by run choice rank placed lines progress others (Some why) is within stands kept rest =
    ended_holds run choice rank placed progress why within stands.group_ok kept
entry_holds_by run choice rank placed lines progress others None is within stands kept rest =
    gone_on run choice rank placed lines progress others (is_end placed.called) within stands is kept rest

entry_holds : (run : Run) (choice : Choice) (rank : ℕ) (placed : Placed) (lines : List Line) (progress : Progress) (others : Progress → Listed) → rank < length run → Stands rank placed lines → KeptBy run rank placed.comms (calls_in progress) → Rest run rank placed lines others → RecordsHold run rank (go_on progress placed.line (outcome_in run choice progress.records placed) others)
entry_holds run choice rank placed lines progress others within stands kept rest =
    in_passes run choice progress.records placed (λ (outcome : Outcome). RecordsHold run rank (go_on progress placed.line outcome others))
    (entry_holds_by run choice rank placed lines progress others (why_at run placed) refl within stands kept rest)
    (by_lists run placed (KeptAfter run rank placed progress) (λ (outcome : Outcome). RecordsHold run rank (go_on progress placed.line outcome others))
    (λ steps after awaits. rest (after_steps progress placed.line steps)
    (other_went_by run rank placed lines steps progress stands (awaits_makes_none placed.called awaits) after))
    (λ steps why after. after.all) (sinks_keep run rank placed progress stands.group_ok kept))

-- ---- Lines ----

-- what a list gets from these lines holds, from any state of it
abbrev Walks : Run → Choice → ℕ → Journal → List Line → Type 0
Walks run choice rank journal lines =
    (number : ℕ) (comms : RankComms) (progress : Progress) → KeptBy run rank comms (calls_in progress) → Pending run comms lines (calls_in progress) →
    RecordsHold run rank (list_from run choice progress (entries_from rank journal number comms lines))

abbrev entry_at : ℕ → Journal → ℕ → RankComms → CallWord → List Field → List Line → Placed
entry_at rank journal number comms word fields lines =
    placed_at rank journal number comms (record { word = word; fields = fields; reports = (listing_of lines).early }) lines

walk_line : (run : Run) (choice : Choice) (rank : ℕ) (journal : Journal) (word : Word) (fields : List Field) (lines : List Line) → rank < length run → LineFits rank word fields → LinesFit rank lines → Walks run choice rank journal lines → Walks run choice rank journal (record { word = word; fields = fields } ∷ lines)
walk_line run choice rank journal (CallLine word) fields lines within fits all rest number comms progress kept pending =
    let placed = entry_at rank journal number comms word fields lines in
    entry_holds run choice rank placed lines progress
    (λ new. list_from run choice new (entries_from rank journal (number + 1) (after_call comms (called word fields)) lines))
    within (record { is_rank = refl; group_ok = called_ok rank word fields fits; reports_are = refl; fit = all }) kept
    (λ new state. rest (number + 1) (after_call comms (called word fields)) new state.kept state.pending)
walk_line run choice rank journal (Report word) fields lines within fits all rest number comms progress kept pending =
    let group = group_in (record { word = Report word; fields = fields }) in
    rest (number + 1) (after_report comms word fields group) progress
    (report_kept run rank comms (calls_in progress) word fields group fits
    (λ is wave wave_is own_is. pending wave wave_is own_is (record { word = Report word; fields = fields }) (rw is refl)) kept)
    (pending_report run rank comms word fields group lines (calls_in progress) fits pending)

pub walk : (run : Run) (choice : Choice) (rank : ℕ) (journal : Journal) (lines : List Line) → rank < length run → LinesFit rank lines → Walks run choice rank journal lines
walk run choice rank journal [] within all number comms progress kept pending = kept.all
walk run choice rank journal (line ∷ lines) within all number comms progress kept pending =
    walk_line run choice rank journal line.word line.fields lines within all.0 all.1 (walk run choice rank journal lines within all.1) number comms progress kept pending
