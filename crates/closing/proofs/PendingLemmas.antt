-- The communicator that a rank's last call made, as the reports after it are taken one after the other.
use Rattle.std.proofs.Common.{◌≡◌, ◌∙◌, refl, sym, ap, subst, arith, ℕ, zero, suc, ◌+◌, true, true≢false, List, [], ◌∷◌, ◌++◌, length, drop, Option, Some, None, option_map, option_and_then}
use Rattle.std.specs.Prelude.{if◌then◌else◌}
use Rattle.std.specs.Option.{option_or}
use Rattle.std.proofs.lemmas.List.{append_cancel_left, length-append}
use Rattle.std.proofs.lemmas.Bool.{and_parts}
use Rattle.mpicall.specs.Word.{or_else}
use Rattle.journals.specs.Entries.{group_in}
use Rattle.journals.specs.Lines.{Line}
use Rattle.journals.specs.Taking.{word_at, fields_at}
use Rattle.journals.specs.declared.field.Field.{Field}
use Rattle.journals.specs.declared.field.Field.TheVariants.{Natural}
use Rattle.journals.specs.declared.word.Word.{Word}
use Rattle.journals.specs.declared.word.Word.TheVariants.{Report}
use Rattle.journals.specs.declared.word.ReportWord.{ReportWord}
use Rattle.journals.specs.declared.word.ReportWord.TheVariants as report
use Rattle.closing.specs.Called.{Called, naturals_in}
use Rattle.closing.specs.FitComms.{comm_is_numbered, comms_are_numbered}
use Rattle.closing.specs.Keys.{Key}
use Rattle.closing.specs.Made.{made_with}
use Rattle.closing.specs.RankComms.{RankComms, after_call, duplicated_in, key_next, made_in, makes_comm, under, wave_next, with_key, with_made, with_some}
use Rattle.closing.specs.Table.{Table}
use Rattle.closing.specs.inner.Holds.{IsGot, apart_taken, report_taken}
use Rattle.closing.specs.inner.Noted.{first_report, reports_in}
use Rattle.closing.specs.inner.Pending.{group_to_come, key_told, pending, pending_by}
use Rattle.closing.specs.inner.SoFar.{comms_at}
use Rattle.closing.specs.inner.Table.{Grows, HasKey, IsPlaceOf}
use Rattle.closing.proofs.HoldsLemmas.{group_made, place_grows}
use Rattle.closing.proofs.LastLemmas.{line_of, lines_from}
use Rattle.closing.proofs.PlacedLemmas.{comms_reported}
use Rattle.closing.proofs.WaveKeyLemmas.{makes_no_own, no_reports, none_pending, pending_made}

or_self : (key other : Option Key) → other ≡ None → key ≡ or_else key other
or_self None other e = sym e
or_self (Some key) other e = refl

or_on : (a b c : Option Key) → or_else a (or_else b c) ≡ or_else (or_else a b) c
or_on None b c = refl
or_on (Some a) b c = refl

or_none : (a : Option Key) → or_else a None ≡ a
or_none None = refl
or_none (Some a) = refl

pub place_either : (table : Table) (a b : Option ℕ) (x y : Option Key) → IsPlaceOf table a x → IsPlaceOf table b y → IsPlaceOf table (option_or a b) (or_else x y)
place_either table None b None y one two = two
place_either table None b (Some key) y one two = absurd one
place_either table (Some place) b None y one two = absurd one
place_either table (Some place) b (Some key) y one two = one

-- ---- A report ----

made_told : (comms : RankComms) (number : ℕ) (group : List ℕ) (later : Option (List ℕ)) (own : Option Key) → comms.own ≡ own
    → pending_by own comms.wave (Some group)
    ≡ or_else (pending_by own comms.wave (Some group)) (pending_by (with_made comms number group own).own (with_made comms number group own).wave later)
made_told comms number group later (Some key) e = sym (ap (λ (o : Option Key). pending_by o comms.wave later) e)
made_told comms number group later None e =
    or_self (made_with comms.wave group) _ (none_pending (with_made comms number group None).own later)

key_quiet : (comms : RankComms) (number : ℕ) (key : Option Key) (lines : List Line) → pending comms lines ≡ pending (with_key comms number key) lines
key_quiet comms number None lines = refl
key_quiet comms number (Some key) lines = refl

-- what is to come with a report, and after it
report_told : (comms : RankComms) (word : ReportWord) (fields : List Field) (lines : List Line) → comm_is_numbered (Report word) fields ≡ true
    → pending comms (line_of (Report word) fields ∷ lines) ≡ or_else (key_told comms word fields) (pending (report_taken comms word fields) lines)
unfolding apart_taken
report_told comms report.Comm (Natural number ∷ members) lines numbered =
    ap (λ (group : List ℕ). pending_by comms.own comms.wave (Some group)) (group_made number members)
    ∙ made_told comms number (naturals_in members) (group_to_come lines) comms.own refl
report_told comms report.Comm fields lines numbered = absurd (true≢false (sym numbered))
report_told comms report.Idup (Natural number ∷ Natural request ∷ members) lines numbered =
    key_quiet comms number (option_map (duplicated_in (naturals_in members)) (under request comms.duplicates)) lines
report_told comms report.Apart (Natural number ∷ members) lines numbered = refl
report_told comms word fields lines numbered = refl

-- ---- The key that a report brings ----

no_more : (keys more : List Key) (key : Key) → keys ++ key ∷ more ≡ keys → ⊥
no_more keys more key e =
    let same : length keys + length (key ∷ more) ≡ length keys = sym (length-append keys (key ∷ more)) ∙ ap length e in
    omega (arith, same)

got_some : (table : Table) (place : Option ℕ) (keys : List Key) (made : Option Key) → IsGot table place keys (with_some keys made) → IsPlaceOf table place made
got_some table None keys None is = tt
got_some table None keys (Some key) is = absurd (no_more keys [] key is)
got_some table (Some place) keys None is = absurd (no_more keys [] is.0 (sym is.2))
got_some table (Some place) keys (Some key) is =
    let both : key ∷ [] ≡ is.0 ∷ [] = append_cancel_left keys (key ∷ []) (is.0 ∷ []) is.2 in
    let same : is.0 ≡ key = cc (both) in
    subst (λ (it : Key). HasKey table place it) same is.1

with_key_some : (comms : RankComms) (number : ℕ) (key : Option Key) → (with_key comms number key).keys ≡ with_some comms.keys key
with_key_some comms number None = refl
with_key_some comms number (Some key) = refl

made_got : (table : Table) (comms : RankComms) (number : ℕ) (group : List ℕ) (place : Option ℕ) (own : Option Key) → IsGot table place comms.keys (with_made comms number group own).keys
    → IsPlaceOf table place (pending_by own comms.wave (Some group))
made_got table comms number group place (Some key) is = got_some table place comms.keys None is
made_got table comms number group place None is =
    got_some table place comms.keys (made_with comms.wave group)
    (subst (λ (keys : List Key). IsGot table place comms.keys keys) (with_key_some comms number (option_map (made_in group) comms.wave)) is)

pub comm_told : (table : Table) (comms : RankComms) (fields : List Field) (place : Option ℕ) → IsGot table place comms.keys (report_taken comms report.Comm fields).keys
    → IsPlaceOf table place (key_told comms report.Comm fields)
comm_told table comms (Natural number ∷ members) place is = made_got table comms number (naturals_in members) place comms.own is
comm_told table comms fields place is = got_some table place comms.keys None is

-- ---- One report after the other ----

-- of what was to come so much is had, and this is still to come
pub record IsMadeTo (table : Table) (place : Option ℕ) (whole left : Option Key) : Type 0 where
  pub key : Option Key
  pub is : IsPlaceOf table place key
  pub same : whole ≡ or_else key left

pub made_first : (table : Table) (whole : Option Key) → IsMadeTo table None whole whole
made_first table whole = record { key = None; is = tt; same = refl }

numbered_at : (lines : List Line) (n : ℕ) (word : Word) → comms_are_numbered lines ≡ true → word_at lines n ≡ Some word → comm_is_numbered word (fields_at lines n) ≡ true
numbered_at [] n word all e = absurd (cc (e))
numbered_at (line ∷ lines) zero word all e =
    let same : line.word ≡ word = cc (e) in
    ap (λ (it : Word). comm_is_numbered it line.fields) (sym same) ∙ (and_parts (comm_is_numbered line.word line.fields) (comms_are_numbered lines) all).0
numbered_at (line ∷ lines) (suc n) word all e =
    numbered_at lines n word (and_parts (comm_is_numbered line.word line.fields) (comms_are_numbered lines) all).1 e

pub made_next : (rank : ℕ) (lines : List Line) (n : ℕ) (word : ReportWord) (now next : Table) (made key : Option ℕ) (whole : Option Key) → comms_are_numbered lines ≡ true
    → word_at lines n ≡ Some (Report word) → Grows now next → IsPlaceOf next key (key_told (comms_at rank lines n) word (fields_at lines n))
    → IsMadeTo now made whole (pending (comms_at rank lines n) (drop n lines))
    → IsMadeTo next (option_or made key) whole (pending (comms_at rank lines (n + 1)) (drop (n + 1) lines))
made_next rank lines n word now next made key whole all e grows told to =
    let from = lines_from lines n (Report word) e in
    let there = from.1.0 in
    let fields : fields_at lines n ≡ from.0 = rw there refl in
    let comms = comms_at rank lines n in
    let left : pending comms (drop n lines) ≡ or_else (key_told comms word (fields_at lines n)) (pending (comms_at rank lines (n + 1)) (drop (n + 1) lines)) =
    ap (pending comms) (from.1.1 ∙ ap (λ (it : List Field). line_of (Report word) it ∷ drop (n + 1) lines) (sym fields))
    ∙ report_told comms word (fields_at lines n) (drop (n + 1) lines) (numbered_at lines n (Report word) all e)
    ∙ ap (λ (it : RankComms). or_else (key_told comms word (fields_at lines n)) (pending it (drop (n + 1) lines))) (comms_reported rank lines n word e) in
    record {
      key = or_else to.key (key_told comms word (fields_at lines n));
      is = place_either next made key to.key (key_told comms word (fields_at lines n)) (place_grows now next made to.key grows to.is) told;
      same = to.same ∙ ap (or_else to.key) left ∙ or_on to.key (key_told comms word (fields_at lines n)) (pending (comms_at rank lines (n + 1)) (drop (n + 1) lines));
    }

pub made_last : (table : Table) (place : Option ℕ) (whole : Option Key) (comms : RankComms) (lines : List Line) → reports_in lines ≡ []
    → IsMadeTo table place whole (pending comms lines) → IsPlaceOf table place whole
made_last table place whole comms lines none to =
    let left : pending comms lines ≡ None = ap (λ (xs : List Line). pending_by comms.own comms.wave (option_map group_in (first_report report.Comm xs))) none ∙ no_reports comms.own comms.wave in
    subst (λ (it : Option Key). IsPlaceOf table place it) (sym (to.same ∙ ap (or_else to.key) left ∙ or_none to.key)) to.is

-- ---- After the call ----

pub pending_after : (comms : RankComms) (it : Called) (lines : List Line)
    → pending (after_call comms it) lines ≡ (if makes_comm it then option_and_then (made_with (wave_next comms it)) (group_to_come lines) else None)
pending_after comms it lines = pending_made (key_next comms it) (makes_comm it) (wave_next comms it) (group_to_come lines) (makes_no_own comms it)
