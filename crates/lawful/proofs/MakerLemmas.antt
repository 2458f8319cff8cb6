-- Calls on a parent that make communicators: each that gives the rank one makes one that it hadn't before.
use Rattle.std.proofs.Common.{◌≡◌, ℕ, ◌==◌, ◌&&◌, not, ℤ, Bool, true, false, if◌then◌else◌, Option, Some, None, List, [], ◌∷◌, length, filter, refl, sym, ap, subst, ◌∙◌, eqb-true, inl, inr}
use Rattle.std.specs.Prelude.{option_map, option_and_then}
use Rattle.std.specs.List.{find, filter_map, cons_option}
use Rattle.std.specs.Option.{option_map_or}
use Rattle.std.specs.Str.{bytes_eq}
use Rattle.std.proofs.lemmas.Bool.{cases_Bool, false≢true, and_parts}
use Rattle.std.proofs.lemmas.Option.{none-some, same_Some}
use Rattle.mpicall.specs.Word.{or_else}
use Rattle.mpicall.specs.declared.call.Call.{Call}
use Rattle.mpicall.specs.declared.call.Call.TheVariants.{Coll, Dup, Split}
use Rattle.mpicall.specs.declared.call.Kind.TheVariants as kind
use Rattle.mpigroup.specs.Groups.{Groups}
use Rattle.callstore.specs.Communicators.{comm_of as comm_named, makes}
use Rattle.pairing.specs.Faults.{is_fresh_comm, makes_afresh}
use Rattle.journals.specs.Lines.{Line}
use Rattle.journals.specs.Entries.{group_in, listing_of, Listing, put_line}
use Rattle.journals.specs.Known.{is_among, is_report, report_of}
use Rattle.journals.specs.declared.field.Field.{Field}
use Rattle.journals.specs.declared.word.Word.{Word}
use Rattle.journals.specs.declared.word.Word.TheVariants.{Call as CallLine, Report}
use Rattle.journals.specs.declared.word.ReportWord.TheVariants as report
use Rattle.closing.specs.Called.{Called, Splits, Makes}
use Rattle.closing.specs.Keys.{Key, Made, same_key, has_member, group_of_key}
use Rattle.closing.specs.RankComms.{Wave, makes_comm}
use Rattle.closing.specs.Entries.{Run, Placed, all_entries}
use Rattle.closing.specs.Made.{wave_at, is_wave, may_give, made_with, reported_key, others_key, inferred_key, key_made}
use Rattle.closing.specs.Numbers.{rank_in}
use Rattle.closing.specs.Entry.{brings, parent_rank, parent_group, colour_of, giving_line, split_key, bare_line}
use Rattle.lawful.proofs.KeyLemmas.{same_key_is_equal}
use Rattle.lawful.proofs.LineFacts.{LineFits, LinesFit}

-- ---- The call ----

-- it makes this communicator for its rank, or none
pub record Gives (comm new : ℕ) (call : Call) : Type 0 where
  pub comm_is : comm_named call ≡ Some comm
  pub makes_it : makes call ≡ Some new
  pub afresh : (groups : Groups) (rank : ℕ) (calls : List Call) → makes_afresh groups rank calls call ≡ is_fresh_comm groups rank calls new

pub record IsBare (comm : ℕ) (call : Call) : Type 0 where
  pub comm_is : comm_named call ≡ Some comm
  pub makes_none : makes call ≡ None
  pub afresh : (groups : Groups) (rank : ℕ) (calls : List Call) → makes_afresh groups rank calls call ≡ true

gives_if : (comm new : ℕ) (b : Bool) (first other : Call) → Gives comm new first → Gives comm new other → Gives comm new (if b then first else other)
gives_if comm new true first other is_first is_other = is_first
gives_if comm new false first other is_first is_other = is_other

bare_if : (comm : ℕ) (b : Bool) (first other : Call) → IsBare comm first → IsBare comm other → IsBare comm (if b then first else other)
bare_if comm true first other is_first is_other = is_first
bare_if comm false first other is_first is_other = is_other

dup_gives : (comm new : ℕ) → Gives comm new (Dup comm new)
dup_gives comm new = record { comm_is = refl; makes_it = refl; afresh = λ groups rank calls. refl }

split_gives : (comm new colour : ℕ) (key : ℤ) → Gives comm new (Split comm (Some colour) key (Some new))
split_gives comm new colour key = record { comm_is = refl; makes_it = refl; afresh = λ groups rank calls. refl }

pub giving_gives : (run : Run) (placed : Placed) (comm : ℕ) (it : Called) (key : Key) (new : ℕ) → Gives comm new (giving_line run placed comm it key new)
giving_gives run placed comm (Splits own (Some colour) split) key new = split_gives comm new (colour_of colour) split
giving_gives run placed comm (Makes own) key new =
    gives_if comm new (bytes_eq (group_of_key (length run) key) (parent_group run placed)) (Dup comm new)
    (Split comm (Some (parent_rank (parent_group run placed) (group_of_key (length run) key))) (rank_in run placed.rank key) (Some new))
    (dup_gives comm new)
    (split_gives comm new (parent_rank (parent_group run placed) (group_of_key (length run) key)) (rank_in run placed.rank key))
giving_gives run placed comm _ key new = dup_gives comm new

pub bare_is : (run : Run) (placed : Placed) (comm : ℕ) → IsBare comm (bare_line run placed comm)
bare_is run placed comm =
    bare_if comm (option_map_or (brings run) (wave_at placed) false) (Split comm None (split_key placed.called) None) (Coll comm kind.Barrier)
    (record { comm_is = refl; makes_none = refl; afresh = λ groups rank calls. refl })
    (record { comm_is = refl; makes_none = refl; afresh = λ groups rank calls. refl })

-- ---- The communicator ----

-- one that the wave made, with the rank in its group
pub record OfWave (ranks rank : ℕ) (wave : Wave) (key : Key) : Type 0 where
  pub group : List ℕ
  pub key_is : key ≡ Made wave.parent wave.count group
  pub member : has_member ranks rank key ≡ true

comm_among : (rank : ℕ) (word : Word) (fields : List Field) → is_report report.Comm word ≡ true → LineFits rank word fields → is_among rank (group_in (record { word = word; fields = fields })) ≡ true
comm_among rank (Report report.Comm) fields is fits = fits.0
comm_among rank _ fields is fits = absurd (false≢true is)

found_among : (rank : ℕ) (lines : List Line) (line : Line) → LinesFit rank lines → find (λ (l : Line). is_report report.Comm l.word) lines ≡ Some line → is_among rank (group_in line) ≡ true
found_among rank [] line fits found = absurd (none-some line found)
found_among rank (first ∷ lines) line fits found =
    elim (cases_Bool (is_report report.Comm first.word)) [
      | inl here ↦ subst (λ (l : Line). is_among rank (group_in l) ≡ true) (same_Some first line (rw here at found)) (comm_among rank first.word first.fields here fits.0)
      | inr there ↦ found_among rank lines line fits.1 (rw there at found)
    ]

early_put : (rank : ℕ) (word : Word) (fields : List Field) (rest : Listing) → LineFits rank word fields → LinesFit rank rest.early → LinesFit rank (put_line word fields rest).early
early_put rank (CallLine word) fields rest fits all = tt
early_put rank (Report word) fields rest fits all = (fits, all)

pub early_fit : (rank : ℕ) (lines : List Line) → LinesFit rank lines → LinesFit rank (listing_of lines).early
early_fit rank [] all = tt
early_fit rank (line ∷ lines) all = early_put rank line.word line.fields (listing_of lines) all.0 (early_fit rank lines all.1)

-- ---- What others report ----

wave_same : (wave : Wave) (o : Option Wave) (group : List ℕ) (key : Key) → is_wave wave o ≡ true → made_with o group ≡ Some key → key ≡ Made wave.parent wave.count group
wave_same wave None group key same made = absurd (none-some key made)
wave_same wave (Some other) group key same made =
    let parts = and_parts (same_key wave.parent other.parent) (wave.count == other.count) same in
    sym (same_Some (Made other.parent other.count group) key made)
    ∙ ap (λ (parent : Key). Made parent other.count group) (sym (same_key_is_equal wave.parent other.parent parts.0))
    ∙ ap (λ (count : ℕ). Made wave.parent count group) (sym (eqb-true wave.count other.count parts.1))

-- a communicator that an entry's call gave by a report
record Reported (placed : Placed) (key : Key) : Type 0 where
  makes_one : makes_comm placed.called ≡ true
  line : Line
  line_is : report_of report.Comm placed.entry ≡ Some line
  made : made_with (wave_at placed) (group_in line) ≡ Some key

reported_is : (placed : Placed) (key : Key) → reported_key placed ≡ Some key → Reported placed key
reported_is placed key h =
    elim (cases_Bool (makes_comm placed.called)) [
      | inl makes_one ↦ of_line makes_one (report_of report.Comm placed.entry) refl (rw makes_one at h)
      | inr makes_none ↦ absurd (none-some key (rw makes_none at h))
    ]
  where
    of_line : makes_comm placed.called ≡ true → (o : Option Line) → report_of report.Comm placed.entry ≡ o → option_and_then (made_with (wave_at placed)) (option_map group_in o) ≡ Some key → Reported placed key
    of_line makes_one None is e = absurd (none-some key e)
    of_line makes_one (Some line) is e = record { makes_one = makes_one; line = line; line_is = is; made = e }

wave_gave : (ranks rank : ℕ) (wave : Wave) (placed : Placed) (key : Key) → is_wave wave (wave_at placed) ≡ true → reported_key placed ≡ Some key → has_member ranks rank key ≡ true → OfWave ranks rank wave key
wave_gave ranks rank wave placed key same is member =
    let reported = reported_is placed key is in
    record { group = group_in reported.line; key_is = wave_same wave (wave_at placed) (group_in reported.line) key same reported.made; member = member }

found_gave : (ranks rank : ℕ) (wave : Wave) (placed : Placed) (keys : List Key) (key : Key) (o : Option Key) → is_wave wave (wave_at placed) ≡ true → reported_key placed ≡ o → find (has_member ranks rank) (cons_option o keys) ≡ Some key → (find (has_member ranks rank) keys ≡ Some key → OfWave ranks rank wave key) → OfWave ranks rank wave key
found_gave ranks rank wave placed keys key None same is found others = others found
found_gave ranks rank wave placed keys key (Some other) same is found others =
    elim (cases_Bool (has_member ranks rank other)) [
      | inl member ↦
          subst (λ (k : Key). OfWave ranks rank wave k) (same_Some other key (rw member at found)) (wave_gave ranks rank wave placed other same is member)
      | inr lacks ↦ others (rw lacks at found)
    ]

others_are : (ranks rank : ℕ) (wave : Wave) (entries : List Placed) (key : Key) → find (has_member ranks rank) (filter_map reported_key (filter (λ (placed : Placed). is_wave wave (wave_at placed)) entries)) ≡ Some key → OfWave ranks rank wave key
others_are ranks rank wave [] key found = absurd (none-some key found)
others_are ranks rank wave (placed ∷ entries) key found =
    elim (cases_Bool (is_wave wave (wave_at placed))) [
      | inl same ↦
          found_gave ranks rank wave placed (filter_map reported_key (filter (λ (p : Placed). is_wave wave (wave_at p)) entries)) key
          (reported_key placed) same refl (rw same at found) (λ rest. others_are ranks rank wave entries key rest)
      | inr apart ↦ others_are ranks rank wave entries key (rw apart at found)
    ]

-- ---- What the call gave the rank ----

pub record GaveKey (ranks rank : ℕ) (placed : Placed) (key : Key) : Type 0 where
  pub wave : Wave
  pub wave_is : wave_at placed ≡ Some wave
  pub of_wave : OfWave ranks rank wave key

reported_gave : (ranks rank : ℕ) (placed : Placed) (key : Key) → LinesFit rank placed.entry.reports → reported_key placed ≡ Some key → GaveKey ranks rank placed key
reported_gave ranks rank placed key fits h = with_wave (reported_is placed key h) (wave_at placed) refl
  where
    with_wave : Reported placed key → (o : Option Wave) → wave_at placed ≡ o → GaveKey ranks rank placed key
    with_wave reported None is = absurd (none-some key (subst (λ (o : Option Wave). made_with o (group_in reported.line) ≡ Some key) is reported.made))
    with_wave reported (Some wave) is =
        let made : made_with (Some wave) (group_in reported.line) ≡ Some key = subst (λ (o : Option Wave). made_with o (group_in reported.line) ≡ Some key) is reported.made in
        let key_is : key ≡ Made wave.parent wave.count (group_in reported.line) = sym (same_Some (Made wave.parent wave.count (group_in reported.line)) key made) in
        let among = found_among rank placed.entry.reports reported.line fits reported.line_is in
        record {
          wave = wave;
          wave_is = is;
          of_wave = record { group = group_in reported.line; key_is = key_is; member = subst (λ (k : Key). has_member ranks rank k ≡ true) (sym key_is) among };
        }

inferred_gave : (run : Run) (rank : ℕ) (placed : Placed) (key : Key) → placed.rank ≡ rank → inferred_key run placed ≡ Some key → GaveKey (length run) rank placed key
inferred_gave run rank placed key own h =
    elim (cases_Bool (may_give placed.called && not placed.came_back)) [
      | inl may ↦ of_wave (wave_at placed) refl (rw may at h)
      | inr never ↦ absurd (none-some key (rw never at h))
    ]
  where
    of_wave : (o : Option Wave) → wave_at placed ≡ o → option_and_then (others_key run placed.rank) o ≡ Some key → GaveKey (length run) rank placed key
    of_wave None is e = absurd (none-some key e)
    of_wave (Some wave) is e = record {
      wave = wave;
      wave_is = is;
      of_wave = others_are (length run) rank wave (all_entries run) key (subst (λ (r : ℕ). others_key run r wave ≡ Some key) own e);
    }

pub made_gave : (run : Run) (rank : ℕ) (placed : Placed) (key : Key) → placed.rank ≡ rank → LinesFit rank placed.entry.reports → key_made run placed ≡ Some key → GaveKey (length run) rank placed key
made_gave run rank placed key own fits h = of_reported (reported_key placed) refl h
  where
    of_reported : (o : Option Key) → reported_key placed ≡ o → or_else o (inferred_key run placed) ≡ Some key → GaveKey (length run) rank placed key
    of_reported (Some other) is e = reported_gave (length run) rank placed key fits (is ∙ e)
    of_reported None is e = inferred_gave run rank placed key own e
