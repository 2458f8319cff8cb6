-- What a rank's list keeps as it grows: each communicator that the rank has is made in it, and none twice.
use Rattle.std.proofs.Common.{◌≡◌, ℕ, ◌≤◌, ◌<◌, ◌==◌, ◌&&◌, ◌||◌, Bool, true, false, Option, Some, None, List, [], ◌∷◌, ◌++◌, length, refl, sym, subst, arith, inl, inr}
use Rattle.std.specs.Prelude.{⊤, option_map, option_and_then, cond}
use Rattle.std.specs.List.{list_any}
use Rattle.std.proofs.lemmas.Bool.{cases_Bool, false≢true, and_parts, and_from}
use Rattle.std.proofs.lemmas.List.Sums.{sum_by_push}
use Rattle.std.proofs.lemmas.Option.{none-some, same_Some}
use Rattle.mpicall.specs.declared.call.Call.{Call}
use Rattle.mpigroup.specs.Groups.{Groups}
use Rattle.callstore.specs.Communicators.{makes, does_make, holds}
use Rattle.pairing.specs.Faults.{is_member}
use Rattle.journals.specs.Known.{is_among, is_report}
use Rattle.journals.specs.declared.field.Field.{Field}
use Rattle.journals.specs.declared.field.Field.TheVariants.{Natural}
use Rattle.journals.specs.declared.word.Word.TheVariants.{Report}
use Rattle.journals.specs.declared.word.ReportWord.{ReportWord}
use Rattle.journals.specs.declared.word.ReportWord.TheVariants as report
use Rattle.closing.specs.Called.{Called, wave_comm}
use Rattle.closing.specs.Keys.{Key, World, Alone, Made, Duplicated, OfGroup, Apart, same_key, has_member, key_count, group_count}
use Rattle.closing.specs.RankComms.{Wave, RankComms, under, wave_on, wave_next, key_under, with_some, with_key, made_in, duplicated_in, with_made, after_report}
use Rattle.closing.specs.Entries.{Run}
use Rattle.closing.specs.Numbers.{is_of_call, number_of, groups_of}
use Rattle.lawful.proofs.HoldLemmas.{Holds, AllHold, Keeps, hold_more, any_more, holds_more}
use Rattle.lawful.proofs.LineFacts.{WordFits}
use Rattle.lawful.proofs.KeyFacts.{same_key_self, member_is, in_the_world, world_number}

-- ---- Keys ----

-- no call of the rank made the communicator so far that makes it later: none makes it at all, or one of these waves did
abbrev pub IsUsed : List Key → Key → Type 0
IsUsed waves (Made parent count group) = count < key_count parent waves
IsUsed waves World = ⊥
IsUsed waves key = ⊤

count_push : (key one : Key) (waves : List Key) → key_count key waves ≤ key_count key (waves ++ one ∷ [])
count_push key one waves =
    let more = sum_by_push (λ (other : Key). cond (same_key other key) 1 0) waves one in
    omega (arith, more)

count_self : (key : Key) (waves : List Key) → key_count key waves < key_count key (waves ++ key ∷ [])
count_self key waves =
    let more = sum_by_push (λ (other : Key). cond (same_key other key) 1 0) waves key in
    let one : ◌≡◌ {A = ℕ} (cond (same_key key key) 1 0) 1 = rw (same_key_self key) refl in
    omega (arith, more, one)

used_push : (waves : List Key) (one key : Key) → IsUsed waves key → IsUsed (waves ++ one ∷ []) key
used_push waves one (Made parent count group) used = let more = count_push parent one waves in omega (arith, more, used)
used_push waves one World used = used
used_push waves one (Alone rank) used = tt
used_push waves one (Duplicated parent count group) used = tt
used_push waves one (OfGroup group count) used = tt
used_push waves one (Apart group count) used = tt

pub used_some : (waves : List Key) (o : Option Key) (key : Key) → IsUsed waves key → IsUsed (with_some waves o) key
used_some waves None key used = used
used_some waves (Some one) key used = used_push waves one key used

pub used_no_call : (waves : List Key) (key : Key) → is_of_call key ≡ false → IsUsed waves key
used_no_call waves World h = absurd (false≢true (sym h))
used_no_call waves (Made parent count group) h = absurd (false≢true (sym h))
used_no_call waves (Alone rank) h = tt
used_no_call waves (Duplicated parent count group) h = tt
used_no_call waves (OfGroup group count) h = tt
used_no_call waves (Apart group count) h = tt

-- ---- Waves ----

pub wave_counts : (comms : RankComms) (it : Called) (wave : Wave) → wave_next comms it ≡ Some wave → wave.count ≡ key_count wave.parent comms.waves
wave_counts comms it wave h = of_key (option_and_then (key_under comms) (wave_comm it)) h
  where
    of_key : (o : Option Key) → option_map (wave_on comms) o ≡ Some wave → wave.count ≡ key_count wave.parent comms.waves
    of_key None e = absurd (none-some wave e)
    of_key (Some key) e = subst (λ (w : Wave). w.count ≡ key_count w.parent comms.waves) (same_Some (wave_on comms key) wave e) refl

pub wave_used : (comms : RankComms) (it : Called) (wave : Wave) (group : List ℕ) → wave_next comms it ≡ Some wave → IsUsed (with_some comms.waves (option_map (λ (w : Wave). w.parent) (wave_next comms it))) (Made wave.parent wave.count group)
wave_used comms it wave group h =
    rw h (let counts = wave_counts comms it wave h in let more = count_self wave.parent comms.waves in omega (arith, counts, more))

-- ---- What is kept ----

-- the calls made it, if it has a number
abbrev pub Ready : Run → List Call → Key → Type 0
Ready run calls key = (number : ℕ) → number_of run key ≡ Some number → holds calls number ≡ true

pub record Has (run : Run) (rank : ℕ) (calls : List Call) (key : Key) : Type 0 where
  pub member : has_member (length run) rank key ≡ true
  pub ready : Ready run calls key

pub record Source (run : Run) (waves : List Key) (number : ℕ) : Type 0 where
  pub key : Key
  pub is_number : number_of run key ≡ Some number
  pub used : IsUsed waves key

pub record Kept (run : Run) (rank : ℕ) (numbers : List (ℕ × Key)) (waves : List Key) (own : Option Key) (calls : List Call) : Type 0 where
  pub all : AllHold (groups_of run) rank [] calls
  pub made : (number : ℕ) → list_any (does_make number) calls ≡ true → Source run waves number
  pub ready : (key : Key) → is_of_call key ≡ false → has_member (length run) rank key ≡ true → Ready run calls key
  pub has : (number : ℕ) (key : Key) → under number numbers ≡ Some key → Has run rank calls key
  pub own_has : (key : Key) → own ≡ Some key → Has run rank calls key

abbrev pub KeptBy : Run → ℕ → RankComms → List Call → Type 0
KeptBy run rank comms calls = Kept run rank comms.numbers comms.waves comms.own calls

ready_more : (run : Run) (calls : List Call) (call : Call) (key : Key) → Ready run calls key → Ready run (calls ++ call ∷ []) key
ready_more run calls call key ready number h = holds_more calls call number (ready number h)

has_more : (run : Run) (rank : ℕ) (calls : List Call) (call : Call) (key : Key) → Has run rank calls key → Has run rank (calls ++ call ∷ []) key
has_more run rank calls call key has = record { member = has.member; ready = ready_more run calls call key has.ready }

-- ---- Calls that make nothing ----

-- the rank is in the communicator's group, and holds it
abbrev pub Own : Groups → ℕ → List Call → ℕ → Type 0
Own groups rank calls comm = (is_member groups rank comm && holds calls comm) ≡ true

pub world_own : (run : Run) (rank : ℕ) (calls : List Call) → rank < length run → Own (groups_of run) rank calls 0
world_own run rank calls within =
    and_from (is_member (groups_of run) rank 0) (holds calls 0) (member_is run rank World 0 (world_number run) (in_the_world run rank within)) refl

own_more : (groups : Groups) (rank : ℕ) (calls : List Call) (call : Call) (comm : ℕ) → Own groups rank calls comm → Own groups rank (calls ++ call ∷ []) comm
own_more groups rank calls call comm own =
    let parts = and_parts (is_member groups rank comm) (holds calls comm) own in
    and_from (is_member groups rank comm) (holds (calls ++ call ∷ []) comm) parts.0 (holds_more calls call comm parts.1)

pub record Safe (groups : Groups) (rank comm : ℕ) (call : Call) : Type 0 where
  pub passes : (calls : List Call) → Own groups rank calls comm → Holds groups rank calls call
  pub makes_none : makes call ≡ None

or_left : (a : Bool) → (a || false) ≡ true → a ≡ true
or_left true h = refl
or_left false h = absurd (false≢true h)

-- what a list has, and the communicator of an entry
abbrev pub KeptOn : Run → ℕ → List (ℕ × Key) → List Key → Option Key → ℕ → List Call → Type 0
KeptOn run rank numbers waves own comm calls = Kept run rank numbers waves own calls × Own (groups_of run) rank calls comm

pub safe_keeps : (run : Run) (rank : ℕ) (numbers : List (ℕ × Key)) (waves : List Key) (own : Option Key) (comm : ℕ) → Keeps (KeptOn run rank numbers waves own comm) (Safe (groups_of run) rank comm)
safe_keeps run rank numbers waves own comm calls call safe (kept, is_own) = (
  record {
    all = hold_more (groups_of run) rank calls call kept.all (safe.passes calls is_own);
    made = λ number made. kept.made number (or_left (list_any (does_make number) calls) (rw (any_more (does_make number) calls call, safe.makes_none) at made));
    ready = λ key no_call member. ready_more run calls call key (kept.ready key no_call member);
    has = λ number key h. has_more run rank calls call key (kept.has number key h);
    own_has = λ key h. has_more run rank calls call key (kept.own_has key h);
  },
  own_more (groups_of run) rank calls call comm is_own,
)

-- ---- After a call ----

-- the calls that it stands for are there, and it makes nothing but of a group
pub kept_call : (run : Run) (rank : ℕ) (comms : RankComms) (calls : List Call) (o next : Option Key) → KeptBy run rank comms calls → ((key : Key) → next ≡ Some key → (is_of_call key ≡ false) × (has_member (length run) rank key ≡ true)) → Kept run rank comms.numbers (with_some comms.waves o) next calls
kept_call run rank comms calls o next kept own = record {
  all = kept.all;
  made = λ number made. let source = kept.made number made in record { key = source.key; is_number = source.is_number; used = used_some comms.waves o source.key source.used };
  ready = kept.ready;
  has = kept.has;
  own_has = λ key h. let facts = own key h in record { member = facts.1; ready = kept.ready key facts.0 facts.1 };
}

-- ---- After a report ----

put_number : (run : Run) (rank number : ℕ) (key : Key) (numbers : List (ℕ × Key)) (waves : List Key) (own : Option Key) (calls : List Call) → Has run rank calls key → Kept run rank numbers waves own calls → Kept run rank ((number, key) ∷ numbers) waves own calls
put_number run rank number key numbers waves own calls has kept = record {
  all = kept.all;
  made = kept.made;
  ready = kept.ready;
  has = λ other found h. elim (cases_Bool (number == other)) [
    | inl here ↦ subst (λ (k : Key). Has run rank calls k) (same_Some key found (rw here at h)) has
    | inr there ↦ kept.has other found (rw there at h)
  ];
  own_has = kept.own_has;
}

-- the communicator that the next report of one brings: that of the wave of the last call
abbrev pub WaveReady : Run → List Call → RankComms → List ℕ → Type 0
WaveReady run calls comms group = (wave : Wave) → comms.wave ≡ Some wave → comms.own ≡ None → Ready run calls (Made wave.parent wave.count group)

made_kept : (run : Run) (rank number : ℕ) (group : List ℕ) (comms : RankComms) (calls : List Call) (own : Option Key) → comms.own ≡ own → is_among rank group ≡ true → WaveReady run calls comms group → KeptBy run rank comms calls → KeptBy run rank (with_made comms number group own) calls
made_kept run rank number group comms calls (Some key) is among ready kept =
    put_number run rank number key comms.numbers comms.waves comms.own calls (kept.own_has key is) kept
made_kept run rank number group comms calls None is among ready kept = of_wave comms.wave refl
  where
    of_wave : (o : Option Wave) → comms.wave ≡ o → Kept run rank (with_key comms number (option_map (made_in group) o)).numbers (with_key comms number (option_map (made_in group) o)).waves (with_key comms number (option_map (made_in group) o)).own calls
    of_wave None e = kept
    of_wave (Some wave) e =
        put_number run rank number (Made wave.parent wave.count group) comms.numbers comms.waves comms.own calls
        (record { member = among; ready = ready wave e is }) kept

duplicated_kept : (run : Run) (rank number : ℕ) (group : List ℕ) (comms : RankComms) (calls : List Call) (o : Option Wave) → is_among rank group ≡ true → KeptBy run rank comms calls → KeptBy run rank (with_key comms number (option_map (duplicated_in group) o)) calls
duplicated_kept run rank number group comms calls None among kept = kept
duplicated_kept run rank number group comms calls (Some wave) among kept =
    put_number run rank number (Duplicated wave.parent wave.count group) comms.numbers comms.waves comms.own calls
    (record { member = among; ready = kept.ready (Duplicated wave.parent wave.count group) refl among }) kept

pub report_kept : (run : Run) (rank : ℕ) (comms : RankComms) (calls : List Call) (word : ReportWord) (fields : List Field) (group : List ℕ) → WordFits rank (Report word) fields group → (is_report report.Comm (Report word) ≡ true → WaveReady run calls comms group) → KeptBy run rank comms calls → KeptBy run rank (after_report comms word fields group) calls
report_kept run rank comms calls report.Comm (Natural number ∷ fields) group fits ready kept =
    made_kept run rank number group comms calls comms.own refl fits.0 (ready refl) kept
report_kept run rank comms calls report.Idup (Natural number ∷ Natural request ∷ fields) group fits ready kept =
    duplicated_kept run rank number group comms calls (under request comms.duplicates) fits kept
report_kept run rank comms calls report.Apart (Natural number ∷ fields) group fits ready kept =
    put_number run rank number (Apart group (group_count group comms.apart)) comms.numbers comms.waves comms.own calls
    (record { member = fits; ready = kept.ready (Apart group (group_count group comms.apart)) refl fits }) kept
report_kept run rank comms calls _ fields group fits ready kept = kept
