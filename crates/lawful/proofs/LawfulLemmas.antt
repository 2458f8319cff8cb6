-- No call of a recording of journals that were read has a fault.
use Rattle.std.proofs.Common.{◌≡◌, ℕ, zero, suc, ◌+◌, ◌-◌, ◌<◌, ◌==◌, Bool, true, false, if◌then◌else◌, Option, Some, None, List, [], ◌∷◌, ◌++◌, length, map, take, refl, sym, ap, subst, ◌∙◌, arith, inl, inr, eq-eqb, ⊎_elim}
use Rattle.std.specs.Prelude.{is_none, nat_lt, slice_get}
use Rattle.std.specs.List.{range_with_len}
use Rattle.std.proofs.lemmas.Bool.{cases_Bool, false≢true}
use Rattle.std.proofs.lemmas.List.{length-map, take-map}
use Rattle.std.proofs.lemmas.Option.{none-some, same_Some}
use Rattle.mpicall.specs.Ending.{ends_list}
use Rattle.mpicall.specs.declared.call.Call.{Call}
use Rattle.mpicall.specs.declared.call.Call.TheVariants.{Finalize, Open}
use Rattle.mpigroup.specs.Groups.{Groups, or_empty}
use Rattle.callstore.specs.Communicators.{holds}
use Rattle.pairing.specs.Faults.{fault_of}
use Rattle.journals.specs.Journal.{Journal}
use Rattle.closing.specs.Keys.{Key, World, Alone, has_member}
use Rattle.closing.specs.RankComms.{under, comms_first}
use Rattle.closing.specs.Entries.{Run, journal_at, entries_in, ranks_of}
use Rattle.closing.specs.Entry.{Choice}
use Rattle.closing.specs.Numbers.{is_of_call, groups_of, preface_of}
use Rattle.closing.specs.Steps.{Written}
use Rattle.closing.specs.Recording.{Listed, list_from, progress_first, whole_list, most_records, line_of, cut, without_journal, list_of, calls_of, recording_of}
use Rattle.closing.specs.declared.why.Why.TheVariants.{TooLong}
use Rattle.lawful.specs.Laws.{IsRead, EachRecordingIsLawful}
use Rattle.lawful.proofs.StepLemmas.{plain_calls}
use Rattle.lawful.proofs.ListLemmas.{list_of_fits}
use Rattle.lawful.proofs.FaultLemmas.{Passes, at_end, list_passes}
use Rattle.lawful.proofs.HoldLemmas.{Holds, AllHold, hold_take, hold_at, held_made}
use Rattle.lawful.proofs.LineFacts.{LinesFit}
use Rattle.lawful.proofs.RunFacts.{lines_of_rank}
use Rattle.lawful.proofs.KeyFacts.{world_number, in_the_world}
use Rattle.lawful.proofs.PrefaceFacts.{preface_holds, preface_made, preface_makes}
use Rattle.lawful.proofs.KeptLemmas.{Ready, Has, KeptBy, used_no_call}
use Rattle.lawful.proofs.WalkLemmas.{RecordsHold, walk}
use Rattle.std.proofs.lemmas.List.{take-append-le}
use Rattle.std.proofs.lemmas.List.FromFn.{length-range_with_len}

-- ---- The preface ----

first_ready : (run : Run) (rank : ℕ) (key : Key) → is_of_call key ≡ false → has_member (length run) rank key ≡ true → Ready run (preface_of run rank) key
first_ready run rank key no_call member number h =
    held_made (preface_of run rank) number (preface_makes run rank key number no_call member h)

world_has : (run : Run) (rank : ℕ) → rank < length run → Has run rank (preface_of run rank) World
world_has run rank within = record {
  member = in_the_world run rank within;
  ready = λ number h. let zeroth : 0 ≡ number = same_Some 0 number (sym (world_number run) ∙ h) in
      subst (λ (n : ℕ). holds (preface_of run rank) n ≡ true) zeroth refl;
}

alone_has : (run : Run) (rank : ℕ) → Has run rank (preface_of run rank) (Alone rank)
alone_has run rank =
    let member : has_member (length run) rank (Alone rank) ≡ true = rw (eq-eqb rank rank refl) refl in
    record { member = member; ready = first_ready run rank (Alone rank) refl member }

first_has : (run : Run) (rank : ℕ) → rank < length run → (number : ℕ) (key : Key) → under number (comms_first rank).numbers ≡ Some key → Has run rank (preface_of run rank) key
first_has run rank within number key h =
    elim (cases_Bool (0 == number)) [
      | inl zeroth ↦ subst (λ (k : Key). Has run rank (preface_of run rank) k) (same_Some World key (rw zeroth at h)) (world_has run rank within)
      | inr later ↦ elim (cases_Bool (1 == number)) [
        | inl one ↦ subst (λ (k : Key). Has run rank (preface_of run rank) k) (same_Some (Alone rank) key (rw (later, one) at h)) (alone_has run rank)
        | inr others ↦ absurd (none-some key (rw (later, others) at h))
      ]
    ]

first_kept : (run : Run) (rank : ℕ) → rank < length run → KeptBy run rank (comms_first rank) (preface_of run rank)
first_kept run rank within = record {
  all = preface_holds run rank within;
  made = λ number made. let source = preface_made run rank within number made in
      record { key = source.key; is_number = source.is_number; used = used_no_call [] source.key source.no_call };
  ready = first_ready run rank;
  has = first_has run rank within;
  own_has = λ key h. absurd (none-some key h);
}

-- ---- Lists ----

whole_holds_by : (run : Run) (choice : Choice) (rank : ℕ) (o : Option Journal) → rank < length run → ((journal : Journal) → o ≡ Some journal → LinesFit rank journal.lines) → RecordsHold run rank (list_from run choice (progress_first run rank) (entries_in rank o))
whole_holds_by run choice rank None within fit =
    subst (λ (calls : List Call). AllHold (groups_of run) rank [] calls) (sym (plain_calls 0 (preface_of run rank))) (preface_holds run rank within)
whole_holds_by run choice rank (Some journal) within fit =
    walk run choice rank journal journal.lines within (fit journal refl) 2 (comms_first rank) (progress_first run rank)
    (subst (λ (calls : List Call). KeptBy run rank (comms_first rank) calls) (sym (plain_calls 0 (preface_of run rank))) (first_kept run rank within))
    (λ wave wave_is own_is line found. absurd (none-some wave wave_is))

hold_if : (run : Run) (rank : ℕ) (b : Bool) (first other : Listed) → RecordsHold run rank first → RecordsHold run rank other → RecordsHold run rank (if b then first else other)
hold_if run rank true first other is_first is_other = is_first
hold_if run rank false first other is_first is_other = is_other

cut_holds : (run : Run) (rank : ℕ) (it : Listed) → RecordsHold run rank it → RecordsHold run rank (cut it)
cut_holds run rank it all =
    hold_if run rank (nat_lt (length it.records) most_records) it
    (record { records = take (most_records - 1) it.records; end = Open; line = line_of (slice_get it.records (most_records - 1)); why = Some TooLong; active = it.active }) all
    (subst (λ (calls : List Call). AllHold (groups_of run) rank [] calls) (take-map (λ (one : Written). one.call) (most_records - 1) it.records)
    (hold_take (groups_of run) rank (most_records - 1) [] (map (λ one. one.call) it.records) all))

with_or_without : (run : Run) (rank : ℕ) (b : Bool) (it : Listed) → RecordsHold run rank it → RecordsHold run rank (without_journal b it)
with_or_without run rank true it all = all
with_or_without run rank false it all = all

list_holds : (run : Run) (choice : Choice) (rank : ℕ) → rank < length run → IsRead run → RecordsHold run rank (list_of run choice rank)
list_holds run choice rank within read =
    with_or_without run rank (is_none (journal_at run rank)) (cut (whole_list run choice rank))
    (cut_holds run rank (whole_list run choice rank)
    (whole_holds_by run choice rank (journal_at run rank) within (lines_of_rank read.first read.texts run read.is_read rank)))

-- ---- Calls ----

none_left : (groups : Groups) (rank : ℕ) (calls : List Call) (call : Call) → Passes groups calls call → Holds groups rank calls call → fault_of groups rank calls call ≡ None
unfolding fault_of
none_left groups rank calls call passes is =
    rw (passes.is_open, passes.has_room, passes.names.comm_is, is.comms, passes.names.peers_are, passes.afresh, passes.distinct, passes.active, is.afresh) refl

end_holds : (groups : Groups) (rank : ℕ) (calls : List Call) (call : Call) → ends_list call ≡ true → Holds groups rank calls call
end_holds groups rank calls Finalize h = record { comms = refl; afresh = refl }
end_holds groups rank calls Open h = record { comms = refl; afresh = refl }
end_holds groups rank calls _ h = absurd (false≢true h)

call_holds : (run : Run) (choice : Choice) (rank place : ℕ) (call : Call) → rank < length run → IsRead run → slice_get (calls_of (list_of run choice rank)) place ≡ Some call → Holds (groups_of run) rank (take place (calls_of (list_of run choice rank))) call
call_holds run choice rank place call within read h =
    let it = list_of run choice rank in
    let calls : List Call = map (λ one. one.call) it.records in
    ⊎_elim
    (λ before.
    let front : take place (calls ++ it.end ∷ []) ≡ take place calls = take-append-le place calls (it.end ∷ []) (omega (arith, before.0)) in
    rw front (hold_at (groups_of run) rank [] calls place call (list_holds run choice rank within read) before.1))
    (λ last.
    end_holds (groups_of run) rank (take place (calls ++ it.end ∷ [])) call
    (subst (λ (c : Call). ends_list c ≡ true) last.1 (list_of_fits run choice rank).1))
    (at_end calls it.end place call h)

-- ---- Recordings ----

own_list : (run : Run) (choice : Choice) (count first rank : ℕ) → rank < count → or_empty (map calls_of (map (list_of run choice) (range_with_len first count))) rank ≡ calls_of (list_of run choice (first + rank))
own_list run choice zero first rank within = absurd (omega (arith, within))
own_list run choice (suc count) first zero within = ap (λ (n : ℕ). calls_of (list_of run choice n)) (plus_zero first)
  where
    plus_zero : (n : ℕ) → n ≡ n + 0
    plus_zero n = omega arith
own_list run choice (suc count) first (suc rank) within =
    own_list run choice count (first + 1) rank (omega (arith, within)) ∙ ap (λ (n : ℕ). calls_of (list_of run choice n)) (one_more first rank)
  where
    one_more : (a b : ℕ) → (a + 1) + b ≡ a + suc b
    one_more a b = omega arith

pub list_at : (run : Run) (choice : Choice) (rank : ℕ) → rank < length run → or_empty (map calls_of (map (list_of run choice) (ranks_of run))) rank ≡ calls_of (list_of run choice rank)
list_at run choice rank within =
    own_list run choice (length run) 0 rank within ∙ ap (λ (n : ℕ). calls_of (list_of run choice n)) (zero_plus rank)
  where
    zero_plus : (n : ℕ) → 0 + n ≡ n
    zero_plus n = omega arith

pub many : (run : Run) (choice : Choice) → length (map calls_of (map (list_of run choice) (ranks_of run))) ≡ length run
many run choice = length-map (map (list_of run choice) (ranks_of run)) calls_of ∙ length-map (ranks_of run) (list_of run choice) ∙ length-range_with_len 0 (length run)

pub each_recording_is_lawful : EachRecordingIsLawful
unfolding recording_of
each_recording_is_lawful run choice read rank within place call h =
    let below : rank < length run = subst (λ (n : ℕ). rank < n) (many run choice) within in
    let same = list_at run choice rank below in
    let own : slice_get (calls_of (list_of run choice rank)) place ≡ Some call = rw same at h in
    rw same (none_left (groups_of run) rank (take place (calls_of (list_of run choice rank))) call
    (list_passes run choice rank place call own) (call_holds run choice rank place call below read own))
