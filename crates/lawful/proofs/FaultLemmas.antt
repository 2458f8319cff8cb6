-- No call of a recording has another fault than one of the communicators that its rank holds.
use Rattle.std.proofs.Common.{◌≡◌, ◌⊎◌, inl, inr, ℕ, zero, suc, ◌-◌, ◌<◌, ◌≤◌, Bool, true, false, Some, List, [], ◌∷◌, ◌++◌, length, map, take, refl, sym, ap, subst, ⊎_elim, arith, append_assoc, append-nil}
use Rattle.std.specs.Prelude.{slice_get, nat_lt, is_none}
use Rattle.std.proofs.lemmas.Bool.{false≢true, cases_Bool, ltb-true, lt-ltb}
use Rattle.std.proofs.lemmas.List.{length-map, take-append-le}
use Rattle.std.proofs.lemmas.Option.{none-some, same_Some}
use Rattle.mpicall.specs.Ending.{ends_list}
use Rattle.mpicall.specs.declared.call.Call.{Call}
use Rattle.mpicall.specs.declared.call.Call.TheVariants.{Finalize, Open}
use Rattle.mpigroup.specs.Groups.{Groups, or_empty}
use Rattle.callstore.specs.Limits.{most_calls}
use Rattle.callstore.specs.Recordings.{has_end}
use Rattle.callstore.specs.Requests.{waits_for}
use Rattle.pairing.specs.Faults.{holds_comm, starts_afresh, are_distinct, waits_for_active, makes_afresh, first_failed, fault_of}
use Rattle.pairing.specs.declared.fault.CallFault.{CallFault}
use Rattle.pairing.specs.declared.fault.CallFault.TheVariants.{CallAfterFinalize, TooManyCalls, UnknownCommunicator, CommunicatorNotHeld, PeerOutOfGroup, RequestInUse, RequestRepeated, RequestNotActive, WrongNewCommunicator}
use Rattle.closing.specs.Entries.{Run, journal_at, ranks_of}
use Rattle.closing.specs.Entry.{Choice}
use Rattle.closing.specs.Numbers.{groups_of}
use Rattle.closing.specs.Recording.{Listed, most_records, whole_list, cut, without_journal, list_of, calls_of, recording_of}
use Rattle.lawful.specs.Closed.{NoOtherFault}
use Rattle.lawful.proofs.RequestLemmas.{Fits, AllFit}
use Rattle.lawful.proofs.ListLemmas.{fits_take, list_of_fits}
use Rattle.lawful.proofs.ClosedLemmas.{none_ends}
use Rattle.lawful.proofs.NameLemmas.{Names}
use Rattle.lawful.proofs.CallLemmas.{names_of_list, call_passes}

-- ---- The tests ----

few : (d j : Bool) (fault : CallFault) → first_failed ((CallAfterFinalize, true) ∷ ((TooManyCalls, true) ∷ ((UnknownCommunicator, true) ∷ ((CommunicatorNotHeld, d) ∷ ((PeerOutOfGroup, true) ∷ ((RequestInUse, true) ∷ ((RequestRepeated, true) ∷ ((RequestNotActive, true) ∷ ((WrongNewCommunicator, j) ∷ []))))))))) ≡ Some fault → (fault ≡ CommunicatorNotHeld) ⊎ (fault ≡ WrongNewCommunicator)
few false j fault h = inl (sym (same_Some CommunicatorNotHeld fault h))
few true false fault h = inr (sym (same_Some WrongNewCommunicator fault h))
few true true fault h = absurd (none-some fault h)

-- the tests of a call that pass
pub record Passes (groups : Groups) (calls : List Call) (call : Call) : Type 0 where
  pub is_open : has_end calls ≡ false
  pub has_room : nat_lt (length calls) most_calls ≡ true
  pub names : Names groups call
  pub afresh : starts_afresh calls call ≡ true
  pub distinct : are_distinct (waits_for call) ≡ true
  pub active : waits_for_active calls call ≡ true

two_left : (groups : Groups) (rank : ℕ) (calls : List Call) (call : Call) (fault : CallFault) → Passes groups calls call → fault_of groups rank calls call ≡ Some fault → (fault ≡ CommunicatorNotHeld) ⊎ (fault ≡ WrongNewCommunicator)
unfolding fault_of
two_left groups rank calls call fault passes h =
    few (holds_comm groups rank calls call) (makes_afresh groups rank calls call) fault
    (rw (passes.is_open, passes.has_room, passes.names.comm_is, passes.names.peers_are, passes.afresh, passes.distinct, passes.active) at h)

-- ---- Places ----

pub at_end : {A : Type 0} (xs : List A) (y : A) (i : ℕ) (x : A) → slice_get (xs ++ y ∷ []) i ≡ Some x → ((i < length xs) × (slice_get xs i ≡ Some x)) ⊎ ((i ≡ length xs) × (y ≡ x))
at_end [] y zero x h = inr (refl, same_Some y x h)
at_end [] y (suc i) x h = absurd (none-some x h)
at_end (z ∷ zs) y zero x h = inl (omega arith, h)
at_end (z ∷ zs) y (suc i) x h =
    ⊎_elim
    (λ before. inl (omega (arith, before.0), before.1))
    (λ last. inr (omega (arith, last.0), last.1))
    (at_end zs y i x h)

pub take_whole : {A : Type 0} (xs ys : List A) → take (length xs) (xs ++ ys) ≡ xs
take_whole [] ys = refl
take_whole (x ∷ xs) ys = ap (λ zs. x ∷ zs) (take_whole xs ys)

fits_at : (before calls : List Call) (place : ℕ) (call : Call) → AllFit before calls → slice_get calls place ≡ Some call → Fits (before ++ take place calls) call
fits_at before [] place call fit h = absurd (none-some call h)
fits_at before (one ∷ calls) zero call fit h =
    subst (λ (c : Call). Fits (before ++ []) c) (same_Some one call h) (subst (λ (b : List Call). Fits b one) (sym (append-nil before)) fit.0)
fits_at before (one ∷ calls) (suc place) call fit h =
    subst (λ (b : List Call). Fits b call) (append_assoc before (one ∷ []) (take place calls)) (fits_at (before ++ one ∷ []) calls place call fit.1 h)

take_most : {A : Type 0} (n : ℕ) (xs : List A) → length (take n xs) ≤ n
take_most zero xs = omega arith
take_most (suc n) [] = omega arith
take_most (suc n) (x ∷ xs) = omega (arith, take_most n xs)

-- ---- The length of a list ----

cut_short : (it : Listed) → length (cut it).records < most_records
cut_short it =
    ⊎_elim
    (λ (e : nat_lt (length it.records) most_records ≡ true). rw e (ltb-true (length it.records) most_records e))
    (λ (e : nat_lt (length it.records) most_records ≡ false). rw e (omega (arith, take_most (most_records - 1) it.records)))
    (cases_Bool (nat_lt (length it.records) most_records))

same_length : (b : Bool) (it : Listed) → length (without_journal b it).records ≡ length it.records
same_length true it = refl
same_length false it = refl

pub records_short : (run : Run) (choice : Choice) (rank : ℕ) → length (list_of run choice rank).records < most_records
records_short run choice rank =
    let whole = whole_list run choice rank in
    subst (λ (n : ℕ). n < most_records) (sym (same_length (is_none (journal_at run rank)) (cut whole))) (cut_short whole)

-- ---- Calls ----

end_afresh : (calls : List Call) (call : Call) → ends_list call ≡ true → starts_afresh calls call ≡ true
end_afresh calls Finalize h = refl
end_afresh calls Open h = refl
end_afresh calls _ h = absurd (false≢true h)

end_distinct : (call : Call) → ends_list call ≡ true → are_distinct (waits_for call) ≡ true
end_distinct Finalize h = refl
end_distinct Open h = refl
end_distinct _ h = absurd (false≢true h)

end_active : (calls : List Call) (call : Call) → ends_list call ≡ true → waits_for_active calls call ≡ true
end_active calls Finalize h = refl
end_active calls Open h = refl
end_active calls _ h = absurd (false≢true h)

pub list_passes : (run : Run) (choice : Choice) (rank place : ℕ) (call : Call) → slice_get (calls_of (list_of run choice rank)) place ≡ Some call → Passes (groups_of run) (take place (calls_of (list_of run choice rank))) call
list_passes run choice rank place call h =
    let it = list_of run choice rank in
    let calls : List Call = map (λ one. one.call) it.records in
    let fit = list_of_fits run choice rank in
    let names = call_passes (Names (groups_of run)) (calls_of it) place call (names_of_list run choice rank) h in
    let short = records_short run choice rank in
    let limit : most_calls ≡ most_records = refl in
    let same : length calls ≡ length it.records = length-map it.records (λ one. one.call) in
    ⊎_elim
    (λ before.
    let front : take place (calls ++ it.end ∷ []) ≡ take place calls = take-append-le place calls (it.end ∷ []) (omega (arith, before.0)) in
    let own = fits_at [] calls place call fit.0 before.1 in
    rw front (record {
      is_open = none_ends [] (take place calls) (fits_take place [] calls fit.0);
      has_room = lt-ltb (length (take place calls)) most_calls (omega (arith, take_most place calls, before.0, same, short, limit));
      names = names;
      afresh = own.afresh;
      distinct = own.distinct;
      active = own.active;
    }))
    (λ last.
    let front : take place (calls ++ it.end ∷ []) ≡ calls = rw last.0 (take_whole calls (it.end ∷ [])) in
    let ends : ends_list call ≡ true = subst (λ (c : Call). ends_list c ≡ true) last.1 fit.1 in
    rw front (record {
      is_open = none_ends [] calls fit.0;
      has_room = lt-ltb (length calls) most_calls (omega (arith, same, short, limit));
      names = names;
      afresh = end_afresh calls call ends;
      distinct = end_distinct call ends;
      active = end_active calls call ends;
    }))
    (at_end calls it.end place call h)

-- ---- Recordings ----

lists_at : (run : Run) (choice : Choice) (ranks : List ℕ) (rank : ℕ) → rank < length (map (list_of run choice) ranks) → (own : ℕ) × (or_empty (map calls_of (map (list_of run choice) ranks)) rank ≡ calls_of (list_of run choice own))
lists_at run choice [] rank within = absurd (omega (arith, within))
lists_at run choice (first ∷ ranks) zero within = (first, refl)
lists_at run choice (first ∷ ranks) (suc rank) within = lists_at run choice ranks rank (omega (arith, within))

pub no_other_fault : NoOtherFault
unfolding recording_of
no_other_fault run choice rank place call fault within h faulty =
    let own = lists_at run choice (ranks_of run) rank within in
    two_left (groups_of run) rank (take place (calls_of (list_of run choice own.0))) call fault
    (list_passes run choice own.0 place call (rw own.1 at h)) (rw own.1 at faulty)
