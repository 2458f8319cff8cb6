-- Lawful recordings may be cut: what has no fault is right.
use Rattle.std.proofs.Common.{◌≡◌, ℕ, ◌<◌, ◌≤◌, ◌==◌, Bool, true, false, not, ◌&&◌, Option, Some, None, List, [], ◌∷◌, length, take, refl, sym, ap, ◌∙◌, ⊎_elim, ltb}
use Rattle.std.specs.List.{slice_get}
use Rattle.std.specs.Option.{option_map_or}
use Rattle.std.proofs.lemmas.Option.{none-some, slice_get_past}
use Rattle.std.proofs.lemmas.Bool.{cases_lt, false≢true, and_parts, not-true}
use Rattle.mpicall.specs.declared.call.Call.{Call}
use Rattle.mpicall.specs.declared.call.Call.TheVariants.{Dup, Split}
use Rattle.mpigroup.specs.Groups.{Groups}
use Rattle.callstore.specs.Limits.{most_calls}
use Rattle.callstore.specs.Recordings.{Lists, calls_of, has_end}
use Rattle.callstore.specs.Communicators.{comm_of, holds}
use Rattle.callstore.specs.Requests.{waits_for}
use Rattle.pairing.specs.Faults.{comm_exists, is_member, holds_comm, peers_exist, starts_afresh, are_distinct, waits_for_active, is_fresh_comm, makes_afresh, first_failed, fault_of}
use Rattle.pairing.specs.declared.fault.CallFault.TheVariants.{CallAfterFinalize, TooManyCalls, UnknownCommunicator, CommunicatorNotHeld, PeerOutOfGroup, RequestInUse, RequestRepeated, RequestNotActive, WrongNewCommunicator}
use Rattle.windows.specs.Clean.{makes_own, is_right}
use Rattle.windows.specs.Laws.{LawfulRecordingsAreRight}
use Rattle.windows.proofs.RightWindows.{right_from}

-- where no test has failed each one passes
record AllPass (a c d e f g i j : Bool) : Type 0 where
  goes_on : a ≡ true
  exists : c ≡ true
  held : d ≡ true
  peers : e ≡ true
  afresh : f ≡ true
  distinct : g ≡ true
  active : i ≡ true
  made : j ≡ true

all_pass : (a b c d e f g i j : Bool) → first_failed ((CallAfterFinalize, a) ∷ ((TooManyCalls, b) ∷ ((UnknownCommunicator, c) ∷ ((CommunicatorNotHeld, d) ∷ ((PeerOutOfGroup, e) ∷ ((RequestInUse, f) ∷ ((RequestRepeated, g) ∷ ((RequestNotActive, i) ∷ ((WrongNewCommunicator, j) ∷ []))))))))) ≡ None → AllPass a c d e f g i j
all_pass false b c d e f g i j h = absurd (none-some CallAfterFinalize (sym h))
all_pass true false c d e f g i j h = absurd (none-some TooManyCalls (sym h))
all_pass true true false d e f g i j h = absurd (none-some UnknownCommunicator (sym h))
all_pass true true true false e f g i j h = absurd (none-some CommunicatorNotHeld (sym h))
all_pass true true true true false f g i j h = absurd (none-some PeerOutOfGroup (sym h))
all_pass true true true true true false g i j h = absurd (none-some RequestInUse (sym h))
all_pass true true true true true true false i j h = absurd (none-some RequestRepeated (sym h))
all_pass true true true true true true true false j h = absurd (none-some RequestNotActive (sym h))
all_pass true true true true true true true true false h = absurd (none-some WrongNewCommunicator (sym h))
all_pass true true true true true true true true true h = record { goes_on = refl; exists = refl; held = refl; peers = refl; afresh = refl; distinct = refl; active = refl; made = refl }

passed : (groups : Groups) (rank : ℕ) (calls : List Call) (call : Call) → fault_of groups rank calls call ≡ None → AllPass (not (has_end calls)) (comm_exists groups call) (holds_comm groups rank calls call) (peers_exist groups call) (starts_afresh calls call) (are_distinct (waits_for call)) (waits_for_active calls call) (makes_afresh groups rank calls call)
unfolding fault_of
passed groups rank calls call h =
    all_pass (not (has_end calls)) (ltb (length calls) most_calls) (comm_exists groups call) (holds_comm groups rank calls call) (peers_exist groups call) (starts_afresh calls call) (are_distinct (waits_for call)) (waits_for_active calls call) (makes_afresh groups rank calls call) h

-- who holds a communicator is in its group
is_in_group : (groups : Groups) (rank : ℕ) (calls : List Call) (o : Option ℕ) → option_map_or (λ comm. is_member groups rank comm && holds calls comm) o true ≡ true → option_map_or (is_member groups rank) o true ≡ true
is_in_group groups rank calls None h = refl
is_in_group groups rank calls (Some comm) h = (and_parts (is_member groups rank comm) (holds calls comm) h).0

fresh_is_own : (groups : Groups) (rank : ℕ) (calls : List Call) (comm : ℕ) → is_fresh_comm groups rank calls comm ≡ true → (not (comm == 0) && is_member groups rank comm) ≡ true
fresh_is_own groups rank calls comm h = (and_parts (not (comm == 0) && is_member groups rank comm) (not (holds calls comm)) h).0

-- what it makes has the rank in its group
made_own : (groups : Groups) (rank : ℕ) (calls : List Call) (call : Call) → makes_afresh groups rank calls call ≡ true → makes_own groups rank call ≡ true
made_own groups rank calls (Dup comm new) h = fresh_is_own groups rank calls new h
made_own groups rank calls (Split comm None key None) h = refl
made_own groups rank calls (Split comm None key (Some new)) h = absurd (false≢true h)
made_own groups rank calls (Split comm (Some colour) key None) h = absurd (false≢true h)
made_own groups rank calls (Split comm (Some colour) key (Some new)) h = fresh_is_own groups rank calls new h
made_own groups rank calls _ h = refl

faultless_right : (groups : Groups) (rank : ℕ) (calls : List Call) (call : Call) → fault_of groups rank calls call ≡ None → is_right groups rank calls call ≡ true
faultless_right groups rank calls call h =
    let all = passed groups rank calls call h in
    right_from groups rank calls call
    (record {
      goes_on = not-true (has_end calls) all.goes_on;
      exists = all.exists;
      member = is_in_group groups rank calls (comm_of call) all.held;
      peers = all.peers;
      afresh = all.afresh;
      distinct = all.distinct;
      active = all.active;
      makes_it = made_own groups rank calls call all.made;
    })

pub lawful_recordings_are_right : LawfulRecordingsAreRight
lawful_recordings_are_right groups recording lawful closed of_world = record {
  of_world = of_world;
  is_closed = closed;
  are_right = λ rank place call there.
      ⊎_elim
      (λ (is_rank : rank < length recording). faultless_right groups rank (take place (calls_of recording rank)) call (lawful rank is_rank place call there))
      (λ (past : length recording ≤ rank).
      let none : calls_of recording rank ≡ [] = no_calls recording rank past in
      absurd (none-some call (sym (ap (λ (calls : List Call). slice_get calls place) none) ∙ there)))
      (cases_lt rank (length recording));
}
  where
    no_calls : (lists : Lists) (r : ℕ) → length lists ≤ r → calls_of lists r ≡ []
    no_calls lists r past = rw (slice_get_past lists r past) refl
