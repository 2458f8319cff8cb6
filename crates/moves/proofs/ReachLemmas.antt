-- Who still waits once one more call is reached, or once a call has arrived that its rank has not come to.
use Rattle.moves.specs.declared.reading.Reading.{Reading}
use Rattle.std.proofs.Common.{◌≡◌, ℕ, ◌+◌, ◌<◌, ◌≤◌, ◌≢◌, Bool, true, false, Option, Some, None, List, [], ◌∷◌, ◌++◌, length, get_or, refl, sym, ap, subst, ◌∙◌, ⊎_elim, inl, inr, arith, append-nil, get_or-set_same, get_or-set_other}
use Rattle.std.specs.Prelude.{◌⊎◌, if◌then◌else◌}
use Rattle.std.specs.List.{slice_get, list_all}
use Rattle.std.specs.Option.{option_map_or}
use Rattle.std.proofs.lemmas.List.Folds.{list_all-append}
use Rattle.std.proofs.lemmas.List.{length-append}
use Rattle.std.proofs.lemmas.Option.{slice_get_within}
use Rattle.std.proofs.lemmas.Bool.{and_parts, and_from, cases_eq, cases_Bool, false≢true, leb-true, le-leb}
use Rattle.mpicall.specs.declared.call.Call.{Call}
use Rattle.mpigroup.specs.Groups.{Groups}
use Rattle.callstore.specs.declared.envelope.Half.{Half}
use Rattle.callstore.specs.declared.envelope.Half.TheVariants.{Send as SendHalf, Recv as RecvHalf}
use Rattle.callstore.specs.declared.envelope.Message.{Message}
use Rattle.callstore.specs.Recordings.{Lists, calls_of, appended, GoesOn}
use Rattle.callstore.specs.Envelopes.{message_of, other_half, has_envelope, probed_message}
use Rattle.pairing.specs.Partners.{number_of, partner_of}
use Rattle.pairing.specs.Probed.{probed_envelope_at, probed_by, probed_of}
use Rattle.pairing.specs.Pairs.{completed_of}
use Rattle.callstore.specs.Waves.{does_join, wave_of}
use Rattle.callstore.proofs.OptionLemmas.{and_then_parts}
use Rattle.pairing.proofs.PartnerLemmas.{numbered_parts, partner_parts, partner_from, partners_are_mutual}
use Rattle.callstore.proofs.RecordingLemmas.{calls_of-appended, calls_of-appended_other}
use Rattle.callstore.proofs.RequestLemmas.{place_within}
use Rattle.callstore.proofs.WaveLemmas.{waves_stay, no_other_call_is_in_a_wave}
use Rattle.moves.specs.Runs.{State, moved, StandsNoLater}
use Rattle.moves.specs.declared.need.Need.{Need}
use Rattle.moves.specs.declared.need.Need.TheVariants.{At, Lacking}
use Rattle.moves.specs.declared.progress.Progress.{Progress}
use Rattle.moves.specs.Needs.{world_of, half_need, half_needs, probe_need, probe_needs, sends_freely, is_met}
use Rattle.moves.specs.inner.Waiting.{message_needs, message_needs_at, WaitsFor, IsAwaited, HasJoined, complete_of, AreWaves, IsNoException, NeedsPartner, NeedsWave, Rests}
use Rattle.moves.proofs.RunLemmas.{below_same}
use Rattle.moves.proofs.StayLemmas.{first_calls_stay, call_stays, wave_stays, start_stays, start_is_a_call, place_before}
use Rattle.moves.proofs.AnalyserLemmas.{goes_on_by}
use Rattle.moves.proofs.WaitLemmas.{start_is, index_parts}

-- The recording goes on and the stands rise so that no further call is reached but new ones.
pub record OnlyReaches (recording longer : Lists) (s t : State) (IsNew : ℕ → ℕ → Type 0) : Type 0 where
  pub goes_on : GoesOn recording longer
  pub no_lower : StandsNoLater s t
  pub only : (rank place : ℕ) → place < length (calls_of longer rank) → place ≤ get_or t rank 0 → ((place < length (calls_of recording rank)) × (place ≤ get_or s rank 0)) ⊎ IsNew rank place

-- the call of the rank waits for a new call
pub record IsWoken (groups : Groups) (longer : Lists) (IsNew : ℕ → ℕ → Type 0) (rank start : ℕ) : Type 0 where
  pub other : ℕ
  pub place : ℕ
  pub is_new : IsNew other place
  pub waits : WaitsFor groups longer other place rank start

-- a partner over the longer recording whose call the recording has is the partner there
partner_was_a_call : (groups : Groups) (recording longer : Lists) (rank place : ℕ) (half : Half) (partner there : ℕ) → GoesOn recording longer → place < length (calls_of recording rank) → there < length (calls_of recording partner) → partner_of groups longer rank place half ≡ Some (partner, there) → partner_of groups recording rank place half ≡ Some (partner, there)
partner_was_a_call groups recording longer rank place half partner there goes_on within is_call h =
    let parts = partner_parts groups longer rank place half partner there h in
    partner_from groups recording rank place half partner there
    (record {
      e = parts.e;
      own = record { call = parts.own.call; stands_there = sym (call_stays recording longer rank place goes_on within) ∙ parts.own.stands_there; envelope = parts.own.envelope };
      rank_there = parts.rank_there;
      place_there =
          rw (← first_calls_stay recording longer rank place goes_on (omega (arith, within)))
          (place_before (has_envelope groups partner (other_half half) parts.e) (calls_of recording partner) (goes_on.more partner) (number_of groups longer rank half parts.e place) there (rw (goes_on.goes_on partner) at parts.place_there) is_call);
    })

partner_is_a_call : (groups : Groups) (recording : Lists) (rank place : ℕ) (half : Half) (partner there : ℕ) → partner_of groups recording rank place half ≡ Some (partner, there) → there < length (calls_of recording partner)
partner_is_a_call groups recording rank place half partner there h =
    let parts = partner_parts groups recording rank place half partner there h in
    place_within (has_envelope groups partner (other_half half) parts.e) (calls_of recording partner) (number_of groups recording rank half parts.e place) there parts.place_there

-- a half whose need is met had what it needs, or a new call is its partner
half_was_met : (groups : Groups) (recording longer : Lists) (s t : State) (N : ℕ → ℕ → Type 0) (rank place : ℕ) (half : Half) (m : Message) (partner : Option (ℕ × ℕ)) → OnlyReaches recording longer s t N → place < length (calls_of recording rank) → partner_of groups longer rank place half ≡ partner → is_met t (option_map_or (λ partner. At partner.0 partner.1) partner (Lacking (world_of groups m.comm m.peer))) ≡ true → (is_met s (half_need groups recording rank place half m) ≡ true) ⊎ IsWoken groups longer N rank place
half_was_met groups recording longer s t N rank place half m None only within e met = absurd (false≢true met)
half_was_met groups recording longer s t N rank place half m (Some (partner, there)) only within e met =
    ⊎_elim
    (λ (old : (there < length (calls_of recording partner)) × (there ≤ get_or s partner 0)).
    let was = partner_was_a_call groups recording longer rank place half partner there only.goes_on within old.0 e in
    inl (rw was (le-leb there (get_or s partner 0) old.1)))
    (λ (new : N partner there). inr (record { other = partner; place = there; is_new = new; waits = inl (other_half half, partners_are_mutual groups longer rank place half partner there e) }))
    (only.only partner there (partner_is_a_call groups longer rank place half partner there e) (leb-true there (get_or t partner 0) met))

halves_were_met : (groups : Groups) (recording longer : Lists) (s t : State) (N : ℕ → ℕ → Type 0) (rank place : ℕ) (half : Half) → OnlyReaches recording longer s t N → place < length (calls_of recording rank) → (message : Option Message) → list_all (is_met t) (option_map_or (λ m. half_need groups longer rank place half m ∷ []) message []) ≡ true → (list_all (is_met s) (option_map_or (λ m. half_need groups recording rank place half m ∷ []) message []) ≡ true) ⊎ IsWoken groups longer N rank place
halves_were_met groups recording longer s t N rank place half only within None met = inl refl
halves_were_met groups recording longer s t N rank place half only within (Some m) met =
    ⊎_elim
    (λ (was : is_met s (half_need groups recording rank place half m) ≡ true). inl (and_from (is_met s (half_need groups recording rank place half m)) true was refl))
    (λ (woken : IsWoken groups longer N rank place). inr woken)
    (half_was_met groups recording longer s t N rank place half m (partner_of groups longer rank place half) only within refl (and_parts (is_met t (half_need groups longer rank place half m)) true met).0)

sends_were_met : (groups : Groups) (recording longer : Lists) (s t : State) (N : ℕ → ℕ → Type 0) (rank place : ℕ) (call : Call) → OnlyReaches recording longer s t N → place < length (calls_of recording rank) → (buffered : Bool) → list_all (is_met t) (if buffered then [] else half_needs groups longer rank place SendHalf call) ≡ true → (list_all (is_met s) (if buffered then [] else half_needs groups recording rank place SendHalf call) ≡ true) ⊎ IsWoken groups longer N rank place
sends_were_met groups recording longer s t N rank place call only within true met = inl refl
sends_were_met groups recording longer s t N rank place call only within false met = halves_were_met groups recording longer s t N rank place SendHalf only within (message_of SendHalf call) met

-- a send that a probe sees over the longer recording, and that the recording has, it sees there
seen_was_a_call : (groups : Groups) (recording longer : Lists) (rank place sender there : ℕ) → GoesOn recording longer → place < length (calls_of recording rank) → there < length (calls_of recording sender) → probed_of groups longer rank place ≡ Some (sender, there) → probed_of groups recording rank place ≡ Some (sender, there)
seen_was_a_call groups recording longer rank place sender there goes_on within is_call h =
    let parts = and_then_parts (probed_by groups longer rank place) (probed_envelope_at groups longer rank place) (sender, there) h in
    let still : probed_envelope_at groups recording rank place ≡ Some parts.0 = rw (← call_stays recording longer rank place goes_on within) parts.1 in
    let from = numbered_parts groups longer SendHalf parts.0 (number_of groups longer rank RecvHalf parts.0 place) sender there parts.2 in
    let number : number_of groups longer rank RecvHalf parts.0 place ≡ number_of groups recording rank RecvHalf parts.0 place = rw (first_calls_stay recording longer rank place goes_on (omega (arith, within))) refl in
    let was = place_before (has_envelope groups sender SendHalf parts.0) (calls_of recording sender) (goes_on.more sender) (number_of groups longer rank RecvHalf parts.0 place) there (rw (goes_on.goes_on sender) at from.1) is_call in
    rw (still, from.0, rw number at was) refl

seen_is_a_call : (groups : Groups) (recording : Lists) (rank place sender there : ℕ) → probed_of groups recording rank place ≡ Some (sender, there) → there < length (calls_of recording sender)
seen_is_a_call groups recording rank place sender there h =
    let parts = and_then_parts (probed_by groups recording rank place) (probed_envelope_at groups recording rank place) (sender, there) h in
    let from = numbered_parts groups recording SendHalf parts.0 (number_of groups recording rank RecvHalf parts.0 place) sender there parts.2 in
    place_within (has_envelope groups sender SendHalf parts.0) (calls_of recording sender) (number_of groups recording rank RecvHalf parts.0 place) there from.1

-- a probe whose need is met had what it needs, or it sees a new call
probe_was_met : (groups : Groups) (recording longer : Lists) (s t : State) (N : ℕ → ℕ → Type 0) (rank place : ℕ) (m : Message) (sent : Option (ℕ × ℕ)) → OnlyReaches recording longer s t N → place < length (calls_of recording rank) → probed_of groups longer rank place ≡ sent → is_met t (option_map_or (λ sent. At sent.0 sent.1) sent (Lacking (world_of groups m.comm m.peer))) ≡ true → (is_met s (probe_need groups recording rank place m) ≡ true) ⊎ IsWoken groups longer N rank place
probe_was_met groups recording longer s t N rank place m None only within e met = absurd (false≢true met)
probe_was_met groups recording longer s t N rank place m (Some (sender, there)) only within e met =
    ⊎_elim
    (λ (old : (there < length (calls_of recording sender)) × (there ≤ get_or s sender 0)).
    let was = seen_was_a_call groups recording longer rank place sender there only.goes_on within old.0 e in
    inl (rw was (le-leb there (get_or s sender 0) old.1)))
    (λ (new : N sender there). inr (record { other = sender; place = there; is_new = new; waits = inr e }))
    (only.only sender there (seen_is_a_call groups longer rank place sender there e) (leb-true there (get_or t sender 0) met))

probes_were_met : (groups : Groups) (recording longer : Lists) (s t : State) (N : ℕ → ℕ → Type 0) (rank place : ℕ) → OnlyReaches recording longer s t N → place < length (calls_of recording rank) → (message : Option Message) → list_all (is_met t) (option_map_or (λ m. probe_need groups longer rank place m ∷ []) message []) ≡ true → (list_all (is_met s) (option_map_or (λ m. probe_need groups recording rank place m ∷ []) message []) ≡ true) ⊎ IsWoken groups longer N rank place
probes_were_met groups recording longer s t N rank place only within None met = inl refl
probes_were_met groups recording longer s t N rank place only within (Some m) met =
    ⊎_elim
    (λ (was : is_met s (probe_need groups recording rank place m) ≡ true). inl (and_from (is_met s (probe_need groups recording rank place m)) true was refl))
    (λ (woken : IsWoken groups longer N rank place). inr woken)
    (probe_was_met groups recording longer s t N rank place m (probed_of groups longer rank place) only within refl (and_parts (is_met t (probe_need groups longer rank place m)) true met).0)

-- needs in a row that are met were met, or a new call is waited for
both_were_met : (W : Type 0) (s t : State) (first later_first more later_more : List Need) → (list_all (is_met t) later_first ≡ true → (list_all (is_met s) first ≡ true) ⊎ W) → (list_all (is_met t) later_more ≡ true → (list_all (is_met s) more ≡ true) ⊎ W) → list_all (is_met t) (later_first ++ later_more) ≡ true → (list_all (is_met s) (first ++ more) ≡ true) ⊎ W
both_were_met W s t first later_first more later_more first_was more_was met =
    let both = and_parts (list_all (is_met t) later_first) (list_all (is_met t) later_more) (sym (list_all-append (is_met t) later_first later_more) ∙ met) in
    ⊎_elim
    (λ (one : list_all (is_met s) first ≡ true).
    ⊎_elim
    (λ (other : list_all (is_met s) more ≡ true). inl (list_all-append (is_met s) first more ∙ and_from (list_all (is_met s) first) (list_all (is_met s) more) one other))
    (λ (woken : W). inr woken)
    (more_was both.1))
    (λ (woken : W). inr woken)
    (first_was both.0)

messages_were_met : (reading : Reading) (groups : Groups) (recording longer : Lists) (s t : State) (N : ℕ → ℕ → Type 0) (rank place : ℕ) (call : Call) → OnlyReaches recording longer s t N → place < length (calls_of recording rank) → list_all (is_met t) (message_needs reading groups longer rank place call) ≡ true → (list_all (is_met s) (message_needs reading groups recording rank place call) ≡ true) ⊎ IsWoken groups longer N rank place
messages_were_met reading groups recording longer s t N rank place call only within met =
    let sends : Lists → List Need = λ r. if sends_freely reading call then [] else half_needs groups r rank place SendHalf call in
    let receives : Lists → List Need = λ r. half_needs groups r rank place RecvHalf call in
    both_were_met (IsWoken groups longer N rank place) s t (sends recording ++ receives recording) (sends longer ++ receives longer) (probe_needs groups recording rank place call) (probe_needs groups longer rank place call)
    (both_were_met (IsWoken groups longer N rank place) s t (sends recording) (sends longer) (receives recording) (receives longer)
    (sends_were_met groups recording longer s t N rank place call only within (sends_freely reading call))
    (halves_were_met groups recording longer s t N rank place RecvHalf only within (message_of RecvHalf call)))
    (probes_were_met groups recording longer s t N rank place only within (probed_message call))
    met

messages_there : (reading : Reading) (groups : Groups) (recording longer : Lists) (s t : State) (N : ℕ → ℕ → Type 0) (rank place : ℕ) → OnlyReaches recording longer s t N → place < length (calls_of recording rank) → (there : Option Call) → list_all (is_met t) (option_map_or (message_needs reading groups longer rank place) there []) ≡ true → (list_all (is_met s) (option_map_or (message_needs reading groups recording rank place) there []) ≡ true) ⊎ IsWoken groups longer N rank place
messages_there reading groups recording longer s t N rank place only within None met = inl refl
messages_there reading groups recording longer s t N rank place only within (Some call) met = messages_were_met reading groups recording longer s t N rank place call only within met

still_unmet : (reading : Reading) (groups : Groups) (recording longer : Lists) (s t : State) (N : ℕ → ℕ → Type 0) (rank place : ℕ) → OnlyReaches recording longer s t N → place < length (calls_of recording rank) → list_all (is_met s) (message_needs_at reading groups recording rank place) ≡ false → (list_all (is_met t) (message_needs_at reading groups longer rank place) ≡ false) ⊎ IsWoken groups longer N rank place
still_unmet reading groups recording longer s t N rank place only within unmet =
    ⊎_elim
    (λ (met : list_all (is_met t) (message_needs_at reading groups longer rank place) ≡ true).
    ⊎_elim
    (λ (was : list_all (is_met s) (message_needs_at reading groups recording rank place) ≡ true). absurd (false≢true (sym unmet ∙ was)))
    (λ (woken : IsWoken groups longer N rank place). inr woken)
    (messages_there reading groups recording longer s t N rank place only within (slice_get (calls_of recording rank) place)
    (rw (call_stays recording longer rank place only.goes_on within) at met)))
    (λ (still : list_all (is_met t) (message_needs_at reading groups longer rank place) ≡ false). inl still)
    (cases_Bool (list_all (is_met t) (message_needs_at reading groups longer rank place)))

-- an operation that is awaited is a call of the rank, and stays awaited
pub awaited_call : (recording : Lists) (rank place start : ℕ) → IsAwaited recording rank place start → start < length (calls_of recording rank)
awaited_call recording rank place start h =
    let here = slice_get_within (calls_of recording rank) place h.call h.is_present in
    ⊎_elim
    (λ (own : start ≡ place). omega (arith, here))
    (λ (completed : (index : ℕ) × (completed_of recording rank place index ≡ Some start)).
    let parts = index_parts recording rank place completed.0 start h.call h.is_present completed.1 in
    start_is_a_call recording rank place parts.0 start parts.2)
    h.which

pub awaited_place : (recording : Lists) (rank place start : ℕ) → IsAwaited recording rank place start → place < length (calls_of recording rank)
awaited_place recording rank place start h = slice_get_within (calls_of recording rank) place h.call h.is_present

awaited_on : (recording longer : Lists) (rank place start : ℕ) → GoesOn recording longer → IsAwaited recording rank place start → IsAwaited longer rank place start
awaited_on recording longer rank place start goes_on h =
    let within = awaited_place recording rank place start h in
    let there : slice_get (calls_of longer rank) place ≡ Some h.call = call_stays recording longer rank place goes_on within ∙ h.is_present in
    record {
      call = h.call;
      is_present = there;
      starts_none = h.starts_none;
      which =
          ⊎_elim
          (λ (own : start ≡ place). inl own)
          (λ (completed : (index : ℕ) × (completed_of recording rank place index ≡ Some start)).
          let parts = index_parts recording rank place completed.0 start h.call h.is_present completed.1 in
          inr (completed.0, start_is longer rank place completed.0 parts.0 h.call there parts.1 ∙ start_stays recording longer rank place parts.0 goes_on (omega (arith, within)) ∙ parts.2))
          h.which;
    }

pub partner_waits_on : (reading : Reading) (groups : Groups) (recording longer : Lists) (s t : State) (N : ℕ → ℕ → Type 0) (rank start : ℕ) → OnlyReaches recording longer s t N → get_or t rank 0 ≡ get_or s rank 0 → NeedsPartner reading groups recording s rank start → NeedsPartner reading groups longer t rank start ⊎ IsWoken groups longer N rank start
partner_waits_on reading groups recording longer s t N rank start only same h =
    ⊎_elim
    (λ (still : list_all (is_met t) (message_needs_at reading groups longer rank start) ≡ false).
    inl (record {
      is_awaited = subst (λ (place : ℕ). IsAwaited longer rank place start) (sym same) (awaited_on recording longer rank (get_or s rank 0) start only.goes_on h.is_awaited);
      is_unmet = still;
    }))
    (λ (woken : IsWoken groups longer N rank start). inr woken)
    (still_unmet reading groups recording longer s t N rank start only (awaited_call recording rank (get_or s rank 0) start h.is_awaited) h.is_unmet)

pub wave_waits_on : (groups : Groups) (recording longer : Lists) (s t : State) (progress : Progress) (rank comm : ℕ) → GoesOn recording longer → get_or t rank 0 ≡ get_or s rank 0 → NeedsWave groups recording s progress rank comm → NeedsWave groups longer t progress rank comm
wave_waits_on groups recording longer s t progress rank comm goes_on same h =
    let within = awaited_call recording rank (get_or s rank 0) h.start h.is_awaited in
    record {
      start = h.start;
      is_awaited = subst (λ (place : ℕ). IsAwaited longer rank place h.start) (sym same) (awaited_on recording longer rank (get_or s rank 0) h.start goes_on h.is_awaited);
      is_joined = rw (wave_stays recording longer rank h.start goes_on within) h.is_joined;
    }

-- members stay in their waves, and none comes into one but by a new call
joined_on : (recording longer : Lists) (s t : State) (comm wave member : ℕ) → GoesOn recording longer → StandsNoLater s t → HasJoined recording s comm wave member → HasJoined longer t comm wave member
joined_on recording longer s t comm wave member goes_on no_lower h =
    (h.0, waves_stay recording longer comm wave member h.0 goes_on h.1, omega (arith, h.2, no_lower.stands member))

pub waves_on : (groups : Groups) (recording longer : Lists) (s t : State) (progress : Progress) (N : ℕ → ℕ → Type 0) → OnlyReaches recording longer s t N → AreWaves groups recording s progress IsNoException → AreWaves groups longer t progress (λ comm member. (place : ℕ) × (N member place) × (wave_of longer member place ≡ Some (comm, complete_of progress comm)))
waves_on groups recording longer s t progress N only h = record {
  completes = h.completes;
  meets = h.meets;
  done = λ comm wave g member less is. joined_on recording longer s t comm wave member only.goes_on only.no_lower (h.done comm wave g member less is);
  met = λ comm g member less is. joined_on recording longer s t comm (complete_of progress comm) member only.goes_on only.no_lower (h.met comm g member less is);
  next = λ comm some.
      let next = h.next comm some in
      (next.0, next.1, λ joined. reached comm next.0 next.2 joined);
}
  where
    reached : (comm member : ℕ) → (HasJoined recording s comm (complete_of progress comm) member → ⊥) → HasJoined longer t comm (complete_of progress comm) member → (place : ℕ) × (N member place) × (wave_of longer member place ≡ Some (comm, complete_of progress comm))
    reached comm member none joined =
        ⊎_elim
        (λ (old : (joined.0 < length (calls_of recording member)) × (joined.0 ≤ get_or s member 0)).
        absurd (none (joined.0, place_before (does_join comm) (calls_of recording member) (only.goes_on.more member) (complete_of progress comm) joined.0 (rw (only.goes_on.goes_on member) at joined.1) old.0, old.1)))
        (λ (new : N member joined.0). (joined.0, new, no_other_call_is_in_a_wave longer member joined.0 comm (complete_of progress comm) joined.1))
        (only.only member joined.0 (place_within (does_join comm) (calls_of longer member) (complete_of progress comm) joined.0 joined.1) joined.2)

-- a rank that rests goes on to, unless its next call has come
pub rests_on : (recording longer : Lists) (s t : State) (rank : ℕ) → get_or t rank 0 ≡ get_or s rank 0 → slice_get (calls_of longer rank) (get_or s rank 0) ≡ slice_get (calls_of recording rank) (get_or s rank 0) → Rests recording s rank → Rests longer t rank
rests_on recording longer s t rank same there h = rw (same, there) h

-- the ways in which calls come to be reached
same_goes_on : (recording : Lists) → GoesOn recording recording
same_goes_on recording = record { same_ranks = refl; more = λ rank. []; goes_on = λ rank. sym (append-nil (calls_of recording rank)) }

pub moved_other : (s : State) (rank other : ℕ) → other ≢ rank → get_or (moved s rank) other 0 ≡ get_or s other 0
moved_other s rank other differs = get_or-set_other s rank other (get_or s rank 0 + 1) 0 differs

pub moved_own : (s : State) (rank : ℕ) → rank < length s → get_or (moved s rank) rank 0 ≡ get_or s rank 0 + 1
moved_own s rank is_rank = get_or-set_same s rank (get_or s rank 0 + 1) 0 is_rank

pub moved_on : (recording : Lists) (s : State) (rank : ℕ) → rank < length s → StandsNoLater s (moved s rank) → OnlyReaches recording recording s (moved s rank) (λ other place. (other ≡ rank) × (place ≡ get_or s rank 0 + 1))
moved_on recording s rank is_rank later = record {
  goes_on = same_goes_on recording;
  no_lower = later;
  only = λ other place within reached.
      ⊎_elim
      (λ (own : other ≡ rank).
      let reached' : place ≤ get_or s rank 0 + 1 = omega (arith, reached, ap (λ (k : ℕ). get_or (moved s rank) k 0) own, moved_own s rank is_rank) in
      ⊎_elim
      (λ (new : place ≡ get_or s rank 0 + 1). inr (own, new))
      (λ (old : place ≢ get_or s rank 0 + 1). inl (within, omega (arith, reached', ap (λ (k : ℕ). get_or s k 0) own)))
      (cases_eq place (get_or s rank 0 + 1)))
      (λ (differs : other ≢ rank). inl (within, omega (arith, reached, moved_other s rank other differs)))
      (cases_eq other rank);
}

pub appended_length : (recording : Lists) (rank : ℕ) (call : Call) → rank < length recording → length (calls_of (appended recording rank call) rank) ≡ length (calls_of recording rank) + 1
appended_length recording rank call is_rank = ap (length {A = Call}) (calls_of-appended recording rank call is_rank) ∙ length-append (calls_of recording rank) (call ∷ [])

pub arrived_there : (recording : Lists) (s : State) (rank : ℕ) (call : Call) → rank < length recording → OnlyReaches recording (appended recording rank call) s s (λ other place. (other ≡ rank) × (place ≡ length (calls_of recording rank)))
arrived_there recording s rank call is_rank = record {
  goes_on = goes_on_by recording rank call is_rank;
  no_lower = below_same s;
  only = λ other place within reached.
      ⊎_elim
      (λ (own : other ≡ rank).
      let within' : place < length (calls_of recording rank) + 1 = omega (arith, within, ap (λ (k : ℕ). length (calls_of (appended recording rank call) k)) own, appended_length recording rank call is_rank) in
      ⊎_elim
      (λ (new : place ≡ length (calls_of recording rank)). inr (own, new))
      (λ (old : place ≢ length (calls_of recording rank)). inl (omega (arith, within', ap (λ (k : ℕ). length (calls_of recording k)) own), reached))
      (cases_eq place (length (calls_of recording rank))))
      (λ (differs : other ≢ rank). inl (omega (arith, within, ap (length {A = Call}) (calls_of-appended_other recording rank other call differs)), reached))
      (cases_eq other rank);
}

pub arrived_ahead : (recording : Lists) (s : State) (rank : ℕ) (call : Call) → rank < length recording → get_or s rank 0 < length (calls_of recording rank) → OnlyReaches recording (appended recording rank call) s s (λ other place. ⊥)
arrived_ahead recording s rank call is_rank behind = record {
  goes_on = goes_on_by recording rank call is_rank;
  no_lower = below_same s;
  only = λ other place within reached.
      ⊎_elim
      (λ (own : other ≡ rank). inl (omega (arith, reached, behind, ap (λ (k : ℕ). get_or s k 0) own, ap (λ (k : ℕ). length (calls_of recording k)) own), reached))
      (λ (differs : other ≢ rank). inl (omega (arith, within, ap (length {A = Call}) (calls_of-appended_other recording rank other call differs)), reached))
      (cases_eq other rank);
}
