-- From what is known of a call's needs over one recording, by one reading, to its needs over another, by one that
-- lets no less go.
use Rattle.moves.specs.declared.reading.Reading.{Reading}
use Rattle.std.proofs.Common.{◌≡◌, ℕ, ◌<◌, ◌≤◌, Bool, true, false, Option, Some, None, unwrap_or, is_some, if◌then◌else◌, List, [], ◌∷◌, ◌++◌, map, flat_map, take, refl, sym, ap, subst, ◌∙◌, arith}
use Rattle.std.specs.List.{slice_get, list_all}
use Rattle.std.specs.Option.{option_map, option_map_or}
use Rattle.std.proofs.lemmas.List.Folds.{list_all-append}
use Rattle.std.proofs.lemmas.Bool.{and_parts, false≢true}
use Rattle.mpicall.specs.declared.call.Call.{Call}
use Rattle.mpicall.specs.declared.call.Call.TheVariants.{Open}
use Rattle.mpigroup.specs.Groups.{Groups, group_of, group_rank_of}
use Rattle.callstore.specs.declared.envelope.Envelope.{Envelope}
use Rattle.callstore.specs.declared.envelope.Half.{Half}
use Rattle.callstore.specs.declared.envelope.Half.TheVariants.{Send as SendHalf, Recv as RecvHalf}
use Rattle.callstore.specs.declared.envelope.Message.{Message}
use Rattle.callstore.specs.Recordings.{Lists, calls_of}
use Rattle.callstore.specs.Places.{places}
use Rattle.callstore.specs.Envelopes.{message_of, other_half, envelope_by, envelope_of, rank_of_half, has_envelope, probed_message}
use Rattle.pairing.specs.Partners.{number_of}
use Rattle.pairing.specs.Probed.{probed_envelope}
use Rattle.callstore.specs.Requests.{starts, completes, started_in, started_before}
use Rattle.callstore.specs.Waves.{does_join, wave_of}
use Rattle.callstore.proofs.OptionLemmas.{map_parts}
use Rattle.moves.specs.declared.need.Need.{Need}
use Rattle.moves.specs.declared.need.Need.TheVariants.{At, Lacking}
use Rattle.moves.specs.Needs.{world_of, half_need, half_needs, probe_need, probe_needs, member_need, wave_needs, sends_freely, operation_needs, operation_needs_at, request_needs, needs_of_call}

-- the need for the place with a number of a rank's list at which a test passes
abbrev pub nth_need : Lists → (Call → Bool) → ℕ → ℕ → Need
nth_need recording test rank number = option_map_or (At rank) (slice_get (places test (calls_of recording rank)) number) (Lacking rank)

-- what is so of such a need over the first recording is so, in another way, over the second, and so with one that is
-- lacking
pub record Onto (first second : Lists) (p q : Need → Bool) : Type 0 where
  pub nth : (test : Call → Bool) (rank number : ℕ) → test Open ≡ false → p (nth_need first test rank number) ≡ true → q (nth_need second test rank number) ≡ true
  pub none : (rank : ℕ) → p (Lacking rank) ≡ true → q (Lacking rank) ≡ true

-- the rank's first calls are the same in both
pub record Same (first second : Lists) (rank calls : ℕ) : Type 0 where
  pub call : (place : ℕ) → place < calls → slice_get (calls_of second rank) place ≡ slice_get (calls_of first rank) place
  pub front : (place : ℕ) → place ≤ calls → take place (calls_of second rank) ≡ take place (calls_of first rank)

pub same_self : (recording : Lists) (rank calls : ℕ) → Same recording recording rank calls
same_self recording rank calls = record { call = λ place within. refl; front = λ place within. refl }

abbrev On : (Need → Bool) → (Need → Bool) → List Need → List Need → Type 0
On p q needs later = list_all p needs ≡ true → list_all q later ≡ true

one_on : (p q : Need → Bool) (need later : Need) → (p need ≡ true → q later ≡ true) → On p q (need ∷ []) (later ∷ [])
one_on p q need later on h = rw (on (and_parts (p need) true h).0) refl

both_on : (p q : Need → Bool) (needs more later later_more : List Need) → On p q needs later → On p q more later_more → On p q (needs ++ more) (later ++ later_more)
both_on p q needs more later later_more on more_on h =
    let both = and_parts (list_all p needs) (list_all p more) (rw list_all-append at h) in
    rw (list_all-append q later later_more, on both.0, more_on both.1) refl

each_on : {A : Type 0} (p q : Need → Bool) (need later : A → Need) → ((x : A) → p (need x) ≡ true → q (later x) ≡ true) → (xs : List A) → On p q (map need xs) (map later xs)
each_on p q need later on [] h = refl
each_on p q need later on (x ∷ xs) h =
    let both = and_parts (p (need x)) (list_all p (map need xs)) h in
    rw (on x both.0, each_on p q need later on xs both.1) refl

all_on : {A : Type 0} (p q : Need → Bool) (needs later : A → List Need) → ((x : A) → On p q (needs x) (later x)) → (xs : List A) → On p q (flat_map needs xs) (flat_map later xs)
all_on p q needs later on [] h = refl
all_on p q needs later on (x ∷ xs) h =
    both_on p q (needs x) (flat_map needs xs) (later x) (flat_map later xs) (on x) (all_on p q needs later on xs) h

-- the peer of a message is the rank of its other half
peer_rank : (groups : Groups) (rank : ℕ) (half : Half) (call : Call) (m : Message) (e : Envelope) (k : ℕ) → message_of half call ≡ Some m → envelope_of groups rank half call ≡ Some e → rank_of_half groups (other_half half) e ≡ Some k → world_of groups m.comm m.peer ≡ k
peer_rank groups rank half call m e k sends has there =
    let own : option_map (envelope_by half m) (group_rank_of groups m.comm rank) ≡ Some e = rw sends at has in
    let parts = map_parts (envelope_by half m) (group_rank_of groups m.comm rank) e own in
    by_half half parts.0 (subst (λ (x : Envelope). rank_of_half groups (other_half half) x ≡ Some k) (sym parts.2) there)
  where
    by_half : (h : Half) (g : ℕ) → rank_of_half groups (other_half h) (envelope_by h m g) ≡ Some k → world_of groups m.comm m.peer ≡ k
    by_half SendHalf g found = ap (λ (o : Option ℕ). unwrap_or o m.peer) found
    by_half RecvHalf g found = ap (λ (o : Option ℕ). unwrap_or o m.peer) found

fails_last : (groups : Groups) (k : ℕ) (half : Half) (e : Envelope) → has_envelope groups k half e Open ≡ false
fails_last groups k SendHalf e = refl
fails_last groups k RecvHalf e = refl

-- a message's need, by the rank of its other half
as_nth : (k w : ℕ) (o : Option ℕ) → w ≡ k → option_map_or (λ partner. At partner.0 partner.1) (option_map {U = ℕ × ℕ} (λ place. (k, place)) o) (Lacking w) ≡ option_map_or (At k) o (Lacking k)
as_nth k w None same = rw same refl
as_nth k w (Some place) same = refl

half_is : (groups : Groups) (recording : Lists) (rank place : ℕ) (half : Half) (call : Call) (m : Message) (e : Envelope) (k number : ℕ) → slice_get (calls_of recording rank) place ≡ Some call → message_of half call ≡ Some m → envelope_of groups rank half call ≡ Some e → rank_of_half groups (other_half half) e ≡ Some k → number_of groups recording rank half e place ≡ number → half_need groups recording rank place half m ≡ nth_need recording (has_envelope groups k (other_half half) e) k number
half_is groups recording rank place half call m e k number present sends has there counts =
    let peer = peer_rank groups rank half call m e k sends has there in
    rw (present, has, there, counts) (as_nth k (world_of groups m.comm m.peer) _ peer)

half_none : (groups : Groups) (recording : Lists) (rank place : ℕ) (half : Half) (call : Call) (m : Message) → slice_get (calls_of recording rank) place ≡ Some call → envelope_of groups rank half call ≡ None → half_need groups recording rank place half m ≡ Lacking (world_of groups m.comm m.peer)
half_none groups recording rank place half call m present none = rw (present, none) refl

half_nobody : (groups : Groups) (recording : Lists) (rank place : ℕ) (half : Half) (call : Call) (m : Message) (e : Envelope) → slice_get (calls_of recording rank) place ≡ Some call → envelope_of groups rank half call ≡ Some e → rank_of_half groups (other_half half) e ≡ None → half_need groups recording rank place half m ≡ Lacking (world_of groups m.comm m.peer)
half_nobody groups recording rank place half call m e present has none = rw (present, has, none) refl

-- the source of the message that a probe looks for is the rank that sends
source_rank : (groups : Groups) (rank : ℕ) (call : Call) (m : Message) (e : Envelope) (k : ℕ) → probed_message call ≡ Some m → probed_envelope groups rank call ≡ Some e → rank_of_half groups SendHalf e ≡ Some k → world_of groups m.comm m.peer ≡ k
source_rank groups rank call m e k probes has there =
    let own : option_map (envelope_by RecvHalf m) (group_rank_of groups m.comm rank) ≡ Some e = rw probes at has in
    let parts = map_parts (envelope_by RecvHalf m) (group_rank_of groups m.comm rank) e own in
    let from : rank_of_half groups SendHalf (envelope_by RecvHalf m parts.0) ≡ Some k = subst (λ (x : Envelope). rank_of_half groups SendHalf x ≡ Some k) (sym parts.2) there in
    ap (λ (o : Option ℕ). unwrap_or o m.peer) from

probe_is : (groups : Groups) (recording : Lists) (rank place : ℕ) (call : Call) (m : Message) (e : Envelope) (k number : ℕ) → slice_get (calls_of recording rank) place ≡ Some call → probed_message call ≡ Some m → probed_envelope groups rank call ≡ Some e → rank_of_half groups SendHalf e ≡ Some k → number_of groups recording rank RecvHalf e place ≡ number → probe_need groups recording rank place m ≡ nth_need recording (has_envelope groups k SendHalf e) k number
probe_is groups recording rank place call m e k number present probes has there counts =
    let source = source_rank groups rank call m e k probes has there in
    rw (present, has, there, counts) (as_nth k (world_of groups m.comm m.peer) _ source)

probe_none : (groups : Groups) (recording : Lists) (rank place : ℕ) (call : Call) (m : Message) → slice_get (calls_of recording rank) place ≡ Some call → probed_envelope groups rank call ≡ None → probe_need groups recording rank place m ≡ Lacking (world_of groups m.comm m.peer)
probe_none groups recording rank place call m present none = rw (present, none) refl

probe_nobody : (groups : Groups) (recording : Lists) (rank place : ℕ) (call : Call) (m : Message) (e : Envelope) → slice_get (calls_of recording rank) place ≡ Some call → probed_envelope groups rank call ≡ Some e → rank_of_half groups SendHalf e ≡ None → probe_need groups recording rank place m ≡ Lacking (world_of groups m.comm m.peer)
probe_nobody groups recording rank place call m e present has none = rw (present, has, none) refl

module _ (reading other : Reading) (groups : Groups) (first second : Lists) (p q : Need → Bool) (rank calls : ℕ) (freely : (call : Call) → sends_freely reading call ≡ true → sends_freely other call ≡ true) (onto : Onto first second p q) (same : Same first second rank calls) where
  half_on : (place : ℕ) (half : Half) (call : Call) (m : Message) → place < calls → slice_get (calls_of first rank) place ≡ Some call → message_of half call ≡ Some m → p (half_need groups first rank place half m) ≡ true → q (half_need groups second rank place half m) ≡ true
  half_on place half call m within present sends h = by_envelope (envelope_of groups rank half call) refl
    where
      there : slice_get (calls_of second rank) place ≡ Some call
      there = same.call place within ∙ present

      lacks : half_need groups first rank place half m ≡ Lacking (world_of groups m.comm m.peer) → half_need groups second rank place half m ≡ Lacking (world_of groups m.comm m.peer) → q (half_need groups second rank place half m) ≡ true
      lacks one two = ap q two ∙ onto.none (world_of groups m.comm m.peer) (ap p (sym one) ∙ h)

      by_rank : (e : Envelope) → envelope_of groups rank half call ≡ Some e → (o : Option ℕ) → rank_of_half groups (other_half half) e ≡ o → q (half_need groups second rank place half m) ≡ true
      by_rank e has None none = lacks (half_nobody groups first rank place half call m e present has none) (half_nobody groups second rank place half call m e there has none)
      by_rank e has (Some k) is =
          let counts : number_of groups second rank half e place ≡ number_of groups first rank half e place = rw (same.front place (omega (arith, within))) refl in
          let old = half_is groups first rank place half call m e k (number_of groups first rank half e place) present sends has is refl in
          let new = half_is groups second rank place half call m e k (number_of groups first rank half e place) there sends has is counts in
          ap q new ∙ onto.nth (has_envelope groups k (other_half half) e) k (number_of groups first rank half e place) (fails_last groups k (other_half half) e) (ap p (sym old) ∙ h)

      by_envelope : (o : Option Envelope) → envelope_of groups rank half call ≡ o → q (half_need groups second rank place half m) ≡ true
      by_envelope None none = lacks (half_none groups first rank place half call m present none) (half_none groups second rank place half call m there none)
      by_envelope (Some e) has = by_rank e has (rank_of_half groups (other_half half) e) refl

  halves_on : (place : ℕ) (half : Half) (call : Call) → place < calls → slice_get (calls_of first rank) place ≡ Some call → (message : Option Message) → message_of half call ≡ message → On p q (option_map_or (λ m. half_need groups first rank place half m ∷ []) message []) (option_map_or (λ m. half_need groups second rank place half m ∷ []) message [])
  halves_on place half call within present None sends h = refl
  halves_on place half call within present (Some m) sends h =
      one_on p q (half_need groups first rank place half m) (half_need groups second rank place half m) (half_on place half call m within present sends) h

  sends_on : (place : ℕ) (call : Call) → place < calls → slice_get (calls_of first rank) place ≡ Some call → (one two : Bool) → (one ≡ true → two ≡ true) → On p q (if one then [] else half_needs groups first rank place SendHalf call) (if two then [] else half_needs groups second rank place SendHalf call)
  sends_on place call within present one true more h = refl
  sends_on place call within present true false more h = absurd (false≢true (more refl))
  sends_on place call within present false false more h = halves_on place SendHalf call within present (message_of SendHalf call) refl h

  probe_on : (place : ℕ) (call : Call) (m : Message) → place < calls → slice_get (calls_of first rank) place ≡ Some call → probed_message call ≡ Some m → p (probe_need groups first rank place m) ≡ true → q (probe_need groups second rank place m) ≡ true
  probe_on place call m within present probes h = by_envelope (probed_envelope groups rank call) refl
    where
      there : slice_get (calls_of second rank) place ≡ Some call
      there = same.call place within ∙ present

      lacks : probe_need groups first rank place m ≡ Lacking (world_of groups m.comm m.peer) → probe_need groups second rank place m ≡ Lacking (world_of groups m.comm m.peer) → q (probe_need groups second rank place m) ≡ true
      lacks one two = ap q two ∙ onto.none (world_of groups m.comm m.peer) (ap p (sym one) ∙ h)

      by_rank : (e : Envelope) → probed_envelope groups rank call ≡ Some e → (o : Option ℕ) → rank_of_half groups SendHalf e ≡ o → q (probe_need groups second rank place m) ≡ true
      by_rank e has None none = lacks (probe_nobody groups first rank place call m e present has none) (probe_nobody groups second rank place call m e there has none)
      by_rank e has (Some k) is =
          let counts : number_of groups second rank RecvHalf e place ≡ number_of groups first rank RecvHalf e place = rw (same.front place (omega (arith, within))) refl in
          let old = probe_is groups first rank place call m e k (number_of groups first rank RecvHalf e place) present probes has is refl in
          let new = probe_is groups second rank place call m e k (number_of groups first rank RecvHalf e place) there probes has is counts in
          ap q new ∙ onto.nth (has_envelope groups k SendHalf e) k (number_of groups first rank RecvHalf e place) (fails_last groups k SendHalf e) (ap p (sym old) ∙ h)

      by_envelope : (o : Option Envelope) → probed_envelope groups rank call ≡ o → q (probe_need groups second rank place m) ≡ true
      by_envelope None none = lacks (probe_none groups first rank place call m present none) (probe_none groups second rank place call m there none)
      by_envelope (Some e) has = by_rank e has (rank_of_half groups SendHalf e) refl

  probes_on : (place : ℕ) (call : Call) → place < calls → slice_get (calls_of first rank) place ≡ Some call → (message : Option Message) → probed_message call ≡ message → On p q (option_map_or (λ m. probe_need groups first rank place m ∷ []) message []) (option_map_or (λ m. probe_need groups second rank place m ∷ []) message [])
  probes_on place call within present None probes h = refl
  probes_on place call within present (Some m) probes h =
      one_on p q (probe_need groups first rank place m) (probe_need groups second rank place m) (probe_on place call m within present probes) h

  members_on : (wave : Option (ℕ × ℕ)) → On p q (option_map_or (λ wave. map (member_need first wave.0 wave.1) (group_of groups wave.0)) wave []) (option_map_or (λ wave. map (member_need second wave.0 wave.1) (group_of groups wave.0)) wave [])
  members_on None h = refl
  members_on (Some (comm, wave)) h =
      each_on p q (member_need first comm wave) (member_need second comm wave) (λ member. onto.nth (does_join comm) member wave refl) (group_of groups comm) h

  wave_on : (place : ℕ) → place < calls → On p q (wave_needs groups first rank place) (wave_needs groups second rank place)
  wave_on place within h =
      let same_wave : wave_of second rank place ≡ wave_of first rank place = rw (same.call place within, same.front place (omega (arith, within))) refl in
      rw same_wave (members_on (wave_of first rank place) h)

  operation_on : (place : ℕ) (call : Call) → place < calls → slice_get (calls_of first rank) place ≡ Some call → On p q (operation_needs reading groups first rank place call) (operation_needs other groups second rank place call)
  operation_on place call within present =
      both_on p q _ (wave_needs groups first rank place) _ (wave_needs groups second rank place)
      (both_on p q _ (probe_needs groups first rank place call) _ (probe_needs groups second rank place call)
      (both_on p q _ (half_needs groups first rank place RecvHalf call) _ (half_needs groups second rank place RecvHalf call)
      (sends_on place call within present (sends_freely reading call) (sends_freely other call) (freely call))
      (halves_on place RecvHalf call within present (message_of RecvHalf call) refl))
      (probes_on place call within present (probed_message call) refl))
      (wave_on place within)

  there_on : (place : ℕ) → place < calls → (there : Option Call) → slice_get (calls_of first rank) place ≡ there → On p q (option_map_or (operation_needs reading groups first rank place) there []) (option_map_or (operation_needs other groups second rank place) there [])
  there_on place within None present h = refl
  there_on place within (Some call) present h = operation_on place call within present h

  started_on : (start : Option ℕ) → ((place : ℕ) → start ≡ Some place → place < calls) → On p q (option_map_or (operation_needs_at reading groups first rank) start []) (option_map_or (operation_needs_at other groups second rank) start [])
  started_on None within h = refl
  started_on (Some place) within h = rw (same.call place (within place refl)) (there_on place (within place refl) (slice_get (calls_of first rank) place) refl h)

  -- a start stands before its wait
  request_on : (place : ℕ) → place < calls → ((req start : ℕ) → started_before first rank place req ≡ Some start → start < calls) → (req : ℕ) → On p q (request_needs reading groups first rank place req) (request_needs other groups second rank place req)
  request_on place within earlier req h =
      let start : started_before second rank place req ≡ started_before first rank place req = ap (λ (xs : List Call). started_in xs req) (same.front place (omega (arith, within))) in
      rw start (started_on (started_before first rank place req) (earlier req) h)

  waited_on : (place : ℕ) (call : Call) → place < calls → ((req start : ℕ) → started_before first rank place req ≡ Some start → start < calls) → slice_get (calls_of first rank) place ≡ Some call → (starting : Bool) → On p q (if starting then [] else operation_needs reading groups first rank place call ++ flat_map (request_needs reading groups first rank place) (completes call)) (if starting then [] else operation_needs other groups second rank place call ++ flat_map (request_needs other groups second rank place) (completes call))
  waited_on place call within earlier present true h = refl
  waited_on place call within earlier present false h =
      both_on p q (operation_needs reading groups first rank place call) (flat_map (request_needs reading groups first rank place) (completes call)) (operation_needs other groups second rank place call) (flat_map (request_needs other groups second rank place) (completes call))
      (operation_on place call within present)
      (all_on p q (request_needs reading groups first rank place) (request_needs other groups second rank place) (request_on place within earlier) (completes call)) h

  pub needs_onto : (place : ℕ) (call : Call) → place < calls → ((req start : ℕ) → started_before first rank place req ≡ Some start → start < calls) → slice_get (calls_of first rank) place ≡ Some call → list_all p (needs_of_call reading groups first rank place call) ≡ true → list_all q (needs_of_call other groups second rank place call) ≡ true
  needs_onto place call within earlier present = waited_on place call within earlier present (is_some (starts call))
