-- What ranks of a deadlocked set need later, and how pending calls come back.
use Rattle.moves.specs.declared.reading.Reading.{Reading}
use Rattle.std.proofs.Common.{if◌then◌else◌, inl, inr, ◌≡◌, ◌≢◌, ◌⊎◌, ℕ, suc, ◌<◌, ◌≤◌, ◌==◌, Bool, true, false, not, ◌&&◌, ◌||◌, Option, Some, None, is_some, is_none, List, [], ◌∷◌, ◌++◌, length, map, flat_map, take, get_or, refl, sym, ap, subst, ◌∙◌, ⊎_elim, arith}
use Rattle.std.specs.Prelude.{find}
use Rattle.std.specs.List.{slice_get, filter, list_all, list_any, range_with_len}
use Rattle.std.specs.Option.{option_and_then, option_map, option_map_or, option_to_list}
use Rattle.std.proofs.lemmas.List.Folds.{list_all-append, list_any-append}
use Rattle.std.proofs.lemmas.Option.{none-some, same_Some, slice_get_within}
use Rattle.std.proofs.lemmas.List.{take_all}
use Rattle.std.proofs.lemmas.Bool.{cases_Bool, cases_lt, false≢true, and_parts, and_from, or_left, or_right, leb-true, le-leb, eqb-true, eq-eqb, ne_eqb, not_from_false}
use Rattle.mpicall.specs.declared.call.Call.{Call}
use Rattle.mpicall.specs.declared.call.Call.TheVariants.{Irecv, Open}
use Rattle.mpigroup.specs.Groups.{Groups, group_of, group_rank_of, world_rank_of}
use Rattle.mpigroup.proofs.ListLemmas.{get_end}
use Rattle.callstore.specs.declared.envelope.Envelope.{Envelope}
use Rattle.callstore.specs.declared.envelope.Half.TheVariants.{Send as SendHalf, Recv as RecvHalf}
use Rattle.callstore.specs.declared.envelope.Message.{Message}
use Rattle.callstore.specs.Recordings.{Lists, calls_of}
use Rattle.callstore.specs.Places.{places}
use Rattle.callstore.specs.Envelopes.{message_of, probed_message, envelope_by, envelope_of, has_envelope, rank_of_half}
use Rattle.callstore.specs.Requests.{starts, completes, is_among, started_in, started_before}
use Rattle.callstore.specs.Waves.{does_join, wave_of, joins}
use Rattle.callstore.proofs.PlaceLemmas.{nth_place, before_less}
use Rattle.callstore.proofs.RequestLemmas.{started, leaves_it}
use Rattle.pairing.specs.Partners.{partner_of, number_of, envelope_at}
use Rattle.pairing.specs.LeftOpen.{is_left_open}
use Rattle.pairing.proofs.PartnerLemmas.{own_rank}
use Rattle.pairing.proofs.RequestLaws.{get_take}
use Rattle.pairing.proofs.RankLemmas.{calls_past}
use Rattle.moves.specs.declared.need.Need.{Need}
use Rattle.moves.specs.declared.need.Need.TheVariants.{At, Lacking}
use Rattle.moves.specs.Runs.{State, start}
use Rattle.moves.specs.Needs.{half_need, half_needs, probe_need, probe_needs, member_need, wave_needs, sends_freely, is_met}
use Rattle.moves.specs.Stands.{stands_of, lowest_run_over}
use Rattle.moves.proofs.OntoLemmas.{nth_need}
use Rattle.moves.proofs.StandLemmas.{every_maximal_run_ends_at_the_stands, no_call_behind_the_end_is_reached}
use Rattle.waitgraph.specs.Held.{Set, is_blocked}
use Rattle.waitgraph.specs.Stays.{calls_before_open}
use Rattle.waitgraph.specs.Pending.{Known, PendingView, Part, takes, goes_to, may_take, sink_for, spare_at, spare_if, spare_to, spares_by, spares_to, is_wanted, send_needs, operation_needs, request_needs, sources_of, ways_of, part_of, nothing, pending_waits, is_over, pass_all_or_one}
use Rattle.waitgraph.specs.PendingHeld.{may_come, may_move, IsDeadlockedBy}
use Rattle.waitgraph.specs.PendingStays.{FitsSinks, HasItsPlace, HasMessage, IsSinkAt, IsMet, IsFilled, may_come_back, Brings, BringsSo, ComesBack, GoesOnBy}
use Rattle.waitgraph.specs.declared.pending.Item.{Item}
use Rattle.waitgraph.specs.declared.pending.Sink.{Sink}
use Rattle.waitgraph.specs.declared.pending.Spare.{Spare}
use Rattle.waitgraph.specs.declared.pending.Wanted.{Wanted}
use Rattle.waitgraph.proofs.AmongLemmas.{Among, in_among, given_among, range_among, among_kept}
use Rattle.waitgraph.proofs.FilledLemmas.{as_ended, front_call, front_take, not_open, Pair, pair_at, later_call, was_null, fronts_same, blind_fronts, started_alike, Mild, on, Past, Sunk, back}
use Rattle.waitgraph.proofs.PendingViewLemmas.{Named, NamedProbe, Received, all_on, among_flat, any_map, find_first, find_never, find_passes, flat_all, four_join, four_parts, get_back, half_view, has_it, only_receives, probe_view, received, same_fields, same_takes, starts_none}
use Rattle.mpicall.specs.declared.call.Peer.TheVariants as peer
use Rattle.moves.specs.Needs as plain
use Rattle.waitgraph.specs.declared.pending.Item.TheVariants as item
use Rattle.waitgraph.proofs.LaterLemmas as kept

module _ (reading : Reading) (groups : Groups) (recording later : Lists) (known : Known) (fits : FitsSinks recording known.sinks) (h : GoesOnBy recording known later) (set : Set) (dead : IsDeadlockedBy reading groups recording known set) where
  abbrev Here : ℕ → ℕ → Call → Type 0
  Here r p call = kept.Here reading groups recording later known fits h r p call

  abbrev Quiet : (Call → Bool) → Type 0
  Quiet test = kept.Quiet reading groups recording later known fits h test

  quiet_send : (k : ℕ) (e : Envelope) → Quiet (has_envelope groups k SendHalf e)
  quiet_send k e = kept.quiet_send reading groups recording later known fits h k e

  recv_mild : (k : ℕ) (e : Envelope) → Mild recording later known fits h k (has_envelope groups k RecvHalf e)
  recv_mild k e = kept.recv_mild reading groups recording later known fits h k e

  apart : (r p : ℕ) (m : Message) → HasMessage recording r p m → (e : Envelope) → e.comm ≡ m.comm → e.source ≡ m.peer → e.tag ≡ m.tag → (x : ℕ) (before after : Call) → x < p → IsMet known.sinks r x before after → has_envelope groups r RecvHalf e after ≡ false
  apart r p m has e comm source tag x before after less met = kept.apart reading groups recording later known fits h r p m has e comm source tag x before after less met

  fields : (r : ℕ) (m : Message) (e : Envelope) → option_map (envelope_by RecvHalf m) (group_rank_of groups m.comm r) ≡ Some e → (e.comm ≡ m.comm) × (e.source ≡ m.peer) × (e.tag ≡ m.tag)
  fields r m e has = kept.fields reading groups recording later known fits h r m e has

  -- how far the ranks of the set may stand
  abbrev pub Bound : State → Type 0
  Bound t = (k : ℕ) → set k ≡ true → get_or t k 0 ≤ get_or (stands_of reading groups recording) k 0

  abbrev pub q : Need → Bool
  q = may_come recording (stands_of reading groups recording) set

  pub met_at : (k place : ℕ) → place ≤ get_or (stands_of reading groups recording) k 0 → q (At k place) ≡ true
  met_at k place within =
      or_left (is_met (stands_of reading groups recording) (At k place)) (not (is_blocked recording set (At k place))) (le-leb place (get_or (stands_of reading groups recording) k 0) within)

  pub free_at : (k place : ℕ) → set k ≡ false → q (At k place) ≡ true
  free_at k place outside =
      or_right (is_met (stands_of reading groups recording) (At k place)) (not (is_blocked recording set (At k place))) (rw outside refl)

  pub free_lacking : (k : ℕ) → set k ≡ false → is_left_open recording k ≡ true → q (Lacking k) ≡ true
  free_lacking k outside opens = rw (outside, opens) refl

  pub reached_or_free : (t : State) → Bound t → (k place : ℕ) → place ≤ get_or t k 0 → q (At k place) ≡ true
  reached_or_free t bound k place reached =
      ⊎_elim
      (λ (member : set k ≡ true). met_at k place (omega (arith, reached, bound k member)))
      (λ (no : set k ≡ false). free_at k place no)
      (cases_Bool (set k))

  free_slot : (k : ℕ) (o : Option ℕ) → set k ≡ false → is_left_open recording k ≡ true → q (option_map_or (At k) o (Lacking k)) ≡ true
  free_slot k None outside opens = free_lacking k outside opens
  free_slot k (Some p) outside opens = free_at k p outside

  opened : (k : ℕ) → is_left_open recording k ≡ true → calls_of recording k ≡ calls_before_open recording k ++ Open ∷ []
  opened k opens = ⊎_elim (λ one. absurd (false≢true (sym one.0 ∙ opens))) (λ two. two.1) (as_ended recording k)

  pub open_there : (k : ℕ) → is_left_open recording k ≡ true → slice_get (calls_of recording k) (length (calls_before_open recording k)) ≡ Some Open
  open_there k opens =
      ap (λ (calls : List Call). slice_get calls (length (calls_before_open recording k))) (opened k opens) ∙ get_end (calls_before_open recording k) Open

  pub stand_most : (k : ℕ) → is_left_open recording k ≡ true → get_or (stands_of reading groups recording) k 0 ≤ length (calls_before_open recording k)
  stand_most k opens =
      no_call_behind_the_end_is_reached reading groups recording k (length (calls_before_open recording k)) Open (lowest_run_over reading groups recording) (every_maximal_run_ends_at_the_stands reading groups recording).0.is_run (open_there k opens) refl

  -- the pending call of a rank of the set that stands at its open
  pub record AtPending (k : ℕ) : Type 0 where
    pub pending : PendingView
    pub is_pending : slice_get known.pending k ≡ Some pending
    pub some : 0 < length pending.items
    pub stays : is_over q (pending_waits reading groups recording known.sinks k pending) ≡ false

  none_over : (b : Bool) → pass_all_or_one (b || true) (λ (part : Part). pass_all_or_one part.is_all q part.needs) [] ≡ true
  none_over true = refl
  none_over false = refl

  over_none : (k : ℕ) (pending : PendingView) → pending.items ≡ [] → is_over q (pending_waits reading groups recording known.sinks k pending) ≡ true
  over_none k pending none = rw none (none_over pending.is_all)

  pub held_at_open : (k : ℕ) → set k ≡ true → is_left_open recording k ≡ true → get_or (stands_of reading groups recording) k 0 ≡ length (calls_before_open recording k) → AtPending k
  held_at_open k member opens stand = by_pending (slice_get known.pending k) refl
    where
      present : slice_get (calls_of recording k) (get_or (stands_of reading groups recording) k 0) ≡ Some Open
      present = ap (λ (place : ℕ). slice_get (calls_of recording k) place) stand ∙ open_there k opens

      waits : may_move reading groups recording known set k ≡ is_over q (option_map_or (pending_waits reading groups recording known.sinks k) (slice_get known.pending k) nothing)
      waits = rw present refl

      by_items : (pending : PendingView) → is_over q (pending_waits reading groups recording known.sinks k pending) ≡ false → (items : List Item) → pending.items ≡ items → 0 < length pending.items
      by_items pending stays [] none = absurd (false≢true (sym stays ∙ over_none k pending none))
      by_items pending stays (one ∷ items) are =
          let count : length pending.items ≡ suc (length items) = ap (length {A = Item}) are in
          omega (arith, count)

      by_pending : (o : Option PendingView) → slice_get known.pending k ≡ o → AtPending k
      by_pending None none =
          let moves : may_move reading groups recording known set k ≡ true = waits ∙ ap (λ (o : Option PendingView). is_over q (option_map_or (pending_waits reading groups recording known.sinks k) o nothing)) none in
          absurd (false≢true (sym (dead k member) ∙ moves))
      by_pending (Some pending) is =
          let stays : is_over q (pending_waits reading groups recording known.sinks k pending) ≡ false =
          sym (waits ∙ ap (λ (o : Option PendingView). is_over q (option_map_or (pending_waits reading groups recording known.sinks k) o nothing)) is) ∙ dead k member in
          record { pending = pending; is_pending = is; some = by_items pending stays pending.items refl; stays = stays }

  -- what stands there later
  pub comes_back : (k : ℕ) → is_left_open recording k ≡ true → (at : AtPending k) → (call : Call) → slice_get (calls_of later k) (length (calls_before_open recording k)) ≡ Some call → ComesBack known.sinks later k (length (h.filled k)) call at.pending
  comes_back k opens at call there =
      let first : slice_get (h.more k) 0 ≡ Some call =
      sym (get_back (h.filled k) (h.more k))
      ∙ ap (λ (place : ℕ). slice_get (h.filled k ++ h.more k) place) (h.same_length k)
      ∙ ap (λ (calls : List Call). slice_get calls (length (calls_before_open recording k))) (sym (h.goes_on k))
      ∙ there in
      h.comes_back k at.pending call opens at.is_pending at.some first

  pub or_back : (k : ℕ) (call : Call) (pending : PendingView) → ComesBack known.sinks later k (length (h.filled k)) call pending → (call ≡ Open) ⊎ (may_come_back call ≡ true)
  or_back k call pending (inl is) = inl is
  or_back k call pending (inr b) = inr b.0

  -- a call of a rank of the set that is reached after its open is the first there
  pub record First (k there : ℕ) (call : Call) : Type 0 where
    pub at : AtPending k
    pub is_first : there ≡ length (calls_before_open recording k)
    pub comes : ComesBack known.sinks later k (length (h.filled k)) call at.pending

  pub first_behind : (t : State) → Bound t → (k : ℕ) (test : Call → Bool) (there : ℕ) → set k ≡ true → (past : Past recording later known fits h k test there) → there ≤ get_or t k 0 → First k there past.call
  first_behind t bound k test there member past reached =
      let most = stand_most k past.is_open in
      let least = bound k member in
      let stand : get_or (stands_of reading groups recording) k 0 ≡ length (calls_before_open recording k) = omega (arith, most, least, past.is_past, reached) in
      let first : there ≡ length (calls_before_open recording k) = omega (arith, most, least, past.is_past, reached) in
      let at = held_at_open k member past.is_open stand in
      record { at = at; is_first = first; comes = comes_back k past.is_open at past.call (ap (λ (place : ℕ). slice_get (calls_of later k) place) (sym first) ∙ past.stands_there) }

  sunk_never : (k : ℕ) (test : Call → Bool) (number there : ℕ) → Quiet test → Sunk recording later known fits h k test number there → ⊥
  sunk_never k test number there quiet sunk =
      false≢true (sym (ap test sunk.met.is_receive ∙ quiet.blind sunk.met.req sunk.met.comm (peer.Rank sunk.met.source) sunk.met.tag) ∙ sunk.passes)

  -- where such a call is reached later: in the recording too, or after the open of a rank outside the set
  pub reached_back : (t : State) → Bound t → (k : ℕ) (test : Call → Bool) → Quiet test → (number there : ℕ) → slice_get (places test (calls_of later k)) number ≡ Some there → there ≤ get_or t k 0 → (slice_get (places test (calls_of recording k)) number ≡ Some there) ⊎ ((set k ≡ false) × (is_left_open recording k ≡ true))
  reached_back t bound k test quiet number there found reached = by_back (back recording later known fits h k test (kept.quiet_mild reading groups recording later known fits h k test quiet) number there found)
    where
      by_back : (slice_get (places test (calls_of recording k)) number ≡ Some there) ⊎ (Past recording later known fits h k test there ⊎ Sunk recording later known fits h k test number there) → (slice_get (places test (calls_of recording k)) number ≡ Some there) ⊎ ((set k ≡ false) × (is_left_open recording k ≡ true))
      by_back (inl same) = inl same
      by_back (inr (inr sunk)) = absurd (sunk_never k test number there quiet sunk)
      by_back (inr (inl past)) =
          ⊎_elim
          (λ (member : set k ≡ true).
          let first = first_behind t bound k test there member past reached in
          absurd (false≢true (sym (quiet.first past.call (or_back k past.call first.at.pending first.comes)) ∙ past.passes)))
          (λ (no : set k ≡ false). inr (no, past.is_open))
          (cases_Bool (set k))

  pub nth_back : (t : State) → Bound t → (k : ℕ) (test : Call → Bool) → Quiet test → (number : ℕ) → is_met t (nth_need later test k number) ≡ true → q (nth_need recording test k number) ≡ true
  nth_back t bound k test quiet number met = by_later (slice_get (places test (calls_of later k)) number) refl met
    where
      by_back : (there : ℕ) → there ≤ get_or t k 0 → (slice_get (places test (calls_of recording k)) number ≡ Some there) ⊎ ((set k ≡ false) × (is_left_open recording k ≡ true)) → q (nth_need recording test k number) ≡ true
      by_back there reached (inl same) =
          ap (λ (o : Option ℕ). q (option_map_or (At k) o (Lacking k))) same ∙ reached_or_free t bound k there reached
      by_back there reached (inr free) = free_slot k (slice_get (places test (calls_of recording k)) number) free.0 free.1

      by_later : (o : Option ℕ) → slice_get (places test (calls_of later k)) number ≡ o → is_met t (nth_need later test k number) ≡ true → q (nth_need recording test k number) ≡ true
      by_later None none is = absurd (false≢true (sym (ap (λ (o : Option ℕ). is_met t (option_map_or (At k) o (Lacking k))) none) ∙ is))
      by_later (Some there) found is =
          let reached : there ≤ get_or t k 0 = leb-true there (get_or t k 0) (sym (ap (λ (o : Option ℕ). is_met t (option_map_or (At k) o (Lacking k))) found) ∙ is) in
          by_back there reached (reached_back t bound k test quiet number there found reached)

  pub recv_on : (t : State) → Bound t → (r p : ℕ) (call : Call) (m : Message) → message_of RecvHalf call ≡ Some m → Here r p call → is_met t (half_need groups later r p RecvHalf m) ≡ true → q (half_need groups recording r p RecvHalf m) ≡ true
  recv_on t bound r p call m receives here met =
      ⊎_elim
      (λ nobody. absurd (false≢true (sym (ap (is_met t) (nobody later here.new)) ∙ met)))
      (λ (named : Named groups r p call RecvHalf m).
      let are = fields r m named.e (rw receives at named.has) in
      let has : HasMessage recording r p m = inl (ap (λ (o : Option Call). option_and_then (message_of RecvHalf) o) here.old ∙ receives) in
      let counts : number_of groups later r RecvHalf named.e p ≡ number_of groups recording r RecvHalf named.e p =
      ap (length {A = ℕ}) (fronts_same recording later known fits h (has_envelope groups r RecvHalf named.e) r p (omega (arith, here.within)) (λ req comm tag. refl) (apart r p m has named.e are.0 are.1 are.2)) in
      let later' : is_met t (nth_need later (has_envelope groups named.k SendHalf named.e) named.k (number_of groups recording r RecvHalf named.e p)) ≡ true =
      subst (λ (n : ℕ). is_met t (nth_need later (has_envelope groups named.k SendHalf named.e) named.k n) ≡ true) counts (ap (is_met t) (sym (named.is later here.new)) ∙ met) in
      ap q (named.is recording here.old) ∙ nth_back t bound named.k (has_envelope groups named.k SendHalf named.e) (quiet_send named.k named.e) (number_of groups recording r RecvHalf named.e p) later')
      (half_view groups r p call RecvHalf m receives)

  pub probe_on : (t : State) → Bound t → (r p : ℕ) (call : Call) (m : Message) → probed_message call ≡ Some m → Here r p call → is_met t (probe_need groups later r p m) ≡ true → q (probe_need groups recording r p m) ≡ true
  probe_on t bound r p call m probes here met =
      ⊎_elim
      (λ nobody. absurd (false≢true (sym (ap (is_met t) (nobody later here.new)) ∙ met)))
      (λ (named : NamedProbe groups r p call m).
      let are = fields r m named.e (rw probes at named.has) in
      let has : HasMessage recording r p m = inr (ap (λ (o : Option Call). option_and_then probed_message o) here.old ∙ probes) in
      let counts : number_of groups later r RecvHalf named.e p ≡ number_of groups recording r RecvHalf named.e p =
      ap (length {A = ℕ}) (fronts_same recording later known fits h (has_envelope groups r RecvHalf named.e) r p (omega (arith, here.within)) (λ req comm tag. refl) (apart r p m has named.e are.0 are.1 are.2)) in
      let later' : is_met t (nth_need later (has_envelope groups named.k SendHalf named.e) named.k (number_of groups recording r RecvHalf named.e p)) ≡ true =
      subst (λ (n : ℕ). is_met t (nth_need later (has_envelope groups named.k SendHalf named.e) named.k n) ≡ true) counts (ap (is_met t) (sym (named.is later here.new)) ∙ met) in
      ap q (named.is recording here.old) ∙ nth_back t bound named.k (has_envelope groups named.k SendHalf named.e) (quiet_send named.k named.e) (number_of groups recording r RecvHalf named.e p) later')
      (probe_view groups r p call m probes)

  pub wave_on : (t : State) → Bound t → (r p : ℕ) (call : Call) → Here r p call → list_all (is_met t) (wave_needs groups later r p) ≡ true → list_all q (wave_needs groups recording r p) ≡ true
  wave_on t bound r p call here met = by_wave (wave_of recording r p) refl
    where
      by_wave : (wave : Option (ℕ × ℕ)) → wave_of recording r p ≡ wave → list_all q (wave_needs groups recording r p) ≡ true
      by_wave None none = ap (λ (w : Option (ℕ × ℕ)). list_all q (option_map_or (λ wave. map (member_need recording wave.0 wave.1) (group_of groups wave.0)) w [])) none
      by_wave (Some (comm, wave)) is =
          let later' : list_all (is_met t) (map (member_need later comm wave) (group_of groups comm)) ≡ true =
          sym (ap (λ (w : Option (ℕ × ℕ)). list_all (is_met t) (option_map_or (λ wave. map (member_need later wave.0 wave.1) (group_of groups wave.0)) w [])) (kept.same_wave reading groups recording later known fits h r p call here ∙ is)) ∙ met in
          ap (λ (w : Option (ℕ × ℕ)). list_all q (option_map_or (λ wave. map (member_need recording wave.0 wave.1) (group_of groups wave.0)) w [])) is
          ∙ all_on (is_met t) q (member_need later comm wave) (member_need recording comm wave) (λ member. nth_back t bound member (does_join comm) (kept.quiet_join reading groups recording later known fits h comm) wave) (group_of groups comm) later'

  -- What a send needs.
  partner_is : (r p : ℕ) (call : Call) (m : Message) (named : Named groups r p call SendHalf m) → slice_get (calls_of recording r) p ≡ Some call → partner_of groups recording r p SendHalf ≡ option_map {U = ℕ × ℕ} (λ place. (named.k, place)) (slice_get (places (has_envelope groups named.k RecvHalf named.e) (calls_of recording named.k)) (number_of groups recording r SendHalf named.e p))
  partner_is r p call m named old = rw (old, named.has, named.there) refl

  envelope_is : (r p : ℕ) (call : Call) (m : Message) (named : Named groups r p call SendHalf m) → slice_get (calls_of recording r) p ≡ Some call → envelope_at groups recording r p SendHalf ≡ Some named.e
  envelope_is r p call m named old = ap (λ (o : Option Call). option_and_then (envelope_of groups r SendHalf) o) old ∙ named.has

  spare_by : (r p : ℕ) (call : Call) (m : Message) (named : Named groups r p call SendHalf m) → slice_get (calls_of recording r) p ≡ Some call → (slot : Option ℕ) → slice_get (places (has_envelope groups named.k RecvHalf named.e) (calls_of recording named.k)) (number_of groups recording r SendHalf named.e p) ≡ slot → spare_at groups recording r p ≡ (if is_none slot then Some named.e else None)
  spare_by r p call m named old slot is =
      ap (λ (o : Option (ℕ × ℕ)). if is_none o then envelope_at groups recording r p SendHalf else None) (partner_is r p call m named old ∙ ap (λ (o : Option ℕ). option_map {U = ℕ × ℕ} (λ place. (named.k, place)) o) is)
      ∙ by_slot slot
    where
      by_slot : (slot : Option ℕ) → (if is_none (option_map {U = ℕ × ℕ} (λ place. (named.k, place)) slot) then envelope_at groups recording r p SendHalf else None) ≡ (if is_none slot then Some named.e else None)
      by_slot None = envelope_is r p call m named old
      by_slot (Some x) = refl

  no_sink_for : (r p : ℕ) → spare_at groups recording r p ≡ None → sink_for groups recording known.sinks r p ≡ None
  no_sink_for r p none =
      ap (λ (o : Option Envelope). find (λ sink. option_map_or (λ e. may_take groups e sink) o false) known.sinks) none ∙ find_never known.sinks

  sink_takes : (r p : ℕ) (e : Envelope) (sink : Sink) → spare_at groups recording r p ≡ Some e → sink_for groups recording known.sinks r p ≡ Some sink → may_take groups e sink ≡ true
  sink_takes r p e sink spare found =
      find_passes (may_take groups e) known.sinks sink
      (sym (ap (λ (o : Option Envelope). find (λ sink. option_map_or (λ e. may_take groups e sink) o false) known.sinks) spare) ∙ found)

  goes_there : (rank k : ℕ) (e : Envelope) → rank_of_half groups RecvHalf e ≡ Some k → goes_to groups rank e ≡ true → k ≡ rank
  goes_there rank k e there goes = eqb-true k rank (sym (ap (λ (o : Option ℕ). option_map_or (λ dest. dest == rank) o false) there) ∙ goes)

  goes_here : (rank : ℕ) (e : Envelope) → rank_of_half groups RecvHalf e ≡ Some rank → goes_to groups rank e ≡ true
  goes_here rank e there = ap (λ (o : Option ℕ). option_map_or (λ dest. dest == rank) o false) there ∙ eq-eqb rank rank refl

  -- a spare send is a way
  way_spare : (k : ℕ) (wanted : Wanted) (r p : ℕ) (e : Envelope) → spare_at groups recording r p ≡ Some e → goes_to groups k e ≡ true → takes wanted e.comm e.source e.tag ≡ true → p < length (calls_of recording r) → q (At r p) ≡ true → list_any q (ways_of groups recording k wanted) ≡ true
  way_spare k wanted r p e spare goes taken within passes =
      let one : Spare = record { sender = r; place = p; envelope = e } in
      let is_to : spare_to groups recording k r p ≡ Some one =
      ap (λ (o : Option Envelope). option_and_then (spare_if groups k r p) o) spare
      ∙ ap (λ (b : Bool). if b then Some one else None) goes in
      let by : Among one (spares_by groups recording k r) = given_among p one (spare_to groups recording k r) (range_with_len 0 (length (calls_of recording r))) (range_among p 0 (length (calls_of recording r)) (omega arith) (omega (arith, within))) is_to in
      let is_rank : r < length recording = calls_past recording r p within in
      let all : Among one (spares_to groups recording k) = among_flat one r (spares_by groups recording k) (range_with_len 0 (length recording)) (range_among r 0 (length recording) (omega arith) (omega (arith, is_rank))) by in
      let kept : Among one (filter (is_wanted wanted) (spares_to groups recording k)) = among_kept one (is_wanted wanted) (spares_to groups recording k) all taken in
      list_any-append q (map (λ spare. At spare.sender spare.place) (filter (is_wanted wanted) (spares_to groups recording k))) (map Lacking (filter (λ sender. not (sender == k)) (sources_of groups wanted)))
      ∙ or_left (list_any q (map (λ spare. At spare.sender spare.place) (filter (is_wanted wanted) (spares_to groups recording k)))) (list_any q (map Lacking (filter (λ sender. not (sender == k)) (sources_of groups wanted))))
      (any_map q (λ (spare : Spare). At spare.sender spare.place) one (filter (is_wanted wanted) (spares_to groups recording k)) kept passes)

  -- and so is another rank from which it may come
  way_source : (k : ℕ) (wanted : Wanted) (sender : ℕ) → Among sender (sources_of groups wanted) → sender ≢ k → q (Lacking sender) ≡ true → list_any q (ways_of groups recording k wanted) ≡ true
  way_source k wanted sender there other passes =
      let kept : Among sender (filter (λ sender. not (sender == k)) (sources_of groups wanted)) = among_kept sender (λ sender. not (sender == k)) (sources_of groups wanted) there (not_from_false (sender == k) (ne_eqb sender k other)) in
      list_any-append q (map (λ spare. At spare.sender spare.place) (filter (is_wanted wanted) (spares_to groups recording k))) (map Lacking (filter (λ sender. not (sender == k)) (sources_of groups wanted)))
      ∙ or_right (list_any q (map (λ spare. At spare.sender spare.place) (filter (is_wanted wanted) (spares_to groups recording k)))) (list_any q (map Lacking (filter (λ sender. not (sender == k)) (sources_of groups wanted))))
      (any_map q Lacking sender (filter (λ sender. not (sender == k)) (sources_of groups wanted)) kept passes)

  sender_among : (wanted : Wanted) (e : Envelope) (k : ℕ) → takes wanted e.comm e.source e.tag ≡ true → world_rank_of groups e.comm e.source ≡ Some k → Among k (sources_of groups wanted)
  sender_among wanted e k taken there =
      let one = and_parts (wanted.comm == e.comm) (option_map_or (λ one. one == e.source) wanted.source true && option_map_or (λ one. one == e.tag) wanted.tag true) taken in
      let two = and_parts (option_map_or (λ one. one == e.source) wanted.source true) (option_map_or (λ one. one == e.tag) wanted.tag true) one.1 in
      let there' : world_rank_of groups wanted.comm e.source ≡ Some k = ap (λ (comm : ℕ). world_rank_of groups comm e.source) (eqb-true wanted.comm e.comm one.0) ∙ there in
      by_source wanted.source two.0 there'
    where
      by_source : (o : Option ℕ) → option_map_or (λ one. one == e.source) o true ≡ true → world_rank_of groups wanted.comm e.source ≡ Some k → Among k (option_map_or (λ source. option_to_list (world_rank_of groups wanted.comm source)) o (group_of groups wanted.comm))
      by_source None same is = in_among k (group_of groups wanted.comm) (e.source, is)
      by_source (Some source) same is =
          let here : world_rank_of groups wanted.comm source ≡ Some k = ap (λ (g : ℕ). world_rank_of groups wanted.comm g) (eqb-true source e.source same) ∙ is in
          rw here (inl refl)

  -- Pending calls that come back.
  abbrev pub part_over : ℕ → Item → Bool
  part_over k one =
      pass_all_or_one (part_of reading groups recording known.sinks k one).is_all q (part_of reading groups recording known.sinks k one).needs

  pub brought_over : (k : ℕ) (brings : Item → Type 0) → ((one : Item) → brings one → part_over k one ≡ true) → (is_all : Bool) (items : List Item) → 0 < length items → BringsSo brings is_all items → is_over q (pending_waits reading groups recording known.sinks k (record { is_all = is_all; items = items })) ≡ true
  brought_over k brings each true items some so = all_of items so
    where
      all_of : (items : List Item) → ((index : ℕ) (one : Item) → slice_get items index ≡ Some one → brings one) → list_all (λ (part : Part). pass_all_or_one part.is_all q part.needs) (map (part_of reading groups recording known.sinks k) items) ≡ true
      all_of [] so = refl
      all_of (one ∷ items) so = and_from (part_over k one) (list_all (λ (part : Part). pass_all_or_one part.is_all q part.needs) (map (part_of reading groups recording known.sinks k) items)) (each one (so 0 one refl)) (all_of items (λ index it there. so (suc index) it there))
  brought_over k brings each false [] some so = absurd (omega (arith, some))
  brought_over k brings each false (first ∷ items) some so =
      let more : (length (first ∷ items) == 0) ≡ false = ne_eqb (length (first ∷ items)) 0 (λ none. omega (arith, none)) in
      rw more
      (any_map (λ (part : Part). pass_all_or_one part.is_all q part.needs) (part_of reading groups recording known.sinks k) so.1 (first ∷ items) (in_among so.1 (first ∷ items) (so.0, so.2)) (each so.1 so.3))

  -- a receive that came back had a send that was reached before: the rank isn't held
  never_met : (k there : ℕ) (call : Call) (e : Envelope) (r p : ℕ) → (first : First k there call) → has_envelope groups k RecvHalf e call ≡ true → spare_at groups recording r p ≡ Some e → rank_of_half groups RecvHalf e ≡ Some k → p < length (calls_of recording r) → p ≤ get_or (stands_of reading groups recording) r 0 → ⊥
  never_met k there call e r p first passes spare goes within reached = by_back first.comes
    where
      got : Received groups k e call
      got = received groups k e call passes

      each : may_come_back call ≡ true → (one : Item) → Brings known.sinks later k (length (h.filled k)) call one → part_over k one ≡ true
      each back (item.Request req) brings =
          let none = (only_receives call back got.m got.receives).0 in
          absurd (false≢true (sym (ap (λ (reqs : List ℕ). is_among req reqs) none) ∙ brings))
      each back (item.Message wanted) (inr completes_it) =
          let none = (only_receives call back got.m got.receives).0 in
          absurd (false≢true (sym (ap (λ (reqs : List ℕ). is_among completes_it.req reqs) none) ∙ completes_it.completes_it))
      each back (item.Message wanted) (inl has) = by_message has.has_it
        where
          by_message : (message_of RecvHalf call ≡ Some has.message) ⊎ (probed_message call ≡ Some has.message) → list_any q (ways_of groups recording k wanted) ≡ true
          by_message (inr probes) = absurd (none-some has.message (sym (only_receives call back got.m got.receives).1 ∙ probes))
          by_message (inl receives) =
              let same : has.message ≡ got.m = same_Some has.message got.m (sym receives ∙ got.receives) in
              let taken : takes wanted e.comm e.source e.tag ≡ true =
              same_takes wanted e.comm e.source e.tag has.message.comm has.message.peer has.message.tag
              (got.comm ∙ ap (λ (m : Message). m.comm) (sym same)) (got.source ∙ ap (λ (m : Message). m.peer) (sym same)) (got.tag ∙ ap (λ (m : Message). m.tag) (sym same))
              ∙ has.is_wanted in
              way_spare k wanted r p e spare (goes_here k e goes) taken within (met_at r p reached)

      by_back : ComesBack known.sinks later k (length (h.filled k)) call first.at.pending → ⊥
      by_back (inl is) = false≢true (sym (ap (has_envelope groups k RecvHalf e) is) ∙ passes)
      by_back (inr back) =
          false≢true (sym first.at.stays ∙ brought_over k (Brings known.sinks later k (length (h.filled k)) call) (each back.0) first.at.pending.is_all first.at.pending.items first.at.some back.1)

  -- a sink that was met: the first that may take the send is no later
  sink_first : (r p k number there : ℕ) (e : Envelope) → spare_at groups recording r p ≡ Some e → rank_of_half groups RecvHalf e ≡ Some k → Sunk recording later known fits h k (has_envelope groups k RecvHalf e) number there → (sink : Sink) × (sink_for groups recording known.sinks r p ≡ Some sink) × (sink.rank ≡ k) × (sink.place ≤ there)
  sink_first r p k number there e spare goes sunk =
      let met = sunk.met in
      let got = received groups k e (Irecv met.req met.comm (peer.Rank met.source) met.tag) (ap (has_envelope groups k RecvHalf e) (sym met.is_receive) ∙ sunk.passes) in
      let is = same_fields (record { comm = met.comm; peer = met.source; tag = met.tag }) got.m got.receives in
      let taken : takes met.there.sink.wanted e.comm e.source e.tag ≡ true =
      same_takes met.there.sink.wanted e.comm e.source e.tag met.comm met.source met.tag
      (got.comm ∙ sym is.0) (got.source ∙ sym is.1) (got.tag ∙ sym is.2)
      ∙ met.is_taken in
      let goes' : goes_to groups met.there.sink.rank e ≡ true = goes_here met.there.sink.rank e (goes ∙ ap (λ (x : ℕ). Some x) (sym met.there.is_rank)) in
      let takes_it : may_take groups e met.there.sink ≡ true = and_from (takes met.there.sink.wanted e.comm e.source e.tag) (goes_to groups met.there.sink.rank e) taken goes' in
      let found = find_first (may_take groups e) known.sinks met.there.index met.there.sink met.there.is_one takes_it in
      let is_found : sink_for groups recording known.sinks r p ≡ Some found.1 =
      ap (λ (o : Option Envelope). find (λ sink. option_map_or (λ e. may_take groups e sink) o false) known.sinks) spare ∙ found.5 in
      let its_rank : k ≡ found.1.rank = goes_there found.1.rank k e goes (and_parts (takes found.1.wanted e.comm e.source e.tag) (goes_to groups found.1.rank e) found.4).1 in
      let same_rank : found.1.rank ≡ met.there.sink.rank = sym its_rank ∙ sym met.there.is_rank in (
        found.1,
        is_found,
        sym its_rank,
        ⊎_elim
            (λ (less : found.0 < met.there.index).
            let before = fits.in_order found.0 met.there.index found.1 met.there.sink less found.3 met.there.is_one same_rank in
            omega (arith, before, met.there.is_place))
            (λ (least : met.there.index ≤ found.0).
            let same : found.0 ≡ met.there.index = omega (arith, least, found.2) in
            let it : found.1 ≡ met.there.sink = same_Some found.1 met.there.sink (sym found.3 ∙ ap (λ (i : ℕ). slice_get known.sinks i) same ∙ met.there.is_one) in
            let place : found.1.place ≡ met.there.sink.place = ap (λ (s : Sink). s.place) it in
            omega (arith, place, met.there.is_place))
            (cases_lt found.0 met.there.index),
      )

  send_on : (t : State) → Bound t → (r p : ℕ) (call : Call) (m : Message) → message_of SendHalf call ≡ Some m → Here r p call → p ≤ get_or (stands_of reading groups recording) r 0 → is_met t (half_need groups later r p SendHalf m) ≡ true → list_all q (send_needs groups recording known.sinks r p call) ≡ true
  send_on t bound r p call m sends here reached met =
      ⊎_elim
      (λ nobody. absurd (false≢true (sym (ap (is_met t) (nobody later here.new)) ∙ met)))
      (λ (named : Named groups r p call SendHalf m). by_named named)
      (half_view groups r p call SendHalf m sends)
    where
      is_call : p < length (calls_of recording r)
      is_call = slice_get_within (calls_of recording r) p call here.old

      by_named : (named : Named groups r p call SendHalf m) → list_all q (send_needs groups recording known.sinks r p call) ≡ true
      by_named named = by_later (slice_get (places (has_envelope groups named.k RecvHalf named.e) (calls_of later named.k)) (number_of groups recording r SendHalf named.e p)) refl
        where
          counts : number_of groups later r SendHalf named.e p ≡ number_of groups recording r SendHalf named.e p
          counts = ap (length {A = ℕ}) (blind_fronts recording later known fits h (has_envelope groups r SendHalf named.e) (quiet_send r named.e).blind r p (omega (arith, here.within)))

          later_met : is_met t (nth_need later (has_envelope groups named.k RecvHalf named.e) named.k (number_of groups recording r SendHalf named.e p)) ≡ true
          later_met = subst (λ (n : ℕ). is_met t (nth_need later (has_envelope groups named.k RecvHalf named.e) named.k n) ≡ true) counts (ap (is_met t) (sym (named.is later here.new)) ∙ met)

          plain_needs : half_needs groups recording r p SendHalf call ≡ nth_need recording (has_envelope groups named.k RecvHalf named.e) named.k (number_of groups recording r SendHalf named.e p) ∷ []
          plain_needs = ap (λ (o : Option Message). option_map_or (λ m. half_need groups recording r p SendHalf m ∷ []) o []) sends ∙ ap (λ (need : Need). need ∷ []) (named.is recording here.old)

          spare_as : (slot : Option ℕ) → slice_get (places (has_envelope groups named.k RecvHalf named.e) (calls_of recording named.k)) (number_of groups recording r SendHalf named.e p) ≡ slot → spare_at groups recording r p ≡ (if is_none slot then Some named.e else None)
          spare_as = spare_by r p call m named here.old

          one_need : (need : Need) → q need ≡ true → list_all q (need ∷ []) ≡ true
          one_need need passes = and_from (q need) true passes refl

          -- by its partner, where it has one
          partnered : (x : ℕ) → slice_get (places (has_envelope groups named.k RecvHalf named.e) (calls_of recording named.k)) (number_of groups recording r SendHalf named.e p) ≡ Some x → q (At named.k x) ≡ true → list_all q (send_needs groups recording known.sinks r p call) ≡ true
          partnered x is passes =
              ap (λ (o : Option Sink). list_all q (option_map_or (λ sink. At sink.rank sink.place ∷ []) o (half_needs groups recording r p SendHalf call))) (no_sink_for r p (spare_as (Some x) is))
              ∙ ap (λ (needs : List Need). list_all q needs) (plain_needs ∙ ap (λ (o : Option ℕ). option_map_or (At named.k) o (Lacking named.k) ∷ []) is)
              ∙ one_need (At named.k x) passes

          -- by a sink
          sunken : (sink : Sink) → sink_for groups recording known.sinks r p ≡ Some sink → q (At sink.rank sink.place) ≡ true → list_all q (send_needs groups recording known.sinks r p call) ≡ true
          sunken sink is passes =
              ap (λ (o : Option Sink). list_all q (option_map_or (λ sink. At sink.rank sink.place ∷ []) o (half_needs groups recording r p SendHalf call))) is ∙ one_need (At sink.rank sink.place) passes

          -- of a rank outside the set that may go on
          freed : set named.k ≡ false → is_left_open recording named.k ≡ true → (slot : Option ℕ) → slice_get (places (has_envelope groups named.k RecvHalf named.e) (calls_of recording named.k)) (number_of groups recording r SendHalf named.e p) ≡ slot → list_all q (send_needs groups recording known.sinks r p call) ≡ true
          freed outside opens (Some x) is = partnered x is (free_at named.k x outside)
          freed outside opens None is = by_sink (sink_for groups recording known.sinks r p) refl
            where
              by_sink : (o : Option Sink) → sink_for groups recording known.sinks r p ≡ o → list_all q (send_needs groups recording known.sinks r p call) ≡ true
              by_sink (Some sink) found =
                  let same : named.k ≡ sink.rank = goes_there sink.rank named.k named.e named.there (and_parts (takes sink.wanted named.e.comm named.e.source named.e.tag) (goes_to groups sink.rank named.e) (sink_takes r p named.e sink (spare_as None is) found)).1 in
                  sunken sink found (free_at sink.rank sink.place (ap set (sym same) ∙ outside))
              by_sink None none =
                  ap (λ (o : Option Sink). list_all q (option_map_or (λ sink. At sink.rank sink.place ∷ []) o (half_needs groups recording r p SendHalf call))) none
                  ∙ ap (λ (needs : List Need). list_all q needs) (plain_needs ∙ ap (λ (o : Option ℕ). option_map_or (At named.k) o (Lacking named.k) ∷ []) is)
                  ∙ one_need (Lacking named.k) (free_lacking named.k outside opens)

          behind : (there : ℕ) → there ≤ get_or t named.k 0 → (past : Past recording later known fits h named.k (has_envelope groups named.k RecvHalf named.e) there) → set named.k ≡ true → slice_get (places (has_envelope groups named.k RecvHalf named.e) (calls_of later named.k)) (number_of groups recording r SendHalf named.e p) ≡ Some there → (slot : Option ℕ) → slice_get (places (has_envelope groups named.k RecvHalf named.e) (calls_of recording named.k)) (number_of groups recording r SendHalf named.e p) ≡ slot → ⊥
          behind there met' past member found (Some x) is =
              let same : x ≡ there = same_Some x there (sym (on recording later known fits h named.k (has_envelope groups named.k RecvHalf named.e) (recv_mild named.k named.e) (number_of groups recording r SendHalf named.e p) x is) ∙ found) in
              let first = first_behind t bound named.k (has_envelope groups named.k RecvHalf named.e) there member past met' in
              let nth = nth_place 0 (has_envelope groups named.k RecvHalf named.e) (calls_of recording named.k) (number_of groups recording r SendHalf named.e p) x is in
              let at_open : nth.index ≡ length (calls_before_open recording named.k) = omega (arith, nth.place, same, first.is_first) in
              let is_open : nth.element ≡ Open = same_Some nth.element Open (sym nth.stands_there ∙ ap (λ (i : ℕ). slice_get (calls_of recording named.k) i) at_open ∙ open_there named.k past.is_open) in
              false≢true (sym (ap (has_envelope groups named.k RecvHalf named.e) is_open) ∙ nth.passes)
          behind there met' past member found None is =
              never_met named.k there past.call named.e r p (first_behind t bound named.k (has_envelope groups named.k RecvHalf named.e) there member past met') past.passes (spare_as None is) named.there is_call reached

          by_back : (there : ℕ) → there ≤ get_or t named.k 0 → slice_get (places (has_envelope groups named.k RecvHalf named.e) (calls_of later named.k)) (number_of groups recording r SendHalf named.e p) ≡ Some there → (slice_get (places (has_envelope groups named.k RecvHalf named.e) (calls_of recording named.k)) (number_of groups recording r SendHalf named.e p) ≡ Some there) ⊎ (Past recording later known fits h named.k (has_envelope groups named.k RecvHalf named.e) there ⊎ Sunk recording later known fits h named.k (has_envelope groups named.k RecvHalf named.e) (number_of groups recording r SendHalf named.e p) there) → list_all q (send_needs groups recording known.sinks r p call) ≡ true
          by_back there met' found (inl same) = partnered there same (reached_or_free t bound named.k there met')
          by_back there met' found (inr (inl past)) =
              ⊎_elim
              (λ (member : set named.k ≡ true). absurd (behind there met' past member found (slice_get (places (has_envelope groups named.k RecvHalf named.e) (calls_of recording named.k)) (number_of groups recording r SendHalf named.e p)) refl))
              (λ (no : set named.k ≡ false). freed no past.is_open (slice_get (places (has_envelope groups named.k RecvHalf named.e) (calls_of recording named.k)) (number_of groups recording r SendHalf named.e p)) refl)
              (cases_Bool (set named.k))
          by_back there met' found (inr (inr sunk)) =
              let first = sink_first r p named.k (number_of groups recording r SendHalf named.e p) there named.e (spare_as None sunk.none) named.there sunk in
              let within : first.0.place ≤ get_or t first.0.rank 0 = subst (λ (x : ℕ). first.0.place ≤ get_or t x 0) (sym first.2) (omega (arith, first.3, met')) in
              sunken first.0 first.1 (reached_or_free t bound first.0.rank first.0.place within)

          by_later : (o : Option ℕ) → slice_get (places (has_envelope groups named.k RecvHalf named.e) (calls_of later named.k)) (number_of groups recording r SendHalf named.e p) ≡ o → list_all q (send_needs groups recording known.sinks r p call) ≡ true
          by_later None none = absurd (false≢true (sym (ap (λ (o : Option ℕ). is_met t (option_map_or (At named.k) o (Lacking named.k))) none) ∙ later_met))
          by_later (Some there) found =
              let met' : there ≤ get_or t named.k 0 = leb-true there (get_or t named.k 0) (sym (ap (λ (o : Option ℕ). is_met t (option_map_or (At named.k) o (Lacking named.k))) found) ∙ later_met) in
              by_back there met' found (back recording later known fits h named.k (has_envelope groups named.k RecvHalf named.e) (recv_mild named.k named.e) (number_of groups recording r SendHalf named.e p) there found)

  -- What an operation needs.
  no_send_needs : (r p : ℕ) (call : Call) → slice_get (calls_of recording r) p ≡ Some call → message_of SendHalf call ≡ None → send_needs groups recording known.sinks r p call ≡ []
  no_send_needs r p call old none =
      ap (λ (o : Option Sink). option_map_or (λ sink. At sink.rank sink.place ∷ []) o (half_needs groups recording r p SendHalf call)) (no_sink_for r p (by_partner (partner_of groups recording r p SendHalf)))
      ∙ ap (λ (o : Option Message). option_map_or (λ m. half_need groups recording r p SendHalf m ∷ []) o []) none
    where
      no_envelope : envelope_at groups recording r p SendHalf ≡ None
      no_envelope =
          ap (λ (o : Option Call). option_and_then (envelope_of groups r SendHalf) o) old
          ∙ ap (λ (o : Option Message). option_and_then (λ m. option_map (envelope_by SendHalf m) (group_rank_of groups m.comm r)) o) none

      by_partner : (o : Option (ℕ × ℕ)) → (if is_none o then envelope_at groups recording r p SendHalf else None) ≡ None
      by_partner None = no_envelope
      by_partner (Some x) = refl

  sends_on : (t : State) → Bound t → (r p : ℕ) (call : Call) → Here r p call → p ≤ get_or (stands_of reading groups recording) r 0 → (freely : Bool) → list_all (is_met t) (if freely then [] else half_needs groups later r p SendHalf call) ≡ true → list_all q (if freely then [] else send_needs groups recording known.sinks r p call) ≡ true
  sends_on t bound r p call here reached true met = refl
  sends_on t bound r p call here reached false met = by_message (message_of SendHalf call) refl
    where
      by_message : (o : Option Message) → message_of SendHalf call ≡ o → list_all q (send_needs groups recording known.sinks r p call) ≡ true
      by_message None none = ap (λ (needs : List Need). list_all q needs) (no_send_needs r p call here.old none)
      by_message (Some m) sends =
          let one : list_all (is_met t) (half_need groups later r p SendHalf m ∷ []) ≡ true = sym (ap (λ (o : Option Message). list_all (is_met t) (option_map_or (λ m. half_need groups later r p SendHalf m ∷ []) o [])) sends) ∙ met in
          send_on t bound r p call m sends here reached (and_parts (is_met t (half_need groups later r p SendHalf m)) true one).0

  recvs_on : (t : State) → Bound t → (r p : ℕ) (call : Call) → Here r p call → list_all (is_met t) (half_needs groups later r p RecvHalf call) ≡ true → list_all q (half_needs groups recording r p RecvHalf call) ≡ true
  recvs_on t bound r p call here met = by_message (message_of RecvHalf call) refl
    where
      by_message : (o : Option Message) → message_of RecvHalf call ≡ o → list_all q (half_needs groups recording r p RecvHalf call) ≡ true
      by_message None none = ap (λ (o : Option Message). list_all q (option_map_or (λ m. half_need groups recording r p RecvHalf m ∷ []) o [])) none
      by_message (Some m) receives =
          let one : list_all (is_met t) (half_need groups later r p RecvHalf m ∷ []) ≡ true = sym (ap (λ (o : Option Message). list_all (is_met t) (option_map_or (λ m. half_need groups later r p RecvHalf m ∷ []) o [])) receives) ∙ met in
          ap (λ (o : Option Message). list_all q (option_map_or (λ m. half_need groups recording r p RecvHalf m ∷ []) o [])) receives
          ∙ and_from (q (half_need groups recording r p RecvHalf m)) true (recv_on t bound r p call m receives here (and_parts (is_met t (half_need groups later r p RecvHalf m)) true one).0) refl

  probes_on : (t : State) → Bound t → (r p : ℕ) (call : Call) → Here r p call → list_all (is_met t) (probe_needs groups later r p call) ≡ true → list_all q (probe_needs groups recording r p call) ≡ true
  probes_on t bound r p call here met = by_message (probed_message call) refl
    where
      by_message : (o : Option Message) → probed_message call ≡ o → list_all q (probe_needs groups recording r p call) ≡ true
      by_message None none = ap (λ (o : Option Message). list_all q (option_map_or (λ m. probe_need groups recording r p m ∷ []) o [])) none
      by_message (Some m) probes =
          let one : list_all (is_met t) (probe_need groups later r p m ∷ []) ≡ true = sym (ap (λ (o : Option Message). list_all (is_met t) (option_map_or (λ m. probe_need groups later r p m ∷ []) o [])) probes) ∙ met in
          ap (λ (o : Option Message). list_all q (option_map_or (λ m. probe_need groups recording r p m ∷ []) o [])) probes
          ∙ and_from (q (probe_need groups recording r p m)) true (probe_on t bound r p call m probes here (and_parts (is_met t (probe_need groups later r p m)) true one).0) refl

  op_on : (t : State) → Bound t → (r p : ℕ) (call : Call) → Here r p call → p ≤ get_or (stands_of reading groups recording) r 0 → list_all (is_met t) (plain.operation_needs reading groups later r p call) ≡ true → list_all q (operation_needs reading groups recording known.sinks r p call) ≡ true
  op_on t bound r p call here reached met =
      let parts = four_parts (is_met t) (if sends_freely reading call then [] else half_needs groups later r p SendHalf call) (half_needs groups later r p RecvHalf call) (probe_needs groups later r p call) (wave_needs groups later r p) met in
      four_join q (if sends_freely reading call then [] else send_needs groups recording known.sinks r p call) (half_needs groups recording r p RecvHalf call) (probe_needs groups recording r p call) (wave_needs groups recording r p)
      (sends_on t bound r p call here reached (sends_freely reading call) parts.0) (recvs_on t bound r p call here parts.1) (probes_on t bound r p call here parts.2) (wave_on t bound r p call here parts.3)

  -- a receive from nobody needs nothing
  null_on : (r p req comm tag : ℕ) → slice_get (calls_of recording r) p ≡ Some (Irecv req comm peer.Null tag) → list_all q (operation_needs reading groups recording known.sinks r p (Irecv req comm peer.Null tag)) ≡ true
  null_on r p req comm tag old =
      four_join q (if sends_freely reading (Irecv req comm peer.Null tag) then [] else send_needs groups recording known.sinks r p (Irecv req comm peer.Null tag)) [] [] (wave_needs groups recording r p)
      (by_freely (sends_freely reading (Irecv req comm peer.Null tag))) refl refl
      (ap (λ (o : Option Call). list_all q (option_map_or (λ (wave : ℕ × ℕ). map (member_need recording wave.0 wave.1) (group_of groups wave.0)) (option_and_then (λ call. option_map {U = ℕ × ℕ} (λ comm. (comm, length (places (does_join comm) (take p (calls_of recording r))))) (joins call)) o) [])) old)
    where
      by_freely : (b : Bool) → list_all q (if b then [] else send_needs groups recording known.sinks r p (Irecv req comm peer.Null tag)) ≡ true
      by_freely true = refl
      by_freely false = ap (λ (needs : List Need). list_all q needs) (no_send_needs r p (Irecv req comm peer.Null tag) old refl)

  -- what a request needs that the call at a place started
  start_on : (t : State) → Bound t → (r x : ℕ) → x < length (calls_before_open recording r) → x ≤ get_or (stands_of reading groups recording) r 0 → list_all (is_met t) (plain.operation_needs_at reading groups later r x) ≡ true → list_all q (request_needs reading groups recording known.sinks r (Some x)) ≡ true
  start_on t bound r x within reached met = by_pair (pair_at recording later known fits h r x within)
    where
      by_pair : Pair recording later known fits h r x → list_all q (request_needs reading groups recording known.sinks r (Some x)) ≡ true
      by_pair pair = by_kind pair.filled
        where
          old : slice_get (calls_of recording r) x ≡ Some pair.before
          old = front_call recording r x within ∙ pair.was

          new : slice_get (calls_of later r) x ≡ Some pair.after
          new = later_call recording later known fits h r x within ∙ pair.is

          at_old : (call : Call) → pair.before ≡ call → list_all q (operation_needs reading groups recording known.sinks r x call) ≡ true → list_all q (request_needs reading groups recording known.sinks r (Some x)) ≡ true
          at_old call is passes = ap (λ (o : Option Call). list_all q (option_map_or (operation_needs reading groups recording known.sinks r x) o [])) (old ∙ ap (λ (c : Call). Some c) is) ∙ passes

          by_kind : IsFilled known.sinks r x pair.before pair.after → list_all q (request_needs reading groups recording known.sinks r (Some x)) ≡ true
          by_kind (inl same) =
              let new' : slice_get (calls_of later r) x ≡ Some pair.before = new ∙ ap (λ (c : Call). Some c) same in
              let met' : list_all (is_met t) (plain.operation_needs reading groups later r x pair.before) ≡ true =
              sym (ap (λ (o : Option Call). list_all (is_met t) (option_map_or (plain.operation_needs reading groups later r x) o [])) new') ∙ met in
              at_old pair.before refl (op_on t bound r x pair.before (record { within = within; old = old; new = new' }) reached met')
          by_kind (inr is_met') =
              let null = was_null recording later known fits h r x pair.before pair.after is_met' pair.was within in
              at_old (Irecv null.0 null.1 peer.Null null.2) null.3 (null_on r x null.0 null.1 null.2 (old ∙ ap (λ (c : Call). Some c) null.3))

  request_on : (t : State) → Bound t → (r p req : ℕ) → p ≤ length (calls_before_open recording r) → p ≤ get_or (stands_of reading groups recording) r 0 → list_all (is_met t) (plain.request_needs reading groups later r p req) ≡ true → list_all q (request_needs reading groups recording known.sinks r (started_before recording r p req)) ≡ true
  request_on t bound r p req within reached met = by_start (started_before recording r p req) refl
    where
      same : started_before later r p req ≡ started_before recording r p req
      same = started_alike recording later known fits h r p req within

      by_start : (o : Option ℕ) → started_before recording r p req ≡ o → list_all q (request_needs reading groups recording known.sinks r (started_before recording r p req)) ≡ true
      by_start None none = ap (λ (o : Option ℕ). list_all q (request_needs reading groups recording known.sinks r o)) none
      by_start (Some x) is =
          let it = started (take p (calls_of recording r)) req x is in
          let before = (get_take p (calls_of recording r) x it.starter it.stands_there).0 in
          let met' : list_all (is_met t) (plain.operation_needs_at reading groups later r x) ≡ true =
          sym (ap (λ (o : Option ℕ). list_all (is_met t) (option_map_or (plain.operation_needs_at reading groups later r) o [])) (same ∙ is)) ∙ met in
          ap (λ (o : Option ℕ). list_all q (request_needs reading groups recording known.sinks r o)) is
          ∙ start_on t bound r x (omega (arith, before, within)) (omega (arith, before, reached)) met'

  requests_on : (t : State) → Bound t → (r p : ℕ) → p ≤ length (calls_before_open recording r) → p ≤ get_or (stands_of reading groups recording) r 0 → (reqs : List ℕ) → list_all (is_met t) (flat_map (plain.request_needs reading groups later r p) reqs) ≡ true → list_all q (flat_map (λ req. request_needs reading groups recording known.sinks r (started_before recording r p req)) reqs) ≡ true
  requests_on t bound r p within reached [] met = refl
  requests_on t bound r p within reached (req ∷ reqs) met =
      let both = and_parts (list_all (is_met t) (plain.request_needs reading groups later r p req)) (list_all (is_met t) (flat_map (plain.request_needs reading groups later r p) reqs)) (sym (list_all-append (is_met t) (plain.request_needs reading groups later r p req) (flat_map (plain.request_needs reading groups later r p) reqs)) ∙ met) in
      list_all-append q (request_needs reading groups recording known.sinks r (started_before recording r p req)) (flat_map (λ req. request_needs reading groups recording known.sinks r (started_before recording r p req)) reqs)
      ∙ and_from (list_all q (request_needs reading groups recording known.sinks r (started_before recording r p req))) (list_all q (flat_map (λ req. request_needs reading groups recording known.sinks r (started_before recording r p req)) reqs))
      (request_on t bound r p req within reached both.0) (requests_on t bound r p within reached reqs both.1)

  pub call_on : (t : State) → Bound t → (r p : ℕ) (call : Call) → Here r p call → p ≤ get_or (stands_of reading groups recording) r 0 → (starting : Bool) → list_all (is_met t) (if starting then [] else plain.operation_needs reading groups later r p call ++ flat_map (plain.request_needs reading groups later r p) (completes call)) ≡ true → list_all q (if starting then [] else operation_needs reading groups recording known.sinks r p call ++ flat_map (λ req. request_needs reading groups recording known.sinks r (started_before recording r p req)) (completes call)) ≡ true
  call_on t bound r p call here reached true met = refl
  call_on t bound r p call here reached false met =
      let both = and_parts (list_all (is_met t) (plain.operation_needs reading groups later r p call)) (list_all (is_met t) (flat_map (plain.request_needs reading groups later r p) (completes call))) (sym (list_all-append (is_met t) (plain.operation_needs reading groups later r p call) (flat_map (plain.request_needs reading groups later r p) (completes call))) ∙ met) in
      list_all-append q (operation_needs reading groups recording known.sinks r p call) (flat_map (λ req. request_needs reading groups recording known.sinks r (started_before recording r p req)) (completes call))
      ∙ and_from (list_all q (operation_needs reading groups recording known.sinks r p call)) (list_all q (flat_map (λ req. request_needs reading groups recording known.sinks r (started_before recording r p req)) (completes call)))
      (op_on t bound r p call here reached both.0) (requests_on t bound r p (omega (arith, here.within)) reached (completes call) both.1)

  -- Messages that a pending call waits for.

  -- no receive has the number that a later one has after all of them
  none_later : (r x number : ℕ) (e : Envelope) → number ≡ number_of groups later r RecvHalf e x → ((p : ℕ) (call : Call) → x ≤ p → p < length (calls_before_open recording r) → slice_get (calls_of recording r) p ≡ Some call → has_envelope groups r RecvHalf e call ≡ true → ⊥) → slice_get (places (has_envelope groups r RecvHalf e) (calls_of recording r)) number ≡ None
  none_later r x number e count behind = by_slot (slice_get (places (has_envelope groups r RecvHalf e) (calls_of recording r)) number) refl
    where
      by_slot : (o : Option ℕ) → slice_get (places (has_envelope groups r RecvHalf e) (calls_of recording r)) number ≡ o → o ≡ None
      by_slot None is = refl
      by_slot (Some p) is =
          let found = on recording later known fits h r (has_envelope groups r RecvHalf e) (recv_mild r e) number p is in
          let nth = nth_place 0 (has_envelope groups r RecvHalf e) (calls_of later r) number p found in
          let old = nth_place 0 (has_envelope groups r RecvHalf e) (calls_of recording r) number p is in
          let same : old.index ≡ p = omega (arith, old.place) in
          let stands : slice_get (calls_of recording r) p ≡ Some old.element = ap (λ (i : ℕ). slice_get (calls_of recording r) i) (sym same) ∙ old.stands_there in
          let isnt_open : old.element ≡ Open → ⊥ = λ is_open. false≢true (sym (ap (has_envelope groups r RecvHalf e) is_open) ∙ old.passes) in
          ⊎_elim
          (λ (less : p < x).
          let less' : nth.index < x = omega (arith, nth.place, less) in
          let fewer = before_less 0 (has_envelope groups r RecvHalf e) (calls_of later r) nth.index x nth.element less' nth.stands_there nth.passes in
          absurd (omega (arith, fewer, nth.before, count)))
          (λ (past : x ≤ p). absurd (behind p old.element past (not_open recording r p old.element stands isnt_open) stands old.passes))
          (cases_lt p x)

  -- a wanted message of which the send is reached later
  message_way : (t : State) → Bound t → (r : ℕ) → set r ≡ true → (wanted : Wanted) (e : Envelope) (k number there : ℕ) → takes wanted e.comm e.source e.tag ≡ true → rank_of_half groups SendHalf e ≡ Some k → rank_of_half groups RecvHalf e ≡ Some r → slice_get (places (has_envelope groups r RecvHalf e) (calls_of recording r)) number ≡ None → slice_get (places (has_envelope groups k SendHalf e) (calls_of later k)) number ≡ Some there → there ≤ get_or t k 0 → list_any q (ways_of groups recording r wanted) ≡ true
  message_way t bound r member wanted e k number there taken from to none found reached =
      by_back (reached_back t bound k (has_envelope groups k SendHalf e) (quiet_send k e) number there found reached)
    where
      by_back : (slice_get (places (has_envelope groups k SendHalf e) (calls_of recording k)) number ≡ Some there) ⊎ ((set k ≡ false) × (is_left_open recording k ≡ true)) → list_any q (ways_of groups recording r wanted) ≡ true
      by_back (inr free) =
          let other : k ≢ r = λ same. false≢true (sym free.0 ∙ ap set same ∙ member) in
          way_source r wanted k (sender_among wanted e k taken from) other (free_lacking k free.0 free.1)
      by_back (inl same) =
          let nth = nth_place 0 (has_envelope groups k SendHalf e) (calls_of recording k) number there same in
          let is : nth.index ≡ there = omega (arith, nth.place) in
          let stands : slice_get (calls_of recording k) there ≡ Some nth.element = ap (λ (i : ℕ). slice_get (calls_of recording k) i) (sym is) ∙ nth.stands_there in
          let has : envelope_of groups k SendHalf nth.element ≡ Some e = has_it groups k SendHalf e nth.element nth.passes in
          let count : number_of groups recording k SendHalf e there ≡ number = ap (λ (i : ℕ). length (places (has_envelope groups k SendHalf e) (take i (calls_of recording k)))) (sym is) ∙ nth.before in
          let slot : slice_get (places (has_envelope groups r RecvHalf e) (calls_of recording r)) (number_of groups recording k SendHalf e there) ≡ None = ap (λ (n : ℕ). slice_get (places (has_envelope groups r RecvHalf e) (calls_of recording r)) n) count ∙ none in
          let no_partner : partner_of groups recording k there SendHalf ≡ None =
          rw (stands, has, to) (ap (λ (o : Option ℕ). option_map {U = ℕ × ℕ} (λ place. (r, place)) o) slot) in
          let envelope : envelope_at groups recording k there SendHalf ≡ Some e = ap (λ (o : Option Call). option_and_then (envelope_of groups k SendHalf) o) stands ∙ has in
          let spare : spare_at groups recording k there ≡ Some e = ap (λ (o : Option (ℕ × ℕ)). if is_none o then envelope_at groups recording k there SendHalf else None) no_partner ∙ envelope in
          way_spare r wanted k there e spare (goes_here r e to) taken (slice_get_within (calls_of recording k) there nth.element stands) (reached_or_free t bound k there reached)

  by_slot : (t : State) → Bound t → (r : ℕ) → set r ≡ true → (wanted : Wanted) (e : Envelope) (k number : ℕ) → takes wanted e.comm e.source e.tag ≡ true → rank_of_half groups SendHalf e ≡ Some k → rank_of_half groups RecvHalf e ≡ Some r → slice_get (places (has_envelope groups r RecvHalf e) (calls_of recording r)) number ≡ None → (o : Option ℕ) → slice_get (places (has_envelope groups k SendHalf e) (calls_of later k)) number ≡ o → is_met t (nth_need later (has_envelope groups k SendHalf e) k number) ≡ true → list_any q (ways_of groups recording r wanted) ≡ true
  by_slot t bound r member wanted e k number taken from to none None is met = absurd (false≢true (sym (ap (λ (o : Option ℕ). is_met t (option_map_or (At k) o (Lacking k))) is) ∙ met))
  by_slot t bound r member wanted e k number taken from to none (Some there) is met =
      message_way t bound r member wanted e k number there taken from to none is (leb-true there (get_or t k 0) (sym (ap (λ (o : Option ℕ). is_met t (option_map_or (At k) o (Lacking k))) is) ∙ met))

  -- by a need of the message that is met later
  half_way : (t : State) → Bound t → (r x : ℕ) (call : Call) (m : Message) (wanted : Wanted) → set r ≡ true → message_of RecvHalf call ≡ Some m → takes wanted m.comm m.peer m.tag ≡ true → slice_get (calls_of later r) x ≡ Some call → ((p : ℕ) (n : Message) → x ≤ p → p < length (calls_before_open recording r) → HasMessage recording r p n → m.comm ≡ n.comm → m.peer ≡ n.peer → m.tag ≡ n.tag → ⊥) → is_met t (half_need groups later r x RecvHalf m) ≡ true → list_any q (ways_of groups recording r wanted) ≡ true
  half_way t bound r x call m wanted member receives taken new behind met =
      ⊎_elim
      (λ nobody. absurd (false≢true (sym (ap (is_met t) (nobody later new)) ∙ met)))
      (λ (named : Named groups r x call RecvHalf m).
      let are = fields r m named.e (rw receives at named.has) in
      let to = own_rank groups r RecvHalf call named.e named.has in
      let taken' : takes wanted named.e.comm named.e.source named.e.tag ≡ true = same_takes wanted named.e.comm named.e.source named.e.tag m.comm m.peer m.tag are.0 are.1 are.2 ∙ taken in
      let none = none_later r x (number_of groups later r RecvHalf named.e x) named.e refl
      (λ p other past within stands passes.
      let got = received groups r named.e other passes in
      behind p got.m past within (inl (ap (λ (o : Option Call). option_and_then (message_of RecvHalf) o) stands ∙ got.receives)) (sym are.0 ∙ got.comm) (sym are.1 ∙ got.source) (sym are.2 ∙ got.tag)) in
      let later' : is_met t (nth_need later (has_envelope groups named.k SendHalf named.e) named.k (number_of groups later r RecvHalf named.e x)) ≡ true = ap (is_met t) (sym (named.is later new)) ∙ met in
      by_slot t bound r member wanted named.e named.k (number_of groups later r RecvHalf named.e x) taken' named.there to none (slice_get (places (has_envelope groups named.k SendHalf named.e) (calls_of later named.k)) (number_of groups later r RecvHalf named.e x)) refl later')
      (half_view groups r x call RecvHalf m receives)

  probe_way : (t : State) → Bound t → (r x : ℕ) (call : Call) (m : Message) (wanted : Wanted) → set r ≡ true → probed_message call ≡ Some m → takes wanted m.comm m.peer m.tag ≡ true → slice_get (calls_of later r) x ≡ Some call → length (calls_before_open recording r) ≤ x → is_met t (probe_need groups later r x m) ≡ true → list_any q (ways_of groups recording r wanted) ≡ true
  probe_way t bound r x call m wanted member probes taken new behind met =
      ⊎_elim
      (λ nobody. absurd (false≢true (sym (ap (is_met t) (nobody later new)) ∙ met)))
      (λ (named : NamedProbe groups r x call m).
      let has : option_map (envelope_by RecvHalf m) (group_rank_of groups m.comm r) ≡ Some named.e = rw probes at named.has in
      let are = fields r m named.e has in
      let to = kept.own_probed reading groups recording later known fits h r m named.e has in
      let taken' : takes wanted named.e.comm named.e.source named.e.tag ≡ true = same_takes wanted named.e.comm named.e.source named.e.tag m.comm m.peer m.tag are.0 are.1 are.2 ∙ taken in
      let none = none_later r x (number_of groups later r RecvHalf named.e x) named.e refl (λ p other past within stands passes. absurd (omega (arith, past, within, behind))) in
      let later' : is_met t (nth_need later (has_envelope groups named.k SendHalf named.e) named.k (number_of groups later r RecvHalf named.e x)) ≡ true = ap (is_met t) (sym (named.is later new)) ∙ met in
      by_slot t bound r member wanted named.e named.k (number_of groups later r RecvHalf named.e x) taken' named.there to none (slice_get (places (has_envelope groups named.k SendHalf named.e) (calls_of later named.k)) (number_of groups later r RecvHalf named.e x)) refl later')
      (probe_view groups r x call m probes)

  -- what a sink was met by, of a message that is wanted
  sink_way : (t : State) → Bound t → (r start req comm source tag : ℕ) (wanted : Wanted) → set r ≡ true → IsSinkAt known.sinks r start → slice_get (calls_of later r) start ≡ Some (Irecv req comm (peer.Rank source) tag) → takes wanted comm source tag ≡ true → list_all (is_met t) (plain.operation_needs_at reading groups later r start) ≡ true → list_any q (ways_of groups recording r wanted) ≡ true
  sink_way t bound r start req comm source tag wanted member there is_receive taken met = by_pair (pair_at recording later known fits h r start within)
    where
      has : HasItsPlace recording there.sink
      has = fits.have_places there.index there.sink there.is_one

      null : slice_get (calls_of recording r) start ≡ Some (Irecv has.req has.comm peer.Null has.tag)
      null =
          subst (λ (p : ℕ). slice_get (calls_of recording r) p ≡ Some (Irecv has.req has.comm peer.Null has.tag)) there.is_place
          (subst (λ (k : ℕ). slice_get (calls_of recording k) there.sink.place ≡ Some (Irecv has.req has.comm peer.Null has.tag)) there.is_rank has.is_there)

      isnt_open : Irecv has.req has.comm peer.Null has.tag ≡ Open → ⊥
      isnt_open is = cc

      within : start < length (calls_before_open recording r)
      within = not_open recording r start (Irecv has.req has.comm peer.Null has.tag) null isnt_open

      need_met : is_met t (half_need groups later r start RecvHalf (record { comm = comm; peer = source; tag = tag })) ≡ true
      need_met =
          let all : list_all (is_met t) (plain.operation_needs reading groups later r start (Irecv req comm (peer.Rank source) tag)) ≡ true =
          sym (ap (λ (o : Option Call). list_all (is_met t) (option_map_or (plain.operation_needs reading groups later r start) o [])) is_receive) ∙ met in
          let parts = four_parts (is_met t) (if sends_freely reading (Irecv req comm (peer.Rank source) tag) then [] else half_needs groups later r start SendHalf (Irecv req comm (peer.Rank source) tag)) (half_needs groups later r start RecvHalf (Irecv req comm (peer.Rank source) tag)) (probe_needs groups later r start (Irecv req comm (peer.Rank source) tag)) (wave_needs groups later r start) all in
          (and_parts (is_met t (half_need groups later r start RecvHalf (record { comm = comm; peer = source; tag = tag }))) true parts.1).0

      by_pair : Pair recording later known fits h r start → list_any q (ways_of groups recording r wanted) ≡ true
      by_pair pair = by_kind pair.filled
        where
          after_is : pair.after ≡ Irecv req comm (peer.Rank source) tag
          after_is = same_Some pair.after (Irecv req comm (peer.Rank source) tag) (sym pair.is ∙ sym (later_call recording later known fits h r start within) ∙ is_receive)

          before_is : pair.before ≡ Irecv has.req has.comm peer.Null has.tag
          before_is = same_Some pair.before (Irecv has.req has.comm peer.Null has.tag) (sym pair.was ∙ sym (front_call recording r start within) ∙ null)

          no_message : (p : ℕ) (n : Message) → slice_get (calls_of recording r) p ≡ Some (Irecv has.req has.comm peer.Null has.tag) → HasMessage recording r p n → ⊥
          no_message p n there' (inl received') = none-some n (sym (ap (λ (o : Option Call). option_and_then (message_of RecvHalf) o) there') ∙ received')
          no_message p n there' (inr probed) = none-some n (sym (ap (λ (o : Option Call). option_and_then probed_message o) there') ∙ probed)

          by_kind : IsFilled known.sinks r start pair.before pair.after → list_any q (ways_of groups recording r wanted) ≡ true
          by_kind (inl same) =
              let never : Irecv has.req has.comm peer.Null has.tag ≡ Irecv req comm (peer.Rank source) tag = sym before_is ∙ sym same ∙ after_is in
              absurd cc
          by_kind (inr is_met') =
              let alike : Irecv is_met'.req is_met'.comm (peer.Rank is_met'.source) is_met'.tag ≡ Irecv req comm (peer.Rank source) tag = sym is_met'.is_receive ∙ after_is in
              let same_comm : is_met'.comm ≡ comm = cc in
              let same_source : is_met'.source ≡ source = cc in
              let same_tag : is_met'.tag ≡ tag = cc in
              half_way t bound r start (Irecv req comm (peer.Rank source) tag) (record { comm = comm; peer = source; tag = tag }) wanted member refl taken is_receive
              (λ p n past less has_it' one two three.
              ⊎_elim
              (λ (later' : start < p).
              let sink = is_met'.there in
              let before' : sink.sink.place < p = omega (arith, later', sink.is_place) in
              let has'' : HasMessage recording sink.sink.rank p n = subst (λ (k : ℕ). HasMessage recording k p n) (sym sink.is_rank) has_it' in
              let takes_it : takes sink.sink.wanted n.comm n.peer n.tag ≡ true = same_takes sink.sink.wanted n.comm n.peer n.tag is_met'.comm is_met'.source is_met'.tag (sym one ∙ sym same_comm) (sym two ∙ sym same_source) (sym three ∙ sym same_tag) ∙ is_met'.is_taken in
              false≢true (sym (fits.none_behind sink.index p sink.sink n sink.is_one before' has'') ∙ takes_it))
              (λ (least : p ≤ start).
              let same_place : p ≡ start = omega (arith, least, past) in
              let there' : slice_get (calls_of recording r) p ≡ Some (Irecv has.req has.comm peer.Null has.tag) = ap (λ (i : ℕ). slice_get (calls_of recording r) i) same_place ∙ null in
              no_message p n there' has_it')
              (cases_lt start p))
              need_met

  -- a request of the list is the same at its end
  started_at_end : (r req : ℕ) → is_left_open recording r ≡ true → started_in (calls_of recording r) req ≡ started_before recording r (length (calls_before_open recording r)) req
  started_at_end r req opens =
      ap (λ (calls : List Call). started_in calls req) (opened r opens)
      ∙ leaves_it (calls_before_open recording r) Open req refl refl
      ∙ ap (λ (calls : List Call). started_in calls req) (sym (front_take recording r (length (calls_before_open recording r)) (omega arith) ∙ take_all (length (calls_before_open recording r)) (calls_before_open recording r) (omega arith)))

  -- an item that the call brings
  pub item_on : (t : State) → Bound t → (r : ℕ) (call : Call) → set r ≡ true → is_left_open recording r ≡ true → get_or (stands_of reading groups recording) r 0 ≡ length (calls_before_open recording r) → slice_get (calls_of later r) (length (calls_before_open recording r)) ≡ Some call → may_come_back call ≡ true → list_all (is_met t) (plain.needs_of_call reading groups later r (length (calls_before_open recording r)) call) ≡ true → (one : Item) → Brings known.sinks later r (length (h.filled r)) call one → part_over r one ≡ true
  item_on t bound r call member opens stand there comes met one brings = by_item one brings
    where
      no_start : is_some (starts call) ≡ false
      no_start = starts_none call comes

      all : list_all (is_met t) (plain.operation_needs reading groups later r (length (calls_before_open recording r)) call ++ flat_map (plain.request_needs reading groups later r (length (calls_before_open recording r))) (completes call)) ≡ true
      all = sym (ap (λ (b : Bool). list_all (is_met t) (if b then [] else plain.operation_needs reading groups later r (length (calls_before_open recording r)) call ++ flat_map (plain.request_needs reading groups later r (length (calls_before_open recording r))) (completes call))) no_start) ∙ met

      both : (list_all (is_met t) (plain.operation_needs reading groups later r (length (calls_before_open recording r)) call) ≡ true) × (list_all (is_met t) (flat_map (plain.request_needs reading groups later r (length (calls_before_open recording r))) (completes call)) ≡ true)
      both = and_parts _ _ (sym (list_all-append (is_met t) (plain.operation_needs reading groups later r (length (calls_before_open recording r)) call) (flat_map (plain.request_needs reading groups later r (length (calls_before_open recording r))) (completes call))) ∙ all)

      own : (list_all (is_met t) (if sends_freely reading call then [] else half_needs groups later r (length (calls_before_open recording r)) SendHalf call) ≡ true) × (list_all (is_met t) (half_needs groups later r (length (calls_before_open recording r)) RecvHalf call) ≡ true) × (list_all (is_met t) (probe_needs groups later r (length (calls_before_open recording r)) call) ≡ true) × (list_all (is_met t) (wave_needs groups later r (length (calls_before_open recording r))) ≡ true)
      own = four_parts (is_met t) (if sends_freely reading call then [] else half_needs groups later r (length (calls_before_open recording r)) SendHalf call) (half_needs groups later r (length (calls_before_open recording r)) RecvHalf call) (probe_needs groups later r (length (calls_before_open recording r)) call) (wave_needs groups later r (length (calls_before_open recording r))) both.0

      of_request : (req : ℕ) → is_among req (completes call) ≡ true → list_all (is_met t) (plain.request_needs reading groups later r (length (calls_before_open recording r)) req) ≡ true
      of_request req among = flat_all (is_met t) (plain.request_needs reading groups later r (length (calls_before_open recording r))) req (completes call) among both.1

      by_item : (one : Item) → Brings known.sinks later r (length (h.filled r)) call one → part_over r one ≡ true
      by_item (item.Request req) among =
          ap (λ (o : Option ℕ). list_all q (request_needs reading groups recording known.sinks r o)) (started_at_end r req opens)
          ∙ request_on t bound r (length (calls_before_open recording r)) req (omega arith) (omega (arith, stand)) (of_request req among)
      by_item (item.Message wanted) (inl has) = by_message has.has_it
        where
          by_message : (message_of RecvHalf call ≡ Some has.message) ⊎ (probed_message call ≡ Some has.message) → list_any q (ways_of groups recording r wanted) ≡ true
          by_message (inl receives) =
              let need : list_all (is_met t) (half_need groups later r (length (calls_before_open recording r)) RecvHalf has.message ∷ []) ≡ true =
              sym (ap (λ (o : Option Message). list_all (is_met t) (option_map_or (λ m. half_need groups later r (length (calls_before_open recording r)) RecvHalf m ∷ []) o [])) receives) ∙ own.1 in
              half_way t bound r (length (calls_before_open recording r)) call has.message wanted member receives has.is_wanted there
              (λ p n past within has' one two three. absurd (omega (arith, past, within)))
              (and_parts (is_met t (half_need groups later r (length (calls_before_open recording r)) RecvHalf has.message)) true need).0
          by_message (inr probes) =
              let need : list_all (is_met t) (probe_need groups later r (length (calls_before_open recording r)) has.message ∷ []) ≡ true =
              sym (ap (λ (o : Option Message). list_all (is_met t) (option_map_or (λ m. probe_need groups later r (length (calls_before_open recording r)) m ∷ []) o [])) probes) ∙ own.2 in
              probe_way t bound r (length (calls_before_open recording r)) call has.message wanted member probes has.is_wanted there (omega arith)
              (and_parts (is_met t (probe_need groups later r (length (calls_before_open recording r)) has.message)) true need).0
      by_item (item.Message wanted) (inr it) =
          let start : started_before later r (length (calls_before_open recording r)) it.req ≡ Some it.start = ap (λ (p : ℕ). started_before later r p it.req) (sym (h.same_length r)) ∙ it.is_started in
          let needs : list_all (is_met t) (plain.operation_needs_at reading groups later r it.start) ≡ true =
          sym (ap (λ (o : Option ℕ). list_all (is_met t) (option_map_or (plain.operation_needs_at reading groups later r) o [])) start) ∙ of_request it.req it.completes_it in
          sink_way t bound r it.start it.started it.comm it.source it.tag wanted member it.there it.is_receive it.is_wanted needs
