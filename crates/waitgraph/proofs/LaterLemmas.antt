-- What the calls of a recording need once its lists go on: whoever could move can.
use Rattle.moves.specs.declared.reading.Reading.{Reading}
use Rattle.std.proofs.Common.{if◌then◌else◌, inl, inr, ◌≡◌, ◌⊎◌, ℕ, ◌<◌, ◌==◌, Bool, true, false, Option, Some, None, is_some, List, [], ◌∷◌, ◌++◌, length, map, flat_map, take, get_or, refl, sym, ap, subst, ◌∙◌, ⊎_elim, arith}
use Rattle.std.specs.List.{slice_get, list_all}
use Rattle.std.specs.Option.{option_and_then, option_map, option_map_or}
use Rattle.std.proofs.lemmas.List.Folds.{list_all-append}
use Rattle.std.proofs.lemmas.Option.{same_Some}
use Rattle.std.proofs.lemmas.Bool.{false≢true, and_parts, and_from, or_left, or_right, eqb-true, eq-eqb, false_from_ne_true}
use Rattle.mpicall.specs.Ending.{ends_list}
use Rattle.mpicall.specs.declared.call.Call.{Call}
use Rattle.mpicall.specs.declared.call.Call.TheVariants.{Irecv, Open}
use Rattle.mpigroup.specs.Groups.{Groups, group_of, group_rank_of}
use Rattle.callstore.specs.declared.envelope.Envelope.{Envelope}
use Rattle.callstore.specs.declared.envelope.Half.{Half}
use Rattle.callstore.specs.declared.envelope.Half.TheVariants.{Send as SendHalf, Recv as RecvHalf}
use Rattle.callstore.specs.declared.envelope.Message.{Message}
use Rattle.callstore.specs.Recordings.{Lists, calls_of}
use Rattle.callstore.specs.Places.{places}
use Rattle.callstore.specs.Envelopes.{message_of, probed_message, envelope_by, has_envelope, rank_of_half}
use Rattle.callstore.specs.Requests.{starts, completes, does_start, is_among, started_in, started_before}
use Rattle.callstore.specs.Waves.{does_join, wave_of, joins}
use Rattle.callstore.proofs.OptionLemmas.{map_parts}
use Rattle.callstore.proofs.RequestLemmas.{started}
use Rattle.pairing.specs.Partners.{number_of}
use Rattle.pairing.proofs.RequestLaws.{get_take, completed_is_over}
use Rattle.moves.specs.declared.need.Need.TheVariants.{At, Lacking}
use Rattle.moves.specs.Runs.{State, AreSteps}
use Rattle.moves.specs.Needs.{half_need, half_needs, probe_need, probe_needs, member_need, wave_needs, sends_freely, is_met, can_move}
use Rattle.moves.proofs.NeedLemmas.{CanPass, can_pass, can_from_pass}
use Rattle.moves.proofs.OntoLemmas.{nth_need}
use Rattle.waitgraph.specs.Stays.{calls_before_open}
use Rattle.waitgraph.specs.Pending.{Known, takes}
use Rattle.waitgraph.specs.PendingStays.{FitsSinks, HasMessage, IsMet, IsFilled, may_come_back, GoesOnBy}
use Rattle.waitgraph.proofs.FilledLemmas.{front_call, not_open, Pair, pair_at, later_call, IsBlind, fronts_same, blind_fronts, started_alike, Mild, on}
use Rattle.waitgraph.proofs.PendingViewLemmas.{Named, NamedProbe, all_on, four_join, four_parts, half_view, joins_none, probe_view, rank_of_member, received, same_fields, same_takes, sends_none}
use Rattle.mpicall.specs.declared.call.Peer.TheVariants as peer
use Rattle.moves.specs.Needs as plain

module _ (reading : Reading) (groups : Groups) (recording later : Lists) (known : Known) (fits : FitsSinks recording known.sinks) (h : GoesOnBy recording known later) where
  -- a test that neither a receive that is started passes nor a call that comes back
  pub record Quiet (test : Call → Bool) : Type 0 where
    pub not_open : test Open ≡ false
    pub blind : IsBlind recording later known fits h test
    pub first : (call : Call) → (call ≡ Open) ⊎ (may_come_back call ≡ true) → test call ≡ false

  pub quiet_mild : (k : ℕ) (test : Call → Bool) → Quiet test → Mild recording later known fits h k test
  quiet_mild k test quiet = record {
    not_open = quiet.not_open;
    null_fails = λ req comm tag. quiet.blind req comm peer.Null tag;
    apart = λ p x call before after less there passes met. ap test met.is_receive ∙ quiet.blind met.req met.comm (peer.Rank met.source) met.tag;
  }

  pub quiet_send : (k : ℕ) (e : Envelope) → Quiet (has_envelope groups k SendHalf e)
  quiet_send k e = record { not_open = refl; blind = λ req comm p tag. refl; first = sends_none groups k e }

  pub quiet_join : (comm : ℕ) → Quiet (does_join comm)
  quiet_join comm = record { not_open = refl; blind = λ req c p tag. refl; first = joins_none comm }

  -- a call that both recordings have in the place
  pub record Here (r p : ℕ) (call : Call) : Type 0 where
    pub within : p < length (calls_before_open recording r)
    pub old : slice_get (calls_of recording r) p ≡ Some call
    pub new : slice_get (calls_of later r) p ≡ Some call

  -- no sink before it was met by what it receives or probes for
  pub apart : (r p : ℕ) (m : Message) → HasMessage recording r p m → (e : Envelope) → e.comm ≡ m.comm → e.source ≡ m.peer → e.tag ≡ m.tag → (x : ℕ) (before after : Call) → x < p → IsMet known.sinks r x before after → has_envelope groups r RecvHalf e after ≡ false
  apart r p m has e comm source tag x before after less met =
      false_from_ne_true (has_envelope groups r RecvHalf e after)
      (λ passes.
      let got = received groups r e (Irecv met.req met.comm (peer.Rank met.source) met.tag) (ap (has_envelope groups r RecvHalf e) (sym met.is_receive) ∙ passes) in
      let is = same_fields (record { comm = met.comm; peer = met.source; tag = met.tag }) got.m got.receives in
      let taken : takes met.there.sink.wanted m.comm m.peer m.tag ≡ true =
      same_takes met.there.sink.wanted m.comm m.peer m.tag met.comm met.source met.tag
      (sym comm ∙ got.comm ∙ sym is.0)
      (sym source ∙ got.source ∙ sym is.1)
      (sym tag ∙ got.tag ∙ sym is.2)
      ∙ met.is_taken in
      let before' : met.there.sink.place < p = omega (arith, less, met.there.is_place) in
      let has' : HasMessage recording met.there.sink.rank p m = subst (λ (k : ℕ). HasMessage recording k p m) (sym met.there.is_rank) has in
      false≢true (sym (fits.none_behind met.there.index p met.there.sink m met.there.is_one before' has') ∙ taken))

  -- the fields of an envelope, by its message
  pub fields : (r : ℕ) (m : Message) (e : Envelope) → option_map (envelope_by RecvHalf m) (group_rank_of groups m.comm r) ≡ Some e → (e.comm ≡ m.comm) × (e.source ≡ m.peer) × (e.tag ≡ m.tag)
  fields r m e has =
      let parts = map_parts (envelope_by RecvHalf m) (group_rank_of groups m.comm r) e has in
      (ap (λ (x : Envelope). x.comm) (sym parts.2), ap (λ (x : Envelope). x.source) (sym parts.2), ap (λ (x : Envelope). x.tag) (sym parts.2))

  pub same_wave : (r p : ℕ) (call : Call) → Here r p call → wave_of later r p ≡ wave_of recording r p
  same_wave r p call here = rw (here.new, here.old) (joined (joins call))
    where
      counts : (comm : ℕ) → length (places (does_join comm) (take p (calls_of later r))) ≡ length (places (does_join comm) (take p (calls_of recording r)))
      counts comm = ap (length {A = ℕ}) (blind_fronts recording later known fits h (does_join comm) (quiet_join comm).blind r p (omega (arith, here.within)))

      joined : (o : Option ℕ) → option_map {U = ℕ × ℕ} (λ comm. (comm, length (places (does_join comm) (take p (calls_of later r))))) o ≡ option_map {U = ℕ × ℕ} (λ comm. (comm, length (places (does_join comm) (take p (calls_of recording r))))) o
      joined None = refl
      joined (Some comm) = ap (λ (n : ℕ). Some (comm, n)) (counts comm)

  -- The receives of a rank keep their numbers.
  pub recv_mild : (k : ℕ) (e : Envelope) → Mild recording later known fits h k (has_envelope groups k RecvHalf e)
  recv_mild k e = record {
    not_open = refl;
    null_fails = λ req comm tag. refl;
    apart = λ p x call before after less there passes met.
        let got = received groups k e call passes in
        let has : HasMessage recording k p got.m = inl (ap (λ (o : Option Call). option_and_then (message_of RecvHalf) o) there ∙ got.receives) in
        apart k p got.m has e got.comm got.source got.tag x before after less met;
  }

  pub own_probed : (r : ℕ) (m : Message) (e : Envelope) → option_map (envelope_by RecvHalf m) (group_rank_of groups m.comm r) ≡ Some e → rank_of_half groups RecvHalf e ≡ Some r
  own_probed r m e has =
      let parts = map_parts (envelope_by RecvHalf m) (group_rank_of groups m.comm r) e has in
      subst (λ (x : Envelope). rank_of_half groups RecvHalf x ≡ Some r) parts.2 (rank_of_member groups m.comm r parts.0 parts.1)

  -- The other way: over the later recording whoever could move can.
  pub on_need : (u : State) (k : ℕ) (test : Call → Bool) → Mild recording later known fits h k test → (number : ℕ) → is_met u (nth_need recording test k number) ≡ true → is_met u (nth_need later test k number) ≡ true
  on_need u k test mild number met = by_slot (slice_get (places test (calls_of recording k)) number) refl
    where
      by_slot : (o : Option ℕ) → slice_get (places test (calls_of recording k)) number ≡ o → is_met u (nth_need later test k number) ≡ true
      by_slot None is = absurd (false≢true (sym (ap (λ (o : Option ℕ). is_met u (option_map_or (At k) o (Lacking k))) is) ∙ met))
      by_slot (Some there) is =
          ap (λ (o : Option ℕ). is_met u (option_map_or (At k) o (Lacking k))) (on recording later known fits h k test mild number there is ∙ sym is) ∙ met

  pub send_too : (u : State) (r p : ℕ) (call : Call) (m : Message) → message_of SendHalf call ≡ Some m → Here r p call → is_met u (half_need groups recording r p SendHalf m) ≡ true → is_met u (half_need groups later r p SendHalf m) ≡ true
  send_too u r p call m sends here met =
      ⊎_elim
      (λ nobody. absurd (false≢true (sym (ap (is_met u) (nobody recording here.old)) ∙ met)))
      (λ (named : Named groups r p call SendHalf m).
      let counts : number_of groups later r SendHalf named.e p ≡ number_of groups recording r SendHalf named.e p =
      ap (length {A = ℕ}) (blind_fronts recording later known fits h (has_envelope groups r SendHalf named.e) (quiet_send r named.e).blind r p (omega (arith, here.within))) in
      ap (is_met u) (named.is later here.new)
      ∙ ap (λ (n : ℕ). is_met u (nth_need later (has_envelope groups named.k RecvHalf named.e) named.k n)) counts
      ∙ on_need u named.k (has_envelope groups named.k RecvHalf named.e) (recv_mild named.k named.e) (number_of groups recording r SendHalf named.e p) (ap (is_met u) (sym (named.is recording here.old)) ∙ met))
      (half_view groups r p call SendHalf m sends)

  pub recv_too : (u : State) (r p : ℕ) (call : Call) (m : Message) → message_of RecvHalf call ≡ Some m → Here r p call → is_met u (half_need groups recording r p RecvHalf m) ≡ true → is_met u (half_need groups later r p RecvHalf m) ≡ true
  recv_too u r p call m receives here met =
      ⊎_elim
      (λ nobody. absurd (false≢true (sym (ap (is_met u) (nobody recording here.old)) ∙ met)))
      (λ (named : Named groups r p call RecvHalf m).
      let are = fields r m named.e (rw receives at named.has) in
      let has : HasMessage recording r p m = inl (ap (λ (o : Option Call). option_and_then (message_of RecvHalf) o) here.old ∙ receives) in
      let counts : number_of groups later r RecvHalf named.e p ≡ number_of groups recording r RecvHalf named.e p =
      ap (length {A = ℕ}) (fronts_same recording later known fits h (has_envelope groups r RecvHalf named.e) r p (omega (arith, here.within)) (λ req comm tag. refl) (apart r p m has named.e are.0 are.1 are.2)) in
      ap (is_met u) (named.is later here.new)
      ∙ ap (λ (n : ℕ). is_met u (nth_need later (has_envelope groups named.k SendHalf named.e) named.k n)) counts
      ∙ on_need u named.k (has_envelope groups named.k SendHalf named.e) (quiet_mild named.k (has_envelope groups named.k SendHalf named.e) (quiet_send named.k named.e)) (number_of groups recording r RecvHalf named.e p) (ap (is_met u) (sym (named.is recording here.old)) ∙ met))
      (half_view groups r p call RecvHalf m receives)

  pub probe_too : (u : State) (r p : ℕ) (call : Call) (m : Message) → probed_message call ≡ Some m → Here r p call → is_met u (probe_need groups recording r p m) ≡ true → is_met u (probe_need groups later r p m) ≡ true
  probe_too u r p call m probes here met =
      ⊎_elim
      (λ nobody. absurd (false≢true (sym (ap (is_met u) (nobody recording here.old)) ∙ met)))
      (λ (named : NamedProbe groups r p call m).
      let are = fields r m named.e (rw probes at named.has) in
      let has : HasMessage recording r p m = inr (ap (λ (o : Option Call). option_and_then probed_message o) here.old ∙ probes) in
      let counts : number_of groups later r RecvHalf named.e p ≡ number_of groups recording r RecvHalf named.e p =
      ap (length {A = ℕ}) (fronts_same recording later known fits h (has_envelope groups r RecvHalf named.e) r p (omega (arith, here.within)) (λ req comm tag. refl) (apart r p m has named.e are.0 are.1 are.2)) in
      ap (is_met u) (named.is later here.new)
      ∙ ap (λ (n : ℕ). is_met u (nth_need later (has_envelope groups named.k SendHalf named.e) named.k n)) counts
      ∙ on_need u named.k (has_envelope groups named.k SendHalf named.e) (quiet_mild named.k (has_envelope groups named.k SendHalf named.e) (quiet_send named.k named.e)) (number_of groups recording r RecvHalf named.e p) (ap (is_met u) (sym (named.is recording here.old)) ∙ met))
      (probe_view groups r p call m probes)

  pub halves_too : (u : State) (r p : ℕ) (call : Call) (half : Half) → ((m : Message) → message_of half call ≡ Some m → is_met u (half_need groups recording r p half m) ≡ true → is_met u (half_need groups later r p half m) ≡ true) → list_all (is_met u) (half_needs groups recording r p half call) ≡ true → list_all (is_met u) (half_needs groups later r p half call) ≡ true
  halves_too u r p call half one met = by_message (message_of half call) refl
    where
      by_message : (o : Option Message) → message_of half call ≡ o → list_all (is_met u) (half_needs groups later r p half call) ≡ true
      by_message None none = ap (λ (o : Option Message). list_all (is_met u) (option_map_or (λ m. half_need groups later r p half m ∷ []) o [])) none
      by_message (Some m) has =
          let it : list_all (is_met u) (half_need groups recording r p half m ∷ []) ≡ true = sym (ap (λ (o : Option Message). list_all (is_met u) (option_map_or (λ m. half_need groups recording r p half m ∷ []) o [])) has) ∙ met in
          ap (λ (o : Option Message). list_all (is_met u) (option_map_or (λ m. half_need groups later r p half m ∷ []) o [])) has
          ∙ and_from (is_met u (half_need groups later r p half m)) true (one m has (and_parts (is_met u (half_need groups recording r p half m)) true it).0) refl

  pub sends_too : (u : State) (r p : ℕ) (call : Call) → Here r p call → (freely : Bool) → list_all (is_met u) (if freely then [] else half_needs groups recording r p SendHalf call) ≡ true → list_all (is_met u) (if freely then [] else half_needs groups later r p SendHalf call) ≡ true
  sends_too u r p call here true met = refl
  sends_too u r p call here false met = halves_too u r p call SendHalf (λ m sends. send_too u r p call m sends here) met

  pub probes_too : (u : State) (r p : ℕ) (call : Call) → Here r p call → list_all (is_met u) (probe_needs groups recording r p call) ≡ true → list_all (is_met u) (probe_needs groups later r p call) ≡ true
  probes_too u r p call here met = by_message (probed_message call) refl
    where
      by_message : (o : Option Message) → probed_message call ≡ o → list_all (is_met u) (probe_needs groups later r p call) ≡ true
      by_message None none = ap (λ (o : Option Message). list_all (is_met u) (option_map_or (λ m. probe_need groups later r p m ∷ []) o [])) none
      by_message (Some m) has =
          let it : list_all (is_met u) (probe_need groups recording r p m ∷ []) ≡ true = sym (ap (λ (o : Option Message). list_all (is_met u) (option_map_or (λ m. probe_need groups recording r p m ∷ []) o [])) has) ∙ met in
          ap (λ (o : Option Message). list_all (is_met u) (option_map_or (λ m. probe_need groups later r p m ∷ []) o [])) has
          ∙ and_from (is_met u (probe_need groups later r p m)) true (probe_too u r p call m has here (and_parts (is_met u (probe_need groups recording r p m)) true it).0) refl

  pub wave_too : (u : State) (r p : ℕ) (call : Call) → Here r p call → list_all (is_met u) (wave_needs groups recording r p) ≡ true → list_all (is_met u) (wave_needs groups later r p) ≡ true
  wave_too u r p call here met = by_wave (wave_of recording r p) refl
    where
      by_wave : (wave : Option (ℕ × ℕ)) → wave_of recording r p ≡ wave → list_all (is_met u) (wave_needs groups later r p) ≡ true
      by_wave None none = ap (λ (w : Option (ℕ × ℕ)). list_all (is_met u) (option_map_or (λ wave. map (member_need later wave.0 wave.1) (group_of groups wave.0)) w [])) (same_wave r p call here ∙ none)
      by_wave (Some (comm, wave)) is =
          let old : list_all (is_met u) (map (member_need recording comm wave) (group_of groups comm)) ≡ true =
          sym (ap (λ (w : Option (ℕ × ℕ)). list_all (is_met u) (option_map_or (λ wave. map (member_need recording wave.0 wave.1) (group_of groups wave.0)) w [])) is) ∙ met in
          ap (λ (w : Option (ℕ × ℕ)). list_all (is_met u) (option_map_or (λ wave. map (member_need later wave.0 wave.1) (group_of groups wave.0)) w [])) (same_wave r p call here ∙ is)
          ∙ all_on (is_met u) (is_met u) (member_need recording comm wave) (member_need later comm wave) (λ member. on_need u member (does_join comm) (quiet_mild member (does_join comm) (quiet_join comm)) wave) (group_of groups comm) old

  pub op_too : (u : State) (r p : ℕ) (call : Call) → Here r p call → list_all (is_met u) (plain.operation_needs reading groups recording r p call) ≡ true → list_all (is_met u) (plain.operation_needs reading groups later r p call) ≡ true
  op_too u r p call here met =
      let parts = four_parts (is_met u) (if sends_freely reading call then [] else half_needs groups recording r p SendHalf call) (half_needs groups recording r p RecvHalf call) (probe_needs groups recording r p call) (wave_needs groups recording r p) met in
      four_join (is_met u) (if sends_freely reading call then [] else half_needs groups later r p SendHalf call) (half_needs groups later r p RecvHalf call) (probe_needs groups later r p call) (wave_needs groups later r p)
      (sends_too u r p call here (sends_freely reading call) parts.0) (halves_too u r p call RecvHalf (λ m receives. recv_too u r p call m receives here) parts.1) (probes_too u r p call here parts.2) (wave_too u r p call here parts.3)

  -- no wait of the list completes a sink's request
  pub never_waited : (r p x req : ℕ) (call before after : Call) → slice_get (calls_of recording r) p ≡ Some call → is_among req (completes call) ≡ true → started_before recording r p req ≡ Some x → IsMet known.sinks r x before after → ⊥
  never_waited r p x req call before after present among is met =
      let there = met.there in
      let has = fits.have_places there.index there.sink there.is_one in
      let null : slice_get (calls_of recording r) x ≡ Some (Irecv has.req has.comm peer.Null has.tag) =
      subst (λ (i : ℕ). slice_get (calls_of recording r) i ≡ Some (Irecv has.req has.comm peer.Null has.tag)) there.is_place
      (subst (λ (k : ℕ). slice_get (calls_of recording k) there.sink.place ≡ Some (Irecv has.req has.comm peer.Null has.tag)) there.is_rank has.is_there) in
      let active : started_in (calls_of recording r) has.req ≡ Some x =
      ap (λ (k : ℕ). started_in (calls_of recording k) has.req) (sym there.is_rank) ∙ has.is_active ∙ ap (λ (i : ℕ). Some i) there.is_place in
      let it = started (take p (calls_of recording r)) req x is in
      let stands = (get_take p (calls_of recording r) x it.starter it.stands_there).1 in
      let starter : it.starter ≡ Irecv has.req has.comm peer.Null has.tag = same_Some it.starter (Irecv has.req has.comm peer.Null has.tag) (sym stands ∙ null) in
      let same : has.req ≡ req = eqb-true has.req req (sym (ap (does_start req) starter) ∙ it.starts_it) in
      completed_is_over (calls_of recording r) req p x call present among is (ap (λ (q : ℕ). started_in (calls_of recording r) q) (sym same) ∙ active)

  pub request_too : (u : State) (r p req : ℕ) (call : Call) → Here r p call → is_among req (completes call) ≡ true → list_all (is_met u) (plain.request_needs reading groups recording r p req) ≡ true → list_all (is_met u) (plain.request_needs reading groups later r p req) ≡ true
  request_too u r p req call here among met = by_start (started_before recording r p req) refl
    where
      same : started_before later r p req ≡ started_before recording r p req
      same = started_alike recording later known fits h r p req (omega (arith, here.within))

      by_start : (o : Option ℕ) → started_before recording r p req ≡ o → list_all (is_met u) (plain.request_needs reading groups later r p req) ≡ true
      by_start None none = ap (λ (o : Option ℕ). list_all (is_met u) (option_map_or (plain.operation_needs_at reading groups later r) o [])) (same ∙ none)
      by_start (Some x) is =
          let it = started (take p (calls_of recording r)) req x is in
          let before = (get_take p (calls_of recording r) x it.starter it.stands_there).0 in
          let old : list_all (is_met u) (plain.operation_needs_at reading groups recording r x) ≡ true = sym (ap (λ (o : Option ℕ). list_all (is_met u) (option_map_or (plain.operation_needs_at reading groups recording r) o [])) is) ∙ met in
          ap (λ (o : Option ℕ). list_all (is_met u) (option_map_or (plain.operation_needs_at reading groups later r) o [])) (same ∙ is)
          ∙ by_pair x is (omega (arith, before, here.within)) old (pair_at recording later known fits h r x (omega (arith, before, here.within)))
        where
          by_pair : (x : ℕ) → started_before recording r p req ≡ Some x → x < length (calls_before_open recording r) → list_all (is_met u) (plain.operation_needs_at reading groups recording r x) ≡ true → Pair recording later known fits h r x → list_all (is_met u) (plain.operation_needs_at reading groups later r x) ≡ true
          by_pair x is within old pair = by_kind pair.filled
            where
              by_kind : IsFilled known.sinks r x pair.before pair.after → list_all (is_met u) (plain.operation_needs_at reading groups later r x) ≡ true
              by_kind (inr met') = absurd (never_waited r p x req call pair.before pair.after here.old among is met')
              by_kind (inl alike) =
                  let was : slice_get (calls_of recording r) x ≡ Some pair.before = front_call recording r x within ∙ pair.was in
                  let now : slice_get (calls_of later r) x ≡ Some pair.before = later_call recording later known fits h r x within ∙ pair.is ∙ ap (λ (c : Call). Some c) alike in
                  let old' : list_all (is_met u) (plain.operation_needs reading groups recording r x pair.before) ≡ true =
                  sym (ap (λ (o : Option Call). list_all (is_met u) (option_map_or (plain.operation_needs reading groups recording r x) o [])) was) ∙ old in
                  ap (λ (o : Option Call). list_all (is_met u) (option_map_or (plain.operation_needs reading groups later r x) o [])) now
                  ∙ op_too u r x pair.before (record { within = within; old = was; new = now }) old'

  pub requests_too : (u : State) (r p : ℕ) (call : Call) → Here r p call → (reqs : List ℕ) → ((req : ℕ) → is_among req reqs ≡ true → is_among req (completes call) ≡ true) → list_all (is_met u) (flat_map (plain.request_needs reading groups recording r p) reqs) ≡ true → list_all (is_met u) (flat_map (plain.request_needs reading groups later r p) reqs) ≡ true
  requests_too u r p call here [] are met = refl
  requests_too u r p call here (req ∷ reqs) are met =
      let both = and_parts (list_all (is_met u) (plain.request_needs reading groups recording r p req)) (list_all (is_met u) (flat_map (plain.request_needs reading groups recording r p) reqs)) (sym (list_all-append (is_met u) (plain.request_needs reading groups recording r p req) (flat_map (plain.request_needs reading groups recording r p) reqs)) ∙ met) in
      list_all-append (is_met u) (plain.request_needs reading groups later r p req) (flat_map (plain.request_needs reading groups later r p) reqs)
      ∙ and_from (list_all (is_met u) (plain.request_needs reading groups later r p req)) (list_all (is_met u) (flat_map (plain.request_needs reading groups later r p) reqs))
      (request_too u r p req call here (are req (or_left (req == req) (is_among req reqs) (eq-eqb req req refl))) both.0)
      (requests_too u r p call here reqs (λ other among. are other (or_right (req == other) (is_among other reqs) among)) both.1)

  pub call_too : (u : State) (r p : ℕ) (call : Call) → Here r p call → (starting : Bool) → list_all (is_met u) (if starting then [] else plain.operation_needs reading groups recording r p call ++ flat_map (plain.request_needs reading groups recording r p) (completes call)) ≡ true → list_all (is_met u) (if starting then [] else plain.operation_needs reading groups later r p call ++ flat_map (plain.request_needs reading groups later r p) (completes call)) ≡ true
  call_too u r p call here true met = refl
  call_too u r p call here false met =
      let both = and_parts (list_all (is_met u) (plain.operation_needs reading groups recording r p call)) (list_all (is_met u) (flat_map (plain.request_needs reading groups recording r p) (completes call))) (sym (list_all-append (is_met u) (plain.operation_needs reading groups recording r p call) (flat_map (plain.request_needs reading groups recording r p) (completes call))) ∙ met) in
      list_all-append (is_met u) (plain.operation_needs reading groups later r p call) (flat_map (plain.request_needs reading groups later r p) (completes call))
      ∙ and_from (list_all (is_met u) (plain.operation_needs reading groups later r p call)) (list_all (is_met u) (flat_map (plain.request_needs reading groups later r p) (completes call)))
      (op_too u r p call here both.0) (requests_too u r p call here (completes call) (λ req among. among) both.1)

  pub moves_too : (u : State) (r : ℕ) → can_move reading groups recording u r ≡ true → can_move reading groups later u r ≡ true
  moves_too u r can = by_pair (pair_at recording later known fits h r (get_or u r 0) within)
    where
      pass : CanPass reading groups recording u r
      pass = can_pass reading groups recording u r can

      within : get_or u r 0 < length (calls_before_open recording r)
      within = not_open recording r (get_or u r 0) pass.call pass.is_present (λ is. false≢true (sym pass.is_no_end ∙ ap ends_list is))

      by_pair : Pair recording later known fits h r (get_or u r 0) → can_move reading groups later u r ≡ true
      by_pair pair = by_kind pair.filled
        where
          was : pass.call ≡ pair.before
          was = same_Some pass.call pair.before (sym pass.is_present ∙ front_call recording r (get_or u r 0) within ∙ pair.was)

          now : slice_get (calls_of later r) (get_or u r 0) ≡ Some pair.after
          now = later_call recording later known fits h r (get_or u r 0) within ∙ pair.is

          by_kind : IsFilled known.sinks r (get_or u r 0) pair.before pair.after → can_move reading groups later u r ≡ true
          by_kind (inl alike) =
              let new : slice_get (calls_of later r) (get_or u r 0) ≡ Some pass.call = now ∙ ap (λ (c : Call). Some c) (alike ∙ sym was) in
              can_from_pass reading groups later u r (record {
                call = pass.call;
                is_present = new;
                is_no_end = pass.is_no_end;
                needs_met = call_too u r (get_or u r 0) pass.call (record { within = within; old = pass.is_present; new = new }) (is_some (starts pass.call)) pass.needs_met;
              })
          by_kind (inr met) =
              can_from_pass reading groups later u r (record {
                call = Irecv met.req met.comm (peer.Rank met.source) met.tag;
                is_present = now ∙ ap (λ (c : Call). Some c) met.is_receive;
                is_no_end = refl;
                needs_met = refl;
              })

  pub steps_too : (s : State) (states : List State) → AreSteps (can_move reading groups recording) s states → AreSteps (can_move reading groups later) s states
  steps_too s [] steps = steps
  steps_too s (t ∷ rest) steps = (
    record { rank = steps.0.rank; is_rank = steps.0.is_rank; can_move = moves_too s steps.0.rank steps.0.can_move; moves_on = steps.0.moves_on },
    steps_too t rest steps.1,
  )
