-- Walks where pending calls and sinks are known: from a held rank the walk goes on to a held rank, or ends.
use Rattle.moves.specs.declared.reading.Reading.{Reading}
use Rattle.std.proofs.Common.{inl, inr, ◌≡◌, ℕ, ◌⊎◌, ◌==◌, Bool, true, false, not, ◌&&◌, ◌||◌, Option, Some, None, is_some, is_none, find, if◌then◌else◌, List, [], ◌∷◌, ◌++◌, flat_map, length, map, refl, sym, ap, subst, ◌∙◌, ⊎_elim, arith}
use Rattle.std.specs.Prelude.{option_map, option_and_then, slice_index}
use Rattle.std.specs.List.{slice_get, filter_map, list_all, list_any, range_with_len}
use Rattle.std.specs.Option.{option_map_or}
use Rattle.std.proofs.lemmas.List.Folds.{list_all-append, list_all-map}
use Rattle.std.proofs.lemmas.Bool.{cases_Bool, false≢true, and_parts, not-true, not_from_false, or_parts, false_from_ne_true, eqb-true, ne_eqb}
use Rattle.std.proofs.lemmas.Option.{none-some, same_Some}
use Rattle.mpicall.specs.declared.call.Call.{Call}
use Rattle.mpigroup.specs.Groups.{Groups, group_rank_of}
use Rattle.callstore.specs.declared.envelope.Envelope.{Envelope}
use Rattle.callstore.specs.declared.envelope.Half.TheVariants.{Send as SendHalf, Recv as RecvHalf}
use Rattle.callstore.specs.declared.envelope.Message.{Message}
use Rattle.callstore.specs.Envelopes.{message_of, envelope_of, envelope_by, rank_of_half}
use Rattle.callstore.specs.Recordings.{Lists, calls_of}
use Rattle.callstore.specs.Requests.{starts, completes, started_in, started_before}
use Rattle.moves.specs.Needs.{half_needs, half_need, probe_needs, wave_needs, sends_freely, is_met, world_of}
use Rattle.moves.specs.Stands.{stands_of}
use Rattle.moves.specs.declared.need.Need.{Need}
use Rattle.moves.specs.declared.need.Need.TheVariants.{At, Lacking}
use Rattle.pairing.specs.LeftOpen.{leaves_open}
use Rattle.pairing.specs.Partners.{envelope_at, partner_of}
use Rattle.waitgraph.specs.Held.{Set, is_missing, is_blocked}
use Rattle.waitgraph.specs.Stuck.{rank_needed, needs_in_order}
use Rattle.waitgraph.specs.Causes.{CauseView, CycleOf, TellsCauses}
use Rattle.waitgraph.specs.Pending.{Known, PendingView, Part, takes, goes_to, may_take, sink_for, spare_at, send_needs, operation_needs, request_needs, call_needs, ways_of, part_of, nothing, pending_waits, is_over, pass_all_or_one}
use Rattle.waitgraph.specs.PendingHeld.{may_come, may_move, IsDeadlockedBy, AreHeldBy}
use Rattle.waitgraph.specs.PendingNeeds.{brought_by, blocked, operation_blocks, request_blocks, call_blocks, is_sender, senders_of, on_senders, message_awaits, item_blocks, items_of, is_at_open, present_blocks, blocks_at, held_up_by}
use Rattle.waitgraph.specs.PendingCauses.{next_to, next_by, missing_by, starved_by, end_by, AreCausesBy, WalksEndInTheCausesBy}
use Rattle.waitgraph.specs.declared.awaited.Awaited.{Awaited}
use Rattle.waitgraph.specs.declared.awaited.Awaited.TheVariants as awaited
use Rattle.waitgraph.specs.declared.pending.Item.{Item}
use Rattle.waitgraph.specs.declared.pending.Item.TheVariants as item
use Rattle.waitgraph.specs.declared.pending.Sink.{Sink}
use Rattle.waitgraph.specs.declared.pending.Wanted.{Wanted}
use Rattle.waitgraph.specs.inner.Causes.{next_in, causes_in, end_at}
use Rattle.waitgraph.specs.inner.Scenes.{hop_from_awaited}
use Rattle.waitgraph.specs.inner.Least.{IsWithin}
use Rattle.waitgraph.proofs.AmongLemmas.{Among, in_among, among_left, among_right, among_both, kept_among, among_kept, one_fails, with_needs_from, with_needs_new}
use Rattle.waitgraph.proofs.CauseLemmas.{given_same, comes_same, same_value, rest_by}
use Rattle.waitgraph.proofs.ListedLemmas.{walks_tell}
use Rattle.waitgraph.proofs.PendingCauseLemmas.{walks_with, not_held_up, hop_is, next_is, end_is, cycles_are, all_causes}
use Rattle.waitgraph.proofs.PendingLemmas.{move_less}
use Rattle.waitgraph.proofs.PendingViewLemmas.{find_never, find_passes, among_flat, peer_rank}
use Rattle.waitgraph.proofs.ScenesLemmas.{all_listed}
use Rattle.waitgraph.proofs.WalkLaws.{IsWaiting, WalkGoesOn}

-- the list has an element
abbrev HasSome : {A : Type 0} → List A → Type 0
HasSome {A} xs = (x : A) × Among x xs

some_left : {A : Type 0} (xs ys : List A) → HasSome xs → HasSome (xs ++ ys)
some_left xs ys h = (h.0, among_left h.0 xs ys h.1)

some_right : {A : Type 0} (xs ys : List A) → HasSome ys → HasSome (xs ++ ys)
some_right xs ys h = (h.0, among_right h.0 xs ys h.1)

some_first : {A : Type 0} (xs : List A) → HasSome xs → (x : A) × (slice_get xs 0 ≡ Some x)
some_first [] h = absurd h.1
some_first (x ∷ xs) h = (x, refl)

some_mapped : {A B : Type 0} (f : A → B) (xs : List A) → HasSome xs → HasSome (map f xs)
some_mapped f [] h = absurd h.1
some_mapped f (x ∷ xs) h = (f x, inl refl)

some_in_order : (needs : List Need) → HasSome needs → HasSome (needs_in_order needs)
some_in_order needs h = (h.0, with_needs_new h.0 [] needs h.1)

-- what stands in a list that others made
mapped_from : {A B : Type 0} (y : B) (f : A → B) (xs : List A) → Among y (map f xs) → (x : A) × Among x xs × (f x ≡ y)
mapped_from y f [] h = absurd h
mapped_from y f (x ∷ xs) (inl e) = (x, inl refl, e)
mapped_from y f (x ∷ xs) (inr h) = let later = mapped_from y f xs h in (later.0, inr later.1, later.2)

flat_from : {A B : Type 0} (y : B) (f : A → List B) (xs : List A) → Among y (flat_map f xs) → (x : A) × Among x xs × Among y (f x)
flat_from y f [] h = absurd h
flat_from {A} {B} y f (x ∷ xs) h =
    ⊎_elim
    (λ (here : Among y (f x)). (x, inl refl, here))
    (λ (behind : Among y (flat_map f xs)). let later = flat_from y f xs behind in (later.0, inr later.1, later.2))
    (among_both y (f x) (flat_map f xs) h)

in_order_from : (need : Need) (needs : List Need) → Among need (needs_in_order needs) → Among need needs
in_order_from need needs h = from_none (with_needs_from need [] needs h)
  where
    from_none : Among need [] ⊎ Among need needs → Among need needs
    from_none (inl none) = absurd none
    from_none (inr there) = there

-- where not all of two lists pass
one_list_fails : {A : Type 0} (p : A → Bool) (a b : List A) → list_all p (a ++ b) ≡ false → (list_all p a ≡ false) ⊎ (list_all p b ≡ false)
one_list_fails p a b h =
    ⊎_elim
    (λ (is : list_all p a ≡ true). inr (rw is at (sym (list_all-append p a b) ∙ h)))
    (λ (no : list_all p a ≡ false). inl no)
    (cases_Bool (list_all p a))

one_not : {A : Type 0} (p : A → Bool) (xs : List A) → list_all p xs ≡ false → (x : A) × Among x xs × (p x ≡ false)
one_not p [] h = absurd (false≢true (sym h))
one_not p (x ∷ xs) h =
    ⊎_elim
    (λ (passes : p x ≡ true). let later = one_not p xs (rw passes at h) in (later.0, inr later.1, later.2))
    (λ (fails : p x ≡ false). (x, inl refl, fails))
    (cases_Bool (p x))

blocked_some : (comes : Need → Bool) (needs : List Need) → list_all comes needs ≡ false → HasSome (blocked comes needs)
blocked_some comes needs h =
    let one = one_fails comes needs h in
    (one.0, among_kept one.0 (λ need. not (comes need)) needs one.1 (not_from_false (comes one.0) one.2))

blocked_from : (comes : Need → Bool) (need : Need) (needs : List Need) → Among need (blocked comes needs) → Among need needs × (comes need ≡ false)
blocked_from comes need needs h =
    let parts = kept_among need (λ other. not (comes other)) needs h in
    (parts.0, not-true (comes need) parts.1)

module _ (groups : Groups) (recording : Lists) (sinks : List Sink) (rank : ℕ) where
  -- a sink that may take what the call sends
  record IsTaken (place : ℕ) (call : Call) (sink : Sink) : Type 0 where
    e : Envelope
    m : Message
    sends : message_of SendHalf call ≡ Some m
    has : envelope_of groups rank SendHalf call ≡ Some e
    goes : rank_of_half groups RecvHalf e ≡ Some sink.rank
    alone : partner_of groups recording rank place SendHalf ≡ None

  spare_parts : (place : ℕ) (call : Call) (e : Envelope) → slice_get (calls_of recording rank) place ≡ Some call → spare_at groups recording rank place ≡ Some e → (partner_of groups recording rank place SendHalf ≡ None) × (envelope_of groups rank SendHalf call ≡ Some e)
  spare_parts place call e present is = by_partner (partner_of groups recording rank place SendHalf) refl is
    where
      by_partner : (o : Option (ℕ × ℕ)) → partner_of groups recording rank place SendHalf ≡ o → (if is_none o then envelope_at groups recording rank place SendHalf else None) ≡ Some e → (partner_of groups recording rank place SendHalf ≡ None) × (envelope_of groups rank SendHalf call ≡ Some e)
      by_partner None none at = (none, sym (ap (option_and_then (envelope_of groups rank SendHalf)) present) ∙ at)
      by_partner (Some partner) some at = absurd (none-some e at)

  message_there : (call : Call) (e : Envelope) → envelope_of groups rank SendHalf call ≡ Some e → (m : Message) × (message_of SendHalf call ≡ Some m)
  message_there call e has = by_message (message_of SendHalf call) refl has
    where
      by_message : (o : Option Message) → message_of SendHalf call ≡ o → option_and_then (λ m. option_map (envelope_by SendHalf m) (group_rank_of groups m.comm rank)) o ≡ Some e → (m : Message) × (message_of SendHalf call ≡ Some m)
      by_message None none at = absurd (none-some e at)
      by_message (Some m) is at = (m, is)

  goes_there : (e : Envelope) (dest : ℕ) → goes_to groups dest e ≡ true → rank_of_half groups RecvHalf e ≡ Some dest
  goes_there e dest h = by_rank (rank_of_half groups RecvHalf e) refl h
    where
      by_rank : (o : Option ℕ) → rank_of_half groups RecvHalf e ≡ o → option_map_or (λ there. there == dest) o false ≡ true → rank_of_half groups RecvHalf e ≡ Some dest
      by_rank None none at = absurd (false≢true at)
      by_rank (Some there) is at = is ∙ ap (λ (k : ℕ). Some k) (eqb-true there dest at)

  taken : (place : ℕ) (call : Call) (sink : Sink) → slice_get (calls_of recording rank) place ≡ Some call → sink_for groups recording sinks rank place ≡ Some sink → IsTaken place call sink
  taken place call sink present found = by_spare (spare_at groups recording rank place) refl
    where
      by_spare : (o : Option Envelope) → spare_at groups recording rank place ≡ o → IsTaken place call sink
      by_spare None none =
          absurd (none-some sink
          (sym (find_never sinks) ∙ sym (ap (λ (o : Option Envelope). find (λ one. option_map_or (λ e. may_take groups e one) o false) sinks) none) ∙ found))
      by_spare (Some e) is =
          let takes_it = find_passes (may_take groups e) sinks sink (sym (ap (λ (o : Option Envelope). find (λ one. option_map_or (λ e. may_take groups e one) o false) sinks) is) ∙ found) in
          let goes = (and_parts (takes sink.wanted e.comm e.source e.tag) (goes_to groups sink.rank e) takes_it).1 in
          let parts = spare_parts place call e present is in
          let sent = message_there call e parts.1 in
          record { e = e; m = sent.0; sends = sent.1; has = parts.1; goes = goes_there e sink.rank goes; alone = parts.0 }

  -- and its need is that the sink's rank lacks the receive
  sent_need : (place : ℕ) (call : Call) (sink : Sink) → IsTaken place call sink → half_needs groups recording rank place SendHalf call ≡ Lacking sink.rank ∷ []
  sent_need place call sink is =
      let same : world_of groups is.m.comm is.m.peer ≡ sink.rank = peer_rank groups rank SendHalf call is.m is.e sink.rank is.sends is.has is.goes in
      let need : half_need groups recording rank place SendHalf is.m ≡ Lacking sink.rank =
      ap (λ (o : Option (ℕ × ℕ)). option_map_or (λ partner. At partner.0 partner.1) o (Lacking (world_of groups is.m.comm is.m.peer))) is.alone ∙ ap (λ (k : ℕ). Lacking k) same in
      ap (λ (o : Option Message). option_map_or (λ m. half_need groups recording rank place SendHalf m ∷ []) o []) is.sends ∙ ap (λ (n : Need). n ∷ []) need

-- What doesn't come, where not all of the needs do.
module _ (comes : Need → Bool) (reading : Reading) (groups : Groups) (recording : Lists) (sinks : List Sink) (rank : ℕ) where
  sent_some : (place : ℕ) (call : Call) → slice_get (calls_of recording rank) place ≡ Some call → list_all comes (send_needs groups recording sinks rank place call) ≡ false → HasSome (blocked (λ need. comes (brought_by (sink_for groups recording sinks rank place) need)) (half_needs groups recording rank place SendHalf call))
  sent_some place call present h = by_sink (sink_for groups recording sinks rank place) refl h
    where
      one_stays : (sink : Sink) → comes (At sink.rank sink.place) ≡ false → HasSome (blocked (λ need. comes (brought_by (Some sink) need)) (Lacking sink.rank ∷ []))
      one_stays sink stays = rw stays (Lacking sink.rank, inl refl)

      not_both : (b : Bool) → (b && true) ≡ false → b ≡ false
      not_both false h = refl
      not_both true h = h

      by_sink : (o : Option Sink) → sink_for groups recording sinks rank place ≡ o → list_all comes (option_map_or (λ sink. At sink.rank sink.place ∷ []) o (half_needs groups recording rank place SendHalf call)) ≡ false → HasSome (blocked (λ need. comes (brought_by o need)) (half_needs groups recording rank place SendHalf call))
      by_sink None none fails = blocked_some comes (half_needs groups recording rank place SendHalf call) fails
      by_sink (Some sink) found fails =
          subst (λ (needs : List Need). HasSome (blocked (λ need. comes (brought_by (Some sink) need)) needs))
          (sym (sent_need groups recording sinks rank place call sink (taken groups recording sinks rank place call sink present found)))
          (one_stays sink (not_both (comes (At sink.rank sink.place)) fails))

  sends_some : (place : ℕ) (call : Call) → slice_get (calls_of recording rank) place ≡ Some call → list_all comes (if sends_freely reading call then [] else send_needs groups recording sinks rank place call) ≡ false → HasSome (blocked (λ need. comes (brought_by (sink_for groups recording sinks rank place) need)) (if sends_freely reading call then [] else half_needs groups recording rank place SendHalf call))
  sends_some place call present h = by_freely (sends_freely reading call) h
    where
      by_freely : (freely : Bool) → list_all comes (if freely then [] else send_needs groups recording sinks rank place call) ≡ false → HasSome (blocked (λ need. comes (brought_by (sink_for groups recording sinks rank place) need)) (if freely then [] else half_needs groups recording rank place SendHalf call))
      by_freely true fails = absurd (false≢true (sym fails))
      by_freely false fails = sent_some place call present fails

  operation_some : (place : ℕ) (call : Call) → slice_get (calls_of recording rank) place ≡ Some call → list_all comes (operation_needs reading groups recording sinks rank place call) ≡ false → HasSome (operation_blocks comes reading groups recording sinks rank place call)
  operation_some place call present h =
      ⊎_elim
      (λ (fails : list_all comes ((if sends_freely reading call then [] else send_needs groups recording sinks rank place call) ++ (half_needs groups recording rank place RecvHalf call) ++ (probe_needs groups recording rank place call)) ≡ false).
      some_left (sent ++ blocked comes (half_needs groups recording rank place RecvHalf call) ++ blocked comes (probe_needs groups recording rank place call)) (blocked comes (wave_needs groups recording rank place))
      (⊎_elim
      (λ (fails : list_all comes ((if sends_freely reading call then [] else send_needs groups recording sinks rank place call) ++ (half_needs groups recording rank place RecvHalf call)) ≡ false).
      some_left (sent ++ blocked comes (half_needs groups recording rank place RecvHalf call)) (blocked comes (probe_needs groups recording rank place call))
      (⊎_elim
      (λ (fails : list_all comes (if sends_freely reading call then [] else send_needs groups recording sinks rank place call) ≡ false). some_left sent (blocked comes (half_needs groups recording rank place RecvHalf call)) (sends_some place call present fails))
      (λ (fails : list_all comes (half_needs groups recording rank place RecvHalf call) ≡ false). some_right sent (blocked comes (half_needs groups recording rank place RecvHalf call)) (blocked_some comes (half_needs groups recording rank place RecvHalf call) fails))
      (one_list_fails comes (if sends_freely reading call then [] else send_needs groups recording sinks rank place call) (half_needs groups recording rank place RecvHalf call) fails)))
      (λ (fails : list_all comes (probe_needs groups recording rank place call) ≡ false). some_right (sent ++ blocked comes (half_needs groups recording rank place RecvHalf call)) (blocked comes (probe_needs groups recording rank place call)) (blocked_some comes (probe_needs groups recording rank place call) fails))
      (one_list_fails comes ((if sends_freely reading call then [] else send_needs groups recording sinks rank place call) ++ (half_needs groups recording rank place RecvHalf call)) (probe_needs groups recording rank place call) fails)))
      (λ (fails : list_all comes (wave_needs groups recording rank place) ≡ false). some_right (sent ++ blocked comes (half_needs groups recording rank place RecvHalf call) ++ blocked comes (probe_needs groups recording rank place call)) (blocked comes (wave_needs groups recording rank place)) (blocked_some comes (wave_needs groups recording rank place) fails))
      (one_list_fails comes ((if sends_freely reading call then [] else send_needs groups recording sinks rank place call) ++ (half_needs groups recording rank place RecvHalf call) ++ (probe_needs groups recording rank place call)) (wave_needs groups recording rank place) h)
    where
      sent : List Need
      sent = blocked (λ need. comes (brought_by (sink_for groups recording sinks rank place) need)) (if sends_freely reading call then [] else half_needs groups recording rank place SendHalf call)

  request_some : (start : Option ℕ) → list_all comes (request_needs reading groups recording sinks rank start) ≡ false → HasSome (request_blocks comes reading groups recording sinks rank start)
  request_some None h = absurd (false≢true (sym h))
  request_some (Some place) h = by_call (slice_get (calls_of recording rank) place) refl h
    where
      by_call : (o : Option Call) → slice_get (calls_of recording rank) place ≡ o → list_all comes (option_map_or (operation_needs reading groups recording sinks rank place) o []) ≡ false → HasSome (option_map_or (operation_blocks comes reading groups recording sinks rank place) o [])
      by_call None none fails = absurd (false≢true (sym fails))
      by_call (Some call) present fails = operation_some place call present fails

  call_some : (place : ℕ) (call : Call) → slice_get (calls_of recording rank) place ≡ Some call → list_all comes (call_needs reading groups recording sinks rank place call) ≡ false → HasSome (call_blocks comes reading groups recording sinks rank place call)
  call_some place call present h = by_start (is_some (starts call)) h
    where
      f : ℕ → List Need
      f req = request_needs reading groups recording sinks rank (started_before recording rank place req)

      g : ℕ → List Need
      g req = request_blocks comes reading groups recording sinks rank (started_before recording rank place req)

      requests : list_all comes (flat_map f (completes call)) ≡ false → HasSome (flat_map g (completes call))
      requests fails =
          let one = one_not (λ req. list_all comes (f req)) (completes call) (sym (all_listed comes f (completes call)) ∙ fails) in
          let some = request_some (started_before recording rank place one.0) one.2 in
          (some.0, among_flat some.0 one.0 g (completes call) one.1 some.1)

      by_start : (starting : Bool) → list_all comes (if starting then [] else operation_needs reading groups recording sinks rank place call ++ flat_map f (completes call)) ≡ false → HasSome (if starting then [] else operation_blocks comes reading groups recording sinks rank place call ++ flat_map g (completes call))
      by_start true fails = absurd (false≢true (sym fails))
      by_start false fails =
          ⊎_elim
          (λ (own : list_all comes (operation_needs reading groups recording sinks rank place call) ≡ false).
          some_left (operation_blocks comes reading groups recording sinks rank place call) (flat_map g (completes call)) (operation_some place call present own))
          (λ (waited : list_all comes (flat_map f (completes call)) ≡ false).
          some_right (operation_blocks comes reading groups recording sinks rank place call) (flat_map g (completes call)) (requests waited))
          (one_list_fails comes (operation_needs reading groups recording sinks rank place call) (flat_map f (completes call)) fails)

  -- the part of an item passes
  abbrev passes : Item → Bool
  passes one = pass_all_or_one (part_of reading groups recording sinks rank one).is_all comes (part_of reading groups recording sinks rank one).needs

  some_senders : (senders : List ℕ) → HasSome (on_senders senders)
  some_senders [] = (awaited.Nobody, inl refl)
  some_senders (sender ∷ senders) = (awaited.Rank sender, inl refl)

  item_some : (held : Set) (one : Item) → passes one ≡ false → HasSome (item_blocks comes reading groups recording sinks held rank one)
  item_some held (item.Message wanted) h =
      let none : list_any comes (ways_of groups recording rank wanted) ≡ false = h in
      rw none (some_senders (senders_of groups recording held rank wanted))
  item_some held (item.Request req) h =
      some_mapped awaited.Call (needs_in_order (request_blocks comes reading groups recording sinks rank (started_in (calls_of recording rank) req)))
      (some_in_order (request_blocks comes reading groups recording sinks rank (started_in (calls_of recording rank) req)) (request_some (started_in (calls_of recording rank) req) h))

  over_part : Part → Bool
  over_part part = pass_all_or_one part.is_all comes part.needs

  items_some : (held : Set) (is_all : Bool) (items : List Item) → pass_all_or_one (is_all || length items == 0) (λ (part : Part). pass_all_or_one part.is_all comes part.needs) (map (part_of reading groups recording sinks rank) items) ≡ false → HasSome (flat_map (item_blocks comes reading groups recording sinks held rank) items)
  items_some held true items h =
      let one = one_not passes items (sym (list_all-map (λ (part : Part). pass_all_or_one part.is_all comes part.needs) (part_of reading groups recording sinks rank) items) ∙ h) in
      let some = item_some held one.0 one.2 in
      (some.0, among_flat some.0 one.0 (item_blocks comes reading groups recording sinks held rank) items one.1 some.1)
  items_some held false [] h = absurd (false≢true (sym h))
  items_some held false (first ∷ items) h =
      let more : (length (first ∷ items) == 0) ≡ false = ne_eqb (length (first ∷ items)) 0 (λ none. omega (arith, none)) in
      let any : list_any (λ (part : Part). pass_all_or_one part.is_all comes part.needs) (map (part_of reading groups recording sinks rank) (first ∷ items)) ≡ false = rw more at h in
      let fails = or_parts (passes first) (list_any (λ (part : Part). pass_all_or_one part.is_all comes part.needs) (map (part_of reading groups recording sinks rank) items)) any in
      some_left (item_blocks comes reading groups recording sinks held rank first) (flat_map (item_blocks comes reading groups recording sinks held rank) items) (item_some held first fails.0)

-- A held rank waits for something that doesn't come.
module _ (reading : Reading) (groups : Groups) (recording : Lists) (known : Known) (held : Set) where
  abbrev comes : Need → Bool
  comes = may_come recording (stands_of reading groups recording) held

  and_true : (b : Bool) → (b && true) ≡ b
  and_true true = refl
  and_true false = refl

  some_blocks : (rank : ℕ) → may_move reading groups recording known held rank ≡ false → HasSome (blocks_at reading groups recording known (stands_of reading groups recording) held rank)
  some_blocks rank h = by_call (slice_get (calls_of recording rank) (slice_index (stands_of reading groups recording) rank)) refl
    where
      place : ℕ
      place = slice_index (stands_of reading groups recording) rank

      by_pending : (o : Option PendingView) → is_over (may_come recording (stands_of reading groups recording) held) (option_map_or (pending_waits reading groups recording known.sinks rank) o nothing) ≡ false → HasSome (flat_map (item_blocks (may_come recording (stands_of reading groups recording) held) reading groups recording known.sinks held rank) (option_map_or (λ call. call.items) o []))
      by_pending None over = absurd (false≢true (sym over))
      by_pending (Some pending) over = items_some (may_come recording (stands_of reading groups recording) held) reading groups recording known.sinks rank held pending.is_all pending.items over

      by_call : (o : Option Call) → slice_get (calls_of recording rank) (slice_index (stands_of reading groups recording) rank) ≡ o → HasSome (blocks_at reading groups recording known (stands_of reading groups recording) held rank)
      by_call None none = absurd (false≢true (sym h ∙ rw none refl))
      by_call (Some call) present =
          ⊎_elim
          (λ (opens : leaves_open call ≡ true).
          let over : is_over (may_come recording (stands_of reading groups recording) held) (option_map_or (pending_waits reading groups recording known.sinks rank) (slice_get known.pending rank) nothing) ≡ false = rw (present, opens) at h in
          rw (present, opens) (by_pending (slice_get known.pending rank) over))
          (λ (goes : leaves_open call ≡ false).
          let all : (list_all (may_come recording (stands_of reading groups recording) held) (call_needs reading groups recording known.sinks rank (slice_index (stands_of reading groups recording) rank) call) && true) ≡ false = rw (present, goes) at h in
          let some = call_some (may_come recording (stands_of reading groups recording) held) reading groups recording known.sinks rank (slice_index (stands_of reading groups recording) rank) call present (sym (and_true (list_all (may_come recording (stands_of reading groups recording) held) (call_needs reading groups recording known.sinks rank (slice_index (stands_of reading groups recording) rank) call))) ∙ all) in
          rw (present, goes)
          (some_mapped awaited.Call (needs_in_order (call_blocks (may_come recording (stands_of reading groups recording) held) reading groups recording known.sinks rank (slice_index (stands_of reading groups recording) rank) call))
          (some_in_order (call_blocks (may_come recording (stands_of reading groups recording) held) reading groups recording known.sinks rank (slice_index (stands_of reading groups recording) rank) call) some)))
          (cases_Bool (leaves_open call))

  -- and what doesn't come is on a held rank, or missing
  on_held : (need : Need) → may_come recording (stands_of reading groups recording) held need ≡ false → is_missing recording need ≡ false → held (rank_needed need) ≡ true
  on_held need stays there =
      let fails = or_parts (is_met (stands_of reading groups recording) need) (not (is_blocked recording held need)) stays in
      ⊎_elim
      (λ (is : held (rank_needed need) ≡ true). is)
      (λ (no : held (rank_needed need) ≡ false).
      let free : is_blocked recording held need ≡ false = rw (no, there) refl in
      absurd (false≢true (sym fails.1 ∙ not_from_false (is_blocked recording held need) free)))
      (cases_Bool (held (rank_needed need)))

  sent_held : (rank place : ℕ) (call : Call) (need : Need) → slice_get (calls_of recording rank) place ≡ Some call → Among need (half_needs groups recording rank place SendHalf call) → may_come recording (stands_of reading groups recording) held (brought_by (sink_for groups recording known.sinks rank place) need) ≡ false → is_missing recording need ≡ false → held (rank_needed need) ≡ true
  sent_held rank place call need present there stays is_there = by_sink (sink_for groups recording known.sinks rank place) refl stays
    where
      is_it : (sink : Sink) → Among need (Lacking sink.rank ∷ []) → need ≡ Lacking sink.rank
      is_it sink (inl e) = sym e
      is_it sink (inr none) = absurd none

      by_sink : (o : Option Sink) → sink_for groups recording known.sinks rank place ≡ o → may_come recording (stands_of reading groups recording) held (brought_by o need) ≡ false → held (rank_needed need) ≡ true
      by_sink None none stays = on_held need stays is_there
      by_sink (Some sink) found stays =
          let same : need ≡ Lacking sink.rank =
          is_it sink (subst (λ (needs : List Need). Among need needs) (sent_need groups recording known.sinks rank place call sink (taken groups recording known.sinks rank place call sink present found)) there) in
          ap (λ (n : Need). held (rank_needed n)) same ∙ on_held (At sink.rank sink.place) stays refl

  operation_held : (rank place : ℕ) (call : Call) (need : Need) → slice_get (calls_of recording rank) place ≡ Some call → Among need (operation_blocks (may_come recording (stands_of reading groups recording) held) reading groups recording known.sinks rank place call) → is_missing recording need ≡ false → held (rank_needed need) ≡ true
  operation_held rank place call need present there is_there =
      ⊎_elim
      (λ front.
      ⊎_elim
      (λ front.
      ⊎_elim by_sent (by_part (half_needs groups recording rank place RecvHalf call)) (among_both need (blocked (λ other. may_come recording (stands_of reading groups recording) held (brought_by (sink_for groups recording known.sinks rank place) other)) (if sends_freely reading call then [] else half_needs groups recording rank place SendHalf call)) (blocked (may_come recording (stands_of reading groups recording) held) (half_needs groups recording rank place RecvHalf call)) front))
      (by_part (probe_needs groups recording rank place call))
      (among_both need ((blocked (λ other. may_come recording (stands_of reading groups recording) held (brought_by (sink_for groups recording known.sinks rank place) other)) (if sends_freely reading call then [] else half_needs groups recording rank place SendHalf call)) ++ blocked (may_come recording (stands_of reading groups recording) held) (half_needs groups recording rank place RecvHalf call)) (blocked (may_come recording (stands_of reading groups recording) held) (probe_needs groups recording rank place call)) front))
      (by_part (wave_needs groups recording rank place))
      (among_both need ((blocked (λ other. may_come recording (stands_of reading groups recording) held (brought_by (sink_for groups recording known.sinks rank place) other)) (if sends_freely reading call then [] else half_needs groups recording rank place SendHalf call)) ++ blocked (may_come recording (stands_of reading groups recording) held) (half_needs groups recording rank place RecvHalf call) ++ blocked (may_come recording (stands_of reading groups recording) held) (probe_needs groups recording rank place call)) (blocked (may_come recording (stands_of reading groups recording) held) (wave_needs groups recording rank place)) there)
    where
      by_freely : (freely : Bool) → Among need (if freely then [] else half_needs groups recording rank place SendHalf call) → Among need (half_needs groups recording rank place SendHalf call)
      by_freely true none = absurd none
      by_freely false is = is

      by_sent : Among need (blocked (λ other. may_come recording (stands_of reading groups recording) held (brought_by (sink_for groups recording known.sinks rank place) other)) (if sends_freely reading call then [] else half_needs groups recording rank place SendHalf call)) → held (rank_needed need) ≡ true
      by_sent sent =
          let parts = blocked_from (λ other. may_come recording (stands_of reading groups recording) held (brought_by (sink_for groups recording known.sinks rank place) other)) need (if sends_freely reading call then [] else half_needs groups recording rank place SendHalf call) sent in
          sent_held rank place call need present (by_freely (sends_freely reading call) parts.0) parts.1 is_there

      by_part : (needs : List Need) → Among need (blocked (may_come recording (stands_of reading groups recording) held) needs) → held (rank_needed need) ≡ true
      by_part needs is = on_held need (blocked_from (may_come recording (stands_of reading groups recording) held) need needs is).1 is_there

  request_held : (rank : ℕ) (start : Option ℕ) (need : Need) → Among need (request_blocks (may_come recording (stands_of reading groups recording) held) reading groups recording known.sinks rank start) → is_missing recording need ≡ false → held (rank_needed need) ≡ true
  request_held rank None need there is_there = absurd there
  request_held rank (Some place) need there is_there = by_call (slice_get (calls_of recording rank) place) refl there
    where
      by_call : (o : Option Call) → slice_get (calls_of recording rank) place ≡ o → Among need (option_map_or (operation_blocks (may_come recording (stands_of reading groups recording) held) reading groups recording known.sinks rank place) o []) → held (rank_needed need) ≡ true
      by_call None none at = absurd at
      by_call (Some call) present at = operation_held rank place call need present at is_there

  call_held : (rank place : ℕ) (call : Call) (need : Need) → slice_get (calls_of recording rank) place ≡ Some call → Among need (call_blocks (may_come recording (stands_of reading groups recording) held) reading groups recording known.sinks rank place call) → is_missing recording need ≡ false → held (rank_needed need) ≡ true
  call_held rank place call need present there is_there = by_start (is_some (starts call)) there
    where
      g : ℕ → List Need
      g req = request_blocks (may_come recording (stands_of reading groups recording) held) reading groups recording known.sinks rank (started_before recording rank place req)

      by_start : (starting : Bool) → Among need (if starting then [] else operation_blocks (may_come recording (stands_of reading groups recording) held) reading groups recording known.sinks rank place call ++ flat_map g (completes call)) → held (rank_needed need) ≡ true
      by_start true none = absurd none
      by_start false is =
          ⊎_elim
          (λ (own : Among need (operation_blocks (may_come recording (stands_of reading groups recording) held) reading groups recording known.sinks rank place call)). operation_held rank place call need present own is_there)
          (λ (waited : Among need (flat_map g (completes call))).
          let from = flat_from need g (completes call) waited in
          request_held rank (started_before recording rank place from.0) need from.2 is_there)
          (among_both need (operation_blocks (may_come recording (stands_of reading groups recording) held) reading groups recording known.sinks rank place call) (flat_map g (completes call)) is)

  -- so the walk goes on to a held rank
  to_held : (a : Awaited) (needs : List Need) (next : ℕ) → ((need : Need) → Among need needs → is_missing recording need ≡ false → held (rank_needed need) ≡ true) → Among a (map awaited.Call (needs_in_order needs)) → next_to recording a ≡ Some next → held next ≡ true
  to_held a needs next all there is =
      let from = mapped_from a awaited.Call (needs_in_order needs) there in
      let goes : next_to recording (awaited.Call from.0) ≡ Some next = ap (next_to recording) from.2 ∙ is in
      ⊎_elim
      (λ (lost : is_missing recording from.0 ≡ true). absurd (none-some next (rw lost at goes)))
      (λ (there : is_missing recording from.0 ≡ false).
      let same : rank_needed from.0 ≡ next = same_Some (rank_needed from.0) next (rw there at goes) in
      ap held (sym same) ∙ all from.0 (in_order_from from.0 needs from.1) there)
      (cases_Bool (is_missing recording from.0))

  sender_held : (rank : ℕ) (wanted : Wanted) (a : Awaited) (next : ℕ) (senders : List ℕ) → ((sender : ℕ) → Among sender senders → held sender ≡ true) → Among a (on_senders senders) → next_to recording a ≡ Some next → held next ≡ true
  sender_held rank wanted a next [] all (inl e) is = absurd (none-some next (ap (next_to recording) e ∙ is))
  sender_held rank wanted a next [] all (inr none) is = absurd none
  sender_held rank wanted a next (sender ∷ senders) all there is =
      let from = mapped_from a awaited.Rank (sender ∷ senders) there in
      let same : from.0 ≡ next = same_Some from.0 next (ap (next_to recording) from.2 ∙ is) in
      ap held (sym same) ∙ all from.0 from.1

  message_held : (rank : ℕ) (wanted : Wanted) (a : Awaited) (next : ℕ) → Among a (message_awaits (may_come recording (stands_of reading groups recording) held) groups recording held rank wanted) → next_to recording a ≡ Some next → held next ≡ true
  message_held rank wanted a next there is = by_coming (list_any (may_come recording (stands_of reading groups recording) held) (ways_of groups recording rank wanted)) there
    where
      by_coming : (b : Bool) → Among a (if b then [] else on_senders (senders_of groups recording held rank wanted)) → held next ≡ true
      by_coming true none = absurd none
      by_coming false at =
          sender_held rank wanted a next (senders_of groups recording held rank wanted)
          (λ sender among.
          let parts = kept_among sender (is_sender groups recording held rank wanted) (range_with_len 0 (length recording)) among in
          (and_parts (held sender) _ parts.1).0)
          at is

  item_held : (rank : ℕ) (one : Item) (a : Awaited) (next : ℕ) → Among a (item_blocks (may_come recording (stands_of reading groups recording) held) reading groups recording known.sinks held rank one) → next_to recording a ≡ Some next → held next ≡ true
  item_held rank (item.Message wanted) a next there is = message_held rank wanted a next there is
  item_held rank (item.Request req) a next there is =
      to_held a (request_blocks (may_come recording (stands_of reading groups recording) held) reading groups recording known.sinks rank (started_in (calls_of recording rank) req)) next
      (λ need among lacks. request_held rank (started_in (calls_of recording rank) req) need among lacks) there is

  blocks_held : (rank : ℕ) (a : Awaited) (next : ℕ) → Among a (blocks_at reading groups recording known (stands_of reading groups recording) held rank) → next_to recording a ≡ Some next → held next ≡ true
  blocks_held rank a next there is = by_open (is_at_open recording (stands_of reading groups recording) rank) there
    where
      f : Item → List Awaited
      f = item_blocks (may_come recording (stands_of reading groups recording) held) reading groups recording known.sinks held rank

      by_call : (o : Option Call) → slice_get (calls_of recording rank) (slice_index (stands_of reading groups recording) rank) ≡ o → (need : Need) → Among need (option_map_or (call_blocks (may_come recording (stands_of reading groups recording) held) reading groups recording known.sinks rank (slice_index (stands_of reading groups recording) rank)) o []) → is_missing recording need ≡ false → held (rank_needed need) ≡ true
      by_call None none need at lacks = absurd at
      by_call (Some call) present need at lacks = call_held rank (slice_index (stands_of reading groups recording) rank) call need present at lacks

      by_open : (b : Bool) → Among a (if b then flat_map f (items_of known rank) else map awaited.Call (needs_in_order (present_blocks reading groups recording known (stands_of reading groups recording) held rank))) → held next ≡ true
      by_open true at = let from = flat_from a f (items_of known rank) at in item_held rank from.0 a next from.2 is
      by_open false at = to_held a (present_blocks reading groups recording known (stands_of reading groups recording) held rank) next (by_call (slice_get (calls_of recording rank) (slice_index (stands_of reading groups recording) rank)) refl) at is

  first_among : (rank : ℕ) (a : Awaited) → held_up_by reading groups recording known held rank ≡ Some a → Among a (blocks_at reading groups recording known (stands_of reading groups recording) held rank)
  unfolding held_up_by
  first_among rank a is = by_held (held rank) is
    where
      by_held : (b : Bool) → (if b then slice_get (blocks_at reading groups recording known (stands_of reading groups recording) held rank) 0 else None) ≡ Some a → Among a (blocks_at reading groups recording known (stands_of reading groups recording) held rank)
      by_held true at = in_among a (blocks_at reading groups recording known (stands_of reading groups recording) held rank) (0, at)
      by_held false at = absurd (none-some a at)

  next_held : (rank next : ℕ) → next_by reading groups recording known held rank ≡ Some next → held next ≡ true
  next_held rank next is = by_first (held_up_by reading groups recording known held rank) refl is
    where
      by_first : (o : Option Awaited) → held_up_by reading groups recording known held rank ≡ o → option_and_then (next_to recording) o ≡ Some next → held next ≡ true
      by_first None none at = absurd (none-some next at)
      by_first (Some a) first at = blocks_held rank a next (first_among rank a first) at

  -- the held ranks are deadlocked
  deadlocked_of : AreHeldBy reading groups recording known held → IsDeadlockedBy reading groups recording known held
  deadlocked_of are rank member =
      let h = (are rank).0 member in
      let within : IsWithin h.0 held = λ k is. (are k).1 (h.0, h.1, is) in
      false_from_ne_true (may_move reading groups recording known held rank)
      (λ moves. false≢true (sym (h.1 rank h.2) ∙ move_less reading groups recording known h.0 held within rank moves))

  pub held_waits : AreHeldBy reading groups recording known held → (rank : ℕ) → held rank ≡ true → IsWaiting (walks_with reading groups recording known held) rank
  unfolding held_up_by
  held_waits are rank member =
      let some = some_first (blocks_at reading groups recording known (stands_of reading groups recording) held rank) (some_blocks rank (deadlocked_of are rank member)) in
      let first : held_up_by reading groups recording known held rank ≡ Some some.0 = rw member some.1 in
      record { there = hop_from_awaited recording some.0; goes_there = hop_is reading groups recording known held are rank ∙ ap (option_map (hop_from_awaited recording)) first }

  pub waiting_held : AreHeldBy reading groups recording known held → (rank : ℕ) → IsWaiting (walks_with reading groups recording known held) rank → held rank ≡ true
  waiting_held are rank waiting =
      ⊎_elim
      (λ (is : held rank ≡ true). is)
      (λ (no : held rank ≡ false).
      absurd (none-some waiting.there
      (sym (ap (option_map (hop_from_awaited recording)) (not_held_up reading groups recording known held rank no)) ∙ sym (hop_is reading groups recording known held are rank) ∙ waiting.goes_there)))
      (cases_Bool (held rank))

  pub walk_goes_on : AreHeldBy reading groups recording known held → WalkGoesOn (walks_with reading groups recording known held)
  walk_goes_on are = record {
    goes_on = λ rank next is. held_waits are next (next_held rank next (sym (next_is reading groups recording known held are rank) ∙ is));
  }

  pub walks_tell_by : AreHeldBy reading groups recording known held → TellsCauses (next_in (walks_with reading groups recording known held)) (end_at (walks_with reading groups recording known held)) held (causes_in (walks_with reading groups recording known held))
  walks_tell_by are = walks_tell (walks_with reading groups recording known held) held (held_waits are) (waiting_held are) (walk_goes_on are)

-- the causes are those that the search finds
pub causes_found_by : (reading : Reading) (groups : Groups) (recording : Lists) (known : Known) (causes : List CauseView) (p : AreCausesBy reading groups recording known causes) → causes ≡ causes_in (walks_with reading groups recording known p.held)
causes_found_by reading groups recording known causes p =
    let cycles = cycles_are reading groups recording known p.held p.are_held in
    let rest : (low : ℕ) → p.rest_of low ≡ rest_by (walks_with reading groups recording known p.held) low =
    λ low. same_value (p.rest_of low) (rest_by (walks_with reading groups recording known p.held) low)
    (λ more is. (cycles low more).1 ((p.are_cycles low more).0 is))
    (λ more is. (p.are_cycles low more).1 ((cycles low more).0 is)) in
    p.are_all
    ∙ ap (λ (cycles : List CauseView). cycles ++ filter_map (missing_by reading groups recording known p.held) (range_with_len 0 (length recording)) ++ filter_map (starved_by reading groups recording known p.held) (range_with_len 0 (length recording)))
    (given_same (λ low. option_map (λ rest. CycleOf (low ∷ rest)) (p.rest_of low)) (λ low. option_map (λ rest. CycleOf (low ∷ rest)) (rest_by (walks_with reading groups recording known p.held) low))
    (λ low. ap (option_map (λ more. CycleOf (low ∷ more))) (rest low)) (range_with_len 0 (length recording)))
    ∙ sym (all_causes reading groups recording known p.held p.are_held)

pub walks_end_in_the_causes_by : WalksEndInTheCausesBy
walks_end_in_the_causes_by reading groups recording known causes p =
    let found = walks_tell_by reading groups recording known p.held p.are_held in
    let comes = comes_same (next_in (walks_with reading groups recording known p.held)) (next_by reading groups recording known p.held) (end_at (walks_with reading groups recording known p.held)) (end_by reading groups recording known p.held)
    (next_is reading groups recording known p.held p.are_held) (end_is reading groups recording known p.held p.are_held) in
    subst (λ (listed : List CauseView). TellsCauses (next_by reading groups recording known p.held) (end_by reading groups recording known p.held) p.held listed) (sym (causes_found_by reading groups recording known causes p))
    (record {
      each_walk_ends = λ rank h. let end = found.each_walk_ends rank h in (end.0, end.1, comes rank end.0 end.2);
      each_is_an_end = λ cause listed. let start = found.each_is_an_end cause listed in (start.0, start.1, comes start.0 cause start.2);
      none_twice = found.none_twice;
    })
