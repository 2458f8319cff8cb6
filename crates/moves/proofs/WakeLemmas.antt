-- What the wakes do that the reaching of a call takes.
use Rattle.std.proofs.Common.{◌≡◌, ℕ, zero, suc, ◌+◌, ◌-◌, ◌*◌, ◌<◌, ◌≤◌, true, false, Option, Some, None, List, [], ◌∷◌, length, get_or, refl, sym, ap, subst, ◌∙◌, ⊎_elim, arith}
use Rattle.std.specs.Prelude.{◌^◌, min, ◌==◌, if◌then◌else◌}
use Rattle.std.specs.List.{slice_get}
use Rattle.std.specs.Option.{option_map, option_map_or, option_and_then}
use Rattle.std.proofs.Math.Nat.{min-le_left}
use Rattle.std.proofs.lemmas.List.{length-append}
use Rattle.std.proofs.lemmas.Option.{none-some, same_Some, slice_get_within, get_or_from_slice_get, slice_get-get_or}
use Rattle.std.proofs.lemmas.Bool.{cases_Bool, false≢true, eqb-true, eq-eqb}
use Rattle.mpigroup.specs.Groups.{Groups, world_rank_of, group_rank_of}
use Rattle.callstore.specs.declared.envelope.Envelope.{Envelope}
use Rattle.callstore.specs.declared.envelope.Half.{Half}
use Rattle.callstore.specs.declared.envelope.Message.{Message}
use Rattle.callstore.specs.declared.envelope.Half.TheVariants.{Send as SendHalf, Recv as RecvHalf}
use Rattle.callstore.specs.Recordings.{Lists, calls_of}
use Rattle.callstore.specs.Envelopes.{message_of, envelope_by}
use Rattle.pairing.specs.Partners.{number_of, partner_of}
use Rattle.pairing.specs.Probed.{probed_envelope, probed_envelope_at, probed_by, probed_of}
use Rattle.callstore.proofs.OptionLemmas.{and_then_parts, map_parts}
use Rattle.pairing.proofs.PartnerLemmas.{numbered_parts, numbered_half}
use Rattle.pairing.proofs.ProbedLemmas.{prober}
use Rattle.arenaqueue.specs.inner.Numbers.{count}
use Rattle.arenaqueue.specs.Numbers.{list_at}
use Rattle.moves.specs.inner.Waiting.{WaitLists, own_list, comm_list, woken, awaits, woken_at, woken_partner, sent_to, sees, prober_of, woken_prober, woken_peers, woken_comm, WaitsFor, HasLists}
use Rattle.callstore.specs.Waves.{wave_of}
use Rattle.pairing.specs.Seen.{wave_seen}
use Rattle.pairing.specs.declared.call_at.CallAt.{CallAt}
use Rattle.moves.specs.inner.Positions.{IsCallIf, IsSeenIf}
use Rattle.moves.specs.declared.world.World.{World}
use Rattle.moves.proofs.LinkLemmas.{Wakes, wakes_none, wakes_both, wakes_list, woken_there, woken_work}

-- the greatest count
abbrev pub most_work : ℕ
most_work = 2 ^ 64 - 1

-- what waking does to waiting ranks
pub record Wakens (old new : WaitLists) : Type 0 where
  pub wakes : Wakes old.lists new.lists
  pub same_spare : new.spare ≡ old.spare
  pub same_awaited : new.awaited ≡ old.awaited
  pub no_less : min old.work most_work ≤ min new.work most_work

wakens_none : (w : WaitLists) → Wakens w w
wakens_none w = record { wakes = wakes_none w.lists; same_spare = refl; same_awaited = refl; no_less = omega arith }

wakens_both : (a b c : WaitLists) → Wakens a b → Wakens b c → Wakens a c
wakens_both a b c h g = record {
  wakes = wakes_both a.lists b.lists c.lists h.wakes g.wakes;
  same_spare = g.same_spare ∙ h.same_spare;
  same_awaited = g.same_awaited ∙ h.same_awaited;
  no_less = omega (arith, h.no_less, g.no_less);
}

wakens_list : (w : WaitLists) (l : ℕ) → 0 < l → l < length w.lists → Wakens w (woken w l)
wakens_list w l later within = record { wakes = wakes_list w.lists l later within; same_spare = refl; same_awaited = refl; no_less = omega arith }

awaits_there : (xs : List ℕ) (rank place : ℕ) (there : Option ℕ) → slice_get xs rank ≡ there → option_map_or (λ awaited. awaited == place) there false ≡ true → (rank < length xs) × (get_or xs rank 0 ≡ place)
awaits_there xs rank place None e h = absurd (false≢true h)
awaits_there xs rank place (Some awaited) e h = (slice_get_within xs rank awaited e, get_or_from_slice_get xs rank awaited 0 e ∙ eqb-true awaited place h)

awaits_parts : (w : WaitLists) (rank place : ℕ) → awaits w rank place ≡ true → (rank < length w.awaited) × (get_or w.awaited rank 0 ≡ place)
awaits_parts w rank place h = awaits_there w.awaited rank place (slice_get w.awaited rank) refl h

awaits_from : (w : WaitLists) (rank : ℕ) → rank < length w.awaited → awaits w rank (get_or w.awaited rank 0) ≡ true
awaits_from w rank within = rw (slice_get-get_or w.awaited rank 0 within) (eq-eqb (get_or w.awaited rank 0) (get_or w.awaited rank 0) refl)

wakens_at : (w : WaitLists) (partner : ℕ × ℕ) → 1 + length w.awaited ≤ length w.lists → Wakens w (woken_at w partner)
wakens_at w partner room =
    ⊎_elim
    (λ (yes : awaits w partner.0 partner.1 ≡ true).
    let parts = awaits_parts w partner.0 partner.1 yes in
    rw yes (wakens_list w (own_list partner.0) (omega arith) (omega (arith, parts.0, room))))
    (λ (no : awaits w partner.0 partner.1 ≡ false). rw no (wakens_none w))
    (cases_Bool (awaits w partner.0 partner.1))

wakens_partner : (w : WaitLists) (partner : Option (ℕ × ℕ)) → 1 + length w.awaited ≤ length w.lists → Wakens w (woken_partner w partner)
wakens_partner w None room = wakens_none w
wakens_partner w (Some partner) room = wakens_at w partner room

-- the rank that waits for the partner is in its list no more
emptied_by : (w : WaitLists) (rank r : ℕ) (partner : Option (ℕ × ℕ)) → rank < length w.awaited → 1 + length w.awaited ≤ length w.lists → partner ≡ Some (rank, get_or w.awaited rank 0) → count r (list_at (woken_partner w partner).lists (own_list rank)) ≡ 0
emptied_by w rank r partner within room is = rw is (rw (awaits_from w rank within) (ap (count r) (woken_there w.lists (own_list rank) (omega arith) (omega (arith, within, room)))))

wakens_comm : (w : WaitLists) (done : Option ℕ) → ((comm : ℕ) → done ≡ Some comm → comm_list (length w.awaited) comm < length w.lists) → Wakens w (woken_comm w done)
wakens_comm w None within = wakens_none w
wakens_comm w (Some comm) within = wakens_list w (comm_list (length w.awaited) comm) (omega arith) (within comm refl)

-- what wakes cost: four for each rank that is woken
abbrev pub load : WaitLists → ℕ
load w = w.work + 2 * length (list_at w.lists 0)

pub list_cost : (w : WaitLists) (l : ℕ) → 0 < l → l < length w.lists → load (woken w l) ≤ load w + 4 * length (list_at w.lists l)
list_cost w l later within =
    omega (arith, min-le_left (w.work + 2 * length (list_at w.lists l)) most_work, ap (length {A = ℕ}) (woken_work w.lists l later within), length-append (list_at w.lists 0) (list_at w.lists l))

pub partner_cost : (w : WaitLists) (partner : Option (ℕ × ℕ)) → 1 + length w.awaited ≤ length w.lists → ((rank : ℕ) → rank < length w.awaited → length (list_at w.lists (own_list rank)) ≤ 1) → load (woken_partner w partner) ≤ load w + 4
partner_cost w None room short = omega arith
partner_cost w (Some partner) room short =
    ⊎_elim
    (λ (yes : awaits w partner.0 partner.1 ≡ true).
    let parts = awaits_parts w partner.0 partner.1 yes in
    rw yes (omega (arith, list_cost w (own_list partner.0) (omega arith) (omega (arith, parts.0, room)), short partner.0 parts.0)))
    (λ (no : awaits w partner.0 partner.1 ≡ false). rw no (omega arith))
    (cases_Bool (awaits w partner.0 partner.1))

-- where a send goes to, by its envelope
sent_where : (groups : Groups) (m : Message) (own : ℕ) (e : Envelope) → envelope_by SendHalf m own ≡ e → world_rank_of groups m.comm m.peer ≡ world_rank_of groups e.comm e.dest
sent_where groups m own e h = ap (λ (f : Envelope). world_rank_of groups f.comm f.dest) h

-- who is seen by the probe of a rank, sends to that rank
rank_sent_to : (groups : Groups) (recording : Lists) (rank place other start : ℕ) → probed_of groups recording other start ≡ Some (rank, place) → sent_to groups recording rank place ≡ Some other
rank_sent_to groups recording rank place other start h =
    let parts = and_then_parts (probed_by groups recording other start) (probed_envelope_at groups recording other start) (rank, place) h in
    let probe = and_then_parts (probed_envelope groups other) (slice_get (calls_of recording other) start) parts.0 parts.1 in
    let receives = prober groups other probe.0 parts.0 probe.2 in
    let from = numbered_parts groups recording SendHalf parts.0 (number_of groups recording other RecvHalf parts.0 start) rank place parts.2 in
    let half = (numbered_half groups recording rank place SendHalf parts.0 (number_of groups recording other RecvHalf parts.0 start) from.1).0 in
    let message = and_then_parts (λ m. option_map (envelope_by SendHalf m) (group_rank_of groups m.comm rank)) (message_of SendHalf half.call) parts.0 half.envelope in
    let own = map_parts (envelope_by SendHalf message.0) (group_rank_of groups message.0.comm rank) parts.0 message.2 in
    rw (half.stands_there, message.1) (sent_where groups message.0 own.0 parts.0 own.2 ∙ receives)

sees_it : (groups : Groups) (recording : Lists) (rank place other start : ℕ) → probed_of groups recording other start ≡ Some (rank, place) → sees groups recording other start rank place ≡ true
sees_it groups recording rank place other start h = rw h (rw (eq-eqb rank rank refl, eq-eqb place place refl) refl)

-- so it is the rank that is woken
prober_is : (groups : Groups) (recording : Lists) (awaited : List ℕ) (rank place other : ℕ) → other < length awaited → probed_of groups recording other (get_or awaited other 0) ≡ Some (rank, place) → prober_of groups recording awaited rank place ≡ Some (other, get_or awaited other 0)
prober_is groups recording awaited rank place other within h =
    rw (rank_sent_to groups recording rank place other (get_or awaited other 0) h, slice_get-get_or awaited other 0 within)
    (rw (sees_it groups recording rank place other (get_or awaited other 0) h) refl)

-- where no probe sees a send, none is woken
no_prober : (groups : Groups) (recording : Lists) (awaited : List ℕ) (rank place : ℕ) → ((other start : ℕ) → probed_of groups recording other start ≡ None) → prober_of groups recording awaited rank place ≡ None
no_prober groups recording awaited rank place none = by_rank (sent_to groups recording rank place)
  where
    by_start : (other : ℕ) (there : Option ℕ) → option_and_then {U = ℕ × ℕ} (λ start. if sees groups recording other start rank place then Some (other, start) else None) there ≡ None
    by_start other None = refl
    by_start other (Some start) = rw (none other start) refl

    by_rank : (to : Option ℕ) → option_and_then {U = ℕ × ℕ} (λ other. option_and_then {U = ℕ × ℕ} (λ start. if sees groups recording other start rank place then Some (other, start) else None) (slice_get awaited other)) to ≡ None
    by_rank None = refl
    by_rank (Some other) = by_start other (slice_get awaited other)

pub none_probe : (groups : Groups) (recording : Lists) (rank place : ℕ) (w : WaitLists) → ((other start : ℕ) → probed_of groups recording other start ≡ None) → w ≡ woken_prober groups recording rank place w
none_probe groups recording rank place w none = rw (no_prober groups recording w.awaited rank place none) refl

room_of : (groups : Groups) (recording : Lists) (w : WaitLists) → HasLists groups recording w → 1 + length w.awaited ≤ length w.lists
room_of groups recording w h = omega (arith, h.lists, h.awaited)

room_on : (w new : WaitLists) → Wakens w new → 1 + length w.awaited ≤ length w.lists → 1 + length new.awaited ≤ length new.lists
room_on w new wakens room = omega (arith, room, ap (length {A = ℕ}) wakens.same_awaited, wakens.wakes.lists)

-- the waiting ranks once those are to be looked at that wait for one of some calls
abbrev pub woken_each : WaitLists → List (Option (ℕ × ℕ)) → WaitLists
woken_each w [] = w
woken_each w (partner ∷ more) = woken_each (woken_partner w partner) more

wakens_each : (w : WaitLists) (partners : List (Option (ℕ × ℕ))) → 1 + length w.awaited ≤ length w.lists → Wakens w (woken_each w partners)
wakens_each w [] room = wakens_none w
wakens_each w (partner ∷ more) room =
    let next : WaitLists = woken_partner w partner in
    let first = wakens_partner w partner room in
    wakens_both w next (woken_each next more) first (wakens_each next more (room_on w next first room))

each_emptied : (w : WaitLists) (partners : List (Option (ℕ × ℕ))) (i rank r : ℕ) → rank < length w.awaited → 1 + length w.awaited ≤ length w.lists → slice_get partners i ≡ Some (Some (rank, get_or w.awaited rank 0)) → count r (list_at (woken_each w partners).lists (own_list rank)) ≡ 0
each_emptied w [] i rank r within room is = absurd (none-some (Some (rank, get_or w.awaited rank 0)) is)
each_emptied w (partner ∷ more) zero rank r within room is =
    let next : WaitLists = woken_partner w partner in
    let none = emptied_by w rank r partner within room (same_Some partner (Some (rank, get_or w.awaited rank 0)) is) in
    omega (arith, none, (wakens_each next more (room_on w next (wakens_partner w partner room) room)).wakes.fewer r (own_list rank) (omega arith))
each_emptied w (partner ∷ more) (suc i) rank r within room is =
    let next : WaitLists = woken_partner w partner in
    let first = wakens_partner w partner room in
    each_emptied next more i rank r (omega (arith, within, ap (length {A = ℕ}) first.same_awaited)) (room_on w next first room)
    (is ∙ ap (λ (xs : List ℕ). Some (Some (rank, get_or xs rank 0))) (sym first.same_awaited))

each_cost : (w : WaitLists) (partners : List (Option (ℕ × ℕ))) → 1 + length w.awaited ≤ length w.lists → ((x : WaitLists) → Wakens w x → (owner : ℕ) → owner < length x.awaited → length (list_at x.lists (own_list owner)) ≤ 1) → load (woken_each w partners) ≤ load w + 4 * length partners
each_cost w [] room short = omega arith
each_cost w (partner ∷ more) room short =
    let next : WaitLists = woken_partner w partner in
    let first = wakens_partner w partner room in
    omega (arith, partner_cost w partner room (short w (wakens_none w)), each_cost next more (room_on w next first room) (λ x wakens. short x (wakens_both w next x first wakens)))

-- whom the reaching of a call wakes, besides the members of a wave: who waits for it as a partner, or at a probe
abbrev pub partners_of : Groups → Lists → List ℕ → ℕ → ℕ → List (Option (ℕ × ℕ))
partners_of groups recording awaited rank place =
    partner_of groups recording rank place SendHalf ∷ partner_of groups recording rank place RecvHalf ∷ prober_of groups recording awaited rank place ∷ []

abbrev pub all_woken : Groups → Lists → ℕ → ℕ → WaitLists → Option ℕ → WaitLists
all_woken groups recording rank place w done = woken_comm (woken_each w (partners_of groups recording w.awaited rank place)) done

-- it is done one after the other
same_awaited : (w : WaitLists) (partner : Option (ℕ × ℕ)) → (woken_partner w partner).awaited ≡ w.awaited
same_awaited w None = refl
same_awaited w (Some partner) =
    ⊎_elim
    (λ (yes : awaits w partner.0 partner.1 ≡ true). rw yes refl)
    (λ (no : awaits w partner.0 partner.1 ≡ false). rw no refl)
    (cases_Bool (awaits w partner.0 partner.1))

pub one_by_one : (groups : Groups) (recording : Lists) (rank place : ℕ) (w one two three : WaitLists) → one ≡ woken_partner w (partner_of groups recording rank place SendHalf) → two ≡ woken_partner one (partner_of groups recording rank place RecvHalf) → three ≡ woken_prober groups recording rank place two → three ≡ all_woken groups recording rank place w None
one_by_one groups recording rank place w one two three first second third =
    let awaited : two.awaited ≡ w.awaited =
    ap (λ (x : WaitLists). x.awaited) second ∙ same_awaited one (partner_of groups recording rank place RecvHalf)
    ∙ ap (λ (x : WaitLists). x.awaited) first ∙ same_awaited w (partner_of groups recording rank place SendHalf) in
    third ∙ ap (λ (xs : List ℕ). woken_partner two (prober_of groups recording xs rank place)) awaited
    ∙ ap (λ (x : WaitLists). woken_partner x (prober_of groups recording w.awaited rank place)) (second ∙ ap (λ (x : WaitLists). woken_partner x (partner_of groups recording rank place RecvHalf)) first)

-- what all of it does
last_wakens : (groups : Groups) (recording : Lists) (w : WaitLists) (partners : List (Option (ℕ × ℕ))) (done : Option ℕ) → HasLists groups recording w → ((comm : ℕ) → done ≡ Some comm → comm < length groups) → Wakens (woken_each w partners) (woken_comm (woken_each w partners) done)
last_wakens groups recording w partners done h known =
    let each = wakens_each w partners (room_of groups recording w h) in
    wakens_comm (woken_each w partners) done
    (λ comm e. omega (arith, known comm e, h.lists, h.awaited, each.wakes.lists, ap (length {A = ℕ}) each.same_awaited))

pub all_wakens : (groups : Groups) (recording : Lists) (rank place : ℕ) (w : WaitLists) (done : Option ℕ) → HasLists groups recording w → ((comm : ℕ) → done ≡ Some comm → comm < length groups) → Wakens w (all_woken groups recording rank place w done)
all_wakens groups recording rank place w done h known =
    let partners = partners_of groups recording w.awaited rank place in
    wakens_both w (woken_each w partners) (all_woken groups recording rank place w done) (wakens_each w partners (room_of groups recording w h)) (last_wakens groups recording w partners done h known)

-- who waits for the call is in its list no more
pub waiter_emptied : (groups : Groups) (recording : Lists) (rank place : ℕ) (w : WaitLists) (done : Option ℕ) (other r : ℕ) → HasLists groups recording w → ((comm : ℕ) → done ≡ Some comm → comm < length groups) → other < length recording → WaitsFor groups recording rank place other (get_or w.awaited other 0) → count r (list_at (all_woken groups recording rank place w done).lists (own_list other)) ≡ 0
waiter_emptied groups recording rank place w done other r h known is_rank waits =
    let within : other < length w.awaited = omega (arith, is_rank, h.awaited) in
    ⊎_elim
    (λ (partner : (half : Half) × (partner_of groups recording rank place half ≡ Some (other, get_or w.awaited other 0))). by_half partner.0 partner.1)
    (λ (probe : probed_of groups recording other (get_or w.awaited other 0) ≡ Some (rank, place)).
    by_index 2 (ap (λ (o : Option (ℕ × ℕ)). Some o) (prober_is groups recording w.awaited rank place other within probe)))
    waits
  where
    by_index : (i : ℕ) → slice_get (partners_of groups recording w.awaited rank place) i ≡ Some (Some (other, get_or w.awaited other 0)) → count r (list_at (all_woken groups recording rank place w done).lists (own_list other)) ≡ 0
    by_index i is =
        let partners = partners_of groups recording w.awaited rank place in
        omega (arith, each_emptied w partners i other r (omega (arith, is_rank, h.awaited)) (room_of groups recording w h) is, (last_wakens groups recording w partners done h known).wakes.fewer r (own_list other) (omega arith))

    by_half : (half : Half) → partner_of groups recording rank place half ≡ Some (other, get_or w.awaited other 0) → count r (list_at (all_woken groups recording rank place w done).lists (own_list other)) ≡ 0
    by_half SendHalf is = by_index 0 (ap (λ (o : Option (ℕ × ℕ)). Some o) is)
    by_half RecvHalf is = by_index 1 (ap (λ (o : Option (ℕ × ℕ)). Some o) is)

-- who waits for the communicator's waves is in its list no more, once one of them is complete
pub wave_emptied : (groups : Groups) (recording : Lists) (rank place : ℕ) (w : WaitLists) (comm r : ℕ) → HasLists groups recording w → comm < length groups → count r (list_at (all_woken groups recording rank place w (Some comm)).lists (comm_list (length recording) comm)) ≡ 0
wave_emptied groups recording rank place w comm r h known =
    let partners = partners_of groups recording w.awaited rank place in
    let each = wakens_each w partners (room_of groups recording w h) in
    let last : WaitLists = woken_each w partners in
    let ranks : length last.awaited ≡ length recording = ap (length {A = ℕ}) each.same_awaited ∙ h.awaited in
    let none = ap (count r) (woken_there last.lists (comm_list (length last.awaited) comm) (omega arith) (omega (arith, known, h.lists, ranks, each.wakes.lists))) in
    subst (λ (n : ℕ). count r (list_at (all_woken groups recording rank place w (Some comm)).lists (comm_list n comm)) ≡ 0) ranks none

-- what they cost that wait for the call
pub three_cost : (groups : Groups) (recording : Lists) (rank place : ℕ) (w : WaitLists) → 1 + length w.awaited ≤ length w.lists → ((x : WaitLists) → Wakens w x → (owner : ℕ) → owner < length x.awaited → length (list_at x.lists (own_list owner)) ≤ 1) → load (all_woken groups recording rank place w None) ≤ load w + 12
three_cost groups recording rank place w room short = each_cost w (partners_of groups recording w.awaited rank place) room short

-- where no call is there, none is woken
pub none_woken : (groups : Groups) (recording : Lists) (rank place : ℕ) (w : WaitLists) → slice_get (calls_of recording rank) place ≡ None → all_woken groups recording rank place w None ≡ w
none_woken groups recording rank place w none =
    let sent : partner_of groups recording rank place SendHalf ≡ None = rw none refl in
    let received : partner_of groups recording rank place RecvHalf ≡ None = rw none refl in
    let to : sent_to groups recording rank place ≡ None = rw none refl in
    rw (sent, received, to) refl

-- who has no message wakes nobody by one
pub no_peers : (groups : Groups) (recording : Lists) (rank place : ℕ) (w : WaitLists) → partner_of groups recording rank place SendHalf ≡ None → partner_of groups recording rank place RecvHalf ≡ None → sent_to groups recording rank place ≡ None → w ≡ woken_peers groups recording rank place w
no_peers groups recording rank place w sends receives sent = rw sends (rw receives (rw sent refl))

-- the wave that a call joins, if there is one
pub wave_if : (w : World) (at : ℕ × ℕ) (seen : Option CallAt) → IsCallIf w at seen → IsSeenIf w at seen → option_and_then wave_seen seen ≡ wave_of w.pairs.recording at.0 at.1
wave_if w at None there seen = rw (sym there) refl
wave_if w at (Some call) there seen = seen.wave
