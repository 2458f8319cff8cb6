use Rattle.std.proofs.Common.{◌≡◌, ◌+◌, ◌<◌, ℕ, Option, Some, None, length, refl, ap, subst, ◌∙◌, arith}
use Rattle.std.specs.Prelude.{IfSome}
use Rattle.std.proofs.lemmas.Option.{none-some, same_Some}
use Rattle.mpigroup.specs.Groups.{Groups}
use Rattle.callstore.specs.Recordings.{Lists}
use Rattle.pairing.specs.Partners.{partner_of}
use Rattle.callstore.specs.declared.envelope.Half.TheVariants.{Send as SendHalf, Recv as RecvHalf}
use Rattle.moves.specs.inner.Waiting.{WaitLists, woken_partner, woken_peers, woken_comm, comm_list}
use Rattle.moves.proofs.WakeLemmas.{all_woken, one_by_one, wave_if}
use Rattle.moves.proofs.SettleLemmas.{partners_room, reach_hand, reach_counts}
use Rattle.moves.proofs.settle.reach_call.Goals as goal

-- a communicator that may be answered is one of the groups
known : (comms : ℕ) (done : Option ℕ) → IfSome done (λ comm. comm < comms) → (comm : ℕ) → done ≡ Some comm → comm < comms
known comms None h comm e = absurd (none-some comm e)
known comms (Some c) h comm e = subst (λ (k : ℕ). k < comms) (same_Some c comm e) h

if_known : (done : Option ℕ) (comms awaited lists : ℕ) → 1 + awaited + comms ≡ lists → IfSome done (λ comm. comm < comms) → IfSome done (λ comm. comm_list awaited comm < lists)
if_known None comms awaited lists e h = tt
if_known (Some c) comms awaited lists e h = omega (arith, e, h)

-- who waits for the messages is woken one by one
peers : (groups : Groups) (recording : Lists) (rank place : ℕ) (w woken : WaitLists) → woken ≡ woken_peers groups recording rank place w → woken ≡ all_woken groups recording rank place w None
peers groups recording rank place w woken e =
    let sender : WaitLists = woken_partner w (partner_of groups recording rank place SendHalf) in
    one_by_one groups recording rank place w sender (woken_partner sender (partner_of groups recording rank place RecvHalf)) woken refl refl e

pub reach-complete-requires-clause-joined : goal.reach-complete-requires-clause-joined
reach-complete-requires-clause-joined c = c.wave_of-joined.ensures ∙ wave_if c.args.world.now c.args.at c.args.call.now c.requires.call c.requires.seen

pub reach-complete-requires-clause-waves : goal.reach-complete-requires-clause-waves
reach-complete-requires-clause-waves c = rw c.deref.ensures.value c.requires.reached.are_waves

pub reach-complete-requires-clause-is_there : goal.reach-complete-requires-clause-is_there
reach-complete-requires-clause-is_there c = rw c.deref.ensures.value c.requires.reached.is_there

pub wake_members-requires : goal.wake_members-requires
wake_members-requires c =
    let p = c.args.world.now.pairs in
    let w = c.args.positions.now.waiters in
    let both = peers p.groups p.recording c.args.at.0 c.args.at.1 w c.wake_peers.new.waiters c.wake_peers.ensures in
    let room = partners_room p.groups p.recording c.args.at.0 c.args.at.1 w c.requires.reached.has_lists in
    if_known c.reach-complete.result (length p.groups) (length c.wake_peers.new.waiters.awaited) (length c.wake_peers.new.waiters.lists)
    (omega (arith, room.0, room.1, ap (λ (x : WaitLists). length x.lists) both, ap (λ (x : WaitLists). length x.awaited) both, c.requires.reached.has_lists.lists, c.requires.reached.has_lists.awaited))
    c.reach-complete.ensures.comm

pub returns : goal.returns
returns c =
    let p = c.args.world.now.pairs in
    let w = c.args.positions.now.waiters in
    let both = peers p.groups p.recording c.args.at.0 c.args.at.1 w c.wake_peers.new.waiters c.wake_peers.ensures in
    let all : c.wake_members.new.waiters ≡ all_woken p.groups p.recording c.args.at.0 c.args.at.1 w c.reach-complete.result = c.wake_members.ensures ∙ ap (λ (x : WaitLists). woken_comm x c.reach-complete.result) both in
    let is_known = known (length p.groups) c.reach-complete.result c.reach-complete.ensures.comm in
    let waves = rw c.deref.ensures.value at c.reach-complete.ensures.waves in
    record {
      in_hand =
          rw all (reach_hand c.args.world.now.reading p.groups p.recording c.args.positions.now.stands.items c.args.positions.now.progress c.reach-complete.new.self w c.args.at.0 c.args.at.1 c.reach-complete.result c.requires.reached waves c.reach-complete.ensures.others c.reach-complete.ensures.one is_known c.reach-complete.ensures.changes c.reach-complete.ensures.none);
      stands = refl;
      counts =
          rw all (reach_counts c.args.world.now.reading p.groups p.recording c.args.positions.now.stands.items c.args.positions.now.progress c.reach-complete.new.self w c.args.at.0 c.args.at.1 c.reach-complete.result c.requires.reached is_known c.reach-complete.ensures.counts);
    }
