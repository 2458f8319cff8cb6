use Rattle.std.proofs.Common.{length, arith}
use Rattle.moves.specs.inner.Waiting.{comm_list, own_list}
use Rattle.moves.proofs.SettleLemmas.{hand_room, hand_links, links_partner, links_wave, wave_known}
use Rattle.moves.proofs.settle.let_go.Goals as goal

pub wait_for_partner-requires-clause-room : goal.wait_for_partner-requires-clause-room
wait_for_partner-requires-clause-room c =
    let w = c.args.world.now in
    let p = c.args.positions.now in
    hand_room w.reading w.pairs.groups w.pairs.recording p.stands.items p.progress p.waiters c.args.rank c.requires.in_hand

pub wait_for_wave-requires-clause-room : goal.wait_for_wave-requires-clause-room
wait_for_wave-requires-clause-room c =
    let w = c.args.world.now in
    let p = c.args.positions.now in
    hand_room w.reading w.pairs.groups w.pairs.recording p.stands.items p.progress p.waiters c.args.rank c.requires.in_hand

pub wait_for_wave-requires-clause-list : goal.wait_for_wave-requires-clause-list
wait_for_wave-requires-clause-list c =
    let w = c.args.world.now in
    let p = c.args.positions.now in
    omega (arith, wave_known w.pairs.groups w.pairs.recording p.stands.items p.progress c.args.rank c.in-Wave.comm (rw c.in-Wave.is at c.requires.tells), c.requires.in_hand.kept.has_lists.lists, c.requires.in_hand.kept.has_lists.awaited)

pub returns-in-Partner-clause-kept : goal.returns-in-Partner-clause-kept
returns-in-Partner-clause-kept c =
    let w = c.args.world.now in
    let p = c.args.positions.now in
    hand_links w.reading w.pairs.groups w.pairs.recording p.stands.items p.progress p.waiters c.wait_for_partner.new.self c.args.rank (own_list c.args.rank) c.requires.in_hand
    (links_partner w.reading w.pairs.groups w.pairs.recording p.stands.items p.progress p.waiters c.wait_for_partner.new.self c.args.rank c.in-Partner.place c.requires.in_hand (rw c.in-Partner.is at c.requires.tells) (hand_room w.reading w.pairs.groups w.pairs.recording p.stands.items p.progress p.waiters c.args.rank c.requires.in_hand) c.wait_for_partner.ensures)

pub returns-in-Wave-clause-kept : goal.returns-in-Wave-clause-kept
returns-in-Wave-clause-kept c =
    let w = c.args.world.now in
    let p = c.args.positions.now in
    hand_links w.reading w.pairs.groups w.pairs.recording p.stands.items p.progress p.waiters c.wait_for_wave.new.self c.args.rank (comm_list (length p.waiters.awaited) c.in-Wave.comm) c.requires.in_hand
    (links_wave w.reading w.pairs.groups w.pairs.recording p.stands.items p.progress p.waiters c.wait_for_wave.new.self c.args.rank c.in-Wave.comm c.requires.in_hand (rw c.in-Wave.is at c.requires.tells) (hand_room w.reading w.pairs.groups w.pairs.recording p.stands.items p.progress p.waiters c.args.rank c.requires.in_hand) c.wait_for_wave.ensures)
