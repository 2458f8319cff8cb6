-- Each message's partner is what is seen with the call; who has no message wakes nobody by one.
use Rattle.std.proofs.Common.{◌≡◌, ◌∙◌, None, refl, ap}
use Rattle.pairing.specs.Partners.{partner_of}
use Rattle.callstore.specs.declared.envelope.Half.TheVariants.{Send as SendHalf, Recv as RecvHalf}
use Rattle.moves.specs.inner.Waiting.{WaitLists, sent_to, woken_partner, woken_prober}
use Rattle.moves.proofs.WakeLemmas.{no_peers}
use Rattle.moves.proofs.settle.wake_peers_of.Goals as goal

pub returns-then-exchanges : goal.returns-then-exchanges
returns-then-exchanges c =
    let p = c.args.world.now.pairs in
    let sends = c.partner-send.ensures ∙ c.requires.seen.partner SendHalf in
    let receives = c.partner-recv.ensures ∙ c.requires.seen.partner RecvHalf in
    let first = c.wake_partner.ensures ∙ ap (woken_partner c.args.waiters.now) sends in
    let second = c.wake_partner-then-exchanges.ensures ∙ ap (woken_partner c.wake_partner.new.waiters) receives in
    c.wake_prober.ensures
    ∙ ap (woken_prober p.groups p.recording c.args.at.0 c.args.at.1)
    (second ∙ ap (λ (w : WaitLists). woken_partner w (partner_of p.groups p.recording c.args.at.0 c.args.at.1 RecvHalf)) first)

pub returns-else-exchanges : goal.returns-else-exchanges
returns-else-exchanges c =
    let p = c.args.world.now.pairs in
    let no_send = c.exchanges.ensures.send c.if-exchanges.false in
    let no_recv = c.exchanges.ensures.recv c.if-exchanges.false in
    let sends : partner_of p.groups p.recording c.args.at.0 c.args.at.1 SendHalf ≡ None = rw (c.requires.call, no_send) refl in
    let receives : partner_of p.groups p.recording c.args.at.0 c.args.at.1 RecvHalf ≡ None = rw (c.requires.call, no_recv) refl in
    let sent : sent_to p.groups p.recording c.args.at.0 c.args.at.1 ≡ None = rw (c.requires.call, no_send) refl in
    no_peers p.groups p.recording c.args.at.0 c.args.at.1 c.args.waiters.now sends receives sent
