-- Where there is no call nobody is woken.
use Rattle.std.proofs.Common.{◌≡◌, ◌∙◌, None, refl, sym, ap}
use Rattle.std.specs.Prelude.{option_map}
use Rattle.std.specs.List.{slice_get}
use Rattle.callstore.specs.Recordings.{calls_of}
use Rattle.pairing.specs.Partners.{partner_of}
use Rattle.pairing.specs.Seen.{call_seen}
use Rattle.callstore.specs.declared.envelope.Half.TheVariants.{Send as SendHalf, Recv as RecvHalf}
use Rattle.moves.specs.inner.Waiting.{sent_to}
use Rattle.moves.proofs.WakeLemmas.{no_peers}
use Rattle.moves.proofs.settle.wake_peers.Goals as goal

pub wake_peers_of-requires-clause-call : goal.wake_peers_of-requires-clause-call
wake_peers_of-requires-clause-call c = sym (rw c.in-Some.is at c.requires.call)

pub wake_peers_of-requires-clause-seen : goal.wake_peers_of-requires-clause-seen
wake_peers_of-requires-clause-seen c = rw c.in-Some.is at c.requires.seen

pub returns-in_default : goal.returns-in_default
returns-in_default c =
    let p = c.args.world.now.pairs in
    let none : slice_get (calls_of p.recording c.args.at.0) c.args.at.1 ≡ None = sym c.requires.call ∙ ap (option_map call_seen) c.in_default.is in
    let sends : partner_of p.groups p.recording c.args.at.0 c.args.at.1 SendHalf ≡ None = rw none refl in
    let receives : partner_of p.groups p.recording c.args.at.0 c.args.at.1 RecvHalf ≡ None = rw none refl in
    let sent : sent_to p.groups p.recording c.args.at.0 c.args.at.1 ≡ None = rw none refl in
    no_peers p.groups p.recording c.args.at.0 c.args.at.1 c.args.waiters.now sends receives sent
