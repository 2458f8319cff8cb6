use Rattle.mpicall.proofs.ArgumentLemmas.{peer_by_number}
use Rattle.mpicall.proofs.parsing.next_peer.Goals as goal

pub returns-in-Some : goal.returns-in-Some
returns-in-Some c = peer_by_number c.args.fields.now c.next_canonical.new.self c.in-Some.rank (rw c.from.ensures at c.in-Some.ensures.value)
