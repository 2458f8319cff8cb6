use Rattle.pairing.specs.inner.Seated.{seat_in}
use Rattle.pairing.proofs.probing.Probing.has_probes.Goals as goal

pub returns-clause-none : goal.returns-clause-none
returns-clause-none c groups recording are says_no = rw says_no at (c.has_probes.ensures groups recording (seat_in c.args.self.now) are)

pub returns-clause-some : goal.returns-clause-some
returns-clause-some c groups recording are says_yes = rw says_yes at (c.has_probes.ensures groups recording (seat_in c.args.self.now) are)
