use Rattle.std.proofs.Common.{None}
use Rattle.std.proofs.lemmas.Option.{none-some}
use Rattle.pairing.specs.inner.Seated.{seat_in}
use Rattle.pairing.proofs.ProbingLemmas.{reseated}
use Rattle.pairing.proofs.probing.Probing.new.Goals as goal

pub returns : goal.returns
returns c groups ranks = reseated groups _ (λ r p. None) (seat_in (record { probes = c.new.result; seats = c.new-2.result })) c.new.result (λ r p s h. absurd (none-some s h)) (c.new.ensures groups ranks)
