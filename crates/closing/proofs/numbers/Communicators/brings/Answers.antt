-- A wave that is kept brings what it does in the run.
use Rattle.std.proofs.Common.{◌∙◌, Option, subst}
use Rattle.closing.specs.inner.Table.{IsWaveOf}
use Rattle.closing.specs.declared.keys.Wave.{Wave as WaveCode}
use Rattle.closing.proofs.BringLemmas.{brings_none, brings_some}
use Rattle.closing.proofs.numbers.Communicators.brings.Goals as goal

pub returns-in-Some : goal.returns-in-Some
returns-in-Some c =
    λ run it h is.
    let self = c.args.self.now in
    c.contains.ensures ∙ brings_some run self c.in-Some.wave it h (subst (λ (o : Option WaveCode). IsWaveOf self.keys o it) c.in-Some.is is)

pub returns-in-None : goal.returns-in-None
returns-in-None c =
    λ run it h is.
    let self = c.args.self.now in
    brings_none run self it (subst (λ (o : Option WaveCode). IsWaveOf self.keys o it) c.in-None.is is)
