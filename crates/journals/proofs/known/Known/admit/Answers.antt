-- A line after the end.
use Rattle.std.proofs.Common.{◌∙◌, sym, refl, true, take}
use Rattle.journals.specs.Taking.{fields_at}
use Rattle.journals.specs.inner.Knows.{owner_of}
use Rattle.journals.proofs.AdmitLemmas.{faults_are}
use Rattle.journals.proofs.known.Known.admit.Goals as goal

pub returns-then-self-clause-answer : goal.returns-then-self-clause-answer
returns-then-self-clause-answer c =
    faults_are (owner_of c.args.self.now) (take c.args.taken.line c.args.lines.now) (record { word = c.args.taken.word; fields = fields_at c.args.lines.now c.args.taken.line }) true _ _ _ _
    (sym c.requires.knows.over ∙ c.if-self.true) refl refl refl refl
