-- What the next line is, where it is the line that was expected.
use Rattle.mpicall.specs.Source.{coming}
use Rattle.mpicall.proofs.CutLemmas.{gives_spelled, held_spelling}
use Rattle.mpicall.proofs.source.Source.read_record.Goals as goal

pub returns-in-Some-clause-trace : goal.returns-in-Some-clause-trace
unfolding coming
returns-in-Some-clause-trace g c =
    let begins = rw c.buffered.ensures at c.in-Some.ensures in
    rw (c.requires, c.stage_behind-self.ensures, c.drop_front.ensures) (gives_spelled _ _ _ _ begins)

pub returns-in-Some-clause-line : goal.returns-in-Some-clause-line
returns-in-Some-clause-line g c =
    let begins = rw c.buffered.ensures at c.in-Some.ensures in
    λ given. rw c.drop_front.ensures (held_spelling _ _ _ _ begins)

pub returns-clause-trace : goal.returns-clause-trace
unfolding coming
returns-clause-trace g c = c.read_unexpected.ensures.trace
