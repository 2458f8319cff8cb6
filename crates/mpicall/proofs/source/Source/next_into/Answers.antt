-- An end that was answered is answered again.
use Rattle.mpicall.specs.Source.{coming}
use Rattle.mpicall.proofs.GivesLemmas.{gives_done, gives_fault, own_fault}
use Rattle.mpicall.proofs.source.Source.next_into.Goals as goal

pub returns-in-Done-clause-trace : goal.returns-in-Done-clause-trace
unfolding coming
returns-in-Done-clause-trace g c = gives_done _ _ c.in-Done.is

pub returns-in-Failed-clause-trace : goal.returns-in-Failed-clause-trace
unfolding coming
returns-in-Failed-clause-trace g c = gives_fault _ _ c.in-Failed.fault c.in-Failed.is

pub returns-in-Failed-clause-own : goal.returns-in-Failed-clause-own
returns-in-Failed-clause-own g c = own_fault _ c.in-Failed.fault c.args.self.now.own c.in-Failed.is
