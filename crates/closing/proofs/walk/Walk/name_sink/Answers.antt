-- Without sinks none is named.
use Rattle.std.proofs.Common.{◌∙◌}
use Rattle.closing.specs.Called.{naturals_in}
use Rattle.closing.proofs.SunkWaits.{names_none, names_said}
use Rattle.closing.proofs.walk.Walk.name_sink.Goals as goal

pub returns-then-are_none : goal.returns-then-are_none
returns-then-are_none c = λ lines records has tells stand.
    names_none lines (naturals_in c.args.requests.now) records c.args.self.now.sinks has (c.are_none.ensures c.if-are_none.true)

pub returns : goal.returns
returns c = λ lines records has tells stand.
    c.name_some_sink.ensures ∙ names_said lines c.args.self.now.requests c.args.self.now.sinks records tells has c.args.requests.now stand
