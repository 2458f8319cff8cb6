-- As it went, one that came back stands for nothing.
use Rattle.std.proofs.Common.{◌∙◌, sym, ap, ◌&&◌, not}
use Rattle.closing.specs.Called.{naturals_in}
use Rattle.closing.specs.inner.Sunk.{names_sink}
use Rattle.closing.proofs.walk.Walk.ends_at_sink.Goals as goal

pub returns-then-at : goal.returns-then-at
returns-then-at c = λ lines records has tells stand.
    sym (ap (λ b. not b && names_sink lines (naturals_in c.args.requests.now) records) c.if-at.true)

pub returns : goal.returns
returns c = λ lines records has tells stand.
    c.name_sink.ensures lines records has tells stand ∙ sym (ap (λ b. not b && names_sink lines (naturals_in c.args.requests.now) records) c.if-at.false)
