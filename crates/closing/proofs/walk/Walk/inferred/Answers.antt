-- What others report of a call that never came back.
use Rattle.std.proofs.Common.{◌≡◌, ◌∙◌, sym, false}
use Rattle.closing.proofs.AtLemmas.{inferred_there}
use Rattle.closing.proofs.walk.Walk.inferred.Goals as goal

pub returns-then-not-came_back : goal.returns-then-not-came_back
returns-then-not-came_back c = λ said placed n numbered within at same back.
    let gone : c.came_back.result ≡ false = c.if-not-came_back.true in
    inferred_there said c.args.self.now.rank n placed c.args.run.now.keys c.inferred.result at (back ∙ sym c.came_back.ensures ∙ gone)
    (c.inferred.ensures.inferred said numbered within)
