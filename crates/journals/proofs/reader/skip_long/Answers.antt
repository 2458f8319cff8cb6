-- What came before is too much for a line, and each read adds to it.
use Rattle.std.proofs.Common.{◌≡◌, ◌∙◌, is_some, true, false}
use Rattle.journals.proofs.ReaderLemmas.{on_err, skip_cut, skip_end, skip_found, skip_more}
use Rattle.journals.proofs.reader.skip_long.Goals as goal

pub returns-in_err-fill-clause-cut : goal.returns-in_err-fill-clause-cut
returns-in_err-fill-clause-cut g c =
    on_err c.from_residual.result (skip_cut _ _ _ c.clear.new.self c.fill.new.self c.clear.ensures c.loop.invariant.passes c.in_err-fill.ensures.known c.in_err-fill.ensures.fault)

pub returns-then-branch-eq0-clause-lines : goal.returns-then-branch-eq0-clause-lines
returns-then-branch-eq0-clause-lines g c =
    skip_end _ _ _ c.clear.new.self c.fill.new.self c.in_ok-fill.field-0 c.clear.ensures c.loop.invariant.passes c.in_ok-fill.ensures.known c.in_ok-fill.ensures.ok c.if-branch-eq0.true (c.in_ok-fill.ensures.end c.if-branch-eq0.true)

pub returns-then-is_some-clause-lines : goal.returns-then-is_some-clause-lines
returns-then-is_some-clause-lines g c =
    let found : is_some c.feed_at.result ≡ true = cc in
    skip_found _ _ _ c.clear.new.self c.fill.new.self c.held.result.now c.feed_at.result c.clear.ensures c.loop.invariant.passes c.in_ok-fill.ensures.known c.held.ensures found c.feed_at.ensures

pub loop-preserved : goal.loop-preserved
loop-preserved g c =
    let found : is_some c.feed_at.result ≡ false = cc in
    record {
      passes = skip_more _ _ _ c.clear.new.self c.fill.new.self c.held.result.now c.feed_at.result c.clear.ensures c.loop.invariant.passes c.in_ok-fill.ensures.known c.held.ensures found c.feed_at.ensures;
      count = c.in_ok-fill.ensures.count ∙ c.loop.invariant.count;
    }
