-- What the next line is, by what is held of it.
use Rattle.std.proofs.Common.{◌≡◌, ◌≢◌, ◌<◌, ◌-◌, get_or}
use Rattle.mpicall.specs.Spelling.{line_feed}
use Rattle.journals.proofs.ReaderLemmas.{on_err, cut_held, cut_before, line_held, finds_whole, finds_long, finds_end, long_before, none_before}
use Rattle.journals.proofs.reader.next_line.Goals as goal

pub returns-in_err-count-clause-cut : goal.returns-in_err-count-clause-cut
returns-in_err-count-clause-cut g c =
    on_err c.from_residual.result (cut_held _ _ c.line_end.new.window c.in_err-count.ensures.known c.in_err-count.ensures.cut)

pub returns-then-count-gt-MOST_LINE_BYTES-clause-lines : goal.returns-then-count-gt-MOST_LINE_BYTES-clause-lines
returns-then-count-gt-MOST_LINE_BYTES-clause-lines g c =
    let seen : (0 < c.in_ok-count.count) × (get_or c.held.result.now (c.in_ok-count.count - 1) 0 ≡ line_feed) = c.if-ends_line.ensures in
    let feed = rw c.held.ensures at seen in
    finds_long _ _ c.line_end.new.window c.in_ok-count.count c.in_ok-count.ensures.known c.in_ok-count.ensures.ends feed.1 c.if-count-gt-MOST_LINE_BYTES.true

pub returns-then-ends_line-clause-lines : goal.returns-then-ends_line-clause-lines
returns-then-ends_line-clause-lines g c =
    let seen : (0 < c.in_ok-count.count) × (get_or c.held.result.now (c.in_ok-count.count - 1) 0 ≡ line_feed) = c.if-ends_line.ensures in
    let feed = rw c.held.ensures at seen in
    finds_whole _ _ c.line_end.new.window c.in_ok-count.count c.in_ok-count.ensures.known (line_held c.line_end.new.window _ c.in_ok-count.count c.in_ok-count.ensures.ends feed.0 feed.1 c.if-count-gt-MOST_LINE_BYTES.false)

pub returns-then-count-le-MOST_LINE_BYTES-clause-lines : goal.returns-then-count-le-MOST_LINE_BYTES-clause-lines
returns-then-count-le-MOST_LINE_BYTES-clause-lines g c =
    let seen : 0 < c.in_ok-count.count → get_or c.held.result.now (c.in_ok-count.count - 1) 0 ≢ line_feed = c.if-ends_line.ensures in
    let feed = rw c.held.ensures at seen in
    finds_end _ _ c.line_end.new.window c.in_ok-count.count c.in_ok-count.ensures.known c.in_ok-count.ensures.ends feed c.if-count-le-MOST_LINE_BYTES.true

pub returns-in_err-ends-clause-cut : goal.returns-in_err-ends-clause-cut
returns-in_err-ends-clause-cut g c =
    on_err c.from_residual-in_err-ends.result (cut_before _ _ _ c.in_ok-count.ensures.known c.in_err-ends.ensures.cut)

pub returns-then-ends-clause-lines : goal.returns-then-ends-clause-lines
returns-then-ends-clause-lines g c =
    long_before _ _ c.in_ok-count.ensures.known (rw c.if-ends.true at c.in_ok-ends.ensures.lines)

pub returns-clause-lines : goal.returns-clause-lines
returns-clause-lines g c =
    none_before _ _ c.in_ok-count.ensures.known (rw c.if-ends.false at c.in_ok-ends.ensures.lines)
