-- The line so far, with the requests from the index on after it, is the whole one.
use Rattle.std.proofs.Common.{◌≡◌, ◌≤◌, ◌+◌, ◌*◌, drop, map, length}
use Rattle.mpicall.specs.Argument.{request_argument}
use Rattle.mpicall.specs.inner.Draft.{line_with}
use Rattle.mpicall.proofs.page.Page.push_requests.Given as goal

abbrev pub invariant-loop-req : goal.invariant-loop-req
invariant-loop-req l =
    (line_with l.self (map request_argument (drop l.req-index l.reqs)) ≡ line_with l.fn.self (map request_argument l.reqs))
    × (length l.self ≤ length l.fn.self + 12 * l.req-index)
