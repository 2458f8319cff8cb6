-- The requests from the index on are in range just where all are.
use Rattle.std.proofs.Common.{◌≡◌, drop, map}
use Rattle.std.specs.List.{list_all}
use Rattle.mpicall.specs.Argument.{request_argument, is_in_range}
use Rattle.mpicall.proofs.record.are_requests_in_range.Given as goal

abbrev pub invariant-loop-req : goal.invariant-loop-req
invariant-loop-req l =
    list_all is_in_range (map request_argument (drop l.req-index l.reqs)) ≡ list_all is_in_range (map request_argument l.reqs)
