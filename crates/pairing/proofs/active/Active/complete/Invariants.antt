use Rattle.std.proofs.Common.{◌≡◌, ◌≤◌, ◌==◌, ◌&&◌, None, true, take, ℕ, if◌then◌else◌}
use Rattle.indexmap.specs.IndexMap.{spare}
use Rattle.callstore.specs.Requests.{is_among}
use Rattle.pairing.specs.inner.Starts.{place_in, has_cell}
use Rattle.pairing.proofs.active.Active.complete.Given as goal

-- the requests so far are taken out
abbrev pub invariant-loop-req : goal.invariant-loop-req
invariant-loop-req l = record {
  taken : (r req : ℕ) → place_in l.self r req ≡ (if r == l.rank && is_among req (take l.req-index l.reqs) then None else place_in l.fn.self r req);
  free : (r q : ℕ) → has_cell l.fn.self r q ≡ true → has_cell l.self r q ≡ true;
  room : spare l.fn.self.others ≤ spare l.self.others;
}
