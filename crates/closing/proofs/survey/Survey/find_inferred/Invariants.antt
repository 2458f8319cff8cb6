-- What the keys so far say is found.
use Rattle.std.proofs.Common.{◌≡◌, ℕ, ◌<◌, List, Option, take}
use Rattle.std.specs.List.{AllZip}
use Rattle.closing.specs.Keys.{Key}
use Rattle.closing.specs.RankComms.{Wave}
use Rattle.closing.specs.inner.Surveyed.{Await, HaveNone, IsFound}
use Rattle.closing.specs.inner.Table.{HasKey, IsTable, ranks_in}
use Rattle.closing.proofs.survey.Survey.find_inferred.Given as goal

abbrev pub invariant-loop-index : goal.invariant-loop-index
invariant-loop-index l = record {
  same : l.self ≡ record l.fn.self { inferred = l.self.inferred };
  found : (ranks : ℕ) (gots : List Key) (wave : ℕ → Option Wave) → IsTable l.fn.self.keys → ranks_in l.fn.self.keys ≡ ranks
      → AllZip (HasKey l.fn.self.keys) l.fn.self.got.items gots → Await l.fn.self ranks wave → HaveNone l.fn.self ranks
      → (rank : ℕ) → rank < ranks → IsFound l.self ranks (take l.index gots) (wave rank) rank;
}
