-- What proofs and private contracts cite, in addition to the definitions of `specs/Collectors.antt`.
use Rattle.std.specs.Prelude.{◌≡◌, ◌≢◌, ℕ, true}
use Rattle.gather.specs.declared.collector.Collector.{Collector}
use Rattle.gather.specs.Collectors.{rings, kept, received_from, published, list_published, has_watches}

-- from one rank's feed alone more was received, memory that was wanted is wanted still, and nothing was published
pub record ReceivesFrom (rank : ℕ) (old new : Collector) : Type 0 where
  pub names : rings new ≡ rings old
  pub reading : (kept new).reading ≡ (kept old).reading
  pub groups : (kept new).groups ≡ (kept old).groups
  pub wanted : (kept old).wanted ≡ true → (kept new).wanted ≡ true
  pub others : (other : ℕ) → other ≢ rank → received_from new other ≡ received_from old other
  pub list : list_published new ≡ list_published old
  pub published : published new ≡ published old
  pub watched : has_watches new ≡ has_watches old
