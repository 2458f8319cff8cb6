-- What a feeding thread promises, by the source, the feed and the gate that it is given.
use Rattle.std.specs.Prelude.{◌≡◌, ◌⊎◌, ℕ, Bool, Option, IfOk, List, []}
use Rattle.mpicall.specs.Source.{coming}
use Rattle.mpicall.specs.Trace.{Trace}
use Rattle.mpicall.specs.declared.source.Source.{Source}
use Rattle.mpicall.specs.declared.fault.SourceFault.TheVariants.{ThreadNotStarted}
use Rattle.rankfeed.specs.Items.{IsFeed}
use Rattle.rankfeed.specs.Rings.{feed_ring, receipt_ring, sent_whole}
use Rattle.mpicall.specs.declared.fault.Ending.TheVariants.{Torn}
use Rattle.rankfeed.specs.declared.item.Item.{Item}
use Rattle.rankfeed.specs.declared.ring.Feed.{Feed}
use Rattle.driver.specs.Along.{Along}
use Rattle.gather.specs.FeedContract.{IsFed, marked}
use Rattle.driver.specs.declared.threads.FeedResult.{FeedResult}
use Rattle.driver.specs.declared.threads.Started.{Started}
use Rattle.driver.specs.declared.threads.Started.TheVariants.{Running, NotStarted}

-- the items are those of a source, or the mark of a thread that didn't start alone
abbrev pub IsFedOrNotStarted : Option Trace → (ℕ → Bool → Type 0) → List Item → Type 0
IsFedOrNotStarted told may_answer items = IsFed told may_answer items ⊎ (items ≡ marked [] (Torn ThreadNotStarted))

-- what comes of a source, a feed and a gate: the receipt is that feed's, and its items are those of the source
pub record IsFedFrom {I : Type 0} (left : I → Option (List ℕ)) (may_answer : ℕ → ℕ → Bool → Type 0) (source : Source I) (feed : Feed) (fed : FeedResult) : Type 0 where
  pub name : IfOk fed.receipt (λ receipt. receipt_ring receipt ≡ feed_ring feed)
  pub order : IfOk fed.receipt (λ receipt. IsFeed (sent_whole receipt))
  pub items : IfOk fed.receipt (λ receipt. IsFedOrNotStarted (coming left source) (may_answer (feed_ring feed).rank_number) (sent_whole receipt))

-- the thread runs under the promise of this source, this feed and this gate, or all that comes of them has come
abbrev pub Promises : {I G : Type 0} → (I → Option (List ℕ)) → (G → ℕ → ℕ → Bool → Type 0) → Source I → Feed → G → Started I G → Type 0
Promises left may_answer source feed gate (Running handle) =
    (handle.promise.source.value ≡ source) × (handle.promise.feed.value ≡ feed) × (handle.promise.gate.value ≡ gate)
Promises left may_answer source feed gate (NotStarted fed) = IsFedFrom left (may_answer gate) source feed fed

-- each thread promises what comes of the source and the feed at its place, and of one gate
abbrev pub AllPromise : {I G : Type 0} → (I → Option (List ℕ)) → (G → ℕ → ℕ → Bool → Type 0) → List (Source I) → List Feed → G → List (Started I G) → Type 0
AllPromise left may_answer sources feeds gate started =
    Along (λ source feed one. Promises left may_answer source feed gate one) sources feeds started

-- at each place is what came of the source and the feed there
abbrev pub AreFedFrom : {I : Type 0} → (I → Option (List ℕ)) → (ℕ → ℕ → Bool → Type 0) → List (Source I) → List Feed → List FeedResult → Type 0
AreFedFrom left may_answer sources feeds fed = Along (λ source feed one. IsFedFrom left may_answer source feed one) sources feeds fed
