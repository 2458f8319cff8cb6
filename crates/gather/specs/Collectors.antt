-- What contracts see of a collector, and what a step with one rank's feed does.
use Rattle.mpicall.specs.Names.{Rank}
use Rattle.std.specs.Prelude.{◌≡◌, ℕ, Bool, false, Option, List, length, map}
use Rattle.moves.specs.Stands.{stands_of}
use Rattle.rankfeed.specs.Rings.{FeedName, taker_ring}
use Rattle.rankfeed.specs.declared.answer.Took.{Took}
use Rattle.rankfeed.specs.declared.item.Item.{Item}
use Rattle.rankfeed.specs.declared.ring.Receipt.{Receipt}
use Rattle.gather.specs.Collected.{Kept, Enters, IsKeptIn}
use Rattle.watches.specs.Publications.{ArePassed}
use Rattle.watches.specs.Publishers.{published_by, book_published, is_watched, IsShown}
use Rattle.watches.specs.Stands.{shown_places}
use Rattle.gather.specs.Receipts.{AreReceiptsOf, AllReceived, first_missing}
use Rattle.gather.specs.Takers.{received_in, left_in, Takes}
use Rattle.watches.specs.declared.stands.Stands.{Stands}
use Rattle.gather.specs.declared.ledger.Stepped.{Stepped}
use Rattle.gather.specs.declared.collector.Collector.{Collector}

-- the feeds of the ranks, in rank order
abbrev pub rings : Collector → List FeedName
rings collector = map taker_ring collector.takers.items

-- what is kept of all ranks
abbrev pub kept : Collector → Kept
kept collector = collector.ledger

-- the items received from a rank, and those that are known to be left on its feed
abbrev pub received_from : Collector → Rank → List Item
received_from collector rank = received_in collector.takers.items rank

abbrev pub left_from : Collector → Rank → List Item
left_from collector rank = left_in collector.takers.items rank

-- a step with a rank's feed: what it takes is entered, by the definition of `Enters`
pub record Steps (rank : Rank) (old : Collector) (answer : Stepped) (new : Collector) : Type 0 where
  pub found : Took
  pub takes : Takes rank found old.takers.items new.takers.items
  pub enters : Enters rank found (kept old) answer (kept new)

-- what is kept is what came: a list of records and a place for a fault for each feed; and, unless memory ran
-- out, of each rank its records before its first fault, and that fault
pub record KeepsWhatCame (collector : Collector) : Type 0 where
  pub one_a_rank : length (kept collector).recording ≡ length (rings collector)
  pub one_fault_a_rank : length (kept collector).faults ≡ length (rings collector)
  pub collected : (kept collector).wanted ≡ false → (rank : Rank) →
      IsKeptIn rank (received_from collector rank) (kept collector)

-- all was received of the ranks that have a receipt, and this is the lowest rank without one
pub record IsFinished (collector : Collector) (receipts : List (Option Receipt)) (missing : Option ℕ) : Type 0 where
  pub are : AreReceiptsOf (rings collector) receipts
  pub lowest : missing ≡ first_missing receipts
  pub all : AllReceived receipts (received_from collector)

-- the publications of the session, in order
abbrev pub published : Collector → List Stands
published collector = published_by collector.publisher

-- which session's list they are
abbrev pub list_published : Collector → ℕ
list_published collector = book_published collector.publisher

-- there are watches to which publications are shown
abbrev pub has_watches : Collector → Bool
has_watches collector = is_watched collector.publisher

-- where there are watches, they are shown the last publication
abbrev pub ShowsTheLast : Collector → Type 0
ShowsTheLast collector = IsShown collector.publisher

-- the stands of now: where the ranks stand over what is kept
abbrev pub stands_now : Collector → Stands
stands_now collector = record { places = shown_places (stands_of (kept collector).reading (kept collector).groups (kept collector).recording) }

-- each publication is a state that some run over what is kept passes
abbrev pub PublishesRuns : Collector → Type 0
PublishesRuns collector = ArePassed (kept collector).reading (kept collector).groups (kept collector).recording (published collector)

-- nothing was received, and no more is kept
pub record TakesNothing (old new : Collector) : Type 0 where
  pub names : rings new ≡ rings old
  pub same : kept new ≡ kept old
  pub received : (rank : Rank) → received_from new rank ≡ received_from old rank
  pub left : (rank : Rank) → left_from new rank ≡ left_from old rank

-- nothing was published, and watches are shown what they were shown
pub record PublishesNothing (old new : Collector) : Type 0 where
  pub list : list_published new ≡ list_published old
  pub same : published new ≡ published old
  pub watched : has_watches new ≡ has_watches old
  pub shows : ShowsTheLast new
