-- A session at its opening: one feed more is opened, and nothing was received.
use Rattle.moves.specs.declared.reading.Reading.{Reading}
use Rattle.std.proofs.Common.{◌≡◌, ℕ, zero, suc, None, List, [], ◌∷◌, length, map, replicate, All, refl, sym, ap, ◌∙◌, arith}
use Rattle.std.specs.List.{range_with_len}
use Rattle.std.proofs.lemmas.List.{length-map, length-replicate}
use Rattle.std.proofs.lemmas.List.FromFn.{length-range_with_len}
use Rattle.mpigroup.specs.Groups.{Groups, ranks_of}
use Rattle.callstore.proofs.PlacesLemmas.{no_calls}
use Rattle.rankfeed.specs.Rings.{feed_ring, taker_ring, received_by}
use Rattle.rankfeed.specs.declared.ring.Feed.{Feed}
use Rattle.rankfeed.specs.declared.ring.Taker.{Taker}
use Rattle.gather.specs.Collected.{IsKeptOf, IsKeptIn, Kept, nothing_kept, fault_at}
use Rattle.gather.specs.Takers.{rank_fed, received_in}
use Rattle.gather.specs.inner.Takers.{Collects}

-- nothing was received
pub nothing_received : (takers : List Taker) (rank : ℕ) → All (λ taker. received_by taker ≡ []) takers → received_in takers rank ≡ []
nothing_received [] rank none = refl
nothing_received (taker ∷ takers) zero none = none 0 taker (omega arith)
nothing_received (taker ∷ takers) (suc rank) none = nothing_received takers rank (λ k d below. none (suc k) d (omega (arith, below)))

no_fault_kept : (ranks rank : ℕ) → fault_at (replicate ranks None) rank ≡ None
no_fault_kept zero rank = refl
no_fault_kept (suc ranks) zero = refl
no_fault_kept (suc ranks) (suc rank) = no_fault_kept ranks rank

at_first : (groups : Groups) (rank : ℕ) → IsKeptOf groups rank [] [] None
at_first groups rank = record { first = refl; before = refl }

pub kept_at_first : (reading : Reading) (groups : Groups) (rank : ℕ) → IsKeptIn rank [] (nothing_kept reading groups)
kept_at_first reading groups rank = rw (no_calls (ranks_of groups) rank, no_fault_kept (ranks_of groups) rank) (at_first groups rank)

pub places_at_first : (reading : Reading) (groups : Groups) → length (nothing_kept reading groups).faults ≡ length (nothing_kept reading groups).recording
places_at_first reading groups = length-replicate (ranks_of groups) None ∙ sym (length-replicate (ranks_of groups) [])

pub opened : (reading : Reading) (groups : Groups) (feeds : List Feed) (takers : List Taker) (kept : Kept) (ranks : ℕ) → map taker_ring takers ≡ map feed_ring feeds → map rank_fed feeds ≡ range_with_len 0 ranks → ranks ≡ ranks_of groups → All (λ taker. received_by taker ≡ []) takers → kept ≡ nothing_kept reading groups → Collects takers kept
opened reading groups feeds takers kept ranks names numbers count none is =
    let as_feeds : length takers ≡ length feeds = sym (length-map takers taker_ring) ∙ ap length names ∙ length-map feeds feed_ring in
    let as_ranks : length feeds ≡ ranks = sym (length-map feeds rank_fed) ∙ ap length numbers ∙ length-range_with_len 0 ranks in
    let number = as_feeds ∙ as_ranks ∙ count in
    rw is (record {
      one_a_rank = number ∙ sym (length-replicate (ranks_of groups) []);
      one_fault_a_rank = number ∙ sym (length-replicate (ranks_of groups) None);
      collected = λ unwanted rank. rw (nothing_received takers rank none, no_calls (ranks_of groups) rank, no_fault_kept (ranks_of groups) rank) (at_first groups rank);
    })
