-- The first of the ranks that stand earliest, as one rank after the other is looked at.
use Rattle.std.proofs.Common.{◌≡◌, ◌⊎◌, ℕ, ◌<◌, ◌≤◌, ◌+◌, List, Some, slice_get, slice_index, arith, inl, inr, subst, sym}
use Rattle.std.proofs.lemmas.Bool.{cases_order}
use Rattle.std.proofs.lemmas.Option.{get_or_from_slice_get}
use Rattle.progress.specs.Lines.{IsEarliest}

reads : (places : List ℕ) (rank place : ℕ) → slice_get places rank ≡ Some place → slice_index places rank ≡ place
reads places rank place there = get_or_from_slice_get places rank place 0 there

reads_at : (places : List ℕ) (rank other place : ℕ) → slice_get places rank ≡ Some place → other ≡ rank → slice_index places other ≡ place
reads_at places rank other place there same = subst (λ (k : ℕ). slice_index places k ≡ place) (sym same) (reads places rank place there)

no_lower_at : (ranks : ℕ) (places : List ℕ) (rank place more least other : ℕ) → IsEarliest ranks places rank place → slice_get places ranks ≡ Some more → least ≤ more → least ≤ place → other < ranks + 1 → ((other ≡ ranks) ⊎ ((other < ranks) ⊎ (ranks < other))) → least ≤ slice_index places other
no_lower_at ranks places rank place more least other so_far there no_more no_less below (inl same) =
    let is = reads_at places ranks other more there same in omega arith
no_lower_at ranks places rank place more least other so_far there no_more no_less below (inr (inl before)) =
    let is = so_far.lowest other before in omega arith
no_lower_at ranks places rank place more least other so_far there no_more no_less below (inr (inr after)) = absurd (omega arith)

-- of the first rank alone
pub begins : (places : List ℕ) (place : ℕ) → slice_get places 0 ≡ Some place → IsEarliest 1 places 0 place
begins places place there = record {
  is_rank = omega arith;
  stands = there;
  lowest = λ other below.
      let first : other ≡ 0 = omega arith in
      let is = reads_at places 0 other place there first in omega arith;
  first = λ other below. absurd (omega arith);
}

-- one more, which stands no earlier
pub stays : (ranks : ℕ) (places : List ℕ) (rank place more : ℕ) → IsEarliest ranks places rank place → slice_get places ranks ≡ Some more → place ≤ more → IsEarliest (ranks + 1) places rank place
stays ranks places rank place more so_far there no_less = record {
  is_rank = (let is = so_far.is_rank in omega arith);
  stands = so_far.stands;
  lowest = λ other below. no_lower_at ranks places rank place more place other so_far there no_less (omega arith) below (cases_order other ranks);
  first = so_far.first;
}

-- one more, which stands earlier than all before it
pub comes : (ranks : ℕ) (places : List ℕ) (rank place more : ℕ) → IsEarliest ranks places rank place → slice_get places ranks ≡ Some more → more < place → IsEarliest (ranks + 1) places ranks more
comes ranks places rank place more so_far there lower = record {
  is_rank = omega arith;
  stands = there;
  lowest = λ other below. no_lower_at ranks places rank place more more other so_far there (omega arith) (omega arith) below (cases_order other ranks);
  first = λ other below. (let is = so_far.lowest other below in omega arith);
}
