-- Rings of cells by their links. A ring begins and ends at a cell of its own, its head.
use Rattle.std.specs.Prelude.{◌≡◌, ℕ, zero, suc, ◌<◌, ◌≤◌, List, [], ◌∷◌, length, get_or, set, map, drop, ◌==◌, if◌then◌else◌}
use Rattle.arenaqueue.specs.Numbers.{list_at}
use Rattle.arenaqueue.specs.inner.Numbers.{count, in_all}
use Rattle.arenaqueue.specs.inner.Chains.{Leads}

-- from `a` over the cells to `z`, by the links there and back
abbrev pub Chain : List ℕ → List ℕ → ℕ → List ℕ → ℕ → Type 0
Chain nexts prevs a [] z = (get_or nexts a 0 ≡ z) × (get_or prevs z 0 ≡ a)
Chain nexts prevs a (x ∷ xs) z = (get_or nexts a 0 ≡ x) × (get_or prevs x 0 ≡ a) × Chain nexts prevs x xs z

abbrev pub IsRing : List ℕ → List ℕ → List ℕ → Type 0
IsRing nexts prevs [] = ⊥
IsRing nexts prevs (h ∷ xs) = Chain nexts prevs h xs h

-- what is on the way from `a` to `z`
abbrev pub walk : List ℕ → ℕ → ℕ → ℕ → List ℕ
walk nexts zero a z = []
walk nexts (suc n) a z = if get_or nexts a 0 == z then [] else get_or nexts a 0 ∷ walk nexts n (get_or nexts a 0) z

-- the rings that begin at the heads
abbrev pub rings_of : List ℕ → List ℕ → List (List ℕ)
rings_of heads nexts = map (λ h. h ∷ walk nexts (length nexts) h h) heads

-- the rings without their heads
abbrev pub lists_of : List (List ℕ) → List (List ℕ)
lists_of rings = map (λ ring. drop 1 ring) rings

-- no cell is in two rings or twice in one
pub record AreLinked (nexts prevs : List ℕ) (rings : List (List ℕ)) : Type 0 where
  pub cells : length nexts ≡ length prevs
  pub ring : (l : ℕ) → l < length rings → IsRing nexts prevs (list_at rings l)
  pub once : (x : ℕ) → in_all x rings ≤ 1
  pub within : (x : ℕ) → 0 < in_all x rings → x < length nexts

-- the links once a cell is linked at the back of the ring of a head
abbrev pub nexts_linked : List ℕ → List ℕ → ℕ → ℕ → List ℕ
nexts_linked nexts prevs h n = set (set nexts (get_or prevs h 0) n) n h

abbrev pub prevs_linked : List ℕ → ℕ → ℕ → List ℕ
prevs_linked prevs h n = set (set prevs n (get_or prevs h 0)) h n

-- the links once a cell's neighbours are linked to one another
abbrev pub nexts_unlinked : List ℕ → List ℕ → ℕ → List ℕ
nexts_unlinked nexts prevs n = set nexts (get_or prevs n 0) (get_or nexts n 0)

abbrev pub prevs_unlinked : List ℕ → List ℕ → ℕ → List ℕ
prevs_unlinked nexts prevs n = set prevs (get_or nexts n 0) (get_or prevs n 0)

-- the links once all cells of the ring of head `f` are linked at the back of the ring of head `t`
abbrev pub nexts_spliced : List ℕ → List ℕ → ℕ → ℕ → List ℕ
nexts_spliced nexts prevs t f = set (set (set nexts (get_or prevs t 0) (get_or nexts f 0)) (get_or prevs f 0) t) f f

abbrev pub prevs_spliced : List ℕ → List ℕ → ℕ → ℕ → List ℕ
prevs_spliced nexts prevs t f = set (set (set prevs (get_or nexts f 0) (get_or prevs t 0)) t (get_or prevs f 0)) f f

-- the cells from a head to where its ring closes
abbrev pub around : List ℕ → ℕ → List ℕ
around nexts h = walk nexts (length nexts) h h

-- the links there lead from the head round to it
pub record IsRound (nexts : List ℕ) (h : ℕ) : Type 0 where
  pub leads : Leads nexts (get_or nexts h 0) (around nexts h) h
  pub apart : count h (around nexts h) ≡ 0
  pub within : (x : ℕ) → 0 < count x (around nexts h) → x < length nexts
