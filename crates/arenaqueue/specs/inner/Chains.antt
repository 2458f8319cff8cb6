-- Chains of cells: each cell has the number of the next one, and the last one that of none.
use Rattle.std.specs.Prelude.{◌≡◌, ℕ, zero, suc, ◌+◌, ◌<◌, ◌≤◌, Option, None, option_to_list, List, [], ◌∷◌, ◌++◌, length, get_or, set, map, ◌==◌, if◌then◌else◌}
use Rattle.arenaqueue.specs.Numbers.{list_at}
use Rattle.arenaqueue.specs.inner.Numbers.{count, in_all}

-- the number that no cell has
abbrev pub no_cell : ℕ
no_cell = 4294967295

-- `c` is the first of the cells, each is linked to the one after it, and the last to `z`
abbrev pub Leads : List ℕ → ℕ → List ℕ → ℕ → Type 0
Leads nexts c [] z = c ≡ z
Leads nexts c (x ∷ xs) z = (c ≡ x) × Leads nexts (get_or nexts x 0) xs z

-- the cells from one on, and so many of them at most
abbrev pub steps : List ℕ → ℕ → ℕ → List ℕ
steps nexts zero c = []
steps nexts (suc n) c = if c == no_cell then [] else c ∷ steps nexts n (get_or nexts c 0)

abbrev pub walked : List ℕ → ℕ → List ℕ
walked nexts c = steps nexts (length nexts) c

-- the values at cells
abbrev pub picked : {T : Type 0} → List (Option T) → List ℕ → List T
picked values [] = []
picked values (c ∷ cs) = option_to_list (get_or values c None) ++ picked values cs

-- the values of the lists that begin at the cells
abbrev pub queues_of : {T : Type 0} → List ℕ → List ℕ → List (Option T) → List (List T)
queues_of firsts nexts values = map (λ c. picked values (walked nexts c)) firsts

-- the last number of a list
abbrev pub last_or : ℕ → List ℕ → ℕ
last_or d [] = d
last_or d (x ∷ xs) = last_or x xs

-- The lists' cells and the spare ones are chained, each list's from its first to its last. No cell is in two
-- chains, or in one twice.
pub record AreChained (firsts lasts nexts : List ℕ) (free : ℕ) (chains : List (List ℕ)) (spares : List ℕ) : Type 0 where
  pub as_many : length chains ≡ length firsts
  pub pairs : length lasts ≡ length firsts
  pub leads : (l : ℕ) → l < length firsts → Leads nexts (get_or firsts l 0) (list_at chains l) no_cell
  pub ends : (l : ℕ) → 0 < length (list_at chains l) → last_or 0 (list_at chains l) ≡ get_or lasts l 0
  pub loose : Leads nexts free spares no_cell
  pub once : (x : ℕ) → in_all x chains + count x spares ≤ 1
  pub within : (x : ℕ) → 0 < in_all x chains + count x spares → x < length nexts
  pub small : length nexts ≤ no_cell

-- so many cells are spare
pub record AreQueues (firsts lasts nexts : List ℕ) (free spare : ℕ) : Type 0 where
  pub chains : List (List ℕ)
  pub spares : List ℕ
  pub chained : AreChained firsts lasts nexts free chains spares
  pub as_many : length spares ≡ spare

-- the first cells, and the next ones, once a chain that begins at a cell is put at the back of list `l`
abbrev pub firsts_joined : List ℕ → ℕ → ℕ → List ℕ
firsts_joined firsts l c = if get_or firsts l 0 == no_cell then set firsts l c else firsts

abbrev pub nexts_joined : List ℕ → List ℕ → List ℕ → ℕ → ℕ → List ℕ
nexts_joined firsts lasts nexts l c = if get_or firsts l 0 == no_cell then nexts else set nexts (get_or lasts l 0) c

-- the cells from one on come to an end
pub record LeadsOut (nexts : List ℕ) (c : ℕ) : Type 0 where
  pub leads : Leads nexts c (walked nexts c) no_cell
  pub within : (x : ℕ) → 0 < count x (walked nexts c) → x < length nexts
  pub small : length nexts ≤ no_cell
