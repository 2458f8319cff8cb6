-- The text of a head, by its ranks and groups.
use Rattle.std.specs.Prelude.{ℕ, List, [], ◌∷◌, ◌++◌, drop, codes}
use Rattle.std.specs.List.{flat_map}
use Rattle.closing.specs.Texts.{line_with}

-- the lines of the groups after the world's
abbrev pub group_lines : List (List ℕ) → List ℕ
group_lines groups = flat_map (line_with (codes "comm")) groups

abbrev pub head_of : ℕ → List (List ℕ) → List ℕ
head_of ranks groups = line_with (codes "ranks") (ranks ∷ []) ++ group_lines (drop 1 groups)
