-- What cells and ends have, each by itself.
use Rattle.std.specs.Prelude.{ℕ, List, map, Option, Some}
use Rattle.arenaqueue.specs.declared.cells.Cell.{Cell}
use Rattle.arenaqueue.specs.declared.cells.Ends.{Ends}

-- the first cells of lists, and the last ones
abbrev pub firsts_of : List Ends → List ℕ
firsts_of ends = map (λ of_list. of_list.first) ends

abbrev pub lasts_of : List Ends → List ℕ
lasts_of ends = map (λ of_list. of_list.last) ends

-- the next ones of cells, and their values
abbrev pub nexts_of : {T : Type 0} → List (Cell T) → List ℕ
nexts_of cells = map (λ cell. cell.next) cells

abbrev pub values_of : {T : Type 0} → List (Cell T) → List (Option T)
values_of cells = map (λ cell. Some cell.value) cells
