-- A line that is put together argument by argument.
use Rattle.std.specs.Prelude.{ℕ, List, [], ◌∷◌, ◌++◌}
use Rattle.mpicall.specs.Argument.{Argument, spell}
use Rattle.mpicall.specs.Spelling.{space}

-- a line with further arguments after it
abbrev pub line_with : List ℕ → List Argument → List ℕ
line_with line [] = line
line_with line (argument ∷ arguments) = line_with (line ++ space ∷ spell argument) arguments
