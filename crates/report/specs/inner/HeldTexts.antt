-- The texts of what is said of held ranks, as they are put after the text before them.
use Rattle.std.specs.Prelude.{ℕ, Option, Some, None, List, [], ◌++◌, codes}
use Rattle.report.specs.Judged.{call_data}
use Rattle.report.specs.JsonReport.{each, numeral}
use Rattle.report.specs.inner.ArrayTexts.{elements_text, key_text}
use Rattle.report.specs.declared.judged.HeldRanks.{HeldRanks}

-- a member after another one
abbrev pub finding_calls_text : Option HeldRanks → List ℕ
finding_calls_text None = []
finding_calls_text (Some it) =
    key_text (codes ",") (codes "finding_calls") (codes ":[") ++ (elements_text (λ calls. each call_data calls.items) it.finding_calls.now ++ codes "]")

-- a member after an array whose end is to be put, as is its own
abbrev pub held_text : Option HeldRanks → List ℕ
held_text None = []
held_text (Some it) = key_text (codes "],") (codes "held") (codes ":[") ++ elements_text numeral it.ranks.now
