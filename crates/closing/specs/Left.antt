-- At which entries lists end before their ends, and which have no line of their own, and why.
use Rattle.std.specs.Prelude.{ℕ, ◌+◌, ◌==◌, ◌&&◌, Option, Some, None, is_some, if◌then◌else◌, List, [], ◌∷◌, ◌++◌, flat_map}
use Rattle.closing.specs.Recording.{Listed}
use Rattle.closing.specs.Steps.{Id, Sink, Written}
use Rattle.closing.specs.declared.walk.Left.{Left as LeftKept}
use Rattle.closing.specs.declared.why.Why.{Why}
use Rattle.closing.specs.declared.why.Why.TheVariants.{NeverReported, NotJudged}

pub record Left : Type 0 where
  pub rank : ℕ
  -- the number of the line in the rank's journal; 0 where it has none
  pub line : ℕ
  pub why : Why

-- one that is kept of a rank
abbrev pub left_said : ℕ → LeftKept → Left
left_said rank it = record { rank = rank; line = it.line; why = it.why }

abbrev pub left_if : ℕ → ℕ → Option Why → List Left
left_if rank line None = []
left_if rank line (Some why) = record { rank = rank; line = line; why = why } ∷ []

-- a sink's entry; that of a pending call, at which its list ends, is left for its end
abbrev pub left_by : ℕ → Listed → Written → List Left
left_by rank list it = by_start it.starts
  where
    by_start : Option Id → List Left
    by_start (Some (Sink own wanted is_known)) =
        if it.line == list.line && is_some list.why then []
        else left_if rank it.line (Some (if is_known then NotJudged else NeverReported))
    by_start other = []

abbrev pub left_from : ℕ → List Listed → List Left
left_from rank [] = []
left_from rank (list ∷ lists) =
    flat_map (left_by rank list) list.records ++ left_if rank list.line list.why ++ left_from (rank + 1) lists

-- the entries of sinks, and those at which lists end before their ends, by rank
abbrev pub left_of : List Listed → List Left
left_of lists = left_from 0 lists
