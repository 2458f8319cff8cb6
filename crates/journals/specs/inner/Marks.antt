-- Which marks the ranks have, in the search for a wrong group.
use Rattle.std.specs.Prelude.{ℕ, Bool, true, false, List, [], ◌∷◌, length}
use Rattle.std.specs.List.{slice_index_or, range_with_len}
use Rattle.journals.specs.inner.Naturals.{naturals}
use Rattle.journals.specs.declared.group.Mark.{Mark}
use Rattle.journals.specs.declared.group.Mark.TheVariants.{Outside, InParent, InBoth}
use Rattle.journals.specs.declared.group.Marks.{Marks}
use Rattle.journals.specs.declared.group.GroupOf.{GroupOf}
use Rattle.journals.specs.declared.group.GroupOf.TheVariants.{World, Alone, Members}

abbrev pub ranks_in : Marks → ℕ
ranks_in marks = length marks.marks.items

abbrev pub mark_at : Marks → ℕ → Mark
mark_at marks rank = slice_index_or marks.marks.items rank Outside

abbrev pub is_in_parent : Mark → Bool
is_in_parent InParent = true
is_in_parent _ = false

abbrev pub is_in_both : Mark → Bool
is_in_both InBoth = true
is_in_both _ = false

-- the members of a group in a run of so many ranks
abbrev pub members_of : ℕ → GroupOf → List ℕ
members_of ranks World = range_with_len 0 ranks
members_of ranks (Alone rank) = rank ∷ []
members_of ranks (Members fields) = naturals fields.now
