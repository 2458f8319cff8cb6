-- What proofs and private contracts cite, in addition to the definitions of `specs/Items.antt`.
use Rattle.std.specs.Prelude.{Bool, true, false, not, ◌&&◌, Option, Some, None, List, [], ◌∷◌}
use Rattle.mpicall.specs.Ending.{ends_list}
use Rattle.mpicall.specs.declared.fault.Ending.TheVariants.{Sealed, Torn}
use Rattle.rankfeed.specs.declared.item.Item.{Item}
use Rattle.rankfeed.specs.declared.item.Item.TheVariants.{Entry, Mark}

-- what may follow what: the item before, if there is one, and the item after it. The end record of a rank's
-- list is MPI_Finalize (MPI 4.0, section 11.2.2), or the record that the list was left open
abbrev pub may_follow : Option Item → Item → Bool
may_follow None (Entry call) = true
may_follow None (Mark Sealed) = false
may_follow None (Mark (Torn fault)) = true
may_follow (Some (Entry earlier)) (Entry call) = not (ends_list earlier)
may_follow (Some (Entry earlier)) (Mark Sealed) = ends_list earlier
may_follow (Some (Entry earlier)) (Mark (Torn fault)) = true
may_follow (Some (Mark earlier)) next = false

-- each item may follow the one before it
abbrev pub follow_on : Option Item → List Item → Bool
follow_on before [] = true
follow_on before (next ∷ items) = may_follow before next && follow_on (Some next) items

abbrev pub are_in_order : List Item → Bool
are_in_order items = follow_on None items
