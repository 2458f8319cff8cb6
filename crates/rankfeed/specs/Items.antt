-- What a feed carries: records, and after them one end mark.
use Rattle.std.specs.Prelude.{◌≡◌, Bool, true, false, Option, Some, None, is_some, List, [], ◌∷◌, ◌++◌}
use Rattle.mpicall.specs.declared.call.Call.{Call}
use Rattle.mpicall.specs.Ending.{ends_list}
use Rattle.mpicall.specs.declared.fault.Ending.{Ending}
use Rattle.mpicall.specs.declared.fault.Ending.TheVariants.{Sealed}
use Rattle.rankfeed.specs.declared.item.Item.{Item}
use Rattle.rankfeed.specs.declared.item.Item.TheVariants.{Entry, Mark}

-- the last of the items after a first one; that one where there are no more
abbrev pub last_behind : Option Item → List Item → Option Item
last_behind before [] = before
last_behind before (next ∷ items) = last_behind (Some next) items

-- the last item, if there is one
abbrev pub last_item : List Item → Option Item
last_item items = last_behind None items

-- the last item is the record that ends its rank's list
abbrev pub item_ends_list : Option Item → Bool
item_ends_list (Some (Entry call)) = ends_list call
item_ends_list (Some (Mark earlier)) = false
item_ends_list None = false

abbrev pub end_the_list : List Item → Bool
end_the_list items = item_ends_list (last_item items)

-- the end mark that is the last item, if it is one
abbrev pub mark_in : Option Item → Option Ending
mark_in (Some (Mark earlier)) = Some earlier
mark_in (Some (Entry call)) = None
mark_in None = None

abbrev pub end_mark_of : List Item → Option Ending
end_mark_of items = mark_in (last_item items)

-- the last item is an end mark
abbrev pub are_ended : List Item → Bool
are_ended items = is_some (end_mark_of items)

-- the records among the items
abbrev pub calls_among : List Item → List Call
calls_among [] = []
calls_among (Entry call ∷ items) = call ∷ calls_among items
calls_among (Mark earlier ∷ items) = calls_among items

-- the order of a feed's items in plain words: an end mark is last, no record follows the one that
-- ends the list, and Sealed comes only directly after it
pub record IsFeed (items : List Item) : Type 0 where
  pub mark_is_last : (before after : List Item) (earlier : Ending) → items ≡ before ++ Mark earlier ∷ after → after ≡ []
  pub none_behind_list_end : (before after : List Item) (call : Call) → items ≡ before ++ Entry call ∷ after → ends_list call ≡ true → calls_among after ≡ []
  pub sealed_behind_list_end : (before after : List Item) → items ≡ before ++ Mark Sealed ∷ after → end_the_list before ≡ true
