-- Items in order: what one more item changes, and what order means.
use Rattle.std.proofs.Common.{◌≡◌, true, false, not, Option, Some, None, List, [], ◌∷◌, ◌++◌, refl, sym, ap, ◌∙◌}
use Rattle.std.proofs.lemmas.Bool.{and_parts, and_from, false≢true}
use Rattle.std.proofs.lemmas.Option.{none-some}
use Rattle.mpicall.specs.declared.call.Call.{Call}
use Rattle.mpicall.specs.declared.fault.SourceFault.{SourceFault}
use Rattle.mpicall.specs.Ending.{ends_list}
use Rattle.mpicall.specs.declared.fault.Ending.{Ending}
use Rattle.mpicall.specs.declared.fault.Ending.TheVariants.{Sealed, Torn}
use Rattle.rankfeed.specs.declared.item.Item.{Item}
use Rattle.rankfeed.specs.declared.item.Item.TheVariants.{Entry, Mark}
use Rattle.rankfeed.specs.Items.{last_behind, last_item, item_ends_list, end_the_list, mark_in, end_mark_of, calls_among, IsFeed}
use Rattle.rankfeed.specs.inner.Items.{may_follow, follow_on, are_in_order}

pub last_behind-append : (before : Option Item) (xs ys : List Item) → last_behind before (xs ++ ys) ≡ last_behind (last_behind before xs) ys
last_behind-append before [] ys = refl
last_behind-append before (x ∷ xs) ys = last_behind-append (Some x) xs ys

pub last_item-push : (xs : List Item) (x : Item) → last_item (xs ++ x ∷ []) ≡ Some x
last_item-push xs x = last_behind-append None xs (x ∷ [])

follow_on-push : (before : Option Item) (xs : List Item) (x : Item) → follow_on before xs ≡ true → may_follow (last_behind before xs) x ≡ true → follow_on before (xs ++ x ∷ []) ≡ true
follow_on-push before [] x h k = and_from _ _ k refl
follow_on-push before (y ∷ ys) x h k = and_from _ _ (and_parts _ _ h).0 (follow_on-push (Some y) ys x (and_parts _ _ h).1 k)

pub in_order_push : (xs : List Item) (x : Item) → are_in_order xs ≡ true → may_follow (last_item xs) x ≡ true → are_in_order (xs ++ x ∷ []) ≡ true
in_order_push xs x h k = follow_on-push None xs x h k

entry_follows : (before : Option Item) (call : Call) → item_ends_list before ≡ false → mark_in before ≡ None → may_follow before (Entry call) ≡ true
entry_follows None call h k = refl
entry_follows (Some (Entry earlier)) call h k = ap not h
entry_follows (Some (Mark earlier)) call h k = absurd (none-some _ (sym k))

-- a record may follow where neither the record that ends the list nor an end mark came
pub entry_may_follow : (xs : List Item) (call : Call) → end_the_list xs ≡ false → end_mark_of xs ≡ None → may_follow (last_item xs) (Entry call) ≡ true
entry_may_follow xs call h k = entry_follows (last_item xs) call h k

sealed_follows : (before : Option Item) → item_ends_list before ≡ true → may_follow before (Mark Sealed) ≡ true
sealed_follows None h = absurd (false≢true h)
sealed_follows (Some (Entry earlier)) h = h
sealed_follows (Some (Mark earlier)) h = absurd (false≢true h)

-- Sealed may follow the record that ends the list
pub sealed_may_follow : (xs : List Item) → end_the_list xs ≡ true → may_follow (last_item xs) (Mark Sealed) ≡ true
sealed_may_follow xs h = sealed_follows (last_item xs) h

torn_follows : (before : Option Item) (fault : SourceFault) → mark_in before ≡ None → may_follow before (Mark (Torn fault)) ≡ true
torn_follows None fault k = refl
torn_follows (Some (Entry earlier)) fault k = refl
torn_follows (Some (Mark earlier)) fault k = absurd (none-some _ (sym k))

-- Torn may follow where no end mark came
pub torn_may_follow : (xs : List Item) (fault : SourceFault) → end_mark_of xs ≡ None → may_follow (last_item xs) (Mark (Torn fault)) ≡ true
torn_may_follow xs fault k = torn_follows (last_item xs) fault k

follow_on-split : (before : Option Item) (xs ys : List Item) → follow_on before (xs ++ ys) ≡ true → follow_on (last_behind before xs) ys ≡ true
follow_on-split before [] ys h = h
follow_on-split before (x ∷ xs) ys h = follow_on-split (Some x) xs ys (and_parts _ _ h).1

-- of items in order, the next may follow those before it
pub next_may_follow : (xs ys : List Item) (x : Item) → are_in_order (xs ++ x ∷ ys) ≡ true → may_follow (last_item xs) x ≡ true
next_may_follow xs ys x h = (and_parts _ _ (follow_on-split None xs (x ∷ ys) h)).0

none_behind_mark : (earlier : Ending) (after : List Item) → follow_on (Some (Mark earlier)) after ≡ true → after ≡ []
none_behind_mark earlier [] h = refl
none_behind_mark earlier (x ∷ xs) h = absurd (false≢true h)

none_behind : (call : Call) (after : List Item) → follow_on (Some (Entry call)) after ≡ true → ends_list call ≡ true → calls_among after ≡ []
none_behind call [] h f = refl
none_behind call (Entry next ∷ xs) h f =
    let k : not (ends_list call) ≡ true = (and_parts (not (ends_list call)) (follow_on (Some (Entry next)) xs) h).0 in
    absurd (false≢true (sym (ap not f) ∙ k))
none_behind call (Mark end ∷ xs) h f = ap calls_among (none_behind_mark end xs (and_parts _ _ h).1)

list_end_before : (before : Option Item) → may_follow before (Mark Sealed) ≡ true → item_ends_list before ≡ true
list_end_before None h = absurd (false≢true h)
list_end_before (Some (Entry earlier)) h = h
list_end_before (Some (Mark earlier)) h = absurd (false≢true h)

-- what order means
pub is_feed : (items : List Item) → are_in_order items ≡ true → IsFeed items
is_feed items h = record {
  mark_is_last = λ before after earlier e. none_behind_mark earlier after (and_parts _ _ (follow_on-split None before (Mark earlier ∷ after) (rw e at h))).1;
  none_behind_list_end = λ before after call e f. none_behind call after (and_parts _ _ (follow_on-split None before (Entry call ∷ after) (rw e at h))).1 f;
  sealed_behind_list_end = λ before after e. list_end_before (last_item before) (and_parts _ _ (follow_on-split None before (Mark Sealed ∷ after) (rw e at h))).0;
}

-- what the two ends know of one more item
pub ruleset item_steps = (last_item-push, in_order_push, entry_may_follow, sealed_may_follow, torn_may_follow, is_feed)
