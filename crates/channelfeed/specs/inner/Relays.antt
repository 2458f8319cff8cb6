-- What proofs and private contracts cite, in addition to the definitions of `specs/Relays.antt`.
use Rattle.std.specs.Prelude.{◌≡◌, ℕ, ◌^◌, ◌<◌, Bool, true, List, [], ◌∷◌, ◌++◌, length}
use mathlib.Core.Option.{some}
use lib.ListN.{get_elem?}
use Rattle.rankfeed.specs.declared.item.Item.{Item}
use Rattle.channelfeed.specs.declared.channel.rule.Hand.{Hand}
use Rattle.rankfeed.specs.Items.{last_item}
use Rattle.rankfeed.specs.inner.Items.{may_follow, are_in_order}

abbrev pub hand : Bool → Bool → List Item → List Item → Hand
hand puts takes given got = record { may_put = puts; may_take = takes; put_items = given; taken_items = got }

-- one hand at most may put, and it has what was put; one at most may take, and it has what was taken
abbrev pub Fits : ℕ → ℕ → List Item → List Item → ℕ → Hand → Type 0
Fits writer reader given got port v = (v.may_put ≡ true → (port ≡ writer) × (v.put_items ≡ given)) × (v.may_take ≡ true → (port ≡ reader) × (v.taken_items ≡ got))

-- what was put is what was taken and then what the channel holds; it is in order, and can be counted
pub record Relayed (items : List Item) (views : List Hand) : Type 0 where
  pub writer : ℕ
  pub reader : ℕ
  pub given : List Item
  pub got : List Item
  pub all_kept : given ≡ got ++ items
  pub in_order : are_in_order given ≡ true
  pub countable : length given < 2 ^ 64
  pub fitting : (port : ℕ) (v : Hand) → get_elem? views port ≡ some v → Fits writer reader given got port v

-- a put adds the item to what the hand has put
abbrev pub Put : Hand → Item → Hand → Type 0
Put v next w = w ≡ hand v.may_put v.may_take (v.put_items ++ next ∷ []) v.taken_items

-- where the hand has all that was put, the channel holds what is left of it
abbrev pub Leaves : Hand → List Item → Type 0
Leaves v items = v.may_put ≡ true → v.put_items ≡ v.taken_items ++ items

-- a taking adds the item to what the hand has taken; the item may follow those before it
pub record Taken (v : Hand) (next : Item) (w : Hand) : Type 0 where
  pub takes : w ≡ hand v.may_put v.may_take v.put_items (v.taken_items ++ next ∷ [])
  pub follows : may_follow (last_item v.taken_items) next ≡ true
  pub countable : length w.taken_items < 2 ^ 64
  pub behind : List Item
  pub leaves : Leaves v (next ∷ behind)
