-- Each step of an end keeps the rule of the channel, and what it tells.
use Rattle.std.proofs.Common.{◌≡◌, ◌≢◌, ℕ, zero, suc, ◌+◌, ◌^◌, ◌<◌, ◌≤◌, true, false, true≢false, Some, None, is_some, List, [], ◌∷◌, ◌++◌, length, set, drop, sym, refl, ap, ◌∙◌, subst, ⊎_elim, append_assoc, length-append, append-nil, arith}
use Rattle.std.proofs.lemmas.Bool.{false≢true, cases_Bool}
use mathlib.Core.Option.{some, some-ne-none}
use lib.ListN.{get_elem?}
use Rattle.atomic_table.proofs.Lists.{at_set, at_snoc}
use Rattle.crossbeam_channel.specs.Fifo.{Pushes, Pops, Forks, Merges, Learns}
use Rattle.rankfeed.specs.declared.item.Item.{Item}
use Rattle.channelfeed.specs.declared.channel.rule.Hand.{Hand}
use Rattle.rankfeed.specs.Items.{last_item, end_mark_of, are_ended}
use Rattle.rankfeed.specs.inner.Items.{may_follow, are_in_order}
use Rattle.channelfeed.specs.Relays.{left_in_relay}
use Rattle.channelfeed.specs.inner.Relays.{hand, Fits, Relayed, Put, Leaves, Taken}
use Rattle.rankfeed.proofs.ItemLemmas.{last_item-push, in_order_push, next_may_follow}

at_end : (l : List Hand) (a b : Hand) (j : ℕ) → get_elem? l j ≢ some b → get_elem? (l ++ a ∷ []) j ≡ some b → j ≡ length l
at_end [] a b zero n e = refl
at_end [] a b (suc j) n e = absurd (some-ne-none b (sym e))
at_end (x ∷ xs) a b zero n e = absurd (n e)
at_end (x ∷ xs) a b (suc j) n e = ap suc (at_end xs a b j n e)

abbrev Each : (ℕ → Hand → Type 0) → List Hand → Type 0
Each F views = (port : ℕ) (v : Hand) → get_elem? views port ≡ some v → F port v

each_set : (F : ℕ → Hand → Type 0) (views : List Hand) (port : ℕ) (w : Hand) → F port w → ((j : ℕ) (u : Hand) → j ≢ port → get_elem? views j ≡ some u → F j u) → Each F (set views port w)
each_set F views port w mine others j u e = ⊎_elim (λ (x : (j ≡ port) × (w ≡ u)). subst (λ (y : ℕ × Hand). F y.0 y.1) (λ i. (sym x.0 i, x.1 i)) mine)
    (λ (x : (j ≢ port) × (get_elem? views j ≡ some u)). others j u x.0 x.1) (at_set views port j w u e)

pub begins : Relayed [] (hand true true [] [] ∷ [])
begins = record {
  writer = 0;
  reader = 0;
  given = [];
  got = [];
  all_kept = refl;
  in_order = refl;
  countable = omega arith;
  fitting = each_set (Fits 0 0 [] []) (hand true true [] [] ∷ []) 0 (hand true true [] []) ((λ _. (refl, refl)), λ _. (refl, refl)) (λ j u other e. absurd (other (at_end [] _ u j (λ x. some-ne-none u (sym x)) e)));
}

-- a record or the end mark is put
pub puts : (n port : ℕ) (v : Hand) (x : Item) → v.may_put ≡ true → may_follow (last_item v.put_items) x ≡ true → length v.put_items + 1 < 2 ^ 64 → Pushes Relayed n port v x (Put v x)
puts n port v x may follows room items views _ h at = let w : Hand = hand v.may_put v.may_take (v.put_items ++ x ∷ []) v.taken_items in let mine = h.fitting port v at in
    let same : v.put_items ≡ h.given = (mine.0 may).1 in let given : List Item = h.given ++ x ∷ [] in (
      w,
      record {
        writer = h.writer;
        reader = h.reader;
        given = given;
        got = h.got;
        all_kept = ap (λ l. l ++ x ∷ []) h.all_kept ∙ append_assoc h.got items (x ∷ []);
        in_order = in_order_push h.given x h.in_order (subst (λ (l : List Item). may_follow (last_item l) x ≡ true) same follows);
        countable = (let long : length v.put_items ≡ length h.given = ap length same in omega (arith, length-append h.given (x ∷ [])));
        fitting = each_set (Fits h.writer h.reader given h.got) views port w ((λ _. ((mine.0 may).0, ap (λ l. l ++ x ∷ []) same)), mine.1)
            (λ j u other e. ((λ p. absurd (other (((h.fitting j u e).0 p).0 ∙ sym (mine.0 may).0))), (h.fitting j u e).1));
      },
      refl,
    )

-- the channel is found full
pub finds_full : (port : ℕ) (v : Hand) → v.may_put ≡ true → Learns Relayed port v (λ items. length items ≤ length v.put_items)
finds_full port v may items views h at = let mine = h.fitting port v at in
    let long : length v.put_items ≡ length (h.got ++ items) = ap length ((mine.0 may).1 ∙ h.all_kept) in
    omega (arith, length-append h.got items)

-- the front is taken
pub takes : (port : ℕ) (v : Hand) → v.may_take ≡ true → Pops Relayed port v (Taken v)
takes port v may x items views h at = let w : Hand = hand v.may_put v.may_take v.put_items (v.taken_items ++ x ∷ []) in let mine = h.fitting port v at in
    let same : v.taken_items ≡ h.got = (mine.1 may).1 in let got : List Item = h.got ++ x ∷ [] in
    let follows : may_follow (last_item h.got) x ≡ true = next_may_follow h.got items x (subst (λ (l : List Item). are_in_order l ≡ true) h.all_kept h.in_order) in (
      w,
      record {
        writer = h.writer;
        reader = h.reader;
        given = h.given;
        got = got;
        all_kept = h.all_kept ∙ sym (append_assoc h.got (x ∷ []) items);
        in_order = h.in_order;
        countable = h.countable;
        fitting = each_set (Fits h.writer h.reader h.given got) views port w (mine.0, λ _. ((mine.1 may).0, ap (λ l. l ++ x ∷ []) same))
            (λ j u other e. ((h.fitting j u e).0, λ p. absurd (other (((h.fitting j u e).1 p).0 ∙ sym (mine.1 may).0))));
      },
      record {
        takes = refl;
        follows = subst (λ (l : List Item). may_follow (last_item l) x ≡ true) (sym same) follows;
        countable = (
            let long : length h.given ≡ length (h.got ++ x ∷ items) = ap length h.all_kept in
            let front : length v.taken_items ≡ length h.got = ap length same in
            let fits = h.countable in
            omega (arith, length-append h.got (x ∷ items), length-append v.taken_items (x ∷ []))
            );
        behind = items;
        leaves = λ p. (mine.0 p).1 ∙ h.all_kept ∙ ap (λ l. l ++ x ∷ items) (sym same);
      },
    )

-- the channel is found empty
pub finds_empty : (port : ℕ) (v : Hand) → v.may_take ≡ true → Learns Relayed port v (Leaves v)
finds_empty port v may items views h at p = let mine = h.fitting port v at in (mine.0 p).1 ∙ h.all_kept ∙ ap (λ l. l ++ items) (sym (mine.1 may).1)

pub forks : (port : ℕ) (v : Hand) → v.may_put ≡ true → v.may_take ≡ true → Forks Relayed port v (hand true false v.put_items []) (hand false true [] v.taken_items)
forks port v a b items views h at = let l : Hand = hand true false v.put_items [] in let r : Hand = hand false true [] v.taken_items in let mine = h.fitting port v at in let vs : List Hand = set views port l in
    let Old : ℕ → Hand → Type 0 = λ j u. (u.may_put ≡ true → (j ≡ h.writer) × (u.put_items ≡ h.given)) × (u.may_take ≢ true) in
    let old : Each Old vs = each_set Old views port l ((λ _. mine.0 a), λ p. true≢false (sym p)) (λ j u other e. ((h.fitting j u e).0, λ p. other (((h.fitting j u e).1 p).0 ∙ sym (mine.1 b).0))) in record {
      writer = h.writer;
      reader = length vs;
      given = h.given;
      got = h.got;
      all_kept = h.all_kept;
      in_order = h.in_order;
      countable = h.countable;
      fitting = λ j u e. ⊎_elim (λ x. ((old j u x).0, λ p. absurd ((old j u x).1 p)))
          (λ (is : r ≡ u). ((λ p. absurd (true≢false (sym (ap (λ (y : Hand). y.may_put) is ∙ p)))), λ p. (at_end vs r u j (λ x. (old j u x).1 p) e, ap (λ (y : Hand). y.taken_items) (sym is) ∙ (mine.1 b).1))) (at_snoc vs r u j e);
    }

-- the taker's hand takes in the hand of a receipt
pub merges : (port : ℕ) (v : Hand) (other : ℕ) (u : Hand) → v.may_take ≡ true → u.may_put ≡ true → Merges Relayed port v other u (hand true true u.put_items v.taken_items) (hand false false [] [])
merges port v other u b a items views h at two at' = let both : Hand = hand true true u.put_items v.taken_items in let mine = h.fitting port v at in let vs : List Hand = set views port both in
    let was : get_elem? views other ≡ some u = ⊎_elim (λ x. absurd (two x.0)) (λ x. x.1) (at_set views port other both u at') in let theirs = (h.fitting other u was).0 a in
    let Now : ℕ → Hand → Type 0 = λ j y. j ≢ other → Fits port h.reader h.given h.got j y in
    let now : Each Now vs = each_set Now views port both (λ _. ((λ _. (refl, theirs.1)), λ _. mine.1 b)) (λ j y _ e apart. ((λ p. absurd (apart (((h.fitting j y e).0 p).0 ∙ sym theirs.0))), (h.fitting j y e).1)) in record {
      writer = port;
      reader = h.reader;
      given = h.given;
      got = h.got;
      all_kept = h.all_kept;
      in_order = h.in_order;
      countable = h.countable;
      fitting = each_set (Fits port h.reader h.given h.got) vs other (hand false false [] []) ((λ p. absurd (true≢false (sym p))), λ p. absurd (true≢false (sym p))) (λ j y apart e. now j y e apart);
    }

drop_front : (xs ys : List Item) → drop (length xs) (xs ++ ys) ≡ ys
drop_front [] ys = refl
drop_front (x ∷ xs) ys = drop_front xs ys

-- a hand that has all that was put knows what is left
pub left_known : (v : Hand) (items : List Item) → v.may_put ≡ true → Leaves v items → left_in_relay v ≡ items
left_known v items may leaves = rw (may, leaves may) (drop_front v.taken_items items)

left_unknown : (v : Hand) → v.may_put ≡ false → left_in_relay v ≡ []
left_unknown v may = rw may refl

not_ended : (v : Hand) → left_in_relay v ≡ [] → end_mark_of v.taken_items ≡ None → are_ended (v.taken_items ++ left_in_relay v) ≡ true → ⊥
not_ended v none open_still ended =
    let same : v.taken_items ++ left_in_relay v ≡ v.taken_items = ap (λ l. v.taken_items ++ l) none ∙ append-nil v.taken_items in
    false≢true (sym (ap is_some open_still) ∙ sym (ap are_ended same) ∙ ended)

-- where the end is known, a taking moves the front of what is left to what was taken
pub took_left : (v w : Hand) (x : Item) → Taken v x w → end_mark_of v.taken_items ≡ None → are_ended (v.taken_items ++ left_in_relay v) ≡ true → w.taken_items ++ left_in_relay w ≡ v.taken_items ++ left_in_relay v
took_left v w x t open_still ended =
    ⊎_elim
    (λ (may : v.may_put ≡ true).
    let all : v.put_items ≡ v.taken_items ++ x ∷ t.behind = t.leaves may in
    let took : w.taken_items ≡ v.taken_items ++ x ∷ [] = ap (λ (y : Hand). y.taken_items) t.takes in
    let rest : (v.taken_items ++ x ∷ []) ++ t.behind ≡ v.taken_items ++ x ∷ t.behind = append_assoc v.taken_items (x ∷ []) t.behind in
    let before : left_in_relay v ≡ x ∷ t.behind = left_known v (x ∷ t.behind) may t.leaves in
    let after : left_in_relay w ≡ t.behind =
    left_known w t.behind (ap (λ (y : Hand). y.may_put) t.takes ∙ may) (λ _. ap (λ (y : Hand). y.put_items) t.takes ∙ all ∙ sym rest ∙ ap (λ l. l ++ t.behind) (sym took)) in
    ap (λ l. w.taken_items ++ l) after ∙ ap (λ l. l ++ t.behind) took ∙ rest ∙ ap (λ l. v.taken_items ++ l) (sym before))
    (λ (may : v.may_put ≡ false). absurd (not_ended v (left_unknown v may) open_still ended))
    (cases_Bool v.may_put)

-- what a hand has that put one more item
pub record HasPut (v : Hand) (x : Item) (w : Hand) : Type 0 where
  pub puts : w.may_put ≡ true
  pub in_order : are_in_order w.put_items ≡ true
  pub last : last_item w.put_items ≡ Some x
  pub longer : length w.put_items ≡ length v.put_items + 1

pub has_put : (v w : Hand) (x : Item) → Put v x w → v.may_put ≡ true → are_in_order v.put_items ≡ true → may_follow (last_item v.put_items) x ≡ true → HasPut v x w
has_put v w x step may order follows = let all : w.put_items ≡ v.put_items ++ x ∷ [] = ap (λ (y : Hand). y.put_items) step in record {
  puts = ap (λ (y : Hand). y.may_put) step ∙ may;
  in_order = rw all (in_order_push v.put_items x order follows);
  last = rw all (last_item-push v.put_items x);
  longer = ap length all ∙ length-append v.put_items (x ∷ []);
}

-- what a hand has that took one more item
pub record HasTaken (v : Hand) (x : Item) (w : Hand) : Type 0 where
  pub takes : w.may_take ≡ true
  pub in_order : are_in_order w.taken_items ≡ true
  pub last : last_item w.taken_items ≡ Some x
  pub longer : length w.taken_items ≡ length v.taken_items + 1

pub has_taken : (v w : Hand) (x : Item) → Taken v x w → v.may_take ≡ true → are_in_order v.taken_items ≡ true → HasTaken v x w
has_taken v w x step may order = let all : w.taken_items ≡ v.taken_items ++ x ∷ [] = ap (λ (y : Hand). y.taken_items) step.takes in record {
  takes = ap (λ (y : Hand). y.may_take) step.takes ∙ may;
  in_order = rw all (in_order_push v.taken_items x order step.follows);
  last = rw all (last_item-push v.taken_items x);
  longer = ap length all ∙ length-append v.taken_items (x ∷ []);
}
