-- How the feeds of all ranks are drained by their receipts, in rank order.
use Rattle.std.proofs.Common.{◌≡◌, ⊎_elim, ℕ, zero, suc, ◌+◌, ◌<◌, ◌≤◌, true, Option, Some, None, IfSome, List, [], ◌∷◌, length, drop, refl, sym, ap, subst, ◌∙◌, arith, slice_get}
use Rattle.std.specs.Option.{option_or}
use Rattle.std.proofs.lemmas.List.{length-drop, drop-drop, drop_all}
use Rattle.std.proofs.lemmas.Bool.{cases_eq}
use Rattle.std.proofs.lemmas.Option.{slice_get_within}
use Rattle.rankfeed.specs.Rings.{FeedName, receipt_ring}
use Rattle.rankfeed.specs.declared.ring.Receipt.{Receipt}
use Rattle.gather.specs.declared.collector.Collector.{Collector}
use Rattle.gather.specs.Receipts.{AreReceiptsOf, AreAllOf, AllReceived, missing_from, first_missing}
use Rattle.gather.specs.Collectors.{rings, kept, received_from, list_published, published, has_watches}
use Rattle.gather.specs.inner.Collectors.{ReceivesFrom}

-- the front of what is left of a list

pub front_at : {A : Type 0} (xs rest : List A) (place : ℕ) (x : A) → drop place xs ≡ x ∷ rest → slice_get xs place ≡ Some x
front_at [] rest zero x e = cc
front_at [] rest (suc place) x e = cc
front_at (y ∷ ys) rest zero x e = let same : y ≡ x = cc in ap Some same
front_at (y ∷ ys) rest (suc place) x e = front_at ys rest place x e

pub rest_at : {A : Type 0} (xs rest : List A) (place : ℕ) (x : A) → drop place xs ≡ x ∷ rest → rest ≡ drop (place + 1) xs
rest_at {A} xs rest place x e = ap (λ (ys : List A). drop 1 ys) (sym e) ∙ drop-drop 1 place xs

pub some_left : {A : Type 0} (xs rest : List A) (place : ℕ) → rest ≡ drop place xs → length rest ≡ 0 → place < length xs → ⊥
some_left xs rest place is none within = let count = ap length is in absurd (omega (arith, none, count, within, length-drop place xs))

-- the receipts are those of the feeds, rank by rank

pub receipts_count : (names : List FeedName) (receipts : List (Option Receipt)) → AreReceiptsOf names receipts → length receipts ≡ length names
receipts_count [] [] are = refl
receipts_count [] (r ∷ rs) are = absurd are
receipts_count (n ∷ ns) [] are = absurd are
receipts_count (n ∷ ns) (r ∷ rs) are = ap suc (receipts_count ns rs are.1)

own_ring : (name : FeedName) (found : Option Receipt) (receipt : Receipt) → IfSome found (λ r. receipt_ring r ≡ name) → Some found ≡ Some (Some receipt) → Some name ≡ Some (receipt_ring receipt)
own_ring name None receipt own e = cc
own_ring name (Some found) receipt own e = let same : found ≡ receipt = cc in ap Some (sym own ∙ ap receipt_ring same)

pub receipt_of_ring : (names : List FeedName) (receipts : List (Option Receipt)) (rank : ℕ) (receipt : Receipt) → AreReceiptsOf names receipts → slice_get receipts rank ≡ Some (Some receipt) → slice_get names rank ≡ Some (receipt_ring receipt)
receipt_of_ring [] [] zero receipt are at = cc
receipt_of_ring [] [] (suc rank) receipt are at = cc
receipt_of_ring [] (r ∷ rs) rank receipt are at = absurd are
receipt_of_ring (n ∷ ns) [] rank receipt are at = absurd are
receipt_of_ring (n ∷ ns) (r ∷ rs) zero receipt are at = own_ring n r receipt are.0 at
receipt_of_ring (n ∷ ns) (r ∷ rs) (suc rank) receipt are at = receipt_of_ring ns rs rank receipt are.1 at

-- all was received of the ranks so far that have a receipt, and the first without one is known
pub record Finishes (first now : Collector) (receipts : List (Option Receipt)) (ranks : ℕ) (missing : Option ℕ) : Type 0 where
  pub names : rings now ≡ rings first
  pub reading : (kept now).reading ≡ (kept first).reading
  pub groups : (kept now).groups ≡ (kept first).groups
  pub wanted : (kept first).wanted ≡ true → (kept now).wanted ≡ true
  pub list : list_published now ≡ list_published first
  pub published : published now ≡ published first
  pub watched : has_watches now ≡ has_watches first
  pub lowest : option_or missing (missing_from ranks (drop ranks receipts)) ≡ first_missing receipts
  pub all : (rank : ℕ) (receipt : Receipt) → rank < ranks → slice_get receipts rank ≡ Some (Some receipt) → AreAllOf receipt (received_from now rank)

pub with_receipt : (first now next : Collector) (receipts rest : List (Option Receipt)) (ranks : ℕ) (missing : Option ℕ) (receipt : Receipt) → Finishes first now receipts ranks missing → drop ranks receipts ≡ Some receipt ∷ rest → ReceivesFrom ranks now next → AreAllOf receipt (received_from next ranks) → Finishes first next receipts (ranks + 1) missing
with_receipt first now next receipts rest ranks missing receipt so front only own =
    let behind = rest_at receipts rest ranks (Some receipt) front in record {
      names = only.names ∙ so.names;
      reading = only.reading ∙ so.reading;
      groups = only.groups ∙ so.groups;
      wanted = λ e. only.wanted (so.wanted e);
      list = only.list ∙ so.list;
      published = only.published ∙ so.published;
      watched = only.watched ∙ so.watched;
      lowest = ap (λ (rs : List (Option Receipt)). option_or missing (missing_from (ranks + 1) rs)) (sym behind)
          ∙ ap (λ (rs : List (Option Receipt)). option_or missing (missing_from ranks rs)) (sym front) ∙ so.lowest;
      all = λ rank other below at.
          ⊎_elim
          (λ (same : rank ≡ ranks).
          let here : slice_get receipts ranks ≡ Some (Some other) = ap (λ (n : ℕ). slice_get receipts n) (sym same) ∙ at in
          let found : Some (Some receipt) ≡ Some (Some other) = sym (front_at receipts rest ranks (Some receipt) front) ∙ here in
          let one : receipt ≡ other = cc in
          subst (λ (n : ℕ). AreAllOf other (received_from next n)) (sym same) (subst (λ (r : Receipt). AreAllOf r (received_from next ranks)) one own))
          (λ (differs : rank ≡ ranks → ⊥).
          subst (AreAllOf other) (sym (only.others rank differs)) (so.all rank other (let apart = differs in omega (arith, below, apart)) at))
          (cases_eq rank ranks);
    }

missing_here : (missing : Option ℕ) (rank : ℕ) (behind : Option ℕ) → option_or (option_or missing (Some rank)) behind ≡ option_or missing (Some rank)
missing_here None rank behind = refl
missing_here (Some earlier) rank behind = refl

pub without_receipt : (first now : Collector) (receipts rest : List (Option Receipt)) (ranks : ℕ) (missing : Option ℕ) → Finishes first now receipts ranks missing → drop ranks receipts ≡ None ∷ rest → Finishes first now receipts (ranks + 1) (option_or missing (Some ranks))
without_receipt first now receipts rest ranks missing so front = record {
  names = so.names;
  reading = so.reading;
  groups = so.groups;
  wanted = so.wanted;
  list = so.list;
  published = so.published;
  watched = so.watched;
  lowest = missing_here missing ranks _ ∙ ap (λ (rs : List (Option Receipt)). option_or missing (missing_from ranks rs)) (sym front) ∙ so.lowest;
  all = λ rank other below at.
      ⊎_elim
      (λ (same : rank ≡ ranks).
      let here : slice_get receipts ranks ≡ Some (Some other) = ap (λ (n : ℕ). slice_get receipts n) (sym same) ∙ at in
      let found : Some None ≡ Some (Some other) = sym (front_at receipts rest ranks None front) ∙ here in
      absurd cc)
      (λ (differs : rank ≡ ranks → ⊥). so.all rank other (let apart = differs in omega (arith, below, apart)) at)
      (cases_eq rank ranks);
}

or_none : (missing : Option ℕ) → option_or missing None ≡ missing
or_none None = refl
or_none (Some rank) = refl

pub lowest_known : (first now : Collector) (receipts : List (Option Receipt)) (ranks : ℕ) (missing : Option ℕ) → Finishes first now receipts ranks missing → length receipts ≤ ranks → missing ≡ first_missing receipts
lowest_known first now receipts ranks missing so within =
    sym (or_none missing) ∙ ap (λ (rs : List (Option Receipt)). option_or missing (missing_from ranks rs)) (sym (drop_all ranks receipts within)) ∙ so.lowest

pub all_received : (first now : Collector) (receipts : List (Option Receipt)) (ranks : ℕ) (missing : Option ℕ) → Finishes first now receipts ranks missing → length receipts ≤ ranks → AllReceived receipts (received_from now)
all_received first now receipts ranks missing so within = λ rank receipt at. so.all rank receipt (omega (arith, within, slice_get_within receipts rank _ at)) at
