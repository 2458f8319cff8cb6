-- The receipts of feeds that are ended one by one.
use Rattle.std.proofs.Common.{◌≡◌, List, [], ◌∷◌, ◌++◌, Option, IfSome, refl}
use Rattle.rankfeed.specs.Rings.{FeedName, receipt_ring}
use Rattle.rankfeed.specs.declared.ring.Receipt.{Receipt}
use Rattle.gather.specs.Receipts.{AreReceiptsOf}

-- the receipts so far are those of the first feeds, and the rest of the feeds is still to end
abbrev pub ReceiptsTo : List FeedName → List (Option Receipt) → List FeedName → Type 0
ReceiptsTo names [] rest = names ≡ rest
ReceiptsTo [] (r ∷ rs) rest = ⊥
ReceiptsTo (n ∷ ns) (r ∷ rs) rest = IfSome r (λ x. receipt_ring x ≡ n) × ReceiptsTo ns rs rest

pub one_receipt_more : (names : List FeedName) (receipts : List (Option Receipt)) (rest : List FeedName) (name : FeedName) (receipt : Option Receipt) → ReceiptsTo names receipts (name ∷ rest) → IfSome receipt (λ x. receipt_ring x ≡ name) → ReceiptsTo names (receipts ++ receipt ∷ []) rest
one_receipt_more names [] rest name receipt so own = rw so (own, refl)
one_receipt_more [] (r ∷ rs) rest name receipt so own = absurd so
one_receipt_more (n ∷ ns) (r ∷ rs) rest name receipt so own = (so.0, one_receipt_more ns rs rest name receipt so.1 own)

pub all_receipts : (names : List FeedName) (receipts : List (Option Receipt)) → ReceiptsTo names receipts [] → AreReceiptsOf names receipts
all_receipts [] [] so = tt
all_receipts (n ∷ ns) [] so = cc
all_receipts [] (r ∷ rs) so = absurd so
all_receipts (n ∷ ns) (r ∷ rs) so = (so.0, all_receipts ns rs so.1)
