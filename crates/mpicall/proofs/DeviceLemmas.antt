-- How writes add up.
use Rattle.std.proofs.Common.{◌≡◌, ℕ, ◌+◌, ◌-◌, List, [], ◌++◌, length, take, drop, append_assoc, append-nil, ap, ◌∙◌, arith, Option, Some, None}
use Rattle.std.specs.Io.KnownBytes.{Appends, Keeps}
use Rattle.std.proofs.Math.Seq.{take-add}
use Rattle.std.proofs.lemmas.List.{take_all, length-drop}

-- two writes are one of both texts
pub Appends-append : (a b c : Option (List ℕ)) (xs ys : List ℕ) → Appends a b xs → Appends b c ys → Appends a c (xs ++ ys)
Appends-append None b c xs ys p q = tt
Appends-append (Some a) None c xs ys p q = absurd p
Appends-append (Some a) (Some b) None xs ys p q = absurd q
Appends-append (Some a) (Some b) (Some c) xs ys p q = q ∙ ap (λ bs. bs ++ ys) p ∙ append_assoc a xs ys

-- what is done, and n bytes more
pub Appends-more : (a b c : Option (List ℕ)) (done n : ℕ) (bytes : List ℕ) → Appends a b (take done bytes) → Appends b c (take n (take (length bytes - done) (drop done bytes))) → Appends a c (take (done + n) bytes)
Appends-more a b c done n bytes p q =
    let rest : take (length bytes - done) (drop done bytes) ≡ drop done bytes = take_all _ (drop done bytes) (omega (arith, length-drop done bytes)) in
    let both = Appends-append a b c (take done bytes) (take n (drop done bytes)) p (rw rest at q) in
    rw take-add both

-- nothing was written
pub keeps_without : (old new : Option (List ℕ)) → Appends old new [] → Keeps old new
keeps_without None new p = tt
keeps_without (Some xs) None p = absurd p
keeps_without (Some xs) (Some ys) p = p ∙ append-nil xs
