-- Lists side by side, as far as a loop has come.
use Rattle.std.proofs.Common.{◌≡◌, List, [], ◌∷◌, ◌++◌, length, All, sym, arith}
use Rattle.std.proofs.lemmas.List.{nil_from_length}
use Rattle.driver.specs.Along.{Along}

-- the third list is as far as the first two are used, of which these are left
abbrev pub AlongTo : {A B C : Type 0} → (A → B → C → Type 0) → List A → List B → List C → List A → List B → Type 0
AlongTo R xs ys [] rest_x rest_y = (xs ≡ rest_x) × (ys ≡ rest_y)
AlongTo R (x ∷ xs) (y ∷ ys) (z ∷ zs) rest_x rest_y = R x y z × AlongTo R xs ys zs rest_x rest_y
AlongTo R xs ys zs rest_x rest_y = ⊥

pub along_step : {A B C : Type 0} (R : A → B → C → Type 0) (xs : List A) (ys : List B) (zs : List C) (x : A) (y : B) (z : C) (rest_x : List A) (rest_y : List B) → AlongTo R xs ys zs (x ∷ rest_x) (y ∷ rest_y) → R x y z → AlongTo R xs ys (zs ++ z ∷ []) rest_x rest_y
along_step R [] ys [] x y z rx ry so r = absurd (let e = so.0 in cc)
along_step R (a ∷ xs) [] [] x y z rx ry so r = absurd (let e = so.1 in cc)
along_step {A = A} {B = B} R (a ∷ xs) (b ∷ ys) [] x y z rx ry so r =
    let ea : a ≡ x = let e = so.0 in cc in
    let eb : b ≡ y = let e = so.1 in cc in
    let er : xs ≡ rx = let e = so.0 in cc in
    let es : ys ≡ ry = let e = so.1 in cc in
    (rw ea (rw eb r), (er, es))
along_step R (a ∷ xs) (b ∷ ys) (c ∷ zs) x y z rx ry so r = (so.0, along_step R xs ys zs x y z rx ry so.1 r)
along_step R xs ys zs x y z rx ry so r = absurd so

pub along_all : {A B C : Type 0} (R : A → B → C → Type 0) (xs : List A) (ys : List B) (zs : List C) → AlongTo R xs ys zs [] [] → Along R xs ys zs
along_all R [] [] [] so = tt
along_all R [] (b ∷ ys) [] so = absurd (let e = so.1 in cc)
along_all R (a ∷ xs) ys [] so = absurd (let e = so.0 in cc)
along_all R (a ∷ xs) (b ∷ ys) (c ∷ zs) so = (so.0, along_all R xs ys zs so.1)
along_all R xs ys zs so = absurd so

pub first_of_all : {X : Type 0} (P : X → Type 0) (xs : List X) (x : X) (rest : List X) → xs ≡ x ∷ rest → All P xs → P x
first_of_all P xs x rest is all = let h : All P (x ∷ rest) = rw is at all in h 0 x (omega arith)

pub along_next : {A B C : Type 0} (R : A → B → C → Type 0) (xs : List A) (ys : List B) (zs more : List C) (x : A) (y : B) (z : C) (left_x next_x : List A) (left_y next_y : List B) → AlongTo R xs ys zs left_x left_y → left_x ≡ x ∷ next_x → left_y ≡ y ∷ next_y → R x y z → more ≡ zs ++ z ∷ [] → AlongTo R xs ys more next_x next_y
along_next R xs ys zs more x y z left_x next_x left_y next_y so is_x is_y r is =
    let h : AlongTo R xs ys zs (x ∷ next_x) (y ∷ next_y) = rw (sym is_x) (rw (sym is_y) so) in
    rw is (along_step R xs ys zs x y z next_x next_y h r)

pub along_end : {A B C : Type 0} (R : A → B → C → Type 0) (xs : List A) (ys : List B) (zs : List C) (left_x : List A) (left_y : List B) → AlongTo R xs ys zs left_x left_y → length left_x ≡ 0 → length left_y ≡ 0 → Along R xs ys zs
along_end R xs ys zs left_x left_y so none_x none_y =
    let h : AlongTo R xs ys zs [] [] = rw (sym (nil_from_length left_x none_x)) (rw (sym (nil_from_length left_y none_y)) so) in along_all R xs ys zs h

-- the third list is S as far as a loop has come, and the fourth is what is left, which is R
abbrev pub AlongThen : {A B C D : Type 0} → (A → B → C → Type 0) → (A → B → D → Type 0) → List A → List B → List C → List D → Type 0
AlongThen S R xs ys [] ws = Along R xs ys ws
AlongThen S R (x ∷ xs) (y ∷ ys) (z ∷ zs) ws = S x y z × AlongThen S R xs ys zs ws
AlongThen S R xs ys zs ws = ⊥

then_step : {A B C D : Type 0} (S : A → B → C → Type 0) (R : A → B → D → Type 0) (xs : List A) (ys : List B) (zs : List C) (w : D) (z : C) (ws : List D) → AlongThen S R xs ys zs (w ∷ ws) → ((x : A) (y : B) → R x y w → S x y z) → AlongThen S R xs ys (zs ++ z ∷ []) ws
then_step S R [] [] [] w z ws so f = absurd so
then_step S R [] (y ∷ ys) [] w z ws so f = absurd so
then_step S R (x ∷ xs) [] [] w z ws so f = absurd so
then_step S R (x ∷ xs) (y ∷ ys) [] w z ws so f = (f x y so.0, so.1)
then_step S R [] ys (c ∷ zs) w z ws so f = absurd so
then_step S R (x ∷ xs) [] (c ∷ zs) w z ws so f = absurd so
then_step S R (x ∷ xs) (y ∷ ys) (c ∷ zs) w z ws so f = (so.0, then_step S R xs ys zs w z ws so.1 f)

pub then_next : {A B C D : Type 0} (S : A → B → C → Type 0) (R : A → B → D → Type 0) (xs : List A) (ys : List B) (zs more : List C) (w : D) (z : C) (rest ws : List D) → AlongThen S R xs ys zs rest → rest ≡ w ∷ ws → ((x : A) (y : B) → R x y w → S x y z) → more ≡ zs ++ z ∷ [] → AlongThen S R xs ys more ws
then_next S R xs ys zs more w z rest ws so is_rest f is =
    let h : AlongThen S R xs ys zs (w ∷ ws) = rw (sym is_rest) so in
    rw is (then_step S R xs ys zs w z ws h f)

then_all : {A B C D : Type 0} (S : A → B → C → Type 0) (R : A → B → D → Type 0) (xs : List A) (ys : List B) (zs : List C) → AlongThen S R xs ys zs [] → Along S xs ys zs
then_all S R [] [] [] so = tt
then_all S R [] (y ∷ ys) [] so = absurd so
then_all S R (x ∷ xs) [] [] so = absurd so
then_all S R (x ∷ xs) (y ∷ ys) [] so = absurd so
then_all S R [] ys (c ∷ zs) so = absurd so
then_all S R (x ∷ xs) [] (c ∷ zs) so = absurd so
then_all S R (x ∷ xs) (y ∷ ys) (c ∷ zs) so = (so.0, then_all S R xs ys zs so.1)

pub then_ends : {A B C D : Type 0} (S : A → B → C → Type 0) (R : A → B → D → Type 0) (xs : List A) (ys : List B) (zs : List C) (rest : List D) → AlongThen S R xs ys zs rest → length rest ≡ 0 → Along S xs ys zs
then_ends S R xs ys zs rest so none = then_all S R xs ys zs (rw (sym (nil_from_length rest none)) so)
