-- What is shown stays in one book.
use Rattle.std.proofs.Common.{◌≡◌, ℕ, ◌≢◌, ◌⊎◌, inl, inr, List, set, refl, sym, ◌∙◌, subst, ⊎_elim}
use mathlib.Core.Option.{some}
use lib.ListN.{get_elem?}
use Rattle.left_right.specs.Register.{Admits, Turns, TurnsAt, Forks, Merges}
use Rattle.atomic_table.proofs.Lists.{at_set, at_snoc}
use Rattle.watches.specs.inner.Shown.{KnowOneList, SeesList, nobody, list_shown}
use Rattle.watches.specs.declared.publication.Publication.{Publication}
use Rattle.watches.specs.declared.board.View.{View}

abbrev Knows : Publication → View → Type 0
Knows x v = (v ≡ nobody) ⊎ (v ≡ list_shown x)

knows_still : (x y : Publication) (v : View) → list_shown y ≡ list_shown x → Knows x v → Knows y v
knows_still x y v same k = ⊎_elim (λ (n : v ≡ nobody). inl n) (λ (e : v ≡ list_shown x). inr (e ∙ sym same)) k

pub sees : (seat : ℕ) (v : View) (x y : Publication) → list_shown y ≡ list_shown x → TurnsAt KnowOneList seat v x y SeesList
sees seat v x y same views h at = (
  list_shown y,
  (λ j u e. ⊎_elim (λ (t : (j ≡ seat) × (list_shown y ≡ u)). inr (sym t.1)) (λ (t : (j ≢ seat) × (get_elem? views j ≡ some u)). knows_still x y u same (h j u t.1)) (at_set views seat j (list_shown y) u e)),
  (knows_still x y v same (h seat v at), refl),
)

pub sees_now : (seat : ℕ) (v : View) → Turns KnowOneList seat v (λ x. x) SeesList
sees_now seat v x = sees seat v x x refl

pub admits : Admits KnowOneList nobody
admits x views h seat v at = ⊎_elim (λ (t : get_elem? views seat ≡ some v). h seat v t) (λ (e : nobody ≡ v). inl (sym e)) (at_snoc views nobody v seat at)

set_knows : (x : Publication) (views : List View) (seat : ℕ) (w : View) → KnowOneList x views → Knows x w → KnowOneList x (set views seat w)
set_knows x views seat w h k j u e = ⊎_elim (λ (t : (j ≡ seat) × (w ≡ u)). subst (Knows x) t.1 k) (λ (t : (j ≢ seat) × (get_elem? views j ≡ some u)). h j u t.1) (at_set views seat j w u e)

pub forks : (seat : ℕ) (v : View) → Forks KnowOneList seat v v v
forks seat v x views h at j u e = ⊎_elim (λ (t : get_elem? (set views seat v) j ≡ some u). set_knows x views seat v h (h seat v at) j u t) (λ (same : v ≡ u). subst (Knows x) same (h seat v at)) (at_snoc (set views seat v) v u j e)

pub merges : (seat : ℕ) (v : View) (other : ℕ) (w : View) → Merges KnowOneList seat v other w w nobody
merges seat v other w x views h at apart there =
    let k : Knows x w = ⊎_elim (λ (t : (other ≡ seat) × (w ≡ w)). absurd (apart t.0)) (λ (t : (other ≢ seat) × (get_elem? views other ≡ some w)). h other w t.1) (at_set views seat other w w there) in
    set_knows x (set views seat w) other nobody (set_knows x views seat w h k) (inl refl)
