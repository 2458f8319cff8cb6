-- The groups are what they were, or one more, and the place is that of the group.
use Rattle.std.proofs.Common.{◌≡◌, ◌∙◌, ℕ, List, Vec, Global, Bool, Some, map, subst, sym, ap}
use Rattle.std.specs.List.{slice_get}
use Rattle.std.specs.Str.{bytes_eq}
use Rattle.std.proofs.lemmas.Result.{IfOk-weaker}
use Rattle.std.proofs.lemmas.Slice.Eq.{bytes_eq-Decides}
use Rattle.indexmap.specs.IndexSet.{insert_key}
use Rattle.closing.specs.inner.Table.{IsSameOrMore}
use Rattle.closing.proofs.InsertLemmas.{insert_same_or_more, map_got, found_at}
use Rattle.closing.proofs.KeyLemmas.{same_group_true}
use Rattle.closing.proofs.keys.put_group.Goals as goal

abbrev Group : Type 0
Group = Vec ℕ Global

abbrev items : Group → List ℕ
items group = group.items

abbrev same : Group → Group → Bool
same group other = bytes_eq group.items other.items

pub returns-in-Some-clause-value : goal.returns-in-Some-clause-value
returns-in-Some-clause-value c =
    let keys = c.args.groups.now.keys in
    let members = c.args.members.now in
    let at = found_at (λ (k : Group). bytes_eq members k.items) keys c.in-Some.place (sym c.in-Some.ensures.index) c.in-Some.ensures.within in
    let stands : slice_get (map items keys) c.in-Some.place ≡ Some (items at.0) = map_got items keys c.in-Some.place at.0 at.1 in
    let is : members ≡ items at.0 = same_group_true members at.0.items at.2 in
    IfOk-weaker c.checked_place.result (λ n. n ≡ c.in-Some.place) (λ n. slice_get (map items keys) n ≡ Some members)
    (λ n e. ap (λ (m : ℕ). slice_get (map items keys) m) e ∙ stands ∙ ap (λ (g : List ℕ). Some g) (sym is))
    c.checked_place.ensures

pub returns-clause-more : goal.returns-clause-more
returns-clause-more c =
    let keys = c.args.groups.now.keys in
    let group = c.in_ok-group.group in
    let base = insert_same_or_more same items (λ x k e. (bytes_eq-Decides k.items x.items).1 (sym e)) keys group in
    let named : IsSameOrMore c.args.members.now (map items keys) (map items (insert_key same keys group)) =
    subst (λ (m : List ℕ). IsSameOrMore m (map items keys) (map items (insert_key same keys group))) c.in_ok-group.ensures.items base in
    subst (λ (ks : List Group). IsSameOrMore c.args.members.now (map items keys) (map items ks)) (sym c.in_ok-place.ensures.keys) named

pub returns-clause-value : goal.returns-clause-value
returns-clause-value c =
    let keys = c.insert_full.new.self.keys in
    let stored = c.in_ok-place.ensures.stored in
    let stands : slice_get (map items keys) c.in_ok-place.place ≡ Some (items stored.0) = map_got items keys c.in_ok-place.place stored.0 stored.1 in
    let is : items c.in_ok-group.group ≡ items stored.0 = same_group_true c.in_ok-group.group.items stored.0.items stored.2 in
    IfOk-weaker c.checked_place-2.result (λ n. n ≡ c.in_ok-place.place) (λ n. slice_get (map items keys) n ≡ Some c.args.members.now)
    (λ n e. ap (λ (m : ℕ). slice_get (map items keys) m) e ∙ stands ∙ ap (λ (g : List ℕ). Some g) (sym is ∙ c.in_ok-group.ensures.items))
    c.checked_place-2.ensures
