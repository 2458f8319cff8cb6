-- The group of a key stands at the place that its code gives.
use Rattle.std.proofs.Common.{◌≡◌, ◌∙◌, ℕ, List, [], Vec, Global, Option, Some, None, map, option_map, subst, sym, ap}
use Rattle.std.specs.List.{slice_get}
use Rattle.std.proofs.lemmas.Option.{slice_get-map}
use Rattle.closing.specs.Keys.{Key, group_of_key}
use Rattle.closing.specs.Table.{Table, group_at, group_place}
use Rattle.closing.specs.inner.Table.{HasKey, IsTable, ranks_in}
use Rattle.closing.proofs.InsertLemmas.{map_got}
use Rattle.closing.proofs.TableLemmas.{group_at_code, group_at_none, group_read, group_stands}
use Rattle.closing.proofs.keys.Keys.group.Goals as goal

pub returns-in-Some-get_index-clause-value : goal.returns-in-Some-get_index-clause-value
returns-in-Some-get_index-clause-value c =
    let groups = c.self.inside.groups.keys in
    let table : Table = record { codes = c.self.inside.keys.keys; groups = map (λ (g : Vec ℕ Global). g.items) groups } in
    let key = c.in-Some.key.now in
    let members = c.in-Some-get_index.members.now in
    let there : slice_get groups c.group_place.result ≡ Some members = sym c.in-Some-get_index.ensures.key in
    let stands : slice_get table.groups c.group_place.result ≡ Some members.items = map_got (λ (g : Vec ℕ Global). g.items) groups c.group_place.result members there in
    let at : slice_get table.groups (group_place key) ≡ Some members.items = ap (λ (n : ℕ). slice_get table.groups n) (sym c.group_place.ensures) ∙ stands in
    subst (λ (t : Table). (it : Key) → IsTable t → HasKey t c.args.place it → c.as_slice.result.now ≡ group_of_key (ranks_in t) it) c.self.view_is
    (λ it is has. c.as_slice.ensures.value ∙ group_read table key c.args.place members.items it is (sym c.in-Some.ensures.key) at has)

pub returns-in-None-clause-value : goal.returns-in-None-clause-value
returns-in-None-clause-value c =
    let groups = c.self.inside.groups.keys in
    let table : Table = record { codes = c.self.inside.keys.keys; groups = map (λ (g : Vec ℕ Global). g.items) groups } in
    let key = c.in-Some.key.now in
    let view = λ (g : Vec ℕ Global). g.items in
    let none : slice_get groups c.group_place.result ≡ None = sym c.in-None.ensures.key in
    let nothing : slice_get table.groups c.group_place.result ≡ None =
    slice_get-map view groups c.group_place.result ∙ ap (λ (o : Option (Vec ℕ Global)). option_map view o) none in
    let at : slice_get table.groups (group_place key) ≡ None = ap (λ (n : ℕ). slice_get table.groups n) (sym c.group_place.ensures) ∙ nothing in
    subst (λ (t : Table). (it : Key) → IsTable t → HasKey t c.args.place it → ◌≡◌ {A = List ℕ} [] (group_of_key (ranks_in t) it)) c.self.view_is
    (λ it is has. absurd (group_stands table key c.args.place is (sym c.in-Some.ensures.key) at))

pub returns-in-Some-get_index-clause-at : goal.returns-in-Some-get_index-clause-at
returns-in-Some-get_index-clause-at c =
    let groups = c.self.inside.groups.keys in
    let table : Table = record { codes = c.self.inside.keys.keys; groups = map (λ (g : Vec ℕ Global). g.items) groups } in
    let key = c.in-Some.key.now in
    let members = c.in-Some-get_index.members.now in
    let there : slice_get groups c.group_place.result ≡ Some members = sym c.in-Some-get_index.ensures.key in
    let stands : slice_get table.groups c.group_place.result ≡ Some members.items = map_got (λ (g : Vec ℕ Global). g.items) groups c.group_place.result members there in
    let at : slice_get table.groups (group_place key) ≡ Some members.items = ap (λ (n : ℕ). slice_get table.groups n) (sym c.group_place.ensures) ∙ stands in
    subst (λ (t : Table). c.as_slice.result.now ≡ group_at t c.args.place) c.self.view_is
    (c.as_slice.ensures.value ∙ group_at_code table key c.args.place members.items (sym c.in-Some.ensures.key) at)

pub returns-in-None-clause-at : goal.returns-in-None-clause-at
returns-in-None-clause-at c =
    let groups = c.self.inside.groups.keys in
    let table : Table = record { codes = c.self.inside.keys.keys; groups = map (λ (g : Vec ℕ Global). g.items) groups } in
    let key = c.in-Some.key.now in
    let view = λ (g : Vec ℕ Global). g.items in
    let none : slice_get groups c.group_place.result ≡ None = sym c.in-None.ensures.key in
    let nothing : slice_get table.groups c.group_place.result ≡ None =
    slice_get-map view groups c.group_place.result ∙ ap (λ (o : Option (Vec ℕ Global)). option_map view o) none in
    let at : slice_get table.groups (group_place key) ≡ None = ap (λ (n : ℕ). slice_get table.groups n) (sym c.group_place.ensures) ∙ nothing in
    subst (λ (t : Table). ◌≡◌ {A = List ℕ} [] (group_at t c.args.place)) c.self.view_is
    (group_at_none table key c.args.place (sym c.in-Some.ensures.key) at)
