-- The table grows by the key, if it isn't there.
use Rattle.std.proofs.Common.{◌≡◌, ℕ, Vec, Global, map, subst, ap}
use Rattle.closing.specs.Table.{Table}
use Rattle.closing.specs.inner.Table.{IsSameOrMore}
use Rattle.closing.proofs.TableLemmas.{grows_by_code, key_at_code}
use Rattle.closing.proofs.keys.Keys.put.Goals as goal

pub returns-clause-grows : goal.returns-clause-grows
returns-clause-grows c is placed =
    let new : Table = record { codes = c.put_key.new.keys.keys; groups = map (λ (g : Vec ℕ Global). g.items) c.self.inside.groups.keys } in
    let groups : new.groups ≡ c.args.self.now.groups = ap (λ (t : Table). t.groups) c.self.view_is in
    let more : IsSameOrMore c.args.key c.args.self.now.codes new.codes = subst (λ (t : Table). IsSameOrMore c.args.key t.codes c.put_key.new.keys.keys) c.self.view_is c.in_ok-place.ensures.more in
    grows_by_code c.args.self.now new c.args.key groups more is placed

pub returns-clause-value : goal.returns-clause-value
returns-clause-value c is placed =
    let new : Table = record { codes = c.put_key.new.keys.keys; groups = map (λ (g : Vec ℕ Global). g.items) c.self.inside.groups.keys } in
    let groups : new.groups ≡ c.args.self.now.groups = ap (λ (t : Table). t.groups) c.self.view_is in
    let more : IsSameOrMore c.args.key c.args.self.now.codes new.codes = subst (λ (t : Table). IsSameOrMore c.args.key t.codes c.put_key.new.keys.keys) c.self.view_is c.in_ok-place.ensures.more in
    key_at_code c.args.self.now new c.args.key c.in_ok-place.place groups more is placed c.in_ok-place.ensures.value
