use Rattle.std.proofs.Common.{◌≡◌, ◌∙◌, ◌||◌, ◌==◌, Bool, true, false, List, eqb-true, length, map, sym, ap}
use Rattle.std.specs.List.{list_all, list_any}
use Rattle.waitgraph.specs.Pending.{Part, view_of, part_of, pass_all_or_one}
use Rattle.waitgraph.specs.inner.Scenes.{comes, item_passes}
use Rattle.waitgraph.specs.declared.pending.Item.{Item}
use Rattle.waitgraph.proofs.AskedLemmas.{nothing_asked}
use Rattle.waitgraph.proofs.ScenesLemmas.{items_over}
use Rattle.waitgraph.proofs.may_move.pending_comes.Goals as goal

pub returns-then-is_empty : goal.returns-then-is_empty
returns-then-is_empty c =
    let scene = c.args.scene.now in
    let none = eqb-true (length c.items-items.result.now) 0 (sym c.is_empty.ensures ∙ c.if-is_empty.true) in
    c.is_for_all.ensures
    ∙ nothing_asked (comes scene c.args.marks.now) scene.world.now.reading scene.world.now.pairs.groups scene.world.now.pairs.recording scene.sinks.now c.args.rank (view_of c.args.call.now) (sym (ap length c.items-items.ensures) ∙ none)

pub returns-then-is_for_all : goal.returns-then-is_for_all
returns-then-is_for_all c =
    let scene = c.args.scene.now in
    let items = (view_of c.args.call.now).items in
    let kind : ((view_of c.args.call.now).is_all || length (view_of c.args.call.now).items == 0) ≡ true = sym c.is_for_all-2.ensures ∙ c.if-is_for_all.true in
    c.all_come.ensures
    ∙ ap (λ (ones : List Item). list_all (item_passes c.args.scene.now c.args.marks.now c.args.rank) ones) c.items-items.ensures
    ∙ sym (items_over c.args.scene.now c.args.marks.now c.args.rank true (view_of c.args.call.now).items)
    ∙ ap (λ (is_all : Bool). pass_all_or_one is_all (λ (part : Part). pass_all_or_one part.is_all (comes c.args.scene.now c.args.marks.now) part.needs) (map (part_of scene.world.now.reading scene.world.now.pairs.groups scene.world.now.pairs.recording scene.sinks.now c.args.rank) items)) (sym kind)

pub returns-else-is_for_all : goal.returns-else-is_for_all
returns-else-is_for_all c =
    let scene = c.args.scene.now in
    let items = (view_of c.args.call.now).items in
    let kind : ((view_of c.args.call.now).is_all || length (view_of c.args.call.now).items == 0) ≡ false = sym c.is_for_all-2.ensures ∙ c.if-is_for_all.false in
    c.one_comes.ensures
    ∙ ap (λ (ones : List Item). list_any (item_passes c.args.scene.now c.args.marks.now c.args.rank) ones) c.items-items.ensures
    ∙ sym (items_over c.args.scene.now c.args.marks.now c.args.rank false (view_of c.args.call.now).items)
    ∙ ap (λ (is_all : Bool). pass_all_or_one is_all (λ (part : Part). pass_all_or_one part.is_all (comes c.args.scene.now c.args.marks.now) part.needs) (map (part_of scene.world.now.reading scene.world.now.pairs.groups scene.world.now.pairs.recording scene.sinks.now c.args.rank) items)) (sym kind)
