-- What the marks say of a group.
use Rattle.std.proofs.Common.{◌≡◌, ◌<◌, ◌∙◌, ap, sym, ◌&&◌, if◌then◌else◌, subst}
use Rattle.std.specs.List.{list_all}
use Rattle.journals.specs.Known.{is_among, are_distinct}
use Rattle.journals.specs.inner.Naturals.{naturals, AreMembers}
use Rattle.journals.specs.inner.Marks.{ranks_in, mark_at, members_of, is_in_both}
use Rattle.journals.specs.declared.group.Mark.{Mark}
use Rattle.journals.specs.declared.group.Mark.TheVariants.{InParent}
use Rattle.journals.proofs.GroupLemmas.{group_wrong, group_right}
use Rattle.journals.proofs.group.Marks.is_group.Goals as goal

pub returns-else-mark_group-clause-value : goal.returns-else-mark_group-clause-value
returns-else-mark_group-clause-value c =
    let ranks : ranks_in c.mark_parent.new.self ≡ ranks_in c.args.self.now = c.mark_parent.ensures.ranks ∙ c.set_all.ensures.ranks in
    c.if-mark_group.false
    ∙ group_wrong c.mark_parent.new.self.marks.items c.args.group.now (members_of (ranks_in c.set_all.new.self) c.args.parent)
    (subst (λ n. AreMembers n c.args.group.now) (sym ranks) c.requires)
    (λ rank below. c.mark_parent.ensures.marks rank (subst (λ n. rank < n) c.mark_parent.ensures.ranks below)
    ∙ ap (λ (m : Mark). if is_among rank (members_of (ranks_in c.set_all.new.self) c.args.parent) then InParent else m) (c.set_all.ensures.marks rank (subst (λ n. rank < n) ranks below)))
    c.args.rank (sym c.mark_group.ensures.value ∙ c.if-mark_group.false)
    ∙ ap (λ n. (are_distinct (naturals c.args.group.now) && is_among c.args.rank (naturals c.args.group.now)) && list_all (λ member. is_among member (members_of n c.args.parent)) (naturals c.args.group.now)) c.set_all.ensures.ranks

pub returns-in-InBoth-clause-value : goal.returns-in-InBoth-clause-value
returns-in-InBoth-clause-value c =
    let ranks : ranks_in c.mark_parent.new.self ≡ ranks_in c.args.self.now = c.mark_parent.ensures.ranks ∙ c.set_all.ensures.ranks in
    sym (ap is_in_both (sym c.get.ensures ∙ c.in-InBoth.is))
    ∙ group_right c.mark_parent.new.self.marks.items c.args.group.now (members_of (ranks_in c.set_all.new.self) c.args.parent)
    (subst (λ n. AreMembers n c.args.group.now) (sym ranks) c.requires)
    (λ rank below. c.mark_parent.ensures.marks rank (subst (λ n. rank < n) c.mark_parent.ensures.ranks below)
    ∙ ap (λ (m : Mark). if is_among rank (members_of (ranks_in c.set_all.new.self) c.args.parent) then InParent else m) (c.set_all.ensures.marks rank (subst (λ n. rank < n) ranks below)))
    c.args.rank (mark_at c.mark_group.new.self c.args.rank) (sym c.mark_group.ensures.value ∙ c.if-mark_group.true) (c.mark_group.ensures.marks c.if-mark_group.true c.args.rank)
    ∙ ap (λ n. (are_distinct (naturals c.args.group.now) && is_among c.args.rank (naturals c.args.group.now)) && list_all (λ member. is_among member (members_of n c.args.parent)) (naturals c.args.group.now)) c.set_all.ensures.ranks
