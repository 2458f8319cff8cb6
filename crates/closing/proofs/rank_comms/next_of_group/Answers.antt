-- The communicator that members of a group make has its place, and counts.
use Rattle.std.proofs.Common.{◌∙◌, Some, subst, sym, ap}
use Rattle.closing.specs.Keys.{Key}
use Rattle.closing.specs.inner.Holds.{IsCounted}
use Rattle.closing.specs.inner.Table.{Grows, HasGroup, IsPlaceOf}
use Rattle.closing.specs.Called.{Called}
use Rattle.closing.specs.RankComms.{with_group, key_next}
use Rattle.closing.specs.inner.Views.{called_view}
use Rattle.closing.proofs.HoldsLemmas.{counted_grows, counted_more, group_times}
use Rattle.closing.proofs.TableLemmas.{grows_on}
use Rattle.closing.proofs.ReportLemmas.{of_group_placed, of_group_is}
use Rattle.closing.proofs.rank_comms.next_of_group.Goals as goal

pub returns-clause-grows : goal.returns-clause-grows
returns-clause-grows c is =
    let a = c.args.keys.now in
    let b = c.place_of_group.new.self in
    let d = c.put.new.self in
    let group = c.in_ok-group.group in
    let first : Grows a b = c.in_ok-group.ensures.grows is in
    let has = c.in_ok-group.ensures.value in
    let placed = of_group_placed b group c.in_ok-count.count _ has in
    let second : Grows b d = c.in_ok-key.ensures.grows first.table placed in
    let grows : Grows a d = grows_on a b d first second in
    grows

pub returns-clause-counted : goal.returns-clause-counted
returns-clause-counted c comms is counted =
    let a = c.args.keys.now in
    let b = c.place_of_group.new.self in
    let d = c.put.new.self in
    let group = c.in_ok-group.group in
    let first : Grows a b = c.in_ok-group.ensures.grows is in
    let has = c.in_ok-group.ensures.value in
    let placed = of_group_placed b group c.in_ok-count.count _ has in
    let second : Grows b d = c.in_ok-key.ensures.grows first.table placed in
    let grows : Grows a d = grows_on a b d first second in
    let old = c.args.groups.now in
    let made = ap called_view c.in-MakesOfGroup.is in
    subst (λ (it : Called). IsCounted (HasGroup d) c.count_on.new.counts (with_group comms.groups it)) (sym made)
    (counted_more (HasGroup d) old c.count_on.new.counts comms.groups group _
    (counted_grows (HasGroup a) (HasGroup d) grows.groups old comms.groups counted) c.in_ok-count.ensures.more (second.groups group _ has))

pub returns-clause-value : goal.returns-clause-value
returns-clause-value c comms is counted =
    let a = c.args.keys.now in
    let b = c.place_of_group.new.self in
    let d = c.put.new.self in
    let group = c.in_ok-group.group in
    let first : Grows a b = c.in_ok-group.ensures.grows is in
    let has = c.in_ok-group.ensures.value in
    let placed = of_group_placed b group c.in_ok-count.count _ has in
    let second : Grows b d = c.in_ok-key.ensures.grows first.table placed in
    let grows : Grows a d = grows_on a b d first second in
    let old = c.args.groups.now in
    let made = ap called_view c.in-MakesOfGroup.is in
    let times = group_times b old comms.groups group _ first.table (counted_grows (HasGroup a) (HasGroup b) first.groups old comms.groups counted) has in
    let put = c.in_ok-key.ensures.value first.table placed in
    subst (λ (it : Called). IsPlaceOf d (Some c.in_ok-key.key) (key_next comms it)) (sym made)
    (put ∙ ap (λ (k : Key). Some k) (of_group_is b group c.in_ok-count.count _ _ (c.in_ok-count.ensures.before ∙ times) has))
