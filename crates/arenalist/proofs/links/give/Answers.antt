use Rattle.std.proofs.Common.{◌≡◌, get_or, arith}
use Rattle.std.proofs.lemmas.List.{get_or_read}
use Rattle.arenalist.proofs.SpliceLemmas.{around_most, giving, step, done}
use Rattle.arenalist.proofs.links.give.Goals as goal

pub loop-cell-init : goal.loop-cell-init
loop-cell-init c = giving _ _ _ _ _ c.requires.round c.requires.same (get_or_read c.args.nexts.now.items c.args.head c.index-cell.result.now c.requires.head c.index-cell.ensures 0)

pub index_mut-requires : goal.index_mut-requires
index_mut-requires c = omega (arith, (step _ _ _ _ _ _ _ c.loop-cell.invariant c.loop-cell-test.true).cell_in, c.loop-cell.invariant.is.long)

pub overflow_add-given : goal.overflow_add-given
overflow_add-given c = omega (arith, (step _ _ _ _ _ _ _ c.loop-cell.invariant c.loop-cell-test.true).left, around_most c.args.nexts.now.items c.args.head, c.requires.small)

pub index-cell-requires-in-loop-cell : goal.index-cell-requires-in-loop-cell
index-cell-requires-in-loop-cell c = omega (arith, (step _ _ _ _ _ _ _ c.loop-cell.invariant c.loop-cell-test.true).cell_in)

pub loop-cell-smaller : goal.loop-cell-smaller
loop-cell-smaller c = omega (arith, (step _ _ _ _ _ _ _ c.loop-cell.invariant c.loop-cell-test.true).left)

pub loop-cell-preserved : goal.loop-cell-preserved
loop-cell-preserved c =
    let s = step _ _ _ _ _ _ _ c.loop-cell.invariant c.loop-cell-test.true in
    let next : c.index-cell-in-loop-cell.result.now ≡ get_or c.args.nexts.now.items c.loop-cell.cell 0 = get_or_read c.args.nexts.now.items c.loop-cell.cell c.index-cell-in-loop-cell.result.now (omega (arith, s.cell_in)) c.index-cell-in-loop-cell.ensures 0 in
    rw next s.next

pub returns-clause-count : goal.returns-clause-count
returns-clause-count c = (done _ _ _ _ _ _ _ c.loop-cell.invariant c.loop-cell-test.false).0

pub returns-clause-owners : goal.returns-clause-owners
returns-clause-owners c = (done _ _ _ _ _ _ _ c.loop-cell.invariant c.loop-cell-test.false).1
