-- A round more, or the end.
use Rattle.std.proofs.Common.{◌<◌, ◌∙◌, length, refl, ap, arith}
use Rattle.closing.specs.Entries.{Run}
use Rattle.judging.specs.inner.Tables.{rows_of}
use Rattle.judging.proofs.HandLemmas.{has_all}
use Rattle.judging.proofs.TableLemmas.{all_lines}
use Rattle.judging.proofs.TurnLemmas.{keeps_none, keeps_more}
use Rattle.judging.proofs.TurnOrders.{round_more}
use Rattle.judging.proofs.turns.Lists.take_all.Goals as goal

pub loop-round-init : goal.loop-round-init
loop-round-init g c = record {
  kept = keeps_none c.args.analyser.now;
  with_it = λ with_it. with_it;
  table = λ with_it has. has;
  run = λ with_it. refl;
  choice = λ with_it. refl;
  handed = λ with_it some. absurd (omega (arith, some));
  few = λ with_it some. absurd (omega (arith, some));
}

pub loop-round-preserved : goal.loop-round-preserved
loop-round-preserved g c =
    let so_far = c.loop-round.invariant in
    let mid = c.loop-round.self.recording in
    let new = c.take_a_round.new.self.recording in
    let taken = c.in_ok-take_a_round.ensures in
    record {
      kept = keeps_more c.args.analyser.now c.loop-round.analyser c.take_a_round.new.analyser so_far.kept c.take_a_round.ensures.kept;
      with_it = λ with_it. taken.with_it (so_far.with_it with_it);
      table = λ with_it has. taken.table (so_far.with_it with_it) (so_far.table with_it has);
      run = λ with_it. (taken.turns (so_far.with_it with_it)).run ∙ so_far.run with_it;
      choice = λ with_it. (taken.turns (so_far.with_it with_it)).choice ∙ so_far.choice with_it;
      handed = λ with_it some rank within.
          let turns = taken.turns (so_far.with_it with_it) in
          turns.handed rank (omega (arith, within, ap (λ (r : Run). length r) turns.run, (so_far.with_it with_it).ranks));
      few = λ with_it some rank within.
          let turns = taken.turns (so_far.with_it with_it) in
          let inside : rank < length mid.run = omega (arith, within, ap (λ (r : Run). length r) turns.run) in
          round_more (length c.loop-round.analyser.recording) c.loop-round._round rank mid new turns (omega (arith, inside, (so_far.with_it with_it).ranks))
          (omega (arith, c.loop-round-test.true)) (λ later. so_far.few with_it later rank inside);
    }

pub returns-then-branch-clause-all : goal.returns-then-branch-clause-all
returns-then-branch-clause-all g c = λ with_it.
    let so_far = c.loop-round.invariant in
    let taken = c.in_ok-take_a_round.ensures in
    let own = so_far.with_it with_it in
    let turns = taken.turns own in
    let many = ap (λ (r : Run). length r) turns.run in
    has_all c.args.self.now.recording c.take_a_round.new.self.recording c.take_a_round.new.analyser (turns.run ∙ so_far.run with_it) (turns.choice ∙ so_far.choice with_it) (taken.with_it own)
    (λ rank within. taken.over own c.if-branch.true rank (omega (arith, within, many, own.ranks)))
    (λ rank within. turns.handed rank (omega (arith, within, many, own.ranks)))

pub returns-clause-all : goal.returns-clause-all
returns-clause-all g c = λ with_it.
    let so_far = c.loop-round.invariant in
    let some : 0 < c.loop-round._round = omega (arith, c.loop-round-test.false) in
    has_all c.args.self.now.recording c.loop-round.self.recording c.loop-round.analyser (so_far.run with_it) (so_far.choice with_it) (so_far.with_it with_it)
    (λ rank within. omega (arith, so_far.few with_it some rank within, c.loop-round-test.false))
    (so_far.handed with_it some)

pub returns-then-branch-clause-table : goal.returns-then-branch-clause-table
returns-then-branch-clause-table g c = λ with_it has.
    let so_far = c.loop-round.invariant in
    let taken = c.in_ok-take_a_round.ensures in
    let own = so_far.with_it with_it in
    let turns = taken.turns own in
    let many = ap (λ (r : Run). length r) turns.run in
    all_lines c.take_a_round.new.self.recording (rows_of c.take_a_round.new.self.table) (taken.table own (so_far.table with_it has)).rows
    (λ rank within. turns.handed rank (omega (arith, within, many, own.ranks))
    ∙ ((taken.with_it own).parts rank within).over (taken.over own c.if-branch.true rank (omega (arith, within, many, own.ranks))))

pub returns-clause-table : goal.returns-clause-table
returns-clause-table g c = λ with_it has.
    let so_far = c.loop-round.invariant in
    let some : 0 < c.loop-round._round = omega (arith, c.loop-round-test.false) in
    all_lines c.loop-round.self.recording (rows_of c.loop-round.self.table) (so_far.table with_it has).rows
    (λ rank within. so_far.handed with_it some rank within
    ∙ ((so_far.with_it with_it).parts rank within).over (omega (arith, so_far.few with_it some rank within, c.loop-round-test.false)))
