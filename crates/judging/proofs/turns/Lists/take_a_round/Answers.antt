-- A rank more has had its turn.
use Rattle.std.proofs.Common.{sym, ◌∙◌, arith}
use Rattle.judging.proofs.TurnLemmas.{keeps_none, keeps_more}
use Rattle.judging.proofs.TurnOrders.{turns_none, turns_more, over_more}
use Rattle.judging.proofs.turns.Lists.take_a_round.Goals as goal

pub loop-rank-init : goal.loop-rank-init
loop-rank-init c = record {
  kept = keeps_none c.args.analyser.now;
  with_it = λ with_it. with_it;
  table = λ with_it has. has;
  turns = λ with_it. turns_none c.args.self.now.recording;
  over = λ with_it so rank below. absurd (omega (arith, below));
}

pub loop-rank-preserved : goal.loop-rank-preserved
loop-rank-preserved c =
    let so_far = c.loop-rank.invariant in
    let rank = c.loop-rank.rank in
    let old = c.args.self.now.recording in
    let mid = c.loop-rank.self.recording in
    let new = c.take_next.new.self.recording in
    let taken = c.in_ok-is_over.ensures in
    record {
      kept = keeps_more c.args.analyser.now c.loop-rank.analyser c.take_next.new.analyser so_far.kept c.take_next.ensures.kept;
      with_it = λ with_it. taken.with_it (so_far.with_it with_it);
      table = λ with_it has. taken.table (so_far.with_it with_it) (so_far.table with_it has);
      turns = λ with_it. turns_more rank old mid new (so_far.turns with_it) (taken.turn (so_far.with_it with_it)) taken.few;
      over = λ with_it so. over_more rank mid new c.loop-rank.are_over c.in_ok-is_over.is_over (taken.turn (so_far.with_it with_it)) taken.over (so_far.over with_it) (sym c.are_both-are_over.ensures ∙ so);
    }
