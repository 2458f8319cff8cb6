-- An entry more, or the end.
use Rattle.std.proofs.Common.{◌<◌, ℕ, List, length, ap, arith}
use Rattle.closing.specs.Recordings.{count_at}
use Rattle.lawful.proofs.ReadRuns.{fit_of_read}
use Rattle.judging.specs.inner.Tables.{rows_of}
use Rattle.judging.proofs.HandLemmas.{stepped_in, stepped_read}
use Rattle.judging.proofs.TableLemmas.{lines_stepped}
use Rattle.judging.proofs.TurnLemmas.{keeps_none, keeps_more}
use Rattle.judging.proofs.TurnOrders.{stays_none, stays_handed, stays_stepped, not_over}
use Rattle.judging.proofs.turns.Lists.take_a_turn.Goals as goal

pub loop-entry-init : goal.loop-entry-init
loop-entry-init c = record {
  kept = keeps_none c.args.analyser.now;
  with_it = λ with_it. with_it;
  table = λ with_it has. has;
  stays = λ with_it. stays_none c.args.rank c.args.self.now.recording;
  less = λ with_it. omega arith;
}

pub loop-entry-preserved : goal.loop-entry-preserved
loop-entry-preserved c =
    let rank = c.args.rank in
    let old = c.args.self.now.recording in
    let mid = c.loop-entry.self.recording in
    let handed = c.hand_on.new.self.recording in
    let next = c.step.new.self in
    let so_far = c.loop-entry.invariant in
    let inside : rank < length c.hand_on.new.analyser.recording = omega (arith, c.requires, so_far.kept.ranks, c.hand_on.ensures.kept.ranks) in
    let more = c.in_ok-step.ensures.next (not_over (count_at handed.left rank) c.is_over.result c.is_over.ensures.over c.if-is_over.false) in
    record {
      kept = keeps_more c.args.analyser.now c.loop-entry.analyser c.hand_on.new.analyser so_far.kept c.hand_on.ensures.kept;
      with_it = λ with_it.
          stepped_in handed next c.hand_on.new.analyser rank (c.in_ok-hand_on.ensures.with_it (so_far.with_it with_it)) inside c.in_ok-step.ensures.same c.in_ok-step.ensures.handed c.in_ok-step.ensures.part;
      table = λ with_it has.
          let own = c.in_ok-hand_on.ensures.with_it (so_far.with_it with_it) in
          let has_it = c.in_ok-hand_on.ensures.table (so_far.with_it with_it) (so_far.table with_it has) in
          let read = stepped_read handed next rank own.read c.in_ok-step.ensures.same in
          record {
            wanted = has_it.wanted;
            rows = lines_stepped handed next rank (rows_of c.hand_on.new.self.table) has_it.rows c.in_ok-step.ensures.same c.in_ok-step.ensures.handed
                (c.in_ok-step.ensures.before (fit_of_read next.run next.choice read)) (c.in_ok-hand_on.ensures.handed (so_far.with_it with_it)).handed;
          };
      stays = λ with_it.
          stays_stepped rank old handed next (stays_handed rank old mid handed (so_far.stays with_it) (c.in_ok-hand_on.ensures.handed (so_far.with_it with_it))) c.in_ok-step.ensures.same;
      less = λ with_it.
          omega (arith, so_far.less with_it, ap (λ (m : List ℕ). count_at m rank) (c.in_ok-hand_on.ensures.handed (so_far.with_it with_it)).left, more);
    }
