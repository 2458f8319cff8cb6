use Rattle.std.proofs.Common.{rules, sym, ◌∙◌}
use Rattle.std.proofs.lemmas.Bool.{true≢false}
use Rattle.moves.proofs.SettleLemmas.{kept_taken}
use Rattle.moves.proofs.settle.settle.Goals as goal

pub settle_rank-requires-clause-in_hand : goal.settle_rank-requires-clause-in_hand
settle_rank-requires-clause-in_hand c = c.loop-next.invariant.in_hand c.in-Some.rank c.in-Some.is

pub loop-next-preserved : goal.loop-next-preserved
loop-next-preserved c =
    let w = c.args.world.now in
    let p = c.settle_rank.new.positions in
    let next = c.next-next in
    record {
      come = λ rank is old. absurd (true≢false (sym old));
      in_hand = λ rank is _.
          kept_taken w.reading w.pairs.groups w.pairs.recording p.stands.items p.progress p.waiters next.new.self rank c.settle_rank.ensures.kept (sym next.ensures.value ∙ is) next.ensures.lists (rw is at next.ensures.spare) (rw is at next.ensures.work) next.ensures.awaited;
      settled = λ none. search rules;
      goes_on = search rules;
    }
