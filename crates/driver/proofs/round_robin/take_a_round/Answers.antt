-- One rank more had its turn.
use Rattle.std.proofs.Common.{◌≡◌, ◌∙◌, ◌<◌, List, length, slice_set, refl, sym, ap, subst, arith}
use Rattle.driver.specs.inner.Turns.{AtTurn, at_turn, at_turns, AreLater}
use Rattle.driver.proofs.TurnLemmas.{set_later, are_later_still, ready_at, turns_count, turns_read, turns_set}
use Rattle.driver.proofs.round_robin.take_a_round.Goals as goal

pub take_a_turn-requires-clause-ready : goal.take_a_turn-requires-clause-ready
take_a_turn-requires-clause-ready g c =
    let sources = c.loop-rank.sources.items in
    let turns = c.loop-rank.turns.items in
    let within : c.loop-rank.rank < length sources =
    omega (arith, c.requires.one_a_rank, c.ranks-rank-end.ensures.ranks, c.loop-rank.invariant.sources, c.loop-rank.invariant.later.ranks, c.loop-rank-test.true, c.args.sources.now.ok.0, c.loop-rank.sources.ok.0) in
    let same : length turns ≡ length sources =
    omega (arith, c.requires.one_a_source, c.loop-rank.invariant.sources, c.loop-rank.invariant.turns, c.loop-rank.sources.ok.0, c.loop-rank.turns.ok.0) in
    ready_at sources turns c.loop-rank.rank c.index_mut-source.result.now c.index_mut-turn.result.now within same
    (rw c.from.ensures at c.index_mut-source.ensures.value) (rw c.from-in-loop-rank.ensures at c.index_mut-turn.ensures.value)
    (c.loop-rank.invariant.later.ready c.requires.ready)

pub loop-rank-preserved : goal.loop-rank-preserved
loop-rank-preserved g c =
    let left = g.I.Input.left in
    let may_answer = g.G.Gate.may_answer c.args.gate.now in
    let sources = c.loop-rank.sources.items in
    let turns = c.loop-rank.turns.items in
    let rank = c.loop-rank.rank in
    let was = at_turn c.index_mut-source.result.now c.index_mut-turn.result.now in
    let now = at_turn c.take_a_turn.new.source c.take_a_turn.new.turn in
    let within : rank < length sources =
    omega (arith, c.requires.one_a_rank, c.ranks-rank-end.ensures.ranks, c.loop-rank.invariant.sources, c.loop-rank.invariant.later.ranks, c.loop-rank-test.true, c.args.sources.now.ok.0, c.loop-rank.sources.ok.0) in
    let same : length turns ≡ length sources =
    omega (arith, c.requires.one_a_source, c.loop-rank.invariant.sources, c.loop-rank.invariant.turns, c.loop-rank.sources.ok.0, c.loop-rank.turns.ok.0) in
    let read = turns_read sources turns rank c.index_mut-source.result.now c.index_mut-turn.result.now
    (rw c.from.ensures at c.index_mut-source.ensures.value) (rw c.from-in-loop-rank.ensures at c.index_mut-turn.ensures.value) in
    let one : at_turns (slice_set sources c.from.result c.take_a_turn.new.source) (slice_set turns c.from-in-loop-rank.result c.take_a_turn.new.turn) ≡ slice_set (at_turns sources turns) rank now =
    ap (λ k. at_turns (slice_set sources k c.take_a_turn.new.source) (slice_set turns c.from-in-loop-rank.result c.take_a_turn.new.turn)) c.from.ensures
    ∙ ap (λ k. at_turns (slice_set sources rank c.take_a_turn.new.source) (slice_set turns k c.take_a_turn.new.turn)) c.from-in-loop-rank.ensures
    ∙ turns_set sources turns rank c.take_a_turn.new.source c.take_a_turn.new.turn in
    let old = at_turns c.args.sources.now.items c.args.turns.now.items in
    record {
      later = subst (λ (all : List (AtTurn g.row.I.Denot)). AreLater left may_answer old c.args.ledger.now all c.take_a_turn.new.ledger) (sym one)
          (are_later_still left may_answer old (at_turns sources turns) (slice_set (at_turns sources turns) rank now) c.args.ledger.now c.loop-rank.ledger c.take_a_turn.new.ledger c.loop-rank.invariant.later
          (set_later left may_answer (at_turns sources turns) rank rank was now c.loop-rank.ledger c.take_a_turn.new.ledger refl (omega (arith, within, turns_count sources turns same)) read c.take_a_turn.ensures));
      sources = c.loop-rank.invariant.sources;
      turns = c.loop-rank.invariant.turns;
    }
