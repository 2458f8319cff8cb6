-- All that was read of each source is kept.
use Rattle.std.proofs.Common.{◌≡◌, ◌∙◌, All, List, map, replicate, length, ap, subst, sym, arith}
use Rattle.driver.specs.inner.Turns.{AtTurn, at_turns, first_turn, source_of, IsBegun, IsReady}
use Rattle.driver.proofs.TurnLemmas.{all_read, first_sources, first_begun, first_ready, turns_over}
use Rattle.driver.proofs.round_robin.read_in_turns.Goals as goal

pub take_all_turns-requires-clause-ready : goal.take_all_turns-requires-clause-ready
take_all_turns-requires-clause-ready g c =
    let sources = c.args.sources.items in
    let is : at_turns sources c.args.turns.items ≡ at_turns sources (replicate (length sources) first_turn) = ap (λ turns. at_turns sources turns) c.requires.none_begun in
    subst (λ (all : List (AtTurn g.row.I.Denot)). All (λ turn. IsReady turn) all) (sym is) (first_ready sources c.requires.fresh)

pub returns-clause-read : goal.returns-clause-read
returns-clause-read g c =
    let sources = c.args.sources.items in
    let is : at_turns sources c.args.turns.items ≡ at_turns sources (replicate (length sources) first_turn) = ap (λ turns. at_turns sources turns) c.requires.none_begun in
    all_read g.I.Input.left (g.G.Gate.may_answer c.args.gate.now) sources (at_turns sources c.args.turns.items) (at_turns c.take_all_turns.new.sources.items c.take_all_turns.new.turns.items) c.args.ledger c.take_all_turns.new.ledger
    (omega (arith, c.requires.one_a_rank, c.args.sources.ok.0)) c.requires.nothing_kept
    (ap (λ (all : List (AtTurn g.row.I.Denot)). map source_of all) is ∙ first_sources sources)
    (subst (λ (all : List (AtTurn g.row.I.Denot)). All (λ turn. IsReady turn) all) (sym is) (first_ready sources c.requires.fresh))
    (subst (λ (all : List (AtTurn g.row.I.Denot)). All (λ turn. IsBegun turn) all) (sym is) (first_begun sources))
    c.take_all_turns.ensures.turns (turns_over c.take_all_turns.new.sources.items c.take_all_turns.new.turns.items c.take_all_turns.ensures.over)
