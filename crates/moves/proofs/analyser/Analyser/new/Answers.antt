use Rattle.std.proofs.Common.{◌≡◌, ◌+◌, List, [], length, replicate, sym, ap, ◌∙◌, rules}
use Rattle.moves.specs.Runs.{start}
use Rattle.moves.proofs.SettleLemmas.{new_settled, settled_end}
use Rattle.moves.proofs.analyser.Analyser.new.Goals as goal

pub invariant_of-result : goal.invariant_of-result
invariant_of-result c =
    let zeros : c.in_ok-stands.stands.items ≡ start c.ranks-ranks.result = search rules in
    let comms : c.comms-comms.result ≡ length c.in_ok-pairs.pairs.groups = c.comms-comms.ensures.value ∙ ap (length {A = List _}) (sym c.in_ok-pairs.ensures.groups) in
    new_settled c.args.reading c.in_ok-pairs.pairs.groups c.in_ok-pairs.pairs.recording c.in_ok-stands.stands.items c.in_ok-progress.progress c.in_ok-waiters.waiters c.ranks-ranks.result
    (c.in_ok-pairs.ensures.recording ∙ ap (λ n. replicate n []) (sym c.ranks-ranks.ensures.value)) zeros
    (c.in_ok-progress.ensures.complete ∙ ap (λ n. replicate n 0) comms) (c.in_ok-progress.ensures.met ∙ ap (λ n. replicate n 0) comms)
    (c.in_ok-waiters.ensures.lists ∙ ap (λ n. replicate {A = List _} (1 + c.ranks-ranks.result + n) []) comms) c.in_ok-waiters.ensures.spare c.in_ok-waiters.ensures.work c.in_ok-progress.ensures.changes c.in_ok-waiters.ensures.awaited

pub returns-clause-end : goal.returns-clause-end
returns-clause-end c =
    let zeros : c.in_ok-stands.stands.items ≡ start c.ranks-ranks.result = search rules in
    let comms : c.comms-comms.result ≡ length c.in_ok-pairs.pairs.groups = c.comms-comms.ensures.value ∙ ap (length {A = List _}) (sym c.in_ok-pairs.ensures.groups) in
    let settled =
    new_settled c.args.reading c.in_ok-pairs.pairs.groups c.in_ok-pairs.pairs.recording c.in_ok-stands.stands.items c.in_ok-progress.progress c.in_ok-waiters.waiters c.ranks-ranks.result
    (c.in_ok-pairs.ensures.recording ∙ ap (λ n. replicate n []) (sym c.ranks-ranks.ensures.value)) zeros
    (c.in_ok-progress.ensures.complete ∙ ap (λ n. replicate n 0) comms) (c.in_ok-progress.ensures.met ∙ ap (λ n. replicate n 0) comms)
    (c.in_ok-waiters.ensures.lists ∙ ap (λ n. replicate {A = List _} (1 + c.ranks-ranks.result + n) []) comms) c.in_ok-waiters.ensures.spare c.in_ok-waiters.ensures.work c.in_ok-progress.ensures.changes c.in_ok-waiters.ensures.awaited in
    settled_end c.args.reading c.in_ok-pairs.pairs.groups c.in_ok-pairs.pairs.recording c.in_ok-stands.stands.items c.in_ok-progress.progress c.in_ok-waiters.waiters settled
