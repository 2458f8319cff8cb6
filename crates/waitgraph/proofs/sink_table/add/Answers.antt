use Rattle.std.proofs.Common.{◌≡◌, ◌≢◌, ◌==◌, ◌∙◌, ◌++◌, if◌then◌else◌, ℕ, Bool, true, false, [], ◌∷◌, sym, ap, subst, ⊎_elim, arith, append-nil}
use Rattle.std.proofs.lemmas.Bool.{cases_eq, eq-eqb, ne_eqb}
use Rattle.waitgraph.specs.inner.Buckets.{bucket}
use Rattle.waitgraph.proofs.sink_table.add.Goals as goal

pub returns-else-from-len-clause-more : goal.returns-else-from-len-clause-more
returns-else-from-len-clause-more c rank within =
    let sink = c.args.sink.now in
    let no : (sink.rank == rank) ≡ false = ne_eqb sink.rank rank (λ same. omega (arith, same, within, c.if-from-len.false, c.len.ensures, c.from.ensures)) in
    sym (ap (λ (b : Bool). bucket c.args.by_rank.now.items rank ++ (if b then sink ∷ [] else [])) no ∙ append-nil (bucket c.args.by_rank.now.items rank))

pub returns-in_ok-put-clause-more : goal.returns-in_ok-put-clause-more
returns-in_ok-put-clause-more c rank within =
    let sink = c.args.sink.now in
    ⊎_elim
    (λ (same : rank ≡ sink.rank).
    let yes : (sink.rank == rank) ≡ true = eq-eqb sink.rank rank (sym same) in
    subst (λ (k : ℕ). bucket c.put.new.by_rank.items k ≡ bucket c.args.by_rank.now.items k ++ sink ∷ []) (sym same) c.in_ok-put.ensures.own
    ∙ sym (ap (λ (b : Bool). bucket c.args.by_rank.now.items rank ++ (if b then sink ∷ [] else [])) yes))
    (λ (differs : rank ≢ sink.rank).
    let no : (sink.rank == rank) ≡ false = ne_eqb sink.rank rank (λ same. differs (sym same)) in
    c.in_ok-put.ensures.others rank differs
    ∙ sym (ap (λ (b : Bool). bucket c.args.by_rank.now.items rank ++ (if b then sink ∷ [] else [])) no ∙ append-nil (bucket c.args.by_rank.now.items rank)))
    (cases_eq rank sink.rank)
