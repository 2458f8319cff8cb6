use Rattle.std.proofs.Common.{◌≡◌, ◌∙◌, ℕ, List, [], ◌∷◌, ◌++◌, set, sym, ap, arith}
use Rattle.waitgraph.specs.inner.Buckets.{bucket}
use Rattle.waitgraph.specs.declared.pending.Spare.{Spare}
use Rattle.waitgraph.proofs.BucketLemmas.{bucket_own, bucket_other, bucket_at}
use Rattle.waitgraph.proofs.spares.put.Goals as goal

pub returns-clause-own : goal.returns-clause-own
returns-clause-own c =
    let at : c.from.result ≡ c.args.dest = omega arith in
    ap (λ (i : ℕ). bucket (set c.args.spares.now.items i c.push.new.self) c.args.dest) at
    ∙ bucket_own c.args.spares.now.items c.args.dest c.push.new.self c.requires
    ∙ c.in_ok-push.ensures.items
    ∙ ap (λ (spares : List Spare). spares ++ c.args.spare ∷ []) (sym (bucket_at c.args.spares.now.items c.from.result c.args.dest c.index_mut-to.result.now at c.requires c.index_mut-to.ensures.value))

pub returns-clause-others : goal.returns-clause-others
returns-clause-others c rank differs =
    let at : c.from.result ≡ c.args.dest = omega arith in
    ap (λ (i : ℕ). bucket (set c.args.spares.now.items i c.push.new.self) rank) at
    ∙ bucket_other c.args.spares.now.items c.args.dest rank c.push.new.self differs
