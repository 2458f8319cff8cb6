use Rattle.std.proofs.Common.{◌≡◌, ◌∙◌, ℕ, List, [], ◌∷◌, ◌++◌, set, sym, ap, arith}
use Rattle.waitgraph.specs.inner.Buckets.{bucket}
use Rattle.waitgraph.specs.declared.pending.Sink.{Sink}
use Rattle.waitgraph.proofs.BucketLemmas.{bucket_own, bucket_other, bucket_at}
use Rattle.waitgraph.proofs.sink_table.put.Goals as goal

pub returns-clause-own : goal.returns-clause-own
returns-clause-own c =
    let at : c.from.result ≡ c.args.rank = omega arith in
    ap (λ (i : ℕ). bucket (set c.args.by_rank.now.items i c.push.new.self) c.args.rank) at
    ∙ bucket_own c.args.by_rank.now.items c.args.rank c.push.new.self c.requires
    ∙ c.in_ok-push.ensures.items
    ∙ ap (λ (sinks : List Sink). sinks ++ c.args.sink ∷ []) (sym (bucket_at c.args.by_rank.now.items c.from.result c.args.rank c.index_mut-own.result.now at c.requires c.index_mut-own.ensures.value))

pub returns-clause-others : goal.returns-clause-others
returns-clause-others c other differs =
    let at : c.from.result ≡ c.args.rank = omega arith in
    ap (λ (i : ℕ). bucket (set c.args.by_rank.now.items i c.push.new.self) other) at
    ∙ bucket_other c.args.by_rank.now.items c.args.rank other c.push.new.self differs
