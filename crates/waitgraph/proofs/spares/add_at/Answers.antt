use Rattle.std.proofs.Common.{◌≡◌, ◌≢◌, ◌∙◌, ◌++◌, ℕ, Some, refl, sym, subst, ⊎_elim, arith}
use Rattle.std.specs.Option.{option_to_list}
use Rattle.std.proofs.lemmas.Bool.{cases_eq}
use Rattle.callstore.specs.declared.envelope.Half.TheVariants.{Recv as RecvHalf}
use Rattle.callstore.specs.Envelopes.{rank_of_half}
use Rattle.waitgraph.specs.declared.pending.Spare.{Spare}
use Rattle.waitgraph.specs.Pending.{spare_to}
use Rattle.waitgraph.specs.inner.Buckets.{bucket}
use Rattle.waitgraph.proofs.BucketLemmas.{none_to, nobody_to, other_to, own_to, adds_none, adds_one}
use Rattle.waitgraph.proofs.spares.add_at.Goals as goal

pub returns-in_default-clause-more : goal.returns-in_default-clause-more
returns-in_default-clause-more c rank within =
    adds_none (bucket c.args.spares.now.items rank) (spare_to c.args.pairs.now.groups c.args.pairs.now.recording rank c.args.sender c.args.place)
    (none_to c.args.pairs.now.groups c.args.pairs.now.recording rank c.args.sender c.args.place (sym c.spare_at.ensures ∙ c.in_default.is))

pub returns-in_default-rank_of_half-clause-more : goal.returns-in_default-rank_of_half-clause-more
returns-in_default-rank_of_half-clause-more c rank within =
    adds_none (bucket c.args.spares.now.items rank) (spare_to c.args.pairs.now.groups c.args.pairs.now.recording rank c.args.sender c.args.place)
    (nobody_to c.args.pairs.now.groups c.args.pairs.now.recording rank c.args.sender c.args.place c.in-Some.envelope (sym c.spare_at.ensures ∙ c.in-Some.is)
    (rw c.head.ensures.value at (sym c.rank_of_half.ensures ∙ c.in_default-rank_of_half.is)))

pub returns-else-from-len-clause-more : goal.returns-else-from-len-clause-more
returns-else-from-len-clause-more c rank within =
    let differs : rank ≢ c.in-Some-rank_of_half.dest = λ same. omega (arith, same, within, c.if-from-len.false, c.len.ensures, c.from.ensures) in
    adds_none (bucket c.args.spares.now.items rank) (spare_to c.args.pairs.now.groups c.args.pairs.now.recording rank c.args.sender c.args.place)
    (other_to c.args.pairs.now.groups c.args.pairs.now.recording rank c.args.sender c.args.place c.in-Some-rank_of_half.dest c.in-Some.envelope (sym c.spare_at.ensures ∙ c.in-Some.is)
    (rw c.head.ensures.value at (sym c.rank_of_half.ensures ∙ c.in-Some-rank_of_half.is)) differs)

pub returns-in_ok-put-clause-more : goal.returns-in_ok-put-clause-more
returns-in_ok-put-clause-more c rank within =
    let spare : Spare = record { sender = c.args.sender; place = c.args.place; envelope = c.in-Some.envelope } in
    let there = sym c.spare_at.ensures ∙ c.in-Some.is in
    let goes : rank_of_half c.args.pairs.now.groups RecvHalf c.in-Some.envelope ≡ Some c.in-Some-rank_of_half.dest = rw c.head.ensures.value at (sym c.rank_of_half.ensures ∙ c.in-Some-rank_of_half.is) in
    ⊎_elim
    (λ (same : rank ≡ c.in-Some-rank_of_half.dest).
    subst (λ (k : ℕ). bucket c.put.new.spares.items k ≡ bucket c.args.spares.now.items k ++ option_to_list (spare_to c.args.pairs.now.groups c.args.pairs.now.recording k c.args.sender c.args.place)) (sym same)
    (adds_one (bucket c.args.spares.now.items c.in-Some-rank_of_half.dest) (bucket c.put.new.spares.items c.in-Some-rank_of_half.dest) spare (spare_to c.args.pairs.now.groups c.args.pairs.now.recording c.in-Some-rank_of_half.dest c.args.sender c.args.place)
    c.in_ok-put.ensures.own
    (own_to c.args.pairs.now.groups c.args.pairs.now.recording c.args.sender c.args.place c.in-Some-rank_of_half.dest c.in-Some.envelope spare there goes refl)))
    (λ (differs : rank ≢ c.in-Some-rank_of_half.dest).
    c.in_ok-put.ensures.others rank differs
    ∙ adds_none (bucket c.args.spares.now.items rank) (spare_to c.args.pairs.now.groups c.args.pairs.now.recording rank c.args.sender c.args.place)
    (other_to c.args.pairs.now.groups c.args.pairs.now.recording rank c.args.sender c.args.place c.in-Some-rank_of_half.dest c.in-Some.envelope there goes differs))
    (cases_eq rank c.in-Some-rank_of_half.dest)
