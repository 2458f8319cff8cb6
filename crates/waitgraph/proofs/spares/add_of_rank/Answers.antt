use Rattle.std.proofs.Common.{◌≡◌, ◌∙◌, ◌++◌, ℕ, length, refl, sym, ap, append-nil, arith}
use Rattle.std.specs.List.{filter_map, range_with_len}
use Rattle.callstore.specs.Recordings.{calls_of}
use Rattle.waitgraph.specs.Pending.{spare_to}
use Rattle.waitgraph.specs.inner.Buckets.{bucket}
use Rattle.waitgraph.proofs.RangeLemmas.{one_given}
use Rattle.waitgraph.proofs.spares.add_of_rank.Goals as goal

pub loop-place-init : goal.loop-place-init
loop-place-init c = record { len = refl; more = λ rank within. sym (append-nil (bucket c.args.spares.now.items rank)) }

pub loop-place-preserved : goal.loop-place-preserved
loop-place-preserved c = record {
  len = c.add_at.ensures.len ∙ c.loop-place.invariant.len;
  more = λ rank within.
      one_given (spare_to c.args.pairs.now.groups c.args.pairs.now.recording rank c.args.sender) c.loop-place.place
      (bucket c.args.spares.now.items rank) (bucket c.loop-place.spares.items rank) (bucket c.add_at.new.spares.items rank)
      (c.loop-place.invariant.more rank within) (c.in_ok-add_at.ensures.more rank (omega (arith, within, c.loop-place.invariant.len)));
}

pub returns-clause-more : goal.returns-clause-more
returns-clause-more c rank within =
    let whole : c.loop-place.place ≡ length (calls_of c.args.pairs.now.recording c.args.sender) = omega (arith, c.loop-place-test.false, c.loop-place.auto.place-end, c.calls-place-end.ensures) in
    c.loop-place.invariant.more rank within
    ∙ ap (λ (n : ℕ). bucket c.args.spares.now.items rank ++ filter_map (spare_to c.args.pairs.now.groups c.args.pairs.now.recording rank c.args.sender) (range_with_len 0 n)) whole
