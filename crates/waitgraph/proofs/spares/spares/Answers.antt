use Rattle.std.proofs.Common.{◌≡◌, ◌∙◌, ◌++◌, ℕ, List, length, flat_map, sym, ap, arith}
use Rattle.std.specs.List.{range_with_len}
use Rattle.findings.proofs.FindingLemmas.{listed_next}
use Rattle.waitgraph.specs.Pending.{spares_by}
use Rattle.waitgraph.specs.declared.pending.Spare.{Spare}
use Rattle.waitgraph.proofs.spares.spares.Goals as goal

pub loop-sender-init : goal.loop-sender-init
loop-sender-init c = record { len = c.in_ok-spares.ensures.len ∙ c.ranks.ensures; more = λ rank within. c.in_ok-spares.ensures.none rank }

pub loop-sender-preserved : goal.loop-sender-preserved
loop-sender-preserved c = record {
  len = c.add_of_rank.ensures.len ∙ c.loop-sender.invariant.len;
  more = λ rank within.
      c.in_ok-add_of_rank.ensures.more rank (omega (arith, within, c.loop-sender.invariant.len))
      ∙ ap (λ (spares : List Spare). spares ++ spares_by c.args.pairs.now.groups c.args.pairs.now.recording rank c.loop-sender.sender) (c.loop-sender.invariant.more rank within)
      ∙ sym (listed_next (spares_by c.args.pairs.now.groups c.args.pairs.now.recording rank) 0 c.loop-sender.sender c.loop-sender.sender (omega arith));
}

pub returns : goal.returns
returns c rank within =
    let whole : c.loop-sender.sender ≡ length c.args.pairs.now.recording = omega (arith, c.loop-sender-test.false, c.loop-sender.auto.sender-end, c.ranks-sender-end.ensures) in
    c.loop-sender.invariant.more rank within
    ∙ ap (λ (n : ℕ). flat_map (spares_by c.args.pairs.now.groups c.args.pairs.now.recording rank) (range_with_len 0 n)) whole
