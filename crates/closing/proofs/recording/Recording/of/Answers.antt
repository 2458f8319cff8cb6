-- What is kept of a recording of which no entry was taken.
use Rattle.closing.proofs.RankwiseLemmas.{has_ranks, part_made}
use Rattle.closing.proofs.RecordedLemmas.{first_recording}
use Rattle.closing.proofs.recording.Recording.of.Goals as goal

pub invariant_of-result : goal.invariant_of-result
invariant_of-result c =
    first_recording c.in_ok-ranks.ranks c.as_slice-list.result.now c.args.journals.items c.args.choice c.in_ok-run.run' c.walks_of.new.run c.in_ok-walks.walks.items
    c.as_slice-list.ensures.value c.in_ok-ranks.ensures c.in_ok-walks.ensures.count (c.are_few.ensures c.if-not-are_few.false) (c.in_ok-run.ensures (c.are_few.ensures c.if-not-are_few.false)) c.in_ok-walks.ensures.walks

pub returns-clause-ranks : goal.returns-clause-ranks
returns-clause-ranks c =
    has_ranks c.in_ok-ranks.ranks c.args.journals.items c.args.choice c.walks_of.new.run c.in_ok-walks.walks.items
    (first_recording c.in_ok-ranks.ranks c.as_slice-list.result.now c.args.journals.items c.args.choice c.in_ok-run.run' c.walks_of.new.run c.in_ok-walks.walks.items
    c.as_slice-list.ensures.value c.in_ok-ranks.ensures c.in_ok-walks.ensures.count (c.are_few.ensures c.if-not-are_few.false) (c.in_ok-run.ensures (c.are_few.ensures c.if-not-are_few.false)) c.in_ok-walks.ensures.walks)

pub returns-clause-part : goal.returns-clause-part
returns-clause-part c fit rank within =
    part_made c.in_ok-ranks.ranks c.args.journals.items c.args.choice c.walks_of.new.run c.in_ok-walks.walks.items rank
    (first_recording c.in_ok-ranks.ranks c.as_slice-list.result.now c.args.journals.items c.args.choice c.in_ok-run.run' c.walks_of.new.run c.in_ok-walks.walks.items
    c.as_slice-list.ensures.value c.in_ok-ranks.ensures c.in_ok-walks.ensures.count (c.are_few.ensures c.if-not-are_few.false) (c.in_ok-run.ensures (c.are_few.ensures c.if-not-are_few.false)) c.in_ok-walks.ensures.walks) fit within
