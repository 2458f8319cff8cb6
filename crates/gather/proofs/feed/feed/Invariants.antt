-- The records put so far are a prefix of what was told, the next line follows them, and no read failed.
use Rattle.std.proofs.Common.{◌≡◌, None}
use Rattle.mpicall.specs.Source.{ended, input_of}
use Rattle.rankfeed.specs.Rings.{feed_ring, sent_by}
use Rattle.gather.specs.Reads.{IsReading}
use Rattle.gather.proofs.feed.feed.Given as goal

abbrev pub invariant-loop : goal.invariant-loop
invariant-loop g l = record {
  can_next : (goal.iterator-loop g).can_next l.iterator';
  is_finite : (goal.iterator-loop g).is_finite l.iterator';
  same : feed_ring l.feed ≡ feed_ring l.fn.feed;
  fresh : ended l.source ≡ None;
  read : IsReading g.I.Input.left (g.G.Gate.may_answer l.fn.gate l.fn.rank) l.fn.source l.source (sent_by l.feed) l.line;
  count : g.I.Input.failures (input_of l.source) ≡ g.I.Input.failures (input_of l.fn.source);
}
