-- The threads started so far promise what comes of their sources and feeds; the rest were not asked and have
-- nothing put.
use Rattle.std.proofs.Common.{◌≡◌, ◌+◌, ◌≤◌, [], None, All, length, vec_len, vec_capacity}
use Rattle.std.specs.Vec.Iter.{into_iter_items, into_iter_len}
use Rattle.mpicall.specs.Source.{ended}
use Rattle.rankfeed.specs.Rings.{sent_by}
use Rattle.driver.specs.Threads.{Promises}
use Rattle.driver.proofs.AlongLemmas.{AlongTo}
use Rattle.driver.proofs.threads.Started.start_all.Given as goal

abbrev pub invariant-loop-source : goal.invariant-loop-source
invariant-loop-source g l = record {
  can_next : (goal.iterator-loop-source g).can_next l.source-iterator;
  is_finite : (goal.iterator-loop-source g).is_finite l.source-iterator;
  sources : vec_len l.started + into_iter_len l.source-iterator ≡ vec_len l.fn.sources;
  feeds : vec_len l.started + into_iter_len l.feeds ≡ vec_len l.fn.sources;
  sources_len : into_iter_len l.source-iterator ≡ length (into_iter_items l.source-iterator);
  feeds_len : into_iter_len l.feeds ≡ length (into_iter_items l.feeds);
  room : vec_len l.fn.sources ≤ vec_capacity l.started;
  fresh : All (λ source. ended source ≡ None) (into_iter_items l.source-iterator);
  nothing_put : All (λ feed. sent_by feed ≡ []) (into_iter_items l.feeds);
  promises : AlongTo (λ source feed one. Promises g.I.Input.left g.G.Gate.may_answer source feed l.gate one) l.fn.sources.items l.fn.feeds.items l.started.items (into_iter_items l.source-iterator) (into_iter_items l.feeds);
}
