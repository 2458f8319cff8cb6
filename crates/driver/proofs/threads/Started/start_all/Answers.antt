-- One thread more was started.
use Rattle.std.proofs.Common.{rules, arith, ◌≡◌, length, None, [], ap}
use Rattle.std.specs.Vec.Iter.{into_iter_items}
use Rattle.std.proofs.lemmas.List.Elements.{All-rest}
use Rattle.mpicall.specs.Source.{ended}
use Rattle.rankfeed.specs.Rings.{sent_by}
use Rattle.driver.specs.Threads.{Promises}
use Rattle.driver.proofs.AlongLemmas.{first_of_all, along_next, along_end}
use Rattle.driver.proofs.threads.Started.start_all.Goals as goal

pub start-thread-requires-clause-nothing_put : goal.start-thread-requires-clause-nothing_put
start-thread-requires-clause-nothing_put g c κs within = first_of_all (λ feed. sent_by feed ≡ []) _ c.in-Some-next.feed_end _ c.in-Some-next.ensures.cases.0 c.loop-source.invariant.nothing_put

pub loop-source-preserved : goal.loop-source-preserved
loop-source-preserved g c =
    let sources = c.in-Some.ensures.steps.0 in
    let feeds = c.in-Some-next.ensures.cases.0 in
    let was = c.loop-source.invariant in record {
      can_next = search rules;
      is_finite = search rules;
      sources = search rules;
      feeds = search rules;
      sources_len = omega (arith, ap length sources);
      feeds_len = omega (arith, ap length feeds);
      room = search rules;
      fresh = All-rest (λ source. ended source ≡ None) c.in-Some.source _ _ sources was.fresh;
      nothing_put = All-rest (λ feed. sent_by feed ≡ []) c.in-Some-next.feed_end _ _ feeds was.nothing_put;
      promises = along_next (λ source feed one. Promises g.I.Input.left g.G.Gate.may_answer source feed c.args.gate.now one) c.args.sources.items c.args.feeds.items c.loop-source.started.items _ c.in-Some.source c.in-Some-next.feed_end c.start-thread.result _ _ _ _ was.promises sources feeds c.start-thread.ensures (search rules);
    }

pub returns-clause-promises : goal.returns-clause-promises
returns-clause-promises g c =
    along_end (λ source feed one. Promises g.I.Input.left g.G.Gate.may_answer source feed c.args.gate.now one) c.args.sources.items c.args.feeds.items c.loop-source.started.items (into_iter_items c.loop-source.source-iterator) (into_iter_items c.loop-source.feeds) c.loop-source.invariant.promises (search rules) (search rules)
