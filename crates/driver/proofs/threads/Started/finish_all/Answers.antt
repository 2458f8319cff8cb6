-- One thread more has ended.
use Rattle.std.proofs.Common.{rules, arith, length, ap}
use Rattle.std.specs.Vec.Iter.{into_iter_items}
use Rattle.driver.proofs.ThreadLemmas.{comes_next, comes_last}
use Rattle.driver.proofs.threads.Started.finish_all.Goals as goal

pub loop-thread-preserved : goal.loop-thread-preserved
loop-thread-preserved g c =
    let threads = c.in-Some.ensures.steps.0 in
    let was = c.loop-thread.invariant in record {
      can_next = search rules;
      is_finite = search rules;
      threads = search rules;
      threads_len = omega (arith, ap length threads);
      room = search rules;
      comes = comes_next g.I.Input.left g.G.Gate.may_answer c.args.started.items _ _ c.loop-thread.fed.items _ c.in-Some.thread c.finish.result was.comes threads c.finish.ensures (search rules);
    }

pub returns-clause-fed : goal.returns-clause-fed
returns-clause-fed g c =
    comes_last g.I.Input.left g.G.Gate.may_answer c.args.started.items (into_iter_items c.loop-thread.thread-iterator) c.loop-thread.fed.items c.loop-thread.invariant.comes (search rules)
