-- What the closure hands on may go to other threads, and is what it was asked for.
use denote.Param.Send.{sendable}
use Rattle.driver.proofs.threaded.fn.in_threads.scope+FnOnce.call_once.Goals as goal

pub scope-requires : goal.scope-requires
scope-requires g c =
    let facts = c.requires.1.1.1.1 in
    let last = facts.1.1.1.1.1.1.1 in
    (last.0, (search (sendable, last), (search (sendable, last), (facts.0, (facts.1.0, (facts.1.1.0, (facts.1.1.1.0, (facts.1.1.1.1.0, (facts.1.1.1.1.1.0, facts.1.1.1.1.1.1.0)))))))))
