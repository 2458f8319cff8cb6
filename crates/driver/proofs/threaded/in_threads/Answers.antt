-- The scope's closure asks for what the function asks for.
use denote.Param.Send.{sendable}
use Rattle.driver.proofs.threaded.in_threads.Goals as goal

pub scoped-requires : goal.scoped-requires
scoped-requires g c = record {
  at = λ a. (c.requires.one_a_source, (c.requires.fresh, (c.requires.nothing_put, (c.requires.none_started, (c.requires.room, (c.requires.nothing_fed, (c.requires.room_behind, (search sendable, search sendable, search sendable))))))));
}
