use Rattle.std.proofs.Common.{ap, ◌∙◌}
use Rattle.std.proofs.Math.Seq.{map-set_same}
use Rattle.rankfeed.specs.Rings.{feed_ring}
use Rattle.session_tests.proofs.sessions.put_at.Goals as goal

pub returns : goal.returns
returns c = map-set_same feed_ring _ _ _ c.index_mut.result.now (c.try_put.ensures.name ∙ ap feed_ring c.index_mut.ensures.value)
