-- The feed is still the same one.
use Rattle.std.proofs.Common.{◌≡◌}
use Rattle.rankfeed.specs.Rings.{feed_ring}
use Rattle.session_tests.proofs.sessions.put_all.Given as goal

abbrev pub invariant-loop-line : goal.invariant-loop-line
invariant-loop-line g l = feed_ring l.feed ≡ feed_ring l.fn.feed
