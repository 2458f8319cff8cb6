-- By a search after the bytes that were searched before.
use Rattle.journals.proofs.FeedLemmas.{feed_found, feed_missing}
use Rattle.journals.proofs.line_window.feed_at.Goals as goal

pub returns-in-Some : goal.returns-in-Some
returns-in-Some c = feed_found c.args.bytes.now c.args.from c.in-Some.at c.requires.within c.requires.before c.in-Some.ensures

pub returns-in-None : goal.returns-in-None
returns-in-None c = feed_missing c.args.bytes.now c.args.from c.requires.within c.requires.before c.in-None.ensures
