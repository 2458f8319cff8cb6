use Rattle.watches.specs.Publishers.{published_by}
use Rattle.watches.specs.Watches.{seen_by}
use Rattle.watches.proofs.PassedLemmas.{last_passed}
use Rattle.gather.proofs.collector.Collector.published_all_seen.Goals as goal

pub returns-clause-passed : goal.returns-clause-passed
returns-clause-passed c =
    let kept = c.args.self.now.ledger in
    last_passed kept.reading kept.groups kept.recording (seen_by c.args.watch.now) (published_by c.args.self.now.publisher) c.published_all_seen.ensures.seen c.args.self.now.passed
