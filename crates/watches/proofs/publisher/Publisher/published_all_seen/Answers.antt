use Rattle.std.proofs.Common.{rules}
use mathlib.Core.List.{IsPrefix}
use Rattle.watches.specs.Publishers.{published_by}
use Rattle.watches.specs.Watches.{seen_by}
use Rattle.watches.proofs.RisingLemmas.{last_among}
use Rattle.watches.proofs.publisher.Publisher.published_all_seen.Goals as goal

pub returns-clause-answers : goal.returns-clause-answers
returns-clause-answers c =
    let prefix : IsPrefix (seen_by c.args.watch.now) (published_by c.args.self.now) = search rules in
    last_among (seen_by c.args.watch.now) (published_by c.args.self.now) prefix
