-- The answer is that of what is kept once all feeds were drained.
use Rattle.std.proofs.Common.{List, sym, subst}
use Rattle.mpigroup.specs.Groups.{Groups}
use Rattle.moves.specs.declared.reading.Reading.{Reading}
use Rattle.rankfeed.specs.Rings.{FeedName}
use Rattle.gather.specs.Closes.{Closes}
use Rattle.gather.specs.Collectors.{kept, IsFinished}
use Rattle.gather.specs.Receipts.{AreReceiptsOf}
use Rattle.gather.proofs.collector.Collector.close.Goals as goal

pub conclude-requires : goal.conclude-requires
conclude-requires c =
    let all = c.finish_all-missing.ensures in (
      c.args.receipts.items,
      record {
        are = subst (λ (names : List FeedName). AreReceiptsOf names c.args.receipts.items) (sym all.names) c.requires;
        lowest = all.missing;
        all = all.all;
      },
    )

pub returns-clause-answer : goal.returns-clause-answer
returns-clause-answer c =
    let all = c.finish_all-missing.ensures in
    let now = c.finish_all-missing.new.self in
    let finished : IsFinished now c.args.receipts.items c.finish_all-missing.result = record {
      are = subst (λ (names : List FeedName). AreReceiptsOf names c.args.receipts.items) (sym all.names) c.requires;
      lowest = all.missing;
      all = all.all;
    } in
    subst (λ (r : Reading). Closes r (kept c.args.self).groups c.args.receipts.items c.conclude.result) all.reading
    (subst (λ (gs : Groups). Closes (kept now).reading gs c.args.receipts.items c.conclude.result) all.groups (c.conclude.ensures.answer c.args.receipts.items finished))
