use Rattle.std.proofs.Common.{ℕ, List, ap, sym, ◌∙◌}
use Rattle.rankfeed.specs.declared.item.Item.{Item}
use Rattle.watches.specs.Publishers.{published_by}
use Rattle.gather.proofs.OpenLemmas.{opened, nothing_received}
use Rattle.watches.proofs.PassedLemmas.{first_passed}
use Rattle.gather.proofs.session.Session.open.Goals as goal

pub of-requires-clause-collects : goal.of-requires-clause-collects
of-requires-clause-collects g c = opened c.args.reading c.args.head c.in-Ok.feeds.items c.in-Ok.takers.items c.in-Ok-new.ledger c.ranks-ranks.result c.in-Ok.ensures.names c.in-Ok.ensures.ranks c.ranks-ranks.ensures.value c.in-Ok.ensures.takers c.in-Ok-new.ensures

pub of-requires-clause-passed : goal.of-requires-clause-passed
of-requires-clause-passed g c = first_passed c.in-Ok-new.ledger.reading c.in-Ok-new.ledger.groups c.in-Ok-new.ledger.recording (published_by c.in_ok-publisher.publisher) c.in_ok-publisher.ensures.published

pub returns-in-Ok-new-clause-received : goal.returns-in-Ok-new-clause-received
returns-in-Ok-new-clause-received g c rank = ap (λ (f : ℕ → List Item). f rank) c.of.ensures.received ∙ nothing_received c.in-Ok.takers.items rank c.in-Ok.ensures.takers

pub returns-in-Ok-new-clause-watch : goal.returns-in-Ok-new-clause-watch
returns-in-Ok-new-clause-watch g c k d below = rw (c.of.ensures.publisher, sym c.ranks-ranks.ensures.value, c.in_ok-publisher.ensures.published) (c.in_ok-publisher.ensures.watches k d below)
