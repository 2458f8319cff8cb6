use Rattle.std.proofs.Common.{rules, ◌≡◌, Result, Ok, Err, OnErr}
use Rattle.moves.specs.Stands.{stands_of}
use Rattle.watches.specs.Stands.{shown_places}
use Rattle.watches.specs.Publishers.{published_by}
use Rattle.watches.proofs.AheadLemmas.{now_is_no_less}
use Rattle.watches.proofs.PassedLemmas.{still_passed}
use Rattle.gather.proofs.collector.Collector.publish.Goals as goal

pub invariant_of-self : goal.invariant_of-self
invariant_of-self g c =
    let kept = c.args.self.now.ledger in
    let stands : c.set.new.self.places ≡ shown_places (stands_of kept.reading kept.groups kept.recording) = search rules in record {
      collects = c.args.self.now.collects;
      passed = still_passed kept.reading kept.groups kept.recording c.publish.result c.set.new.self (published_by c.args.self.now.publisher) (published_by c.publish.new.self) stands c.publish.ensures.ok c.publish.ensures.err c.args.self.now.passed;
    }

never_refused : {A E : Type 0} {P : Type 0} (answer : Result A E) → OnErr answer P → (P → ⊥) → OnErr answer ⊥
never_refused (Ok told) refused never = tt
never_refused (Err fault) refused never = never refused

pub returns-clause-succeeds : goal.returns-clause-succeeds
returns-clause-succeeds g c =
    let kept = c.args.self.now.ledger in
    let stands : c.set.new.self.places ≡ shown_places (stands_of kept.reading kept.groups kept.recording) = search rules in
    never_refused c.publish.result c.publish.ensures.refused (now_is_no_less kept.reading kept.groups kept.recording c.set.new.self (published_by c.args.self.now.publisher) stands c.args.self.now.passed)
