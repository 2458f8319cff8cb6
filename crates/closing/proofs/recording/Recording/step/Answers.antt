-- What is kept, and what callers see of it, after the next entry of a rank.
use Rattle.closing.proofs.RecordedLemmas.{seen_of, step_of}
use Rattle.closing.proofs.recording.Recording.step.Goals as goal

pub invariant_of-self : goal.invariant_of-self
invariant_of-self c =
    (step_of c.args.rank c.self.inside.ranks c.deref.result.now c.self.inside.journals.items c.self.inside.choice c.self.inside.run c.take_entry.new.run
    c.self.inside.walks.items c.take_entry.new.walks.items c.deref.ensures.value c.self.invariant c.in-Ok.ensures).is

pub returns-in-Ok-clause-same : goal.returns-in-Ok-clause-same
returns-in-Ok-clause-same c =
    (seen_of c.args.rank c.self.inside.ranks c.deref.result.now c.self.inside.journals.items c.self.inside.choice c.self.inside.run c.take_entry.new.run
    c.self.inside.walks.items c.take_entry.new.walks.items c.args.self.now c.deref.ensures.value c.self.view_is c.self.invariant c.in-Ok.ensures).same

pub returns-in-Ok-clause-handed : goal.returns-in-Ok-clause-handed
returns-in-Ok-clause-handed c =
    (seen_of c.args.rank c.self.inside.ranks c.deref.result.now c.self.inside.journals.items c.self.inside.choice c.self.inside.run c.take_entry.new.run
    c.self.inside.walks.items c.take_entry.new.walks.items c.args.self.now c.deref.ensures.value c.self.view_is c.self.invariant c.in-Ok.ensures).handed

pub returns-in-Ok-clause-made : goal.returns-in-Ok-clause-made
returns-in-Ok-clause-made c =
    (seen_of c.args.rank c.self.inside.ranks c.deref.result.now c.self.inside.journals.items c.self.inside.choice c.self.inside.run c.take_entry.new.run
    c.self.inside.walks.items c.take_entry.new.walks.items c.args.self.now c.deref.ensures.value c.self.view_is c.self.invariant c.in-Ok.ensures).made

pub returns-in-Ok-clause-before : goal.returns-in-Ok-clause-before
returns-in-Ok-clause-before c =
    (seen_of c.args.rank c.self.inside.ranks c.deref.result.now c.self.inside.journals.items c.self.inside.choice c.self.inside.run c.take_entry.new.run
    c.self.inside.walks.items c.take_entry.new.walks.items c.args.self.now c.deref.ensures.value c.self.view_is c.self.invariant c.in-Ok.ensures).before

pub returns-in-Ok-clause-left : goal.returns-in-Ok-clause-left
returns-in-Ok-clause-left c =
    (seen_of c.args.rank c.self.inside.ranks c.deref.result.now c.self.inside.journals.items c.self.inside.choice c.self.inside.run c.take_entry.new.run
    c.self.inside.walks.items c.take_entry.new.walks.items c.args.self.now c.deref.ensures.value c.self.view_is c.self.invariant c.in-Ok.ensures).left

pub returns-in-Ok-clause-next : goal.returns-in-Ok-clause-next
returns-in-Ok-clause-next c =
    (seen_of c.args.rank c.self.inside.ranks c.deref.result.now c.self.inside.journals.items c.self.inside.choice c.self.inside.run c.take_entry.new.run
    c.self.inside.walks.items c.take_entry.new.walks.items c.args.self.now c.deref.ensures.value c.self.view_is c.self.invariant c.in-Ok.ensures).next

pub returns-in-Ok-clause-part : goal.returns-in-Ok-clause-part
returns-in-Ok-clause-part c =
    (seen_of c.args.rank c.self.inside.ranks c.deref.result.now c.self.inside.journals.items c.self.inside.choice c.self.inside.run c.take_entry.new.run
    c.self.inside.walks.items c.take_entry.new.walks.items c.args.self.now c.deref.ensures.value c.self.view_is c.self.invariant c.in-Ok.ensures).part
