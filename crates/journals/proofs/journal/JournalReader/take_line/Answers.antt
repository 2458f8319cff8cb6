-- One line that is held.
use Rattle.std.proofs.Common.{◌-◌, sym, subst, take, Err}
use Rattle.journals.specs.Lines.{line_of}
use Rattle.journals.specs.inner.Taking.{Takes, TakesLine}
use Rattle.journals.specs.inner.Knows.{Knows, owner_of}
use Rattle.journals.specs.inner.JournalAnswers.{TakesText}
use Rattle.journals.proofs.ReadLines.{taken_next, is_next}
use Rattle.journals.proofs.JournalLemmas.{take_unread, take_refused, take_taken, held_short}
use Rattle.journals.proofs.journal.JournalReader.take_line.Goals as goal

pub returns-in-Err-clause-takes : goal.returns-in-Err-clause-takes
returns-in-Err-clause-takes c =
    let takes : TakesLine (line_of (owner_of c.args.self.now.known).ranks (take (c.args.count - 1) c.args.window.now)) c.args.self.now.lines c.read.new.self (Err c.in-Err.fault) =
    subst (λ ranks. TakesLine (line_of ranks (take (c.args.count - 1) c.args.window.now)) c.args.self.now.lines c.read.new.self (Err c.in-Err.fault)) (sym c.requires.ranks)
    (subst (λ text. TakesLine (line_of c.args.self.now.ranks text) c.args.self.now.lines c.read.new.self (Err c.in-Err.fault)) c.held_line-line.ensures.line c.in-Err.ensures) in
    subst (λ error. TakesText (owner_of c.args.self.now.known) c.args.self.now.number c.args.self.now.lines c.read.new.self (take (c.args.count - 1) c.args.window.now) (Err error)) (sym c.fault_at.ensures)
    (take_unread (owner_of c.args.self.now.known) c.args.self.now.lines c.read.new.self (take (c.args.count - 1) c.args.window.now) c.args.self.now.number c.in-Err.fault (held_short c.args.window.now c.args.count c.requires.line.some c.requires.line.within c.requires.line.short) takes)

pub admit-requires-clause-next : goal.admit-requires-clause-next
admit-requires-clause-next c =
    let takes : Takes (line_of (owner_of c.args.self.now.known).ranks (take (c.args.count - 1) c.args.window.now)) c.args.self.now.lines c.read.new.self c.in-Ok.taken =
    subst (λ ranks. Takes (line_of ranks (take (c.args.count - 1) c.args.window.now)) c.args.self.now.lines c.read.new.self c.in-Ok.taken) (sym c.requires.ranks)
    (subst (λ text. Takes (line_of c.args.self.now.ranks text) c.args.self.now.lines c.read.new.self c.in-Ok.taken) c.held_line-line.ensures.line c.in-Ok.ensures) in
    is_next (owner_of c.args.self.now.known).ranks (take (c.args.count - 1) c.args.window.now) c.args.self.now.lines c.read.new.self c.in-Ok.taken takes

pub admit-requires-clause-knows : goal.admit-requires-clause-knows
admit-requires-clause-knows c =
    let takes : Takes (line_of (owner_of c.args.self.now.known).ranks (take (c.args.count - 1) c.args.window.now)) c.args.self.now.lines c.read.new.self c.in-Ok.taken =
    subst (λ ranks. Takes (line_of ranks (take (c.args.count - 1) c.args.window.now)) c.args.self.now.lines c.read.new.self c.in-Ok.taken) (sym c.requires.ranks)
    (subst (λ text. Takes (line_of c.args.self.now.ranks text) c.args.self.now.lines c.read.new.self c.in-Ok.taken) c.held_line-line.ensures.line c.in-Ok.ensures) in
    subst (λ lines. Knows lines c.args.self.now.known) (sym (taken_next (owner_of c.args.self.now.known).ranks (take (c.args.count - 1) c.args.window.now) c.args.self.now.lines c.read.new.self c.in-Ok.taken takes).0) c.requires.knows

pub returns-in-Err-admit-clause-takes : goal.returns-in-Err-admit-clause-takes
returns-in-Err-admit-clause-takes c =
    let takes : Takes (line_of (owner_of c.args.self.now.known).ranks (take (c.args.count - 1) c.args.window.now)) c.args.self.now.lines c.read.new.self c.in-Ok.taken =
    subst (λ ranks. Takes (line_of ranks (take (c.args.count - 1) c.args.window.now)) c.args.self.now.lines c.read.new.self c.in-Ok.taken) (sym c.requires.ranks)
    (subst (λ text. Takes (line_of c.args.self.now.ranks text) c.args.self.now.lines c.read.new.self c.in-Ok.taken) c.held_line-line.ensures.line c.in-Ok.ensures) in
    subst (λ error. TakesText (owner_of c.args.self.now.known) c.args.self.now.number c.args.self.now.lines c.read.new.self (take (c.args.count - 1) c.args.window.now) (Err error)) (sym c.fault_at-in-Err-admit.ensures)
    (take_refused (owner_of c.args.self.now.known) c.args.self.now.lines c.read.new.self (take (c.args.count - 1) c.args.window.now) c.args.self.now.number c.in-Ok.taken c.in-Err-admit.fault (held_short c.args.window.now c.args.count c.requires.line.some c.requires.line.within c.requires.line.short) takes c.in-Err-admit.ensures.answer)

pub returns-clause-takes : goal.returns-clause-takes
returns-clause-takes c =
    let takes : Takes (line_of (owner_of c.args.self.now.known).ranks (take (c.args.count - 1) c.args.window.now)) c.args.self.now.lines c.read.new.self c.in-Ok.taken =
    subst (λ ranks. Takes (line_of ranks (take (c.args.count - 1) c.args.window.now)) c.args.self.now.lines c.read.new.self c.in-Ok.taken) (sym c.requires.ranks)
    (subst (λ text. Takes (line_of c.args.self.now.ranks text) c.args.self.now.lines c.read.new.self c.in-Ok.taken) c.held_line-line.ensures.line c.in-Ok.ensures) in
    take_taken (owner_of c.args.self.now.known) c.args.self.now.lines c.read.new.self (take (c.args.count - 1) c.args.window.now) c.args.self.now.number c.in-Ok.taken (held_short c.args.window.now c.args.count c.requires.line.some c.requires.line.within c.requires.line.short) takes c.in_default.ensures.answer
