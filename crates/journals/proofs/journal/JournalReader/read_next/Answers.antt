-- The next line, as far as the lines to come say it.
use Rattle.std.proofs.Common.{◌-◌, sym, subst, take, drop, List, ℕ}
use Rattle.journals.specs.Inputs.{text_left}
use Rattle.journals.specs.inner.Knows.{owner_of}
use Rattle.journals.specs.inner.Reader.{coming, ComesNext, NoneComes}
use Rattle.journals.specs.inner.JournalAnswers.{lines_to_come, GoesOn}
use Rattle.journals.proofs.JournalLemmas.{answers_end, answers_found, next_taken, next_wrong}
use Rattle.journals.proofs.journal.JournalReader.read_next.Goals as goal

pub returns-in-Ok-clause-lines : goal.returns-in-Ok-clause-lines
returns-in-Ok-clause-lines g c =
    let found = rw c.in-Ok-Some.field-0-is at c.in-Ok-Some.ensures.lines in
    let next : ComesNext (coming c.args.window.now (text_left g.I.Input.left c.args.text.now)) (take (c.in-Ok-Some.count - 1) c.find_line.new.window) (coming (drop c.in-Ok-Some.count c.find_line.new.window) (text_left g.I.Input.left c.find_line.new.text)) = found in
    subst (λ (held : List ℕ). GoesOn (lines_to_come (owner_of c.args.self.now.known) c.args.self.now.lines (coming c.args.window.now (text_left g.I.Input.left c.args.text.now))) (lines_to_come (owner_of c.args.self.now.known) c.take_line.new.self.lines (coming held (text_left g.I.Input.left c.find_line.new.text)))) (sym c.in-Ok.ensures.window)
    (next_taken (owner_of c.args.self.now.known) c.args.self.now.number c.args.self.now.lines c.take_line.new.self.lines (take (c.in-Ok-Some.count - 1) c.find_line.new.window) (coming c.args.window.now (text_left g.I.Input.left c.args.text.now)) (coming (drop c.in-Ok-Some.count c.find_line.new.window) (text_left g.I.Input.left c.find_line.new.text)) next c.in-Ok.ensures.takes)

pub returns-in-Err-take_line-clause-lines : goal.returns-in-Err-take_line-clause-lines
returns-in-Err-take_line-clause-lines g c =
    let found = rw c.in-Ok-Some.field-0-is at c.in-Ok-Some.ensures.lines in
    let next : ComesNext (coming c.args.window.now (text_left g.I.Input.left c.args.text.now)) (take (c.in-Ok-Some.count - 1) c.find_line.new.window) (coming (drop c.in-Ok-Some.count c.find_line.new.window) (text_left g.I.Input.left c.find_line.new.text)) = found in
    next_wrong (owner_of c.args.self.now.known) c.args.self.now.number c.args.self.now.lines c.take_line.new.self.lines (take (c.in-Ok-Some.count - 1) c.find_line.new.window) (coming c.args.window.now (text_left g.I.Input.left c.args.text.now)) (coming (drop c.in-Ok-Some.count c.find_line.new.window) (text_left g.I.Input.left c.find_line.new.text)) c.in-Err-take_line.error c.requires.number next c.in-Err-take_line.ensures.takes

pub returns-in-Ok-None-clause-lines : goal.returns-in-Ok-None-clause-lines
returns-in-Ok-None-clause-lines g c =
    let found = rw c.in-Ok-None.field-0-is at c.in-Ok-None.ensures.lines in
    let none : NoneComes (coming c.args.window.now (text_left g.I.Input.left c.args.text.now)) = found in
    answers_end (owner_of c.args.self.now.known) c.args.self.now.lines (coming c.args.window.now (text_left g.I.Input.left c.args.text.now)) none

pub returns-in-Err-clause-lines : goal.returns-in-Err-clause-lines
returns-in-Err-clause-lines g c =
    answers_found (owner_of c.args.self.now.known) c.args.self.now.lines c.args.self.now.number (coming c.args.window.now (text_left g.I.Input.left c.args.text.now)) c.find_line.new.window (text_left g.I.Input.left c.find_line.new.text) c.in-Err.error c.requires.number c.in-Err.ensures.lines
