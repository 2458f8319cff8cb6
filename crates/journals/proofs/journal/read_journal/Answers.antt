-- The first line, and what the lines after it say.
use Rattle.std.proofs.Common.{◌≡◌, ◌-◌, ℕ, List, [], take, drop, false, Ok, Err, option_map, subst}
use Rattle.std.proofs.lemmas.Result.{err_from_is_err_and}
use Rattle.std.specs.Option.{option_copied}
use Rattle.std.specs.Io.KnownBytes.{prepend_known}
use Rattle.journals.specs.Text.{is_too_long}
use Rattle.journals.specs.Lines.{Line}
use Rattle.journals.specs.Journal.{unless_moved_wrongly}
use Rattle.journals.specs.Header.{heading_of}
use Rattle.journals.specs.Inputs.{text_left}
use Rattle.journals.specs.inner.Knows.{owner_of}
use Rattle.journals.specs.inner.Reader.{IsLine, coming, ComesNext}
use Rattle.journals.specs.JournalAnswers.{heading_in, FailsFrom}
use Rattle.journals.specs.inner.JournalAnswers.{HeadsJournal, lines_to_come, AnswersComing, Passes}
use Rattle.journals.specs.declared.journal.Journal.{Journal}
use Rattle.journals.proofs.JournalLemmas.{held_short, answers_memory, answers_begun, answers_wrong, answers_all}
use Rattle.journals.proofs.PassLemmas.{cut_later}
use Rattle.journals.proofs.journal.read_journal.Goals as goal

pub returns-in_err-known-clause-journal : goal.returns-in_err-known-clause-journal
returns-in_err-known-clause-journal g c =
    let p = err_from_is_err_and c.from_residual.result c.from_residual.ensures.1 in
    rw (p.1, p.2) (answers_memory c.args.rank (option_map heading_in (option_copied c.args.first)) (text_left g.I.Input.left c.args.text.now))

pub returns-in_err-known-clause-cut : goal.returns-in_err-known-clause-cut
returns-in_err-known-clause-cut g c =
    let p = err_from_is_err_and c.from_residual.result c.from_residual.ensures.1 in
    rw (p.1, p.2) tt

pub returns-in-Ok-read_lines-clause-journal : goal.returns-in-Ok-read_lines-clause-journal
returns-in-Ok-read_lines-clause-journal g c =
    let found = rw c.in-Ok-Some.field-0-is at c.in-Ok-Some.ensures.lines in
    let held = rw c.in-Ok-Some.field-0-is at c.in-Ok-Some.ensures.held in
    let is_line : IsLine c.find_line.new.window c.in-Ok-Some.count = held in
    let next : ComesNext (coming [] (text_left g.I.Input.left c.args.text.now)) (take (c.in-Ok-Some.count - 1) c.find_line.new.window) (coming (drop c.in-Ok-Some.count c.find_line.new.window) (text_left g.I.Input.left c.find_line.new.text)) = subst (λ (w : List ℕ). ComesNext (coming w (text_left g.I.Input.left c.args.text.now)) (take (c.in-Ok-Some.count - 1) c.find_line.new.window) (coming (drop c.in-Ok-Some.count c.find_line.new.window) (text_left g.I.Input.left c.find_line.new.text))) c.new-window.ensures found in
    let short : is_too_long (take (c.in-Ok-Some.count - 1) c.find_line.new.window) ≡ false = held_short c.find_line.new.window c.in-Ok-Some.count is_line.some is_line.within is_line.short in
    let heads : HeadsJournal (option_map heading_in (option_copied c.args.first)) (heading_of c.args.rank (take (c.in-Ok-Some.count - 1) c.find_line.new.window)) (Ok c.in-Ok.header) = subst (λ (text : List ℕ). HeadsJournal (option_map heading_in (option_copied c.args.first)) (heading_of c.args.rank text) (Ok c.in-Ok.header)) c.held_line.ensures.line c.in-Ok.ensures in
    let answers : AnswersComing (option_map unless_moved_wrongly (lines_to_come (record { ranks = c.in-Ok.header.ranks; rank = c.args.rank }) [] (coming (drop c.in-Ok-Some.count c.find_line.new.window) (text_left g.I.Input.left c.find_line.new.text)))) (Ok c.in-Ok-read_lines.lines) = answers_begun (owner_of c.in_ok-known.known) (record { ranks = c.in-Ok.header.ranks; rank = c.args.rank }) c.lines.result c.drop_front.new.self (drop c.in-Ok-Some.count c.find_line.new.window) (text_left g.I.Input.left c.find_line.new.text) (Ok c.in-Ok-read_lines.lines) c.in_ok-known.ensures.owner c.lines.ensures c.drop_front.ensures c.in-Ok-read_lines.ensures.lines in
    answers_all c.args.rank (option_map heading_in (option_copied c.args.first)) (text_left g.I.Input.left c.args.text.now) (take (c.in-Ok-Some.count - 1) c.find_line.new.window) (coming (drop c.in-Ok-Some.count c.find_line.new.window) (text_left g.I.Input.left c.find_line.new.text)) c.in-Ok.header c.in-Ok-read_lines.lines next short heads answers

pub returns-in-Err-read_lines-clause-journal : goal.returns-in-Err-read_lines-clause-journal
returns-in-Err-read_lines-clause-journal g c =
    let found = rw c.in-Ok-Some.field-0-is at c.in-Ok-Some.ensures.lines in
    let held = rw c.in-Ok-Some.field-0-is at c.in-Ok-Some.ensures.held in
    let is_line : IsLine c.find_line.new.window c.in-Ok-Some.count = held in
    let next : ComesNext (coming [] (text_left g.I.Input.left c.args.text.now)) (take (c.in-Ok-Some.count - 1) c.find_line.new.window) (coming (drop c.in-Ok-Some.count c.find_line.new.window) (text_left g.I.Input.left c.find_line.new.text)) = subst (λ (w : List ℕ). ComesNext (coming w (text_left g.I.Input.left c.args.text.now)) (take (c.in-Ok-Some.count - 1) c.find_line.new.window) (coming (drop c.in-Ok-Some.count c.find_line.new.window) (text_left g.I.Input.left c.find_line.new.text))) c.new-window.ensures found in
    let short : is_too_long (take (c.in-Ok-Some.count - 1) c.find_line.new.window) ≡ false = held_short c.find_line.new.window c.in-Ok-Some.count is_line.some is_line.within is_line.short in
    let heads : HeadsJournal (option_map heading_in (option_copied c.args.first)) (heading_of c.args.rank (take (c.in-Ok-Some.count - 1) c.find_line.new.window)) (Ok c.in-Ok.header) = subst (λ (text : List ℕ). HeadsJournal (option_map heading_in (option_copied c.args.first)) (heading_of c.args.rank text) (Ok c.in-Ok.header)) c.held_line.ensures.line c.in-Ok.ensures in
    let answers : AnswersComing (option_map unless_moved_wrongly (lines_to_come (record { ranks = c.in-Ok.header.ranks; rank = c.args.rank }) [] (coming (drop c.in-Ok-Some.count c.find_line.new.window) (text_left g.I.Input.left c.find_line.new.text)))) (Err c.in-Err-read_lines.error) = answers_begun (owner_of c.in_ok-known.known) (record { ranks = c.in-Ok.header.ranks; rank = c.args.rank }) c.lines.result c.drop_front.new.self (drop c.in-Ok-Some.count c.find_line.new.window) (text_left g.I.Input.left c.find_line.new.text) (Err c.in-Err-read_lines.error) c.in_ok-known.ensures.owner c.lines.ensures c.drop_front.ensures c.in-Err-read_lines.ensures.lines in
    answers_wrong c.args.rank (option_map heading_in (option_copied c.args.first)) (text_left g.I.Input.left c.args.text.now) (take (c.in-Ok-Some.count - 1) c.find_line.new.window) (coming (drop c.in-Ok-Some.count c.find_line.new.window) (text_left g.I.Input.left c.find_line.new.text)) c.in-Ok.header c.in-Err-read_lines.error next short heads answers

pub returns-in-Err-read_lines-clause-cut : goal.returns-in-Err-read_lines-clause-cut
returns-in-Err-read_lines-clause-cut g c =
    let found = rw c.in-Ok-Some.field-0-is at c.in-Ok-Some.ensures.passes in
    let passes : Passes (prepend_known [] (text_left g.I.Input.left c.args.text.now)) (prepend_known (drop c.in-Ok-Some.count c.find_line.new.window) (text_left g.I.Input.left c.find_line.new.text)) 1 = subst (λ (w : List ℕ). Passes (prepend_known w (text_left g.I.Input.left c.args.text.now)) (prepend_known (drop c.in-Ok-Some.count c.find_line.new.window) (text_left g.I.Input.left c.find_line.new.text)) 1) c.new-window.ensures found in
    let cut : FailsFrom {X = List Line} 2 (prepend_known (drop c.in-Ok-Some.count c.find_line.new.window) (text_left g.I.Input.left c.find_line.new.text)) (text_left g.I.Input.left c.read_lines.new.text) (Err c.in-Err-read_lines.error) = subst (λ (w : List ℕ). FailsFrom {X = List Line} 2 (prepend_known w (text_left g.I.Input.left c.find_line.new.text)) (text_left g.I.Input.left c.read_lines.new.text) (Err c.in-Err-read_lines.error)) c.drop_front.ensures c.in-Err-read_lines.ensures.cut in
    cut_later (List Line) Journal (text_left g.I.Input.left c.args.text.now) (prepend_known (drop c.in-Ok-Some.count c.find_line.new.window) (text_left g.I.Input.left c.find_line.new.text)) (text_left g.I.Input.left c.read_lines.new.text) c.in-Err-read_lines.error passes cut
