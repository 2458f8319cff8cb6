-- By the choice: without sinks an entry stands for what it does.
use Rattle.journals.specs.Known.{report_of, requests_in}
use Rattle.journals.specs.declared.word.ReportWord.TheVariants as report
use Rattle.std.specs.Prelude.{Some}
use Rattle.closing.specs.Recordings.{choice_in}
use Rattle.closing.specs.inner.Views.{called_view}
use Rattle.closing.specs.inner.Walks.{spot_of}
use Rattle.closing.proofs.SunkCalls.{chose_back, never_taken, sunk_taken}
use Rattle.closing.proofs.walk.Walk.takes_sink.Goals as goal

pub returns-in-Ends-clause-taken : goal.returns-in-Ends-clause-taken
returns-in-Ends-clause-taken c = λ said placed kept handed progress at same line called breaks fine back meets fits stands is.
    never_taken said (choice_in c.args.self.now.choice) placed handed progress c.args.self.now c.in-Ends.is stands is

pub returns-in-Sinks-clause-taken : goal.returns-in-Sinks-clause-taken
returns-in-Sinks-clause-taken c = λ said placed kept handed progress at same line called breaks fine back meets fits stands is.
    sunk_taken said (choice_in c.args.self.now.choice) placed handed progress (called_view c.args.it.now) c.args.at.now.came_back c.takes_sink_by.result c.args.self.now c.takes_sink_by.new.self
    called at.came_back back c.in-Sinks.is fine fits stands is
    (c.takes_sink_by.ensures.takes (spot_of said (choice_in c.args.self.now.choice) placed) meets line
    (chose_back (λ line. requests_in (Some line)) (report_of report.Chose placed.entry) c.args.at.now.came_back placed.came_back at.came_back back.chose))
