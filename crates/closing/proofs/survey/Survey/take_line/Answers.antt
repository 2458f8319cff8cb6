-- A line is that of a call or of a report.
use Rattle.std.proofs.Common.{◌≡◌, ◌∙◌, Some}
use Rattle.journals.specs.Lines.{Line}
use Rattle.journals.specs.Taking.{word_at}
use Rattle.journals.specs.declared.word.Word.TheVariants.{Call, Report}
use Rattle.closing.proofs.SurveyLemmas.{call_line, fields_there, line_keeps, report_keeps, report_there, word_there}
use Rattle.closing.proofs.survey.Survey.take_line.Goals as goal

pub returns-in_ok-take_call-in-Some-Call-clause-takes : goal.returns-in_ok-take_call-in-Some-Call-clause-takes
returns-in_ok-take_call-in-Some-Call-clause-takes c before names it there at is =
    let lines = c.args.lines.now in
    let place = c.args.line in
    let word = c.in-Some-Call.word in
    let fields = c.fields-fields.result.now in
    let w : word_at lines place ≡ Some (Call word) = cc (c.in-Some-Call.ensures, c.in-Some-Call.field-0-is) in
    let line : Line = record { word = Call word; fields = fields } in
    line_keeps before names it there line c.args.self.now c.take_call.new.self c.take_call.new.comms
    (call_line there word fields (word_there lines place there (Call word) at w) (c.fields-fields.ensures ∙ fields_there lines place there at))
    (c.in_ok-take_call-in-Some-Call.ensures.takes before names it is)

pub returns-in_ok-take_report-in-Some-Report-clause-takes : goal.returns-in_ok-take_report-in-Some-Report-clause-takes
returns-in_ok-take_report-in-Some-Report-clause-takes c before names it there at is =
    let lines = c.args.lines.now in
    let place = c.args.line in
    let word = c.in-Some-Report.word in
    let fields = c.fields-fields.result.now in
    let w : word_at lines place ≡ Some (Report word) = cc (c.in-Some-Report.ensures, c.in-Some-Report.field-0-is) in
    let line : Line = record { word = Report word; fields = fields } in
    line_keeps before names it there line c.args.self.now c.take_report.new.self c.take_report.new.comms
    (report_there there word fields (word_there lines place there (Report word) at w) (c.fields-fields.ensures ∙ fields_there lines place there at))
    (report_keeps before names it word fields c.args.self.now c.take_report.new.self c.take_report.new.comms (c.in_ok-take_report-in-Some-Report.ensures.takes before names it is))
