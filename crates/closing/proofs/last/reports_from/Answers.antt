-- Each report is noted in its turn.
use Rattle.std.proofs.Common.{◌≡◌, ◌+◌, ◌≤◌, arith, subst, sym, refl, Some, None, length, drop}
use Rattle.journals.specs.Taking.{word_at}
use Rattle.closing.specs.inner.Noted.{SaysWith, report_if, reports_in}
use Rattle.closing.specs.declared.last.Reports.{Reports}
use Rattle.closing.proofs.LastLemmas.{count_more, none_there, none_past, report_there, says_end, says_last, says_more}
use Rattle.closing.proofs.last.reports_from.Goals as goal

pub loop-line-preserved : goal.loop-line-preserved
loop-line-preserved c =
    let lines = c.args.lines.now in
    let n = c.loop-line.line in
    let all = reports_in (drop c.args.start lines) in
    let rest = reports_in (drop (n + 1) lines) in
    let e : Some c.in-Some.word ≡ report_if (word_at lines n) = cc (c.in-Some.ensures) in
    let w = report_there lines c.in-Some.word n e in
    let P : Reports → Type 0 = λ it. SaysWith lines all rest it in
    let says = subst P (sym c.note.ensures) (says_more lines all c.loop-line.reports c.in-Some.word n w c.loop-line.invariant.says) in
    record {
      says = says_end lines all rest c.note.new.self (n + 1) says;
      end = refl;
      all = count_more lines c.in-Some.word n (c.args.start + length all) w c.loop-line.invariant.all;
    }

pub returns-in-None : goal.returns-in-None
returns-in-None c =
    λ places.
    let lines = c.args.lines.now in
    let n = c.loop-line.line in
    let e : None ≡ report_if (word_at lines n) = cc (c.in-None.ensures) in
    says_last lines (reports_in (drop c.args.start lines)) c.loop-line.reports c.args.start n c.loop-line.invariant.says c.loop-line.invariant.end c.loop-line.invariant.all (none_there lines n e)

pub returns : goal.returns
returns c =
    λ places.
    let lines = c.args.lines.now in
    let n = c.loop-line.line in
    let past : length lines ≤ n = omega arith in
    says_last lines (reports_in (drop c.args.start lines)) c.loop-line.reports c.args.start n c.loop-line.invariant.says c.loop-line.invariant.end c.loop-line.invariant.all (none_past lines n past)
