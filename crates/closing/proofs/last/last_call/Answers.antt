-- Each line before those that were seen.
use Rattle.std.proofs.Common.{◌≡◌, ◌-◌, arith, sym, Some}
use Rattle.journals.specs.Taking.{word_at}
use Rattle.journals.specs.declared.word.Word.TheVariants.{Report}
use Rattle.closing.proofs.LastLemmas.{seen_kept, seen_none, seen_said}
use Rattle.closing.proofs.last.last_call.Goals as goal

pub loop-line-preserved-then-came_back : goal.loop-line-preserved-then-came_back
loop-line-preserved-then-came_back c =
    λ places.
    let lines = c.args.lines.now in
    let n = c.loop-line.line - 1 in
    let w : word_at lines n ≡ Some (Report c.in-Some-Report.word) = cc (c.in-Some-Report.ensures, c.in-Some-Report.field-0-is) in
    seen_kept lines c.in-Some-Report.word n c.loop-line.line c.loop-line.came_back c.args.is_outside (omega arith) w c.if-came_back.true (c.loop-line.invariant places)

pub loop-line-preserved-else-came_back : goal.loop-line-preserved-else-came_back
loop-line-preserved-else-came_back c =
    λ places.
    let lines = c.args.lines.now in
    let n = c.loop-line.line - 1 in
    let w : word_at lines n ≡ Some (Report c.in-Some-Report.word) = cc (c.in-Some-Report.ensures, c.in-Some-Report.field-0-is) in
    seen_said lines c.in-Some-Report.word n c.loop-line.line c.loop-line.came_back c.args.is_outside c.says_back-came_back.result (omega arith) w c.if-came_back.false c.says_back-came_back.ensures (c.loop-line.invariant places)

pub loop-line-preserved : goal.loop-line-preserved
loop-line-preserved c =
    λ places.
    let lines = c.args.lines.now in
    let n = c.loop-line.line - 1 in
    seen_none lines n c.loop-line.line c.loop-line.came_back c.args.is_outside (omega arith) (sym c.in-None.ensures) (c.loop-line.invariant places)
