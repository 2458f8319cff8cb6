-- A line that was read, or is remembered, comes after the others, whose fields stay.
use Rattle.std.proofs.Common.{◌≡◌, ◌-◌, ◌∙◌, sym, refl, arith, subst, length, List, Ok, Err, Option}
use Rattle.journals.specs.Lines.{Line, line_of}
use Rattle.journals.specs.inner.Packing.{lines_in}
use Rattle.journals.specs.inner.Remembered.{IsHeldLine, AreHeld}
use Rattle.journals.specs.inner.Taking.{Grows, ReadsLine, TakesLine}
use Rattle.journals.specs.declared.lines.PackedLine.{PackedLine}
use Rattle.journals.specs.declared.remembered.KnownLine.{KnownLine}
use Rattle.journals.proofs.PackingLemmas.{lines_stay, fields_stay, read_grows, none_taken}
use Rattle.journals.proofs.RememberedLemmas.{known_stay, read_held, puts_more, takes_held}
use Rattle.journals.proofs.lines.Lines.read.Goals as goal

pub invariant_of-self : goal.invariant_of-self
invariant_of-self c =
    let fields = c.self.inside.fields.items in
    let held : IsHeldLine fields c.args.ranks c.args.line.now c.in-Some.packed = c.in-Some.ensures.held fields c.self.invariant.1 in (
      puts_more fields c.self.inside.lines.items c.push.new.lines.items c.in-Some.packed c.push.result c.push.ensures c.self.invariant.0 held.within,
      subst (λ (known : List (Option KnownLine)). AreHeld fields known) (sym c.find.ensures.known) c.self.invariant.1,
    )

pub returns-in-Some : goal.returns-in-Some
returns-in-Some c =
    let said = line_of c.args.ranks c.args.line.now in
    let fields = c.self.inside.fields.items in
    let held : IsHeldLine fields c.args.ranks c.args.line.now c.in-Some.packed = c.in-Some.ensures.held fields c.self.invariant.1 in
    subst (λ (old : List Line). TakesLine said old (lines_in fields c.push.new.lines.items) c.push.result) c.self.view_is
    (takes_held said fields c.self.inside.lines.items c.push.new.lines.items c.in-Some.packed c.push.result held.says c.push.ensures)

pub returns-in-Err : goal.returns-in-Err
returns-in-Err c =
    let said = line_of c.args.ranks c.args.line.now in
    let read : ReadsLine said c.self.inside.fields.items c.read_line.new.into.items (Err c.in-Err.fault) = c.in-Err.ensures in
    subst (λ (old : List Line). TakesLine said old (lines_in c.read_line.new.into.items c.self.inside.lines.items) (Err c.in-Err.fault)) c.self.view_is
    (none_taken said c.self.inside.fields.items c.read_line.new.into.items c.self.inside.lines.items c.in-Err.fault read c.self.invariant.0)

pub returns-then-start-ge-MOST : goal.returns-then-start-ge-MOST
returns-then-start-ge-MOST c =
    let said = line_of c.args.ranks c.args.line.now in
    let read : ReadsLine said c.self.inside.fields.items c.read_line.new.into.items (Ok c.in-Ok.word) = c.in-Ok.ensures in
    lines_stay c.self.inside.fields.items c.read_line.new.into.items c.self.inside.lines.items (read_grows said _ _ (Ok c.in-Ok.word) read) c.self.invariant.0 ∙ c.self.view_is

pub invariant_of-self-2 : goal.invariant_of-self-2
invariant_of-self-2 c =
    let said = line_of c.args.ranks c.args.line.now in
    let old = c.self.inside.fields.items in
    let new = c.read_line.new.into.items in
    let read : ReadsLine said old new (Ok c.in-Ok.word) = c.in-Ok.ensures in
    let more : Grows old new = read_grows said old new (Ok c.in-Ok.word) read in
    let start : c.len-start.result ≡ length old = omega (arith, c.self.inside.fields.ok.0, c.len-start.ensures) in
    let count : c.saturating_sub-count.result ≡ length new - length old = omega (arith, c.read_line.new.into.ok.0, start, c.len.ensures, c.saturating_sub-count.ensures) in
    let packed : PackedLine = record { start = c.len-start.result; count = c.saturating_sub-count.result; word = c.in-Ok.word } in
    let held = read_held c.args.ranks c.args.line.now said old new packed c.in-Ok.word read start count refl in
    let known = subst (λ (known : List (Option KnownLine)). AreHeld old known) (sym c.find.ensures.known) c.self.invariant.1 in (
      puts_more new c.self.inside.lines.items c.push-2.new.lines.items packed c.push-2.result c.push-2.ensures (fields_stay old new c.self.inside.lines.items more c.self.invariant.0) held.0,
      c.keep.ensures new (known_stay old new c.find.new.self.known more known) (record { within = held.0; says = held.1 }),
    )

pub returns : goal.returns
returns c =
    let said = line_of c.args.ranks c.args.line.now in
    let old = c.self.inside.fields.items in
    let new = c.read_line.new.into.items in
    let read : ReadsLine said old new (Ok c.in-Ok.word) = c.in-Ok.ensures in
    let more : Grows old new = read_grows said old new (Ok c.in-Ok.word) read in
    let start : c.len-start.result ≡ length old = omega (arith, c.self.inside.fields.ok.0, c.len-start.ensures) in
    let count : c.saturating_sub-count.result ≡ length new - length old = omega (arith, c.read_line.new.into.ok.0, start, c.len.ensures, c.saturating_sub-count.ensures) in
    let packed : PackedLine = record { start = c.len-start.result; count = c.saturating_sub-count.result; word = c.in-Ok.word } in
    let held = read_held c.args.ranks c.args.line.now said old new packed c.in-Ok.word read start count refl in
    subst (λ (lines : List Line). TakesLine said lines (lines_in new c.push-2.new.lines.items) c.push-2.result)
    (lines_stay old new c.self.inside.lines.items more c.self.invariant.0 ∙ c.self.view_is)
    (takes_held said new c.self.inside.lines.items c.push-2.new.lines.items packed c.push-2.result held.1 c.push-2.ensures)
