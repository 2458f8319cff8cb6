-- What is put on the page is printed.
use Rattle.std.proofs.Common.{ℕ, ◌++◌, ◌∷◌, ap, ◌∙◌}
use Rattle.std.specs.Fmt.{decimal}
use Rattle.mpicall.specs.Spelling.{space}
use Rattle.report.proofs.PrintingLemmas.{prints_pushed}
use Rattle.report.proofs.write.text.write_rank_field.Goals as goal

pub returns : goal.returns
returns g c =
    prints_pushed g.O.Output.written g.O.Output.failures c.args.out.now c.make_room.new.out c.args.printer.now c.make_room.new.self _ _ c.make_room.ensures.keeps
    (c.push_number.ensures.value ∙ ap (λ (n : ℕ). c.make_room.new.self.page ++ space ∷ decimal n) c.from.ensures)
