use Rattle.std.proofs.Common.{◌≡◌, ℕ, List, ◌++◌, flat_map, map, subst, ap, ◌∙◌}
use Rattle.moves.specs.declared.need.Need.{Need}
use Rattle.waitgraph.specs.Pending.{view_of}
use Rattle.waitgraph.specs.PendingNeeds.{awaited_in}
use Rattle.waitgraph.specs.declared.awaited.Awaited.{Awaited}
use Rattle.report.specs.PendingReport.{pending_of, awaited_line}
use Rattle.report.specs.TextReport.{unmet_line, rank_lines}
use Rattle.report.specs.inner.Printing.{Prints}
use Rattle.report.proofs.PrintingLemmas.{prints_more}
use Rattle.report.proofs.write.pending.write_rank.Goals as goal

pub returns : goal.returns
returns g c =
    let run = c.args.run.now in
    let reading = run.analyser.now.reading in
    let groups = run.analyser.now.groups in
    let recording = run.analyser.now.recording in
    let call = pending_of (map view_of run.pending.now) c.args.rank in
    let needs = flat_map (unmet_line reading groups recording c.args.rank) c.unmet.result.now in
    let awaits = flat_map (awaited_line reading groups recording call c.args.rank) c.at_open.result.now in
    let first : needs ≡ rank_lines reading groups recording c.args.rank = ap (λ (list : List Need). flat_map (unmet_line reading groups recording c.args.rank) list) (c.unmet.ensures ∙ c.requires.unmet c.args.rank) in
    let next : awaits ≡ flat_map (awaited_line reading groups recording call c.args.rank) (awaited_in run.graph.now.at_open c.args.rank) = ap (λ (list : List Awaited). flat_map (awaited_line reading groups recording call c.args.rank) list) c.at_open.ensures in
    subst (λ (text : List ℕ). Prints g.O.Output.written g.O.Output.failures c.args.out.now c.args.printer.now c.write_opened.new.out c.write_opened.new.printer text)
    (ap (λ (text : List ℕ). text ++ awaits) first ∙ ap (λ (text : List ℕ). rank_lines reading groups recording c.args.rank ++ text) next)
    (prints_more g.O.Output.written g.O.Output.failures c.args.out.now c.write_needs.new.out c.write_opened.new.out c.args.printer.now c.write_needs.new.printer c.write_opened.new.printer
    needs awaits c.write_needs.ensures c.write_opened.ensures)
