use Rattle.std.proofs.Common.{◌≡◌, ℕ, List, length, flat_map, map, sym, subst, arith}
use Rattle.std.specs.List.{range_with_len}
use Rattle.findings.proofs.FindingLemmas.{listed_next}
use Rattle.waitgraph.specs.Pending.{view_of}
use Rattle.report.specs.PendingReport.{lines_of_rank}
use Rattle.report.specs.inner.Printing.{Prints}
use Rattle.report.proofs.PrintingLemmas.{prints_none, prints_more}
use Rattle.report.proofs.write.pending.write_ranks.Goals as goal

pub loop-rank-init : goal.loop-rank-init
loop-rank-init g c = prints_none g.O.Output.written g.O.Output.failures c.args.out.now c.args.printer.now

pub loop-rank-preserved : goal.loop-rank-preserved
loop-rank-preserved g c =
    let run = c.args.run.now in
    let lines = lines_of_rank run.analyser.now.reading run.analyser.now.groups run.analyser.now.recording (map view_of run.pending.now) run.graph.now.at_open in
    subst (λ (text : List ℕ). Prints g.O.Output.written g.O.Output.failures c.args.out.now c.args.printer.now c.write_rank.new.out c.write_rank.new.printer text)
    (sym (listed_next lines 0 c.loop-rank.rank c.loop-rank.rank (omega arith)))
    (prints_more g.O.Output.written g.O.Output.failures c.args.out.now c.loop-rank.out c.write_rank.new.out c.args.printer.now c.loop-rank.printer c.write_rank.new.printer
    (flat_map lines (range_with_len 0 c.loop-rank.rank)) (lines c.loop-rank.rank) c.loop-rank.invariant c.write_rank.ensures)

pub returns : goal.returns
returns g c =
    let run = c.args.run.now in
    let lines = lines_of_rank run.analyser.now.reading run.analyser.now.groups run.analyser.now.recording (map view_of run.pending.now) run.graph.now.at_open in
    let whole : c.loop-rank.rank ≡ length run.analyser.now.recording = omega (arith, c.loop-rank-test.false, c.loop-rank.auto.rank-end, c.ranks_of-rank-end.ensures) in
    subst (λ (n : ℕ). Prints g.O.Output.written g.O.Output.failures c.args.out.now c.args.printer.now c.loop-rank.out c.loop-rank.printer (flat_map lines (range_with_len 0 n))) whole c.loop-rank.invariant
