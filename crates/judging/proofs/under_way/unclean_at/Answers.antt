-- At the next rank the cut is unclean, or isn't.
use Rattle.std.proofs.Common.{◌≡◌, ◌<◌, ◌∙◌, true, length, sym, arith}
use Rattle.closing.specs.Entries.{is_window}
use Rattle.judging.specs.inner.Tables.{rows_of}
use Rattle.judging.proofs.UnderWayLemmas.{found_of, many_gathered, next_of, none_of}
use Rattle.judging.proofs.under_way.unclean_at.Goals as goal

pub returns-in-Some : goal.returns-in-Some
returns-in-Some c = λ gathered.
    let it = c.args.lists.now.recording in
    let cut : is_window it.run ≡ true = sym c.is_window.ensures ∙ c.if-not-is_window.false in
    let within : c.loop-rank.rank < length it.run = omega (arith, c.loop-rank-test.true, c.ranks_of-rank-end.ensures, many_gathered it (rows_of c.args.lists.now.table) c.args.analyser.now (gathered cut)) in
    found_of it.run it.choice c.loop-rank.rank (c.loop-rank.invariant.first gathered) c.in-Some.line within (sym c.in-Some.is ∙ c.in_ok-line.ensures.first (gathered cut) within)

pub loop-rank-preserved : goal.loop-rank-preserved
loop-rank-preserved c =
    let it = c.args.lists.now.recording in
    record {
      kept = c.in_ok-line.ensures.kept;
      first = λ gathered.
          let cut : is_window it.run ≡ true = sym c.is_window.ensures ∙ c.if-not-is_window.false in
          let within : c.loop-rank.rank < length it.run = omega (arith, c.loop-rank-test.true, c.ranks_of-rank-end.ensures, many_gathered it (rows_of c.args.lists.now.table) c.args.analyser.now (gathered cut)) in
          next_of it.run it.choice c.loop-rank.rank (c.loop-rank.invariant.first gathered) within (sym c.in_default.is ∙ c.in_ok-line.ensures.first (gathered cut) within);
    }

pub returns : goal.returns
returns c = λ gathered.
    let it = c.args.lists.now.recording in
    let cut : is_window it.run ≡ true = sym c.is_window.ensures ∙ c.if-not-is_window.false in
    none_of it.run it.choice c.loop-rank.rank (c.loop-rank.invariant.first gathered)
    (omega (arith, c.loop-rank-test.false, c.loop-rank.auto.rank-end, c.ranks_of-rank-end.ensures, many_gathered it (rows_of c.args.lists.now.table) c.args.analyser.now (gathered cut)))
