-- A trace more.
use Rattle.std.proofs.Common.{◌≡◌, ◌<◌, ◌≤◌, ◌∙◌, ℕ, Option, List, length, refl, ap, subst, arith}
use Rattle.std.specs.Io.KnownBytes.{Appends}
use Rattle.closing.specs.Entries.{Run}
use Rattle.closing.specs.Recordings.{list_at}
use Rattle.closing.specs.Texts.{trace_text}
use Rattle.judging.specs.declared.close.FileName.TheVariants.{Head, Trace}
use Rattle.judging.proofs.CloseLemmas.{unbegun_fresh, unbegun_more, traces_none, traces_more, head_differs}
use Rattle.judging.proofs.close.write_traces.Goals as goal

pub loop-rank-init : goal.loop-rank-init
loop-rank-init g c = record {
  empty = refl;
  head = refl;
  run = λ fresh read. refl;
  choice = λ fresh read. refl;
  unbegun = unbegun_fresh c.args.recording.now;
  traces = λ fresh read. traces_none (g.F.Folder.empty c.args.folder.now) (g.F.Folder.text c.args.folder.now) c.args.recording.now;
}

pub loop-rank-preserved : goal.loop-rank-preserved
loop-rank-preserved g c =
    let empty = g.F.Folder.empty in
    let text = g.F.Folder.text in
    let rank = c.loop-rank.rank in
    let old = c.args.recording.now in
    let mid = c.loop-rank.recording in
    let new = c.write_file.new.recording in
    let so_far = c.loop-rank.invariant in
    let done = c.in_ok-write_file.ensures in
    record {
      empty = done.empty ∙ so_far.empty;
      head = done.kept Head (head_differs rank) ∙ so_far.head;
      run = λ fresh read.
        let within : rank < length mid.run = omega (arith, c.loop-rank-test.true, c.ranks-rank-end.ensures.ranks, ap (λ (r : Run). length r) (so_far.run fresh read)) in
        (done.else_stays (so_far.unbegun fresh read rank (omega arith) within)).run ∙ so_far.run fresh read;
      choice = λ fresh read.
        let within : rank < length mid.run = omega (arith, c.loop-rank-test.true, c.ranks-rank-end.ensures.ranks, ap (λ (r : Run). length r) (so_far.run fresh read)) in
        (done.else_stays (so_far.unbegun fresh read rank (omega arith) within)).choice ∙ so_far.choice fresh read;
      unbegun = λ fresh read.
        let within : rank < length mid.run = omega (arith, c.loop-rank-test.true, c.ranks-rank-end.ensures.ranks, ap (λ (r : Run). length r) (so_far.run fresh read)) in
        unbegun_more rank mid new (so_far.unbegun fresh read) (done.else_stays (so_far.unbegun fresh read rank (omega arith) within));
      traces = λ fresh read.
        let within : rank < length mid.run = omega (arith, c.loop-rank-test.true, c.ranks-rank-end.ensures.ranks, ap (λ (r : Run). length r) (so_far.run fresh read)) in
        traces_more (empty c.args.folder.now) (text c.loop-rank.folder) (text c.write_file.new.folder) rank old mid (so_far.run fresh read) (so_far.choice fresh read) (so_far.traces fresh read)
        (subst (λ (o : Option (List ℕ)). Appends o (text c.write_file.new.folder (Trace rank)) (trace_text (list_at mid rank))) so_far.empty
        (done.text (so_far.unbegun fresh read rank (omega arith) within)))
        done.kept;
    }

pub returns-clause-text : goal.returns-clause-text
returns-clause-text g c = λ fresh read rank below.
    c.loop-rank.invariant.traces fresh read rank (omega (arith, below, c.loop-rank-test.false, c.ranks-rank-end.ensures.ranks))
