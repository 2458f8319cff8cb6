-- The run is that of the files, and the table has no line yet.
use Rattle.std.proofs.Common.{◌≡◌, ◌∙◌, ◌||◌, Bool, true, false, ap, refl}
use Rattle.judging.specs.inner.Tables.{rows_of}
use Rattle.judging.proofs.BegunLemmas.{is_run_of}
use Rattle.judging.proofs.TableLemmas.{lines_begun}
use Rattle.judging.proofs.judge.lists_of.Goals as goal

pub returns-clause-run : goal.returns-clause-run
returns-clause-run g c = is_run_of (g.J.Journals.known c.args.journals.now) c.in-Ok.journals.items c.in_ok-recording.recording.run c.in-Ok.ensures.run c.in_ok-recording.ensures.run

pub returns-clause-table : goal.returns-clause-table
returns-clause-table g c = λ json.
    let it = c.in_ok-recording.recording in
    record {
      wanted = c.in_ok-table.ensures.wanted ∙ c.is_either-is_wanted.ensures ∙ ap (λ (b : Bool). b || c.is_window.result) (c.has_lines.ensures json);
      rows = lines_begun it (rows_of c.in_ok-table.table) c.ranks.result c.in_ok-recording.ensures.handed c.in_ok-recording.ensures.before c.in_ok-table.ensures.none c.ranks.ensures.ranks;
    }

pub returns-clause-window : goal.returns-clause-window
returns-clause-window g c = λ cut.
    let it = c.in_ok-recording.recording in
    record {
      wanted = c.in_ok-table.ensures.wanted ∙ c.is_either-is_wanted.ensures ∙ ap (λ (b : Bool). c.has_lines.result || b) (c.is_window.ensures ∙ cut) ∙ or_true c.has_lines.result;
      rows = lines_begun it (rows_of c.in_ok-table.table) c.ranks.result c.in_ok-recording.ensures.handed c.in_ok-recording.ensures.before c.in_ok-table.ensures.none c.ranks.ensures.ranks;
    }
  where
    or_true : (b : Bool) → (b || true) ≡ true
    or_true true = refl
    or_true false = refl
