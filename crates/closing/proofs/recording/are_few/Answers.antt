-- One journal more has few lines.
use Rattle.std.proofs.Common.{◌≤◌, Option, arith, length, refl, subst}
use Rattle.std.specs.Prelude.{option_map}
use Rattle.std.proofs.lemmas.Option.{slice_get_read}
use Rattle.journals.specs.declared.journal.Journal.{Journal}
use Rattle.closing.specs.Entries.{lines_in}
use Rattle.closing.specs.Journals.{journal_in}
use Rattle.closing.proofs.RecordedLemmas.{few_more}
use Rattle.closing.proofs.recording.are_few.Goals as goal

pub loop-rank-preserved : goal.loop-rank-preserved
loop-rank-preserved c =
    let journals = c.args.journals.now in
    let rank = c.loop-rank.rank in
    let it = c.index-journals-rank.result in
    few_more journals rank it (slice_get_read journals (length journals) rank it refl (omega (arith, c.loop-rank-test.true)) c.index-journals-rank.is) c.loop-rank.invariant
    (subst (λ (one : Option Journal). length (lines_in (option_map journal_in one)) ≤ 4294967292) c.as_ref.ensures.value (c.is_short.ensures c.if-not-is_short.false))
