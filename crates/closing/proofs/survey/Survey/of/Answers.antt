-- All journals were taken, and then what others report was found.
use Rattle.std.proofs.Common.{◌≡◌, ◌∙◌, Option, Some, ap, arith, length, refl, subst, sym, ℕ}
use Rattle.std.specs.Prelude.{option_map}
use Rattle.std.specs.List.{flat_map, slice_get}
use Rattle.std.proofs.lemmas.Option.{slice_get_read}
use Rattle.journals.specs.declared.journal.Journal.{Journal}
use Rattle.closing.specs.Entries.{Run, ranks_of}
use Rattle.closing.specs.inner.Surveyed.{IsSurveyedTo, journal_of_code, keys_got, run_of_journals}
use Rattle.closing.proofs.RankLemmas.{await_all, none_inferred, one_more, run_long, surveyed, waited}
use Rattle.closing.proofs.survey.Survey.of.Goals as goal

pub loop-rank-init : goal.loop-rank-init
loop-rank-init c = c.in_ok-survey.ensures (run_of_journals c.args.journals.now) (omega (arith, run_long c.args.journals.now))

pub loop-rank-preserved : goal.loop-rank-preserved
loop-rank-preserved c =
    let journals = c.args.journals.now in
    let rank = c.loop-rank.rank in
    let it = c.index-journals-rank.result in
    let there : slice_get journals rank ≡ Some it = slice_get_read journals (length journals) rank it refl (omega (arith, c.loop-rank-test.true)) c.index-journals-rank.is in
    one_more journals c.in_ok-checked_place-2.field-0 rank it c.loop-rank.survey c.take_journal.new.self c.in_ok-checked_place-2.ensures there c.loop-rank.invariant
    (λ here to. c.in_ok-take_journal.ensures (run_of_journals journals) (here ∙ ap (λ (o : Option Journal). option_map journal_of_code o) (sym c.as_ref.ensures.value)) to)

pub returns : goal.returns
returns c fit =
    let journals = c.args.journals.now in
    let run : Run = run_of_journals journals in
    let a = c.loop-rank.survey in
    let all : c.loop-rank.rank ≡ length run = omega (arith, run_long journals) in
    let to : IsSurveyedTo run (length run) a = subst (λ (n : ℕ). IsSurveyedTo run n a) all c.loop-rank.invariant in
    surveyed run a c.find_inferred.new.self to c.find_inferred.ensures.same fit
    (c.find_inferred.ensures.found (length run) (flat_map (keys_got run) (ranks_of run)) (waited run) to.has.table to.ranks to.has.got (await_all run a to) (none_inferred run a to))
