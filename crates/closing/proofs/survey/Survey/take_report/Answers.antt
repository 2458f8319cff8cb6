-- A report may bring the rank a communicator.
use Rattle.std.proofs.Common.{◌++◌, ◌∙◌, refl, subst, sym}
use Rattle.closing.specs.RankComms.{RankComms}
use Rattle.closing.specs.inner.Holds.{report_taken}
use Rattle.closing.specs.inner.Surveyed.{Keeps}
use Rattle.closing.specs.declared.survey.Survey.{Survey}
use Rattle.closing.proofs.NamedLemmas.{got_by, got_grow, none_brought}
use Rattle.closing.proofs.SurveyLemmas.{got_takes}
use Rattle.closing.proofs.TableLemmas.{grows_same}
use Rattle.closing.proofs.survey.Survey.take_report.Goals as goal

pub returns-then-not-brings-clause-takes : goal.returns-then-not-brings-clause-takes
returns-then-not-brings-clause-takes c before names it is =
    let a = c.args.self.now in
    let same = none_brought it c.args.word c.args.fields.now (sym c.brings.ensures ∙ c.if-not-brings.true) in
    subst (λ (after : RankComms). Keeps before names after a a c.args.comms.now) (sym same) (record { is = is; grows = grows_same a.keys is.has_comms.table_is })

pub returns-clause-takes : goal.returns-clause-takes
returns-clause-takes c before names it is =
    let a = c.args.self.now in
    let keys = c.take_report.new.keys in
    let mid : Survey = record a { keys = keys } in
    let after = report_taken it c.args.word c.args.fields.now in
    let grows = c.in_ok-key.ensures.grows it is.has_comms in
    let got = c.in_ok-key.ensures.got it is.has_comms in
    got_takes (before ++ it.keys) names before after a mid c.make_room.new.self c.push_got.new.self c.take_report.new.self c.in_ok-key.key
    is.has refl grows c.in_ok-make_room.ensures.same c.in_ok-make_room.ensures.named c.in_ok-push_got.ensures.same c.in_ok-push_got.ensures.got
    (got_by keys a.got.items before it.keys after.keys c.in_ok-key.key got (got_grow a.keys keys a.got.items (before ++ it.keys) grows is.has.got))
    (c.in_ok-key.ensures.comms it is.has_comms)
