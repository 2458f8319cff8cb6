-- A call names the communicator that it is on, and gets that which it makes of a group.
use Rattle.std.proofs.Common.{◌≡◌, ap, refl, subst, sym}
use Rattle.closing.specs.Called.{Called, called}
use Rattle.closing.specs.RankComms.{after_call}
use Rattle.closing.specs.inner.Holds.{HasComms, key_on}
use Rattle.closing.specs.Table.{Table}
use Rattle.closing.specs.inner.Table.{IsPlaceOf}
use Rattle.closing.specs.inner.Views.{called_view}
use Rattle.closing.specs.declared.survey.Survey.{Survey}
use Rattle.closing.proofs.SurveyLemmas.{call_takes}
use Rattle.closing.proofs.survey.Survey.take_other.Goals as goal

pub returns-clause-takes : goal.returns-clause-takes
returns-clause-takes c before names it is =
    let a = c.args.self.now in
    let said : Called = called c.args.word c.args.fields.now in
    let view : Called = called_view c.read_call-it.result in
    let same : view ≡ said = c.read_call-it.ensures.says in
    let on = c.key_on-on.ensures a.keys it is.has_comms in
    let at : IsPlaceOf a.keys c.key_on-on.result (key_on it said) = subst (λ (v : Called). IsPlaceOf a.keys c.key_on-on.result (key_on it v)) same on in
    let named = c.name.new.self in
    let kept : a.keys ≡ named.keys = sym (ap (λ (s : Survey). s.keys) c.name.ensures.same) in
    let is_named : HasComms named.keys c.args.comms.now it = subst (λ (t : Table). HasComms t c.args.comms.now it) kept is.has_comms in
    let on_named : IsPlaceOf named.keys c.key_on-on.result (key_on it view) = subst (λ (t : Table). IsPlaceOf t c.key_on-on.result (key_on it view)) kept on in
    let keys = c.take_call.new.keys in
    let mid : Survey = record c.name.new.self { keys = keys } in
    let comms : HasComms keys c.take_call.new.self (after_call it said) =
    subst (λ (v : Called). HasComms keys c.take_call.new.self (after_call it v)) same (c.in_ok-take_call.ensures.comms it is_named on_named) in
    call_takes before names it said a c.name.new.self mid c.take_of_group.new.self c.args.comms.now c.take_call.new.self c.key_on-on.result c.own-own.result
    is at c.name.ensures.same c.name.ensures.named refl (c.in_ok-take_call.ensures.grows is_named.table_is) comms
    c.in_ok-take_of_group.ensures.takes c.in_ok-take_of_group.ensures.room (c.own-own.ensures keys (after_call it said) comms) c.in_ok-take_of_group.ensures.same
