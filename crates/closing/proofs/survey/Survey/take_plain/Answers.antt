-- A call that counts nowhere names the communicator that it is on.
use Rattle.std.proofs.Common.{◌≡◌, ◌∙◌, ap, false, length, None, Option, option_and_then, refl, subst, sym, ℕ}
use Rattle.closing.specs.Called.{Called, called}
use Rattle.closing.specs.RankComms.{after_call, key_under}
use Rattle.closing.specs.inner.Holds.{HasComms, key_on}
use Rattle.closing.specs.Table.{Table}
use Rattle.closing.specs.inner.Table.{IsPlaceOf}
use Rattle.closing.specs.inner.Words.{counts}
use Rattle.closing.specs.declared.survey.Survey.{Survey}
use Rattle.closing.proofs.PlainLemmas.{no_key, plain_call}
use Rattle.closing.proofs.NamedLemmas.{with_name_long}
use Rattle.closing.proofs.SurveyLemmas.{call_takes, none_takes}
use Rattle.closing.proofs.TableLemmas.{grows_same}
use Rattle.closing.proofs.survey.Survey.take_plain.Goals as goal

pub returns-clause-takes : goal.returns-clause-takes
returns-clause-takes c before names it is =
    let a = c.args.self.now in
    let said : Called = called c.args.word c.args.fields.now in
    let none : counts said ≡ false = plain_call c.args.word c.args.fields.now c.requires in
    let on : IsPlaceOf a.keys c.key_if-on.result (key_on it said) =
    subst (λ (o : Option ℕ). IsPlaceOf a.keys c.key_if-on.result (option_and_then (key_under it) o)) c.comm_in.ensures (c.key_if-on.ensures a.keys it is.has_comms) in
    let named = c.name.new.self in
    let kept : a.keys ≡ named.keys = sym (ap (λ (s : Survey). s.keys) c.name.ensures.same) in
    let is_named : HasComms named.keys c.args.comms.now it = subst (λ (t : Table). HasComms t c.args.comms.now it) kept is.has_comms in
    let comms : HasComms named.keys c.take_plain.new.self (after_call it said) = c.take_plain.ensures named.keys it said none is_named in
    let room : length named.named.items ≡ length named.keys.codes =
    ap length c.name.ensures.named ∙ with_name_long c.key_if-on.result a.named.items ∙ is.room ∙ ap (λ (t : Table). length t.codes) kept in
    call_takes before names it said a named named named c.args.comms.now c.take_plain.new.self c.key_if-on.result None
    is on c.name.ensures.same c.name.ensures.named refl (grows_same named.keys is_named.table_is) comms
    (none_takes named) (λ few. room) (no_key named.keys it said none) refl
