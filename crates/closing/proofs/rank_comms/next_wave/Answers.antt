-- The next call counts on its communicator.
use Rattle.std.proofs.Common.{◌≡◌, ◌∙◌, ℕ, Option, Some, subst, sym, ap}
use Rattle.std.specs.Prelude.{not}
use Rattle.closing.specs.Called.{wave_comm}
use Rattle.closing.specs.inner.Holds.{key_on}
use Rattle.closing.specs.inner.Table.{IsPlaceOf}
use Rattle.closing.specs.inner.Views.{called_view}
use Rattle.closing.proofs.CallLemmas.{some_comm, wave_counted, wave_valued}
use Rattle.closing.proofs.rank_comms.next_wave.Goals as goal

pub returns-clause-counted : goal.returns-clause-counted
returns-clause-counted c table comms is counted on =
    let it = called_view c.args.called.now in
    let at = some_comm c.wave_comm.result (c.is_none.ensures ∙ ap not c.if-is_none.false) in
    let comm : wave_comm it ≡ Some at.0 = sym c.wave_comm.ensures ∙ at.1 in
    let place : IsPlaceOf table (Some c.in-Some.parent) (key_on comms it) = subst (λ (o : Option ℕ). IsPlaceOf table o (key_on comms it)) c.in-Some.is on in
    wave_counted table comms it at.0 c.in-Some.parent c.args.waves.now c.count_on.new.counts comm counted place c.in_ok-count.ensures.more

pub returns-clause-value : goal.returns-clause-value
returns-clause-value c table comms is counted on =
    let it = called_view c.args.called.now in
    let at = some_comm c.wave_comm.result (c.is_none.ensures ∙ ap not c.if-is_none.false) in
    let comm : wave_comm it ≡ Some at.0 = sym c.wave_comm.ensures ∙ at.1 in
    let place : IsPlaceOf table (Some c.in-Some.parent) (key_on comms it) = subst (λ (o : Option ℕ). IsPlaceOf table o (key_on comms it)) c.in-Some.is on in
    wave_valued table comms it at.0 c.in-Some.parent c.args.waves.now c.count_on.new.counts c.in_ok-count.count c.in_ok-count.ensures.before is comm counted place
