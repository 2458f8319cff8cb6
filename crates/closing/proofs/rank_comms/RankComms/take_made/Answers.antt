-- A communicator that no group made is that of the last wave.
use Rattle.std.proofs.Common.{◌≡◌, ℕ, Option, None, subst, sym}
use Rattle.closing.specs.Called.{naturals_in}
use Rattle.closing.specs.Keys.{Key}
use Rattle.closing.specs.inner.Holds.{HasComms, IsGot}
use Rattle.closing.specs.inner.Table.{IsPlaceOf}
use Rattle.closing.specs.RankComms.{with_made}
use Rattle.closing.proofs.ReportLemmas.{no_key}
use Rattle.closing.proofs.rank_comms.RankComms.take_made.Goals as goal

pub returns-in_ok-key-in-None-clause-comms : goal.returns-in_ok-key-in-None-clause-comms
returns-in_ok-key-in-None-clause-comms c comms is =
    let none : comms.own ≡ None = no_key c.args.keys.now comms.own (subst (λ (o : Option ℕ). IsPlaceOf c.args.keys.now o comms.own) c.in-None.is is.own) in
    subst (λ (o : Option Key). HasComms c.take_waited.new.keys c.take_waited.new.self (with_made comms c.args.comm (naturals_in c.args.members.now) o)) (sym none)
    (c.in_ok-key-in-None.ensures.comms comms is)

pub returns-in_ok-key-in-None-clause-got : goal.returns-in_ok-key-in-None-clause-got
returns-in_ok-key-in-None-clause-got c comms is =
    let none : comms.own ≡ None = no_key c.args.keys.now comms.own (subst (λ (o : Option ℕ). IsPlaceOf c.args.keys.now o comms.own) c.in-None.is is.own) in
    subst (λ (o : Option Key). IsGot c.take_waited.new.keys c.in_ok-key-in-None.key comms.keys (with_made comms c.args.comm (naturals_in c.args.members.now) o).keys) (sym none)
    (c.in_ok-key-in-None.ensures.got comms is)
