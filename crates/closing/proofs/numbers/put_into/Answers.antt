-- The communicator is put, unless it is of a call.
use Rattle.std.proofs.Common.{◌≡◌, ◌∙◌, ap, arith, sym, subst, is_some, true, false, Some}
use Rattle.std.specs.Prelude.{slice_get}
use Rattle.closing.specs.inner.Numbered.{wave_made}
use Rattle.closing.specs.inner.Prefaces.{AreRanks, IsPreface, is_of_none}
use Rattle.closing.specs.Table.{group_at}
use Rattle.closing.proofs.KeptLemmas.{made_not_none, none_not_made, put_none, put_read}
use Rattle.closing.proofs.numbers.put_into.Goals as goal

pub returns-then-is_some-clause-lines : goal.returns-then-is_some-clause-lines
returns-then-is_some-clause-lines c =
    λ less ranks inside lines h.
    let table = c.args.keys.now in
    let at : slice_get table.codes c.args.key ≡ Some c.key.result = c.key.ensures less in
    let made : is_some (wave_made c.key.result) ≡ true = sym (ap is_some c.wave_of.ensures) ∙ sym c.is_some.ensures ∙ c.if-is_some.true in
    let none : is_of_none (slice_get table.codes c.args.key) ≡ false = ap is_of_none at ∙ made_not_none c.key.result made in
    put_none c.args.preface.now c.args.number (record { comm = c.args.number; group = group_at table c.args.key }) (is_of_none (slice_get table.codes c.args.key)) lines none h

pub returns-clause-lines : goal.returns-clause-lines
returns-clause-lines c =
    λ less ranks inside lines h.
    let table = c.args.keys.now in
    let old = c.args.preface.now in
    let at : slice_get table.codes c.args.key ≡ Some c.key.result = c.key.ensures less in
    let other : is_some (wave_made c.key.result) ≡ false = sym (ap is_some c.wave_of.ensures) ∙ sym c.is_some.ensures ∙ c.if-is_some.false in
    let none : is_of_none (slice_get table.codes c.args.key) ≡ true = ap is_of_none at ∙ none_not_made c.key.result other in
    let comm : c.in_ok-comm.comm ≡ c.args.number = c.in_ok-comm.ensures in
    let group : c.group.result.now ≡ group_at table c.args.key = c.group.ensures.at in
    let put = c.in_ok-put.ensures.lines (subst (λ gs. AreRanks old.ranks gs) (sym group) ranks) (omega (arith, comm)) lines (subst (λ k. IsPreface old k lines) (sym comm) h) in
    put_read c.put.new.self c.args.number c.in_ok-comm.comm c.group.result.now (group_at table c.args.key) (is_of_none (slice_get table.codes c.args.key)) lines comm group none put
