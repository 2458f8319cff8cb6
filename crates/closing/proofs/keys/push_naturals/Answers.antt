use Rattle.closing.specs.Called.{naturals_in}
use Rattle.closing.proofs.GrowLemmas.{grown}
use Rattle.closing.proofs.PlaceListLemmas.{naturals_step}
use Rattle.closing.proofs.keys.push_naturals.Goals as goal

pub loop-field-preserved : goal.loop-field-preserved
loop-field-preserved c =
    grown naturals_in naturals_step c.args.fields.now c.loop-field.field-index c.field-item.result _ _ _ c.field-item.is c.loop-field-test.true c.in_ok-push_natural.ensures c.loop-field.invariant
