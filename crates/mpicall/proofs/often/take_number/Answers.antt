-- A digit, and each digit after it.
use Rattle.std.proofs.Common.{◌∙◌, sym, refl, arith}
use Rattle.mpicall.proofs.OftenLemmas.{begins_with_digit, digits_begin, digits_go_on, below_nine}
use Rattle.mpicall.proofs.often.take_number.Goals as goal

pub returns-then-number-eq0 : goal.returns-then-number-eq0
returns-then-number-eq0 c = rw c.from-number.ensures (begins_with_digit c.args.bytes.now c.args.at.now _ c.requires (sym c.is_ascii_digit.ensures.value ∙ c.if-not-is_ascii_digit.false) refl)

pub loop-count-init : goal.loop-count-init
loop-count-init c = rw c.from-number.ensures (digits_begin c.args.bytes.now c.args.at.now _ c.requires (sym c.is_ascii_digit.ensures.value ∙ c.if-not-is_ascii_digit.false) refl (omega arith))

pub overflow_mul-number : goal.overflow_mul-number
overflow_mul-number c = omega (arith, below_nine c.loop-count.count c.loop-count.number c.loop-count-test.true c.loop-count.invariant.below)

pub overflow_add-number : goal.overflow_add-number
overflow_add-number c = omega (arith, below_nine c.loop-count.count c.loop-count.number c.loop-count-test.true c.loop-count.invariant.below)

pub loop-count-preserved : goal.loop-count-preserved
loop-count-preserved c =
    rw c.from.ensures
    (digits_go_on c.args.bytes.now c.args.at.now c.loop-count.count c.loop-count.number c.loop-count.next _ c.loop-count.invariant c.requires c.loop-count-test.true
    (sym c.is_ascii_digit-in-loop-count.ensures.value ∙ c.if-not-is_ascii_digit-2.false) refl)
