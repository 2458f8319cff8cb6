-- Each byte is a digit more, or ends them.
use Rattle.std.proofs.Common.{◌≡◌, ℕ, length, sym, subst, ◌∙◌, arith}
use Rattle.mpicall.specs.inner.Front.{AreDigits}
use Rattle.mpicall.proofs.FrontLemmas.{no_digit_yet, digit_read}
use Rattle.journals.specs.declared.limits.TheConstants.{GREATEST}
use Rattle.journals.proofs.texts.read_front.Goals as goal

pub loop-at-init : goal.loop-at-init
loop-at-init c = no_digit_yet GREATEST c.args.bytes.now

pub returns-then-not-is_ascii_digit : goal.returns-then-not-is_ascii_digit
returns-then-not-is_ascii_digit c = record { are = c.loop-at.invariant; ends = λ _. c.if-byte-ne32.false }

pub loop-at-preserved : goal.loop-at-preserved
loop-at-preserved c =
    rw c.from.ensures
    (digit_read GREATEST c.args.bytes.now c.loop-at.at c.loop-at.number c.loop-at.invariant c.loop-at-test.true
    (sym c.is_ascii_digit.ensures.value ∙ c.if-not-is_ascii_digit.false)
    (omega (arith, c.if-number-from.false, c.from.ensures, c.from-in-loop-at.ensures)))

pub returns : goal.returns
returns c =
    let all : c.loop-at.at ≡ length c.args.bytes.now = omega (arith, c.loop-at-test.false, c.loop-at.invariant.few) in
    record {
      are = subst (λ (n : ℕ). AreDigits GREATEST c.args.bytes.now n c.loop-at.number) all c.loop-at.invariant;
      ends = λ less. absurd (omega (arith, less));
    }
