-- Where a write failed, or took nothing, the writer has what it had.
use Rattle.std.proofs.Common.{◌≡◌, ℕ, subst, take, arith}
use Rattle.std.specs.Io.KnownBytes.{Appends}
use Rattle.mpicall.proofs.DeviceLemmas.{keeps_without}
use Rattle.mpicall.proofs.counted.CountedOutput.write_some.Goals as goal

pub returns-in-Ok-eq0-clause-bytes : goal.returns-in-Ok-eq0-clause-bytes
returns-in-Ok-eq0-clause-bytes g c =
    let none : c.in-Ok-eq0.field-0 ≡ 0 = omega (arith, c.in-Ok-eq0.field-0-test) in
    rw (c.count_failure.ensures.inner)
    (keeps_without _ _ (subst (λ (n : ℕ). Appends (g.W.Write.contents c.args.self.now.inner) (g.W.Write.contents c.write.new.self) (take n c.args.from.now)) none c.in-Ok-eq0.ensures.bytes))

pub returns-in-Err-clause-bytes : goal.returns-in-Err-clause-bytes
returns-in-Err-clause-bytes g c = rw (c.count_failure-in-Err.ensures.inner) c.in-Err.ensures.bytes
