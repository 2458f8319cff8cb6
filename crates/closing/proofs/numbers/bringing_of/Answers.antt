-- Keys one after the other.
use Rattle.std.proofs.Common.{◌≡◌, ◌∙◌, ap, arith, get_or, true, if◌then◌else◌, Some}
use Rattle.std.specs.HashSet.{contains_by}
use Rattle.std.specs.Prelude.{slice_get}
use Rattle.std.proofs.lemmas.Option.{slice_get-get_or}
use Rattle.closing.specs.inner.Numbered.{brings_at, is_same_wave, same_wave}
use Rattle.closing.proofs.KeptLemmas.{brings_done, brings_next}
use Rattle.closing.proofs.numbers.bringing_of.Goals as goal

pub loop-key-preserved : goal.loop-key-preserved
loop-key-preserved c =
    λ below wave.
    let n = c.loop-key.key-index in
    let numbered = c.args.numbered.now in
    let table = c.args.keys.now in
    let p = get_or numbered n 0 in
    let e : slice_get numbered n ≡ Some p = slice_get-get_or numbered n 0 (omega arith) in
    let at : slice_get table.codes p ≡ Some c.key.result = c.key.ensures (below n p e) in
    let old = contains_by (same_wave wave) c.loop-key.bringing in
    let put = c.in_ok-bring.ensures wave ∙ ap (λ o. if is_same_wave o wave then true else old) c.wave_of.ensures in
    brings_next table numbered n p c.key.result wave old (contains_by (same_wave wave) c.bring.new.bringing) (brings_at table numbered wave) e at put (c.loop-key.invariant below wave)

pub returns : goal.returns
returns c =
    λ below wave.
    let numbered = c.args.numbered.now in
    let table = c.args.keys.now in
    brings_done table numbered c.loop-key.key-index wave (contains_by (same_wave wave) c.loop-key.bringing) (brings_at table numbered wave) (omega arith) (c.loop-key.invariant below wave)
