use Rattle.std.proofs.Common.{◌+◌, ℕ, set, refl, ap, arith}
use Rattle.moves.specs.inner.Waiting.{met_of}
use Rattle.moves.proofs.WaveLemmas.{comm_is, wave_few, ReachesWanting, passes_on, passes_wave}
use Rattle.moves.proofs.progress.Progress.reach_wave.Goals as goal

pub returns-then-missing-members-clause-waves : goal.returns-then-missing-members-clause-waves
returns-then-missing-members-clause-waves c =
    let p = c.args.pairs.now in
    let wanting = rw c.head.ensures.value at (c.is_wanting.ensures.0 c.if-not-is_wanting.false) in
    let passes : ReachesWanting p.groups p.recording c.args.stands.now c.args.self.now c.args.at.0 c.args.at.1 c.args.joined.0 c.args.joined.1 c.next_missing_at_once-missing.result = record {
      before = c.requires.waves;
      there = c.requires.joins;
      is_next = wanting.0;
      wanting = wanting.1;
      stands_there = c.requires.is_there;
      least = omega (arith, c.next_missing_at_once-missing.ensures.least, c.met.ensures);
      met = λ g member least less is. c.next_missing_at_once-missing.ensures.met g member (omega (arith, c.met.ensures)) less is;
    } in
    passes_on p.groups p.recording c.args.stands.now c.args.self.now _ c.args.at.0 c.args.at.1 c.args.joined.0 c.args.joined.1 c.next_missing_at_once-missing.result passes (omega (arith, c.members-members.ensures, c.if-missing-members.true)) c.next_missing_at_once-missing.ensures.missing refl (ap (λ (i : ℕ). set c.args.self.now.met.items i c.next_missing_at_once-missing.result) c.from.ensures)

pub overflow_add-wave : goal.overflow_add-wave
overflow_add-wave c = omega (arith, wave_few c.args.pairs.now.recording c.args.at.0 c.args.at.1 c.args.joined.0 c.args.joined.1 (c.requires.joins), c.requires.few)

pub index_mut-requires-2 : goal.index_mut-requires-2
index_mut-requires-2 c =
    let p = c.args.pairs.now in
    let wanting = rw c.head.ensures.value at (c.is_wanting.ensures.0 c.if-not-is_wanting.false) in
    let known = comm_is p.groups c.args.joined.0 (met_of c.args.self.now c.args.joined.0) c.args.at.0 wanting.1 in
    omega (arith, known.0, c.from-2.ensures, c.requires.waves.completes, c.args.self.now.complete.ok.0)

pub overflow_add-wave-2 : goal.overflow_add-wave-2
overflow_add-wave-2 c = omega (arith, wave_few c.args.pairs.now.recording c.args.at.0 c.args.at.1 c.args.joined.0 c.args.joined.1 (c.requires.joins), c.requires.few)

pub index_mut-requires-3 : goal.index_mut-requires-3
index_mut-requires-3 c =
    let p = c.args.pairs.now in
    let wanting = rw c.head.ensures.value at (c.is_wanting.ensures.0 c.if-not-is_wanting.false) in
    let known = comm_is p.groups c.args.joined.0 (met_of c.args.self.now c.args.joined.0) c.args.at.0 wanting.1 in
    omega (arith, known.0, c.from-3.ensures, c.requires.waves.meets, c.args.self.now.met.ok.0)

pub returns-clause-waves : goal.returns-clause-waves
returns-clause-waves c =
    let p = c.args.pairs.now in
    let wanting = rw c.head.ensures.value at (c.is_wanting.ensures.0 c.if-not-is_wanting.false) in
    let passes : ReachesWanting p.groups p.recording c.args.stands.now c.args.self.now c.args.at.0 c.args.at.1 c.args.joined.0 c.args.joined.1 c.next_missing_at_once-missing.result = record {
      before = c.requires.waves;
      there = c.requires.joins;
      is_next = wanting.0;
      wanting = wanting.1;
      stands_there = c.requires.is_there;
      least = omega (arith, c.next_missing_at_once-missing.ensures.least, c.met.ensures);
      met = λ g member least less is. c.next_missing_at_once-missing.ensures.met g member (omega (arith, c.met.ensures)) less is;
    } in
    passes_wave p.groups p.recording c.args.stands.now c.args.self.now _ c.args.at.0 c.args.at.1 c.args.joined.0 c.args.joined.1 c.next_missing_at_once-missing.result c.next_missing.result passes (omega (arith, c.members-members.ensures, c.if-missing-members.false)) c.next_missing.ensures.most c.next_missing.ensures.met c.next_missing.ensures.missing
    (ap (λ (i : ℕ). set c.args.self.now.complete.items i (c.args.joined.1 + 1)) c.from-2.ensures)
    (ap (λ (i : ℕ). set c.args.self.now.met.items i c.next_missing.result) c.from-3.ensures)

pub returns-clause-comm : goal.returns-clause-comm
returns-clause-comm c =
    let p = c.args.pairs.now in
    let wanting = rw c.head.ensures.value at (c.is_wanting.ensures.0 c.if-not-is_wanting.false) in
    let known = comm_is p.groups c.args.joined.0 (met_of c.args.self.now c.args.joined.0) c.args.at.0 wanting.1 in
    known.0
