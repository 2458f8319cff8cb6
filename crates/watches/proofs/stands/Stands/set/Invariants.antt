-- The places so far are those of the ranks so far.
use Rattle.std.proofs.Common.{◌≡◌, ℕ, ◌<◌, length, get_or}
use Rattle.mpigroup.specs.declared.limits.TheConstants.{MOST_RANKS}
use Rattle.moves.specs.Stands.{stands_of}
use Rattle.watches.proofs.stands.Stands.set.Given as goal

abbrev pub invariant-loop-rank : goal.invariant-loop-rank
invariant-loop-rank l = record {
  len : length l.self.places ≡ MOST_RANKS;
  stands : (k : ℕ) → k < l.rank → get_or l.self.places k 0 ≡ get_or (stands_of l.analyser.reading l.analyser.groups l.analyser.recording) k 0;
}
