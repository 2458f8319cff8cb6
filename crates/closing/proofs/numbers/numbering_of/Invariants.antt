-- The ranks that are left get the same numbers after those that were given as all do.
use Rattle.std.proofs.Common.{◌<◌, ◌∷◌, [], drop, length, vec_len, ◌≡◌}
use Rattle.closing.specs.inner.Given.{AreBelow, IsNumbering, SameLeft, places_from}
use Rattle.closing.proofs.numbers.numbering_of.Given as goal

abbrev pub invariant-loop-rank : goal.invariant-loop-rank
invariant-loop-rank l = record {
  numbering : IsNumbering l.numbering;
  room : vec_len l.numbering.numbers ≡ length l.survey.keys.codes;
  given : 0 < vec_len l.numbering.numbers → AreBelow (vec_len l.numbering.numbers) (places_from l.survey.got.items l.survey.inferred.items 0 0 l.survey.ends.items) →
      SameLeft l.survey.named.items (0 ∷ []) (places_from l.survey.got.items l.survey.inferred.items 0 0 l.survey.ends.items) l.numbering.numbered.items (places_from l.survey.got.items l.survey.inferred.items l.rank l.start (drop l.rank l.survey.ends.items)) (vec_len l.numbering.numbers);
}
