-- Those that are left get the same numbers after those that were given as all do.
use Rattle.std.proofs.Common.{◌≡◌, drop, vec_len}
use Rattle.closing.specs.inner.Given.{AreBelow, IsNumbering, with_places}
use Rattle.closing.proofs.numbers.Numbering.give_named.Given as goal

abbrev pub invariant-loop-key : goal.invariant-loop-key
invariant-loop-key l = record {
  numbering : IsNumbering l.self;
  room : vec_len l.self.numbers ≡ vec_len l.fn.self.numbers;
  given : AreBelow (vec_len l.fn.self.numbers) l.keys →
      with_places l.named l.self.numbered.items (drop l.key-index l.keys) ≡ with_places l.named l.fn.self.numbered.items l.keys;
}
