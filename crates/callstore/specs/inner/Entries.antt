-- The stored calls of a rank, each with what is kept with it.
use Rattle.std.specs.Prelude.{ℕ, List, [], ◌∷◌}
use Rattle.callstore.specs.declared.packed.Packed.{Packed}
use Rattle.callstore.specs.declared.mark.Pair.{Pair}
use Rattle.callstore.specs.declared.entries.Slot.{Slot}
use Rattle.callstore.specs.declared.entries.EntryRef.{EntryRef}
use Rattle.callstore.specs.declared.cached_match.CachedMatch.{CachedMatch}
use Rattle.callstore.specs.inner.Marks.{kept_by, no_pair, pair_at}

-- a stored call, and what is kept with it
pub record Entry : Type 0 where
  pub call : Packed
  pub cached : CachedMatch

-- those of a rank, and how many more there is room for
pub record EntryList : Type 0 where
  pub items : List Entry
  pub room : ℕ

-- the entry of a slot and a pair
abbrev pub entry_of : Slot → Pair → Entry
entry_of slot pair = record { call = slot.call; cached = kept_by slot.mark pair }

-- those of all slots: the first have pairs
abbrev pub entries_of : List Slot → List Pair → List Entry
entries_of [] pairs = []
entries_of (slot ∷ slots) [] = entry_of slot no_pair ∷ entries_of slots []
entries_of (slot ∷ slots) (pair ∷ pairs) = entry_of slot pair ∷ entries_of slots pairs

-- the entry that is seen in its place
abbrev pub entry_at : EntryRef → Entry
entry_at e = entry_of e.slot.now (pair_at e.pairs.now e.index)
