-- The stored calls of a rank by their slots and pairs.
use Rattle.std.proofs.Common.{◌≡◌, ℕ, Some, zero, suc, ◌<◌, ◌≤◌, false, List, [], ◌∷◌, ◌++◌, length, refl, sym, ap, ◌∙◌, arith, set}
use Rattle.std.specs.Option.{option_map}
use Rattle.std.specs.List.{slice_get}
use Rattle.std.proofs.lemmas.Bool.{false≢true}
use Rattle.std.proofs.lemmas.Option.{same_Some}
use Rattle.callstore.specs.declared.packed.Packed.{Packed}
use Rattle.callstore.specs.declared.mark.Mark.{Mark}
use Rattle.callstore.specs.declared.mark.Mark.TheVariants as mark
use Rattle.callstore.specs.declared.mark.Pair.{Pair}
use Rattle.callstore.specs.declared.entries.Slot.{Slot}
use Rattle.callstore.specs.declared.cached_match.CachedMatch.{CachedMatch}
use Rattle.callstore.specs.inner.Marks.{kept_by, is_apart, no_pair, pair_at, pair_of}
use Rattle.callstore.specs.inner.Entries.{Entry, entry_of, entries_of}

-- a pair without numbers says nothing
pub filled : (slots : List Slot) (pairs : List Pair) → entries_of slots (pairs ++ no_pair ∷ []) ≡ entries_of slots pairs
filled [] pairs = refl
filled (slot ∷ slots) [] = refl
filled (slot ∷ slots) (pair ∷ pairs) = ap (λ (entries : List Entry). entry_of slot pair ∷ entries) (filled slots pairs)

pub as_many : (slots : List Slot) (pairs : List Pair) → length (entries_of slots pairs) ≡ length slots
as_many [] pairs = refl
as_many (slot ∷ slots) [] = ap (λ (n : ℕ). suc n) (as_many slots [])
as_many (slot ∷ slots) (pair ∷ pairs) = ap (λ (n : ℕ). suc n) (as_many slots pairs)

-- the entry with an index
pub found : (slots : List Slot) (pairs : List Pair) (i : ℕ) → slice_get (entries_of slots pairs) i ≡ option_map (λ slot. entry_of slot (pair_at pairs i)) (slice_get slots i)
found [] pairs i = refl
found (slot ∷ slots) [] zero = refl
found (slot ∷ slots) [] (suc i) = found slots [] i
found (slot ∷ slots) (pair ∷ pairs) zero = refl
found (slot ∷ slots) (pair ∷ pairs) (suc i) = found slots pairs i

-- a slot is added, without a pair or with one
pub pushed_alone : (slots : List Slot) (pairs : List Pair) (slot : Slot) → length pairs ≤ length slots → entries_of (slots ++ slot ∷ []) pairs ≡ entries_of slots pairs ++ entry_of slot no_pair ∷ []
pushed_alone [] [] slot few = refl
pushed_alone [] (pair ∷ pairs) slot few = absurd (omega (arith, few))
pushed_alone (first ∷ slots) [] slot few = ap (λ (entries : List Entry). entry_of first no_pair ∷ entries) (pushed_alone slots [] slot (omega arith))
pushed_alone (first ∷ slots) (pair ∷ pairs) slot few = ap (λ (entries : List Entry). entry_of first pair ∷ entries) (pushed_alone slots pairs slot (omega (arith, few)))

pub pushed_both : (slots : List Slot) (pairs : List Pair) (slot : Slot) (pair : Pair) → length pairs ≡ length slots → entries_of (slots ++ slot ∷ []) (pairs ++ pair ∷ []) ≡ entries_of slots pairs ++ entry_of slot pair ∷ []
pushed_both [] [] slot pair same = refl
pushed_both [] (p ∷ pairs) slot pair same = absurd (omega (arith, same))
pushed_both (first ∷ slots) [] slot pair same = absurd (omega (arith, same))
pushed_both (first ∷ slots) (p ∷ pairs) slot pair same = ap (λ (entries : List Entry). entry_of first p ∷ entries) (pushed_both slots pairs slot pair (omega (arith, same)))

-- a slot is another, with its pair or whatever that is
pub set_both : (slots : List Slot) (pairs : List Pair) (i : ℕ) (slot : Slot) (pair : Pair) → i < length pairs → entries_of (set slots i slot) (set pairs i pair) ≡ set (entries_of slots pairs) i (entry_of slot pair)
set_both [] pairs i slot pair within = refl
set_both (first ∷ slots) [] i slot pair within = absurd (omega (arith, within))
set_both (first ∷ slots) (p ∷ pairs) zero slot pair within = refl
set_both (first ∷ slots) (p ∷ pairs) (suc i) slot pair within = ap (λ (entries : List Entry). entry_of first p ∷ entries) (set_both slots pairs i slot pair (omega (arith, within)))

pub set_alone : (slots : List Slot) (pairs : List Pair) (i : ℕ) (slot : Slot) (entry : Entry) → ((pair : Pair) → entry_of slot pair ≡ entry) → entries_of (set slots i slot) pairs ≡ set (entries_of slots pairs) i entry
set_alone [] pairs i slot entry is = refl
set_alone (first ∷ slots) [] zero slot entry is = ap (λ (e : Entry). e ∷ entries_of slots []) (is no_pair)
set_alone (first ∷ slots) [] (suc i) slot entry is = ap (λ (entries : List Entry). entry_of first no_pair ∷ entries) (set_alone slots [] i slot entry is)
set_alone (first ∷ slots) (pair ∷ pairs) zero slot entry is = ap (λ (e : Entry). e ∷ entries_of slots pairs) (is pair)
set_alone (first ∷ slots) (pair ∷ pairs) (suc i) slot entry is = ap (λ (entries : List Entry). entry_of first pair ∷ entries) (set_alone slots pairs i slot entry is)

-- what is kept in a mark is the same with every pair
pub near : (m : Mark) (one other : Pair) → is_apart m ≡ false → kept_by m one ≡ kept_by m other
near mark.Nothing one other here = refl
near (mark.Wave high low) one other here = refl
near (mark.Sent high low) one other here = refl
near (mark.Received high low) one other here = refl
near mark.FarWave one other here = absurd (false≢true (sym here))
near mark.FarSent one other here = absurd (false≢true (sym here))
near mark.FarReceived one other here = absurd (false≢true (sym here))
near mark.Exchanged one other here = absurd (false≢true (sym here))

-- so is the entry of a slot with such a mark
pub entry_near : (call : Packed) (m : Mark) (cached : CachedMatch) (pair : Pair) → kept_by m (pair_of cached) ≡ cached → is_apart m ≡ false → entry_of (record { call = call; mark = m }) pair ≡ record { call = call; cached = cached }
entry_near call m cached pair is here =
    ap (λ (kept : CachedMatch). entry call kept) (near m pair (pair_of cached) here ∙ is)
  where
    entry : Packed → CachedMatch → Entry
    entry call kept = record { call = call; cached = kept }

-- the slot is that of the old entry, and its call stays
pub same_call : (slots : List Slot) (pairs : List Pair) (index : ℕ) (slot : Slot) (old : Entry) → slice_get slots index ≡ Some slot → slice_get (entries_of slots pairs) index ≡ Some old → slot.call ≡ old.call
same_call slots pairs index slot old there at =
    ap (λ (entry : Entry). entry.call)
    (same_Some (entry_of slot (pair_at pairs index)) old
    (sym (found slots pairs index ∙ ap (option_map (λ (slot : Slot). entry_of slot (pair_at pairs index))) there) ∙ at))
