-- How the front of a head grows, and when it is whole.
use Rattle.std.proofs.Common.{◌≡◌, ℕ, ◌≤◌, List, ◌++◌, length, take, sym, ap, ◌∙◌, Option, Some, None, append_assoc, append-nil}
use Rattle.std.specs.Io.KnownBytes.{Keeps, prepend_known, Consumes, IsAtEnd}
use Rattle.std.proofs.Math.Seq.{take-append_seam}
use Rattle.std.proofs.lemmas.List.{take_all}
use Rattle.cli.specs.inner.Front.{IsFrontOf, deciding_bytes}

pub grows : (start old new : Option (List ℕ)) (front now given : List ℕ) → Keeps start (prepend_known front old) → Consumes old new given → now ≡ front ++ given → Keeps start (prepend_known now new)
grows None old new front now given k c e = tt
grows (Some start) None new front now given k c e = absurd k
grows (Some start) (Some old) None front now given k c e = absurd c
grows (Some start) (Some old) (Some new) front now given k c e =
    ap (λ (bytes : List ℕ). bytes ++ new) e ∙ append_assoc front given new ∙ ap (λ (bytes : List ℕ). front ++ bytes) (sym c) ∙ k

pub whole_at_end : (start now : Option (List ℕ)) (front : List ℕ) → Keeps start (prepend_known front now) → length front ≤ deciding_bytes → IsAtEnd now → IsFrontOf start front
whole_at_end None now front k within end = tt
whole_at_end (Some start) None front k within end = absurd k
whole_at_end (Some start) (Some now) front k within end =
    let all : front ≡ start = sym (append-nil front) ∙ ap (λ (bytes : List ℕ). front ++ bytes) (sym end) ∙ k in
    sym (take_all deciding_bytes front within) ∙ ap (λ (bytes : List ℕ). take deciding_bytes bytes) all

pub whole_when_full : (start now : Option (List ℕ)) (front : List ℕ) → Keeps start (prepend_known front now) → length front ≡ deciding_bytes → IsFrontOf start front
whole_when_full None now front k full = tt
whole_when_full (Some start) None front k full = absurd k
whole_when_full (Some start) (Some now) front k full =
    sym (take-append_seam front now) ∙ ap (λ (n : ℕ). take n (front ++ now)) full ∙ ap (λ (bytes : List ℕ). take deciding_bytes bytes) k

-- a read that gave nothing leaves the front and what is after it
pub stays_after : (start old new : Option (List ℕ)) (front into : List ℕ) (count : ℕ) → Keeps start (prepend_known front old) → count ≡ 0 → Consumes old new (take count into) → Keeps start (prepend_known front new)
stays_after start old new front into count k none c = grows start old new front front (take count into) k c (rw none (sym (append-nil front)))

-- and shows, where there was room, that no bytes are left
pub whole_after : (start old new : Option (List ℕ)) (front into : List ℕ) (count : ℕ) → Keeps start (prepend_known front old) → count ≡ 0 → Consumes old new (take count into) → length front ≤ deciding_bytes → IsAtEnd new → IsFrontOf start front
whole_after start old new front into count k none c within end = whole_at_end start new front (stays_after start old new front into count k none c) within end
