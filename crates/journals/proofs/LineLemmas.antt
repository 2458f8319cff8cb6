-- A line has no more fields than it may have bytes.
use Rattle.std.proofs.Common.{◌≡◌, ℕ, ◌<◌, ◌≤◌, ◌==◌, List, [], ◌∷◌, length, drop, sym, ap, ◌∙◌, arith, Option, Some, None, MatchOption}
use Rattle.std.specs.Borrow.{Bor}
use Rattle.std.proofs.lemmas.List.Sums.{count_by-le-length}
use Rattle.std.proofs.lemmas.List.Splits.{length-slice_split}
use Rattle.mpicall.specs.Spelling.{space}
use Rattle.mpicall.specs.Lines.{split_fields}

fields_short : (line : List ℕ) → length line < 32768 → length (split_fields line) ≤ 32768
fields_short line short =
    omega (arith, length-slice_split (λ (byte : ℕ). byte == space) line, count_by-le-length (λ (byte : ℕ). byte == space) line)

-- nor has it after its word
pub after_short : (line text : List ℕ) (rest : List (List ℕ)) → length line < 32768 → split_fields line ≡ text ∷ rest → length rest ≤ 32768
after_short line text rest short is = omega (arith, ap length is, fields_short line short)

-- neither have the fields after its first one
pub after_word_short : (line : List ℕ) (r : Option (Bor (List ℕ))) (old new : List (List ℕ)) → length line < 32768 → old ≡ split_fields line → MatchOption r ((old ≡ []) × (new ≡ [])) (λ field. old ≡ field.now ∷ new) → length new ≤ 32768
after_word_short line None old new short is m = rw m.1 (omega arith)
after_word_short line (Some field) old new short is m =
    omega (arith, ap length m, ap length is, fields_short line short)

-- they are those after its word
pub after_word_is : (line : List ℕ) (r : Option (Bor (List ℕ))) (old new : List (List ℕ)) → old ≡ split_fields line → MatchOption r ((old ≡ []) × (new ≡ [])) (λ field. old ≡ field.now ∷ new) → new ≡ drop 1 (split_fields line)
after_word_is line None old new is m = m.1 ∙ ap (drop 1) (sym m.0 ∙ is)
after_word_is line (Some field) old new is m = ap (drop 1) (sym m ∙ is)
