-- The texts of all elements of a list are printed where the loop over them ends.
use Rattle.std.proofs.Common.{ℕ, ◌≤◌, Option, List, ◌++◌, length, take, flat_map, subst}
use Rattle.std.proofs.lemmas.List.{take_all}
use Rattle.report.specs.inner.Printing.{IsPrinted, Prints}
use Rattle.report.specs.declared.write.printer.Printer.{Printer}

pub prints_end : {A O : Type 0} (written : O → Option (List ℕ)) (failures : O → ℕ) (text : A → List ℕ) (xs : List A) (i : ℕ) (a b : O) (p q : Printer) →
    length xs ≤ i → Prints written failures a p b q (flat_map text (take i xs)) → Prints written failures a p b q (flat_map text xs)
prints_end {A} written failures text xs i a b p q past told begun count before h =
    subst (λ (ys : List A). IsPrinted q.failed begun count (before ++ flat_map text ys) (written b) (failures b) q.page) (take_all i xs past) (told begun count before h)
