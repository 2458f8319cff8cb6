-- Records of a rank's list stay as steps are taken.
use Rattle.std.proofs.Common.{◌≡◌, refl, sym, ◌∙◌, ap, ℕ, Option, Some, None, List, [], ◌∷◌, ◌++◌, append_assoc}
use Rattle.closing.specs.Steps.{Written, Progress, Step, Does, Starts, WaitsForAll, WaitsForOne, PutsOff, WaitsForLate, number_in, after_step, after_steps, wait_one}

pub append_none : {A : Type 0} (xs : List A) → xs ++ [] ≡ xs
append_none [] = refl
append_none (x ∷ xs) = ap (λ ys. x ∷ ys) (append_none xs)

-- ---- Records stay ----

abbrev pub Grown : Progress → Progress → Type 0
Grown old new = (more : List Written) × (new.records ≡ old.records ++ more)

pub same_records : (p : Progress) → Grown p p
same_records p = ([], sym (append_none p.records))

one_waited : (p : Progress) (line : ℕ) (n : Option ℕ) (numbers : List ℕ) → Grown p (wait_one p line n numbers)
one_waited p line None numbers = same_records p
one_waited p line (Some number) numbers = (_, refl)

grown_by : (p : Progress) (line : ℕ) (step : Step) → Grown p (after_step p line step)
grown_by p line (Does call) = (_, refl)
grown_by p line (Starts id call) = (_, refl)
grown_by p line (WaitsForAll ids) = (_, refl)
grown_by p line (WaitsForOne id ids) = one_waited p line (number_in p.active id) _
grown_by p line (PutsOff ids) = ([], sym (append_none p.records))
grown_by p line WaitsForLate = (_, refl)

grown_on : (p q r : Progress) → Grown p q → Grown q r → Grown p r
grown_on p q r one two =
    (one.0 ++ two.0, two.1 ∙ ap (λ xs. xs ++ two.0) one.1 ∙ append_assoc p.records one.0 two.0)

pub grown_all : (p : Progress) (line : ℕ) (steps : List Step) → Grown p (after_steps p line steps)
grown_all p line [] = same_records p
grown_all p line (step ∷ steps) =
    grown_on p (after_step p line step) (after_steps (after_step p line step) line steps) (grown_by p line step)
    (grown_all (after_step p line step) line steps)
