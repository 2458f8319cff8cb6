-- The places of a list at which a test passes.
use Rattle.mpicall.specs.Names.{Place}
use Rattle.std.specs.Prelude.{ℕ, ◌+◌, Bool, List, [], ◌∷◌, length, take, if◌then◌else◌}

-- the places at which the test passes, in order, where the first element has the place `n`
abbrev pub places_from : {A : Type 0} → ℕ → (A → Bool) → List A → List Place
places_from n test [] = []
places_from n test (x ∷ xs) = if test x then n ∷ places_from (n + 1) test xs else places_from (n + 1) test xs

-- the places at which the test passes, in order, counted from 0
abbrev pub places : {A : Type 0} → (A → Bool) → List A → List Place
places test xs = places_from 0 test xs

-- how many of the places are before `place`
abbrev pub count_before : {A : Type 0} → (A → Bool) → List A → Place → ℕ
count_before test xs place = length (places test (take place xs))
