-- Of more numbers than there are values two are the same, and of some numbers one is the lowest.
use Rattle.std.proofs.Common.{inl, inr, ◌≡◌, ◌≢◌, ℕ, zero, suc, ◌-◌, ◌<◌, ◌≤◌, ◌⊎◌, refl, ⊎_elim, arith}
use Rattle.std.specs.Prelude.{if◌then◌else◌, nat_lt}
use Rattle.std.proofs.lemmas.Bool.{cases_eq, cases_lt, lt-ltb, le-ltb}

-- the numbers at two places up to the last are the same
pub record Twice (g : ℕ → ℕ) (last : ℕ) : Type 0 where
  pub first : ℕ
  pub second : ℕ
  pub before : first < second
  pub within : second ≤ last
  pub same : g first ≡ g second

-- a place below the end with the number, or there is none
record HasPlace (g : ℕ → ℕ) (number end : ℕ) : Type 0 where
  place : ℕ
  within : place < end
  is : g place ≡ number

seek : (g : ℕ → ℕ) (number end : ℕ) → HasPlace g number end ⊎ ((place : ℕ) → place < end → g place ≢ number)
seek g number zero = inr (λ place within. absurd (omega arith))
seek g number (suc end) =
    ⊎_elim
    (λ (here : g end ≡ number). inl (record { place = end; within = omega arith; is = here }))
    (λ (not_here : g end ≢ number). earlier g number end not_here (seek g number end))
    (cases_eq (g end) number)
  where
    none_up_to : (g : ℕ → ℕ) (number end place : ℕ) → g end ≢ number → ((place : ℕ) → place < end → g place ≢ number) → place < suc end → g place ≢ number
    none_up_to g number end place not_here none within =
        ⊎_elim
        (λ (same : place ≡ end). rw same not_here)
        (λ (other : place ≢ end). none place (omega arith))
        (cases_eq place end)

    earlier : (g : ℕ → ℕ) (number end : ℕ) → g end ≢ number → HasPlace g number end ⊎ ((place : ℕ) → place < end → g place ≢ number) → HasPlace g number (suc end) ⊎ ((place : ℕ) → place < suc end → g place ≢ number)
    earlier g number end not_here (inl found) = inl (record { place = found.place; within = omega (arith, found.within); is = found.is })
    earlier g number end not_here (inr none) = inr (λ place within. none_up_to g number end place not_here none within)

-- the numbers without one of them
abbrev without : ℕ → ℕ → ℕ
without number n = if nat_lt number n then n - 1 else n

without_above : (number n : ℕ) → number < n → without number n ≡ n - 1
without_above number n above = rw (lt-ltb number n above) refl

without_below : (number n : ℕ) → n ≤ number → without number n ≡ n
without_below number n below = rw (le-ltb number n below) refl

without_less : (number n most : ℕ) → n ≢ number → n < suc most → number < suc most → without number n < most
without_less number n most other less bound =
    ⊎_elim
    (λ (above : number < n). omega (arith, without_above number n above))
    (λ (below : n ≤ number). omega (arith, without_below number n below))
    (cases_lt number n)

without_same : (number a b : ℕ) → a ≢ number → b ≢ number → without number a ≡ without number b → a ≡ b
without_same number a b other_a other_b same =
    ⊎_elim
    (λ (above_a : number < a).
    ⊎_elim
    (λ (above_b : number < b). omega (arith, without_above number a above_a, without_above number b above_b))
    (λ (below_b : b ≤ number). omega (arith, without_above number a above_a, without_below number b below_b))
    (cases_lt number b))
    (λ (below_a : a ≤ number).
    ⊎_elim
    (λ (above_b : number < b). omega (arith, without_below number a below_a, without_above number b above_b))
    (λ (below_b : b ≤ number). omega (arith, without_below number a below_a, without_below number b below_b))
    (cases_lt number b))
    (cases_lt number a)

pub twice : (n : ℕ) (g : ℕ → ℕ) → ((place : ℕ) → place ≤ n → g place < n) → Twice g n
twice zero g below = absurd (omega (arith, below 0 (omega arith)))
twice (suc n) g below =
    by_seek n g below (λ h less. twice n h less) (seek g (g (suc n)) (suc n))
  where
    by_seek : (n : ℕ) (g : ℕ → ℕ) → ((place : ℕ) → place ≤ suc n → g place < suc n) → ((h : ℕ → ℕ) → ((place : ℕ) → place ≤ n → h place < n) → Twice h n) → HasPlace g (g (suc n)) (suc n) ⊎ ((place : ℕ) → place < suc n → g place ≢ g (suc n)) → Twice g (suc n)
    by_seek n g below fewer (inl found) = record { first = found.place; second = suc n; before = found.within; within = omega arith; same = found.is }
    by_seek n g below fewer (inr none) =
        let number = g (suc n) in
        let pair = fewer (λ place. without (g (suc n)) (g place)) (λ place within. without_less (g (suc n)) (g place) n (none place (omega arith)) (below place (omega arith)) (below (suc n) (omega arith))) in
        record {
          first = pair.first;
          second = pair.second;
          before = pair.before;
          within = omega (arith, pair.within);
          same = without_same (g (suc n)) (g pair.first) (g pair.second) (none pair.first (omega (arith, pair.before, pair.within))) (none pair.second (omega (arith, pair.within))) pair.same;
        }

-- the place of the lowest of the first numbers
pub record Lowest (g : ℕ → ℕ) (count : ℕ) : Type 0 where
  pub place : ℕ
  pub within : place < count
  pub is_lowest : (other : ℕ) → other < count → g place ≤ g other

pub lowest_of : (g : ℕ → ℕ) (more : ℕ) → Lowest g (suc more)
lowest_of g zero = record { place = 0; within = omega arith; is_lowest = λ other within. let e : other ≡ 0 = omega arith in rw e (omega arith) }
lowest_of g (suc more) = one_more g more (lowest_of g more)
  where
    stays : (g : ℕ → ℕ) (more place other : ℕ) → ((other : ℕ) → other < suc more → g place ≤ g other) → g place ≤ g (suc more) → other < suc (suc more) → g place ≤ g other
    stays g more place other low last within =
        ⊎_elim
        (λ (same : other ≡ suc more). rw same last)
        (λ (before : other ≢ suc more). low other (omega arith))
        (cases_eq other (suc more))

    falls : (g : ℕ → ℕ) (more place other : ℕ) → ((other : ℕ) → other < suc more → g place ≤ g other) → g (suc more) < g place → other < suc (suc more) → g (suc more) ≤ g other
    falls g more place other low last within =
        ⊎_elim
        (λ (same : other ≡ suc more). rw same (omega arith))
        (λ (before : other ≢ suc more). omega (arith, low other (omega arith)))
        (cases_eq other (suc more))

    one_more : (g : ℕ → ℕ) (more : ℕ) → Lowest g (suc more) → Lowest g (suc (suc more))
    one_more g more so_far =
        ⊎_elim
        (λ (less : g (suc more) < g so_far.place). record { place = suc more; within = omega arith; is_lowest = λ other within. falls g more so_far.place other so_far.is_lowest less within })
        (λ (not_less : g so_far.place ≤ g (suc more)). record { place = so_far.place; within = omega (arith, so_far.within); is_lowest = λ other within. stays g more so_far.place other so_far.is_lowest not_less within })
        (cases_lt (g (suc more)) (g so_far.place))
