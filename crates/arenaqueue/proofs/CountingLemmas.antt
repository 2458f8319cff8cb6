-- How the cells of a chain are counted.
use Rattle.std.proofs.Common.{◌≡◌, ℕ, zero, suc, ◌+◌, ◌<◌, ◌≤◌, ◌≢◌, List, ◌∷◌, length, get_or, ap, subst, ⊎_elim, arith}
use Rattle.std.proofs.lemmas.Bool.{cases_eq, cases_lt, eq-eqb, ne_eqb}
use Rattle.arenaqueue.specs.inner.Numbers.{count}
use Rattle.arenaqueue.specs.inner.Chains.{Leads}
use Rattle.arenaqueue.specs.inner.Chains.{no_cell, steps, walked, LeadsOut}
use Rattle.arenaqueue.proofs.NumberLemmas.{count_head}
use Rattle.arenaqueue.proofs.ChainLemmas.{leads_some, leads_none}

-- a walk is no longer than it may be
pub steps_most : (nexts : List ℕ) (n c : ℕ) → length (steps nexts n c) ≤ n
steps_most nexts zero c = omega arith
steps_most nexts (suc n) c =
    ⊎_elim
    (λ (is : c ≡ no_cell). rw (eq-eqb c no_cell is) (omega arith))
    (λ (differs : c ≡ no_cell → ⊥). rw (ne_eqb c no_cell differs) (omega (arith, steps_most nexts n (get_or nexts c 0))))
    (cases_eq c no_cell)

-- so many cells of the walk are counted, and the others are ahead
pub record Counting (nexts : List ℕ) (from counted c : ℕ) : Type 0 where
  pub ahead : List ℕ
  pub all : counted + length ahead ≡ length (walked nexts from)
  pub leads : Leads nexts c ahead no_cell
  pub within : (x : ℕ) → 0 < count x ahead → x < length nexts
  pub small : length nexts ≤ no_cell

pub counting : (nexts : List ℕ) (from : ℕ) → LeadsOut nexts from → Counting nexts from 0 from
counting nexts from h = record { ahead = walked nexts from; all = omega arith; leads = h.leads; within = h.within; small = h.small }

pub counted_few : (nexts : List ℕ) (from counted c : ℕ) → Counting nexts from counted c → counted ≤ no_cell
counted_few nexts from counted c h = omega (arith, h.all, h.small, steps_most nexts (length nexts) from)

-- one more is counted
pub record Next (nexts : List ℕ) (from counted c : ℕ) : Type 0 where
  pub cell_in : c < length nexts
  pub left : counted < length (walked nexts from)
  pub next : Counting nexts from (counted + 1) (get_or nexts c 0)

pub next_of : (nexts : List ℕ) (from counted c : ℕ) → Counting nexts from counted c → c ≢ no_cell → Next nexts from counted c
next_of nexts from counted c h differs =
    let it = leads_some nexts c h.ahead no_cell h.leads differs in
    let leads : Leads nexts c (c ∷ it.0) no_cell = subst (λ (xs : List ℕ). Leads nexts c xs no_cell) it.1 h.leads in record {
      cell_in = h.within c (omega (arith, ap (count c) it.1, count_head c it.0));
      left = omega (arith, h.all, ap (length {A = ℕ}) it.1);
      next = record {
        ahead = it.0;
        all = omega (arith, h.all, ap (length {A = ℕ}) it.1);
        leads = leads.1;
        within = λ x some. h.within x (omega (arith, some, ap (count x) it.1));
        small = h.small;
      };
    }

-- all are counted
pub all_counted : (nexts : List ℕ) (from counted c : ℕ) → Counting nexts from counted c → c ≡ no_cell → counted ≡ length (walked nexts from)
all_counted nexts from counted c h is =
    let none : count no_cell h.ahead ≡ 0 =
    ⊎_elim
    (λ (some : 0 < count no_cell h.ahead). absurd (omega (arith, h.within no_cell some, h.small)))
    (λ (none : count no_cell h.ahead ≤ 0). omega arith)
    (cases_lt 0 (count no_cell h.ahead)) in
    omega (arith, h.all, ap (length {A = ℕ}) (leads_none nexts c h.ahead no_cell h.leads none is))
