-- Numbers held at the front of cells, the others 0: the list of the numbers gives the cells back.
use Rattle.std.specs.Prelude.{◌≡◌, ℕ, ◌≤◌, ◌-◌, List, ◌++◌, length, take, drop, replicate}
use Rattle.std.proofs.Common.{arith, sym, take-append-drop, length-take-le}
use Rattle.mpicall.specs.declared.limits.TheConstants.{MOST_REQUESTS}

pub same_len : (len : ℕ) (cells : List ℕ) → len ≤ MOST_REQUESTS → length cells ≡ MOST_REQUESTS → length (take len cells) ≡ len
same_len len cells fits all = length-take-le len cells (omega (arith, fits, all))

pub same_cells : (len : ℕ) (cells : List ℕ) → len ≤ MOST_REQUESTS → length cells ≡ MOST_REQUESTS →
    drop len cells ≡ replicate (MOST_REQUESTS - len) 0 → take len cells ++ replicate (MOST_REQUESTS - length (take len cells)) 0 ≡ cells
same_cells len cells fits all rest = rw (same_len len cells fits all) (rw (sym rest) (take-append-drop len cells))
