-- A number is put after those that the cells hold.
use Rattle.std.proofs.Common.{◌≡◌, ℕ, ◌+◌, ◌-◌, ◌<◌, List, drop, set, replicate, sym, ap, ◌∙◌, arith}
use Rattle.std.proofs.lemmas.List.{drop-drop, drop-set-lt, drop-replicate}

zeros_of : (count : ℕ) (cells : List ℕ) (len number : ℕ) → len < count → drop len cells ≡ replicate (count - len) 0 → drop (len + 1) (set cells len number) ≡ replicate (count - (len + 1)) 0
zeros_of count cells len number h rest =
    let fewer : count - len - 1 ≡ count - (len + 1) = omega arith in
    drop-set-lt (len + 1) cells len number (omega arith) ∙ sym (drop-drop 1 len cells) ∙ ap (drop 1) rest
    ∙ drop-replicate 1 (count - len) 0 ∙ ap (λ n. replicate n 0) fewer

pub zeros_behind : (cells : List ℕ) (len number : ℕ) → len < 64 → drop len cells ≡ replicate (64 - len) 0 → drop (len + 1) (set cells len number) ≡ replicate (64 - (len + 1)) 0
zeros_behind cells len number h rest = zeros_of 64 cells len number h rest

pub ruleset cell_steps = zeros_behind
