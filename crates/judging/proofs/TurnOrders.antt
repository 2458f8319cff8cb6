-- Turns and rounds, one after the other.
use Rattle.std.proofs.Common.{◌≡◌, ◌<◌, ◌≤◌, ◌∙◌, ℕ, zero, suc, ◌+◌, ◌-◌, ◌^◌, ◌&&◌, Bool, true, false, inl, inr, List, refl, sym, ap, arith}
use Rattle.std.proofs.lemmas.Bool.{and_parts, cases_eq, eqb-true, false≢true}
use Rattle.closing.specs.Recordings.{RecordingView, ChangesOnly, count_at}
use Rattle.std.specs.Prelude.{◌==◌, Option, unwrap_or}
use Rattle.judging.specs.inner.Turns.{IsHandedOn, HandsOn, StaysElse, HasTurn, HaveTurns}

pub stays_none : (rank : ℕ) (it : RecordingView) → StaysElse rank it it
stays_none rank it = record { run = refl; choice = refl; handed = λ other differs. refl; made = λ other differs. refl; left = λ other differs. refl }

pub stays_handed : (rank : ℕ) (old mid new : RecordingView) → StaysElse rank old mid → HandsOn rank mid new → StaysElse rank old new
stays_handed rank old mid new stays hands = record {
  run = hands.run ∙ stays.run;
  choice = hands.choice ∙ stays.choice;
  handed = λ other differs. hands.others other differs ∙ stays.handed other differs;
  made = λ other differs. ap (λ (m : List ℕ). count_at m other) hands.made ∙ stays.made other differs;
  left = λ other differs. ap (λ (m : List ℕ). count_at m other) hands.left ∙ stays.left other differs;
}

pub stays_stepped : (rank : ℕ) (old mid new : RecordingView) → StaysElse rank old mid → ChangesOnly rank mid new → StaysElse rank old new
stays_stepped rank old mid new stays only = record {
  run = only.run ∙ stays.run;
  choice = only.choice ∙ stays.choice;
  handed = λ other differs. ap (λ (o : Option ℕ). unwrap_or o 0) (only.handed other differs) ∙ stays.handed other differs;
  made = λ other differs. ap (λ (o : Option ℕ). unwrap_or o 0) (only.made other differs) ∙ stays.made other differs;
  left = λ other differs. ap (λ (o : Option ℕ). unwrap_or o 0) (only.left other differs) ∙ stays.left other differs;
}

-- the turn ends with a hand-over, once less is left
pub has_turn : (rank : ℕ) (old mid new : RecordingView) → StaysElse rank old mid → HandsOn rank mid new → count_at mid.left rank ≤ count_at old.left rank - 1 → HasTurn rank old new
has_turn rank old mid new stays hands less = record {
  else_stays = stays_handed rank old mid new stays hands;
  handed = hands.handed;
  less = omega (arith, less, ap (λ (m : List ℕ). count_at m rank) hands.left);
}

-- nothing is left, and nothing waits
pub has_had : (rank : ℕ) (it : RecordingView) → count_at it.left rank ≡ 0 → IsHandedOn it rank → HasTurn rank it it
has_had rank it none handed = record { else_stays = stays_none rank it; handed = handed; less = omega (arith, none) }

-- whether a list is over, by what is left
pub over_none : (left : ℕ) (over : Bool) → over ≡ (left == 0) → over ≡ true → left ≡ 0
over_none left over is so = eqb-true left 0 (sym is ∙ so)

pub not_over : (left : ℕ) (over : Bool) → over ≡ (left == 0) → over ≡ false → left ≡ 0 → ⊥
not_over zero over is so none = false≢true (sym so ∙ is)
not_over (suc left) over is so none = cc

-- ---- Rounds ----

pub turns_none : (it : RecordingView) → HaveTurns 0 it it
turns_none it = record {
  run = refl;
  choice = refl;
  handed = λ rank below. absurd (omega (arith, below));
  less = λ rank below. absurd (omega (arith, below));
  few = λ rank below. absurd (omega (arith, below));
  others = λ rank above. refl;
}

pub turns_more : (rank : ℕ) (old mid new : RecordingView) → HaveTurns rank old mid → HasTurn rank mid new → count_at mid.left rank < 2 ^ 32 → HaveTurns (rank + 1) old new
turns_more rank old mid new turns turn few = record {
  run = turn.else_stays.run ∙ turns.run;
  choice = turn.else_stays.choice ∙ turns.choice;
  handed = handed;
  less = less;
  few = few_there;
  others = λ other above. turn.else_stays.left other (λ same. absurd (omega (arith, above, same))) ∙ turns.others other (omega (arith, above));
}
  where
    own : count_at mid.left rank ≡ count_at old.left rank
    own = turns.others rank (omega arith)

    handed : (other : ℕ) → other < rank + 1 → IsHandedOn new other
    handed other below = elim (cases_eq other rank) [
      | inl same ↦ by other same
      | inr differs ↦ turn.else_stays.handed other differs ∙ turns.handed other (omega (arith, below, differs)) ∙ sym (turn.else_stays.made other differs)
    ]
      where
        by : (r : ℕ) → r ≡ rank → IsHandedOn new r
        by r same = ap (λ (n : ℕ). count_at new.handed n) same ∙ turn.handed ∙ ap (λ (n : ℕ). count_at new.made n) (sym same)

    less : (other : ℕ) → other < rank + 1 → count_at new.left other ≤ count_at old.left other - 1
    less other below = elim (cases_eq other rank) [
      | inl same ↦ omega (arith, turn.less, own, ap (λ (n : ℕ). count_at new.left n) same, ap (λ (n : ℕ). count_at old.left n) same)
      | inr differs ↦ omega (arith, turns.less other (omega (arith, below, differs)), turn.else_stays.left other differs)
    ]

    few_there : (other : ℕ) → other < rank + 1 → count_at old.left other < 2 ^ 32
    few_there other below = elim (cases_eq other rank) [
      | inl same ↦ omega (arith, few, own, ap (λ (n : ℕ). count_at old.left n) same)
      | inr differs ↦ turns.few other (omega (arith, below, differs))
    ]

-- all ranks so far are over, and one more
pub over_more : (rank : ℕ) (mid new : RecordingView) (are_over is_over : Bool) → HasTurn rank mid new → is_over ≡ (count_at new.left rank == 0) →
    (are_over ≡ true → (other : ℕ) → other < rank → count_at mid.left other ≡ 0) → are_over && is_over ≡ true → (other : ℕ) → other < rank + 1 → count_at new.left other ≡ 0
over_more rank mid new are_over is_over turn is so_far both other below = elim (cases_eq other rank) [
  | inl same ↦ ap (λ (n : ℕ). count_at new.left n) same ∙ over_none (count_at new.left rank) is_over is parts.1
  | inr differs ↦ turn.else_stays.left other differs ∙ so_far parts.0 other (omega (arith, below, differs))
]
  where
    parts : (are_over ≡ true) × (is_over ≡ true)
    parts = and_parts are_over is_over both

-- so much less is left after a round more
pub round_more : (ranks rounds rank : ℕ) (old new : RecordingView) → HaveTurns ranks old new → rank < ranks → rounds + 1 < 2 ^ 32 →
    (0 < rounds → count_at old.left rank + rounds < 2 ^ 32) → count_at new.left rank + (rounds + 1) < 2 ^ 32
round_more ranks zero rank old new turns within most so_far = omega (arith, turns.less rank within, turns.few rank within)
round_more ranks (suc rounds) rank old new turns within most so_far = omega (arith, turns.less rank within, most, so_far (omega arith))
