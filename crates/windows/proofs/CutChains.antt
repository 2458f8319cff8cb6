-- What windows tell one after another.
use Rattle.std.proofs.Common.{◌≡◌, ◌↔◌, true, List, [], ◌∷◌, length, map, refl, ap, ◌∙◌, arith}
use Rattle.std.proofs.lemmas.Bool.{and_parts}
use Rattle.mpigroup.specs.Groups.{Groups}
use Rattle.callstore.specs.Recordings.{Lists}
use Rattle.moves.specs.declared.need.Need.{Need}
use Rattle.waitgraph.specs.Stuck.{unmet_of}
use Rattle.windows.specs.Cuts.{Cut, second_window, place_in_whole, need_in_whole}
use Rattle.windows.specs.Clean.{IsRightRecording, is_clean}
use Rattle.windows.specs.Chains.{left_of, are_clean, place_through, need_through, AfterFreeWindowsTheRestDecides, StuckInTheFirstThatIsNotFree}
use Rattle.windows.proofs.CutWindows.{second_ranks}
use Rattle.windows.proofs.CutHeld.{after_a_free_window_the_second_decides, stuck_in_the_first_is_held_in_the_whole}
use Rattle.windows.proofs.RightWindows.{windows_are_right}

same_needs : (needs : List Need) → needs ≡ map (λ need. need) needs
same_needs [] = refl
same_needs (need ∷ rest) = ap (λ (more : List Need). need ∷ more) (same_needs rest)

mapped_twice : (f g : Need → Need) (needs : List Need) → map f (map g needs) ≡ map (λ need. f (g need)) needs
mapped_twice f g [] = refl
mapped_twice f g (need ∷ rest) = ap (λ (more : List Need). f (g need) ∷ more) (mapped_twice f g rest)

both : {P Q R : Type 0} → P ↔ Q → Q ↔ R → P ↔ R
both one two = (λ p. two.0 (one.0 p), λ r. one.1 (two.1 r))

itself : {P : Type 0} → P ↔ P
itself = (λ p. p, λ p. p)

pub after_free_windows_the_rest_decides : AfterFreeWindowsTheRestDecides
after_free_windows_the_rest_decides reading groups whole [] right clean free = record {
  stands = λ rank. refl;
  unmet = λ rank. same_needs (unmet_of reading groups whole rank);
  held = λ rank. itself;
  verdict = λ verdict. itself;
  causes = λ causes. itself;
}
after_free_windows_the_rest_decides reading groups whole (cut ∷ cuts) right clean free =
    let parts = and_parts (is_clean groups whole cut) (are_clean groups (second_window whole cut) cuts) clean in
    let here = after_a_free_window_the_second_decides reading groups whole cut right parts.0 free.0 in
    let again = (windows_are_right groups whole cut right parts.0).1 in
    let rest = after_free_windows_the_rest_decides reading groups (second_window whole cut) cuts again parts.1 free.1 in
    record {
      stands = λ rank. here.stands rank ∙ ap (place_in_whole whole cut rank) (rest.stands rank);
      unmet = λ rank.
          here.unmet rank
          ∙ ap (map (need_in_whole whole cut)) (rest.unmet rank)
          ∙ mapped_twice (need_in_whole whole cut) (need_through (second_window whole cut) cuts) (unmet_of reading groups (left_of (second_window whole cut) cuts) rank);
      held = λ rank. both (here.held rank) (rest.held rank);
      verdict = λ verdict. both (here.verdict verdict) (rest.verdict verdict);
      causes = λ causes. both (here.causes causes) (rest.causes causes);
    }

-- what is left is right again, and has as many ranks
left_right : (groups : Groups) (whole : Lists) (cuts : List Cut) → IsRightRecording groups whole → are_clean groups whole cuts ≡ true → IsRightRecording groups (left_of whole cuts) × (length (left_of whole cuts) ≡ length whole)
left_right groups whole [] right clean = (right, refl)
left_right groups whole (cut ∷ cuts) right clean =
    let parts = and_parts (is_clean groups whole cut) (are_clean groups (second_window whole cut) cuts) clean in
    let rest = left_right groups (second_window whole cut) cuts (windows_are_right groups whole cut right parts.0).1 parts.1 in
    (rest.0, rest.1 ∙ second_ranks whole cut)

pub stuck_in_the_first_that_is_not_free : StuckInTheFirstThatIsNotFree
stuck_in_the_first_that_is_not_free reading groups whole cuts cut rank right clean free clean_there is_rank stuck =
    let all = after_free_windows_the_rest_decides reading groups whole cuts right clean free in
    let left = left_right groups whole cuts right clean in
    let there = stuck_in_the_first_is_held_in_the_whole reading groups (left_of whole cuts) cut left.0 clean_there rank (omega (arith, is_rank, left.1)) stuck in
    record {
      held = (all.held rank).1 there.held;
      stands = all.stands rank ∙ ap (place_through whole cuts rank) there.stands;
      unmet = all.unmet rank ∙ ap (map (need_through whole cuts)) there.unmet;
    }
