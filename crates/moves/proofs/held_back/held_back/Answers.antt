use Rattle.std.proofs.Common.{◌≡◌, ℕ, true, List, [], ◌∷◌, ◌++◌, length, sym, ap, subst, ◌∙◌}
use Rattle.mpigroup.specs.Groups.{Groups}
use Rattle.callstore.specs.Recordings.{Lists}
use Rattle.moves.specs.Analysed.{Analysed}
use Rattle.moves.specs.Runs.{IsTheEnd, StandsNoLater}
use Rattle.moves.specs.Needs.{can_move}
use Rattle.moves.specs.Readings.{is_no_laxer}
use Rattle.moves.specs.Stands.{stands_earlier}
use Rattle.mpigroup.proofs.ListLemmas.{filter_more, filter_no_more}
use Rattle.moves.proofs.ReadingLemmas.{stricter_readings_stand_no_later}
use Rattle.moves.proofs.held_back.held_back.Goals.{then-stands_earlier+in_ok-push, else-stands_earlier}
use Rattle.moves.proofs.held_back.held_back.Goals as goal

pub loop-rank-preserved : goal.loop-rank-preserved
loop-rank-preserved c =
    elim c.if-stands_earlier.branch [
      | then-stands_earlier+in_ok-push w ↦
          ap (λ v. v.items) w.ranks-is
          ∙ w.in_ok-push.ensures.items
          ∙ ap (λ (so_far : List ℕ). so_far ++ c.loop-rank.rank ∷ []) c.loop-rank.invariant
          ∙ sym (filter_more (stands_earlier c.args.first.now.stands c.args.second.now.stands) c.loop-rank.rank (sym c.stands_earlier.ensures ∙ w.if-stands_earlier.true))
      | else-stands_earlier w ↦
          ap (λ v. v.items) w.ranks-is
          ∙ c.loop-rank.invariant
          ∙ sym (filter_no_more (stands_earlier c.args.first.now.stands c.args.second.now.stands) c.loop-rank.rank (sym c.stands_earlier.ensures ∙ w.if-stands_earlier.false))
    ]

-- both stand where every run ends, over the same calls
no_later : (first second : Analysed) → first.groups ≡ second.groups → first.recording ≡ second.recording → is_no_laxer first.reading second.reading ≡ true → IsTheEnd (can_move first.reading first.groups first.recording) (length first.recording) first.stands → IsTheEnd (can_move second.reading second.groups second.recording) (length second.recording) second.stands → StandsNoLater first.stands second.stands
no_later first second groups recording readings first_end second_end =
    stricter_readings_stand_no_later first.reading second.reading first.groups first.recording first.stands second.stands readings first_end
    (subst (λ (g : Groups). IsTheEnd (can_move second.reading g first.recording) (length first.recording) second.stands) (sym groups)
    (subst (λ (r : Lists). IsTheEnd (can_move second.reading second.groups r) (length r) second.stands) (sym recording) second_end))

pub returns-clause-no_later : goal.returns-clause-no_later
returns-clause-no_later c = no_later c.args.first.now c.args.second.now c.requires.groups c.requires.recording c.requires.readings c.stands_are_the_end.ensures.end c.stands_are_the_end-2.ensures.end

pub returns-in_err-push-clause-no_later : goal.returns-in_err-push-clause-no_later
returns-in_err-push-clause-no_later c = no_later c.args.first.now c.args.second.now c.requires.groups c.requires.recording c.requires.readings c.stands_are_the_end.ensures.end c.stands_are_the_end-2.ensures.end
