-- What is received and left once one taker was asked.
use Rattle.std.proofs.Common.{◌≡◌, ℕ, ◌<◌, true, Option, Some, None, List, [], ◌∷◌, ◌++◌, length, get_or, map, refl, sym, ap, subst, ◌∙◌, arith, slice_get, slice_set}
use Rattle.std.proofs.Math.Seq.{map-set_same}
use Rattle.std.proofs.lemmas.List.{length-map}
use Rattle.std.proofs.lemmas.Option.{slice_get-map, get_or_from_slice_get, slice_get-get_or}
use Rattle.rankfeed.specs.Items.{end_mark_of, are_ended, IsFeed}
use Rattle.mpicall.specs.declared.call.Call.{Call}
use Rattle.rankfeed.specs.Answers.{Receives, Looks, came_end, told_end}
use Rattle.rankfeed.specs.inner.Answers.{came_with}
use Rattle.rankfeed.specs.Rings.{taker_ring, received_by, left_for}
use Rattle.rankfeed.specs.declared.answer.Came.{Came}
use Rattle.rankfeed.specs.declared.answer.Took.{Took}
use Rattle.mpicall.specs.declared.fault.Ending.{Ending}
use Rattle.mpicall.specs.declared.fault.Ending.TheVariants.{Sealed, Torn}
use Rattle.rankfeed.specs.declared.item.Item.{Item}
use Rattle.rankfeed.specs.declared.item.Item.TheVariants.{Entry}
use Rattle.rankfeed.specs.declared.ring.Taker.{Taker}
use Rattle.gather.specs.Collected.{items_of}
use Rattle.gather.specs.Takers.{Takes}
use Rattle.mpigroup.proofs.ListLemmas.{slice_get-set_same, slice_get-set_other}

-- the items of the taker at a place
pub items_at : (of : Taker → List Item) (takers : List Taker) (rank : ℕ) (taker : Taker) → slice_get takers rank ≡ Some taker → items_of (map of takers) rank ≡ of taker
items_at of takers rank taker at = rw (slice_get-map of takers rank, at) refl

-- where a taker is as it was, so are its items
pub items_stay : (of : Taker → List Item) (old new : List Taker) (rank : ℕ) → slice_get new rank ≡ slice_get old rank → items_of (map of new) rank ≡ items_of (map of old) rank
items_stay of old new rank same = rw (slice_get-map of new rank, slice_get-map of old rank, same) refl

pub takes_one : (takers : List Taker) (rank : ℕ) (was now : Taker) (found : Took) → rank < length takers → slice_get takers rank ≡ Some was → taker_ring now ≡ taker_ring was → Receives (end_mark_of (received_by was)) found (received_by was) (received_by now) → IsFeed (received_by now) → (are_ended (received_by was ++ left_for was) ≡ true → received_by now ++ left_for now ≡ received_by was ++ left_for was) → (are_ended (received_by was ++ left_for was) ≡ true → ¬ (found ≡ Took.Empty)) → Takes rank found takers (slice_set takers rank now)
takes_one takers rank was now found within at name receives feed left never =
    let old_received = items_at received_by takers rank was at in
    let old_left = items_at left_for takers rank was at in
    let new_at = slice_get-set_same takers rank now within in
    let new_received = items_at received_by (slice_set takers rank now) rank now new_at in
    let new_left = items_at left_for (slice_set takers rank now) rank now new_at in record {
      names = map-set_same taker_ring takers rank now was (name ∙ ap taker_ring (sym (get_or_from_slice_get takers rank was was at)));
      others = λ other differs. slice_get-set_other takers rank other now differs;
      receives = rw (old_received, new_received) receives;
      is_feed = rw new_received feed;
      left = rw (old_received, new_received, old_left, new_left) left;
      never_empty = rw (old_received, old_left) never;
    }

-- the same, where the taker was read at its place
pub takes_at : (takers : List Taker) (place rank : ℕ) (was now : Taker) (found : Took) → place ≡ rank → rank < length takers → was ≡ get_or takers place was → taker_ring now ≡ taker_ring was → Receives (end_mark_of (received_by was)) found (received_by was) (received_by now) → IsFeed (received_by now) → (are_ended (received_by was ++ left_for was) ≡ true → received_by now ++ left_for now ≡ received_by was ++ left_for was) → (are_ended (received_by was ++ left_for was) ≡ true → ¬ (found ≡ Took.Empty)) → Takes rank found takers (slice_set takers place now)
takes_at takers place rank was now found same within read name receives feed left never =
    subst (λ (r : ℕ). Takes r found takers (slice_set takers place now)) same
    (takes_one takers place was now found (omega (arith, within, same)) (slice_get-get_or takers place was (omega (arith, within, same)) ∙ ap Some (sym read)) name receives feed left never)

-- as many takers as before
pub takers_stay : {rank : ℕ} {found : Took} (old new : List Taker) → Takes rank found old new → length new ≡ length old
takers_stay old new takes = sym (length-map new taker_ring) ∙ ap length takes.names ∙ length-map old taker_ring

came_other : (earlier : Ending) → ¬ (Came.Record ≡ came_end earlier)
came_other Sealed = λ e. cc
came_other (Torn fault) = λ e. cc

-- what is received once the record that a look found is passed
pub look_passed : (end : Option Ending) (call : Call) (old mid new : List Item) → Looks end Came.Record old mid → new ≡ mid ++ Entry call ∷ [] → Receives end (Took.Record call) old new
look_passed None call old mid new looks passed = passed ∙ ap (λ (items : List Item). items ++ Entry call ∷ []) looks
look_passed (Some earlier) call old mid new looks passed = absurd (came_other earlier looks.0)

end_told : (call : Call) (earlier : Ending) → came_with (came_end earlier) call ≡ told_end earlier
end_told call Sealed = refl
end_told call (Torn fault) = refl

-- what is received once a look finds no record
pub look_took : (end : Option Ending) (came : Came) (call : Call) (old new : List Item) → ¬ (came ≡ Came.Record) → Looks end came old new → Receives end (came_with came call) old new
look_took None Came.Record call old new other looks = absurd (other refl)
look_took None Came.Empty call old new other looks = looks
look_took None Came.Sealed call old new other looks = looks
look_took None (Came.Torn fault) call old new other looks = looks
look_took (Some earlier) came call old new other looks = (ap (λ (c : Came). came_with c call) looks.0 ∙ end_told call earlier, looks.1)
