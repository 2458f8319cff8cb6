-- What pending calls wait for, and whether some waits for anything.
use Rattle.std.proofs.Common.{◌≡◌, ℕ, zero, suc, ◌==◌, Bool, true, false, not, ◌||◌, Some, List, [], ◌∷◌, length, map, refl, sym, ap, ne_eqb, ◌∙◌}
use Rattle.std.specs.List.{slice_get}
use Rattle.std.specs.Option.{option_map_or}
use Rattle.moves.specs.declared.reading.Reading.{Reading}
use Rattle.moves.specs.declared.need.Need.{Need}
use Rattle.mpigroup.specs.Groups.{Groups}
use Rattle.callstore.specs.Recordings.{Lists}
use Rattle.waitgraph.specs.Pending.{PendingView, view_of, part_of, pass_all_or_one, pending_waits, is_over}
use Rattle.waitgraph.specs.inner.Scenes.{is_asked, items_in, known_in}
use Rattle.waitgraph.specs.declared.may_move.Scene.{Scene}
use Rattle.waitgraph.specs.declared.pending.Item.{Item}
use Rattle.waitgraph.specs.declared.pending.PendingCall.{PendingCall}
use Rattle.waitgraph.specs.declared.pending.Sink.{Sink}

or_more : (b : Bool) → (b || true) ≡ true
or_more true = refl
or_more false = refl

not_none : (n : ℕ) (rest : Bool) → (n ≡ 0 → ⊥) → (not (n == 0) || rest) ≡ true
not_none n rest some = ap (λ (b : Bool). not b || rest) (ne_eqb n 0 some)

-- one of the calls waits for something, so some call does
asked_at : (pending : List PendingCall) (rank : ℕ) → (length (option_map_or (λ call. call.items) (slice_get (map view_of pending) rank) []) ≡ 0 → ⊥) → is_asked pending ≡ true
asked_at [] rank some = absurd (some refl)
asked_at (call ∷ pending) zero some = not_none (length (view_of call).items) (is_asked pending) some
asked_at (call ∷ pending) (suc rank) some =
    ap (λ (rest : Bool). not (length (view_of call).items == 0) || rest) (asked_at pending rank some) ∙ or_more (not (length (view_of call).items == 0))

-- the rank's call waits for something
pub items_asked : (scene : Scene) (rank : ℕ) → (length (items_in scene rank) ≡ 0 → ⊥) → is_asked scene.pending.now ≡ true
items_asked scene rank some = asked_at scene.pending.now rank some

pub call_asked : (scene : Scene) (rank : ℕ) (call : PendingView) → slice_get (known_in scene).pending rank ≡ Some call → (length call.items ≡ 0 → ⊥) → is_asked scene.pending.now ≡ true
call_asked scene rank call at some =
    items_asked scene rank (λ none. some (sym (ap (λ o. length (option_map_or (λ (one : PendingView). one.items) o [])) at) ∙ none))

-- a call without items is over
pub nothing_asked : (passes : Need → Bool) (reading : Reading) (groups : Groups) (recording : Lists) (sinks : List Sink) (rank : ℕ) (call : PendingView) → length call.items ≡ 0
    → (call.is_all || length call.items == 0) ≡ is_over passes (pending_waits reading groups recording sinks rank call)
nothing_asked passes reading groups recording sinks rank call none = by_items call.is_all call.items none
  where
    by_items : (all : Bool) (items : List Item) → length items ≡ 0
        → (all || length items == 0) ≡ pass_all_or_one (all || length items == 0) (λ part. pass_all_or_one part.is_all passes part.needs) (map (part_of reading groups recording sinks rank) items)
    by_items true [] none = refl
    by_items false [] none = refl
    by_items all (item ∷ items) none = absurd (cc)
