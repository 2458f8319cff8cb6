-- Whether a rank may move on, by the call that stands where it does.
use Rattle.std.proofs.Common.{◌≡◌, ℕ, Bool, true, false, ◌&&◌, Option, Some, None, List, [], ◌∷◌, ◌<◌, ◌≤◌, length, get_or, option_map, refl, sym, ap, subst, ◌∙◌}
use Rattle.std.specs.Prelude.{slice_index, if◌then◌else◌}
use Rattle.std.specs.List.{slice_get, list_all}
use Rattle.std.specs.Option.{option_map_or}
use Rattle.std.proofs.lemmas.Option.{slice_get_past, slice_get-map}
use Rattle.mpicall.specs.declared.call.Call.{Call}
use Rattle.callstore.specs.Recordings.{calls_of}
use Rattle.pairing.specs.LeftOpen.{leaves_open}
use Rattle.waitgraph.specs.Pending.{PendingView, Waited, view_of, call_needs, pending_waits, waited_by, waited_at, nothing, is_over}
use Rattle.waitgraph.specs.PendingNeeds.{call_blocks}
use Rattle.waitgraph.specs.Stuck.{needs_in_order}
use Rattle.waitgraph.specs.inner.Scenes.{comes, known_in, staying, present_by, blocks_by, held_up_in}
use Rattle.moves.specs.declared.need.Need.{Need}
use Rattle.waitgraph.specs.declared.awaited.Awaited.{Awaited}
use Rattle.waitgraph.specs.declared.may_move.Scene.{Scene}
use Rattle.waitgraph.specs.declared.pending.PendingCall.{PendingCall}
use Rattle.waitgraph.proofs.SinkTableLemmas.{got}

and_true : (b : Bool) → (b && true) ≡ b
and_true true = refl
and_true false = refl

module _ (scene : Scene) (marks : List Bool) (rank : ℕ) where
  abbrev by_call : ℕ → Option Call → Bool
  by_call place o =
      is_over (comes scene marks) (option_map_or (waited_by scene.world.now.reading scene.world.now.pairs.groups scene.world.now.pairs.recording (known_in scene) rank place) o nothing)

  -- whether it may
  abbrev pub moves : Bool
  moves =
      is_over (comes scene marks) (waited_at scene.world.now.reading scene.world.now.pairs.groups scene.world.now.pairs.recording (known_in scene) rank (slice_index scene.stands.now rank))

  stands_there : (place : ℕ) (o : Option Call) → place ≡ slice_index scene.stands.now rank → slice_get (calls_of scene.world.now.pairs.recording rank) place ≡ o → by_call place o ≡ moves
  stands_there place o stand there =
      ap (by_call place) (sym there)
      ∙ ap (λ (p : ℕ). by_call p (slice_get (calls_of scene.world.now.pairs.recording rank) p)) stand

  -- where there is no call,
  pub at_no_call : (place : ℕ) → place ≡ slice_index scene.stands.now rank → slice_get (calls_of scene.world.now.pairs.recording rank) place ≡ None → true ≡ moves
  at_no_call place stand there = stands_there place None stand there

  -- where a call isn't the end of a list that was left open,
  pub at_call : (place : ℕ) (call : Call) (b : Bool) → place ≡ slice_index scene.stands.now rank → slice_get (calls_of scene.world.now.pairs.recording rank) place ≡ Some call → leaves_open call ≡ false → b ≡ list_all (comes scene marks) (call_needs scene.world.now.reading scene.world.now.pairs.groups scene.world.now.pairs.recording scene.sinks.now rank place call) → b ≡ moves
  at_call place call b stand there ends is =
      is
      ∙ sym (and_true (list_all (comes scene marks) (call_needs scene.world.now.reading scene.world.now.pairs.groups scene.world.now.pairs.recording scene.sinks.now rank place call)))
      ∙ ap (λ (opens : Bool). is_over (comes scene marks) (if opens then by_pending else by_needs)) (sym ends)
      ∙ stands_there place (Some call) stand there
    where
      by_pending : Waited
      by_pending = option_map_or (pending_waits scene.world.now.reading scene.world.now.pairs.groups scene.world.now.pairs.recording scene.sinks.now rank) (slice_get (known_in scene).pending rank) nothing

      by_needs : Waited
      by_needs = record { is_all = true; parts = record { is_all = true; needs = call_needs scene.world.now.reading scene.world.now.pairs.groups scene.world.now.pairs.recording scene.sinks.now rank place call } ∷ [] }

  -- and where it is
  pub at_open : (place : ℕ) (call : Call) (o : Option PendingView) (b : Bool) → place ≡ slice_index scene.stands.now rank → slice_get (calls_of scene.world.now.pairs.recording rank) place ≡ Some call → leaves_open call ≡ true → slice_get (known_in scene).pending rank ≡ o → b ≡ is_over (comes scene marks) (option_map_or (pending_waits scene.world.now.reading scene.world.now.pairs.groups scene.world.now.pairs.recording scene.sinks.now rank) o nothing) → b ≡ moves
  at_open place call o b stand there opens pending is =
      is
      ∙ ap (λ (o : Option PendingView). is_over (comes scene marks) (option_map_or (pending_waits scene.world.now.reading scene.world.now.pairs.groups scene.world.now.pairs.recording scene.sinks.now rank) o nothing)) (sym pending)
      ∙ ap (λ (opens : Bool). is_over (comes scene marks) (if opens then option_map_or (pending_waits scene.world.now.reading scene.world.now.pairs.groups scene.world.now.pairs.recording scene.sinks.now rank) (slice_get (known_in scene).pending rank) nothing else record { is_all = true; parts = record { is_all = true; needs = call_needs scene.world.now.reading scene.world.now.pairs.groups scene.world.now.pairs.recording scene.sinks.now rank place call } ∷ [] })) (sym opens)
      ∙ stands_there place (Some call) stand there

  -- what is known of its pending call
  pub pending_there : (place : ℕ) (call : PendingCall) → place ≡ rank → (place < length scene.pending.now) × ((d : PendingCall) → call ≡ get_or scene.pending.now place d) → slice_get (known_in scene).pending rank ≡ Some (view_of call)
  pending_there place call at is =
      slice_get-map view_of scene.pending.now rank ∙ ap (option_map view_of) (got scene.pending.now scene.pending.now place rank call refl at is)

  pub no_pending : (place : ℕ) → place ≡ rank → length scene.pending.now ≤ place → slice_get (known_in scene).pending rank ≡ None
  no_pending place at past =
      slice_get-map view_of scene.pending.now rank
      ∙ ap (option_map view_of) (slice_get_past scene.pending.now rank (subst (λ (k : ℕ). length scene.pending.now ≤ k) at past))

  -- what it waits for first, where it stays
  pub held_first : (blocks : List Awaited) → staying marks rank ≡ true → blocks ≡ blocks_by scene marks rank → slice_get blocks 0 ≡ held_up_in scene marks rank
  held_first blocks stays are =
      ap (λ (xs : List Awaited). slice_get xs 0) are
      ∙ ap (λ (b : Bool). if b then slice_get (blocks_by scene marks rank) 0 else None) (sym stays)

  pub held_not : staying marks rank ≡ false → None ≡ held_up_in scene marks rank
  held_not moves = ap (λ (b : Bool). if b then slice_get (blocks_by scene marks rank) 0 else None) (sym moves)

  -- what its call needs and doesn't come
  blocked_by : ℕ → Option Call → List Need
  blocked_by place o =
      option_map_or (call_blocks (comes scene marks) scene.world.now.reading scene.world.now.pairs.groups scene.world.now.pairs.recording scene.sinks.now rank place) o []

  pub blocked_there : (place : ℕ) (o : Option Call) → place ≡ slice_index scene.stands.now rank → slice_get (calls_of scene.world.now.pairs.recording rank) place ≡ o → needs_in_order (option_map_or (call_blocks (comes scene marks) scene.world.now.reading scene.world.now.pairs.groups scene.world.now.pairs.recording scene.sinks.now rank place) o []) ≡ present_by scene marks rank
  unfolding blocked_by
  blocked_there place o stand there =
      ap (λ (o : Option Call). needs_in_order (blocked_by place o)) (sym there)
      ∙ ap (λ (p : ℕ). needs_in_order (blocked_by p (slice_get (calls_of scene.world.now.pairs.recording rank) p))) stand
