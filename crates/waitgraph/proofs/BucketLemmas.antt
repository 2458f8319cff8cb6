-- Spare sends by the rank to which they go and sinks by their rank, added one by one.
use Rattle.std.proofs.Common.{◌≡◌, ◌≢◌, ℕ, zero, suc, ◌<◌, ◌==◌, true, false, if◌then◌else◌, Option, Some, None, List, [], ◌∷◌, ◌++◌, length, get_or, set, refl, sym, ap, ◌∙◌, append-nil}
use Rattle.std.specs.Prelude.{Vec, vec_items}
use Rattle.std.specs.Option.{option_and_then, option_map_or, option_to_list}
use Rattle.std.proofs.lemmas.Bool.{eq-eqb, ne_eqb}
use Rattle.std.proofs.lemmas.Option.{slice_get-get_or}
use Rattle.mpigroup.specs.Groups.{Groups}
use Rattle.mpigroup.proofs.ListLemmas.{slice_get-set_same, slice_get-set_other}
use Rattle.callstore.specs.declared.envelope.Envelope.{Envelope}
use Rattle.callstore.specs.declared.envelope.Half.TheVariants.{Recv as RecvHalf}
use Rattle.callstore.specs.Envelopes.{rank_of_half}
use Rattle.callstore.specs.Recordings.{Lists}
use Rattle.waitgraph.specs.Pending.{spare_at, spare_if, spare_to}
use Rattle.waitgraph.specs.inner.Buckets.{bucket}
use Rattle.waitgraph.specs.declared.pending.Spare.{Spare}

pub bucket_own : {A Z : Type 0} (spares : List (Vec A Z)) (rank : ℕ) (own : Vec A Z) → rank < length spares → bucket (set spares rank own) rank ≡ vec_items own
bucket_own {A} {Z} spares rank own within = ap (λ (o : Option (Vec A Z)). option_map_or vec_items o []) (slice_get-set_same spares rank own within)

pub bucket_other : {A Z : Type 0} (spares : List (Vec A Z)) (rank other : ℕ) (own : Vec A Z) → other ≢ rank → bucket (set spares rank own) other ≡ bucket spares other
bucket_other {A} {Z} spares rank other own differs = ap (λ (o : Option (Vec A Z)). option_map_or vec_items o []) (slice_get-set_other spares rank other own differs)

pub bucket_at : {A Z : Type 0} (spares : List (Vec A Z)) (place rank : ℕ) (own : Vec A Z) → place ≡ rank → rank < length spares → own ≡ get_or spares place own → bucket spares rank ≡ vec_items own
bucket_at {A} {Z} spares place rank own at within is =
    ap (λ (o : Option (Vec A Z)). option_map_or vec_items o []) (slice_get-get_or spares rank own within)
    ∙ ap (λ (v : Vec A Z). vec_items v) (ap (λ (k : ℕ). get_or spares k own) (sym at) ∙ sym is)

-- what the call at the place adds
pub none_to : (groups : Groups) (recording : Lists) (rank sender place : ℕ) → spare_at groups recording sender place ≡ None → spare_to groups recording rank sender place ≡ None
none_to groups recording rank sender place none = ap (λ (o : Option Envelope). option_and_then (spare_if groups rank sender place) o) none

to_is : (groups : Groups) (recording : Lists) (rank sender place : ℕ) (e : Envelope) (dest : Option ℕ) → spare_at groups recording sender place ≡ Some e → rank_of_half groups RecvHalf e ≡ dest → spare_to groups recording rank sender place ≡ (if option_map_or (λ d. d == rank) dest false then Some (record { sender = sender; place = place; envelope = e }) else None)
to_is groups recording rank sender place e dest spare goes =
    ap (λ (o : Option Envelope). option_and_then (spare_if groups rank sender place) o) spare
    ∙ rw goes refl

pub nobody_to : (groups : Groups) (recording : Lists) (rank sender place : ℕ) (e : Envelope) → spare_at groups recording sender place ≡ Some e → rank_of_half groups RecvHalf e ≡ None → spare_to groups recording rank sender place ≡ None
nobody_to groups recording rank sender place e spare goes = to_is groups recording rank sender place e None spare goes

pub other_to : (groups : Groups) (recording : Lists) (rank sender place dest : ℕ) (e : Envelope) → spare_at groups recording sender place ≡ Some e → rank_of_half groups RecvHalf e ≡ Some dest → rank ≢ dest → spare_to groups recording rank sender place ≡ None
other_to groups recording rank sender place dest e spare goes differs =
    let no : (dest == rank) ≡ false = ne_eqb dest rank (λ same. differs (sym same)) in
    to_is groups recording rank sender place e (Some dest) spare goes ∙ rw no refl

pub own_to : (groups : Groups) (recording : Lists) (sender place dest : ℕ) (e : Envelope) (spare : Spare) → spare_at groups recording sender place ≡ Some e → rank_of_half groups RecvHalf e ≡ Some dest → spare ≡ record { sender = sender; place = place; envelope = e } → spare_to groups recording dest sender place ≡ Some spare
own_to groups recording sender place dest e spare at goes is =
    let yes : (dest == dest) ≡ true = eq-eqb dest dest refl in
    to_is groups recording dest sender place e (Some dest) at goes ∙ rw yes (ap (λ (s : Spare). Some s) (sym is))

-- where nothing is added
pub adds_none : (before : List Spare) (o : Option Spare) → o ≡ None → before ≡ before ++ option_to_list o
adds_none before o none = sym (ap (λ (x : Option Spare). before ++ option_to_list x) none ∙ append-nil before)

pub adds_one : (before later : List Spare) (spare : Spare) (o : Option Spare) → later ≡ before ++ spare ∷ [] → o ≡ Some spare → later ≡ before ++ option_to_list o
adds_one before later spare o is some = is ∙ sym (ap (λ (x : Option Spare). before ++ option_to_list x) some)

-- no spare sends yet
pub none_more : {A Z : Type 0} (spares : List (Vec A Z)) (own : Vec A Z) → ((rank : ℕ) → bucket spares rank ≡ []) → vec_items own ≡ [] → (rank : ℕ) → bucket (spares ++ own ∷ []) rank ≡ []
none_more {A} {Z} spares own none new rank = by_list spares none rank
  where
    by_list : (spares : List (Vec A Z)) → ((rank : ℕ) → bucket spares rank ≡ []) → (rank : ℕ) → bucket (spares ++ own ∷ []) rank ≡ []
    by_list [] none zero = new
    by_list [] none (suc rank) = refl
    by_list (s ∷ spares) none zero = none 0
    by_list (s ∷ spares) none (suc rank) = by_list spares (λ k. none (suc k)) rank
