-- What the unmet needs of a rank are.
use Rattle.moves.specs.declared.reading.Reading.{Reading}
use Rattle.std.proofs.Common.{true, false, ◌≡◌, ℕ, ◌<◌, ◌≤◌, Bool, Option, Some, is_some, List, [], ◌++◌, length, flat_map, refl, sym, ap, ◌∙◌, ⊎_elim, append_assoc, append-nil}
use Rattle.std.specs.Prelude.{unwrap_or, slice_index, if◌then◌else◌}
use Rattle.std.specs.List.{slice_get, filter}
use Rattle.std.specs.Option.{option_map_or}
use Rattle.std.proofs.lemmas.List.Elements.{filter-append}
use Rattle.std.proofs.lemmas.Option.{slice_get_past}
use Rattle.mpicall.specs.declared.call.Call.{Call}
use Rattle.std.proofs.lemmas.Bool.{cases_lt, not-true, not_from_false}
use Rattle.mpigroup.specs.Groups.{Groups}
use Rattle.callstore.specs.Recordings.{Lists, calls_of}
use Rattle.callstore.specs.Requests.{starts, completes}
use Rattle.moves.specs.Runs.{State}
use Rattle.moves.specs.Needs.{needs_of, needs_of_call, operation_needs, request_needs, is_met}
use Rattle.moves.specs.Stands.{stands_of}
use Rattle.moves.specs.declared.need.Need.{Need}
use Rattle.waitgraph.specs.Stuck.{are_needs_in_order, unmet_at, UnmetNeedsAreToldInOrder}
use Rattle.waitgraph.specs.inner.Stuck.{is_unmet}
use Rattle.waitgraph.specs.inner.Waits.{waits_at}
use Rattle.waitgraph.specs.Waits.{needs_in}
use Rattle.waitgraph.proofs.AmongLemmas.{Among, among_in, in_among, kept_among, among_kept, with_needs_from, with_needs_new, with_needs_in_order}
use Rattle.waitgraph.proofs.RangeLemmas.{in_table, past_table}

-- a rank that the recording lacks needs nothing
pub none_past : (reading : Reading) (groups : Groups) (recording : Lists) (stands : State) (rank : ℕ) → length recording ≤ rank → unmet_at reading groups recording stands rank ≡ []
unfolding unmet_at
none_past reading groups recording stands rank past = rw (slice_get_past recording rank past) refl

-- the waits of a rank are its unmet needs
pub waits_are : (reading : Reading) (groups : Groups) (recording : Lists) (stands : State) (rank : ℕ) → needs_in (waits_at reading groups recording stands) rank ≡ unmet_at reading groups recording stands rank
waits_are reading groups recording stands rank =
    ⊎_elim
    (λ (within : rank < length recording). ap (λ (needs : Option (List Need)). unwrap_or needs []) (in_table (unmet_at reading groups recording stands) (length recording) rank [] within))
    (λ (past : length recording ≤ rank).
    ap (λ (needs : Option (List Need)). unwrap_or needs []) (past_table (unmet_at reading groups recording stands) (length recording) rank past)
    ∙ sym (none_past reading groups recording stands rank past))
    (cases_lt rank (length recording))

-- what is unmet is needed and not met
pub unmet_from : (reading : Reading) (groups : Groups) (recording : Lists) (stands : State) (rank : ℕ) (need : Need) → Among need (unmet_at reading groups recording stands rank) → Among need (needs_of reading groups recording rank (slice_index stands rank)) × (is_met stands need ≡ false)
unfolding unmet_at
unmet_from reading groups recording stands rank need h =
    let needs = needs_of reading groups recording rank (slice_index stands rank) in
    ⊎_elim
    (λ (none : ⊥). absurd none)
    (λ (kept : Among need (filter (is_unmet stands) needs)).
    let parts = kept_among need (is_unmet stands) needs kept in
    (parts.0, not-true (is_met stands need) parts.1))
    (with_needs_from need [] (filter (is_unmet stands) needs) h)

-- and what is needed and not met is listed
pub unmet_all : (reading : Reading) (groups : Groups) (recording : Lists) (stands : State) (rank : ℕ) (need : Need) → Among need (needs_of reading groups recording rank (slice_index stands rank)) → is_met stands need ≡ false → Among need (unmet_at reading groups recording stands rank)
unfolding unmet_at
unmet_all reading groups recording stands rank need h unmet =
    let needs = needs_of reading groups recording rank (slice_index stands rank) in
    with_needs_new need [] (filter (is_unmet stands) needs) (among_kept need (is_unmet stands) needs h (not_from_false (is_met stands need) unmet))

pub unmet_in_order : (reading : Reading) (groups : Groups) (recording : Lists) (stands : State) (rank : ℕ) → are_needs_in_order (unmet_at reading groups recording stands rank) ≡ true
unfolding unmet_at
unmet_in_order reading groups recording stands rank = with_needs_in_order [] (filter (is_unmet stands) (needs_of reading groups recording rank (slice_index stands rank))) refl

pub unmet_needs_are_told_in_order : UnmetNeedsAreToldInOrder
unmet_needs_are_told_in_order reading groups recording rank =
    let stands = stands_of reading groups recording in
    let needs = needs_of reading groups recording rank (slice_index stands rank) in
    record {
      stand_in_order = unmet_in_order reading groups recording stands rank;
      are_needs = λ need h. among_in need needs (unmet_from reading groups recording stands rank need (in_among need (unmet_at reading groups recording stands rank) h)).0;
      are_unmet = λ need h. (unmet_from reading groups recording stands rank need (in_among need (unmet_at reading groups recording stands rank) h)).1;
      are_all = λ need h unmet. among_in need (unmet_at reading groups recording stands rank) (unmet_all reading groups recording stands rank need (in_among need needs h) unmet);
    }

-- what a call needs where it stands
needs_there : (reading : Reading) (groups : Groups) (recording : Lists) (rank place : ℕ) (call : Call) (b : Bool) → slice_get (calls_of recording rank) place ≡ Some call → is_some (starts call) ≡ b → needs_of reading groups recording rank place ≡ (if b then [] else operation_needs reading groups recording rank place call ++ flat_map (request_needs reading groups recording rank place) (completes call))
needs_there reading groups recording rank place call b there is =
    ap (λ (o : Option Call). option_map_or (needs_of_call reading groups recording rank place) o []) there
    ∙ ap (λ (b : Bool). if b then [] else operation_needs reading groups recording rank place call ++ flat_map (request_needs reading groups recording rank place) (completes call)) is

-- is added to a list: a call that starts nothing by its operation and the requests that it completes,
pub adds_needs : (reading : Reading) (groups : Groups) (recording : Lists) (rank place : ℕ) (call : Call) (p : Need → Bool) (old mid new : List Need) → slice_get (calls_of recording rank) place ≡ Some call → is_some (starts call) ≡ false → mid ≡ old ++ filter p (operation_needs reading groups recording rank place call) → new ≡ mid ++ filter p (flat_map (request_needs reading groups recording rank place) (completes call)) → new ≡ old ++ filter p (needs_of reading groups recording rank place)
adds_needs reading groups recording rank place call p old mid new there is first next =
    next
    ∙ ap (λ (needs : List Need). needs ++ filter p (flat_map (request_needs reading groups recording rank place) (completes call))) first
    ∙ append_assoc old (filter p (operation_needs reading groups recording rank place call)) (filter p (flat_map (request_needs reading groups recording rank place) (completes call)))
    ∙ ap (λ (needs : List Need). old ++ needs)
    (sym (filter-append p (operation_needs reading groups recording rank place call) (flat_map (request_needs reading groups recording rank place) (completes call)))
    ∙ ap (filter p) (sym (needs_there reading groups recording rank place call false there is)))

-- and one that starts a request by nothing
pub adds_nothing : (reading : Reading) (groups : Groups) (recording : Lists) (rank place : ℕ) (call : Call) (p : Need → Bool) (old : List Need) → slice_get (calls_of recording rank) place ≡ Some call → is_some (starts call) ≡ true → old ≡ old ++ filter p (needs_of reading groups recording rank place)
adds_nothing reading groups recording rank place call p old there is =
    sym (ap (λ (needs : List Need). old ++ filter p needs) (needs_there reading groups recording rank place call true there is) ∙ append-nil old)
