-- What one more call changes about the active requests of ranks.
use Rattle.std.proofs.Common.{◌≡◌, ℕ, zero, suc, ◌<◌, ◌≤◌, ◌==◌, ◌&&◌, true, false, if◌then◌else◌, Option, Some, None, List, [], ◌∷◌, ◌++◌, length, map, get_or, replicate, refl, sym, ap, ◌∙◌, ⊎_elim, arith}
use Rattle.std.specs.List.{list_all}
use Rattle.std.proofs.lemmas.List.Folds.{list_all_at}
use Rattle.std.specs.Option.{is_some, option_or}
use Rattle.std.proofs.lemmas.Bool.{cases_eq, cases_Bool, both_ways, eq-eqb}
use Rattle.std.proofs.lemmas.Bool.Decides.{nat_tests}
use Rattle.std.proofs.lemmas.Grind.{common_steps}
use Rattle.mpicall.specs.declared.call.Call.{Call}
use Rattle.indexmap.specs.IndexMap.{spare}
use Rattle.callstore.specs.Recordings.{Lists, calls_of, appended}
use Rattle.callstore.specs.Requests.{does_start, does_complete, started_in, is_active, HasActive}
use Rattle.pairing.specs.inner.Starts.{cell_in, place_at, place_in, has_cell, IsActive, HasRoomToStart}
use Rattle.pairing.specs.declared.active.Request.{Request}
use Rattle.pairing.specs.declared.active.ActiveRequest.{ActiveRequest}
use Rattle.pairing.specs.declared.active.Active.{Active}
use Rattle.callstore.proofs.RecordingLemmas.{calls_of-appended, calls_of-appended_other}
use Rattle.callstore.proofs.RequestLemmas.{starts_it, completes_it, leaves_it}

-- what started a request once one more call is made
pub started-push : (calls : List Call) (call : Call) (req : ℕ) → started_in (calls ++ call ∷ []) req ≡ (if does_start req call then Some (length calls) else if does_complete req call then None else started_in calls req)
started-push calls call req =
    ⊎_elim
    (λ (here : does_start req call ≡ true). rw here (starts_it calls call req here))
    (λ (fails : does_start req call ≡ false).
    ⊎_elim
    (λ (passes : does_complete req call ≡ true). rw (fails, passes) (completes_it calls call req fails passes))
    (λ (stays : does_complete req call ≡ false). rw (fails, stays) (leaves_it calls call req fails stays))
    (cases_Bool (does_complete req call)))
    (cases_Bool (does_start req call))

-- a table that got what the call starts, once it lost what the call completes
pub active_more : (recording : Lists) (old less more : Active) (rank : ℕ) (call : Call) → ((r req : ℕ) → place_in less r req ≡ (if r == rank && does_complete req call then None else place_in old r req)) → ((r req : ℕ) → place_in more r req ≡ (if r == rank && does_start req call then Some (length (calls_of recording rank)) else place_in less r req)) → rank < length recording → IsActive recording old → IsActive (appended recording rank call) more
active_more recording old less more rank call taken given is_rank is_active r req =
    ⊎_elim
    (λ (same : r ≡ rank).
    let own = calls_of-appended recording rank call is_rank in
    let push = started-push (calls_of recording rank) call req in
    let before = is_active rank req in
    let lost = taken rank req in
    let got = given rank req in
    rw same (rw (own, push, got, lost, before) (grind (arith, common_steps))))
    (λ (differs : r ≡ rank → ⊥).
    let other = calls_of-appended_other recording rank r call differs in
    let before = is_active r req in
    let lost = taken r req in
    let got = given r req in
    rw (other, got, lost, before) (grind (arith, common_steps)))
    (cases_eq r rank)

-- requests with what started each are all active
pub all_started : (calls : List Call) (reqs starts : List ℕ) → map Some starts ≡ map (started_in calls) reqs → list_all (is_active calls) reqs ≡ true
all_started calls [] starts h = refl
all_started calls (req ∷ reqs) [] h = absurd cc
all_started calls (req ∷ reqs) (start ∷ starts) h =
    let here : started_in calls req ≡ Some start = cc in
    let rest = all_started calls reqs starts cc in
    rw (here, rest) refl

-- and those of which one isn't are not
pub one_inactive : (calls : List Call) (reqs : List ℕ) (i : ℕ) → i < length reqs → started_in calls (get_or reqs i 0) ≡ None → list_all (is_active calls) reqs ≡ (i == length reqs)
one_inactive calls reqs i less none =
    let differs : (i == length reqs) ≡ false = grind (arith, nat_tests) in
    list_all_at (is_active calls) reqs i 0 less (rw none refl) ∙ sym differs

-- cells that are all empty
pub no_cell : (cells i : ℕ) → get_or {A = Option ActiveRequest} (replicate cells None) i None ≡ None
no_cell zero i = refl
no_cell (suc cells) zero = refl
no_cell (suc cells) (suc i) = no_cell cells i

or_some : (o : Option ℕ) (place : ℕ) → is_some (option_or o (Some place)) ≡ true
or_some None place = refl
or_some (Some other) place = refl

-- a request that found another one in its cell is active
pub other_active : (recording : Lists) (active : Active) (entries : List (Request × ℕ)) → active.others.entries ≡ entries → 0 < length entries → IsActive recording active → HasActive recording
other_active recording active [] is some is_table = absurd (omega arith)
other_active recording active (entry ∷ entries) is some is_table = record {
  rank = entry.0.rank;
  req = entry.0.req;
  is_it =
      ap is_some (sym (is_table entry.0.rank entry.0.req))
      ∙ rw (is, eq-eqb entry.0.rank entry.0.rank refl, eq-eqb entry.0.req entry.0.req refl) (or_some (place_at entry.0.req (cell_in active entry.0.rank entry.0.req)) entry.1);
}

-- as cells are emptied, there is room for what the call starts
pub room_still : (old new : Active) (rank : ℕ) (call : Call) → ((r q : ℕ) → has_cell old r q ≡ true → has_cell new r q ≡ true) → spare old.others ≤ spare new.others → HasRoomToStart old rank call → HasRoomToStart new rank call
room_still old new rank call free more room req starts none =
    ⊎_elim (λ (yes : has_cell old rank req ≡ true). absurd (both_ways (has_cell new rank req) none (free rank req yes)))
    (λ (no : has_cell old rank req ≡ false). omega (arith, more, room req starts no))
    (cases_Bool (has_cell old rank req))
