-- The held ranks, those of a deadlocked set, are the ones that the search finds.
use Rattle.moves.specs.declared.reading.Reading.{Reading}
use Rattle.std.proofs.Common.{inl, inr, ◌≡◌, ℕ, zero, suc, ◌<◌, ◌≤◌, ◌==◌, Bool, true, false, not, ◌&&◌, ◌||◌, Option, Some, None, List, [], ◌∷◌, length, refl, sym, ap, subst, ◌∙◌, ⊎_elim}
use mathlib.Core.Bool.{Bool-set}
use Rattle.std.proofs.Math.Logic.{∥∥₁_elim}
use Rattle.std.specs.Prelude.{slice_index}
use Rattle.std.specs.List.{slice_get, list_any, list_all}
use Rattle.std.proofs.lemmas.Option.{slice_get_within, slice_get_past}
use Rattle.std.proofs.lemmas.Bool.{cases_Bool, cases_lt, false≢true, and_parts, and_from, or_left, or_right, not-true, not_from_false, eqb-true, eq-eqb}
use Rattle.mpicall.specs.Ending.{ends_list}
use Rattle.mpicall.specs.declared.call.Call.{Call}
use Rattle.mpigroup.specs.Groups.{Groups}
use Rattle.callstore.specs.Recordings.{Lists, calls_of, IsClosed}
use Rattle.moves.specs.Needs.{needs_of, is_met}
use Rattle.moves.specs.Stands.{stands_of}
use Rattle.moves.specs.declared.need.Need.{Need}
use Rattle.moves.specs.declared.need.Need.TheVariants.{At, Lacking}
use Rattle.pairing.specs.LeftOpen.{is_left_open}
use Rattle.pairing.proofs.RankLemmas.{calls_past}
use Rattle.waitgraph.specs.Stuck.{rank_needed, unmet_of}
use Rattle.waitgraph.specs.Waits.{needs_in}
use Rattle.waitgraph.specs.Held.{Set, is_missing, is_blocked, waits_for, IsDeadlocked, IsHeld, AreHeld, TheHeldAreTheGreatest}
use Rattle.waitgraph.specs.Stays.{HeldRanksStay}
use Rattle.waitgraph.specs.inner.Held.{opened_of, standing_by, standings_at, is_held}
use Rattle.waitgraph.specs.inner.Loose.{standing_of, is_on, loosens, are_loose, goes_on}
use Rattle.waitgraph.specs.inner.Least.{after_rounds}
use Rattle.waitgraph.specs.inner.Waits.{waits_of}
use Rattle.waitgraph.specs.declared.standing.Standing.TheVariants.{Stuck}
use Rattle.waitgraph.proofs.AmongLemmas.{Among, in_among}
use Rattle.waitgraph.proofs.GoingLemmas.{stuck_is_held, holds_by}
use Rattle.waitgraph.proofs.StaysLemmas.{stays_if_held, past_open}
use Rattle.waitgraph.proofs.StuckLemmas.{ends_without_needs}
use Rattle.waitgraph.proofs.UnmetLemmas.{none_past, unmet_from, unmet_all, waits_are}
use Rattle.waitgraph.proofs.WalkingLemmas.{standing_is, opened_is, stuck_there, fits}

-- one of a list passes
any_from : {A : Type 0} (p : A → Bool) (xs : List A) → list_any p xs ≡ true → (x : A) × Among x xs × (p x ≡ true)
any_from p [] h = absurd (false≢true h)
any_from {A} p (x ∷ xs) h =
    ⊎_elim
    (λ (is : p x ≡ true). (x, inl refl, is))
    (λ (no : p x ≡ false). let rest = any_from p xs (rw no at h) in (rest.0, inr rest.1, rest.2))
    (cases_Bool (p x))

any_among : {A : Type 0} (x : A) (p : A → Bool) (xs : List A) → Among x xs → p x ≡ true → list_any p xs ≡ true
any_among x p [] there is = absurd there
any_among x p (y ∷ ys) (inl e) is = or_left (p y) (list_any p ys) (ap p e ∙ is)
any_among x p (y ∷ ys) (inr there) is = or_right (p y) (list_any p ys) (any_among x p ys there is)

all_fails : {A : Type 0} (x : A) (p : A → Bool) (xs : List A) → Among x xs → p x ≡ false → list_all p xs ≡ false
all_fails x p [] there is = absurd there
all_fails x p (y ∷ ys) (inl e) is = let here : p y ≡ false = ap p e ∙ is in rw here refl
all_fails x p (y ∷ ys) (inr there) is =
    let later = all_fails x p ys there is in
    ⊎_elim
    (λ (yes : p y ≡ true). rw yes later)
    (λ (no : p y ≡ false). rw no refl)
    (cases_Bool (p y))

-- the need by which a rank waits for a set
pub record WaitsBy (reading : Reading) (groups : Groups) (recording : Lists) (set : Set) (rank : ℕ) : Type 0 where
  pub need : Need
  pub is_needed : Among need (needs_of reading groups recording rank (slice_index (stands_of reading groups recording) rank))
  pub is_unmet : is_met (stands_of reading groups recording) need ≡ false
  pub blocked : is_blocked recording set need ≡ true

pub waits_parts : (reading : Reading) (groups : Groups) (recording : Lists) (set : Set) (rank : ℕ) → waits_for reading groups recording set rank ≡ true → WaitsBy reading groups recording set rank
waits_parts reading groups recording set rank h =
    let stands = stands_of reading groups recording in
    let one = any_from (λ need. not (is_met (stands_of reading groups recording) need) && is_blocked recording set need) (needs_of reading groups recording rank (slice_index (stands_of reading groups recording) rank)) h in
    let both = and_parts (not (is_met (stands_of reading groups recording) one.0)) (is_blocked recording set one.0) one.2 in
    record { need = one.0; is_needed = one.1; is_unmet = not-true (is_met (stands_of reading groups recording) one.0) both.0; blocked = both.1 }

pub waits_from : (reading : Reading) (groups : Groups) (recording : Lists) (set : Set) (rank : ℕ) → WaitsBy reading groups recording set rank → waits_for reading groups recording set rank ≡ true
waits_from reading groups recording set rank by =
    any_among by.need (λ need. not (is_met (stands_of reading groups recording) need) && is_blocked recording set need) (needs_of reading groups recording rank (slice_index (stands_of reading groups recording) rank)) by.is_needed
    (and_from (not (is_met (stands_of reading groups recording) by.need)) (is_blocked recording set by.need) (not_from_false (is_met (stands_of reading groups recording) by.need) by.is_unmet) by.blocked)

-- whose list was left open
pub opened_all : (recording : Lists) (rank : ℕ) → opened_of recording rank ≡ is_left_open recording rank
opened_all recording rank =
    ⊎_elim
    (λ (within : rank < length recording). opened_is recording rank within)
    (λ (past : length recording ≤ rank). past_open recording rank past ∙ sym (rw (slice_get_past recording rank past) refl))
    (cases_lt rank (length recording))

-- a need holds a rank by either definition
either_way : (on open_list opened : Bool) → opened ≡ open_list → (on || not open_list) ≡ (not opened || on)
either_way true true opened is = rw is refl
either_way true false opened is = rw is refl
either_way false true opened is = rw is refl
either_way false false opened is = rw is refl

or_none : (on : Bool) → (on || false) ≡ on
or_none true = refl
or_none false = refl

pub blocked_is : (recording : Lists) (set : Set) (need : Need) → is_blocked recording set need ≡ goes_on (opened_of recording) set need
blocked_is recording set (At rank place) = or_none (set rank)
blocked_is recording set (Lacking rank) = either_way (set rank) (is_left_open recording rank) (opened_of recording rank) (opened_all recording rank)

-- a rank that needs a call is stuck
has_need_stuck : (reading : Reading) (groups : Groups) (recording : Lists) (rank : ℕ) (need : Need) → Among need (needs_of reading groups recording rank (slice_index (stands_of reading groups recording) rank)) → standing_of (standings_at recording (stands_of reading groups recording)) rank ≡ Stuck
has_need_stuck reading groups recording rank need there =
    by_present reading groups recording rank need (slice_get (calls_of recording rank) (slice_index (stands_of reading groups recording) rank)) refl there
  where
    by_present : (reading : Reading) (groups : Groups) (recording : Lists) (rank : ℕ) (need : Need) (o : Option Call) → slice_get (calls_of recording rank) (slice_index (stands_of reading groups recording) rank) ≡ o → Among need (needs_of reading groups recording rank (slice_index (stands_of reading groups recording) rank)) → standing_of (standings_at recording (stands_of reading groups recording)) rank ≡ Stuck
    by_present reading groups recording rank need None is there = absurd (rw is at there)
    by_present reading groups recording rank need (Some call) is there =
        ⊎_elim
        (λ (ends : ends_list call ≡ true).
        absurd (subst (λ (needs : List Need). Among need needs) (ends_without_needs reading groups recording rank (slice_index (stands_of reading groups recording) rank) call is ends) there))
        (λ (no_end : ends_list call ≡ false).
        standing_is recording (stands_of reading groups recording) rank
        (calls_past recording rank (slice_index (stands_of reading groups recording) rank) (slice_get_within (calls_of recording rank) (slice_index (stands_of reading groups recording) rank) call is))
        ∙ ap standing_by is ∙ stuck_there call no_end)
        (cases_Bool (ends_list call))

among_waits : (reading : Reading) (groups : Groups) (recording : Lists) (rank : ℕ) (need : Need) → Among need (needs_of reading groups recording rank (slice_index (stands_of reading groups recording) rank)) → is_met (stands_of reading groups recording) need ≡ false → Among need (needs_in (waits_of reading groups recording) rank)
among_waits reading groups recording rank need there unmet =
    subst (λ (needs : List Need). Among need needs) (sym (waits_are reading groups recording (stands_of reading groups recording) rank))
    (unmet_all reading groups recording (stands_of reading groups recording) rank need there unmet)

-- a need that blocks is not on a rank of a set that has no member
not_on : (recording : Lists) (set loose : Set) → ((rank : ℕ) → set rank ≡ true → loose rank ≡ false) → (need : Need) → is_blocked recording set need ≡ true → is_on (opened_of recording) loose need ≡ false
not_on recording set loose apart (At rank place) blocked = apart rank (sym (or_none (set rank)) ∙ blocked)
not_on recording set loose apart (Lacking rank) blocked =
    ⊎_elim
    (λ (member : set rank ≡ true).
    ⊎_elim
    (λ (is : opened_of recording rank ≡ true). rw is (apart rank member))
    (λ (no : opened_of recording rank ≡ false). rw no refl)
    (cases_Bool (opened_of recording rank)))
    (λ (no_member : set rank ≡ false).
    let ended : is_left_open recording rank ≡ false = not-true (is_left_open recording rank) (rw no_member at blocked) in
    let no : opened_of recording rank ≡ false = opened_all recording rank ∙ ended in
    rw no refl)
    (cases_Bool (set rank))

-- no rank of a deadlocked set is loose
not_loose : (reading : Reading) (groups : Groups) (recording : Lists) (set : Set) → IsDeadlocked reading groups recording set → (rounds rank : ℕ) → set rank ≡ true → after_rounds (loosens (opened_of recording) (standings_at recording (stands_of reading groups recording)) (waits_of reading groups recording)) rounds rank ≡ false
not_loose reading groups recording set dead zero rank member = refl
not_loose reading groups recording set dead (suc rounds) rank member =
    let by = waits_parts reading groups recording set rank (dead rank member) in
    let stuck = has_need_stuck reading groups recording rank by.need by.is_needed in
    let there = among_waits reading groups recording rank by.need by.is_needed by.is_unmet in
    rw stuck
    (all_fails by.need (is_on (opened_of recording) (after_rounds (loosens (opened_of recording) (standings_at recording (stands_of reading groups recording)) (waits_of reading groups recording)) rounds)) (needs_in (waits_of reading groups recording) rank) there
    (not_on recording set (after_rounds (loosens (opened_of recording) (standings_at recording (stands_of reading groups recording)) (waits_of reading groups recording)) rounds)
    (λ other is. not_loose reading groups recording set dead rounds other is) by.need by.blocked))

-- the search finds each held rank
pub found_held : (reading : Reading) (groups : Groups) (recording : Lists) (rank : ℕ) → IsHeld reading groups recording rank → is_held reading groups recording rank ≡ true
found_held reading groups recording rank h =
    let by = waits_parts reading groups recording h.0 rank (h.1 rank h.2) in
    stuck_is_held (standing_of (standings_at recording (stands_of reading groups recording)) rank)
    (are_loose (opened_of recording) (standings_at recording (stands_of reading groups recording)) (waits_of reading groups recording) rank)
    (has_need_stuck reading groups recording rank by.need by.is_needed)
    (not_loose reading groups recording h.0 h.1 (length (standings_at recording (stands_of reading groups recording))) rank h.2)

-- and those that it finds are a deadlocked set
pub found_is_deadlocked : (reading : Reading) (groups : Groups) (recording : Lists) → IsClosed recording → IsDeadlocked reading groups recording (is_held reading groups recording)
found_is_deadlocked reading groups recording closed rank held =
    let by = holds_by (opened_of recording) (standings_at recording (stands_of reading groups recording)) (waits_of reading groups recording) rank (fits reading groups recording closed) held in
    let among : Among by.need (unmet_of reading groups recording rank) =
    subst (λ (needs : List Need). Among by.need needs) (waits_are reading groups recording (stands_of reading groups recording) rank)
    (in_among by.need (needs_in (waits_of reading groups recording) rank) (by.index, by.is_there)) in
    let parts = unmet_from reading groups recording (stands_of reading groups recording) rank by.need among in
    waits_from reading groups recording (is_held reading groups recording) rank
    (record { need = by.need; is_needed = parts.0; is_unmet = parts.1; blocked = blocked_is recording (is_held reading groups recording) by.need ∙ by.is_so })

pub deadlocked_if : (reading : Reading) (groups : Groups) (recording : Lists) → ∥ IsClosed recording ∥₁ → IsDeadlocked reading groups recording (is_held reading groups recording)
deadlocked_if reading groups recording closed rank held = ∥∥₁_elim closed (Bool-set _ _) (λ are. found_is_deadlocked reading groups recording are rank held)

-- so these are the held ranks
pub held_are : (reading : Reading) (groups : Groups) (recording : Lists) → IsDeadlocked reading groups recording (is_held reading groups recording) → AreHeld reading groups recording (is_held reading groups recording)
held_are reading groups recording dead rank = (
  λ held. (is_held reading groups recording, dead, held),
  λ h. found_held reading groups recording rank h,
)

pub are_found : (reading : Reading) (groups : Groups) (recording : Lists) → IsClosed recording → AreHeld reading groups recording (is_held reading groups recording)
are_found reading groups recording closed = held_are reading groups recording (found_is_deadlocked reading groups recording closed)

pub the_held_are_the_greatest : TheHeldAreTheGreatest
the_held_are_the_greatest reading groups recording closed = record {
  held = is_held reading groups recording;
  are_held = are_found reading groups recording closed;
  is_deadlocked = found_is_deadlocked reading groups recording closed;
  is_greatest = λ set dead rank member. found_held reading groups recording rank (set, dead, member);
}

pub held_ranks_stay : HeldRanksStay
held_ranks_stay reading groups recording rank h = stays_if_held reading groups recording rank (found_held reading groups recording rank h)

-- a held rank is one of the recording
pub held_within : (reading : Reading) (groups : Groups) (recording : Lists) (rank : ℕ) → IsHeld reading groups recording rank → rank < length recording
held_within reading groups recording rank h =
    let by = waits_parts reading groups recording h.0 rank (h.1 rank h.2) in
    let among = unmet_all reading groups recording (stands_of reading groups recording) rank by.need by.is_needed by.is_unmet in
    ⊎_elim
    (λ (within : rank < length recording). within)
    (λ (past : length recording ≤ rank).
    absurd (subst (λ (needs : List Need). Among by.need needs) (none_past reading groups recording (stands_of reading groups recording) rank past) among))
    (cases_lt rank (length recording))

-- a larger set blocks no fewer needs
pub waits_more : (reading : Reading) (groups : Groups) (recording : Lists) (set more : Set) → ((rank : ℕ) → set rank ≡ true → more rank ≡ true) → (rank : ℕ) → waits_for reading groups recording set rank ≡ true → waits_for reading groups recording more rank ≡ true
waits_more reading groups recording set more within rank h =
    let by = waits_parts reading groups recording set rank h in
    let blocked : is_blocked recording more by.need ≡ true =
    ⊎_elim
    (λ (on : set (rank_needed by.need) ≡ true). or_left (more (rank_needed by.need)) (is_missing recording by.need) (within (rank_needed by.need) on))
    (λ (no : set (rank_needed by.need) ≡ false).
    let missing : is_missing recording by.need ≡ true = rw no at by.blocked in
    or_right (more (rank_needed by.need)) (is_missing recording by.need) missing)
    (cases_Bool (set (rank_needed by.need))) in
    waits_from reading groups recording more rank (record { need = by.need; is_needed = by.is_needed; is_unmet = by.is_unmet; blocked = blocked })

-- who waits for held ranks is held
pub waits_held : (reading : Reading) (groups : Groups) (recording : Lists) → IsDeadlocked reading groups recording (is_held reading groups recording) → (rank : ℕ) → waits_for reading groups recording (is_held reading groups recording) rank ≡ true → is_held reading groups recording rank ≡ true
waits_held reading groups recording dead rank waits =
    found_held reading groups recording rank (
      λ other. is_held reading groups recording other || (other == rank),
      λ other member.
          waits_more reading groups recording (is_held reading groups recording) (λ r. is_held reading groups recording r || (r == rank)) (λ r is. or_left (is_held reading groups recording r) (r == rank) is) other
          (⊎_elim
          (λ (is : is_held reading groups recording other ≡ true). dead other is)
          (λ (no : is_held reading groups recording other ≡ false).
          let same : other ≡ rank = eqb-true other rank (rw no at member) in
          subst (λ (r : ℕ). waits_for reading groups recording (is_held reading groups recording) r ≡ true) (sym same) waits)
          (cases_Bool (is_held reading groups recording other))),
      or_right (is_held reading groups recording rank) (rank == rank) (eq-eqb rank rank refl),
    )
