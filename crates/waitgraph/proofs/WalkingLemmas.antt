-- How the walk goes on over a closed recording.
use Rattle.moves.specs.declared.reading.Reading.{Reading}
use Rattle.std.proofs.Common.{inl, inr, ◌≡◌, ◌≢◌, ◌⊎◌, ℕ, ◌-◌, ◌<◌, ◌≤◌, Bool, true, false, if◌then◌else◌, Option, Some, None, unwrap_or, List, length, map, refl, sym, ap, subst, ◌∙◌, ⊎_elim, arith}
use Rattle.std.specs.Prelude.{option_and_then, slice_index}
use Rattle.std.specs.List.{slice_get, range_with_len}
use Rattle.std.specs.Option.{option_map_or}
use Rattle.std.proofs.lemmas.List.{get_or_past}
use Rattle.std.proofs.lemmas.List.FromFn.{length-map-range_with_len, get_or-map-range_with_len}
use Rattle.std.proofs.lemmas.Option.{none-some, same_Some}
use Rattle.std.proofs.lemmas.Bool.{cases_lt, cases_eq, cases_Bool, false≢true}
use Rattle.mpicall.specs.Ending.{ends_list}
use Rattle.mpicall.specs.declared.call.Call.{Call}
use Rattle.mpicall.specs.declared.call.Call.TheVariants.{Finalize, Open}
use Rattle.mpigroup.specs.Groups.{Groups}
use Rattle.callstore.specs.Recordings.{Lists, calls_of, IsClosed}
use Rattle.moves.specs.Runs.{State}
use Rattle.moves.specs.Stands.{stands_of}
use Rattle.moves.specs.declared.need.Need.{Need}
use Rattle.moves.specs.declared.need.Need.TheVariants.{At}
use Rattle.waitgraph.specs.Stuck.{unmet_of}
use Rattle.waitgraph.specs.Waits.{Waits, needs_in}
use Rattle.waitgraph.specs.inner.Waits.{waits_of}
use Rattle.pairing.specs.LeftOpen.{leaves_open, is_left_open}
use Rattle.waitgraph.specs.inner.Held.{opened_of, standing_by, standing_at, standings_at, is_held}
use Rattle.waitgraph.specs.inner.Loose.{standing_of, are_held, hop_by, hop_of, FitTogether, GoesOnOrEnds}
use Rattle.waitgraph.specs.Held.{Set}
use Rattle.waitgraph.specs.inner.Causes.{hop_in, to_of, next_in, end_at, walks_of, causes_of}
use Rattle.waitgraph.specs.Causes.{TellsCauses}
use Rattle.waitgraph.specs.declared.next_hop.NextHop.{NextHop}
use Rattle.waitgraph.specs.declared.next_hop.NextHop.TheVariants.{To, Lacks, Nobody}
use Rattle.waitgraph.specs.declared.standing.Standing.{Standing}
use Rattle.waitgraph.specs.declared.standing.Standing.TheVariants.{AtFinalize, AtOpen, Stuck}
use Rattle.waitgraph.proofs.AmongLemmas.{Among, in_among}
use Rattle.waitgraph.proofs.UnmetLemmas.{waits_are}
use Rattle.waitgraph.proofs.GoingLemmas.{held_ranks_go_on}
use Rattle.waitgraph.proofs.StuckLemmas.{ends_at, StandsBefore, stands_before, not_past, awaited_stands}
use Rattle.waitgraph.proofs.WalkLaws.{IsWaiting, WalkGoesOn, next_is_waiting}
use Rattle.waitgraph.proofs.ListedLemmas.{walks_tell}
use Rattle.waitgraph.proofs.RangeLemmas.{in_table, past_table}

-- where a rank of the recording stands
pub standing_is : (recording : Lists) (stands : State) (rank : ℕ) → rank < length recording → standing_of (standings_at recording stands) rank ≡ standing_at recording stands rank
standing_is recording stands rank within =
    ap (λ (o : Option Standing). unwrap_or o AtFinalize) (in_table (standing_at recording stands) (length recording) rank AtFinalize within)

pub no_standing : (recording : Lists) (stands : State) (rank : ℕ) → length recording ≤ rank → standing_of (standings_at recording stands) rank ≡ AtFinalize
no_standing recording stands rank past =
    ap (λ (o : Option Standing). unwrap_or o AtFinalize) (past_table (standing_at recording stands) (length recording) rank past)

-- and whether its list was left open
pub opened_is : (recording : Lists) (rank : ℕ) → rank < length recording → opened_of recording rank ≡ is_left_open recording rank
opened_is recording rank within = get_or-map-range_with_len (is_left_open recording) 0 (length recording) rank rank false within (omega arith)

opened_within : (recording : Lists) (rank : ℕ) → opened_of recording rank ≡ true → rank < length recording
opened_within recording rank h =
    ⊎_elim
    (λ (within : rank < length recording). within)
    (λ (past : length recording ≤ rank).
    absurd (false≢true (sym (get_or_past (map (is_left_open recording) (range_with_len 0 (length recording))) rank false (omega (arith, length-map-range_with_len (is_left_open recording) 0 (length recording), past))) ∙ h)))
    (cases_lt rank (length recording))

-- a rank before its end is stuck
pub stuck_there : (call : Call) → ends_list call ≡ false → standing_by (Some call) ≡ Stuck
stuck_there Finalize h = absurd (false≢true (sym h))
stuck_there Open h = absurd (false≢true (sym h))
stuck_there _ h = refl

pub stands_stuck : (reading : Reading) (groups : Groups) (recording : Lists) (rank : ℕ) → rank < length recording → StandsBefore reading groups recording rank → standing_of (standings_at recording (stands_of reading groups recording)) rank ≡ Stuck
stands_stuck reading groups recording rank within before =
    standing_is recording (stands_of reading groups recording) rank within
    ∙ ap standing_by before.is_present ∙ stuck_there before.call before.is_no_end

pub open_there : (call : Call) → leaves_open call ≡ true → standing_by (Some call) ≡ AtOpen
open_there Open h = refl
open_there _ h = absurd (false≢true h)

-- whose list was left open is stuck, or at its open
pub opened_stands : (reading : Reading) (groups : Groups) (recording : Lists) → IsClosed recording → (rank : ℕ) → opened_of recording rank ≡ true → (standing_of (standings_at recording (stands_of reading groups recording)) rank ≡ Stuck) ⊎ (standing_of (standings_at recording (stands_of reading groups recording)) rank ≡ AtOpen)
opened_stands reading groups recording closed rank opened =
    let within = opened_within recording rank opened in
    let ends = ends_at (calls_of recording rank) (closed rank within) in
    let stand = slice_index (stands_of reading groups recording) rank in
    ⊎_elim
    (λ (same : stand ≡ ends.end).
    let last : length (calls_of recording rank) - 1 ≡ ends.end = omega (arith, ends.is_last) in
    let is_open : leaves_open ends.last ≡ true =
    ap (λ (o : Option Call). option_map_or leaves_open o false) (sym ends.is_there ∙ ap (λ (k : ℕ). slice_get (calls_of recording rank) k) (sym last)) ∙ sym (opened_is recording rank within) ∙ opened in
    inr (standing_is recording (stands_of reading groups recording) rank within
    ∙ ap standing_by (ap (λ (k : ℕ). slice_get (calls_of recording rank) k) same ∙ ends.is_there)
    ∙ open_there ends.last is_open))
    (λ (other : stand ≢ ends.end).
    inl (stands_stuck reading groups recording rank within (stands_before reading groups recording rank ends (let most = not_past reading groups recording rank ends in let apart = other in omega (arith, most, apart)))))
    (cases_eq stand ends.end)

pub fits : (reading : Reading) (groups : Groups) (recording : Lists) → IsClosed recording → FitTogether (opened_of recording) (standings_at recording (stands_of reading groups recording)) (waits_of reading groups recording)
fits reading groups recording closed = record {
  for_stuck = λ rank index peer place there.
      let among : Among (At peer place) (unmet_of reading groups recording rank) =
      in_among (At peer place) (unmet_of reading groups recording rank)
      (index, ap (λ (needs : List Need). slice_get needs index) (sym (waits_are reading groups recording (stands_of reading groups recording) rank)) ∙ there) in
      let awaited = awaited_stands reading groups recording closed rank peer place among in
      stands_stuck reading groups recording peer awaited.is_rank awaited.stands;
  left_open = opened_stands reading groups recording closed;
}

-- how the walk goes on from a rank
not_from : (opened held : Set) (waits : Waits) (rank : ℕ) (is : Bool) → held rank ≡ is → is ≡ false → (if held rank then hop_by opened held (needs_in waits rank) else None) ≡ None
not_from opened held waits rank is h isnt = rw (h, isnt) refl

pub walk_is : (reading : Reading) (groups : Groups) (recording : Lists) (rank : ℕ) → hop_in (walks_of reading groups recording) rank ≡ hop_of (opened_of recording) (standings_at recording (stands_of reading groups recording)) (waits_of reading groups recording) rank
walk_is reading groups recording rank =
    let standings = standings_at recording (stands_of reading groups recording) in
    let f = hop_of (opened_of recording) (standings_at recording (stands_of reading groups recording)) (waits_of reading groups recording) in
    let count : length (standings_at recording (stands_of reading groups recording)) ≡ length recording = length-map-range_with_len (standing_at recording (stands_of reading groups recording)) 0 (length recording) in
    ⊎_elim
    (λ (within : rank < length recording).
    ap (λ (step : Option (Option NextHop)). option_and_then (λ there. there) step) (in_table f (length (standings_at recording (stands_of reading groups recording))) rank None (omega (arith, count, within))))
    (λ (past : length recording ≤ rank).
    ap (λ (step : Option (Option NextHop)). option_and_then (λ there. there) step) (past_table f (length (standings_at recording (stands_of reading groups recording))) rank (omega (arith, count, past)))
    ∙ sym (rw (no_standing recording (stands_of reading groups recording) rank past) refl))
    (cases_lt rank (length recording))

some_hop : (opened held : Set) (o : Option NextHop) → GoesOnOrEnds opened held o → (there : NextHop) × (o ≡ Some there)
some_hop opened held None h = absurd h
some_hop opened held (Some there) h = (there, refl)

-- a held rank waits, and a rank that waits is held
pub held_waits : (reading : Reading) (groups : Groups) (recording : Lists) → IsClosed recording → (rank : ℕ) → is_held reading groups recording rank ≡ true → IsWaiting (walks_of reading groups recording) rank
held_waits reading groups recording closed rank held =
    let opened = opened_of recording in
    let standings = standings_at recording (stands_of reading groups recording) in
    let waits = waits_of reading groups recording in
    let some = some_hop (opened_of recording) (are_held (opened_of recording) (standings_at recording (stands_of reading groups recording)) (waits_of reading groups recording)) (hop_of (opened_of recording) (standings_at recording (stands_of reading groups recording)) (waits_of reading groups recording) rank)
    (held_ranks_go_on (opened_of recording) (standings_at recording (stands_of reading groups recording)) (waits_of reading groups recording) rank (fits reading groups recording closed) held) in
    record { there = some.0; goes_there = walk_is reading groups recording rank ∙ some.1 }

pub waiting_held : (reading : Reading) (groups : Groups) (recording : Lists) (rank : ℕ) → IsWaiting (walks_of reading groups recording) rank → is_held reading groups recording rank ≡ true
waiting_held reading groups recording rank waiting =
    ⊎_elim
    (λ (held : is_held reading groups recording rank ≡ true). held)
    (λ (not_held : is_held reading groups recording rank ≡ false).
    absurd (none-some waiting.there
    (sym (not_from (opened_of recording) (is_held reading groups recording) (waits_of reading groups recording) rank false not_held refl)
    ∙ sym (walk_is reading groups recording rank) ∙ waiting.goes_there)))
    (cases_Bool (is_held reading groups recording rank))

next_held : (opened held : Set) (o : Option NextHop) (next : ℕ) → GoesOnOrEnds opened held o → option_and_then to_of o ≡ Some next → held next ≡ true
next_held opened held None next h is = absurd h
next_held opened held (Some (To other)) next h is = subst (λ (k : ℕ). held k ≡ true) (same_Some other next is) h
next_held opened held (Some (Lacks other)) next h is = absurd (none-some next is)
next_held opened held (Some Nobody) next h is = absurd h

goes_on : (reading : Reading) (groups : Groups) (recording : Lists) → IsClosed recording → WalkGoesOn (walks_of reading groups recording)
goes_on reading groups recording closed =
    record {
      goes_on = λ rank next h.
          let waiting = next_is_waiting (walks_of reading groups recording) rank next (hop_in (walks_of reading groups recording) rank) refl h in
          let held = waiting_held reading groups recording rank waiting in
          held_waits reading groups recording closed next
          (next_held (opened_of recording) (is_held reading groups recording) (hop_of (opened_of recording) (standings_at recording (stands_of reading groups recording)) (waits_of reading groups recording) rank) next
          (held_ranks_go_on (opened_of recording) (standings_at recording (stands_of reading groups recording)) (waits_of reading groups recording) rank (fits reading groups recording closed) held)
          (ap (λ (step : Option NextHop). option_and_then to_of step) (sym (walk_is reading groups recording rank)) ∙ h));
    }

pub walk_count : (reading : Reading) (groups : Groups) (recording : Lists) → length (walks_of reading groups recording) ≡ length recording
walk_count reading groups recording =
    length-map-range_with_len (hop_of (opened_of recording) (standings_at recording (stands_of reading groups recording)) (waits_of reading groups recording)) 0 (length (standings_at recording (stands_of reading groups recording)))
    ∙ length-map-range_with_len (standing_at recording (stands_of reading groups recording)) 0 (length recording)

-- the walks from the held ranks that the search finds end in the causes that it finds
pub walks_end_in_found : (reading : Reading) (groups : Groups) (recording : Lists) → IsClosed recording → TellsCauses (next_in (walks_of reading groups recording)) (end_at (walks_of reading groups recording)) (is_held reading groups recording) (causes_of reading groups recording)
walks_end_in_found reading groups recording closed =
    walks_tell (walks_of reading groups recording) (is_held reading groups recording) (held_waits reading groups recording closed) (waiting_held reading groups recording) (goes_on reading groups recording closed)
