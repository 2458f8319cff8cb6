-- What looks answer, and that a rank that waits cannot move on.
use Rattle.moves.specs.declared.reading.Reading.{Reading}
use Rattle.std.proofs.Common.{◌≡◌, ℕ, suc, ◌+◌, ◌<◌, ◌≤◌, Bool, true, false, Option, Some, None, List, [], ◌∷◌, ◌++◌, length, map, flat_map, take, get_or, refl, sym, ap, subst, ◌∙◌, ⊎_elim, arith}
use Rattle.std.specs.Prelude.{if◌then◌else◌, nat_le, nat_lt}
use Rattle.std.specs.List.{slice_get, list_all}
use Rattle.std.specs.Option.{option_map_or, option_and_then}
use Rattle.std.proofs.lemmas.List.Folds.{list_all-append, list_all-map}
use Rattle.std.proofs.lemmas.List.{take_all}
use Rattle.std.proofs.lemmas.Option.{none-some, same_Some, slice_get-get_or}
use Rattle.std.proofs.lemmas.Bool.{and_parts, and_from, false_from_ne_true, cases_lt, cases_Bool, false≢true, leb-true, le-leb, true_from_ne_false}
use Rattle.mpicall.specs.declared.call.Call.{Call}
use Rattle.mpigroup.specs.Groups.{Groups, group_of}
use Rattle.callstore.specs.Recordings.{Lists, calls_of}
use Rattle.pairing.specs.Pairs.{completed_of}
use Rattle.callstore.specs.Requests.{completes, started_before}
use Rattle.callstore.specs.Waves.{wave_of}
use Rattle.callstore.proofs.OptionLemmas.{and_then_parts}
use Rattle.moves.specs.Runs.{State}
use Rattle.moves.specs.declared.progress.Progress.{Progress}
use Rattle.moves.specs.Needs.{member_need, wave_needs, operation_needs, operation_needs_at, request_needs, needs_of_call, is_met, can_move}
use Rattle.moves.specs.inner.Waiting.{message_needs, IsAwaited, HasJoined, complete_of, met_of, AreWaves, IsNoException, is_open, open_wave, NeedsPartner, NeedsWave, Rests}
use Rattle.moves.proofs.LookLemmas.{passes_more, fails_at, list_all-flat_map}
use Rattle.moves.proofs.NeedLemmas.{can_pass}
use Rattle.moves.proofs.WaveLemmas.{met_joined, joined_met, joined_before}

-- each member has reached its call
all_members : (recording : Lists) (s : State) (comm wave : ℕ) (group : List ℕ) → ((g member : ℕ) → slice_get group g ≡ Some member → HasJoined recording s comm wave member) → list_all (is_met s) (map (member_need recording comm wave) group) ≡ true
all_members recording s comm wave [] h = refl
all_members recording s comm wave (member ∷ group) h =
    and_from (is_met s (member_need recording comm wave member)) (list_all (is_met s) (map (member_need recording comm wave) group))
    (joined_met recording s comm wave member (h 0 member refl))
    (all_members recording s comm wave group (λ g. h (suc g)))

-- a wave that isn't open has what it needs
not_open_met : (groups : Groups) (recording : Lists) (s : State) (progress : Progress) (comm wave : ℕ) → AreWaves groups recording s progress IsNoException → is_open groups progress comm wave ≡ false → list_all (is_met s) (map (member_need recording comm wave) (group_of groups comm)) ≡ true
not_open_met groups recording s progress comm wave h closed =
    ⊎_elim
    (λ (less : wave < complete_of progress comm). all_members recording s comm wave (group_of groups comm) (λ g member. h.done comm wave g member less))
    (λ (least : complete_of progress comm ≤ wave). by_group (group_of groups comm) (rw (le-leb (complete_of progress comm) wave least) at closed))
    (cases_lt wave (complete_of progress comm))
  where
    by_group : (group : List ℕ) → nat_lt 0 (length group) ≡ false → list_all (is_met s) (map (member_need recording comm wave) group) ≡ true
    by_group [] e = refl
    by_group (member ∷ group) e = absurd (false≢true (sym e ∙ le-leb 1 (length (member ∷ group)) (omega arith)))

wave_met : (groups : Groups) (recording : Lists) (s : State) (progress : Progress) (wave : Option (ℕ × ℕ)) → AreWaves groups recording s progress IsNoException → option_and_then (λ wave. if is_open groups progress wave.0 wave.1 then Some wave.0 else None) wave ≡ None → list_all (is_met s) (option_map_or (λ wave. map (member_need recording wave.0 wave.1) (group_of groups wave.0)) wave []) ≡ true
wave_met groups recording s progress None h none = refl
wave_met groups recording s progress (Some (comm, wave)) h none =
    ⊎_elim
    (λ (yes : is_open groups progress comm wave ≡ true). absurd (none-some comm (sym none ∙ (rw yes refl))))
    (λ (no : is_open groups progress comm wave ≡ false). not_open_met groups recording s progress comm wave h no)
    (cases_Bool (is_open groups progress comm wave))

pub operation_passes : (reading : Reading) (groups : Groups) (recording : Lists) (s : State) (progress : Progress) (rank place : ℕ) (call : Call) → AreWaves groups recording s progress IsNoException → slice_get (calls_of recording rank) place ≡ Some call → list_all (is_met s) (message_needs reading groups recording rank place call) ≡ true → open_wave groups recording progress rank place ≡ None → list_all (is_met s) (operation_needs_at reading groups recording rank place) ≡ true
operation_passes reading groups recording s progress rank place call h there messages none =
    rw there
    (list_all-append (is_met s) (message_needs reading groups recording rank place call) (wave_needs groups recording rank place)
    ∙ and_from (list_all (is_met s) (message_needs reading groups recording rank place call)) (list_all (is_met s) (wave_needs groups recording rank place)) messages (wave_met groups recording s progress (wave_of recording rank place) h none))

-- an open wave that a call joins
pub record IsIn (groups : Groups) (recording : Lists) (progress : Progress) (rank place comm : ℕ) : Type 0 where
  pub wave : ℕ
  pub there : wave_of recording rank place ≡ Some (comm, wave)
  pub least : complete_of progress comm ≤ wave
  pub some_member : 0 < length (group_of groups comm)

pub open_parts : (groups : Groups) (recording : Lists) (progress : Progress) (rank place comm : ℕ) → open_wave groups recording progress rank place ≡ Some comm → IsIn groups recording progress rank place comm
open_parts groups recording progress rank place comm h =
    let parts = and_then_parts (λ wave. if is_open groups progress wave.0 wave.1 then Some wave.0 else None) (wave_of recording rank place) comm h in
    by_test parts.0 parts.1 (is_open groups progress parts.0.0 parts.0.1) refl parts.2
  where
    length_some : (group : List ℕ) → nat_lt 0 (length group) ≡ true → 0 < length group
    length_some group e = omega (arith, leb-true 1 (length group) e)

    by_test : (w : ℕ × ℕ) → wave_of recording rank place ≡ Some w → (b : Bool) → is_open groups progress w.0 w.1 ≡ b → (if b then Some w.0 else None) ≡ Some comm → IsIn groups recording progress rank place comm
    by_test w there false is e = absurd (none-some comm e)
    by_test w there true is e =
        let same : w.0 ≡ comm = same_Some w.0 comm e in
        let both = and_parts (nat_le (complete_of progress w.0) w.1) (nat_lt 0 (length (group_of groups w.0))) is in
        record {
          wave = w.1;
          there = there ∙ ap (λ (c : ℕ). Some (c, w.1)) same;
          least = subst (λ (c : ℕ). complete_of progress c ≤ w.1) same (leb-true (complete_of progress w.0) w.1 both.0);
          some_member = subst (λ (c : ℕ). 0 < length (group_of groups c)) same (length_some (group_of groups w.0) both.1);
        }

pub open_from : (groups : Groups) (recording : Lists) (progress : Progress) (rank place comm : ℕ) → IsIn groups recording progress rank place comm → open_wave groups recording progress rank place ≡ Some comm
open_from groups recording progress rank place comm h =
    let is : is_open groups progress comm h.wave ≡ true =
    and_from (nat_le (complete_of progress comm) h.wave) (nat_lt 0 (length (group_of groups comm))) (le-leb (complete_of progress comm) h.wave h.least) (le-leb 1 (length (group_of groups comm)) (omega (arith, h.some_member))) in
    rw (h.there, is) refl

-- what an open wave needs is not met
open_unmet : (groups : Groups) (recording : Lists) (s : State) (progress : Progress) (rank place comm : ℕ) → AreWaves groups recording s progress IsNoException → IsIn groups recording progress rank place comm → list_all (is_met s) (wave_needs groups recording rank place) ≡ true → ⊥
open_unmet groups recording s progress rank place comm h wave all =
    let next = h.next comm wave.some_member in
    let met : list_all (is_met s) (map (member_need recording comm wave.wave) (group_of groups comm)) ≡ true = rw wave.there at all in
    ⊎_elim
    (λ (yes : is_met s (member_need recording comm wave.wave next.0) ≡ true).
    next.2 (joined_before recording s comm (complete_of progress comm) wave.wave next.0 wave.least (met_joined recording s comm wave.wave next.0 yes)))
    (λ (no : is_met s (member_need recording comm wave.wave next.0) ≡ false).
    false≢true (
    sym (list_all-map (is_met s) (member_need recording comm wave.wave) (group_of groups comm)
    ∙ fails_at (λ member. is_met s (member_need recording comm wave.wave member)) (group_of groups comm) (met_of progress comm) next.0 next.1 no)
    ∙ met))
    (cases_Bool (is_met s (member_need recording comm wave.wave next.0)))

-- the start of the request with that index
pub start_is : (recording : Lists) (rank place index req : ℕ) (call : Call) → slice_get (calls_of recording rank) place ≡ Some call → slice_get (completes call) index ≡ Some req → completed_of recording rank place index ≡ started_before recording rank place req
start_is recording rank place index req call there named = rw (there, named) refl

-- what a rank needs of each operation that its call waits for, where it can move on
at_index : (p : ℕ → Bool) (xs : List ℕ) (i x : ℕ) → slice_get xs i ≡ Some x → list_all p xs ≡ true → p x ≡ true
at_index p xs i x there all = true_from_ne_false (p x) (λ no. false≢true (sym (fails_at p xs i x there no) ∙ all))

pub index_parts : (recording : Lists) (rank place index start : ℕ) (call : Call) → slice_get (calls_of recording rank) place ≡ Some call → completed_of recording rank place index ≡ Some start → (req : ℕ) × (slice_get (completes call) index ≡ Some req) × (started_before recording rank place req ≡ Some start)
index_parts recording rank place index start call there h =
    and_then_parts (started_before recording rank place) (slice_get (completes call) index) start (rw there at h)

awaited_met : (reading : Reading) (groups : Groups) (recording : Lists) (s : State) (rank start : ℕ) → can_move reading groups recording s rank ≡ true → IsAwaited recording rank (get_or s rank 0) start → list_all (is_met s) (operation_needs_at reading groups recording rank start) ≡ true
awaited_met reading groups recording s rank start able h =
    let place : ℕ = get_or s rank 0 in
    let pass = can_pass reading groups recording s rank able in
    let same : pass.call ≡ h.call = same_Some pass.call h.call (sym pass.is_present ∙ h.is_present) in
    let needs : list_all (is_met s) (needs_of_call reading groups recording rank place h.call) ≡ true = rw same at pass.needs_met in
    let waited : list_all (is_met s) (operation_needs reading groups recording rank place h.call ++ flat_map (request_needs reading groups recording rank place) (completes h.call)) ≡ true = rw h.starts_none at needs in
    let both = and_parts (list_all (is_met s) (operation_needs reading groups recording rank place h.call)) (list_all (is_met s) (flat_map (request_needs reading groups recording rank place) (completes h.call)))
    (sym (list_all-append (is_met s) (operation_needs reading groups recording rank place h.call) (flat_map (request_needs reading groups recording rank place) (completes h.call))) ∙ waited) in
    ⊎_elim
    (λ (own : start ≡ place).
    let there : slice_get (calls_of recording rank) start ≡ Some h.call = rw own h.is_present in
    rw there (rw own both.0))
    (λ (completed : (index : ℕ) × (completed_of recording rank place index ≡ Some start)).
    let parts = index_parts recording rank place completed.0 start h.call h.is_present completed.1 in
    let met : list_all (is_met s) (request_needs reading groups recording rank place parts.0) ≡ true =
    at_index (λ req. list_all (is_met s) (request_needs reading groups recording rank place req)) (completes h.call) completed.0 parts.0 parts.1
    (sym (list_all-flat_map (is_met s) (request_needs reading groups recording rank place) (completes h.call)) ∙ both.1) in
    rw parts.2 at met)
    h.which

operation_parts : (reading : Reading) (groups : Groups) (recording : Lists) (s : State) (rank place : ℕ) (there : Option Call) → slice_get (calls_of recording rank) place ≡ there → list_all (is_met s) (option_map_or (operation_needs reading groups recording rank place) there []) ≡ true → (list_all (is_met s) (option_map_or (message_needs reading groups recording rank place) there []) ≡ true) × (list_all (is_met s) (wave_needs groups recording rank place) ≡ true)
operation_parts reading groups recording s rank place None e h = (refl, rw e refl)
operation_parts reading groups recording s rank place (Some call) e h =
    and_parts (list_all (is_met s) (message_needs reading groups recording rank place call)) (list_all (is_met s) (wave_needs groups recording rank place))
    (sym (list_all-append (is_met s) (message_needs reading groups recording rank place call) (wave_needs groups recording rank place)) ∙ h)

pub partner_stuck : (reading : Reading) (groups : Groups) (recording : Lists) (s : State) (rank start : ℕ) → NeedsPartner reading groups recording s rank start → can_move reading groups recording s rank ≡ false
partner_stuck reading groups recording s rank start h =
    false_from_ne_true (can_move reading groups recording s rank)
    (λ able.
    let parts = operation_parts reading groups recording s rank start (slice_get (calls_of recording rank) start) refl (awaited_met reading groups recording s rank start able h.is_awaited) in
    false≢true (sym h.is_unmet ∙ parts.0))

pub wave_stuck : (reading : Reading) (groups : Groups) (recording : Lists) (s : State) (progress : Progress) (rank comm : ℕ) → AreWaves groups recording s progress IsNoException → NeedsWave groups recording s progress rank comm → can_move reading groups recording s rank ≡ false
wave_stuck reading groups recording s progress rank comm are h =
    false_from_ne_true (can_move reading groups recording s rank)
    (λ able.
    let parts = operation_parts reading groups recording s rank h.start (slice_get (calls_of recording rank) h.start) refl (awaited_met reading groups recording s rank h.start able h.is_awaited) in
    open_unmet groups recording s progress rank h.start comm are (open_parts groups recording progress rank h.start comm h.is_joined) parts.1)

pub resting_stuck : (reading : Reading) (groups : Groups) (recording : Lists) (s : State) (rank : ℕ) → Rests recording s rank → can_move reading groups recording s rank ≡ false
resting_stuck reading groups recording s rank h = rw h refl

-- one request more that has what it needs
pub request_passes : (reading : Reading) (groups : Groups) (recording : Lists) (s : State) (rank place index : ℕ) (call : Call) → slice_get (calls_of recording rank) place ≡ Some call → index < length (completes call) → list_all (λ req. list_all (is_met s) (request_needs reading groups recording rank place req)) (take index (completes call)) ≡ true → list_all (is_met s) (option_map_or (operation_needs_at reading groups recording rank) (completed_of recording rank place index) []) ≡ true → list_all (λ req. list_all (is_met s) (request_needs reading groups recording rank place req)) (take (index + 1) (completes call)) ≡ true
request_passes reading groups recording s rank place index call there within so_far met =
    let req : ℕ = get_or (completes call) index 0 in
    let named : slice_get (completes call) index ≡ Some req = slice_get-get_or (completes call) index 0 within in
    passes_more (λ req. list_all (is_met s) (request_needs reading groups recording rank place req)) (completes call) index req named so_far
    (ap (λ (start : Option ℕ). list_all (is_met s) (option_map_or (operation_needs_at reading groups recording rank) start [])) (sym (start_is recording rank place index req call there named)) ∙ met)

pub requests_pass : (reading : Reading) (groups : Groups) (recording : Lists) (s : State) (rank place index : ℕ) (call : Call) → length (completes call) ≤ index → list_all (λ req. list_all (is_met s) (request_needs reading groups recording rank place req)) (take index (completes call)) ≡ true → list_all (is_met s) (flat_map (request_needs reading groups recording rank place) (completes call)) ≡ true
requests_pass reading groups recording s rank place index call whole all =
    list_all-flat_map (is_met s) (request_needs reading groups recording rank place) (completes call)
    ∙ ap (λ (some : List ℕ). list_all (λ req. list_all (is_met s) (request_needs reading groups recording rank place req)) some) (sym (take_all index (completes call) whole))
    ∙ all
