-- The starts of a stored wait, and the requests that are read there.
use Rattle.std.proofs.Common.{◌≡◌, ℕ, zero, suc, ◌+◌, ◌<◌, ◌≤◌, ◌==◌, not, Bool, Option, Some, List, [], ◌∷◌, length, map, take, drop, refl, sym, ap, subst, ◌∙◌, cond, get_or, set, ⊎_elim, arith}
use Rattle.std.specs.Prelude.{option_map, option_and_then}
use Rattle.std.specs.List.{slice_get, find, position, position_or_len, prefix_len}
use Rattle.std.proofs.lemmas.List.{take-map, drop-map, length-map}
use Rattle.std.proofs.lemmas.Option.{slice_get-map, slice_get_past}
use Rattle.std.proofs.lemmas.List.Folds.{find_at}
use Rattle.std.proofs.lemmas.Bool.{cases_lt, lt-ltb, le-ltb}
use Rattle.callstore.specs.declared.packed.Packed.{Packed}
use Rattle.callstore.specs.declared.packed.Packed.TheVariants.{Wait, Waitany, Nothing, Message, Exchange, Copy, Split}
use Rattle.mpicall.specs.declared.call_args.CallArgs.TheVariants as call_args
use Rattle.callstore.specs.inner.Entries.{Entry}
use Rattle.callstore.specs.Requests.{starts, waits_for, completes, started_in}
use Rattle.callstore.specs.Notes.{Noted, request_among, completed_among, completed_starts, start_of}
use Rattle.callstore.specs.inner.Packed.{req_at, reqs_at, part, unpack, unpack_starts, noted_of}
use Rattle.callstore.proofs.PackedLemmas.{IsApart, args_apart}
use Rattle.callstore.proofs.RequestLemmas.{started}
use Rattle.callstore.proofs.OptionLemmas.{is_it}
use Rattle.mpicall.specs.declared.call.Call.{Call}

-- a wait names what its starts start
pub waits_unpacked : (entries : List Entry) (starts : List ℕ) (packed : Packed) → waits_for (unpack entries starts packed) ≡ reqs_at entries (unpack_starts starts packed)
waits_unpacked entries starts (Wait start) = refl
waits_unpacked entries starts (Nothing name) = (args_apart call_args.Nothing name).waits
waits_unpacked entries starts (Message name comm source tag) = (args_apart (call_args.Message comm source tag) name).waits
waits_unpacked entries starts (Exchange name comm dest source send_tag recv_tag bytes) = (args_apart (call_args.Exchange comm dest send_tag source recv_tag bytes) name).waits
waits_unpacked entries starts (Copy name comm new) = (args_apart (call_args.Copy comm new) name).waits
waits_unpacked entries starts (Split name comm colour key new) = (args_apart (call_args.Split comm colour key new) name).waits
waits_unpacked entries starts _ = refl

none_completed : {call : Call} (entries : List Entry) → IsApart call → completes call ≡ reqs_at entries (completed_among call [])
none_completed entries apart = apart.completes ∙ sym (ap (λ (places : List ℕ). reqs_at entries places) apart.among)

-- and completes what those of its starts start which are kept with what it completes
by_starts : (entries : List Entry) (starts : List ℕ) (packed : Packed) → completes (unpack entries starts packed) ≡ reqs_at entries (completed_among (unpack entries starts packed) (unpack_starts starts packed))
by_starts entries starts (Waitany chosen first count) =
    ap (take 1) (drop-map (req_at entries) chosen (part starts first count)) ∙ take-map (req_at entries) 1 (drop chosen (part starts first count))
by_starts entries starts (Nothing name) = none_completed entries (args_apart call_args.Nothing name)
by_starts entries starts (Message name comm source tag) = none_completed entries (args_apart (call_args.Message comm source tag) name)
by_starts entries starts (Exchange name comm dest source send_tag recv_tag bytes) =
    none_completed entries (args_apart (call_args.Exchange comm dest send_tag source recv_tag bytes) name)
by_starts entries starts (Copy name comm new) = none_completed entries (args_apart (call_args.Copy comm new) name)
by_starts entries starts (Split name comm colour key new) = none_completed entries (args_apart (call_args.Split comm colour key new) name)
by_starts entries starts _ = refl

pub completes_at : (entries : List Entry) (starts : List ℕ) (entry : Entry) (note : Noted) (index : ℕ) → noted_of entries starts entry ≡ note → slice_get (completes note.call) index ≡ option_map (req_at entries) (slice_get (completed_starts note) index)
completes_at entries starts entry note index is =
    subst (λ (it : Noted). slice_get (completes it.call) index ≡ option_map (req_at entries) (slice_get (completed_starts it) index)) is
    (ap (λ (reqs : List ℕ). slice_get reqs index) (by_starts entries starts entry.call)
    ∙ slice_get-map (req_at entries) (completed_starts (noted_of entries starts entry)) index)

-- the first of the places whose call starts the request is with the first such request
prefix_map : (f : ℕ → ℕ) (test : ℕ → Bool) (xs : List ℕ) → prefix_len test (map f xs) ≡ prefix_len (λ x. test (f x)) xs
prefix_map f test [] = refl
prefix_map f test (x ∷ xs) = ap (λ (n : ℕ). cond (test (f x)) (1 + n) 0) (prefix_map f test xs)

position_map : (f : ℕ → ℕ) (test : ℕ → Bool) (xs : List ℕ) → position test (map f xs) ≡ position (λ x. test (f x)) xs
position_map f test xs =
    rw (prefix_map f (λ y. not (test y)) xs, length-map xs f) refl

-- what is at the first position is the first
at_position : (test : ℕ → Bool) (xs : List ℕ) → option_and_then (slice_get xs) (position test xs) ≡ find test xs
at_position test xs =
    ⊎_elim
    (λ (within : position_or_len test xs < length xs). rw (lt-ltb (position_or_len test xs) (length xs) within) (sym (find_at test xs)))
    (λ (past : length xs ≤ position_or_len test xs). rw (le-ltb (position_or_len test xs) (length xs) past) (sym (find_at test xs ∙ slice_get_past xs (position_or_len test xs) past)))
    (cases_lt (position_or_len test xs) (length xs))

pub start_found : (entries : List Entry) (starts : List ℕ) (entry : Entry) (note : Noted) (req : ℕ) → noted_of entries starts entry ≡ note → start_of note req ≡ find (λ place. req_at entries place == req) note.starts
start_found entries starts entry note req is =
    subst (λ (it : Noted). start_of it req ≡ find (λ place. req_at entries place == req) it.starts) is
    (ap (λ (reqs : List ℕ). option_and_then (slice_get (unpack_starts starts entry.call)) (position (λ other. other == req) reqs)) (waits_unpacked entries starts entry.call)
    ∙ ap (option_and_then (slice_get (unpack_starts starts entry.call))) (position_map (req_at entries) (λ other. other == req) (unpack_starts starts entry.call))
    ∙ at_position (λ place. req_at entries place == req) (unpack_starts starts entry.call))

-- one more request is written after those of the places before
pub written : (f : ℕ → ℕ) (into places : List ℕ) (i found : ℕ) → i < length into → i < length places → found ≡ f (get_or places i 0) → take i into ≡ map f (take i places) → take (i + 1) (set into i found) ≡ map f (take (i + 1) places)
written f (x ∷ into) (place ∷ places) zero found room here is before = rw is refl
written f (x ∷ into) (place ∷ places) (suc i) found room here is before =
    let first : x ≡ f place = cc in
    let rest = written f into places i found (omega (arith, room)) (omega (arith, here)) is cc in
    let next : suc i + 1 ≡ suc (i + 1) = omega arith in
    rw (next, first) (ap (λ (reqs : List ℕ). f place ∷ reqs) rest)
written f [] places i found room here is before = absurd (omega (arith, room))
written f (x ∷ into) [] i found room here is before = absurd (omega (arith, here))

-- where the places are those that started the requests as they stand, the calls there start them
pub are_starts : (calls : List Call) (places reqs : List ℕ) → map (λ place. Some place) places ≡ map (started_in calls) reqs → map (request_among calls) places ≡ map (λ req. Some req) reqs
are_starts calls [] [] h = refl
are_starts calls [] (req ∷ reqs) h = absurd cc
are_starts calls (place ∷ places) [] h = absurd cc
are_starts calls (place ∷ places) (req ∷ reqs) h =
    let first : started_in calls req ≡ Some place = cc in
    let rest = are_starts calls places reqs cc in
    let start = started calls req place first in
    let here : request_among calls place ≡ Some req = rw start.stands_there (is_it req (starts start.starter) start.starts_it) in
    rw here (ap (λ (os : List (Option ℕ)). Some req ∷ os) rest)
