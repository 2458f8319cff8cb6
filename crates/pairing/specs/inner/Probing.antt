-- Seats. What a probe sees is settled by the next receive of its envelope after it. Probes of one envelope
-- between two of its receives share a seat, which the next of them fills with its place.
use Rattle.std.specs.Prelude.{◌≡◌, ℕ, ◌<◌, ◌≤◌, ◌==◌, ◌&&◌, Bool, Option, Some, None, is_some, unwrap_or, if◌then◌else◌, List, [], ◌∷◌, ◌++◌, length, slice_get, slice_set, vec_len, vec_capacity}
use Rattle.std.specs.List.{sum_by}
use Rattle.indexmap.specs.IndexMap.{get, spare}
use Rattle.mpigroup.specs.Groups.{Groups}
use Rattle.callstore.specs.declared.envelope.Envelope.{Envelope}
use Rattle.callstore.specs.contracts.envelope.EnvelopePartialEq.TheImpl as envelope_eq
use Rattle.callstore.specs.Recordings.{Lists}
use Rattle.pairing.specs.Probed.{probed_envelope_at, receive_behind, HasProbe}
use Rattle.pairing.specs.declared.probes.Probes.{Probes}

abbrev pub is_same_envelope : Envelope → Envelope → Bool
is_same_envelope = (envelope_eq.ghosts).eq

-- the seat of the envelope's probes after its last receive, if there are any: no receive has filled it yet
abbrev pub unfilled_at : Probes → Envelope → Option ℕ
unfilled_at probes e = get is_same_envelope probes.unfilled e

-- the seat of a further probe of the envelope
abbrev pub seat_for : Probes → Envelope → ℕ
seat_for probes e = unwrap_or (unfilled_at probes e) (length probes.seats.items)

-- which seat is kept with the rank's call at a place
abbrev pub Seating : Type 0
Seating = ℕ → ℕ → Option ℕ

abbrev pub seated : Seating → ℕ → ℕ → Option ℕ → Seating
seated seating rank place seat r p = if r == rank && p == place then seat else seating r p

-- With the probe is kept a seat, which has the place of the next receive after it; while there is none, it is
-- the unfilled seat of its envelope.
pub record IsSeatOf (groups : Groups) (recording : Lists) (seating : Seating) (probes : Probes) (rank place : ℕ) (e : Envelope) : Type 0 where
  pub seat : ℕ
  pub stands_there : seating rank place ≡ Some seat
  pub has : slice_get probes.seats.items seat ≡ Some (receive_behind groups recording rank place e)
  pub waits : receive_behind groups recording rank place e ≡ None → unfilled_at probes e ≡ Some seat

-- how many calls there are in all
abbrev pub calls_in_all : Lists → ℕ
calls_in_all recording = sum_by length recording

-- Each probe of the recording has its seat. An unfilled seat is empty, and of one envelope. There are no more
-- seats than calls, and none without a probe.
pub record AreSeated (groups : Groups) (recording : Lists) (seating : Seating) (probes : Probes) : Type 0 where
  pub seat : (rank place : ℕ) (e : Envelope) → probed_envelope_at groups recording rank place ≡ Some e →
      IsSeatOf groups recording seating probes rank place e
  pub empty : (e : Envelope) (seat : ℕ) → unfilled_at probes e ≡ Some seat → slice_get probes.seats.items seat ≡ Some None
  pub once : (e f : Envelope) (seat : ℕ) → unfilled_at probes e ≡ Some seat → unfilled_at probes f ≡ Some seat → e ≡ f
  pub few : length probes.seats.items ≤ calls_in_all recording
  pub some : 0 < length probes.seats.items → HasProbe groups recording

-- a further probe can be put in without memory
abbrev pub HasRoomToSit : Probes → Type 0
HasRoomToSit probes = (0 < spare probes.unfilled) × (vec_len probes.seats < vec_capacity probes.seats)

-- a probe of the envelope is put in
pub record Sits (old new : Probes) (e : Envelope) : Type 0 where
  pub seats : new.seats.items ≡ (if is_some (unfilled_at old e) then old.seats.items else old.seats.items ++ None ∷ [])
  pub unfilled : (f : Envelope) → unfilled_at new f ≡ (if is_same_envelope f e then Some (seat_for old e) else unfilled_at old f)

-- a receive of the envelope is put in
abbrev pub filled : List (Option ℕ) → Option ℕ → ℕ → List (Option ℕ)
filled seats None place = seats
filled seats (Some seat) place = slice_set seats seat (Some place)

pub record Follows (old new : Probes) (e : Envelope) (place : ℕ) : Type 0 where
  pub seats : new.seats.items ≡ filled old.seats.items (unfilled_at old e) place
  pub unfilled : (f : Envelope) → unfilled_at new f ≡ (if is_same_envelope f e then None else unfilled_at old f)
