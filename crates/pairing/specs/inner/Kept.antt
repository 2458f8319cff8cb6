-- How `Pairs` keeps what it answers: with each call it keeps the number of its wave, which the definitions count over
-- the calls of its rank before it, and the places of its partners.
use Rattle.std.specs.Prelude.{◌≡◌, ℕ, Some, option_map, List, map, length, take, slice_get}
use Rattle.mpicall.specs.declared.call.Call.{Call}
use Rattle.mpigroup.specs.Groups.{Groups}
use Rattle.callstore.specs.declared.envelope.Half.{Half}
use Rattle.callstore.specs.CachedMatch.{wave_in}
use Rattle.callstore.specs.Notes.{Noted, notes_of, calls_in}
use Rattle.callstore.specs.inner.Notes.{recording_of, kept_at}
use Rattle.pairing.specs.Partners.{partner_of}
use Rattle.callstore.specs.Places.{places}
use Rattle.callstore.specs.Requests.{waits_for, started_in}
use Rattle.callstore.specs.Waves.{joins, does_join}

-- What is kept with a call of the rank, made after those before: how many collectives of the same communicator
-- the rank had called; and the places that started the requests which the call waits for.
pub record IsNoted (before : List Call) (noted : Noted) : Type 0 where
  pub wave : (comm : ℕ) → joins noted.call ≡ Some comm → wave_in noted.cached ≡ length (places (does_join comm) before)
  pub started : map (λ start. Some start) noted.starts ≡ map (started_in before) (waits_for noted.call)

-- each note of each rank is
abbrev pub AreNoted : List (List Noted) → Type 0
AreNoted notes =
    (rank place : ℕ) (noted : Noted) → slice_get (notes_of notes rank) place ≡ Some noted →
    IsNoted (take place (calls_in (notes_of notes rank))) noted

-- the place that is kept for each half of each call is that of its partner
abbrev pub ArePartnered : Groups → List (List Noted) → Type 0
ArePartnered groups notes =
    (half : Half) (rank place : ℕ) →
    kept_at notes half rank place ≡ option_map (λ partner. partner.1) (partner_of groups (recording_of notes) rank place half)
