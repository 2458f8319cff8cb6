-- The tables of a recording, and what is kept in all.
use Rattle.std.specs.Prelude.{◌≡◌, ℕ, Some, None, List, length}
use Rattle.mpicall.specs.declared.call.Call.{Call}
use Rattle.mpigroup.specs.Groups.{Groups, ranks_of}
use Rattle.pairing.specs.declared.tables.Tables.{Tables}
use Rattle.pairing.specs.declared.tables.Room.{Room}
use Rattle.callstore.specs.Notes.{Noted, notes_of, with_note, calls_in}
use Rattle.callstore.specs.inner.Notes.{recording_of}
use Rattle.pairing.specs.inner.Kept.{IsNoted, AreNoted, ArePartnered}
use Rattle.callstore.specs.CachedMatch.{partner_in, wave_in}
use Rattle.callstore.specs.declared.cached_match.CachedMatch.{CachedMatch}
use Rattle.callstore.specs.declared.envelope.Half.{Half}
use Rattle.callstore.specs.Recordings.{Lists}
use Rattle.callstore.specs.Places.{places}
use Rattle.callstore.specs.Waves.{joins, does_join}
use Rattle.pairing.specs.Faults.{IsLawful}
use Rattle.pairing.specs.inner.Matched.{IsMatched, HasRoomFor}
use Rattle.pairing.specs.inner.Joined.{IsJoined, HasRoomToJoin}
use Rattle.pairing.specs.inner.Holdings.{IsHolding, HasRoomToHold}
use Rattle.pairing.specs.inner.Starts.{IsActive, HasRoomToStart}

-- the tables of waves, communicators and requests have what the recording gives them
pub record AreOthers (recording : Lists) (tables : Tables) : Type 0 where
  pub joined : IsJoined recording tables.waves
  pub made_comms : IsHolding recording tables.made_comms
  pub active : IsActive recording tables.active

-- and so do the pending halves
pub record AreTables (groups : Groups) (recording : Lists) (tables : Tables) : Type 0 where
  pub matched : IsMatched groups recording tables.matches
  pub others : AreOthers recording tables

-- the rank's next call can be put into each without memory
pub record HaveRoom (groups : Groups) (rank : ℕ) (call : Call) (room : Room) (tables : Tables) : Type 0 where
  pub matched : HasRoomFor groups rank call room.halves tables.matches
  pub joined : HasRoomToJoin rank call room.list tables.waves
  pub made_comms : HasRoomToHold tables.made_comms call
  pub active : HasRoomToStart tables.active rank call

-- with the rank's call is kept the number of its wave, and no partner yet
pub record IsCached (before : List Call) (call : Call) (cached : CachedMatch) : Type 0 where
  pub wave : (comm : ℕ) → joins call ≡ Some comm → wave_in cached ≡ length (places (does_join comm) before)
  pub alone : (half : Half) → partner_in half cached ≡ None

-- the notes go on by the rank's call, which is noted rightly, with no partner yet
pub record GoOnBy (old new : List (List Noted)) (rank : ℕ) (call : Call) : Type 0 where
  pub noted : Noted
  pub added : new ≡ with_note old rank noted
  pub is_call : noted.call ≡ call
  pub is_noted : IsNoted (calls_in (notes_of old rank)) noted
  pub alone : (half : Half) → partner_in half noted.cached ≡ None

-- the notes and the tables are of one lawful recording of the run's ranks
pub record IsKept (groups : Groups) (notes : List (List Noted)) (looked_up : Tables) : Type 0 where
  pub ranks : length notes ≡ ranks_of groups
  pub lawful : IsLawful groups (recording_of notes)
  pub noted : AreNoted notes
  pub partnered : ArePartnered groups notes
  pub tables : AreTables groups (recording_of notes) looked_up
