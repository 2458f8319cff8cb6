-- Pending halves of messages: those that have no partner yet are in lists, by the numbers of their
-- envelopes, and the partners of the others are kept with them.
use Rattle.mpicall.specs.Names.{Place}
use Rattle.std.specs.Prelude.{List, [], length, drop}
use Rattle.std.specs.Option.{option_map_or}
use Rattle.mpigroup.specs.Groups.{Groups}
use Rattle.callstore.specs.declared.envelope.Envelope.{Envelope}
use Rattle.callstore.specs.declared.envelope.Half.{Half}
use Rattle.callstore.specs.Recordings.{Lists}
use Rattle.callstore.specs.Envelopes.{other_half, rank_of_half}
use Rattle.pairing.specs.Partners.{places_of}

-- the places of that half of the envelope's messages, in the order of their rank's list
abbrev pub halves_of : Groups → Lists → Half → Envelope → List Place
halves_of groups recording half e = option_map_or (λ rank. places_of groups recording rank half e) (rank_of_half groups half e) []

-- those that have no partner: as many as there are of the other half have one, from the first on
abbrev pub pending_of : Groups → Lists → Half → Envelope → List Place
pending_of groups recording half e = drop (length (halves_of groups recording (other_half half) e)) (halves_of groups recording half e)
