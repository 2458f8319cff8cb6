-- How calls are stored compactly. A wait has the places of its rank's calls that started the requests which it
-- names; the number of each request is read from the call at its place. A wait for several requests has these
-- places in a list of its rank.
use Rattle.mpicall.specs.Names.{Place}
use Rattle.std.specs.Prelude.{List}
use Rattle.mpicall.specs.declared.call.Call.{Call}
use Rattle.callstore.specs.declared.cached_match.CachedMatch.{CachedMatch}
use Rattle.callstore.specs.Notes.{Noted}

-- a call with what is kept with it
abbrev pub noted : Call → CachedMatch → List Place → Noted
noted call cached starts = record { call = call; cached = cached; starts = starts }
