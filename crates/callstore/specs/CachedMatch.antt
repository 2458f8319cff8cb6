-- What is kept with a call: the wave that a collective joins, and where the partners of a message's halves
-- are.
use Rattle.mpicall.specs.Names.{Place}
use Rattle.std.specs.Prelude.{ℕ, Option, Some, None}
use Rattle.callstore.specs.declared.envelope.Half.{Half}
use Rattle.callstore.specs.declared.envelope.Half.TheVariants.{Send as SendHalf, Recv as RecvHalf}
use Rattle.callstore.specs.declared.cached_match.CachedMatch.{CachedMatch}
use Rattle.callstore.specs.declared.cached_match.CachedMatch.TheVariants.{Wave, Sent, Received, Exchanged}

-- the place of the partner that is kept for a half
abbrev pub partner_in : Half → CachedMatch → Option Place
partner_in SendHalf (Sent to) = Some to
partner_in SendHalf (Exchanged to from) = Some to
partner_in RecvHalf (Received from) = Some from
partner_in RecvHalf (Exchanged to from) = Some from
partner_in _ _ = None

-- the number of the wave that is kept; 0 where none is
abbrev pub wave_in : CachedMatch → ℕ
wave_in (Wave number) = number
wave_in _ = 0

-- the same with the place of a half's partner
abbrev pub with_partner : Half → Place → CachedMatch → CachedMatch
with_partner SendHalf there (Received from) = Exchanged there from
with_partner SendHalf there (Exchanged to from) = Exchanged there from
with_partner SendHalf there _ = Sent there
with_partner RecvHalf there (Sent to) = Exchanged to there
with_partner RecvHalf there (Exchanged to from) = Exchanged to there
with_partner RecvHalf there _ = Received there
