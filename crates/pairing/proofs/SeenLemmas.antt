-- What a call that is seen in its place means for the others.
use Rattle.std.proofs.Common.{◌≡◌, ℕ}
use Rattle.mpigroup.specs.Groups.{Groups}
use Rattle.callstore.specs.declared.envelope.Half.{Half}
use Rattle.callstore.specs.Recordings.{Lists}
use Rattle.callstore.specs.Waves.{wave_of}
use Rattle.pairing.specs.declared.call_at.CallAt.{CallAt}
use Rattle.pairing.specs.Pairs.{completed_of}
use Rattle.pairing.specs.Partners.{partner_of}
use Rattle.pairing.specs.Seen.{partner_seen, wave_seen, start_seen, IsSeen}

pub seen_partner : (groups : Groups) (recording : Lists) (rank place : ℕ) (seen : CallAt) (half : Half) → IsSeen groups recording rank place seen → partner_seen seen half ≡ partner_of groups recording rank place half
seen_partner groups recording rank place seen half h = h.partner half

pub seen_wave : (groups : Groups) (recording : Lists) (rank place : ℕ) (seen : CallAt) → IsSeen groups recording rank place seen → wave_seen seen ≡ wave_of recording rank place
seen_wave groups recording rank place seen h = h.wave

pub seen_start : (groups : Groups) (recording : Lists) (rank place : ℕ) (seen : CallAt) (index : ℕ) → IsSeen groups recording rank place seen → start_seen seen index ≡ completed_of recording rank place index
seen_start groups recording rank place seen index h = h.start index
