-- What `Waiting` says, of a world (the calls with the reading of their sends) and of the positions of its ranks.
use Rattle.std.specs.Prelude.{◌≡◌, ◌-◌, ◌≤◌, ℕ, Bool, length, if◌then◌else◌, Option, Some, option_map, slice_get, IfSome}
use Rattle.callstore.specs.Recordings.{calls_of}
use Rattle.pairing.specs.Seen.{call_seen, IsSeen}
use Rattle.pairing.specs.declared.call_at.CallAt.{CallAt}
use Rattle.mpicall.specs.declared.call.Call.{Call}
use Rattle.moves.specs.declared.look.Look.{Look}
use Rattle.moves.specs.declared.world.World.{World}
use Rattle.moves.specs.declared.world.Positions.{Positions}
use Rattle.moves.specs.Runs.{StandsNoLater, total}
use Rattle.moves.specs.Stands.{call_count}
use Rattle.moves.specs.inner.Waiting.{AreWaves, IsNoException, IsNobody, HoldsBetweenLooks, IsInHand, IsSettled, IsReaching, HasArrived, TellsOperation, TellsRequest, TellsCompleted, TellsCall, TellsRank, touches_of, to_do}

-- the call is there, by its rank and its place
abbrev pub IsCallAt : World → ℕ × ℕ → Call → Type 0
IsCallAt w at call = slice_get (calls_of w.pairs.recording at.0) at.1 ≡ Some call

-- the same of a place where there may be no call
abbrev pub IsCallIf : World → ℕ × ℕ → Option CallAt → Type 0
IsCallIf w at seen = option_map call_seen seen ≡ slice_get (calls_of w.pairs.recording at.0) at.1

abbrev pub IsSeenIf : World → ℕ × ℕ → Option CallAt → Type 0
IsSeenIf w at seen = IfSome seen (IsSeen w.pairs.groups w.pairs.recording at.0 at.1)

-- it is known how far the waves are
abbrev pub KnowWaves : World → Positions → Type 0
KnowWaves w p = AreWaves w.pairs.groups w.pairs.recording p.stands.items p.progress IsNoException

-- what a look answers: of an operation, of a request that is completed, of all of these, of a call, of a rank
abbrev pub OperationTells : World → Positions → ℕ × ℕ → Look → Type 0
OperationTells w p at = TellsOperation w.reading w.pairs.groups w.pairs.recording p.stands.items p.progress at.0 at.1

abbrev pub RequestTells : World → Positions → ℕ × ℕ → ℕ → Look → Type 0
RequestTells w p at = TellsRequest w.reading w.pairs.groups w.pairs.recording p.stands.items p.progress at.0 at.1

abbrev pub RequestsTell : World → Positions → ℕ × ℕ → Call → Look → Type 0
RequestsTell w p at = TellsCompleted w.reading w.pairs.groups w.pairs.recording p.stands.items p.progress at.0 at.1

abbrev pub CallTells : World → Positions → ℕ × ℕ → Call → Look → Type 0
CallTells w p at = TellsCall w.reading w.pairs.groups w.pairs.recording p.stands.items p.progress at.0 at.1

abbrev pub RankTells : World → Positions → ℕ → Look → Type 0
RankTells w p = TellsRank w.reading w.pairs.groups w.pairs.recording p.stands.items p.progress

-- what holds between looks, while a rank is in hand, once none is to be looked at, and while who waits for a call that
-- is reached is still to be woken
abbrev pub AreKept : World → Positions → Type 0
AreKept w p = HoldsBetweenLooks w.reading w.pairs.groups w.pairs.recording p.stands.items p.progress p.waiters IsNobody 0

abbrev pub HaveInHand : World → Positions → ℕ → Type 0
HaveInHand w p = IsInHand w.reading w.pairs.groups w.pairs.recording p.stands.items p.progress p.waiters

abbrev pub AreSettled : World → Positions → Type 0
AreSettled w p = IsSettled w.reading w.pairs.groups w.pairs.recording p.stands.items p.progress p.waiters

abbrev pub AreReached : World → Positions → ℕ → ℕ → Type 0
AreReached w p = IsReaching w.reading w.pairs.groups w.pairs.recording p.stands.items p.progress p.waiters

abbrev pub HaveArrival : World → Positions → ℕ → ℕ → Type 0
HaveArrival w p = HasArrived w.reading w.pairs.groups w.pairs.recording p.stands.items p.progress p.waiters

-- no rank stands lower, and no touch is lost
pub record GoOn (before after : Positions) : Type 0 where
  pub no_lower : StandsNoLater before.stands.items after.stands.items
  pub counts : touches_of before.progress before.waiters ≤ touches_of after.progress after.waiters

-- the ranks that wait for the call are woken: only the waiting ranks and the progress change
pub record HaveWoken (w : World) (before after : Positions) (rank : ℕ) : Type 0 where
  pub in_hand : HaveInHand w after rank
  pub stands : after.stands ≡ before.stands
  pub counts : touches_of before.progress before.waiters ≤ touches_of after.progress after.waiters

-- what is still to do, at most
abbrev pub left_to_do : World → Positions → ℕ
left_to_do w p = to_do w.pairs.recording p.stands.items p.waiters

-- how many calls are not passed
abbrev pub calls_left : World → Positions → ℕ
calls_left w p = call_count w.pairs.recording - total p.stands.items

-- a call that is reached wakes each rank at most
abbrev pub ranks_once : World → Bool → ℕ
ranks_once w has_come = if has_come then length w.pairs.recording else 0
