-- Sources that are read by turns, and what is kept of their records.
use Rattle.std.specs.Prelude.{◌≡◌, ℕ, Bool, true, false, Option, Some, None, All, List, [], ◌∷◌, length, slice_get}
use Rattle.mpicall.specs.Source.{coming, ended}
use Rattle.mpicall.specs.Trace.{Trace}
use Rattle.mpicall.specs.declared.source.Source.{Source}
use Rattle.callstore.specs.Recordings.{is_ended}
use Rattle.rankfeed.specs.Items.{calls_among, end_the_list, end_mark_of}
use Rattle.mpicall.specs.declared.fault.Ending.TheVariants.{Sealed}
use Rattle.rankfeed.specs.declared.item.Item.{Item}
use Rattle.gather.specs.Collected.{Kept, IsKeptIn}
use Rattle.gather.specs.inner.Collected.{LeavesOthers}
use Rattle.gather.specs.FeedContract.{IsFed}
use Rattle.gather.specs.Reads.{IsReading}
use Rattle.driver.specs.declared.turn.Turn.{Turn}

-- a source, and how far it was read
pub record AtTurn (I : Type 0) : Type 0 where
  pub source : Source I
  pub line : ℕ
  pub done : Bool
  pub over : Bool

abbrev pub at_turn : {I : Type 0} → Source I → Turn → AtTurn I
at_turn source turn = record { source = source; line = turn.line; done = turn.done; over = turn.over }

-- the sources, each with its turn
abbrev pub at_turns : {I : Type 0} → List (Source I) → List Turn → List (AtTurn I)
at_turns [] turns = []
at_turns (source ∷ sources) [] = []
at_turns (source ∷ sources) (turn ∷ turns) = at_turn source turn ∷ at_turns sources turns

-- the turn of a source of which nothing was read
abbrev pub first_turn : Turn
first_turn = record { line = 0; done = false; over = false }

-- the items are all that is read of a source, with the end mark Sealed only after the record that ends the
-- list
pub record IsWhole (told : Option Trace) (may_answer : ℕ → Bool → Type 0) (items : List Item) : Type 0 where
  pub fed : IsFed told may_answer items
  pub sealed : end_mark_of items ≡ Some Sealed → is_ended (calls_among items) ≡ true

-- the items were read of this source, which is still being read
pub record IsGoing {I : Type 0} (left : I → Option (List ℕ)) (may_answer : ℕ → Bool → Type 0) (source : Source I) (turn : AtTurn I) (items : List Item) : Type 0 where
  pub read : IsReading left may_answer source turn.source items turn.line
  pub done : end_the_list items ≡ turn.done

-- what was read of a source so far, by whether it has ended
abbrev pub CameOf : {I : Type 0} → (I → Option (List ℕ)) → (ℕ → Bool → Type 0) → Source I → AtTurn I → List Item → Bool → Type 0
CameOf left may_answer source turn items false = IsGoing left may_answer source turn items
CameOf left may_answer source turn items true = IsWhole (coming left source) may_answer items

-- unless memory ran out, what is kept of the rank is what the items give that were read of its source
pub record IsTurnOf {I : Type 0} (left : I → Option (List ℕ)) (may_answer : ℕ → ℕ → Bool → Type 0) (rank : ℕ) (source : Source I) (turn : AtTurn I) (kept : Kept) : Type 0 where
  pub items : List Item
  pub places : length kept.faults ≡ length kept.recording
  pub came : CameOf left (may_answer rank) source turn items turn.over
  pub kept_so : kept.wanted ≡ false → IsKeptIn rank items kept

-- the source of a turn
abbrev pub source_of : {I : Type 0} → AtTurn I → Source I
source_of turn = turn.source

-- nothing was read of the turn's source so far
abbrev pub IsBegun : {I : Type 0} → AtTurn I → Type 0
IsBegun turn = (turn.line ≡ 0) × (turn.done ≡ false) × (turn.over ≡ false)

-- the source may be asked, unless it has ended
abbrev pub IsReady : {I : Type 0} → AtTurn I → Type 0
IsReady turn = turn.over ≡ false → ended turn.source ≡ None

-- the source has ended
abbrev pub IsOver : {I : Type 0} → AtTurn I → Type 0
IsOver turn = turn.over ≡ true

-- a later time of a rank's turn: whatever source it was a turn of, it still is, and of other ranks the same is kept
pub record IsLater {I : Type 0} (left : I → Option (List ℕ)) (may_answer : ℕ → ℕ → Bool → Type 0) (rank : ℕ) (old : AtTurn I) (before : Kept) (new : AtTurn I) (after : Kept) : Type 0 where
  pub leaves : LeavesOthers rank before after
  pub ready : IsReady old → IsReady new
  pub turn : (source : Source I) → IsTurnOf left may_answer rank source old before → IsTurnOf left may_answer rank source new after

-- at each rank's place is the turn of the source there
pub record AreTurnsOf {I : Type 0} (left : I → Option (List ℕ)) (may_answer : ℕ → ℕ → Bool → Type 0) (sources : List (Source I)) (turns : List (AtTurn I)) (kept : Kept) : Type 0 where
  pub count : length turns ≡ length sources
  pub each : (rank : ℕ) (source : Source I) (turn : AtTurn I) → slice_get sources rank ≡ Some source → slice_get turns rank ≡ Some turn → IsTurnOf left may_answer rank source turn kept

-- a later time of as many turns
pub record AreLater {I : Type 0} (left : I → Option (List ℕ)) (may_answer : ℕ → ℕ → Bool → Type 0) (old : List (AtTurn I)) (before : Kept) (new : List (AtTurn I)) (after : Kept) : Type 0 where
  pub count : length new ≡ length old
  pub ranks : length after.recording ≡ length before.recording
  pub places : length after.faults ≡ length before.faults
  pub reading : after.reading ≡ before.reading
  pub groups : after.groups ≡ before.groups
  pub ready : All (λ turn. IsReady turn) old → All (λ turn. IsReady turn) new
  pub turns : (sources : List (Source I)) → AreTurnsOf left may_answer sources old before → AreTurnsOf left may_answer sources new after

-- all of a rank's source was read, and unless memory ran out, what its items give is kept of the rank
pub record IsReadOf {I : Type 0} (left : I → Option (List ℕ)) (may_answer : ℕ → ℕ → Bool → Type 0) (rank : ℕ) (source : Source I) (kept : Kept) : Type 0 where
  pub items : List Item
  pub whole : IsWhole (coming left source) (may_answer rank) items
  pub kept_so : kept.wanted ≡ false → IsKeptIn rank items kept

-- all of each source was read, and is kept so of the rank at its place
pub record AreReadOf {I : Type 0} (left : I → Option (List ℕ)) (may_answer : ℕ → ℕ → Bool → Type 0) (sources : List (Source I)) (kept : Kept) : Type 0 where
  pub one_a_rank : length kept.recording ≡ length sources
  pub places : length kept.faults ≡ length kept.recording
  pub each : (rank : ℕ) (source : Source I) → slice_get sources rank ≡ Some source → IsReadOf left may_answer rank source kept
