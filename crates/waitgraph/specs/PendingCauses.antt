-- Why ranks are held where pending calls and sinks are known. A held rank waits by the first of what it waits for and
-- can't come, so the walk from rank to rank comes to a cycle, to what is missing, or to a message that nobody may send.
use Rattle.mpicall.specs.Names.{Rank}
use Rattle.moves.specs.declared.reading.Reading.{Reading}
use Rattle.std.specs.Prelude.{◌≡◌, ◌↔◌, ℕ, if◌then◌else◌, Option, Some, None, option_map, option_and_then, List, ◌∷◌, ◌++◌, length}
use Rattle.std.specs.List.{filter_map, range_with_len}
use Rattle.mpigroup.specs.Groups.{Groups}
use Rattle.callstore.specs.Recordings.{Lists}
use Rattle.waitgraph.specs.Stuck.{rank_needed}
use Rattle.waitgraph.specs.Held.{Set, is_missing}
use Rattle.waitgraph.specs.Causes.{CauseView, CycleOf, MissingOf, StarvedOf, IsCycle, TellsCauses}
use Rattle.waitgraph.specs.Pending.{Known}
use Rattle.waitgraph.specs.PendingHeld.{AreHeldBy}
use Rattle.waitgraph.specs.PendingNeeds.{held_up_by}
use Rattle.waitgraph.specs.declared.awaited.Awaited.{Awaited}
use Rattle.waitgraph.specs.declared.awaited.Awaited.TheVariants as awaited

-- the rank to which the walk goes on
abbrev pub next_to : Lists → Awaited → Option ℕ
next_to recording (awaited.Call need) = if is_missing recording need then None else Some (rank_needed need)
next_to recording (awaited.Rank rank) = Some rank
next_to recording awaited.Nobody = None

-- the missing call at which it ends
abbrev pub missing_to : Lists → Rank → Awaited → Option CauseView
missing_to recording waiting (awaited.Call need) = if is_missing recording need then Some (MissingOf waiting (rank_needed need)) else None
missing_to recording waiting _ = None

-- it ends at a rank that waits for a message which nobody may send
abbrev pub starved_to : Rank → Awaited → Option CauseView
starved_to waiting awaited.Nobody = Some (StarvedOf waiting)
starved_to waiting _ = None

-- the same of the walk from a rank
abbrev pub next_by : Reading → Groups → Lists → Known → Set → Rank → Option ℕ
next_by reading groups recording known held rank = option_and_then (next_to recording) (held_up_by reading groups recording known held rank)

abbrev pub missing_by : Reading → Groups → Lists → Known → Set → Rank → Option CauseView
missing_by reading groups recording known held rank = option_and_then (missing_to recording rank) (held_up_by reading groups recording known held rank)

abbrev pub starved_by : Reading → Groups → Lists → Known → Set → Rank → Option CauseView
starved_by reading groups recording known held rank = option_and_then (starved_to rank) (held_up_by reading groups recording known held rank)

-- the causes: the cycles by their lowest rank, the missing calls by the rank that waits, and then the ranks that wait for
-- a message which nobody may send
pub record AreCausesBy (reading : Reading) (groups : Groups) (recording : Lists) (known : Known) (causes : List CauseView) : Type 0 where
  pub held : Set
  pub are_held : AreHeldBy reading groups recording known held
  pub rest_of : ℕ → Option (List ℕ)
  pub are_cycles : (low : ℕ) (rest : List ℕ) → (rest_of low ≡ Some rest) ↔ IsCycle (next_by reading groups recording known held) low rest
  pub are_all : causes ≡
      filter_map (λ low. option_map (λ rest. CycleOf (low ∷ rest)) (rest_of low)) (range_with_len 0 (length recording))
      ++ filter_map (missing_by reading groups recording known held) (range_with_len 0 (length recording))
      ++ filter_map (starved_by reading groups recording known held) (range_with_len 0 (length recording))

-- where a walk ends besides at a cycle
abbrev pub end_to : Lists → Rank → Awaited → Option CauseView
end_to recording waiting (awaited.Call need) = missing_to recording waiting (awaited.Call need)
end_to recording waiting other = starved_to waiting other

abbrev pub end_by : Reading → Groups → Lists → Known → Set → Rank → Option CauseView
end_by reading groups recording known held rank = option_and_then (end_to recording rank) (held_up_by reading groups recording known held rank)

-- Law: over every recording, the walk from each held rank comes to a cause that is listed, and each cause that is listed
-- is one to which the walk from some held rank comes.
abbrev pub WalksEndInTheCausesBy : Type 0
WalksEndInTheCausesBy =
    (reading : Reading) (groups : Groups) (recording : Lists) (known : Known) (causes : List CauseView) →
    (are : AreCausesBy reading groups recording known causes) →
    TellsCauses (next_by reading groups recording known are.held) (end_by reading groups recording known are.held) are.held causes
