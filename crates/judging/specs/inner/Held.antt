-- Held ranks and the calls of findings, as they are kept.
use Rattle.std.specs.Prelude.{◌≡◌, Bool, Option, Some, None, List, map, ⊤}
use Rattle.mpigroup.specs.Groups.{Groups}
use Rattle.moves.specs.declared.reading.Reading.{Reading}
use Rattle.callstore.specs.Recordings.{Lists}
use Rattle.findings.specs.declared.finding.Finding.{Finding}
use Rattle.waitgraph.specs.HeldAmong.{ListsHeldAmong, asked_in}
use Rattle.waitgraph.specs.Pending.{Known}
use Rattle.report.specs.declared.judged.HeldRanks.{HeldRanks}
use Rattle.judging.specs.HeldSaid.{call_said}
use Rattle.judging.specs.NamedCalls.{calls_found}
use Rattle.judging.specs.declared.held.Held.{Held}

pub record AreKept (reading : Reading) (groups : Groups) (recording : Lists) (known : Known) (asked : List Bool) (findings : List Finding) (it : Held) : Type 0 where
  pub ranks : ListsHeldAmong reading groups recording known (asked_in asked) it.ranks.items
  pub calls : map (λ calls. map call_said calls.items) it.calls.items ≡ map (calls_found groups recording) findings

abbrev pub IsHeldKept : Reading → Groups → Lists → Known → Option (List Bool) → List Finding → Option Held → Type 0
IsHeldKept reading groups recording known (Some asked) findings (Some it) = AreKept reading groups recording known asked findings it
IsHeldKept reading groups recording known None findings None = ⊤
IsHeldKept reading groups recording known asked findings held = ⊥

-- what is said is what is kept
abbrev pub IsSame : Option Held → Option HeldRanks → Type 0
IsSame None None = ⊤
IsSame (Some held) (Some it) = (it.ranks.now ≡ held.ranks.items) × (it.finding_calls.now ≡ held.calls.items)
IsSame held said = ⊥
