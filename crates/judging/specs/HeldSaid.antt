-- What a report says where it is asked which ranks are held, for a run that still goes on.
use Rattle.std.specs.Prelude.{◌≡◌, Bool, Option, Some, None, List, map, ⊤}
use Rattle.mpigroup.specs.Groups.{Groups}
use Rattle.moves.specs.declared.reading.Reading.{Reading}
use Rattle.callstore.specs.Recordings.{Lists}
use Rattle.findings.specs.declared.finding.Finding.{Finding}
use Rattle.waitgraph.specs.HeldAmong.{ListsHeldAmong, asked_in}
use Rattle.waitgraph.specs.Pending.{Known}
use Rattle.report.specs.declared.judged.CallOf.{CallOf}
use Rattle.report.specs.declared.judged.HeldRanks.{HeldRanks}
use Rattle.judging.specs.NamedCalls.{CallAt, call_at, calls_found}

abbrev pub call_said : CallOf → CallAt
call_said it = call_at it.rank it.place

-- the ranks that are held among those that are asked for, and the calls of each finding
pub record AreSaid (reading : Reading) (groups : Groups) (recording : Lists) (known : Known) (asked : List Bool) (findings : List Finding) (it : HeldRanks) : Type 0 where
  pub ranks : ListsHeldAmong reading groups recording known (asked_in asked) it.ranks.now
  pub calls : map (λ calls. map call_said calls.items) it.finding_calls.now ≡ map (calls_found groups recording) findings

-- these, if it is asked; else nothing
abbrev pub IsHeldSaid : Reading → Groups → Lists → Known → Option (List Bool) → List Finding → Option HeldRanks → Type 0
IsHeldSaid reading groups recording known (Some asked) findings (Some it) = AreSaid reading groups recording known asked findings it
IsHeldSaid reading groups recording known None findings None = ⊤
IsHeldSaid reading groups recording known asked findings held = ⊥
