-- What is said of held ranks is what is kept.
use Rattle.std.proofs.Common.{◌≡◌, ℕ, ◌+◌, ◌<◌, Bool, Option, Some, None, List, [], ◌∷◌, ◌++◌, length, map, take, get_or, refl, sym, ap, ◌∙◌, subst}
use Rattle.std.proofs.lemmas.List.{map-append, take_more}
use Rattle.mpigroup.specs.Groups.{Groups}
use Rattle.moves.specs.declared.reading.Reading.{Reading}
use Rattle.callstore.specs.Recordings.{Lists}
use Rattle.findings.specs.declared.finding.Finding.{Finding}
use Rattle.waitgraph.specs.HeldAmong.{ListsHeldAmong, asked_in}
use Rattle.waitgraph.specs.Pending.{Known}
use Rattle.report.specs.declared.judged.HeldRanks.{HeldRanks}
use Rattle.judging.specs.HeldSaid.{AreSaid, IsHeldSaid, call_said}
use Rattle.judging.specs.inner.Held.{AreKept, IsHeldKept, IsSame}
use Rattle.judging.specs.declared.held.Held.{Held}

pub said_as_kept : (reading : Reading) (groups : Groups) (recording : Lists) (known : Known) (asked : Option (List Bool)) (findings : List Finding) (held : Option Held) (said : Option HeldRanks) →
    IsHeldKept reading groups recording known asked findings held → IsSame held said → IsHeldSaid reading groups recording known asked findings said
said_as_kept reading groups recording known (Some asked) findings (Some held) (Some said) kept same = record {
  ranks = rw same.0 kept.ranks;
  calls = rw same.1 kept.calls;
}
said_as_kept reading groups recording known None findings None None kept same = tt
said_as_kept reading groups recording known (Some asked) findings None said kept same = absurd kept
said_as_kept reading groups recording known None findings (Some held) said kept same = absurd kept
said_as_kept reading groups recording known (Some asked) findings (Some held) None kept same = absurd same
said_as_kept reading groups recording known None findings None (Some said) kept same = absurd same

-- one element more is taken
pub one_taken : {A B C : Type 0} (f : B → C) (g : A → C) (elements : List A) (i : ℕ) (element : A) (so_far later : List B) (value : B)
    → map f so_far ≡ map g (take i elements) → later ≡ so_far ++ value ∷ [] → f value ≡ g element → i < length elements → element ≡ get_or elements i element
    → map f later ≡ map g (take (i + 1) elements)
one_taken f g elements i element so_far later value h pushed is within there =
    let here : get_or elements i element ≡ element = sym there in
    rw (pushed, take_more elements i element within, map-append, map-append, h, is, here) refl
