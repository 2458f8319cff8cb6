-- Findings that are left out.
use Rattle.std.proofs.Common.{◌≡◌, ℕ, Bool, false, List, [], refl}
use Rattle.findings.specs.declared.finding.Finding.{Finding}
use Rattle.findings.specs.declared.finding.Finding.TheVariants.{Kind, Root, Unreceived, Request, Group}
use Rattle.closing.specs.declared.choice.Calls.{Calls}
use Rattle.closing.specs.declared.choice.Calls.TheVariants.{Strict, Went}
use Rattle.judging.specs.Judging.{is_left_out, reported_by}

pub other_stays : (left_out : ℕ → ℕ → Bool) (finding : Finding) → ((rank place request : ℕ) → finding ≡ Request rank place request → ⊥) → false ≡ is_left_out left_out finding
other_stays left_out (Kind comm wave member first word) other = refl
other_stays left_out (Root comm wave member first root) other = refl
other_stays left_out (Unreceived rank place) other = refl
other_stays left_out (Request rank place request) other = absurd (other rank place request refl)
other_stays left_out (Group rank place) other = refl

-- as it went there is none
pub reported_went : (calls : Calls) (left_out : ℕ → ℕ → Bool) (findings reported : List Finding) → calls ≡ Went → reported ≡ [] → reported ≡ reported_by calls left_out findings
reported_went Went left_out findings reported went none = none
reported_went Strict left_out findings reported went none = cc
