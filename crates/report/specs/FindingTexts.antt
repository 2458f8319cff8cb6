-- The text of a finding, as both reports have it: a word for what is wrong, and where it is.
use Rattle.std.specs.Prelude.{ℕ, List, [], ◌∷◌, codes}
use Rattle.std.specs.Fmt.{decimal}
use Rattle.mpicall.specs.Word.{text_of}
use Rattle.findings.specs.declared.finding.Finding.{Finding}
use Rattle.findings.specs.declared.finding.Finding.TheVariants.{Kind, Root, Unreceived, Request, Group}

-- the fields of a finding: communicator, wave and group rank, and then what group rank 0 and the member
-- call, or which roots they name; or rank and place, and the request
abbrev pub finding_fields : Finding → List (List ℕ)
finding_fields (Kind comm wave member first word) =
    codes "kind" ∷ decimal comm ∷ decimal wave ∷ decimal member ∷ text_of first ∷ text_of word ∷ []
finding_fields (Root comm wave member first root) =
    codes "root" ∷ decimal comm ∷ decimal wave ∷ decimal member ∷ decimal first ∷ decimal root ∷ []
finding_fields (Unreceived rank place) = codes "unreceived" ∷ decimal rank ∷ decimal place ∷ []
finding_fields (Request rank place req) = codes "request" ∷ decimal rank ∷ decimal place ∷ decimal req ∷ []
finding_fields (Group rank place) = codes "group" ∷ decimal rank ∷ decimal place ∷ []
