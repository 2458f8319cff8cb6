-- How a report comes to its output: lines wait on a page, the output is given what waits, and after a write that
-- failed it is given no more.
use Rattle.std.specs.Prelude.{◌≡◌, ℕ, Bool, true, false, Option, Result, MatchResult, List, [], ◌∷◌, ◌++◌}
use Rattle.std.specs.Io.KnownBytes.{Appends}
use Rattle.mpicall.specs.Device.{one_more, AppendsBeginning}
use Rattle.mpicall.specs.Spelling.{space}
use Rattle.report.specs.declared.write.printer.Printer.{Printer}

-- the bytes with further fields after them, each after one space
abbrev pub with_fields : List ℕ → List (List ℕ) → List ℕ
with_fields bytes [] = bytes
with_fields bytes (field ∷ fields) = with_fields (bytes ++ space ∷ field) fields

-- the output was given some bytes since it had `begun`: they and what waits are the text
pub record IsOnTheWay (begun : Option (List ℕ)) (text : List ℕ) (written : Option (List ℕ)) (waits : List ℕ) : Type 0 where
  pub given : List ℕ
  pub went : Appends begun written given
  pub none_is_lost : text ≡ given ++ waits

-- the text is printed, by whether a write failed since the output had `begun` and that count of failures: it is on the
-- way; or the output has a prefix of it, and one failure more
abbrev pub IsPrinted : Bool → Option (List ℕ) → ℕ → List ℕ → Option (List ℕ) → ℕ → List ℕ → Type 0
IsPrinted false begun count text written failures waits = IsOnTheWay begun text written waits × (failures ≡ count)
IsPrinted true begun count text written failures waits = AppendsBeginning begun written text × (failures ≡ one_more count)

-- what was printed before still is
abbrev pub KeepsPrinted : {O : Type 0} → (O → Option (List ℕ)) → (O → ℕ) → O → Printer → O → Printer → Type 0
KeepsPrinted written failures out printer out' printer' =
    (begun : Option (List ℕ)) (count : ℕ) (before : List ℕ) →
    IsPrinted printer.failed begun count before (written out) (failures out) printer.page →
    IsPrinted printer'.failed begun count before (written out') (failures out') printer'.page

-- and the text after it
abbrev pub Prints : {O : Type 0} → (O → Option (List ℕ)) → (O → ℕ) → O → Printer → O → Printer → List ℕ → Type 0
Prints written failures out printer out' printer' text =
    (begun : Option (List ℕ)) (count : ℕ) (before : List ℕ) →
    IsPrinted printer.failed begun count before (written out) (failures out) printer.page →
    IsPrinted printer'.failed begun count (before ++ text) (written out') (failures out') printer'.page

-- all of a text is with the output; or a prefix of it, and one failure more
abbrev pub PrintsAll : {T E : Type 0} → Option (List ℕ) → ℕ → Option (List ℕ) → ℕ → List ℕ → Result T E → Type 0
PrintsAll begun count written failures text result =
    MatchResult result (λ _. Appends begun written text × (failures ≡ count)) (λ _. AppendsBeginning begun written text × (failures ≡ one_more count))
