-- The text of an array, element by element.
use Rattle.std.specs.Prelude.{ℕ, Bool, false, true, List, [], ◌∷◌, ◌++◌, map}
use Rattle.serde_json.specs.Data.{Data, string}
use Rattle.serde_json.specs.Written.{comma_if, compact_text}

-- the texts of some values, with commas between them, and one before them where others come before
abbrev pub values_text : Bool → List Data → List ℕ
values_text later [] = []
values_text later (value ∷ values) = comma_if later ++ (compact_text value ++ values_text true values)

-- what is between the brackets of an array with a value for each element
abbrev pub elements_text : {A : Type 0} → (A → Data) → List A → List ℕ
elements_text told elements = values_text false (map told elements)

-- a key of an object, with what comes before and after it
abbrev pub key_text : List ℕ → List ℕ → List ℕ → List ℕ
key_text before key behind = before ++ (compact_text (string key) ++ behind)
