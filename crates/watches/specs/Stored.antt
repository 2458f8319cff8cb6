-- How the logic stores stands: as their places.
use Rattle.std.specs.Prelude.{ℕ, List}
use Rattle.std.specs.Coded.{Coded, coded_ℕ, coded_list, code_by}
use mathlib.Core.Path.{refl}
use Rattle.watches.specs.declared.stands.Stands.{Stands}

abbrev pub stands_coded : Coded Stands
stands_coded = code_by (List ℕ) (coded_list coded_ℕ) (λ (stands : Stands). stands.places) (λ places. record { places = places }) (λ _. refl)
