-- What an update shows: stands that were published, and none lower than before.
use Rattle.std.specs.Prelude.{◌≡◌, ◌⊎◌, ℕ, Bool, Option, Some, None, List}
use Rattle.mpicall.specs.Device.{AppendsBeginning}
use Rattle.watches.specs.declared.stands.Stands.{Stands}
use Rattle.watches.specs.Watches.{seen_by, list_watched}
use Rattle.progress.specs.Lines.{IsPositionOf, framed, words_of}
use Rattle.progress.specs.declared.line.Position.{Position}
use Rattle.progress.specs.declared.viewer.Viewer.{Viewer}

-- the publications that a viewer has seen, and the list that they are of
abbrev pub seen : Viewer → List Stands
seen viewer = seen_by viewer.watch

abbrev pub list_viewed : Viewer → ℕ
list_viewed viewer = list_watched viewer.watch

-- whether an update takes the place of the last one
abbrev pub is_on_terminal : Viewer → Bool
is_on_terminal viewer = viewer.manner.is_terminal

-- a prefix of the text of these stands was written, of so many ranks and with so much read
pub record ShowsStands {O : Type 0} (written : O → Option (List ℕ)) (is_terminal : Bool) (stands : Stands) (old new : O) : Type 0 where
  pub ranks : ℕ
  pub percent : Option ℕ
  pub position : Position
  pub of_stands : IsPositionOf ranks stands percent position
  pub text : AppendsBeginning (written old) (written new) (framed is_terminal (words_of position))

-- it is that of the last stands that were seen, or nothing was written
abbrev pub ShowsLast : {O : Type 0} → (O → Option (List ℕ)) → Bool → Option Stands → O → O → Type 0
ShowsLast written is_terminal None old new = new ≡ old
ShowsLast written is_terminal (Some stands) old new = (new ≡ old) ⊎ ShowsStands written is_terminal stands old new
