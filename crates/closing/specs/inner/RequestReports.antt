-- What is kept of the requests of a journal, against what its lines say of them.
use Rattle.std.specs.Prelude.{◌≡◌, ℕ, ◌≤◌, ◌<◌, ◌^◌, List, [], ◌∷◌, length}
use Rattle.journals.specs.Lines.{Line}
pub use Rattle.closing.specs.ToldOutcomes.{Tells}
use Rattle.closing.specs.Fit.{AreFormed, report_count}
use Rattle.closing.specs.Entry.{id_of}
use Rattle.closing.specs.Steps.{Own}
use Rattle.closing.specs.inner.Standings.{id_in}
use Rattle.closing.specs.declared.standing.Standing.{Standing}

-- there are no more lines than can be counted, and of each request it is reported once at most what came of it
pub record AreReadable (lines : List Line) : Type 0 where
  pub few : length lines < 2 ^ 32
  pub formed : AreFormed lines
  pub once : (request : ℕ) → report_count lines request ≤ 1

-- what is kept of a request in the trace is what these lines say: itself, or the message that it takes
abbrev pub StandsFor : List Line → Standing → ℕ → Type 0
StandsFor lines it request = Own (id_in it request) ≡ id_of lines request

-- so it is of each of some requests
abbrev pub AllStandFor : List Line → Standing → List ℕ → Type 0
AllStandFor lines it [] = Unit {0}
AllStandFor lines it (request ∷ requests) = StandsFor lines it request × AllStandFor lines it requests
