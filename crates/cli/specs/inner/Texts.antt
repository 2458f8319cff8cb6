-- What proofs and private contracts cite, in addition to the definitions of `specs/Texts.antt`.
use Rattle.std.specs.Prelude.{◌≡◌, ℕ, Option, Err, IfSome, List, ⊤}
use Rattle.std.specs.Borrow.{Bor}
use Rattle.std.specs.Io.KnownBytes.{Appends}
use Rattle.mpigroup.specs.HeadText.{read_head}
use Rattle.waitgraph.specs.declared.verdict.Verdict.{Verdict}
use Rattle.cli.specs.declared.options.Options.{Options}
use Rattle.cli.specs.declared.fault.Fault.{Fault}
use Rattle.cli.specs.declared.fault.Fault.TheVariants.{Open, ReadHead, Head, Memory}
use Rattle.cli.specs.Openings.{Fate, ReadFailed, Unopened}
use Rattle.cli.specs.Texts.{IsFirstUnopened, IsUnopened, IsReportOf}

-- the fault is one of opening or of reading the head, or the first fault of its text, where that is known
abbrev pub IsFaultOfHead : (List ℕ → Fate → Type 0) → (List ℕ → Option (List ℕ)) → List ℕ → Fault → Type 0
IsFaultOfHead fate told head (Open path) = (path.now ≡ head) × IsUnopened told head × fate head Unopened
IsFaultOfHead fate told head ReadHead = fate head ReadFailed
IsFaultOfHead fate told head (Head fault) = IfSome (told head) (λ text. read_head text ≡ Err fault)
IsFaultOfHead fate told head Memory = ⊤
IsFaultOfHead fate told head fault = ⊥

-- the same of the front that was read of it
abbrev pub IsFaultOfFront : List ℕ → Fault → Type 0
IsFaultOfFront front (Head fault) = read_head front ≡ Err fault
IsFaultOfFront front Memory = ⊤
IsFaultOfFront front fault = ⊥

-- a file couldn't be opened, and is the first of them, or memory ran out
abbrev pub IsFaultOfOpening : (List ℕ → Fate → Type 0) → (List ℕ → Option (List ℕ)) → List (Bor (List ℕ)) → Fault → Type 0
IsFaultOfOpening fate told files (Open path) = IsFirstUnopened fate files path × IsUnopened told path.now
IsFaultOfOpening fate told files Memory = ⊤
IsFaultOfOpening fate told files fault = ⊥

-- the report follows what was there
abbrev pub WritesReportOf : {O : Type 0} → (O → Option (List ℕ)) → O → O → Options → Option (List ℕ) → List (Option (List ℕ)) → Verdict → Type 0
WritesReportOf written old new options head files verdict =
    (report : List ℕ) × IsReportOf options head files verdict report × Appends (written old) (written new) report
