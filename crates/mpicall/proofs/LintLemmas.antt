-- A source that is read record by record.
use Rattle.std.proofs.Common.{◌≡◌, ℕ, ◌+◌, ◌-◌, ◌^◌, min, Bool, true, false, ◌&&◌, List, [], ◌∷◌, ◌++◌, length, length-append, append_assoc, subst, sym, ap, ◌∙◌, refl, arith, Option, Some, None, is_none, Ok, Err, IfSome}
use Rattle.std.specs.Io.KnownBytes.{Consumes}
use Rattle.mpicall.specs.Device.{count_if}
use Rattle.mpicall.specs.Lint.{capped, EndsWith}
use Rattle.mpicall.specs.Source.{Gives, CutsOff, answer_of, count_after, ended_at, trace_at}
use Rattle.mpicall.specs.Spelling.{spelling}
use Rattle.mpicall.specs.Trace.{Trace, ends_here}
use Rattle.mpicall.specs.declared.fault.Ending.{Ending}
use Rattle.mpicall.specs.declared.fault.Ending.TheVariants.{Sealed, Torn}
use Rattle.mpicall.proofs.CutLemmas.{given_first}
use Rattle.mpicall.specs.declared.call.Call.{Call}
use Rattle.mpicall.specs.declared.fault.SourceFault.{SourceFault}
use Rattle.mpicall.specs.declared.fault.SourceFault.TheVariants.{Line, TextAfterFinalize, NoFinalize, ReadFailed, GateStopped, ThreadNotStarted}
use Rattle.mpicall.specs.declared.source.Stage.{Stage}

-- some records of a trace were given, and the others are to come
pub record Given (old now : Trace) (count : ℕ) : Type 0 where
  pub given : ℕ
  pub records : length old.records ≡ given + length now.records
  pub end : old.end ≡ now.end
  pub count_is : count ≡ capped given

abbrev pub SoFar : Option Trace → Option Trace → ℕ → Type 0
SoFar None now count = Unit {0}
SoFar (Some old) None count = ⊥
SoFar (Some old) (Some now) count = Given old now count

pub lint_steps : (old now next : Option Trace) (count : ℕ) (call : Call) → SoFar old now count → Gives now next (Ok (Some call)) → SoFar old next (min (count + 1) (2 ^ 64 - 1))
lint_steps None now next count call s g = tt
lint_steps (Some old) None next count call s g = absurd s
lint_steps (Some old) (Some now) None count call s g = let no = g.2 in cc
lint_steps (Some old) (Some now) (Some next) count call s g =
    let rest : next ≡ g.0 = cc g.2 in
    let more = ap (λ (t : Trace). length t.records) g.1 in
    let same = ap (λ (t : Trace). length t.records) rest in
    let count_is = s.count_is in
    record {
      given = s.given + 1;
      records = omega (arith, s.records);
      end = s.end ∙ ap (λ (t : Trace). t.end) g.1 ∙ sym (ap (λ (t : Trace). t.end) rest);
      count_is = omega arith;
    }

ends_with : (old now : Trace) (count : ℕ) (fault : SourceFault) → Given old now count → now ≡ ends_here (Torn fault) → (old.end ≡ Torn fault) × (count ≡ capped (length old.records))
ends_with old now count fault s is =
    let none = ap (λ (t : Trace). length t.records) is in
    let all : length old.records ≡ s.given = omega (arith, s.records) in
    (s.end ∙ ap (λ (t : Trace). t.end) is, s.count_is ∙ ap capped (sym all))

faults : (old now : Trace) (next : Option Trace) (count : ℕ) (fault : SourceFault) → Given old now count → Gives (Some now) next (Err fault) → EndsWith old count fault
faults old now next count (Line fault) s g = ends_with old now count (Line fault) s g.0
faults old now next count TextAfterFinalize s g = ends_with old now count TextAfterFinalize s g.0
faults old now next count NoFinalize s g = ends_with old now count NoFinalize s g.0
faults old now next count ReadFailed s g = (s.given, omega (arith, s.records), s.count_is)
faults old now next count GateStopped s g = ends_with old now count GateStopped s g.0
faults old now next count ThreadNotStarted s g = ends_with old now count ThreadNotStarted s g.0

-- a source that gives a record had no end
pub gives_none : {A : Type 0} (end : Option Ending) (call : Call) (x y : A) → IfSome end (λ e. (Ok (Some call) ≡ answer_of e) × (x ≡ y)) → end ≡ None
gives_none None call x y h = refl
gives_none (Some Sealed) call x y h = let e = h.0 in cc
gives_none (Some (Torn fault)) call x y h = let e = h.0 in cc

not_failed : (b : Bool) (count : ℕ) → count_if (b && false) count ≡ count
not_failed true count = refl
not_failed false count = refl

pub counts_none : (end : Option Ending) (call : Call) (count : ℕ) → count_after end (Ok (Some call)) count ≡ count
counts_none end call count = not_failed (is_none end) count

-- Records that came before a read failed.

-- so many records were given, and they are the first of those that came, where a read fails after them
abbrev pub FirstGiven : Stage → Option (List ℕ) → Stage → Option (List ℕ) → ℕ → Type 0
FirstGiven old known now next count =
    (given : List Call) × (count ≡ capped (length given))
    × ((left : Option (List ℕ)) (calls : List Call) → CutsOff now next left calls → CutsOff old known left (given ++ calls))

pub first_steps : (old now next : Stage) (known between left : Option (List ℕ)) (count : ℕ) (call : Call) → FirstGiven old known now between count → Gives (trace_at now between) (trace_at next left) (Ok (Some call)) → ended_at next ≡ None → Consumes between left (spelling call) → FirstGiven old known next left (min (count + 1) (2 ^ 64 - 1))
first_steps old now next known between left count call first gives none consumed =
    let is = first.1 in (
      first.0 ++ call ∷ [],
      omega (arith, length-append first.0 (call ∷ [])),
      λ last calls cut.
          let whole = first.2 last (call ∷ calls) (given_first now next between left last call calls gives none consumed cut) in
          subst (CutsOff old known last) (sym (append_assoc first.0 (call ∷ []) calls)) whole,
    )
