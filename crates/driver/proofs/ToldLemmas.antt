-- The trace that is to come of a source, by spelling and first fault, is the one that reading its lines gives.
use Rattle.std.proofs.Common.{◌≡◌, ℕ, List, [], ◌∷◌, map, sym, ap, ◌∙◌, refl, Option, Some, None, option_map, IfSome, subst}
use Rattle.std.specs.List.{AllZip}
use Rattle.mpicall.specs.Lines.{lines_of}
use Rattle.mpicall.specs.Source.{coming, trace_at, unread}
use Rattle.mpicall.specs.Trace.{Trace, IsTraceOf, trace_of, ends_here, end_with_behind}
use Rattle.mpicall.specs.declared.source.Source.{Source}
use Rattle.mpicall.specs.declared.source.Stage.{Stage}
use Rattle.mpicall.specs.declared.source.Stage.TheVariants as stage
use Rattle.mpicall.proofs.OneTraceLemmas.{one_trace}
use Rattle.driver.specs.VerdictContract.{IsToCome, IsTraceAt, Tells}

read_at : (at : Stage) (bytes : Option (List ℕ)) (trace : Trace) → IsTraceAt at bytes trace → trace_at at bytes ≡ Some trace
unfolding trace_of
read_at stage.Reading bytes trace (text, known, is) = ap (option_map trace_of) known ∙ ap Some (sym ((one_trace (lines_of text) trace).0 is))
read_at stage.Ended bytes trace (text, known, is) = ap (option_map (λ behind. ends_here (end_with_behind (lines_of behind)))) known ∙ ap Some (sym is)
read_at stage.Done bytes trace is = ap Some (sym is)
read_at (stage.Failed fault) bytes trace is = ap Some (sym is)

at_read : (at : Stage) (bytes : Option (List ℕ)) (trace : Trace) → trace_at at bytes ≡ Some trace → IsTraceAt at bytes trace
unfolding trace_of
at_read stage.Reading None trace is = cc
at_read stage.Reading (Some text) trace is = (text, refl, (one_trace (lines_of text) trace).1 (let e : trace ≡ trace_of text = cc in e))
at_read stage.Ended None trace is = cc
at_read stage.Ended (Some text) trace is = (text, refl, let e : trace ≡ ends_here (end_with_behind (lines_of text)) = cc in e)
at_read stage.Done bytes trace is = cc
at_read (stage.Failed fault) bytes trace is = cc

pub to_come_is_read : {I : Type 0} (left : I → Option (List ℕ)) (source : Source I) (trace : Trace) → IsToCome left source trace → coming left source ≡ Some trace
unfolding coming
to_come_is_read left source trace is = read_at source.stage (unread left source) trace is

pub read_is_to_come : {I : Type 0} (left : I → Option (List ℕ)) (source : Source I) (trace : Trace) → coming left source ≡ Some trace → IsToCome left source trace
unfolding coming
read_is_to_come left source trace is = at_read source.stage (unread left source) trace is

-- the traces of all sources
pub read_of_told : {I : Type 0} (left : I → Option (List ℕ)) (sources : List (Source I)) (traces : List Trace) → Tells left sources traces → map (coming left) sources ≡ map Some traces
read_of_told left [] [] tells = refl
read_of_told left (s ∷ ss) (t ∷ ts) tells =
    let here : coming left s ≡ Some t = to_come_is_read left s t tells.0 in
    let behind : map (coming left) ss ≡ map Some ts = read_of_told left ss ts tells.1 in
    cc
read_of_told left sources traces tells = absurd tells

pub told_of_read : {I : Type 0} (left : I → Option (List ℕ)) (sources : List (Source I)) (traces : List Trace) → map (coming left) sources ≡ map Some traces → Tells left sources traces
told_of_read left [] [] are = tt
told_of_read left [] (t ∷ ts) are = cc
told_of_read left (s ∷ ss) [] are = cc
told_of_read left (s ∷ ss) (t ∷ ts) are = (
  read_is_to_come left s t (let here : coming left s ≡ Some t = cc in here),
  told_of_read left ss ts (let behind : map (coming left) ss ≡ map Some ts = cc in behind),
)

-- what is read of a source, by its trace
pub whole_if_told : (told : Option Trace) (P : Trace → Type 0) (trace : Trace) → IfSome told P → told ≡ Some trace → P trace
whole_if_told None P trace h e = cc
whole_if_told (Some t) P trace h e = let same : t ≡ trace = cc in subst P same h

pub told_if_whole : (told : Option Trace) (P : Trace → Type 0) → ((trace : Trace) → told ≡ Some trace → P trace) → IfSome told P
told_if_whole None P h = tt
told_if_whole (Some t) P h = h t refl
