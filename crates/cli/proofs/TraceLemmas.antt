-- The traces that texts hold, by spelling and first fault, are those that reading their lines gives.
use Rattle.std.proofs.Common.{◌≡◌, ℕ, List, [], ◌∷◌, map, ap, ◌∙◌, refl}
use Rattle.mpicall.specs.Lines.{lines_of}
use Rattle.mpicall.specs.Trace.{Trace, IsTraceOf, trace_of}
use Rattle.mpicall.proofs.OneTraceLemmas.{one_trace}
use Rattle.cli.specs.Texts.{AreTracesOf}

pub trace_read : (text : List ℕ) (trace : Trace) → IsTraceOf (lines_of text) trace → trace ≡ trace_of text
unfolding trace_of
trace_read text trace holds = (one_trace (lines_of text) trace).0 holds

pub holds_read : (text : List ℕ) → IsTraceOf (lines_of text) (trace_of text)
unfolding trace_of
holds_read text = (one_trace (lines_of text) (trace_of text)).1 refl

pub traces_read : (texts : List (List ℕ)) (traces : List Trace) → AreTracesOf texts traces → traces ≡ map trace_of texts
traces_read [] [] hold = refl
traces_read (text ∷ texts) (trace ∷ traces) hold =
    ap (λ (t : Trace). t ∷ traces) (trace_read text trace hold.0) ∙ ap (λ (ts : List Trace). trace_of text ∷ ts) (traces_read texts traces hold.1)
traces_read texts traces hold = absurd hold

pub hold_read : (texts : List (List ℕ)) → AreTracesOf texts (map trace_of texts)
hold_read [] = tt
hold_read (text ∷ texts) = (holds_read text, hold_read texts)
