-- What one write leaves, and what an update shows by it.
use Rattle.std.proofs.Common.{append-nil, ◌≡◌, ℕ, Bool, Option, Some, None, Result, Ok, Err, List, inr, subst, sym, ◌∙◌}
use Rattle.std.specs.Io.KnownBytes.{Keeps, WriteAppends}
use Rattle.mpicall.specs.Device.{AppendsBeginning}
use Rattle.watches.specs.declared.stands.Stands.{Stands}
use Rattle.progress.specs.Lines.{IsPositionOf, framed, words_of}
use Rattle.progress.specs.Updates.{ShowsLast}
use Rattle.progress.specs.declared.line.Position.{Position}

keeps : (old new : Option (List ℕ)) (text : List ℕ) → Keeps old new → AppendsBeginning old new text
keeps None new text same = (0, tt)
keeps (Some xs) None text same = absurd same
keeps (Some xs) (Some ys) text same = (0, same ∙ sym (append-nil xs))

-- one write writes a prefix of its text
pub once : {E : Type 0} (old new : Option (List ℕ)) (answer : Result ℕ E) (text : List ℕ) → WriteAppends old new answer text → AppendsBeginning old new text
once old new (Ok n) text wrote = (n, wrote)
once old new (Err fault) text wrote = keeps old new text wrote

-- the text of the last stands
pub shows : {O : Type 0} (written : O → Option (List ℕ)) (is_terminal : Bool) (last : Option Stands) (stands : Stands) (ranks : ℕ) (percent : Option ℕ) (position : Position) (text : List ℕ) (old new : O) →
    last ≡ Some stands → IsPositionOf ranks stands percent position → text ≡ framed is_terminal (words_of position) → AppendsBeginning (written old) (written new) text → ShowsLast written is_terminal last old new
shows written is_terminal last stands ranks percent position text old new is of_stands same begins =
    subst (λ (l : Option Stands). ShowsLast written is_terminal l old new) (sym is)
    (inr (record {
      ranks = ranks;
      percent = percent;
      position = position;
      of_stands = of_stands;
      text = subst (λ (t : List ℕ). AppendsBeginning (written old) (written new) t) same begins;
    }))
