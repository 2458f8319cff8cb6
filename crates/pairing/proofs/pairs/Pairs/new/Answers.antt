-- Without notes nothing is wrong.
use Rattle.std.proofs.Common.{ℕ, ap, sym, subst, ◌∙◌, List, [], replicate}
use Rattle.mpigroup.specs.Groups.{ranks_of}
use Rattle.callstore.specs.Recordings.{Lists}
use Rattle.callstore.specs.Notes.{Noted}
use Rattle.callstore.specs.inner.Notes.{recording_of}
use Rattle.pairing.specs.inner.Seated.{IsProbing}
use Rattle.pairing.proofs.KeptLemmas.{nothing_kept, recording_of-none}
use Rattle.pairing.proofs.pairs.Pairs.new.Goals as goal

pub returns-clause-recording : goal.returns-clause-recording
returns-clause-recording c =
    ap (λ (notes : List (List Noted)). recording_of notes) (c.in_ok-notes.ensures ∙ ap (λ (n : ℕ). replicate {A = List Noted} n []) c.ranks.ensures.value)
    ∙ recording_of-none (ranks_of c.args.head)

pub invariant_of-result : goal.invariant_of-result
invariant_of-result c =
    let none = ap (λ (notes : List (List Noted)). recording_of notes) (c.in_ok-notes.ensures ∙ ap (λ (n : ℕ). replicate {A = List Noted} n []) c.ranks.ensures.value) ∙ recording_of-none (ranks_of c.args.head) in (
      nothing_kept c.args.head c.in_ok-notes.notes.lists c.in_ok-tables.tables
          (c.in_ok-notes.ensures ∙ ap (λ (n : ℕ). replicate {A = List Noted} n []) c.ranks.ensures.value)
          c.in_ok-tables.ensures,
      subst (λ (lists : Lists). IsProbing c.args.head lists c.new-probing.result) (sym none) (c.new-probing.ensures c.args.head (ranks_of c.args.head)),
    )
