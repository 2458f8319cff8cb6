-- What offers of records keep.
use Rattle.std.proofs.Common.{◌≡◌, ◌∙◌, ℕ, length, ap, refl}
use Rattle.std.proofs.lemmas.List.{length-set}
use Rattle.mpicall.specs.declared.call.Call.{Call}
use Rattle.callstore.specs.Recordings.{Lists, appended}
use Rattle.moves.specs.Analysed.{Analysed}
use Rattle.judging.specs.inner.Unwritten.{KeepsRanks}

pub keeps_none : (old : Analysed) → KeepsRanks old old
keeps_none old = record { reading = refl; groups = refl; ranks = refl }

pub keeps_same : (old new : Analysed) → new ≡ old → KeepsRanks old new
keeps_same old new same = record {
  reading = ap (λ (a : Analysed). a.reading) same;
  groups = ap (λ (a : Analysed). a.groups) same;
  ranks = ap (λ (a : Analysed). length a.recording) same;
}

pub keeps_more : (old mid new : Analysed) → KeepsRanks old mid → KeepsRanks mid new → KeepsRanks old new
keeps_more old mid new first next = record {
  reading = next.reading ∙ first.reading;
  groups = next.groups ∙ first.groups;
  ranks = next.ranks ∙ first.ranks;
}

pub keeps_offered : (old new : Analysed) (rank : ℕ) (call : Call) → new.reading ≡ old.reading → new.groups ≡ old.groups → new.recording ≡ appended old.recording rank call → KeepsRanks old new
keeps_offered old new rank call reading groups recording = record {
  reading = reading;
  groups = groups;
  ranks = ap (λ (lists : Lists). length lists) recording ∙ length-set old.recording rank _;
}

pub ruleset turn_steps = (keeps_none, keeps_same, keeps_more, keeps_offered)
