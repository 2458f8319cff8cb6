use Rattle.std.proofs.Common.{◌≡◌, ◌∙◌, ◌++◌, ◌∷◌, [], List, ap, length, sym, arith}
use Rattle.callstore.specs.declared.entries.Slot.{Slot}
use Rattle.callstore.specs.declared.cached_match.CachedMatch.{CachedMatch}
use Rattle.callstore.specs.inner.Entries.{Entry, EntryList, entries_of, entry_of}
use Rattle.callstore.specs.inner.Marks.{no_pair, pair_of}
use Rattle.callstore.proofs.EntryLemmas.{pushed_alone, pushed_both, entry_near}
use Rattle.callstore.proofs.entries.Entries.push_reserved.Goals as goal
use Rattle.callstore.proofs.entries.Entries.push_reserved.Goals.{then-is_apart, else-is_apart}

pub returns : goal.returns
returns c =
    let slots = c.self.inside.slots.items in
    let pairs = c.self.inside.pairs.items in
    let slot : Slot = record { call = c.args.call; mark = c.of-mark.result } in
    let same : entries_of slots pairs ≡ c.args.self.now.items = ap (λ (list : EntryList). list.items) c.self.view_is in
    elim c.if-is_apart.branch [
      | then-is_apart w ↦
          let as_many : length w.fill.new.pairs.items ≡ length slots = omega (arith, w.fill.ensures.count, w.len.ensures) in
          rw (c.push_reserved-2.ensures.items, w.self-inside-is, w.push_reserved.ensures.items, w.pair_of.ensures)
          (pushed_both slots w.fill.new.pairs.items slot (pair_of c.args.cached) as_many
          ∙ ap (λ (entries : List Entry). entries ++ entry_of slot (pair_of c.args.cached) ∷ []) (w.fill.ensures.same slots ∙ same)
          ∙ ap (λ (kept : CachedMatch). c.args.self.now.items ++ record { call = c.args.call; cached = kept } ∷ []) c.of-mark.ensures)
      | else-is_apart w ↦
          rw (c.push_reserved-2.ensures.items, w.self-inside-is)
          (pushed_alone slots pairs slot c.self.invariant.0
          ∙ ap (λ (entries : List Entry). entries ++ entry_of slot no_pair ∷ []) same
          ∙ ap (λ (entry : Entry). c.args.self.now.items ++ entry ∷ []) (entry_near c.args.call c.of-mark.result c.args.cached no_pair c.of-mark.ensures (sym c.is_apart.ensures ∙ w.if-is_apart.false)))
    ]
