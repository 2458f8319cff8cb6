-- The first start whose call starts the request is kept with the first such request.
use Rattle.std.proofs.Common.{ℕ, ◌==◌, find, List, sym, ap, ◌∙◌}
use Rattle.callstore.specs.inner.Entries.{entry_at}
use Rattle.callstore.specs.inner.Packed.{req_at}
use Rattle.callstore.proofs.StartLemmas.{start_found}
use Rattle.callstore.proofs.note.Note.start_of.Goals as goal

pub returns : goal.returns
returns c =
    c.first_start.ensures
    ∙ ap (λ (starts : List ℕ). find (λ place. req_at c.self.inside.entries.now.items place == c.args.req) starts) c.starts.ensures
    ∙ sym (start_found c.self.inside.entries.now.items c.self.inside.starts.now (entry_at c.self.inside.entry) c.args.self.now c.args.req c.self.view_is)
