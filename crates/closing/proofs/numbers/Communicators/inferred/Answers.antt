-- What is kept of a rank's last call is what others report.
use Rattle.std.proofs.Common.{ℕ, Option, sym, subst}
use Rattle.std.specs.Prelude.{slice_get}
use Rattle.std.specs.List.{filter_map}
use Rattle.closing.specs.Entries.{entries_at}
use Rattle.closing.specs.Made.{inferred_key}
use Rattle.closing.specs.inner.Table.{IsPlaceOf}
use Rattle.closing.proofs.numbers.Communicators.inferred.Goals as goal

pub returns-clause-inferred : goal.returns-clause-inferred
returns-clause-inferred c =
    λ run h small.
    let self = c.args.self.now in
    subst (λ (o : Option ℕ). IsPlaceOf self.keys o (slice_get (filter_map (inferred_key run) (entries_at run c.args.rank)) 0)) (sym c.inferred_of.ensures) (h.inferred c.args.rank small)
