-- The call of an entry, as the code reads it of its line.
use Rattle.std.specs.Prelude.{◌≡◌, List, length}
use Rattle.journals.specs.Lines.{Line}
use Rattle.journals.specs.Taking.{fields_at}
use Rattle.closing.specs.Called.{called, naturals_in}
use Rattle.closing.specs.Fit.{AreNumbers}
use Rattle.closing.specs.inner.Views.{called_view}
use Rattle.closing.specs.inner.Walked.{AreRequests}
use Rattle.closing.specs.declared.called.Called.{Called as CalledCode}
use Rattle.closing.specs.declared.walk.Entry.{Entry as EntryCode}

-- it is what the line says, and its requests are where each of its fields is one
pub record IsCallOf (lines : List Line) (entry : EntryCode) (it : CalledCode) : Type 0 where
  pub says : called_view it ≡ called entry.word (fields_at lines entry.place)
  pub requests : AreNumbers entry.word (length (naturals_in (fields_at lines entry.place))) (length (fields_at lines entry.place)) → AreRequests it
