-- An index and the requests after it.
use Rattle.std.proofs.Common.{refl}
use Rattle.mpicall.proofs.BodyLemmas.{index_missing, index_read, list_unfit, index_unfit, index_fits}
use Rattle.mpicall.proofs.body.read_waitany.Goals as goal

pub returns-in_default : goal.returns-in_default
returns-in_default c = (index_missing _ c.in_default.ensures.value, refl)

pub returns-then-chosen-count : goal.returns-then-chosen-count
returns-then-chosen-count c = (
  index_unfit _ _ _ _ (index_read _ _ _ c.in-Some.ensures.value) (rw c.if-not-read_requests.false at c.read_requests.ensures) (rw c.count.ensures at c.if-chosen-count.true),
  refl,
)

pub returns : goal.returns
returns c =
    index_fits _ _ _ _ (index_read _ _ _ c.in-Some.ensures.value) (rw c.if-not-read_requests.false at c.read_requests.ensures) (rw c.count.ensures at c.if-chosen-count.false)

pub returns-then-not-read_requests : goal.returns-then-not-read_requests
returns-then-not-read_requests c =
    (list_unfit _ _ _ (index_read _ _ _ c.in-Some.ensures.value) (rw c.if-not-read_requests.true at c.read_requests.ensures), refl)
