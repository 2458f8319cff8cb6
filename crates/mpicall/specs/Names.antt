-- The natural numbers of a run, by what they count: a rank of the world or of a group, the place of a call in
-- its rank's list, a communicator, a collective call of its communicator, a request of its rank, a tag. Each
-- counts from 0.
pub use Rattle.std.specs.Prelude.{ℕ as Rank, ℕ as Place, ℕ as Comm, ℕ as Wave, ℕ as Request, ℕ as Tag}
