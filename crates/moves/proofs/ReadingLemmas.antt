-- A reading that is no laxer holds ranks back.
use Rattle.std.proofs.Common.{◌≡◌, ℕ, Bool, true, false, ◌||◌, Option, Some, None, length, get_or, refl, arith}
use Rattle.std.proofs.lemmas.Option.{slice_get_within}
use Rattle.std.proofs.lemmas.Bool.{false≢true, leb-true, le-leb}
use Rattle.mpigroup.specs.Groups.{Groups}
use Rattle.callstore.specs.Recordings.{Lists, calls_of}
use Rattle.moves.specs.Runs.{State, start, IsReached}
use Rattle.moves.specs.Readings.{is_eager, is_no_laxer}
use Rattle.moves.specs.Needs.{is_buffered, bytes_of, is_met, can_move}
use Rattle.moves.specs.Stands.{StricterReadingsStandNoLater}
use Rattle.moves.proofs.RunLemmas.{steps_by_more, reached_below, reached_ranks}
use Rattle.moves.proofs.NeedLemmas.{can_move_is_persistent, can_pass, can_from_pass}
use Rattle.moves.proofs.OntoLemmas.{same_self, needs_onto}
use Rattle.moves.proofs.StayLemmas.{start_is_a_call}
use Rattle.moves.specs.declared.reading.Reading.{Reading}
use Rattle.moves.specs.declared.reading.Reading.TheVariants.{Strict, Eager}

-- what the first reading lets go, the second does
eager_more : (first second : Reading) → is_no_laxer first second ≡ true → (bytes : Option ℕ) → is_eager first bytes ≡ true → is_eager second bytes ≡ true
eager_more Strict second no_laxer bytes h = absurd (false≢true h)
eager_more (Eager limit) Strict no_laxer bytes h = absurd (false≢true no_laxer)
eager_more (Eager limit) (Eager greater) no_laxer None h = absurd (false≢true h)
eager_more (Eager limit) (Eager greater) no_laxer (Some count) h =
    le-leb count greater (omega (arith, leb-true count limit h, leb-true limit greater no_laxer))

freely_more : (buffered a b : Bool) → (a ≡ true → b ≡ true) → (buffered || a) ≡ true → (buffered || b) ≡ true
freely_more true a b more h = refl
freely_more false a b more h = more h

-- so whoever can move by the first can by the second
move_more : (first second : Reading) (groups : Groups) (recording : Lists) (s : State) (rank : ℕ) → is_no_laxer first second ≡ true → can_move first groups recording s rank ≡ true → can_move second groups recording s rank ≡ true
move_more first second groups recording s rank no_laxer h =
    let pass = can_pass first groups recording s rank h in
    can_from_pass second groups recording s rank
    (record {
      call = pass.call;
      is_present = pass.is_present;
      is_no_end = pass.is_no_end;
      needs_met = needs_onto first second groups recording recording (is_met s) (is_met s) rank (length (calls_of recording rank))
          (λ call. freely_more (is_buffered call) (is_eager first (bytes_of call)) (is_eager second (bytes_of call)) (eager_more first second no_laxer (bytes_of call)))
          (record { nth = λ test k number fails met. met; none = λ k met. met }) (same_self recording rank (length (calls_of recording rank)))
          (get_or s rank 0) pass.call (slice_get_within (calls_of recording rank) (get_or s rank 0) pass.call pass.is_present) (start_is_a_call recording rank (get_or s rank 0)) pass.is_present pass.needs_met;
    })

pub stricter_readings_stand_no_later : StricterReadingsStandNoLater
stricter_readings_stand_no_later first second groups recording s t no_laxer s_end t_end =
    let reached : IsReached (can_move second groups recording) (length recording) s = record {
      states = s_end.is_reached.states;
      is_run = steps_by_more (can_move first groups recording) (can_move second groups recording) (λ u rank. move_more first second groups recording u rank no_laxer) (start (length recording)) s_end.is_reached.states s_end.is_reached.is_run;
      ends_there = s_end.is_reached.ends_there;
    } in
    reached_below (can_move second groups recording) (length recording) s t (can_move_is_persistent second groups recording) t_end.is_stuck (reached_ranks (can_move second groups recording) (length recording) t t_end.is_reached) reached
