-- What one more call changes about the communicators that ranks have made.
use Rattle.std.proofs.Common.{◌≡◌, ℕ, ◌<◌, ◌==◌, ◌||◌, ◌&&◌, true, cond, Option, Some, None, List, [], ◌∷◌, ◌++◌, length, refl, sym, ap, ◌∙◌, ⊎_elim, arith}
use Rattle.std.specs.List.{slice_get, list_any}
use Rattle.std.proofs.lemmas.List.{nil_from_length}
use Rattle.std.proofs.lemmas.Map.Keys.{any_passes_from_place}
use Rattle.std.proofs.lemmas.List.Folds.{list_any-append}
use Rattle.std.proofs.lemmas.Bool.{false≢true, cases_eq, eq-eqb}
use Rattle.std.proofs.lemmas.Grind.{common_steps}
use Rattle.mpicall.specs.declared.call.Call.{Call}
use Rattle.callstore.specs.Recordings.{Lists, calls_of, appended}
use Rattle.callstore.specs.Communicators.{makes, does_make, made_at, NoneIsMade, HasMade}
use Rattle.pairing.specs.inner.Holdings.{is_same_holding, has_holding, IsHolding}
use Rattle.pairing.specs.declared.made_comms.MadeComms.{MadeComms}
use Rattle.pairing.specs.declared.made_comms.Holding.{Holding}
use Rattle.callstore.proofs.OptionLemmas.{and_then_parts, is_it}
use Rattle.pairing.proofs.RequestLaws.{find_any}
use Rattle.callstore.proofs.RecordingLemmas.{calls_of-appended, calls_of-appended_other}

-- the list with one more call at its end
any_push : (calls : List Call) (comm : ℕ) (call : Call) → list_any (does_make comm) (calls ++ call ∷ []) ≡ (list_any (does_make comm) calls || does_make comm call)
any_push calls comm call = rw (list_any-append (does_make comm) calls (call ∷ [])) (grind arith)

-- whether a call of the rank has made the communicator, once a call is appended
made_by_own : (recording : Lists) (rank comm : ℕ) (call : Call) → rank < length recording → list_any (does_make comm) (calls_of (appended recording rank call) rank) ≡ (list_any (does_make comm) (calls_of recording rank) || does_make comm call)
made_by_own recording rank comm call is_rank =
    ap (λ (calls : List Call). list_any (does_make comm) calls) (calls_of-appended recording rank call is_rank)
    ∙ any_push (calls_of recording rank) comm call

made_by_other : (recording : Lists) (rank other comm : ℕ) (call : Call) → (other ≡ rank → ⊥) → list_any (does_make comm) (calls_of (appended recording rank call) other) ≡ list_any (does_make comm) (calls_of recording other)
made_by_other recording rank other comm call differs =
    ap (λ (calls : List Call). list_any (does_make comm) calls) (calls_of-appended_other recording rank other call differs)

-- a table that got what the call makes
pub held_more : (recording : Lists) (made_comms more : MadeComms) (rank made : ℕ) (call : Call) → makes call ≡ Some made → ((r comm : ℕ) → has_holding more r comm ≡ cond (rank == r && made == comm) true (has_holding made_comms r comm)) → rank < length recording → IsHolding recording made_comms → IsHolding (appended recording rank call) more
held_more recording made_comms more rank made call makes_it updates is_rank is_held r comm =
    ⊎_elim
    (λ (same : r ≡ rank).
    let own = made_by_own recording rank comm call is_rank in
    let before = is_held rank comm in
    let after = updates rank comm in
    rw same (rw (own, makes_it, ← before, after) (grind (arith, common_steps))))
    (λ (differs : r ≡ rank → ⊥).
    let other = made_by_other recording rank r comm call differs in
    let before = is_held r comm in
    let after = updates r comm in
    rw (other, ← before, after) (grind (arith, common_steps)))
    (cases_eq r rank)

-- a call that makes nothing leaves the table as it should be
pub held_same : (recording : Lists) (made_comms : MadeComms) (rank : ℕ) (call : Call) → makes call ≡ None → rank < length recording → IsHolding recording made_comms → IsHolding (appended recording rank call) made_comms
held_same recording made_comms rank call makes_none is_rank is_held r comm =
    ⊎_elim
    (λ (same : r ≡ rank).
    let own = made_by_own recording rank comm call is_rank in
    let before = is_held rank comm in
    rw same (rw (own, makes_none, ← before) (grind (arith, common_steps))))
    (λ (differs : r ≡ rank → ⊥).
    let other = made_by_other recording rank r comm call differs in
    rw (other) (is_held r comm))
    (cases_eq r rank)

-- where the table is empty no call makes a communicator
pub none_made : (recording : Lists) (made_comms : MadeComms) → length made_comms.pairs.keys ≡ 0 → IsHolding recording made_comms → NoneIsMade recording
none_made recording made_comms none is_held rank place = by_made (made_at recording rank place) refl
  where
    by_made : (o : Option ℕ) → made_at recording rank place ≡ o → made_at recording rank place ≡ None
    by_made None is = is
    by_made (Some comm) is =
        let call = and_then_parts makes (slice_get (calls_of recording rank) place) comm is in
        let makes_it : does_make comm call.0 ≡ true = rw call.2 (eq-eqb comm comm refl) in
        let there = any_passes_from_place (does_make comm) (calls_of recording rank) place call.0 call.1 makes_it in
        absurd (false≢true
        (sym (ap (λ (keys : List Holding). list_any (is_same_holding (record { rank = rank; comm = comm })) keys) (nil_from_length made_comms.pairs.keys none))
        ∙ is_held rank comm ∙ there))

-- and where it is not, some call does
first_held : (made_comms : MadeComms) (keys : List Holding) → made_comms.pairs.keys ≡ keys → 0 < length keys → (rank : ℕ) × (comm : ℕ) × (has_holding made_comms rank comm ≡ true)
first_held made_comms [] is some = absurd (omega arith)
first_held made_comms (key ∷ keys) is some = (key.rank, key.comm, rw (is, eq-eqb key.rank key.rank refl, eq-eqb key.comm key.comm refl) refl)

pub some_made : (recording : Lists) (made_comms : MadeComms) → 0 < length made_comms.pairs.keys → IsHolding recording made_comms → HasMade recording
some_made recording made_comms some is_held =
    let first = first_held made_comms made_comms.pairs.keys refl some in
    let found = find_any (does_make first.1) (calls_of recording first.0) (sym (is_held first.0 first.1) ∙ first.2) in
    record {
      rank = first.0;
      place = found.index;
      comm = first.1;
      makes_it = rw found.stands_there (is_it first.1 (makes found.element) found.passes);
    }
