-- What the record of a sink has with each later record of its list.
use Rattle.std.proofs.Common.{◌≡◌, ℕ, zero, suc, ◌<◌, Some, None, List, [], ◌∷◌, ◌++◌, take, sym, subst, arith, append_assoc, append-nil}
use Rattle.std.specs.Prelude.{⊤, slice_get}
use Rattle.std.proofs.lemmas.Option.{none-some, same_Some}
use Rattle.mpicall.specs.declared.call.Call.{Call}
use Rattle.closing.specs.Steps.{Written, plain}
use Rattle.lawful.proofs.PassLemmas.{AllCalls}

-- each of some records has it with a call
abbrev pub Behind : (Written → Call → Type 0) → List Written → Call → Type 0
Behind R [] call = ⊤
Behind R (one ∷ records) call = R one call × Behind R records call

-- a record has it with the calls of some others
abbrev pub Before : (Written → Call → Type 0) → Written → List Written → Type 0
Before R one [] = ⊤
Before R one (other ∷ records) = R one other.call × Before R one records

-- each record has it with all later ones
abbrev pub Pairs : (Written → Call → Type 0) → List Written → Type 0
Pairs R [] = ⊤
Pairs R (one ∷ records) = Before R one records × Pairs R records

before_push : (R : Written → Call → Type 0) (one : Written) (records : List Written) (last : Written) → Before R one records → R one last.call → Before R one (records ++ last ∷ [])
before_push R one [] last all is = (is, tt)
before_push R one (other ∷ records) last all is = (all.0, before_push R one records last all.1 is)

pub pairs_push : (R : Written → Call → Type 0) (records : List Written) (last : Written) → Pairs R records → Behind R records last.call → Pairs R (records ++ last ∷ [])
pairs_push R [] last all behind = (tt, tt)
pairs_push R (one ∷ records) last all behind = (before_push R one records last all.0 behind.0, pairs_push R records last all.1 behind.1)

pub behind_push : (R : Written → Call → Type 0) (records : List Written) (last : Written) (call : Call) → Behind R records call → R last call → Behind R (records ++ last ∷ []) call
behind_push R [] last call behind is = (is, tt)
behind_push R (one ∷ records) last call behind is = (behind.0, behind_push R records last call behind.1 is)

before_take : (R : Written → Call → Type 0) (n : ℕ) (one : Written) (records : List Written) → Before R one records → Before R one (take n records)
before_take R zero one records all = tt
before_take R (suc n) one [] all = tt
before_take R (suc n) one (other ∷ records) all = (all.0, before_take R n one records all.1)

pub pairs_take : (R : Written → Call → Type 0) (n : ℕ) (records : List Written) → Pairs R records → Pairs R (take n records)
pairs_take R zero records all = tt
pairs_take R (suc n) [] all = tt
pairs_take R (suc n) (one ∷ records) all = (before_take R n one records all.0, pairs_take R n records all.1)

before_at : (R : Written → Call → Type 0) (one : Written) (records : List Written) (place : ℕ) (other : Written) → Before R one records → slice_get records place ≡ Some other → R one other.call
before_at R one [] place other all h = absurd (none-some other h)
before_at R one (first ∷ records) zero other all h = subst (λ (it : Written). R one it.call) (same_Some first other h) all.0
before_at R one (first ∷ records) (suc place) other all h = before_at R one records place other all.1 h

pub pairs_at : (R : Written → Call → Type 0) (records : List Written) (place later : ℕ) (one other : Written) → Pairs R records → place < later → slice_get records place ≡ Some one → slice_get records later ≡ Some other → R one other.call
pairs_at R [] place later one other all less first second = absurd (none-some one first)
pairs_at R (it ∷ records) place zero one other all less first second = absurd (omega (arith, less))
pairs_at R (it ∷ records) zero (suc later) one other all less first second =
    subst (λ (w : Written). R w other.call) (same_Some it one first) (before_at R it records later other all.0 second)
pairs_at R (it ∷ records) (suc place) (suc later) one other all less first second =
    pairs_at R records place later one other all.1 (omega (arith, less)) first second

-- ---- Lists that grow ----

-- each record has it with the later ones, and with each call that passes a test
pub record Grown (R : Written → Call → Type 0) (P : Call → Type 0) (records : List Written) : Type 0 where
  pub pairs : Pairs R records
  pub behind : (call : Call) → P call → Behind R records call

pub grown_push : (R : Written → Call → Type 0) (P : Call → Type 0) (records : List Written) (last : Written) → P last.call → ((call : Call) → P call → R last call) → Grown R P records → Grown R P (records ++ last ∷ [])
grown_push R P records last passes is grown = record {
  pairs = pairs_push R records last grown.pairs (grown.behind last.call passes);
  behind = λ call p. behind_push R records last call (grown.behind call p) (is call p);
}

-- records that start nothing have it with all
pub grown_plain : (R : Written → Call → Type 0) (P : Call → Type 0) (records : List Written) (line : ℕ) (calls : List Call) → ((one call : Call) → R (record { call = one; line = line; starts = None }) call) → AllCalls P calls → Grown R P records → Grown R P (records ++ plain line calls)
grown_plain R P records line [] free all grown = subst (λ (every : List Written). Grown R P every) (sym (append-nil records)) grown
grown_plain R P records line (one ∷ calls) free all grown =
    let it : Written = record { call = one; line = line; starts = None } in
    subst (λ (every : List Written). Grown R P every) (append_assoc records (it ∷ []) (plain line calls))
    (grown_plain R P (records ++ it ∷ []) line calls free all.1 (grown_push R P records it all.0 (λ call p. free one call) grown))
