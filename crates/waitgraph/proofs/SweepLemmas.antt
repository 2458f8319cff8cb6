-- Sweeps find the least set.
use Rattle.std.proofs.Common.{◌≡◌, ◌≢◌, ℕ, zero, suc, ◌+◌, ◌<◌, ◌≤◌, Bool, true, false, Option, unwrap_or, List, [], ◌∷◌, length, set, ◌-◌, replicate, refl, sym, ap, subst, ◌∙◌, ⊎_elim, arith, get_or-set_same, get_or-set_other}
use Rattle.std.specs.List.{list_all}
use Rattle.std.proofs.lemmas.Option.{slice_get_past}
use Rattle.std.proofs.lemmas.List.{length-set}
use Rattle.std.proofs.lemmas.Bool.{and_parts, cases_Bool, cases_eq, cases_lt, false≢true, and_from}
use Rattle.moves.specs.declared.need.Need.{Need}
use Rattle.moves.specs.declared.need.Need.TheVariants.{At, Lacking}
use Rattle.waitgraph.specs.Held.{Set}
use Rattle.waitgraph.specs.inner.Least.{SetRule, IsWithin, IsClosedUnder, IsRising, MakesBelow}
use Rattle.waitgraph.specs.Waits.{Waits, needs_in}
use Rattle.waitgraph.specs.inner.Loose.{set_of, standing_of, is_on, loosens_at, loosens, are_loose, TheLooseAreTheLeast, size, Sweeps}
use Rattle.waitgraph.specs.declared.standing.Standing.{Standing}
use Rattle.waitgraph.specs.declared.standing.Standing.TheVariants.{AtFinalize, AtOpen, Stuck}
use Rattle.waitgraph.proofs.LeastLemmas.{grows, size_most, rounds_give_the_least_set}

on_more : (opened f g : Set) → IsWithin f g → (need : Need) → is_on opened f need ≡ true → is_on opened g need ≡ true
on_more opened f g more (At rank place) h = more rank h
on_more opened f g more (Lacking rank) h =
    let both = and_parts (opened rank) (f rank) h in
    and_from (opened rank) (g rank) both.0 (more rank both.1)

all_more : (opened f g : Set) → IsWithin f g → (needs : List Need) → list_all (is_on opened f) needs ≡ true → list_all (is_on opened g) needs ≡ true
all_more opened f g more [] h = refl
all_more opened f g more (need ∷ needs) h =
    let both = and_parts (is_on opened f need) (list_all (is_on opened f) needs) h in
    and_from (is_on opened g need) (list_all (is_on opened g) needs) (on_more opened f g more need both.0) (all_more opened f g more needs both.1)

at_more : (standing : Standing) (a b : Bool) → (a ≡ true → b ≡ true) → loosens_at standing a ≡ true → loosens_at standing b ≡ true
at_more AtFinalize a b more h = h
at_more AtOpen a b more h = refl
at_more Stuck a b more h = more h

pub rising : (opened : Set) (standings : List Standing) (waits : Waits) → IsRising (loosens opened standings waits)
rising opened standings waits a b more rank h =
    at_more (standing_of standings rank) (list_all (is_on opened a) (needs_in waits rank)) (list_all (is_on opened b) (needs_in waits rank)) (all_more opened a b more (needs_in waits rank)) h

pub below : (opened : Set) (standings : List Standing) (waits : Waits) → MakesBelow (length standings) (loosens opened standings waits)
below opened standings waits set rank h =
    ⊎_elim
    (λ (less : rank < length standings). less)
    (λ (past : length standings ≤ rank).
    absurd (false≢true (subst (λ (s : Standing). loosens_at s (list_all (is_on opened set) (needs_in waits rank)) ≡ true) (ap (λ (o : Option Standing). unwrap_or o AtFinalize) (slice_get_past standings rank past)) h)))
    (cases_lt rank (length standings))

pub the_loose_are_the_least : TheLooseAreTheLeast
the_loose_are_the_least opened standings waits =
    rounds_give_the_least_set (loosens opened standings waits) (length standings) (rising opened standings waits) (below opened standings waits)

-- a mark more
pub marked_own : (marks : List Bool) (rank : ℕ) → rank < length marks → set_of (set marks rank true) rank ≡ true
marked_own marks rank within = get_or-set_same marks rank true false within

pub marked_other : (marks : List Bool) (rank k : ℕ) → k ≢ rank → set_of (set marks rank true) k ≡ set_of marks k
marked_other marks rank k differs = get_or-set_other marks rank k true false differs

pub marks_stay : (marks : List Bool) (rank : ℕ) → rank < length marks → IsWithin (set_of marks) (set_of (set marks rank true))
marks_stay marks rank within k h =
    ⊎_elim
    (λ (same : k ≡ rank). subst (λ (x : ℕ). set_of (set marks rank true) x ≡ true) (sym same) (marked_own marks rank within))
    (λ (differs : k ≢ rank). marked_other marks rank k differs ∙ h)
    (cases_eq k rank)

pub marks_more : (marks : List Bool) (rank ranks : ℕ) → rank < length marks → rank < ranks → set_of marks rank ≡ false → size (set_of marks) ranks < size (set_of (set marks rank true)) ranks
marks_more marks rank ranks within is_rank new =
    ⊎_elim
    (λ same. absurd (false≢true (sym new ∙ same.0 rank is_rank (marked_own marks rank within))))
    (λ less. less)
    (grows (set_of marks) (set_of (set marks rank true)) ranks (marks_stay marks rank within))

-- a mark that the rule makes stays in each closed set
pub marks_within : (rule : SetRule) (old : Set) (marks : List Bool) (rank : ℕ) → rank < length marks → IsRising rule → rule (set_of marks) rank ≡ true → ((set : Set) → IsClosedUnder rule set → IsWithin old set → IsWithin (set_of marks) set) → (set' : Set) → IsClosedUnder rule set' → IsWithin old set' → IsWithin (set_of (set marks rank true)) set'
marks_within rule old marks rank is_rank up makes so_far s closed from k h =
    ⊎_elim
    (λ (same : k ≡ rank). subst (λ (x : ℕ). s x ≡ true) (sym same) (closed rank (up (set_of marks) s (so_far s closed from) rank makes)))
    (λ (differs : k ≢ rank). so_far s closed from k (sym (marked_other marks rank k differs) ∙ h))
    (cases_eq k rank)

pub none_marked : (ranks rank : ℕ) → set_of (replicate ranks false) rank ≡ false
none_marked zero rank = refl
none_marked (suc ranks) zero = refl
none_marked (suc ranks) (suc rank) = none_marked ranks rank

pub same_bool : (a b : Bool) → (a ≡ true → b ≡ true) → (b ≡ true → a ≡ true) → a ≡ b
same_bool true b to back = sym (to refl)
same_bool false true to back = back refl
same_bool false false to back = refl

-- a sweep so far: ranks below `rank` were looked at
pub record Swept (rule : SetRule) (ranks rank : ℕ) (old marks : List Bool) (more : Bool) : Type 0 where
  pub len : length marks ≡ ranks
  pub within : (set : Set) → IsClosedUnder rule set → IsWithin (set_of old) set → IsWithin (set_of marks) set
  pub same : more ≡ false → marks ≡ old
  pub none : more ≡ false → (k : ℕ) → k < rank → rule (set_of marks) k ≡ true → set_of marks k ≡ true
  pub some : more ≡ true → size (set_of old) ranks < size (set_of marks) ranks

pub swept_marked : (rule : SetRule) (ranks rank : ℕ) (old marks : List Bool) (more : Bool) → IsRising rule → rank < ranks → rule (set_of marks) rank ≡ true → set_of marks rank ≡ false → Swept rule ranks rank old marks more → Swept rule ranks (rank + 1) old (set marks rank true) true
swept_marked rule ranks rank old marks more up is_rank makes new so_far =
    let is_there : rank < length marks = omega (arith, is_rank, so_far.len) in
    let grew = marks_more marks rank ranks is_there is_rank new in
    record {
      len = length-set marks rank true ∙ so_far.len;
      within = marks_within rule (set_of old) marks rank is_there up makes so_far.within;
      same = λ no. cc;
      none = λ no. cc;
      some = λ yes.
          ⊎_elim
          (λ (some : more ≡ true). omega (arith, grew, so_far.some some))
          (λ (none : more ≡ false). omega (arith, grew, ap (λ (m : List Bool). size (set_of m) ranks) (so_far.same none)))
          (cases_Bool more);
    }

pub swept_passed : (rule : SetRule) (ranks rank : ℕ) (old marks : List Bool) (more : Bool) → (rule (set_of marks) rank ≡ true → set_of marks rank ≡ true) → Swept rule ranks rank old marks more → Swept rule ranks (rank + 1) old marks more
swept_passed rule ranks rank old marks more passes so_far = record {
  len = so_far.len;
  within = so_far.within;
  same = so_far.same;
  none = λ no k less makes.
      ⊎_elim
      (λ (same : k ≡ rank). subst (λ (x : ℕ). rule (set_of marks) x ≡ true → set_of marks x ≡ true) (sym same) passes makes)
      (λ (differs : k ≢ rank). so_far.none no k (omega (arith, less, differs)) makes)
      (cases_eq k rank);
  some = so_far.some;
}

pub swept_none : (rule : SetRule) (ranks : ℕ) (old : List Bool) → length old ≡ ranks → Swept rule ranks 0 old old false
swept_none rule ranks old len = record { len = len; within = λ set closed from. from; same = λ no. refl; none = λ no k less. absurd (omega (arith, less)); some = λ yes. cc }

pub swept_all : (rule : SetRule) (ranks rank : ℕ) (old marks : List Bool) (more : Bool) → MakesBelow ranks rule → ranks ≤ rank → Swept rule ranks rank old marks more → Sweeps rule ranks (set_of old) (set_of marks) more
swept_all rule ranks rank old marks more under past so_far = record {
  within = so_far.within;
  closed = λ no k makes. so_far.none no k (omega (arith, past, under (set_of marks) k makes)) makes;
  more = so_far.some;
}

-- the marks at the end
pub marks_are_loose : (opened : Set) (standings : List Standing) (waits : Waits) (marks : List Bool) → IsWithin (set_of marks) (are_loose opened standings waits) → IsClosedUnder (loosens opened standings waits) (set_of marks) → (rank : ℕ) → set_of marks rank ≡ are_loose opened standings waits rank
marks_are_loose opened standings waits marks within closed rank =
    same_bool (set_of marks rank) (are_loose opened standings waits rank) (within rank) ((the_loose_are_the_least opened standings waits).1 (set_of marks) closed rank)

pub less_left : (opened : Set) (ranks : ℕ) (old new : Set) → size old ranks < size new ranks → ranks - size new ranks < ranks - size old ranks
less_left opened ranks old new more = omega (arith, more, size_most new ranks)
