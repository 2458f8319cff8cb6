-- Ranks one after the other.
use Rattle.std.proofs.Common.{◌≡◌, ◌∙◌, ◌+◌, ap, arith, sym, subst, refl, ℕ, Bool, List, [], ◌∷◌, Option, Some, length, drop, vec_len}
use Rattle.std.specs.Prelude.{slice_get}
use Rattle.std.proofs.lemmas.Option.{slice_get_read}
use Rattle.closing.specs.inner.Given.{AreBelow, SameLeft, as_places, got_between, or_none, places_from, with_places}
use Rattle.closing.proofs.NumberLists.{drop_past}
use Rattle.closing.proofs.NumberLemmas.{numbered_is, rank_step}
use Rattle.closing.proofs.numbers.numbering_of.Goals as goal

pub loop-rank-preserved : goal.loop-rank-preserved
loop-rank-preserved c =
    let s = c.args.survey.now in
    let got = s.got.items in
    let inferred = s.inferred.items in
    let ends = s.ends.items in
    let named = s.named.items in
    let cur = c.loop-rank.numbering in
    let mid = c.give_named.new.self in
    let new = c.give_if.new.self in
    let n = c.loop-rank.rank in
    let start = c.loop-rank.start in
    let end = c.index-end.result.now in
    let all = places_from got inferred 0 0 ends in
    record {
      numbering = c.in_ok-give_if.ensures.numbering;
      room = c.in_ok-give_if.ensures.room ∙ c.in_ok-give_named.ensures.room ∙ c.loop-rank.invariant.room;
      given = λ some below.
          let r : vec_len new.numbers ≡ vec_len cur.numbers = c.in_ok-give_if.ensures.room ∙ c.in_ok-give_named.ensures.room in
          let B : ℕ → Type 0 = λ k. AreBelow k all in
          let had = c.loop-rank.invariant.given (omega (arith, r)) (subst B r below) in
          let e : slice_get ends n ≡ Some end = slice_get_read ends (length ends) n end refl (omega (arith, s.ends.ok.0)) c.index-end.ensures in
          let keys = c.keys_between-keys.result.now in
          let v1 : c.as_slice.result.now ≡ got = cc (c.as_slice.ensures.value) in
          let v2 : c.as_slice-in-loop-rank.result.now ≡ named = cc (c.as_slice-in-loop-rank.ensures.value) in
          let v3 : c.as_slice-in-loop-rank-2.result.now ≡ inferred = cc (c.as_slice-in-loop-rank-2.ensures.value) in
          let v4 : c.as_slice-in-loop-rank-3.result.now ≡ named = cc (c.as_slice-in-loop-rank-3.ensures.value) in
          let k1 : keys ≡ got_between got start end = c.keys_between-keys.ensures ∙ ap (λ xs. got_between xs start end) v1 in
          let k2 : c.inferred_at-inferred.result ≡ or_none (slice_get inferred n) = c.inferred_at-inferred.ensures ∙ ap (λ xs. or_none (slice_get xs n)) v3 in
          let P : List Bool → Type 0 = λ m. AreBelow (vec_len cur.numbers) keys → mid.numbered.items ≡ with_places m cur.numbered.items keys in
          let Q : List ℕ → Type 0 = λ k. AreBelow (vec_len cur.numbers) k → mid.numbered.items ≡ with_places named cur.numbered.items k in
          let one = subst Q k1 (subst P v2 c.in_ok-give_named.ensures.given) in
          let R : List Bool → Type 0 = λ m. AreBelow (vec_len mid.numbers) (as_places c.inferred_at-inferred.result) → new.numbered.items ≡ with_places m mid.numbered.items (as_places c.inferred_at-inferred.result) in
          let S : Option ℕ → Type 0 = λ o. AreBelow (vec_len mid.numbers) (as_places o) → new.numbered.items ≡ with_places named mid.numbered.items (as_places o) in
          let T : ℕ → Type 0 = λ k. AreBelow k (as_places (or_none (slice_get inferred n))) → new.numbered.items ≡ with_places named mid.numbered.items (as_places (or_none (slice_get inferred n))) in
          let two = subst T c.in_ok-give_named.ensures.room (subst S k2 (subst R v4 c.in_ok-give_if.ensures.given)) in
          let left = places_from got inferred (n + 1) end (drop (n + 1) ends) in
          let U : ℕ → Type 0 = λ k. SameLeft named (0 ∷ []) all new.numbered.items left k in
          subst U (sym r) (rank_step named (0 ∷ []) all got inferred ends n start end cur.numbered.items mid.numbered.items new.numbered.items (vec_len cur.numbers) e had one two);
    }

pub returns-clause-given : goal.returns-clause-given
returns-clause-given c =
    λ some below.
    let s = c.args.survey.now in
    let got = s.got.items in
    let inferred = s.inferred.items in
    let ends = s.ends.items in
    let named = s.named.items in
    let cur = c.loop-rank.numbering in
    let n = c.loop-rank.rank in
    let start = c.loop-rank.start in
    let h = c.loop-rank.invariant.given some below in
    let past : drop n ends ≡ [] = drop_past ends n (omega (arith, s.ends.ok.0)) in
    let k : with_places named cur.numbered.items (places_from got inferred n start (drop n ends)) ≡ cur.numbered.items =
    ap (λ xs. with_places named cur.numbered.items (places_from got inferred n start xs)) past in
    sym k ∙ h.same ∙ numbered_is named (places_from got inferred 0 0 ends)
