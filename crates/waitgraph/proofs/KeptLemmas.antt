-- Needs that stand in one list, with a span for each rank.
use Rattle.std.proofs.Common.{◌≡◌, ℕ, zero, suc, ◌+◌, ◌-◌, ◌≤◌, List, [], ◌∷◌, ◌++◌, length, take, drop, map, refl, ap, ◌∙◌, arith}
use Rattle.std.specs.List.{All, AllByRecursion, slice_range}
use Rattle.std.proofs.lemmas.List.{length-append, map-append, take_all}
use Rattle.std.proofs.lemmas.List.Elements.{recursion_from_All}
use Rattle.moves.specs.declared.need.Need.{Need}
use Rattle.waitgraph.specs.inner.Spans.{needs_at, LiesWithin}
use Rattle.waitgraph.specs.declared.waits.Span.{Span}

front_of : (a : ℕ) (xs ys : List Need) → a ≤ length xs → take a (xs ++ ys) ≡ take a xs
front_of zero xs ys within = refl
front_of (suc a) [] ys within = absurd (omega (arith, within))
front_of (suc a) (x ∷ xs) ys within = ap (λ (zs : List Need). x ∷ zs) (front_of a xs ys (omega (arith, within)))

-- what stands in a span stays there with more needs after
range_of : (a b : ℕ) (xs ys : List Need) → a ≤ b → b ≤ length xs → slice_range (xs ++ ys) a b ≡ slice_range xs a b
range_of zero b xs ys least most = let e : b - 0 ≡ b = omega arith in rw e (front_of b xs ys most)
range_of (suc a) b [] ys least most = absurd (omega (arith, least, most))
range_of (suc a) zero (x ∷ xs) ys least most = absurd (omega (arith, least))
range_of (suc a) (suc b) (x ∷ xs) ys least most =
    let e : suc b - suc a ≡ b - a = omega arith in
    rw e (range_of a b xs ys (omega (arith, least)) (omega (arith, most)))

-- and the needs after are those of the next span
range_behind : (xs ys : List Need) → slice_range (xs ++ ys) (length xs) (length xs + length ys) ≡ ys
range_behind xs ys =
    let count : length xs + length ys - length xs ≡ length ys = omega arith in
    ap (λ (n : ℕ). take n (drop (length xs) (xs ++ ys))) count
    ∙ ap (λ (zs : List Need). take (length ys) zs) (behind xs ys)
    ∙ take_all (length ys) ys (omega arith)
  where
    behind : (xs ys : List Need) → drop (length xs) (xs ++ ys) ≡ ys
    behind [] ys = refl
    behind (x ∷ xs) ys = behind xs ys

same_spans : (needs more : List Need) (spans : List Span) → AllByRecursion (LiesWithin (length needs)) spans → map (needs_at (needs ++ more)) spans ≡ map (needs_at needs) spans
same_spans needs more [] all = refl
same_spans needs more (span ∷ spans) all =
    rw (range_of span.start span.end needs more all.0.0 all.0.1, same_spans needs more spans all.1) refl

-- one span more, of the needs that are put after the others
pub one_span_more : (needs more all : List Need) (spans later : List Span) (span : Span) →
    All (LiesWithin (length needs)) spans → all ≡ needs ++ more → later ≡ spans ++ span ∷ [] → span.start ≡ length needs → span.end ≡ length all →
    map (needs_at all) later ≡ map (needs_at needs) spans ++ more ∷ []
one_span_more needs more all spans later span within are pushed start end =
    let count : length all ≡ length needs + length more = ap (λ (zs : List Need). length zs) are ∙ length-append needs more in
    let here : needs_at all span ≡ more =
    ap (λ (a : ℕ). slice_range all a span.end) start
    ∙ ap (λ (b : ℕ). slice_range all (length needs) b) (end ∙ count)
    ∙ ap (λ (zs : List Need). slice_range zs (length needs) (length needs + length more)) are
    ∙ range_behind needs more in
    ap (λ (zs : List Span). map (needs_at all) zs) pushed
    ∙ map-append (needs_at all) spans (span ∷ [])
    ∙ ap (λ (xs : List (List Need)). xs ++ needs_at all span ∷ [])
    (ap (λ (zs : List Need). map (needs_at zs) spans) are ∙ same_spans needs more spans (recursion_from_All (LiesWithin (length needs)) spans within))
    ∙ ap (λ (zs : List Need). map (needs_at needs) spans ++ zs ∷ []) here
