-- The text of a head, number by number and line by line.
use Rattle.std.proofs.Common.{◌≡◌, ◌<◌, ◌≤◌, ◌∙◌, ℕ, zero, suc, ◌+◌, ◌-◌, List, [], ◌∷◌, ◌++◌, length, map, take, drop, slice_get, refl, sym, ap, arith, append_assoc}
use Rattle.std.specs.Prelude.{codes, unwrap_or}
use Rattle.std.proofs.lemmas.List.{take_all}
use Rattle.std.specs.Fmt.{decimal}
use Rattle.std.specs.List.{join_with_byte}
use Rattle.mpicall.specs.Spelling.{space, line_feed}
use Rattle.closing.specs.Texts.{line_with}
use Rattle.judging.specs.inner.Heads.{group_lines}

-- a word and numbers, each after a space
abbrev pub fields_with : List ℕ → List ℕ → List ℕ
fields_with word numbers = join_with_byte space (word ∷ map decimal numbers)

pub fields_none : (word : List ℕ) → fields_with word [] ≡ word
fields_none word = refl

joined_more : (fields : List (List ℕ)) (first last : List ℕ) → join_with_byte space (first ∷ fields ++ last ∷ []) ≡ join_with_byte space (first ∷ fields) ++ space ∷ last
joined_more [] first last = refl
joined_more (field ∷ fields) first last =
    ap (λ (s : List ℕ). first ++ space ∷ s) (joined_more fields field last)
    ∙ sym (append_assoc first (space ∷ join_with_byte space (field ∷ fields)) (space ∷ last))

map_more : (numbers : List ℕ) (number : ℕ) → map decimal (numbers ++ number ∷ []) ≡ map decimal numbers ++ decimal number ∷ []
map_more [] number = refl
map_more (n ∷ numbers) number = ap (λ (fs : List (List ℕ)). decimal n ∷ fs) (map_more numbers number)

pub fields_more : (word : List ℕ) (numbers : List ℕ) (number : ℕ) → fields_with word (numbers ++ number ∷ []) ≡ fields_with word numbers ++ space ∷ decimal number
fields_more word numbers number =
    ap (λ (fs : List (List ℕ)). join_with_byte space (word ∷ fs)) (map_more numbers number)
    ∙ joined_more (map decimal numbers) word (decimal number)

pub lines_more : (groups : List (List ℕ)) (group : List ℕ) → group_lines (groups ++ group ∷ []) ≡ group_lines groups ++ line_with (codes "comm") group
lines_more [] group = append_none (line_with (codes "comm") group)
  where
    append_none : (s : List ℕ) → s ++ [] ≡ s
    append_none [] = refl
    append_none (b ∷ s) = ap (λ (t : List ℕ). b ∷ t) (append_none s)
lines_more (g ∷ groups) group =
    ap (λ (s : List ℕ). line_with (codes "comm") g ++ s) (lines_more groups group)
    ∙ sym (append_assoc (line_with (codes "comm") g) (group_lines groups) (line_with (codes "comm") group))

-- the groups up to a number and one more
groups_more : (groups : List (List ℕ)) (number : ℕ) (group : List ℕ) → number < length groups → group ≡ unwrap_or (slice_get groups number) [] →
    take (suc number) groups ≡ take number groups ++ group ∷ []
groups_more [] number group within is = absurd (omega (arith, within))
groups_more (g ∷ groups) zero group within is = ap (λ (x : List ℕ). x ∷ []) (sym is)
groups_more (g ∷ groups) (suc number) group within is = ap (λ (xs : List (List ℕ)). g ∷ xs) (groups_more groups number group (omega (arith, within)) is)

-- those after the world's
pub groups_next : (groups : List (List ℕ)) (number : ℕ) (group : List ℕ) → 1 ≤ number → number < length groups → group ≡ unwrap_or (slice_get groups number) [] →
    take (number + 1 - 1) (drop 1 groups) ≡ take (number - 1) (drop 1 groups) ++ group ∷ []
groups_next groups zero group some within is = absurd (omega (arith, some))
groups_next [] (suc number) group some within is = absurd (omega (arith, within))
groups_next (world ∷ groups) (suc number) group some within is =
    ap (λ (n : ℕ). take n groups) more ∙ groups_more groups number group (omega (arith, within)) is
    ∙ ap (λ (n : ℕ). take n groups ++ group ∷ []) so_far
  where
    more : suc number + 1 - 1 ≡ suc number
    more = omega arith

    so_far : number ≡ suc number - 1
    so_far = omega arith

-- all of them
pub groups_all : (groups : List (List ℕ)) (number : ℕ) → length groups ≤ number → take (number - 1) (drop 1 groups) ≡ drop 1 groups
groups_all [] number most = take_all (number - 1) [] (omega (arith, most))
groups_all (world ∷ groups) number most = take_all (number - 1) groups (omega (arith, most))

-- a number as a further field of a line that was begun
pub puts_field : (old new so_far numbers : List ℕ) (number : ℕ) (word : List ℕ) → so_far ≡ old ++ fields_with word numbers → new ≡ so_far ++ space ∷ decimal number →
    new ≡ old ++ fields_with word (numbers ++ number ∷ [])
puts_field old new so_far numbers number word is puts =
    puts ∙ ap (λ (s : List ℕ). s ++ space ∷ decimal number) is
    ∙ append_assoc old (fields_with word numbers) (space ∷ decimal number)
    ∙ ap (λ (s : List ℕ). old ++ s) (sym (fields_more word numbers number))

-- the end of a line
pub ends_line : (old new so_far numbers word : List ℕ) → so_far ≡ old ++ fields_with word numbers → new ≡ so_far ++ line_feed ∷ [] → new ≡ old ++ line_with word numbers
ends_line old new so_far numbers word is puts =
    puts ∙ ap (λ (s : List ℕ). s ++ line_feed ∷ []) is ∙ append_assoc old (fields_with word numbers) (line_feed ∷ [])

-- the line of a further group
pub puts_group : (before so_far new : List ℕ) (groups : List (List ℕ)) (number : ℕ) (group : List ℕ) → 1 ≤ number → number < length groups →
    group ≡ unwrap_or (slice_get groups number) [] → so_far ≡ before ++ group_lines (take (number - 1) (drop 1 groups)) →
    new ≡ so_far ++ line_with (codes "comm") group → new ≡ before ++ group_lines (take (number + 1 - 1) (drop 1 groups))
puts_group before so_far new groups number group some within it is puts =
    puts ∙ ap (λ (s : List ℕ). s ++ line_with (codes "comm") group) is
    ∙ append_assoc before (group_lines (take (number - 1) (drop 1 groups))) (line_with (codes "comm") group)
    ∙ ap (λ (s : List ℕ). before ++ s)
    (sym (lines_more (take (number - 1) (drop 1 groups)) group) ∙ ap group_lines (sym (groups_next groups number group some within it)))
