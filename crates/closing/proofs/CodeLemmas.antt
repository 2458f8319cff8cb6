-- The test of keys of the code decides whether they are the same.
use Rattle.std.proofs.Common.{◌≡◌, refl, sym, Bool, true, ◌==◌, ◌&&◌, true≢false}
use Rattle.std.proofs.lemmas.Bool.{and_parts, eqb-true, eq-eqb}
use Rattle.closing.specs.declared.keys.Key.{Key as KeyCode}
use Rattle.closing.specs.declared.keys.Key.TheVariants as code
use Rattle.closing.specs.contracts.keys.KeyPartialEq.TheImpl as key_eq

abbrev pub same_code : KeyCode → KeyCode → Bool
same_code = (key_eq.ghosts).eq

pub same_code_true : (a b : KeyCode) → same_code a b ≡ true → a ≡ b
same_code_true code.World code.World h = refl
same_code_true (code.Alone rank group) (code.Alone rank' group') h =
    let parts = and_parts (rank == rank') (group == group') h in
    let r : rank ≡ rank' = eqb-true rank rank' parts.0 in
    let g : group ≡ group' = eqb-true group group' parts.1 in
    (λ i. code.Alone (r i) (g i))
same_code_true (code.Made wave group) (code.Made wave' group') h =
    let parts = and_parts (wave.parent == wave'.parent && wave.count == wave'.count) (group == group') h in
    let both = and_parts (wave.parent == wave'.parent) (wave.count == wave'.count) parts.0 in
    let p : wave.parent ≡ wave'.parent = eqb-true wave.parent wave'.parent both.0 in
    let n : wave.count ≡ wave'.count = eqb-true wave.count wave'.count both.1 in
    let g : group ≡ group' = eqb-true group group' parts.1 in
    (λ i. code.Made (record { parent = p i; count = n i }) (g i))
same_code_true (code.Duplicated wave group) (code.Duplicated wave' group') h =
    let parts = and_parts (wave.parent == wave'.parent && wave.count == wave'.count) (group == group') h in
    let both = and_parts (wave.parent == wave'.parent) (wave.count == wave'.count) parts.0 in
    let p : wave.parent ≡ wave'.parent = eqb-true wave.parent wave'.parent both.0 in
    let n : wave.count ≡ wave'.count = eqb-true wave.count wave'.count both.1 in
    let g : group ≡ group' = eqb-true group group' parts.1 in
    (λ i. code.Duplicated (record { parent = p i; count = n i }) (g i))
same_code_true (code.OfGroup group times) (code.OfGroup group' times') h =
    let parts = and_parts (group == group') (times == times') h in
    let g : group ≡ group' = eqb-true group group' parts.0 in
    let n : times ≡ times' = eqb-true times times' parts.1 in
    (λ i. code.OfGroup (g i) (n i))
same_code_true (code.Apart group times) (code.Apart group' times') h =
    let parts = and_parts (group == group') (times == times') h in
    let g : group ≡ group' = eqb-true group group' parts.0 in
    let n : times ≡ times' = eqb-true times times' parts.1 in
    (λ i. code.Apart (g i) (n i))
same_code_true a b h = absurd (true≢false (sym h))

both_true : (a b : Bool) → a ≡ true → b ≡ true → (a && b) ≡ true
both_true a b p q = rw (p, q) refl

pub same_code_itself : (a : KeyCode) → same_code a a ≡ true
same_code_itself code.World = refl
same_code_itself (code.Alone rank group) = both_true (rank == rank) (group == group) (eq-eqb rank rank refl) (eq-eqb group group refl)
same_code_itself (code.Made wave group) =
    both_true (wave.parent == wave.parent && wave.count == wave.count) (group == group)
    (both_true (wave.parent == wave.parent) (wave.count == wave.count) (eq-eqb wave.parent wave.parent refl) (eq-eqb wave.count wave.count refl)) (eq-eqb group group refl)
same_code_itself (code.Duplicated wave group) =
    both_true (wave.parent == wave.parent && wave.count == wave.count) (group == group)
    (both_true (wave.parent == wave.parent) (wave.count == wave.count) (eq-eqb wave.parent wave.parent refl) (eq-eqb wave.count wave.count refl)) (eq-eqb group group refl)
same_code_itself (code.OfGroup group times) = both_true (group == group) (times == times) (eq-eqb group group refl) (eq-eqb times times refl)
same_code_itself (code.Apart group times) = both_true (group == group) (times == times) (eq-eqb group group refl) (eq-eqb times times refl)
