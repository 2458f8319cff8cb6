-- A word's text is found as that word, and what is found as a word has its text.
use Rattle.std.proofs.Common.{◌≡◌, ℕ, ◌<◌, ◌≤◌, Bool, true, false, List, [], ◌∷◌, length, sym, ap, ◌∙◌, refl, arith, Option, Some, None, cond, option_map, map, ◌==◌, nat_lt, nat_le, ◌&&◌}
use Rattle.std.specs.List.{list_all}
use Rattle.std.specs.Str.{bytes_eq}
use Rattle.std.proofs.lemmas.Slice.Eq.{bytes_eq-Decides}
use Rattle.std.proofs.lemmas.Bool.Decides.{nat_tests}
use Rattle.std.proofs.lemmas.Bool.{and_parts}
use Rattle.mpicall.proofs.ArgumentLemmas.{above_space, map_some, le_from}
use Rattle.mpicall.specs.Word.{names, collective_text, operation_text, text_of, start_letter, with_text, or_else, collectives, messages, name_text, name_in, named_of, collective_of, operation_of, started_word, word_of}
use Rattle.mpicall.specs.declared.call.Mode.TheVariants.{Standard}
use Rattle.mpicall.specs.declared.word.Collective.{Collective}
use Rattle.mpicall.specs.declared.word.Collective.TheVariants.{Barrier}
use Rattle.mpicall.specs.declared.word.Operation.{Operation}
use Rattle.mpicall.specs.declared.word.Operation.TheVariants.{Send, Coll}
use Rattle.mpicall.specs.declared.word.Word.{Word}
use Rattle.mpicall.specs.declared.word.Word.TheVariants.{Blocking, Started, Named}
use Rattle.mpicall.specs.declared.word.Name.{Name}
use Rattle.mpicall.specs.declared.word.Name.TheVariants.{Waitall}

-- What is found has the text.

first_has : {A : Type 0} (b : Bool) (texts : A → List ℕ) (text : List ℕ) (y x : A) (others : Option A) → (b ≡ true → text ≡ texts y) → (others ≡ Some x → text ≡ texts x) → cond b (Some y) others ≡ Some x → text ≡ texts x
first_has true texts text y x others here there e = let is : y ≡ x = cc in rw (sym is) (here refl)
first_has false texts text y x others here there e = there e

with_text_has : {A : Type 0} (texts : A → List ℕ) (text : List ℕ) (xs : List A) (x : A) → with_text texts text xs ≡ Some x → text ≡ texts x
with_text_has texts text [] x e = cc
with_text_has texts text (y ∷ ys) x e =
    first_has (bytes_eq text (texts y)) texts text y x (with_text texts text ys) (bytes_eq-Decides text (texts y)).0 (with_text_has texts text ys x) e

else_cases : {A : Type 0} (P : Type 0) (o other : Option A) (x : A) → (o ≡ Some x → P) → (other ≡ Some x → P) → or_else o other ≡ Some x → P
else_cases P (Some y) other x here there e = here e
else_cases P None other x here there e = there e

collective_has : (text : List ℕ) (c : Collective) → collective_of text ≡ Some c → text ≡ collective_text c
unfolding collective_of
collective_has text c e = with_text_has collective_text text collectives c e

coll_has : (text : List ℕ) (o : Operation) → option_map Coll (collective_of text) ≡ Some o → text ≡ operation_text o
coll_has text o e = let found = map_some Coll (collective_of text) o e in rw found.2 (collective_has text found.0 found.1)

operation_has : (text : List ℕ) (o : Operation) → operation_of text ≡ Some o → text ≡ operation_text o
unfolding operation_of
operation_has text o e =
    else_cases (text ≡ operation_text o) (with_text operation_text text messages) (option_map Coll (collective_of text)) o (with_text_has operation_text text messages o) (coll_has text o) e

blocking_has : (text : List ℕ) (w : Word) → option_map Blocking (operation_of text) ≡ Some w → text ≡ text_of w
blocking_has text w e = let found = map_some Blocking (operation_of text) w e in rw found.2 (operation_has text found.0 found.1)

letter_is : (letter : ℕ) → (letter == start_letter) ≡ true → letter ≡ start_letter
letter_is letter h = grind (arith, nat_tests)

with_letter : (letter : ℕ) (text : List ℕ) (o : Operation) → letter ≡ start_letter → text ≡ operation_text o → letter ∷ text ≡ text_of (Started o)
with_letter letter text o first others = cc

start_cases : (b : Bool) (letter : ℕ) (text : List ℕ) (w : Word) → (b ≡ true → letter ≡ start_letter) → cond b (option_map Started (operation_of text)) None ≡ Some w → letter ∷ text ≡ text_of w
start_cases true letter text w is e =
    let found = map_some Started (operation_of text) w e in
    let has = with_letter letter text found.0 (is refl) (operation_has text found.0 found.1) in
    has ∙ ap text_of (sym found.2)
start_cases false letter text w is e = cc

started_has : (text : List ℕ) (w : Word) → started_word text ≡ Some w → text ≡ text_of w
started_has [] w e = cc
started_has (letter ∷ text) w e = start_cases (letter == start_letter) letter text w (letter_is letter) e

-- a row of a table has its name's text
abbrev has_text : List ℕ × Name → Bool
has_text row = bytes_eq row.0 (name_text row.1)

in_rows : (rows : List (List ℕ × Name)) (text : List ℕ) (name : Name) → list_all has_text rows ≡ true → name_in rows text ≡ Some name → text ≡ name_text name
in_rows [] text name has e = cc
in_rows (row ∷ rows) text name has e =
    let parts = and_parts (has_text row) (list_all has_text rows) has in
    first_has (bytes_eq text row.0) name_text text row.1 name (name_in rows text)
    (λ same. (bytes_eq-Decides text row.0).0 same ∙ (bytes_eq-Decides row.0 (name_text row.1)).0 parts.0) (in_rows rows text name parts.1) e

named_has : (text : List ℕ) (w : Word) → named_of text ≡ Some w → text ≡ text_of w
named_has text w e =
    let found = map_some Named (name_in (map (λ row. (row.0, row.1)) names) text) w e in
    rw found.2 (in_rows (map (λ row. (row.0, row.1)) names) text found.0 refl found.1)

pub word_has : (text : List ℕ) (w : Word) → word_of text ≡ Some w → text ≡ text_of w
unfolding word_of
word_has text w e =
    else_cases (text ≡ text_of w) (option_map Blocking (operation_of text)) (or_else (started_word text) (named_of text)) w (blocking_has text w)
    (else_cases (text ≡ text_of w) (started_word text) (named_of text) w (started_has text w) (named_has text w)) e

-- Each text is found.

operation_found : (o : Operation) → operation_of (operation_text o) ≡ Some o
unfolding operation_of collective_of
operation_found (Send Standard) = refl
operation_found (Coll Barrier) = refl
operation_found _ = refl

-- no operation's word begins with the letter of a start
operation_starts_none : (o : Operation) → operation_of (start_letter ∷ operation_text o) ≡ None
unfolding operation_of collective_of
operation_starts_none (Send Standard) = refl
operation_starts_none (Coll Barrier) = refl
operation_starts_none _ = refl

pub word_found : (w : Word) → word_of (text_of w) ≡ Some w
unfolding word_of operation_of collective_of
word_found (Blocking o) = rw (operation_found o) refl
word_found (Started o) = rw (operation_starts_none o, operation_found o) refl
word_found (Named Waitall) = refl
word_found _ = refl

-- Each text has bytes, few and all above the space.

abbrev fair : List ℕ → Bool
fair text = nat_lt 0 (length text) && nat_le (length text) 9 && list_all above_space text

operation_fair : (o : Operation) → fair (operation_text o) ≡ true
operation_fair (Send Standard) = refl
operation_fair (Coll Barrier) = refl
operation_fair _ = refl

pub record IsText (text : List ℕ) : Type 0 where
  pub clean : list_all above_space text ≡ true
  pub some : 0 < length text
  pub short : length text ≤ 10

fair_text : (text : List ℕ) → fair text ≡ true → IsText text
fair_text text h =
    let outer = and_parts (nat_lt 0 (length text) && nat_le (length text) 9) (list_all above_space text) h in
    let inner = and_parts (nat_lt 0 (length text)) (nat_le (length text) 9) outer.0 in
    let low = le_from (length text) 9 inner.1 in
    record { clean = outer.1; some = grind (arith, nat_tests, inner.0); short = omega arith }

started_text : (text : List ℕ) → fair text ≡ true → IsText (start_letter ∷ text)
started_text text h =
    let outer = and_parts (nat_lt 0 (length text) && nat_le (length text) 9) (list_all above_space text) h in
    let inner = and_parts (nat_lt 0 (length text)) (nat_le (length text) 9) outer.0 in
    let low = le_from (length text) 9 inner.1 in
    record { clean = outer.1; some = omega arith; short = omega arith }

pub text_is : (w : Word) → IsText (text_of w)
text_is (Blocking o) = fair_text _ (operation_fair o)
text_is (Started o) = started_text _ (operation_fair o)
text_is (Named Waitall) = fair_text _ refl
text_is _ = fair_text _ refl
