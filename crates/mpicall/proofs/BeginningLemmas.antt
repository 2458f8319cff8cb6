-- A spelling has one line feed, at its end, so that no spelling begins another one.
use Rattle.std.proofs.Common.{◌≡◌, ℕ, true, not, List, [], ◌∷◌, ◌++◌, sym, ap, ◌∙◌, refl, arith, ◌==◌, append_assoc, map}
use Rattle.std.specs.List.{join_with_byte, list_all}
use Rattle.std.proofs.lemmas.Bool.Decides.{nat_tests}
use Rattle.std.proofs.lemmas.List.Folds.{list_all-append}
use Rattle.std.proofs.lemmas.Bool.{and_parts}
use Rattle.mpicall.proofs.ArgumentLemmas.{above_space}
use Rattle.mpicall.proofs.CallLemmas.{AllFields, call_fields}
use Rattle.mpicall.proofs.LineLemmas.{spelling_read}
use Rattle.mpicall.proofs.WordLemmas.{text_is}
use Rattle.mpicall.specs.Argument.{spell}
use Rattle.mpicall.specs.Limits.{in_ranges}
use Rattle.mpicall.specs.Parsing.{record_of_line}
use Rattle.mpicall.specs.Spelling.{space, line_feed, word_of_call, arguments_of, fields_of, spelling}
use Rattle.mpicall.specs.Word.{text_of}
use Rattle.mpicall.specs.declared.call.Call.{Call}

-- no byte is a line feed
abbrev pub WithoutFeed : List ℕ → Type 0
WithoutFeed bytes = list_all (λ byte. not (byte == line_feed)) bytes ≡ true

no_feed : (byte : ℕ) → above_space byte ≡ true → not (byte == line_feed) ≡ true
no_feed byte h = grind (arith, nat_tests)

clean_without_feed : (bytes : List ℕ) → list_all above_space bytes ≡ true → WithoutFeed bytes
clean_without_feed [] h = refl
clean_without_feed (byte ∷ bytes) h =
    let parts = and_parts (above_space byte) (list_all above_space bytes) h in
    rw (no_feed byte parts.0, clean_without_feed bytes parts.1) refl

join_without_feed : (word : List ℕ) (fields : List (List ℕ)) → list_all above_space word ≡ true → AllFields fields → WithoutFeed (join_with_byte space (word ∷ fields))
unfolding AllFields
join_without_feed word [] clean all = clean_without_feed word clean
join_without_feed word (next ∷ fields) clean all =
    rw (list_all-append (λ byte. not (byte == line_feed)) word (space ∷ join_with_byte space (next ∷ fields)), clean_without_feed word clean)
    (join_without_feed next fields all.0.clean all.1)

pub body_without_feed : (x : Call) → in_ranges x ≡ true → WithoutFeed (join_with_byte space (fields_of x))
body_without_feed x h = join_without_feed (text_of (word_of_call x)) (map spell (arguments_of x)) (text_is (word_of_call x)).clean (call_fields x h)

pub no_feed_here : (byte : ℕ) (bytes : List ℕ) → WithoutFeed (byte ∷ bytes) → byte ≡ line_feed → ⊥
no_feed_here byte bytes h is =
    let parts = and_parts (not (byte == line_feed)) (list_all (λ b. not (b == line_feed)) bytes) h in
    grind (arith, nat_tests, parts.0)

-- the first line feed of a text is in one place
same_cut : (xs ys rest : List ℕ) → WithoutFeed xs → WithoutFeed ys → xs ++ line_feed ∷ rest ≡ ys ++ line_feed ∷ [] → (xs ≡ ys) × (rest ≡ [])
same_cut [] [] rest hx hy e = (refl, cc)
same_cut [] (y ∷ ys) rest hx hy e = let is : y ≡ line_feed = cc in absurd (no_feed_here y ys hy is)
same_cut (x ∷ xs) [] rest hx hy e = let is : x ≡ line_feed = cc in absurd (no_feed_here x xs hx is)
same_cut (x ∷ xs) (y ∷ ys) rest hx hy e =
    let tails : xs ++ line_feed ∷ rest ≡ ys ++ line_feed ∷ [] = cc in
    let heads : x ≡ y = cc in
    let px = and_parts (not (x == line_feed)) (list_all (λ b. not (b == line_feed)) xs) hx in
    let py = and_parts (not (y == line_feed)) (list_all (λ b. not (b == line_feed)) ys) hy in
    let deeper = same_cut xs ys rest px.1 py.1 tails in
    let both = deeper.0 in
    (cc, deeper.1)

pub begins_no_other : (x y : Call) (rest : List ℕ) → in_ranges x ≡ true → in_ranges y ≡ true → spelling x ++ rest ≡ spelling y → (x ≡ y) × (rest ≡ [])
unfolding spelling
begins_no_other x y rest hx hy e =
    let cut = same_cut (join_with_byte space (fields_of x)) (join_with_byte space (fields_of y)) rest (body_without_feed x hx) (body_without_feed y hy) (sym (append_assoc (join_with_byte space (fields_of x)) (line_feed ∷ []) rest) ∙ e) in
    let same : spelling x ≡ spelling y = ap (λ body. body ++ line_feed ∷ []) cut.0 in
    let rx = spelling_read x hx in
    let ry = spelling_read y hy in
    let reads = sym rx ∙ ap record_of_line same ∙ ry in
    (cc, cut.1)
