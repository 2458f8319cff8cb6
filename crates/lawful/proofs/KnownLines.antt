-- What a journal that was read says of a request once it was started stays as it is.
use Rattle.std.proofs.Common.{◌≡◌, ℕ, ◌==◌, ◌||◌, Bool, true, false, Option, Some, None, List, [], ◌∷◌, ◌++◌, refl, sym, ap, subst, ◌∙◌, inl, inr, eqb-true}
use Rattle.std.specs.Option.{option_map_or}
use Rattle.std.proofs.lemmas.Bool.{cases_Bool, false≢true}
use Rattle.std.proofs.lemmas.List.Folds.{list_any-append}
use Rattle.mpicall.specs.Word.{or_else}
use Rattle.journals.specs.Lines.{Line}
use Rattle.journals.specs.Faults.{is_free}
use Rattle.journals.specs.declared.field.Field.{Field}
use Rattle.journals.specs.declared.word.Word.{Word}
use Rattle.journals.specs.declared.word.Word.TheVariants.{Call, Report}
use Rattle.journals.specs.declared.word.CallWord.{CallWord}
use Rattle.closing.specs.Called.{Called, StartsSend, StartsExchange, StartsMatched, called}
use Rattle.closing.specs.Steps.{Own}
use Rattle.closing.specs.Entry.{id_of, matched_by, matched_in, matched_message, starts_send_with, starts_send_in, is_of_send}
use Rattle.lawful.proofs.RightLines.{IsRight, AreRight}
use Rattle.lawful.proofs.NewNumbers.{IsKnown, IsKnownMessage, New, Numbers, free_before, called_numbers}

-- a number that was given isn't that of a line that gives one
not_new : (before : List Line) (word : CallWord) (fields : List Field) (number request : ℕ) → New before word fields number → is_free before request ≡ false → (number == request) ≡ false
not_new before word fields number request new taken =
    elim (cases_Bool (number == request)) [
      | inl same ↦ absurd (false≢true (sym taken ∙ subst (λ (n : ℕ). is_free before n ≡ true) (eqb-true number request same) new.free))
      | inr other ↦ other
    ]

matched_none : (before : List Line) (word : CallWord) (fields : List Field) (request : ℕ) (it : Called) → Numbers (New before word fields) (IsKnown before) (IsKnownMessage before) it → is_free before request ≡ false → matched_by request it ≡ None
matched_none before word fields request (StartsMatched started message) all taken = rw (not_new before word fields started request all.0 taken) refl
matched_none before word fields request _ all taken = refl

sends_none : (before : List Line) (word : CallWord) (fields : List Field) (request : ℕ) (it : Called) → Numbers (New before word fields) (IsKnown before) (IsKnownMessage before) it → is_free before request ≡ false → starts_send_with request it ≡ false
sends_none before word fields request (StartsSend started mode sent) all taken = not_new before word fields started request all taken
sends_none before word fields request (StartsExchange started received sent awaited) all taken = not_new before word fields started request all.0 taken
sends_none before word fields request _ all taken = refl

matched_line : (before : List Line) (word : Word) (fields : List Field) (request : ℕ) → IsRight before (record { word = word; fields = fields }) → is_free before request ≡ false → matched_in request word fields ≡ None
matched_line before (Call word) fields request is taken = matched_none before word fields request (called word fields) (called_numbers before word fields is) taken
matched_line before (Report word) fields request is taken = refl

pub sends_line : (before : List Line) (word : Word) (fields : List Field) (request : ℕ) → IsRight before (record { word = word; fields = fields }) → is_free before request ≡ false → starts_send_in request word fields ≡ false
sends_line before (Call word) fields request is taken = sends_none before word fields request (called word fields) (called_numbers before word fields is) taken
sends_line before (Report word) fields request is taken = refl

pub still_taken : (before : List Line) (line : Line) (request : ℕ) → is_free before request ≡ false → is_free (before ++ line ∷ []) request ≡ false
still_taken before line request taken =
    elim (cases_Bool (is_free (before ++ line ∷ []) request)) [
      | inl free ↦ absurd (false≢true (sym taken ∙ free_before before line request free))
      | inr other ↦ other
    ]

-- ---- Later lines ----

matched_later : (before lines : List Line) (request : ℕ) → AreRight before lines → is_free before request ≡ false → matched_message lines request ≡ None
matched_later before [] request all taken = refl
matched_later before (line ∷ lines) request all taken =
    rw (matched_line before line.word line.fields request all.0 taken) (matched_later (before ++ line ∷ []) lines request all.1 (still_taken before line request taken))

sends_later : (before lines : List Line) (request : ℕ) → AreRight before lines → is_free before request ≡ false → is_of_send lines request ≡ false
sends_later before [] request all taken = refl
sends_later before (line ∷ lines) request all taken =
    rw (sends_line before line.word line.fields request all.0 taken) (sends_later (before ++ line ∷ []) lines request all.1 (still_taken before line request taken))

or_assoc : (a b c : Option ℕ) → or_else (or_else a b) c ≡ or_else a (or_else b c)
or_assoc (Some it) b c = refl
or_assoc None b c = refl

or_none : (a : Option ℕ) → or_else a None ≡ a
or_none (Some it) = refl
or_none None = refl

pub matched_append : (xs ys : List Line) (request : ℕ) → matched_message (xs ++ ys) request ≡ or_else (matched_message xs request) (matched_message ys request)
matched_append [] ys request = refl
matched_append (x ∷ xs) ys request =
    ap (λ (o : Option ℕ). or_else (matched_in request x.word x.fields) o) (matched_append xs ys request)
    ∙ sym (or_assoc (matched_in request x.word x.fields) (matched_message xs request) (matched_message ys request))

pub same_matched : (before lines : List Line) (request : ℕ) → AreRight before lines → is_free before request ≡ false → matched_message (before ++ lines) request ≡ matched_message before request
same_matched before lines request all taken =
    matched_append before lines request
    ∙ ap (λ (o : Option ℕ). or_else (matched_message before request) o) (matched_later before lines request all taken)
    ∙ or_none (matched_message before request)

pub same_id : (before lines : List Line) (request : ℕ) → AreRight before lines → is_free before request ≡ false → id_of before request ≡ id_of (before ++ lines) request
same_id before lines request all taken =
    ap (λ (o : Option ℕ). Own (option_map_or (λ message. message) o request)) (sym (same_matched before lines request all taken))

pub same_send : (before lines : List Line) (request : ℕ) → AreRight before lines → is_free before request ≡ false → is_of_send (before ++ lines) request ≡ is_of_send before request
same_send before lines request all taken =
    list_any-append (λ (line : Line). starts_send_in request line.word line.fields) before lines
    ∙ ap (λ (b : Bool). is_of_send before request || b) (sends_later before lines request all taken)
    ∙ or_false (is_of_send before request)
  where
    or_false : (b : Bool) → (b || false) ≡ b
    or_false true = refl
    or_false false = refl
