-- The messages that the requests of started matched receives take, by the lines of a journal.
use Rattle.std.proofs.Common.{◌≡◌, ◌∙◌, refl, sym, ap, arith, ℕ, zero, suc, ◌+◌, List, [], ◌∷◌, ◌++◌, length, take, drop, Option, Some, None}
use Rattle.std.specs.Prelude.{slice_get, unwrap_or}
use Rattle.std.specs.Option.{option_map_or}
use Rattle.mpicall.specs.Word.{or_else}
use Rattle.journals.specs.Lines.{Line}
use Rattle.journals.specs.Taking.{word_at, fields_at}
use Rattle.journals.specs.declared.field.Field.{Field}
use Rattle.journals.specs.declared.word.CallWord.{CallWord}
use Rattle.journals.specs.declared.word.Word.{Word}
use Rattle.journals.specs.declared.word.Word.TheVariants.{Call, Report}
use Rattle.closing.specs.Called.{Called, StartsMatched, called}
use Rattle.closing.specs.Entry.{id_of, matched_by, matched_in, matched_message}
use Rattle.closing.specs.Steps.{Own}
use Rattle.closing.specs.inner.Noted.{reports_in}
use Rattle.closing.specs.inner.Standings.{id_in, message_for}
use Rattle.closing.specs.inner.Walked.{message_after}
use Rattle.closing.specs.declared.standing.Standing.{Standing}
use Rattle.closing.proofs.LastLemmas.{line_of, lines_from}
use Rattle.closing.proofs.PlacedLemmas.{take_slice}

-- no report says that a receive takes a message
pub no_matched : (lines : List Line) (request : ℕ) → matched_message (take (length (reports_in lines)) lines) request ≡ None
no_matched [] request = refl
no_matched (line ∷ lines) request = by line.word line.fields (no_matched lines request)
  where
    by : (word : Word) (fields : List Field) → matched_message (take (length (reports_in lines)) lines) request ≡ None
        → matched_message (take (length (reports_in (record { word = word; fields = fields } ∷ lines))) (record { word = word; fields = fields } ∷ lines)) request ≡ None
    by (Call word) fields others = refl
    by (Report word) fields others = others

-- ---- Some lines, and then others ----

or_assoc : (a b c : Option ℕ) → or_else (or_else a b) c ≡ or_else a (or_else b c)
or_assoc None b c = refl
or_assoc (Some x) b c = refl

or_none : (a : Option ℕ) → or_else a None ≡ a
or_none None = refl
or_none (Some x) = refl

matched_append : (xs ys : List Line) (request : ℕ) → matched_message (xs ++ ys) request ≡ or_else (matched_message xs request) (matched_message ys request)
matched_append [] ys request = refl
matched_append (x ∷ xs) ys request =
    ap (or_else (matched_in request x.word x.fields)) (matched_append xs ys request)
    ∙ sym (or_assoc (matched_in request x.word x.fields) (matched_message xs request) (matched_message ys request))

take_both : (n k : ℕ) (lines : List Line) → take (n + k) lines ≡ take n lines ++ take k (drop n lines)
take_both zero k lines = ap (λ m. take m lines) (omega arith)
take_both (suc n) k [] = nothing (suc n + k) ∙ sym (nothing k)
  where
    nothing : (m : ℕ) → ◌≡◌ {A = List Line} (take m []) []
    nothing zero = refl
    nothing (suc m) = refl
take_both (suc n) k (x ∷ xs) =
    let one : suc n + k ≡ suc (n + k) = omega arith in
    ap (λ m. take m (x ∷ xs)) one ∙ ap (λ others. x ∷ others) (take_both n k xs)

pub by_call : (it : Called) (before : ℕ → Option ℕ) (request : ℕ) → or_else (before request) (matched_by request it) ≡ message_after it before request
by_call (StartsMatched started message) before request = refl
by_call _ before request = or_none (before request)

-- the message that a request takes after an entry, by its call
pub matched_next : (lines : List Line) (n : ℕ) (word : CallWord) → word_at lines n ≡ Some (Call word) → (request : ℕ)
    → matched_message (take (n + 1 + length (reports_in (drop (n + 1) lines))) lines) request
    ≡ message_after (called word (fields_at lines n)) (matched_message (take n lines)) request
matched_next lines n word e request =
    let at = lines_from lines n (Call word) e in
    let line : Line = line_of (Call word) at.0 in
    let there : slice_get lines n ≡ Some line = at.1.0 in
    let fields : fields_at lines n ≡ at.0 = rw there refl in
    let one : n + 1 ≡ suc n = omega arith in
    let reports : List Line = take (length (reports_in (drop (n + 1) lines))) (drop (n + 1) lines) in
    ap (λ (ls : List Line). matched_message ls request) (take_both (n + 1) (length (reports_in (drop (n + 1) lines))) lines)
    ∙ matched_append (take (n + 1) lines) reports request
    ∙ ap (or_else (matched_message (take (n + 1) lines) request)) (no_matched (drop (n + 1) lines) request)
    ∙ or_none (matched_message (take (n + 1) lines) request)
    ∙ ap (λ (ls : List Line). matched_message ls request) (ap (λ (m : ℕ). take m lines) one ∙ take_slice lines n line there)
    ∙ matched_append (take n lines) (line ∷ []) request
    ∙ ap (or_else (matched_message (take n lines) request)) (or_none (matched_by request (called word at.0)))
    ∙ ap (λ (fs : List Field). or_else (matched_message (take n lines) request) (matched_by request (called word fs))) (sym fields)
    ∙ by_call (called word (fields_at lines n)) (matched_message (take n lines)) request

-- ---- What is kept ----

id_by : (request : ℕ) (found : Option ℕ) → Own (unwrap_or found request) ≡ Own (option_map_or (λ message. message) found request)
id_by request None = refl
id_by request (Some message) = refl

-- what a request is in the trace, by the message that it takes
pub id_same : (lines : List Line) (standing : Standing) (request : ℕ) → message_for standing request ≡ matched_message lines request
    → Own (id_in standing request) ≡ id_of lines request
id_same lines standing request e =
    ap (λ (found : Option ℕ). Own (unwrap_or found request)) e ∙ id_by request (matched_message lines request)

-- the messages that requests take after a call, by those before it
pub after_same : (it : Called) (f g : ℕ → Option ℕ) (request : ℕ) → f request ≡ g request → message_after it f request ≡ message_after it g request
after_same it f g request e =
    sym (by_call it f request) ∙ ap (λ (found : Option ℕ). or_else found (matched_by request it)) e ∙ by_call it g request
