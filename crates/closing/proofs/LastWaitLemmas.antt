-- What the last call of a rank waits for, where it never came back.
use Rattle.std.proofs.Common.{◌≡◌, ◌∙◌, ◌⊎◌, refl, sym, ap, subst, ℕ, zero, suc, ◌+◌, ◌&&◌, ◌||◌, Bool, true, false, not, true≢false, List, [], ◌∷◌, ◌++◌, drop, take, Option, Some, None, inl, inr, arith}
use Rattle.std.specs.Prelude.{if◌then◌else◌, option_and_then}
use Rattle.std.specs.List.{cons_option, filter_map, slice_get}
use Rattle.journals.specs.Lines.{Line}
use Rattle.journals.specs.Taking.{word_at, fields_at}
use Rattle.journals.specs.Journal.{Journal}
use Rattle.journals.specs.Entries.{listing_of, group_in}
use Rattle.journals.specs.declared.field.Field.{Field}
use Rattle.journals.specs.declared.field.Field.TheVariants.{Natural, Signed, Null, Any, Undefined}
use Rattle.journals.specs.declared.word.Word.{Word}
use Rattle.journals.specs.declared.word.Word.TheVariants.{Call, Report}
use Rattle.journals.specs.declared.word.CallWord.{CallWord}
use Rattle.journals.specs.declared.word.ReportWord.{ReportWord}
use Rattle.journals.specs.declared.word.ReportWord.TheVariants as report
use Rattle.closing.specs.Called.{Called, Splits, called}
use Rattle.closing.specs.RankComms.{RankComms, Wave, comms_after, comms_first, after_line, after_lines, after_report, makes_comm, wave_next}
use Rattle.closing.specs.Entries.{Run, Placed, comes_always, entries_from, entries_in, placed_at, says_back}
use Rattle.closing.specs.Keys.{Key}
use Rattle.closing.specs.Made.{inferred_key, may_give, others_key, wave_at}
use Rattle.closing.specs.inner.Noted.{CameLast, IsLastCall, comes_back, has_call, reports_in, say_back}
use Rattle.closing.specs.inner.Surveyed.{as_list, gives_at, gives_by, waits_for}
use Rattle.closing.specs.declared.last.LastCall.{LastCall}
use Rattle.closing.proofs.LastLemmas.{line_of, call_after}

-- ---- Lists ----

pub one_or_none : {A : Type 0} (o : Option A) → cons_option o [] ≡ as_list o
one_or_none None = refl
one_or_none (Some x) = refl

pub take_next : {A : Type 0} (xs : List A) (n : ℕ) (x : A) → slice_get xs n ≡ Some x → take (suc n) xs ≡ take n xs ++ x ∷ []
take_next {A = A} [] n x e = absurd (cc)
take_next {A = A} (y ∷ xs) zero x e = let k : y ≡ x = cc in ap (λ (z : A). z ∷ []) k
take_next {A = A} (y ∷ xs) (suc n) x e = ap (λ (zs : List A). y ∷ zs) (take_next xs n x e)

-- ---- No entries where no call is ----

no_entries_by : (rank : ℕ) (journal : Journal) (number : ℕ) (comms : RankComms) (word : Word) (fields : List Field) (lines : List Line)
    → ((it : RankComms) → has_call lines ≡ false → entries_from rank journal (number + 1) it lines ≡ [])
    → has_call (line_of word fields ∷ lines) ≡ false → entries_from rank journal number comms (line_of word fields ∷ lines) ≡ []
no_entries_by rank journal number comms (Call word) fields lines rest none = absurd (true≢false none)
no_entries_by rank journal number comms (Report word) fields lines rest none = rest (after_line comms (line_of (Report word) fields)) none

pub no_entries : (rank : ℕ) (journal : Journal) (number : ℕ) (comms : RankComms) (lines : List Line) → has_call lines ≡ false → entries_from rank journal number comms lines ≡ []
no_entries rank journal number comms [] none = refl
no_entries rank journal number comms (line ∷ lines) none =
    no_entries_by rank journal number comms line.word line.fields lines (λ it h. no_entries rank journal (number + 1) it lines h) none

-- ---- What the last entry gives ----

-- an entry of a call with these lines after it
abbrev pub entry_at : ℕ → Journal → ℕ → RankComms → CallWord → List Field → List Line → Placed
entry_at rank journal number comms word fields later =
    placed_at rank journal number comms (record { word = word; fields = fields; reports = (listing_of later).early }) later

back_by : (rank : ℕ) (journal : Journal) (number : ℕ) (comms : RankComms) (word : CallWord) (fields : List Field) (later : List Line) → has_call later ≡ true
    → (entry_at rank journal number comms word fields later).came_back ≡ true
back_by rank journal number comms word fields later h = ap (λ (b : Bool). b || journal.heading.is_outside || say_back (reports_in later) || comes_always word) h

module _ {A : Type 0} (f : Placed → Option A) (backs : (placed : Placed) → placed.came_back ≡ true → f placed ≡ None) where
  first_gives : (rank : ℕ) (journal : Journal) (number : ℕ) (comms : RankComms) (it : Word) (fields : List Field) (lines : List Line) (word : CallWord)
      → Some it ≡ Some (Call word) → has_call lines ≡ false
      → filter_map f (entries_from rank journal number comms (line_of it fields ∷ lines)) ≡ as_list (f (entry_at rank journal number comms word fields lines))
  first_gives rank journal number comms (Report other) fields lines word e none = absurd (cc)
  first_gives rank journal number comms (Call other) fields lines word e none =
      let same : other ≡ word = cc in
      ap (λ (es : List Placed). cons_option (f (entry_at rank journal number comms other fields lines)) (filter_map f es))
      (no_entries rank journal (number + 1) (after_line comms (line_of (Call other) fields)) lines none)
      ∙ one_or_none (f (entry_at rank journal number comms other fields lines))
      ∙ ap (λ (w : CallWord). as_list (f (entry_at rank journal number comms w fields lines))) same

  later_gives : (rank : ℕ) (journal : Journal) (number : ℕ) (comms : RankComms) (it : Word) (fields : List Field) (lines : List Line) (given : List A)
      → has_call lines ≡ true → filter_map f (entries_from rank journal (number + 1) (after_line comms (line_of it fields)) lines) ≡ given
      → filter_map f (entries_from rank journal number comms (line_of it fields ∷ lines)) ≡ given
  later_gives rank journal number comms (Report other) fields lines given some e = e
  later_gives rank journal number comms (Call other) fields lines given some e =
      let placed = entry_at rank journal number comms other fields lines in
      ap (λ (o : Option A). cons_option o (filter_map f (entries_from rank journal (number + 1) (after_line comms (line_of (Call other) fields)) lines)))
      (backs placed (back_by rank journal number comms other fields lines some))
      ∙ e

  -- all but the last entry came back
  pub last_gives : (rank : ℕ) (journal : Journal) (number : ℕ) (comms : RankComms) (lines : List Line) (place : ℕ) (word : CallWord)
      → word_at lines place ≡ Some (Call word) → has_call (drop (suc place) lines) ≡ false
      → (n : ℕ) × (filter_map f (entries_from rank journal number comms lines)
      ≡ as_list (f (entry_at rank journal n (after_lines comms (take place lines)) word (fields_at lines place) (drop (suc place) lines))))
  last_gives rank journal number comms [] place word e none = absurd (cc)
  last_gives rank journal number comms (line ∷ lines) zero word e none =
      (number, first_gives rank journal number comms line.word line.fields lines word e none)
  last_gives rank journal number comms (line ∷ lines) (suc place) word e none =
      let rest = last_gives rank journal (number + 1) (after_line comms line) lines place word e none in
      (rest.0, later_gives rank journal number comms line.word line.fields lines _ (call_after lines 0 place word (omega arith) e) rest.1)

-- ---- The wave of the last call ----

pub waits_back : (placed : Placed) → placed.came_back ≡ true → waits_for placed ≡ None
waits_back placed back = by (may_give placed.called)
  where
    by : (b : Bool) → (if b && not placed.came_back then wave_at placed else None) ≡ None
    by false = refl
    by true = ap (λ (b : Bool). if not b then wave_at placed else None) back

wave_kept_by : (comms : RankComms) (word : ReportWord) (fields : List Field) (group : List ℕ) → says_back (Report word) ≡ false → (after_report comms word fields group).wave ≡ comms.wave
wave_kept_by comms report.Done fields group none = refl
wave_kept_by comms report.Gone fields group none = refl
wave_kept_by comms report.Kept fields group none = refl
wave_kept_by comms report.Moved fields group none = refl
wave_kept_by comms report.Apart [] group none = refl
wave_kept_by comms report.Apart (Natural number ∷ fields) group none = refl
wave_kept_by comms report.Apart (Signed number ∷ fields) group none = refl
wave_kept_by comms report.Apart (Null ∷ fields) group none = refl
wave_kept_by comms report.Apart (Any ∷ fields) group none = refl
wave_kept_by comms report.Apart (Undefined ∷ fields) group none = refl
wave_kept_by comms word fields group none = absurd (true≢false none)

pub neither : (a b : Bool) → (a || b) ≡ false → (a ≡ false) × (b ≡ false)
neither true b h = absurd (true≢false h)
neither false b h = (refl, h)

wave_after_by : (comms : RankComms) (word : Word) (fields : List Field) (lines : List Line)
    → ((it : RankComms) → has_call lines ≡ false → say_back (reports_in lines) ≡ false → (after_lines it lines).wave ≡ it.wave)
    → has_call (line_of word fields ∷ lines) ≡ false → say_back (reports_in (line_of word fields ∷ lines)) ≡ false
    → (after_lines comms (line_of word fields ∷ lines)).wave ≡ comms.wave
wave_after_by comms (Call word) fields lines rest none back = absurd (true≢false none)
wave_after_by comms (Report word) fields lines rest none back =
    let parts = neither (says_back (Report word)) (say_back (reports_in lines)) back in
    rest (after_line comms (line_of (Report word) fields)) none parts.1
    ∙ wave_kept_by comms word fields (group_in (line_of (Report word) fields)) parts.0

-- the wave of a last call stays where no report says that it came back
wave_after : (comms : RankComms) (lines : List Line) → has_call lines ≡ false → say_back (reports_in lines) ≡ false → (after_lines comms lines).wave ≡ comms.wave
wave_after comms [] none back = refl
wave_after comms (line ∷ lines) none back = wave_after_by comms line.word line.fields lines (λ it h g. wave_after it lines h g) none back

may_makes : (it : Called) → may_give it ≡ true → makes_comm it ≡ true
may_makes (Splits comm None key) h = refl
may_makes (Splits comm (Some colour) key) h = refl
may_makes it h = h

line_at : (lines : List Line) (n : ℕ) (word : Word) → word_at lines n ≡ Some word → slice_get lines n ≡ Some (line_of word (fields_at lines n))
line_at [] n word e = absurd (cc)
line_at (x ∷ xs) zero word e = let k : x.word ≡ word = cc in ap (λ (w : Word). Some (line_of w x.fields)) k
line_at (x ∷ xs) (suc n) word e = line_at xs n word e

split_at : {A : Type 0} (xs : List A) (n : ℕ) (x : A) → slice_get xs n ≡ Some x → xs ≡ take n xs ++ x ∷ drop (suc n) xs
split_at {A = A} [] n x e = absurd (cc)
split_at {A = A} (y ∷ ys) zero x e = let k : y ≡ x = cc in ap (λ (z : A). z ∷ ys) k
split_at {A = A} (y ∷ ys) (suc n) x e = ap (λ (zs : List A). y ∷ zs) (split_at ys n x e)

pub after_lines_more : (comms : RankComms) (xs ys : List Line) → after_lines comms (xs ++ ys) ≡ after_lines (after_lines comms xs) ys
after_lines_more comms [] ys = refl
after_lines_more comms (x ∷ xs) ys = after_lines_more (after_line comms x) xs ys

pub first_of : {A : Type 0} (o : Option A) → slice_get (as_list o) 0 ≡ o
first_of None = refl
first_of (Some x) = refl

-- the wave of the last call at the end, where that may have given its rank a communicator and never came back
wave_at_end : (comms : RankComms) (lines : List Line) (place : ℕ) (word : CallWord) → word_at lines place ≡ Some (Call word)
    → has_call (drop (suc place) lines) ≡ false → say_back (reports_in (drop (suc place) lines)) ≡ false → may_give (called word (fields_at lines place)) ≡ true
    → (after_lines comms lines).wave ≡ wave_next (after_lines comms (take place lines)) (called word (fields_at lines place))
wave_at_end comms lines place word e none back gives =
    let fields = fields_at lines place in
    let line : Line = line_of (Call word) fields in
    let rest : List Line = drop (suc place) lines in
    let before : RankComms = after_lines comms (take place lines) in
    let makes : makes_comm (called word fields) ≡ true = may_makes (called word fields) gives in
    ap (λ (ls : List Line). (after_lines comms ls).wave) (split_at lines place line (line_at lines place (Call word) e))
    ∙ ap (λ (it : RankComms). it.wave) (after_lines_more comms (take place lines) (line ∷ rest))
    ∙ wave_after (after_line before line) rest none back
    ∙ ap (λ (b : Bool). if b then wave_next before (called word fields) else None) makes

back_parts : (a b c d : Bool) → (a || b || c || d) ≡ false → c ≡ false
back_parts true b c d h = absurd (true≢false h)
back_parts false true c d h = absurd (true≢false h)
back_parts false false true d h = absurd (true≢false h)
back_parts false false false d h = refl

choose : (g b gives came : Bool) (it other : Option Wave) → g ≡ gives → b ≡ came → (g ≡ true → b ≡ false → it ≡ other)
    → (if gives && not came then it else None) ≡ (if g && not b then other else None)
choose true false gives came it other p q h =
    ap (λ (x : Bool). if x && not came then it else None) (sym p) ∙ ap (λ (x : Bool). if not x then it else None) (sym q) ∙ h refl refl
choose true true gives came it other p q h =
    ap (λ (x : Bool). if x && not came then it else None) (sym p) ∙ ap (λ (x : Bool). if not x then it else None) (sym q)
choose false b gives came it other p q h = ap (λ (x : Bool). if x && not came then it else None) (sym p)

-- by what the code asks of the last call
pub last_wait : (rank : ℕ) (journal : Journal) (place : ℕ) (word : CallWord) (came_back gives : Bool) → word_at journal.lines place ≡ Some (Call word)
    → has_call (drop (suc place) journal.lines) ≡ false → came_back ≡ comes_back journal.heading.is_outside word (drop (suc place) journal.lines)
    → gives ≡ may_give (called word (fields_at journal.lines place))
    → slice_get (filter_map waits_for (entries_in rank (Some journal))) 0 ≡ (if gives && not came_back then (comms_after rank journal.lines).wave else None)
last_wait rank journal place word came_back gives e none back may =
    let fields = fields_at journal.lines place in
    let later : List Line = drop (suc place) journal.lines in
    let before : RankComms = after_lines (comms_first rank) (take place journal.lines) in
    let last = last_gives waits_for waits_back rank journal 2 (comms_first rank) journal.lines place word e none in
    ap (λ (ws : List Wave). slice_get ws 0) last.1
    ∙ first_of (waits_for (entry_at rank journal last.0 before word fields later))
    ∙ choose gives came_back (may_give (called word fields)) (comes_back journal.heading.is_outside word later) (wave_next before (called word fields)) (comms_after rank journal.lines).wave may back
    (λ g b. sym (wave_at_end (comms_first rank) journal.lines place word e none
    (back_parts (has_call later) journal.heading.is_outside (say_back (reports_in later)) (comes_always word) (sym back ∙ b)) (sym may ∙ g)))

-- the wave that a rank waits for, by its journal
abbrev pub wait_of : ℕ → Journal → Option Wave
wait_of rank journal = slice_get (filter_map waits_for (entries_in rank (Some journal))) 0

pub plus_one : (n : ℕ) → n + 1 ≡ suc n
plus_one n = omega arith

no_gift : (g b : Bool) (it : Option Wave) → (b ≡ true) ⊎ (g ≡ false) → (if g && not b then it else None) ≡ None
no_gift false b it h = refl
no_gift true true it h = refl
no_gift true false it (inl e) = absurd (true≢false (sym e))
no_gift true false it (inr e) = absurd (true≢false e)

gift : (g b : Bool) (it : Option Wave) → g ≡ true → b ≡ false → (if g && not b then it else None) ≡ it
gift true false it p q = refl
gift false b it p q = absurd (true≢false (sym p))
gift true true it p q = absurd (true≢false q)

last_is : (rank : ℕ) (journal : Journal) (last : LastCall) (word : CallWord) → CameLast journal.lines journal.heading.is_outside last word
    → slice_get (filter_map waits_for (entries_in rank (Some journal))) 0
    ≡ (if gives_at journal.lines last.line && not last.came_back then (comms_after rank journal.lines).wave else None)
last_is rank journal last word it =
    last_wait rank journal last.line word last.came_back (gives_at journal.lines last.line) it.at
    (subst (λ (n : ℕ). has_call (drop n journal.lines) ≡ false) (plus_one last.line) it.none)
    (subst (λ (n : ℕ). last.came_back ≡ comes_back journal.heading.is_outside word (drop n journal.lines)) (plus_one last.line) it.back)
    (ap (λ (o : Option Word). gives_by o (fields_at journal.lines last.line)) it.at)

pub wave_none : (rank : ℕ) (journal : Journal) (last : LastCall) → IsLastCall journal.lines journal.heading.is_outside (Some last)
    → (last.came_back ≡ true) ⊎ (gives_at journal.lines last.line ≡ false) → slice_get (filter_map waits_for (entries_in rank (Some journal))) 0 ≡ None
wave_none rank journal last (word, it) h =
    last_is rank journal last word it ∙ no_gift (gives_at journal.lines last.line) last.came_back (comms_after rank journal.lines).wave h

pub wave_some : (rank : ℕ) (journal : Journal) (last : LastCall) → IsLastCall journal.lines journal.heading.is_outside (Some last)
    → last.came_back ≡ false → gives_at journal.lines last.line ≡ true → slice_get (filter_map waits_for (entries_in rank (Some journal))) 0 ≡ (comms_after rank journal.lines).wave
wave_some rank journal last (word, it) back gives =
    last_is rank journal last word it ∙ gift (gives_at journal.lines last.line) last.came_back (comms_after rank journal.lines).wave gives back

pub no_wait : (rank : ℕ) (journal : Journal) → has_call journal.lines ≡ false → slice_get (filter_map waits_for (entries_in rank (Some journal))) 0 ≡ None
no_wait rank journal none = ap (λ (es : List Placed). slice_get (filter_map waits_for es) 0) (no_entries rank journal 2 (comms_first rank) journal.lines none)

-- ---- What is inferred ----

last_there_by : (word : Word) (fields : List Field) (lines : List Line) (some : Bool) → has_call lines ≡ some
    → (has_call lines ≡ true → (place : ℕ) × (it : CallWord) × (word_at lines place ≡ Some (Call it)) × (has_call (drop (suc place) lines) ≡ false))
    → has_call (line_of word fields ∷ lines) ≡ true
    → (place : ℕ) × (it : CallWord) × (word_at (line_of word fields ∷ lines) place ≡ Some (Call it)) × (has_call (drop (suc place) (line_of word fields ∷ lines)) ≡ false)
last_there_by word fields lines true e rest h = let at = rest e in (suc at.0, at.1, at.2, at.3)
last_there_by (Call word) fields lines false e rest h = (0, word, refl, e)
last_there_by (Report word) fields lines false e rest h = absurd (true≢false (sym h ∙ e))

last_there : (lines : List Line) → has_call lines ≡ true → (place : ℕ) × (word : CallWord) × (word_at lines place ≡ Some (Call word)) × (has_call (drop (suc place) lines) ≡ false)
last_there [] h = absurd (true≢false (sym h))
last_there (line ∷ lines) h = last_there_by line.word line.fields lines (has_call lines) refl (λ g. last_there lines g) h

pub inferred_back : (run : Run) (placed : Placed) → placed.came_back ≡ true → inferred_key run placed ≡ None
inferred_back run placed back = by (may_give placed.called)
  where
    by : (b : Bool) → (if b && not placed.came_back then option_and_then (others_key run placed.rank) (wave_at placed) else None) ≡ None
    by false = refl
    by true = ap (λ (b : Bool). if not b then option_and_then (others_key run placed.rank) (wave_at placed) else None) back

inferred_by_wave : (run : Run) (placed : Placed) → inferred_key run placed ≡ option_and_then (others_key run placed.rank) (waits_for placed)
inferred_by_wave run placed = by (may_give placed.called && not placed.came_back)
  where
    by : (b : Bool) → (if b then option_and_then (others_key run placed.rank) (wave_at placed) else None)
        ≡ option_and_then (others_key run placed.rank) (if b then wave_at placed else None)
    by false = refl
    by true = refl

inferred_some : (run : Run) (rank : ℕ) (journal : Journal) (some : Bool) → has_call journal.lines ≡ some
    → filter_map (inferred_key run) (entries_in rank (Some journal))
    ≡ as_list (option_and_then (others_key run rank) (slice_get (filter_map waits_for (entries_in rank (Some journal))) 0))
inferred_some run rank journal false e =
    let none : entries_in rank (Some journal) ≡ [] = no_entries rank journal 2 (comms_first rank) journal.lines e in
    ap (λ (es : List Placed). filter_map (inferred_key run) es) none
    ∙ sym (ap (λ (es : List Placed). as_list (option_and_then (others_key run rank) (slice_get (filter_map waits_for es) 0))) none)
inferred_some run rank journal true e =
    let at = last_there journal.lines e in
    let place = at.0 in
    let word = at.1 in
    let fields = fields_at journal.lines place in
    let later : List Line = drop (suc place) journal.lines in
    let before : RankComms = after_lines (comms_first rank) (take place journal.lines) in
    let keys = last_gives (inferred_key run) (inferred_back run) rank journal 2 (comms_first rank) journal.lines place word at.2 at.3 in
    let waves = last_gives waits_for waits_back rank journal 2 (comms_first rank) journal.lines place word at.2 at.3 in
    let one : Placed = entry_at rank journal keys.0 before word fields later in
    keys.1
    ∙ ap (λ (o : Option Key). as_list o) (inferred_by_wave run one)
    ∙ sym (ap (λ (ws : List Wave). as_list (option_and_then (others_key run rank) (slice_get ws 0))) waves.1
    ∙ ap (λ (o : Option Wave). as_list (option_and_then (others_key run rank) o)) (first_of (waits_for one)))

-- what is inferred for a rank is of the wave that it waits for
pub inferred_of : (run : Run) (rank : ℕ) (it : Option Journal)
    → filter_map (inferred_key run) (entries_in rank it) ≡ as_list (option_and_then (others_key run rank) (slice_get (filter_map waits_for (entries_in rank it)) 0))
inferred_of run rank None = refl
inferred_of run rank (Some journal) = inferred_some run rank journal (has_call journal.lines) refl
