-- How texts that are printed one after another add up.
use Rattle.std.proofs.Common.{◌≡◌, ℕ, suc, ◌+◌, ◌<◌, min, Bool, true, false, Option, List, [], ◌∷◌, ◌++◌, length, get_or, take, flat_map, map, sym, ap, ◌∙◌, append_assoc, append-nil, arith}
use Rattle.std.specs.Io.KnownBytes.{Appends}
use Rattle.std.specs.Fmt.{decimal}
use Rattle.std.specs.List.{join_with_byte}
use Rattle.std.specs.Prelude.{Result, Ok, Err, OnOk, OnErr, is_err, codes}
use Rattle.std.proofs.KnownBytes.{Appends-trans}
use Rattle.std.proofs.Math.Seq.{take-suc, take-append-add}
use Rattle.std.proofs.lemmas.Grind.{flat_map-append}
use Rattle.std.proofs.lemmas.List.{take-append-le, take_min}
use Rattle.mpicall.specs.Device.{one_more, AppendsBeginning, CountsFailure}
use Rattle.mpicall.specs.Spelling.{space, line_feed}
use Rattle.waitgraph.specs.Causes.{CycleOf}
use Rattle.report.specs.TextReport.{cause_line}
use Rattle.report.specs.inner.Printing.{IsPrinted, KeepsPrinted, Prints}
use Rattle.report.specs.declared.write.printer.Printer.{Printer}

-- a prefix of a text is one of a longer text
begins_longer : (a b : Option (List ℕ)) (xs ys : List ℕ) → AppendsBeginning a b xs → AppendsBeginning a b (xs ++ ys)
begins_longer a b xs ys fault =
    let n = min fault.0 (length xs) in
    let same : take n (xs ++ ys) ≡ take fault.0 xs = take-append-le n xs ys (omega arith) ∙ take_min fault.0 xs in
    (n, rw same fault.1)

-- what is put on the page is printed
printed_push : (failed : Bool) (begun : Option (List ℕ)) (count : ℕ) (before : List ℕ) (written : Option (List ℕ)) (failures : ℕ) (waits text : List ℕ) →
    IsPrinted failed begun count before written failures waits → IsPrinted failed begun count (before ++ text) written failures (waits ++ text)
printed_push false begun count before written failures waits text h = (
  record {
    given = h.0.given;
    went = h.0.went;
    none_is_lost = ap (λ (bytes : List ℕ). bytes ++ text) h.0.none_is_lost ∙ append_assoc h.0.given waits text;
  },
  h.1,
)
printed_push true begun count before written failures waits text h = (begins_longer begun written before text h.0, h.1)

pub prints_pushed : {O : Type 0} (written : O → Option (List ℕ)) (failures : O → ℕ) (a b : O) (p q : Printer) (page text : List ℕ) →
    KeepsPrinted written failures a p b q → page ≡ q.page ++ text → Prints written failures a p b (record { page = page; failed = q.failed }) text
prints_pushed written failures a b p q page text keeps put begun count before h =
    rw put (printed_push q.failed begun count before (written b) (failures b) q.page text (keeps begun count before h))

-- nothing is printed
pub prints_none : {O : Type 0} (written : O → Option (List ℕ)) (failures : O → ℕ) (a : O) (p : Printer) → Prints written failures a p a p []
prints_none written failures a p begun count before h = rw append-nil h

-- one text and then another
pub prints_more : {O : Type 0} (written : O → Option (List ℕ)) (failures : O → ℕ) (a b c : O) (p q r : Printer) (xs ys : List ℕ) →
    Prints written failures a p b q xs → Prints written failures b q c r ys → Prints written failures a p c r (xs ++ ys)
prints_more written failures a b c p q r xs ys first next begun count before h =
    rw append_assoc at (next begun count (before ++ xs) (first begun count before h))

-- the text of one more element of a list
pub prints_next : {A O : Type 0} (written : O → Option (List ℕ)) (failures : O → ℕ) (text : A → List ℕ) (xs : List A) (i : ℕ) (x d : A) (a b c : O) (p q r : Printer) →
    i < length xs → x ≡ get_or xs i d → Prints written failures a p b q (flat_map text (take i xs)) → Prints written failures b q c r (text x) →
    Prints written failures a p c r (flat_map text (take (i + 1) xs))
prints_next written failures text xs i x d a b c p q r within is told next =
    rw texts_more (prints_more written failures a b c p q r (flat_map text (take i xs)) (text x) told next)
  where
    texts_more : flat_map text (take (i + 1) xs) ≡ flat_map text (take i xs) ++ text x
    texts_more =
        let one : i + 1 ≡ suc i = omega arith in
        rw (one, take-suc xs i d within, is) (flat_map-append text (take i xs) (get_or xs i d ∷ []) ∙ ap (λ (zs : List ℕ). flat_map text (take i xs) ++ zs) (append-nil (text (get_or xs i d))))

-- the ranks of a cycle are joined after its word
pub ranks_joined : (word : List ℕ) (ranks : List ℕ) → join_with_byte space (word ∷ map decimal ranks) ≡ word ++ flat_map (λ rank. space ∷ decimal rank) ranks
ranks_joined word [] = sym (append-nil word)
ranks_joined word (rank ∷ ranks) = ap (λ (bytes : List ℕ). word ++ space ∷ bytes) (ranks_joined (decimal rank) ranks)

-- the line of a cycle by its three parts
pub prints_cycle : {O : Type 0} (written : O → Option (List ℕ)) (failures : O → ℕ) (a b c d : O) (p q r s : Printer) (ranks : List ℕ) →
    Prints written failures a p b q (codes "cycle") → Prints written failures b q c r (flat_map (λ rank. space ∷ decimal rank) ranks) → Prints written failures c r d s (line_feed ∷ []) →
    Prints written failures a p d s (cause_line (CycleOf ranks))
prints_cycle written failures a b c d p q r s ranks first next last =
    rw (ranks_joined (codes "cycle") ranks)
    (prints_more written failures a c d p r s (codes "cycle" ++ flat_map (λ rank. space ∷ decimal rank) ranks) (line_feed ∷ [])
    (prints_more written failures a b c p q r (codes "cycle") (flat_map (λ rank. space ∷ decimal rank) ranks) first next) last)

-- what waited is with the output, unless that failed
pub printed_given : {T E : Type 0} (begun : Option (List ℕ)) (count : ℕ) (text : List ℕ) (old new : Option (List ℕ)) (failures later : ℕ) (waits : List ℕ) (result : Result T E) →
    OnOk result (Appends old new waits) → OnErr result (AppendsBeginning old new waits) → CountsFailure failures later result →
    IsPrinted false begun count text old failures waits → IsPrinted (is_err result) begun count text new later []
printed_given begun count text old new failures later waits (Ok _) went fault counts h = (
  record {
    given = text;
    went = rw h.0.none_is_lost (Appends-trans begun old new h.0.given waits h.0.went went);
    none_is_lost = sym (append-nil text);
  },
  counts ∙ h.1,
)
printed_given begun count text old new failures later waits (Err _) went fault counts h =
    let n = length h.0.given + fault.0 in
    let same : take n text ≡ h.0.given ++ take fault.0 waits = ap (λ (all : List ℕ). take n all) h.0.none_is_lost ∙ take-append-add h.0.given waits fault.0 in
    ((n, rw same (Appends-trans begun old new h.0.given (take fault.0 waits) h.0.went fault.1)), counts ∙ ap one_more h.1)

-- where nothing waits any more, all of the text is with the output
pub printed_all : (begun : Option (List ℕ)) (count : ℕ) (text : List ℕ) (written : Option (List ℕ)) (failures : ℕ) → IsPrinted false begun count text written failures [] → Appends begun written text × (failures ≡ count)
printed_all begun count text written failures h = (rw (h.0.none_is_lost, append-nil) h.0.went, h.1)
