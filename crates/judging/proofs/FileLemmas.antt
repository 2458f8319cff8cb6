-- The journals that were read one after the other are the run that the files hold.
use Rattle.std.proofs.Common.{◌≡◌, ◌<◌, ◌≤◌, ◌∙◌, ℕ, zero, suc, ◌+◌, ◌-◌, ◌⊎◌, inl, inr, min, Option, Some, None, List, [], ◌∷◌, ◌++◌, length, refl, sym, ap, subst, arith}
use Rattle.std.specs.Prelude.{option_map, IfErr, Result, Ok, Err}
use Rattle.std.specs.Result.{IsErrAnd}
use Rattle.std.specs.List.{range_with_len}
use Rattle.std.proofs.lemmas.List.{append-nil, length-append}
use Rattle.journals.specs.Header.{Heading}
use Rattle.journals.specs.Journal.{Journal, Fault}
use Rattle.journals.specs.JournalAnswers.{fault_in}
use Rattle.journals.specs.declared.fault.JournalFault.{JournalFault}
use Rattle.journals.specs.declared.journal.Journal.{Journal as JournalRead}
use Rattle.journals.specs.declared.limits.TheConstants.{MOST_RANKS}
use Rattle.closing.specs.Entries.{Run}
use Rattle.closing.specs.Journals.{RankFault, journal_of, journal_if, journal_from, put_first, journals_from, after_first, run_of, journal_in, run_in}
use Rattle.judging.specs.JournalTexts.{Known, AreKnown, bytes_in, AreOfFiles, IsItsTurn, IsCutAt, IsFaultOfFiles}
use Rattle.judging.specs.inner.OneJournal.{AnswersOne, first_heading, ranks_by}
use Rattle.judging.proofs.RanksLemmas.{few_ranks}
use Rattle.judging.specs.declared.read.ReadFault.{ReadFault}
use Rattle.judging.specs.declared.read.ReadFault.TheVariants.{Open, Refused, ReadFailed, Memory}

err_ok : {A B : Type 0} (e : B) (x : A) → ◌≡◌ {A = Result A B} (Err e) (Ok x) → ⊥
err_ok e x h = cc

same_Ok : {A B : Type 0} (x y : A) → ◌≡◌ {A = Result A B} (Ok x) (Ok y) → x ≡ y
same_Ok x y h = cc

same_Err : {A B : Type 0} (x y : B) → ◌≡◌ {A = Result A B} (Err x) (Err y) → x ≡ y
same_Err x y h = cc

-- ---- Journals one after the other ----

-- journals before what comes of others
abbrev put_all : Run → Result Run RankFault → Result Run RankFault
put_all [] others = others
put_all (journal ∷ run) others = put_first (Ok journal) (put_all run others)

split_on : (first : Heading) (texts : ℕ → Option (List ℕ)) (count more rank : ℕ) (run : Run) (own : Result (Option Journal) RankFault) (others all : Result Run RankFault) →
    ((rest : Run) → others ≡ Ok rest → all ≡ put_all rest (journals_from first texts (range_with_len (rank + 1 + count) more))) →
    put_first own others ≡ Ok run → put_first own all ≡ put_all run (journals_from first texts (range_with_len (rank + suc count) more))
split_on first texts count more rank run (Err fault) others all rest h = absurd (err_ok fault run h)
split_on first texts count more rank run (Ok o) (Err fault) all rest h = absurd (err_ok fault run h)
split_on first texts count more rank run (Ok o) (Ok others) all rest h =
    let next : rank + 1 + count ≡ rank + suc count = omega arith in
    ap (λ (r : Result Run RankFault). put_first (Ok o) r) (rest others refl)
    ∙ ap (λ (n : ℕ). put_first (Ok o) (put_all others (journals_from first texts (range_with_len n more)))) next
    ∙ ap (λ (r : Run). put_all r (journals_from first texts (range_with_len (rank + suc count) more))) (same_Ok (o ∷ others) run h)

split : (first : Heading) (texts : ℕ → Option (List ℕ)) (count more rank : ℕ) (run : Run) →
    journals_from first texts (range_with_len rank count) ≡ Ok run →
    journals_from first texts (range_with_len rank (count + more)) ≡ put_all run (journals_from first texts (range_with_len (rank + count) more))
split first texts zero more rank run h =
    let place : rank ≡ rank + 0 = omega arith in
    let count : 0 + more ≡ more = omega arith in
    ap (λ (n : ℕ). journals_from first texts (range_with_len rank n)) count
    ∙ ap (λ (n : ℕ). journals_from first texts (range_with_len n more)) place
    ∙ ap (λ (r : Run). put_all r (journals_from first texts (range_with_len (rank + 0) more))) (same_Ok [] run h)
split first texts (suc count) more rank run h =
    let one : suc count + more ≡ suc (count + more) = omega arith in
    ap (λ (n : ℕ). journals_from first texts (range_with_len rank n)) one
    ∙ split_on first texts count more rank run (journal_from first rank (texts rank)) (journals_from first texts (range_with_len (rank + 1) count)) (journals_from first texts (range_with_len (rank + 1) (count + more)))
    (λ rest is. split first texts count more (rank + 1) rest is) h

put_all_ok : (run more : Run) → put_all run (Ok more) ≡ Ok (run ++ more)
put_all_ok [] more = refl
put_all_ok (journal ∷ run) more = ap (λ (r : Result Run RankFault). put_first (Ok journal) r) (put_all_ok run more)

put_all_err : (run : Run) (fault : RankFault) → put_all run (Err fault) ≡ Err fault
put_all_err [] fault = refl
put_all_err (journal ∷ run) fault = ap (λ (r : Result Run RankFault). put_first (Ok journal) r) (put_all_err run fault)

put_fault : (own : Result (Option Journal) RankFault) (others : Result Run RankFault) (fault : RankFault) → put_first own others ≡ Err fault → (own ≡ Err fault) ⊎ (others ≡ Err fault)
put_fault (Err it) others fault h = inl (ap (λ (f : RankFault). Err f) (same_Err it fault h))
put_fault (Ok o) (Err it) fault h = inr h
put_fault (Ok o) (Ok others) fault h = absurd (err_ok fault (o ∷ others) (sym h))

put_own : (o : Option Journal) (others : Result Run RankFault) (fault : RankFault) → put_first (Ok o) others ≡ Err fault → others ≡ Err fault
put_own o (Err it) fault h = h
put_own o (Ok others) fault h = absurd (err_ok fault (o ∷ others) (sym h))

put_all_fault : (run : Run) (others : Result Run RankFault) (fault : RankFault) → put_all run others ≡ Err fault → others ≡ Err fault
put_all_fault [] others fault h = h
put_all_fault (journal ∷ run) others fault h = put_all_fault run others fault (put_own journal (put_all run others) fault h)

own_rank_if : (rank : ℕ) (answer : Result Journal Fault) (fault : RankFault) → journal_if rank answer ≡ Err fault → rank ≡ fault.rank
own_rank_if rank (Ok journal) fault h = absurd (err_ok fault (Some journal) (sym h))
own_rank_if rank (Err it) fault h = ap (λ (f : RankFault). f.rank) (same_Err (record { rank = rank; fault = it }) fault h)

own_rank : (first : Heading) (rank : ℕ) (text : Option (List ℕ)) (fault : RankFault) → journal_from first rank text ≡ Err fault → rank ≡ fault.rank
own_rank first rank None fault h = absurd (err_ok fault None (sym h))
own_rank first rank (Some text) fault h = own_rank_if rank (journal_of rank (Some first) text) fault h

-- the fault of a journal is of its rank or a later one
fault_later : (first : Heading) (texts : ℕ → Option (List ℕ)) (count rank : ℕ) (fault : RankFault) →
    journals_from first texts (range_with_len rank count) ≡ Err fault → rank ≤ fault.rank
fault_later first texts zero rank fault h = absurd (err_ok fault [] (sym h))
fault_later first texts (suc count) rank fault h =
    elim (put_fault (journal_from first rank (texts rank)) (journals_from first texts (range_with_len (rank + 1) count)) fault h) [
      | inl own ↦ omega (arith, own_rank first rank (texts rank) fault own)
      | inr later ↦ omega (arith, fault_later first texts count (rank + 1) fault later)
    ]

-- ---- A run of which some journals were read ----

pub record IsBegun (first : List ℕ) (texts : ℕ → Option (List ℕ)) (run : Run) : Type 0 where
  pub head : Journal
  pub others : Run
  pub all : Some head ∷ others ≡ run
  pub head_is : journal_of 0 None first ≡ Ok head
  pub others_are : journals_from head.heading texts (range_with_len 1 (length others)) ≡ Ok others

run_by : (first : List ℕ) (texts : ℕ → Option (List ℕ)) (head : Journal) → journal_of 0 None first ≡ Ok head →
    run_of first texts ≡ put_first (Ok (Some head)) (journals_from head.heading texts (range_with_len 1 (head.heading.ranks - 1)))
unfolding run_of
run_by first texts head is = ap (λ (r : Result Journal Fault). after_first r texts) is

begins_with : (first : List ℕ) (texts : ℕ → Option (List ℕ)) (head : Journal) → journal_of 0 None first ≡ Ok head → IsBegun first texts (Some head ∷ [])
begins_with first texts head is = record { head = head; others = []; all = refl; head_is = is; others_are = refl }

pub length_snoc : {A : Type 0} (xs : List A) (x : A) → length (xs ++ x ∷ []) ≡ length xs + 1
length_snoc xs x = length-append xs (x ∷ [])

goes_on : (first : List ℕ) (texts : ℕ → Option (List ℕ)) (run : Run) (begun : IsBegun first texts run) (own : Option Journal) →
    journal_from begun.head.heading (length run) (texts (length run)) ≡ Ok own → IsBegun first texts (run ++ own ∷ [])
goes_on first texts run begun own is =
    let count : length run ≡ 1 + length begun.others = omega (arith, ap (λ (r : Run). length r) begun.all) in
    let one : journals_from begun.head.heading texts (range_with_len (1 + length begun.others) 1) ≡ Ok (own ∷ []) =
    subst (λ (n : ℕ). put_first (journal_from begun.head.heading n (texts n)) (Ok []) ≡ Ok (own ∷ [])) count
    (ap (λ (a : Result (Option Journal) RankFault). put_first a (Ok [])) is) in
    let others : journals_from begun.head.heading texts (range_with_len 1 (length begun.others + 1)) ≡ Ok (begun.others ++ own ∷ []) =
    split begun.head.heading texts (length begun.others) 1 1 begun.others begun.others_are
    ∙ ap (put_all begun.others) one ∙ put_all_ok begun.others (own ∷ []) in
    record {
      head = begun.head;
      others = begun.others ++ own ∷ [];
      all = ap (λ (r : Run). r ++ own ∷ []) begun.all;
      head_is = begun.head_is;
      others_are = subst (λ (n : ℕ). journals_from begun.head.heading texts (range_with_len 1 n) ≡ Ok (begun.others ++ own ∷ [])) (sym (length_snoc begun.others own)) others;
    }

-- so many journals are still to come
run_from : (first : List ℕ) (texts : ℕ → Option (List ℕ)) (run : Run) (begun : IsBegun first texts run) (more : ℕ) → length run + more ≡ begun.head.heading.ranks →
    run_of first texts ≡ put_all run (journals_from begun.head.heading texts (range_with_len (length run) more))
run_from first texts run begun more ranks =
    run_by first texts begun.head begun.head_is
    ∙ ap (λ (n : ℕ). put_first (Ok (Some begun.head)) (journals_from begun.head.heading texts (range_with_len 1 n))) count
    ∙ ap (λ (r : Result Run RankFault). put_first (Ok (Some begun.head)) r) (split begun.head.heading texts (length begun.others) more 1 begun.others begun.others_are)
    ∙ ap (λ (n : ℕ). put_all (Some begun.head ∷ begun.others) (journals_from begun.head.heading texts (range_with_len n more))) place
    ∙ ap (λ (r : Run). put_all r (journals_from begun.head.heading texts (range_with_len (length run) more))) begun.all
  where
    place : 1 + length begun.others ≡ length run
    place = omega (arith, ap (λ (r : Run). length r) begun.all)

    count : begun.head.heading.ranks - 1 ≡ length begun.others + more
    count = omega (arith, place, ranks)

first_refused : (first : List ℕ) (texts : ℕ → Option (List ℕ)) (fault : Fault) → journal_of 0 None first ≡ Err fault → run_of first texts ≡ Err (record { rank = 0; fault = fault })
unfolding run_of
first_refused first texts fault is = ap (λ (r : Result Journal Fault). after_first r texts) is

run_whole : (first : List ℕ) (texts : ℕ → Option (List ℕ)) (run : Run) (begun : IsBegun first texts run) → length run ≡ begun.head.heading.ranks → run_of first texts ≡ Ok run
run_whole first texts run begun ranks =
    run_from first texts run begun 0 (omega (arith, ranks)) ∙ put_all_ok run [] ∙ ap (λ (r : Run). Ok r) (append-nil run)

run_refused : (first : List ℕ) (texts : ℕ → Option (List ℕ)) (run : Run) (begun : IsBegun first texts run) (fault : RankFault) → length run < begun.head.heading.ranks →
    journal_from begun.head.heading (length run) (texts (length run)) ≡ Err fault → run_of first texts ≡ Err fault
run_refused first texts run begun fault within is =
    run_from first texts run begun (suc (begun.head.heading.ranks - length run - 1)) (omega (arith, within))
    ∙ ap (λ (a : Result (Option Journal) RankFault). put_all run (put_first a (journals_from begun.head.heading texts (range_with_len (length run + 1) (begun.head.heading.ranks - length run - 1))))) is
    ∙ put_all_err run fault

run_turn : (first : List ℕ) (texts : ℕ → Option (List ℕ)) (run : Run) (begun : IsBegun first texts run) (fault : RankFault) → length run ≤ begun.head.heading.ranks →
    run_of first texts ≡ Err fault → length run ≤ fault.rank
run_turn first texts run begun fault within is =
    fault_later begun.head.heading texts (begun.head.heading.ranks - length run) (length run) fault
    (put_all_fault run (journals_from begun.head.heading texts (range_with_len (length run) (begun.head.heading.ranks - length run))) fault
    (sym (run_from first texts run begun (begun.head.heading.ranks - length run) (omega (arith, within))) ∙ is))

-- ---- What was read of known files ----

-- the journals that were read so far are the first ones of the run that the files hold
pub record AreBegun (known : Known) (journals : List (Option JournalRead)) : Type 0 where
  pub head : (first : List ℕ) → known 0 ≡ Some (Some first) → (it : Journal) × (first_heading journals ≡ Some it.heading) × (journal_of 0 None first ≡ Ok it)
  pub run : (first : List ℕ) (texts : ℕ → Option (List ℕ)) → AreKnown known (length journals) first texts → IsBegun first texts (run_in journals)

one_said : (rank : ℕ) (known : Known) (first : Heading) (texts : ℕ → Option (List ℕ)) (journal : Option JournalRead) → 0 < rank → known rank ≡ Some (texts rank) →
    AnswersOne (known rank) rank (Some first) (Ok journal) → journal_from first rank (texts rank) ≡ Ok (option_map journal_in journal)
one_said rank known first texts journal later is answers = by (texts rank) (subst (λ (k : Option (Option (List ℕ))). AnswersOne k rank (Some first) (Ok journal)) is answers)
  where
    by : (text : Option (List ℕ)) → AnswersOne (Some text) rank (Some first) (Ok journal) → journal_from first rank text ≡ Ok (option_map journal_in journal)
    by None answers = ap (λ (j : Option JournalRead). Ok (option_map journal_in j)) (sym (answers.1 refl later))
    by (Some text) answers = answers.0

one_refused : (rank : ℕ) (known : Known) (first : Heading) (texts : ℕ → Option (List ℕ)) (other : ℕ) (fault : JournalFault) → 0 < rank → known rank ≡ Some (texts rank) →
    AnswersOne (known rank) rank (Some first) (Err (Refused other fault)) → journal_from first rank (texts rank) ≡ Err (record { rank = rank; fault = fault_in fault })
one_refused rank known first texts other fault later is answers = by (texts rank) (subst (λ (k : Option (Option (List ℕ))). AnswersOne k rank (Some first) (Err (Refused other fault))) is answers)
  where
    by : (text : Option (List ℕ)) → AnswersOne (Some text) rank (Some first) (Err (Refused other fault)) → journal_from first rank text ≡ Err (record { rank = rank; fault = fault_in fault })
    by None answers = absurd (answers.2 refl later)
    by (Some text) answers = answers.1

known_fewer : (known : Known) (ranks more : ℕ) (first : List ℕ) (texts : ℕ → Option (List ℕ)) → ranks ≤ more → AreKnown known more first texts → AreKnown known ranks first texts
known_fewer known ranks more first texts fewer are = record {
  first_is = λ some. are.first_is (omega (arith, fewer, some));
  others_are = λ rank later within. are.others_are rank later (omega (arith, fewer, within));
}

length_in : (journals : List (Option JournalRead)) → length (run_in journals) ≡ length journals
length_in [] = refl
length_in (j ∷ journals) = ap suc (length_in journals)

in_snoc : (journals : List (Option JournalRead)) (own : Option JournalRead) → run_in journals ++ option_map journal_in own ∷ [] ≡ run_in (journals ++ own ∷ [])
in_snoc [] own = refl
in_snoc (j ∷ journals) own = ap (λ (r : Run). option_map journal_in j ∷ r) (in_snoc journals own)

-- the header of the first journal is that of the run
heading_is : (first : List ℕ) (texts : ℕ → Option (List ℕ)) (journals : List (Option JournalRead)) (begun : IsBegun first texts (run_in journals)) → first_heading journals ≡ Some begun.head.heading
heading_is first texts [] begun = absurd (none_some begun.all)
  where
    none_some : Some begun.head ∷ begun.others ≡ [] → ⊥
    none_some h = cc
heading_is first texts (None ∷ journals) begun = absurd (other begun.all)
  where
    other : Some begun.head ∷ begun.others ≡ None ∷ run_in journals → ⊥
    other h = cc
heading_is first texts (Some journal ∷ journals) begun = ap (λ (j : Journal). Some j.heading) (same begun.all)
  where
    same : Some begun.head ∷ begun.others ≡ Some (journal_in journal) ∷ run_in journals → journal_in journal ≡ begun.head
    same h = cc

no_first : (answer : Result Journal Fault) → journal_if 0 answer ≡ Ok None → ⊥
no_first (Ok journal) h = cc
no_first (Err fault) h = cc

is_first : (answer : Result Journal Fault) (journal : Journal) → journal_if 0 answer ≡ Ok (Some journal) → answer ≡ Ok journal
is_first (Ok other) journal h = cc
is_first (Err fault) journal h = cc

-- the first journal
pub first_read : (known : Known) (journal : Option JournalRead) → AnswersOne (known 0) 0 None (Ok journal) → AreBegun known (journal ∷ [])
first_read known None answers = record {
  head = λ first is. absurd (no_first (journal_of 0 None first) (subst (λ (k : Option (Option (List ℕ))). AnswersOne k 0 None (Ok None)) is answers).0);
  run = λ first texts are. absurd (no_first (journal_of 0 None first) (subst (λ (k : Option (Option (List ℕ))). AnswersOne k 0 None (Ok None)) (are.first_is (omega arith)) answers).0);
}
first_read known (Some journal) answers = record {
  head = λ first is. (journal_in journal, refl, is_first (journal_of 0 None first) (journal_in journal) (subst (λ (k : Option (Option (List ℕ))). AnswersOne k 0 None (Ok (Some journal))) is answers).0);
  run = λ first texts are. begins_with first texts (journal_in journal)
      (is_first (journal_of 0 None first) (journal_in journal) (subst (λ (k : Option (Option (List ℕ))). AnswersOne k 0 None (Ok (Some journal))) (are.first_is (omega arith)) answers).0);
}

heading_more : (journals : List (Option JournalRead)) (own : Option JournalRead) (heading : Heading) → first_heading journals ≡ Some heading → first_heading (journals ++ own ∷ []) ≡ Some heading
heading_more [] own heading is = cc
heading_more (None ∷ journals) own heading is = cc
heading_more (Some journal ∷ journals) own heading is = is

-- a further journal is not the first one
pub heading_kept : (journals : List (Option JournalRead)) (own : Option JournalRead) → 0 < length journals → first_heading (journals ++ own ∷ []) ≡ first_heading journals
heading_kept [] own some = absurd (omega (arith, some))
heading_kept (None ∷ journals) own some = refl
heading_kept (Some journal ∷ journals) own some = refl

-- a further one
pub next_read : (known : Known) (journals : List (Option JournalRead)) (rank : ℕ) (own : Option JournalRead) → rank ≡ length journals → 0 < rank → AreBegun known journals →
    AnswersOne (known rank) rank (first_heading journals) (Ok own) → AreBegun known (journals ++ own ∷ [])
next_read known journals rank own place later begun answers = record {
  head = λ first is. let it = begun.head first is in (it.0, heading_more journals own it.0.heading it.1, it.2);
  run = λ first texts are.
      let many : length (journals ++ own ∷ []) ≡ rank + 1 = omega (arith, place, length_snoc journals own) in
      let so_far = begun.run first texts (known_fewer known (length journals) (length (journals ++ own ∷ [])) first texts (omega (arith, place, many)) are) in
      let one = one_said rank known so_far.head.heading texts own later (are.others_are rank later (omega (arith, many)))
      (subst (λ (h : Option Heading). AnswersOne (known rank) rank h (Ok own)) (heading_is first texts journals so_far) answers) in
      let there = subst (λ (n : ℕ). journal_from so_far.head.heading n (texts n) ≡ Ok (option_map journal_in own)) (place ∙ sym (length_in journals)) one in
      subst (λ (r : Run). IsBegun first texts r) (in_snoc journals own) (goes_on first texts (run_in journals) so_far (option_map journal_in own) there);
}

ranks_are : (first : List ℕ) (texts : ℕ → Option (List ℕ)) (journals : List (Option JournalRead)) (begun : IsBegun first texts (run_in journals)) →
    ranks_by (first_heading journals) ≡ begun.head.heading.ranks
ranks_are first texts journals begun =
    ap ranks_by (heading_is first texts journals begun) ∙ least
  where
    least : min begun.head.heading.ranks MOST_RANKS ≡ begun.head.heading.ranks
    least = omega (arith, (few_ranks first begun.head begun.head_is).1)

-- ---- How many journals a run has ----

put_ok : (own : Result (Option Journal) RankFault) (others : Result Run RankFault) (run : Run) → put_first own others ≡ Ok run → (o : Option Journal) × (rest : Run) × (others ≡ Ok rest) × (o ∷ rest ≡ run)
put_ok (Err fault) others run h = absurd (err_ok fault run h)
put_ok (Ok o) (Err fault) run h = absurd (err_ok fault run h)
put_ok (Ok o) (Ok rest) run h = (o, rest, refl, same_Ok (o ∷ rest) run h)

from_length : (first : Heading) (texts : ℕ → Option (List ℕ)) (count rank : ℕ) (run : Run) → journals_from first texts (range_with_len rank count) ≡ Ok run → length run ≡ count
from_length first texts zero rank run h = ap (λ (r : Run). length r) (sym (same_Ok [] run h))
from_length first texts (suc count) rank run h =
    let parts = put_ok (journal_from first rank (texts rank)) (journals_from first texts (range_with_len (rank + 1) count)) run h in
    ap (λ (r : Run). length r) (sym parts.3) ∙ ap suc (from_length first texts count (rank + 1) parts.1 parts.2)

run_length : (first : List ℕ) (texts : ℕ → Option (List ℕ)) (head : Journal) (run : Run) → journal_of 0 None first ≡ Ok head → run_of first texts ≡ Ok run → length run ≡ head.heading.ranks
run_length first texts head run is read =
    let parts = put_ok (Ok (Some head)) (journals_from head.heading texts (range_with_len 1 (head.heading.ranks - 1))) run (sym (run_by first texts head is) ∙ read) in
    let many : length parts.1 ≡ head.heading.ranks - 1 = from_length head.heading texts (head.heading.ranks - 1) 1 parts.1 parts.2 in
    let all : length run ≡ suc (length parts.1) = ap (λ (r : Run). length r) (sym parts.3) in
    omega (arith, many, all, (few_ranks first head is).0)

pub few_by : (heading : Option Heading) → ranks_by heading ≤ MOST_RANKS
few_by None = omega arith
few_by (Some heading) = omega arith

-- all were read
pub all_read : (known : Known) (journals : List (Option JournalRead)) → 1 ≤ length journals → length journals ≤ MOST_RANKS →
    (1 ≤ ranks_by (first_heading journals) → length journals ≡ ranks_by (first_heading journals)) → AreBegun known journals → AreOfFiles known journals
all_read known journals some few many begun = record {
  run = λ first texts are.
      let so_far = begun.run first texts are in
      let ranks = ranks_are first texts journals so_far in
      let all = many (omega (arith, ranks, (few_ranks first so_far.head so_far.head_is).0)) in
      run_whole first texts (run_in journals) so_far (length_in journals ∙ all ∙ ranks);
  as_many = λ first texts run is read.
      let it = begun.head first is in
      let ranks : ranks_by (first_heading journals) ≡ it.0.heading.ranks = ap ranks_by it.1 ∙ omega (arith, (few_ranks first it.0 it.2).1) in
      let all = many (omega (arith, ranks, (few_ranks first it.0 it.2).0)) in
      all ∙ ranks ∙ sym (run_length first texts it.0 run it.2 read);
  few = few;
}

refused_first : (answer : Result Journal Fault) (fault : Fault) → journal_if 0 answer ≡ Err (record { rank = 0; fault = fault }) → answer ≡ Err fault
refused_first (Ok journal) fault h = absurd (err_ok _ (Some journal) (sym h))
refused_first (Err it) fault h = ap (λ (f : RankFault). Err f.fault) (same_Err (record { rank = 0; fault = it }) (record { rank = 0; fault = fault }) h)

-- one has a fault
pub first_fault : (known : Known) (fault : ReadFault) → AnswersOne (known 0) 0 None (Err fault) → IsFaultOfFiles known fault
first_fault known (Open other) answers =
    subst (λ (r : ℕ). (bytes_in (known r) ≡ None) × (0 < r → known r ≡ None) × IsItsTurn known r) (sym answers.0)
    (answers.1, (λ later. absurd (omega (arith, later))), λ first texts fault are is. omega arith)
first_fault known (Refused other fault) answers =
    subst (λ (r : ℕ). (first : List ℕ) (texts : ℕ → Option (List ℕ)) → AreKnown known (r + 1) first texts → run_of first texts ≡ Err (record { rank = r; fault = fault_in fault })) (sym answers.0)
    (λ first texts are. first_refused first texts (fault_in fault)
    (refused_first (journal_of 0 None first) (fault_in fault) (subst (λ (k : Option (Option (List ℕ))). AnswersOne k 0 None (Err (Refused other fault))) (are.first_is (omega arith)) answers).1))
first_fault known (ReadFailed other line) answers =
    subst (λ (r : ℕ). ((count : ℕ) × (line ≡ 1 + count) × IsCutAt known r count) × IsItsTurn known r) (sym answers.0)
    (answers.1, λ first texts fault are is. omega arith)
first_fault known Memory answers = tt

-- the fault of a rank after the first
module _ (known : Known) (journals : List (Option JournalRead)) (rank : ℕ) (place : rank ≡ length journals) (later : 0 < rank) (within : rank < ranks_by (first_heading journals)) (begun : AreBegun known journals) where
  its_turn : IsItsTurn known rank
  its_turn first texts fault are is =
      let so_far = begun.run first texts (known_fewer known (length journals) rank first texts (omega (arith, place)) are) in
      let ranks = ranks_are first texts journals so_far in
      let many = length_in journals in
      let turn = run_turn first texts (run_in journals) so_far fault (omega (arith, many, place, within, ranks)) is in
      omega (arith, turn, many, place)

  pub next_fault : (fault : ReadFault) → AnswersOne (known rank) rank (first_heading journals) (Err fault) → IsFaultOfFiles known fault
  next_fault (Open other) answers =
      subst (λ (r : ℕ). (bytes_in (known r) ≡ None) × (0 < r → known r ≡ None) × IsItsTurn known r) (sym answers.0)
      (answers.1, answers.2, its_turn)
  next_fault (Refused other fault) answers =
      subst (λ (r : ℕ). (first : List ℕ) (texts : ℕ → Option (List ℕ)) → AreKnown known (r + 1) first texts → run_of first texts ≡ Err (record { rank = r; fault = fault_in fault })) (sym answers.0)
      (λ first texts are.
      let so_far = begun.run first texts (known_fewer known (length journals) (rank + 1) first texts (omega (arith, place)) are) in
      let ranks = ranks_are first texts journals so_far in
      let many : rank ≡ length (run_in journals) = place ∙ sym (length_in journals) in
      let one = one_refused rank known so_far.head.heading texts other fault later (are.others_are rank later (omega arith))
      (subst (λ (h : Option Heading). AnswersOne (known rank) rank h (Err (Refused other fault))) (heading_is first texts journals so_far) answers) in
      run_refused first texts (run_in journals) so_far (record { rank = rank; fault = fault_in fault }) (omega (arith, many, within, ranks))
      (subst (λ (n : ℕ). journal_from so_far.head.heading n (texts n) ≡ Err (record { rank = rank; fault = fault_in fault })) many one))
  next_fault (ReadFailed other line) answers =
      subst (λ (r : ℕ). ((count : ℕ) × (line ≡ 1 + count) × IsCutAt known r count) × IsItsTurn known r) (sym answers.0)
      (answers.1, its_turn)
  next_fault Memory answers = tt

-- what `?` answers
pub fault_answered : {A : Type 0} (answer : Result A ReadFault) (known : Known) (fault : ReadFault) → IsErrAnd answer (λ e. e ≡ fault) → IsFaultOfFiles known fault → IfErr answer (IsFaultOfFiles known)
fault_answered (Ok x) known fault same is = tt
fault_answered (Err it) known fault same is = subst (λ (f : ReadFault). IsFaultOfFiles known f) (sym same) is
