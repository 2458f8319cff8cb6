-- A run that was read has some ranks, no more than a run may have, and its journals are of a run of so many.
use Rattle.std.proofs.Common.{◌≡◌, ℕ, zero, suc, ◌+◌, ◌-◌, ◌≤◌, ◌==◌, true, Option, Some, None, List, [], ◌∷◌, length, refl, sym, ap, subst, arith, eqb-true}
use Rattle.std.specs.Prelude.{⊤, Result, Ok, Err}
use Rattle.std.specs.List.{range_with_len}
use Rattle.std.specs.Str.{bytes_eq}
use Rattle.std.proofs.lemmas.Bool.{and_parts}
use Rattle.std.proofs.lemmas.Option.{none-some}
use Rattle.journals.specs.Header.{Heading, is_of_run}
use Rattle.journals.specs.Text.{text_of, whole_lines}
use Rattle.journals.specs.Journal.{Journal, Fault}
use Rattle.closing.specs.Entries.{Run, journal_at}
use Rattle.closing.specs.Journals.{journal_of, journal_if, journal_from, journals_from, after_first, run_of}
use Rattle.lawful.proofs.FullFacts.{LinesFull, FitsRanks, JournalFull, journal_full}
use Rattle.lawful.proofs.RunFacts.{put, err_ok, same_Ok}

abbrev OptionFull : ℕ → Option Journal → Type 0
OptionFull ranks None = ⊤
OptionFull ranks (Some journal) = LinesFull ranks journal.lines

abbrev AllFull : ℕ → List (Option Journal) → Type 0
AllFull ranks [] = ⊤
AllFull ranks (journal ∷ run) = OptionFull ranks journal × AllFull ranks run

of_full : (rank : ℕ) (first : Option Heading) (bytes : List ℕ) (journal : Journal) → journal_of rank first bytes ≡ Ok journal → JournalFull first journal
unfolding journal_of
of_full rank first bytes journal is = journal_full rank first (whole_lines (text_of bytes)) journal is

same_ranks : (first heading : Heading) → is_of_run (Some first) heading ≡ true → heading.ranks ≡ first.ranks
same_ranks first heading h = sym (eqb-true first.ranks heading.ranks (and_parts (first.ranks == heading.ranks) (bytes_eq first.run heading.run) h).0)

if_full : (rank : ℕ) (first : Heading) (text : List ℕ) (o : Option Journal) (r : Result Journal Fault) → journal_of rank (Some first) text ≡ r → journal_if rank r ≡ Ok o → OptionFull first.ranks o
if_full rank first text o (Err fault) came h = absurd (err_ok _ o h)
if_full rank first text o (Ok journal) came h =
    let full = of_full rank (Some first) text journal came in
    subst (λ (j : Option Journal). OptionFull first.ranks j) (same_Ok (Some journal) o h)
    (subst (λ (ranks : ℕ). LinesFull ranks journal.lines) (same_ranks first journal.heading full.of_run) full.lines)

from_full : (rank : ℕ) (first : Heading) (text : Option (List ℕ)) (o : Option Journal) → journal_from first rank text ≡ Ok o → OptionFull first.ranks o
from_full rank first None o h = subst (λ (j : Option Journal). OptionFull first.ranks j) (same_Ok None o h) tt
from_full rank first (Some text) o h = if_full rank first text o (journal_of rank (Some first) text) refl h

-- the journals of other ranks: so many, each full
record Others (first : Heading) (count : ℕ) (run : List (Option Journal)) : Type 0 where
  full : AllFull first.ranks run
  many : length run ≡ count

others_full : (first : Heading) (texts : ℕ → Option (List ℕ)) (count rank : ℕ) (run : List (Option Journal)) → journals_from first texts (range_with_len rank count) ≡ Ok run → Others first count run
others_full first texts zero rank run h = subst (λ (r : List (Option Journal)). Others first 0 r) (same_Ok [] run h) (record { full = tt; many = refl })
others_full first texts (suc count) rank run h =
    let parts = put (journal_from first rank (texts rank)) (journals_from first texts (range_with_len (rank + 1) count)) run h in
    let rest = others_full first texts count (rank + 1) parts.others parts.others_are in
    subst (λ (r : List (Option Journal)). Others first (suc count) r) parts.all
    (record { full = (from_full rank first (texts rank) parts.own parts.own_is, rest.full); many = ap suc rest.many })

-- what a run that was read is
pub record RunFull (run : List (Option Journal)) : Type 0 where
  pub fits : FitsRanks (length run)
  pub full : AllFull (length run) run

count_of : (ranks count : ℕ) → 1 ≤ ranks → count ≡ ranks - 1 → suc count ≡ ranks
count_of ranks count some is = omega (arith, some, is)

first_full : (bytes : List ℕ) (texts : ℕ → Option (List ℕ)) (run : List (Option Journal)) (r : Result Journal Fault) → journal_of 0 None bytes ≡ r → after_first r texts ≡ Ok run → RunFull run
first_full bytes texts run (Err fault) came h = absurd (err_ok _ run h)
first_full bytes texts run (Ok journal) came h =
    let parts = put (Ok (Some journal)) (journals_from journal.heading texts (range_with_len 1 (journal.heading.ranks - 1))) run h in
    let own : Some journal ≡ parts.own = same_Ok (Some journal) parts.own parts.own_is in
    let full = of_full 0 None bytes journal came in
    let rest = others_full journal.heading texts (journal.heading.ranks - 1) 1 parts.others parts.others_are in
    let many : suc (length parts.others) ≡ journal.heading.ranks = count_of journal.heading.ranks (length parts.others) full.ranks.0 rest.many in
    let all : AllFull journal.heading.ranks (parts.own ∷ parts.others) = (subst (λ (o : Option Journal). OptionFull journal.heading.ranks o) own full.lines, rest.full) in
    let it : RunFull (parts.own ∷ parts.others) = record {
      fits = subst FitsRanks (sym many) full.ranks;
      full = subst (λ (ranks : ℕ). AllFull ranks (parts.own ∷ parts.others)) (sym many) all;
    } in
    subst RunFull parts.all it

pub run_full : (bytes : List ℕ) (texts : ℕ → Option (List ℕ)) (run : Run) → run_of bytes texts ≡ Ok run → RunFull run
unfolding run_of
run_full bytes texts run h = first_full bytes texts run (journal_of 0 None bytes) refl h

full_at : (ranks : ℕ) (run : List (Option Journal)) (rank : ℕ) (journal : Journal) → AllFull ranks run → journal_at run rank ≡ Some journal → LinesFull ranks journal.lines
full_at ranks [] rank journal all h = absurd (none-some journal h)
full_at ranks (own ∷ run) zero journal all h = subst (λ (o : Option Journal). OptionFull ranks o) h all.0
full_at ranks (own ∷ run) (suc rank) journal all h = full_at ranks run rank journal all.1 h

pub journal_at_full : (run : Run) (rank : ℕ) (journal : Journal) → RunFull run → journal_at run rank ≡ Some journal → LinesFull (length run) journal.lines
journal_at_full run rank journal is h = full_at (length run) run rank journal is.full h
