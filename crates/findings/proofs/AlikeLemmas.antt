-- Two collectives of one kind, of which nothing is found.
use Rattle.std.proofs.Common.{◌≡◌, ℕ, zero, suc, ◌+◌, ◌-◌, ◌<◌, ◌≤◌, true, false, Option, Some, None, List, [], ◌++◌, length, refl, sym, ap, subst, arith}
use Rattle.std.specs.List.{flat_map, range_with_len}
use Rattle.std.specs.Prelude.{unwrap_or, option_and_then}
use Rattle.std.specs.Option.{option_map_or}
use Rattle.std.proofs.lemmas.Option.{none-some}
use Rattle.std.proofs.lemmas.Bool.Decides.{Decides-eqb}
use Rattle.std.proofs.lemmas.Slice.Eq.{bytes_eq-Decides}
use Rattle.std.specs.Str.{bytes_eq}
use Rattle.mpicall.specs.declared.call.Call.{Call}
use Rattle.mpicall.specs.declared.call.Call.TheVariants.{Coll}
use Rattle.mpicall.specs.declared.call.Kind.{Kind}
use Rattle.mpicall.specs.Spelling.{root_of, word_of_call}
use Rattle.mpicall.specs.Word.{text_of}
use Rattle.callstore.specs.Kinds.{kind_of}
use Rattle.findings.specs.declared.finding.wave.Compared.{Compared}
use Rattle.findings.specs.declared.finding.wave.Compared.TheVariants.{Kinds, Roots}
use Rattle.findings.specs.inner.Comparisons.{comparison_of, kind_in}
use Rattle.findings.specs.Places.{call_of_member}
use Rattle.mpigroup.specs.Groups.{Groups, group_of}
use Rattle.callstore.specs.Recordings.{Lists}
use Rattle.findings.specs.Findings.{Comparison, compared as where_both, kind_found, root_found, roots_found, found_of_member, found_in_comm, found_in_waves, waves_in, kinds_of, roots_of, is_wrong_group}

same_text : (text : List ℕ) → bytes_eq text text ≡ true
same_text text = (bytes_eq-Decides text text).1 refl

same_root : (comm wave member : ℕ) (root : Option ℕ) → roots_found comm wave member root root ≡ []
same_root comm wave member None = refl
same_root comm wave member (Some root) = rw ((Decides-eqb root root).1 refl) refl

-- of two calls that are collectives of one kind
same_kind : (compared : Compared) (comm wave member a b : ℕ) (kind : Kind) → comparison_of compared comm wave member (Coll a kind) (Coll b kind) ≡ []
unfolding kind_found root_found
same_kind Kinds comm wave member a b kind = rw (same_text (text_of (word_of_call (Coll a kind)))) refl
same_kind Roots comm wave member a b kind = rw (same_text (text_of (word_of_call (Coll a kind)))) (same_root comm wave member (root_of kind))

-- a call of a kind is a collective
of_kind : (P : Call → Type 0) (call : Call) (kind : Kind) → kind_of call ≡ Some kind → ((comm : ℕ) → P (Coll comm kind)) → P call
of_kind P (Coll comm other) kind e holds =
    let is : other ≡ kind = ap (λ found. unwrap_or found kind) e in
    subst (λ (k : Kind). P (Coll comm k)) (sym is) (holds comm)
of_kind P _ kind e holds = absurd (none-some kind e)

pub alike : (first call : Call) (kind : Kind) → kind_of first ≡ Some kind → kind_of call ≡ Some kind → (compared : Compared) (comm wave member : ℕ) → comparison_of compared comm wave member first call ≡ []
alike first call kind of_first of_call compared comm wave member =
    of_kind (λ (one : Call). comparison_of compared comm wave member one call ≡ []) first kind of_first
    (λ a. of_kind (λ (other : Call). comparison_of compared comm wave member (Coll a kind) other ≡ []) call kind of_call
    (λ b. same_kind compared comm wave member a b kind))

-- of two members' calls
found_alike : (first call : Option Call) (kind : Kind) → option_and_then kind_of first ≡ Some kind → option_and_then kind_of call ≡ Some kind → (compared : Compared) (comm wave member : ℕ) → where_both (comparison_of compared comm wave member) first call ≡ []
found_alike None call kind of_first of_call compared comm wave member = absurd (none-some kind of_first)
found_alike (Some first) None kind of_first of_call compared comm wave member = absurd (none-some kind of_call)
found_alike (Some first) (Some call) kind of_first of_call compared comm wave member = alike first call kind of_first of_call compared comm wave member

pub member_alike : (groups : Groups) (recording : Lists) (comm wave g : ℕ) (kind : Kind) → kind_in groups recording comm wave 0 ≡ Some kind → kind_in groups recording comm wave g ≡ Some kind → (compared : Compared) → found_of_member (comparison_of compared) groups recording comm wave g ≡ []
member_alike groups recording comm wave g kind of_first of_call compared =
    found_alike (call_of_member groups recording comm wave 0) (call_of_member groups recording comm wave g) kind of_first of_call compared comm wave g

-- where nothing is listed of each number
pub nothing_listed : {A : Type 0} (listed : ℕ → List A) (a n : ℕ) → ((j : ℕ) → a ≤ j → j < a + n → listed j ≡ []) → flat_map listed (range_with_len a n) ≡ []
nothing_listed listed a zero each = refl
nothing_listed listed a (suc n) each =
    rw (each a (omega arith) (omega arith), nothing_listed listed (a + 1) n (λ j from to. each j (omega arith) (omega arith))) refl

pub nothing_in_comm : (compare : Comparison) (groups : Groups) (recording : Lists) (comm : ℕ) →
    ((g wave : ℕ) → 1 ≤ g → g < length (group_of groups comm) → wave < waves_in groups recording comm → found_of_member compare groups recording comm wave g ≡ []) →
    found_in_comm compare groups recording comm ≡ []
nothing_in_comm compare groups recording comm each =
    nothing_listed _ 0 (waves_in groups recording comm)
    (λ wave from to. nothing_listed _ 1 (length (group_of groups comm) - 1) (λ g least most. each g wave least (omega arith) (omega (arith, to))))

pub nothing_in_waves : (compare : Comparison) (groups : Groups) (recording : Lists) →
    ((comm : ℕ) → comm < length groups → found_in_comm compare groups recording comm ≡ []) →
    found_in_waves compare groups recording ≡ []
nothing_in_waves compare groups recording each =
    nothing_listed _ 0 (length groups) (λ comm from to. each comm (omega (arith, to)))

pub no_differences : (groups : Groups) (recording : Lists) →
    ((compared : Compared) → found_in_waves (comparison_of compared) groups recording ≡ []) →
    kinds_of groups recording ++ roots_of groups recording ≡ []
unfolding kinds_of roots_of
no_differences groups recording nothing = rw (nothing Kinds, nothing Roots) refl

-- a collective of a kind makes nothing
kind_is_given : (groups : Groups) (recording : Lists) (call : Call) (kind : Kind) (wave : ℕ × ℕ) → kind_of call ≡ Some kind → is_wrong_group groups recording call wave ≡ false
kind_is_given groups recording call kind wave is =
    of_kind (λ (one : Call). is_wrong_group groups recording one wave ≡ false) call kind is (λ comm. refl)

-- so whatever wave it joins has no wrong group by it
pub no_wave_is_wrong : (groups : Groups) (recording : Lists) (call : Call) (kind : Kind) (wave : Option (ℕ × ℕ)) → kind_of call ≡ Some kind → option_map_or (is_wrong_group groups recording call) wave false ≡ false
no_wave_is_wrong groups recording call kind None is = refl
no_wave_is_wrong groups recording call kind (Some wave) is = kind_is_given groups recording call kind wave is
