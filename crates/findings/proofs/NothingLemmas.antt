-- Recordings of which nothing is found.
use Rattle.std.proofs.Common.{◌≡◌, ◌≢◌, ℕ, zero, suc, ◌+◌, ◌<◌, ◌≤◌, ◌==◌, Bool, true, false, not, ◌&&◌, ◌||◌, Option, Some, None, List, [], ◌++◌, append-nil, length, refl, sym, ap, ◌∙◌, ⊎_elim, arith}
use Rattle.std.specs.Prelude.{is_some, is_none}
use Rattle.std.specs.List.{list_any, range_with_len}
use Rattle.std.specs.Option.{option_and_then, option_map_or}
use Rattle.std.proofs.lemmas.Bool.{false≢true, cases_eq, cases_Bool, and_parts, eqb-true, eq-eqb, ne_eqb}
use Rattle.std.proofs.lemmas.Option.{none-some, same_Some, slice_get_within}
use Rattle.mpicall.specs.declared.call.Call.{Call}
use Rattle.mpicall.specs.declared.call.Call.TheVariants.{Dup, Split}
use Rattle.mpigroup.specs.Groups.{Groups}
use Rattle.callstore.specs.declared.envelope.Half.TheVariants.{Send as SendHalf}
use Rattle.callstore.specs.declared.envelope.Message.{Message}
use Rattle.callstore.specs.Communicators.{makes, NoneIsMade}
use Rattle.pairing.specs.Faults.{IsLawful}
use Rattle.pairing.specs.Partners.{partner_of, sent_at, EachIsReceived}
use Rattle.callstore.specs.Recordings.{Lists, calls_of}
use Rattle.callstore.specs.Requests.{starts, does_start, does_complete, started_in, started_before}
use Rattle.callstore.specs.Waves.{wave_of}
use Rattle.callstore.proofs.OptionLemmas.{and_then_parts}
use Rattle.pairing.proofs.RequestLaws.{start_is_completed, completed_is_over}
use Rattle.findings.specs.declared.finding.Finding.{Finding}
use Rattle.findings.specs.Places.{call_at, over_places, over_ranks}
use Rattle.findings.specs.Findings.{is_unreceived, unreceived_at, unreceived_of, completes_start, is_completed, lost_at, is_wrong_group, is_wrong_at, group_at, wrong_groups_of}
use Rattle.findings.proofs.AlikeLemmas.{nothing_listed}
use Rattle.pairing.proofs.RankLemmas.{calls_past}

-- where nothing is listed of each place
nothing_of_rank : {A : Type 0} (listed : ℕ → List A) (recording : Lists) (rank : ℕ) → ((place : ℕ) → place < length (calls_of recording rank) → listed place ≡ []) → over_places listed recording rank ≡ []
nothing_of_rank listed recording rank each = nothing_listed listed 0 (length (calls_of recording rank)) (λ place from to. each place (omega (arith, to)))

nothing_of_ranks : {A : Type 0} (listed : ℕ → ℕ → List A) (recording : Lists) → ((rank place : ℕ) → listed rank place ≡ []) → over_ranks listed recording ≡ []
nothing_of_ranks listed recording each =
    nothing_listed (λ rank. over_places (listed rank) recording rank) 0 (length recording)
    (λ rank from to. nothing_of_rank (listed rank) recording rank (λ place within. each rank place))

-- Messages that are received.
not_none : {A : Type 0} (o : Option A) → is_some o ≡ true → is_none o ≡ false
not_none None h = sym h
not_none (Some x) h = refl

received_here : (groups : Groups) (recording : Lists) (rank place : ℕ) → EachIsReceived groups recording → is_unreceived groups recording rank place ≡ false
received_here groups recording rank place each = by_sent (sent_at recording rank place) refl
  where
    by_sent : (o : Option Message) → sent_at recording rank place ≡ o → is_unreceived groups recording rank place ≡ false
    by_sent None is = rw is refl
    by_sent (Some message) is = rw (is, not_none (partner_of groups recording rank place SendHalf) (each rank place (ap is_some is))) refl

pub none_unreceived : (groups : Groups) (recording : Lists) (found : List Finding) → EachIsReceived groups recording → found ≡ found ++ unreceived_of groups recording
unfolding unreceived_of unreceived_at
none_unreceived groups recording found each =
    rw (nothing_of_ranks (unreceived_at groups recording) recording (λ rank place. rw (received_here groups recording rank place each) refl)) (sym (append-nil found))

-- Requests that are completed.
or_true : (b : Bool) → (b || true) ≡ true
or_true true = refl
or_true false = refl

any_in_range : (test : ℕ → Bool) (a n j : ℕ) → a ≤ j → j < a + n → test j ≡ true → list_any test (range_with_len a n) ≡ true
any_in_range test a zero j from to passes = absurd (omega arith)
any_in_range test a (suc n) j from to passes =
    ⊎_elim
    (λ (same : j ≡ a). let here : test a ≡ true = rw same at passes in rw here refl)
    (λ (differs : j ≢ a). rw (any_in_range test (a + 1) n j (omega arith) (omega arith) passes) (or_true (test a)))
    (cases_eq j a)

none_in_range : (test : ℕ → Bool) (a n : ℕ) → ((j : ℕ) → test j ≡ false) → list_any test (range_with_len a n) ≡ false
none_in_range test a zero fails = refl
none_in_range test a (suc n) fails = rw (fails a, none_in_range test (a + 1) n fails) refl

-- a start in a lawful recording is completed just where it isn't active after the rank's calls
not_active_is_completed : (groups : Groups) (recording : Lists) (rank place req : ℕ) → IsLawful groups recording → option_and_then starts (call_at recording rank place) ≡ Some req → (started_in (calls_of recording rank) req ≡ Some place → ⊥) → is_completed recording rank req place ≡ true
not_active_is_completed groups recording rank place req lawful starts_it inactive =
    let start = and_then_parts starts (call_at recording rank place) req starts_it in
    let within = slice_get_within (calls_of recording rank) place start.0 start.1 in
    let effect : does_start req start.0 ≡ true = rw start.2 (eq-eqb req req refl) in
    let wait = start_is_completed groups rank (calls_of recording rank) req place start.0 (lawful rank (calls_past recording rank place within)) start.1 effect inactive in
    let here : completes_start recording rank req place wait.wait ≡ true = rw (wait.stands_there, wait.completes_it, wait.started_there) (eq-eqb place place refl) in
    any_in_range (completes_start recording rank req place) 0 (length (calls_of recording rank)) wait.wait (omega arith) (omega (arith, wait.before)) here

active_is_not_completed : (recording : Lists) (rank place req : ℕ) → started_in (calls_of recording rank) req ≡ Some place → is_completed recording rank req place ≡ false
active_is_not_completed recording rank place req active = none_in_range (completes_start recording rank req place) 0 (length (calls_of recording rank)) none
  where
    by_start : (o : Option ℕ) → option_map_or (λ found. found == place) o false ≡ true → o ≡ Some place
    by_start None h = absurd (false≢true h)
    by_start (Some start) h = ap (λ (n : ℕ). Some n) (eqb-true start place h)

    by_call : (wait : ℕ) (o : Option Call) → call_at recording rank wait ≡ o → (option_map_or (does_complete req) o false && option_map_or (λ found. found == place) (started_before recording rank wait req) false) ≡ true → ⊥
    by_call wait None is both = false≢true both
    by_call wait (Some call) is both =
        let parts = and_parts (does_complete req call) (option_map_or (λ found. found == place) (started_before recording rank wait req) false) both in
        completed_is_over (calls_of recording rank) req wait place call is parts.0 (by_start (started_before recording rank wait req) parts.1) active

    none : (wait : ℕ) → completes_start recording rank req place wait ≡ false
    none wait =
        ⊎_elim
        (λ (both : completes_start recording rank req place wait ≡ true). absurd (by_call wait (call_at recording rank wait) refl both))
        (λ (fails : completes_start recording rank req place wait ≡ false). fails)
        (cases_Bool (completes_start recording rank req place wait))

pub lost_is_active : (groups : Groups) (recording : Lists) (rank place req : ℕ) → IsLawful groups recording → option_and_then starts (call_at recording rank place) ≡ Some req → not (is_completed recording rank req place) ≡ option_map_or (λ found. found == place) (started_in (calls_of recording rank) req) false
lost_is_active groups recording rank place req lawful starts_it = by_start (started_in (calls_of recording rank) req) refl
  where
    by_start : (o : Option ℕ) → started_in (calls_of recording rank) req ≡ o → not (is_completed recording rank req place) ≡ option_map_or (λ found. found == place) o false
    by_start None is = ap not (not_active_is_completed groups recording rank place req lawful starts_it (λ active. none-some place (sym is ∙ active)))
    by_start (Some start) is =
        ⊎_elim
        (λ (same : start ≡ place).
        ap not (active_is_not_completed recording rank place req (is ∙ ap (λ (n : ℕ). Some n) same)) ∙ sym (eq-eqb start place same))
        (λ (differs : start ≢ place).
        ap not (not_active_is_completed groups recording rank place req lawful starts_it (λ active. differs (same_Some start place (sym is ∙ active)))) ∙ sym (ne_eqb start place differs))
        (cases_eq start place)

pub none_lost : (groups : Groups) (recording : Lists) (rank : ℕ) → IsLawful groups recording → ((req : ℕ) → started_in (calls_of recording rank) req ≡ None) → over_places (lost_at recording rank) recording rank ≡ []
unfolding lost_at
none_lost groups recording rank lawful inactive = nothing_of_rank (lost_at recording rank) recording rank (λ place within. by_start place (option_and_then starts (call_at recording rank place)) refl)
  where
    by_start : (place : ℕ) (o : Option ℕ) → option_and_then starts (call_at recording rank place) ≡ o → lost_at recording rank place ≡ []
    by_start place None is = rw is refl
    by_start place (Some req) is =
        rw (is, not_active_is_completed groups recording rank place req lawful is (λ active. none-some place (sym (inactive req) ∙ active))) refl

-- Calls that make no communicator.
nothing_given : (groups : Groups) (recording : Lists) (call : Call) (wave : ℕ × ℕ) → makes call ≡ None → is_wrong_group groups recording call wave ≡ false
nothing_given groups recording (Dup comm new) wave none = absurd (none-some new (sym none))
nothing_given groups recording (Split comm (Some colour) key (Some new)) wave none = absurd (none-some new (sym none))
nothing_given groups recording _ wave none = refl

none_by_wave : (groups : Groups) (recording : Lists) (call : Call) (wave : Option (ℕ × ℕ)) → makes call ≡ None → option_map_or (is_wrong_group groups recording call) wave false ≡ false
none_by_wave groups recording call None none = refl
none_by_wave groups recording call (Some wave) none = nothing_given groups recording call wave none

none_wrong_here : (groups : Groups) (recording : Lists) (rank place : ℕ) → NoneIsMade recording → is_wrong_at groups recording rank place ≡ false
none_wrong_here groups recording rank place none = by_call (call_at recording rank place) refl
  where
    by_call : (o : Option Call) → call_at recording rank place ≡ o → is_wrong_at groups recording rank place ≡ false
    by_call None is = rw is refl
    by_call (Some call) is =
        let makes_none : makes call ≡ None = ap (λ (o : Option Call). option_and_then makes o) (sym is) ∙ none rank place in
        ap (λ (o : Option Call). option_map_or (λ found. option_map_or (is_wrong_group groups recording found) (wave_of recording rank place) false) o false) is
        ∙ none_by_wave groups recording call (wave_of recording rank place) makes_none

pub none_wrong : (groups : Groups) (recording : Lists) (found : List Finding) → NoneIsMade recording → found ≡ found ++ wrong_groups_of groups recording
unfolding wrong_groups_of group_at
none_wrong groups recording found none =
    rw (nothing_of_ranks (group_at groups recording) recording (λ rank place. rw (none_wrong_here groups recording rank place none) refl)) (sym (append-nil found))
