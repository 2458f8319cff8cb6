-- Where a request that is active at a cut was started in the second window.
use Rattle.std.proofs.Common.{◌≡◌, ℕ, suc, ◌+◌, Bool, true, false, not, ◌&&◌, ◌||◌, ◌==◌, Option, Some, None, if◌then◌else◌, List, [], ◌∷◌, length, refl, sym, ap, ◌∙◌, ⊎_elim, length-append}
use Rattle.std.specs.Prelude.{is_some}
use Rattle.std.specs.List.{list_any}
use Rattle.std.specs.Option.{option_map, option_map_or}
use Rattle.std.proofs.lemmas.Option.{none-some}
use Rattle.std.proofs.lemmas.List.Folds.{list_any-append}
use Rattle.std.proofs.lemmas.Bool.{cases_Bool, false≢true, eqb-true, or_parts}
use Rattle.mpicall.specs.declared.call.Mode.TheVariants.{Standard}
use Rattle.mpicall.specs.declared.call.Peer.TheVariants.{Null}
use Rattle.mpicall.specs.declared.call.Call.{Call}
use Rattle.mpicall.specs.declared.call.Call.TheVariants.{Isend, Irecv}
use Rattle.callstore.specs.Requests.{starts, does_start, does_complete, started_in}
use Rattle.windows.specs.Cuts.{left_active, starts_receive, is_moved, started_again, front_calls}
use Rattle.windows.proofs.CutLists.{front_before, moved_receives, anew_moved}
use Rattle.windows.proofs.StartedLemmas.{started-cons, started-append, none_started}

-- a call that starts a receive completes no request
receive_completes : (call : Call) (req : ℕ) → starts_receive call ≡ true → does_complete req call ≡ false
receive_completes (Irecv started comm source tag) req is = refl
receive_completes _ req is = absurd (false≢true is)

pub anew_completes : (moves : ℕ → Bool) (call : Call) (rest : List Call) (req : ℕ) → list_any (does_complete req) (started_again moves call rest) ≡ false
anew_completes moves call rest req =
    ⊎_elim
    (λ (is : is_moved moves call rest ≡ true). rw (anew_moved moves call rest is, receive_completes call req (moved_receives moves call rest is)) refl)
    (λ (no : is_moved moves call rest ≡ false). rw no (stays (left_active call rest)))
    (cases_Bool (is_moved moves call rest))
  where
    stays : (o : Option ℕ) → list_any (does_complete req) (option_map_or (λ started. (if false then call else Isend started Standard 0 Null 0 None) ∷ []) o []) ≡ false
    stays None = refl
    stays (Some started) = refl

pub front_completes : (moves : ℕ → Bool) (calls : List Call) (req : ℕ) → list_any (does_complete req) (front_calls moves calls) ≡ false
front_completes moves [] req = refl
front_completes moves (call ∷ rest) req =
    rw (list_any-append (does_complete req) (started_again moves call rest) (front_calls moves rest), anew_completes moves call rest req, front_completes moves rest req) refl

-- the start in front of the second window is that of the request, if none of the calls after it completes it
pub anew_started : (moves : ℕ → Bool) (call : Call) (rest : List Call) (req : ℕ) → started_in (started_again moves call rest) req ≡ (if does_start req call && not (list_any (does_complete req) rest) then Some 0 else None)
anew_started moves call rest req = by_start (starts call) refl
  where
    one : (other : Call) (started : ℕ) → starts other ≡ Some started → started_in (other ∷ []) req ≡ (if started == req then Some 0 else None)
    one other started is =
        ⊎_elim
        (λ (same : (started == req) ≡ true). rw (is, same) refl)
        (λ (other_one : (started == req) ≡ false). rw (is, other_one) refl)
        (cases_Bool (started == req))

    by_moved : (started : ℕ) (moved : Bool) → starts call ≡ Some started → started_in ((if moved then call else Isend started Standard 0 Null 0 None) ∷ []) req ≡ (if started == req then Some 0 else None)
    by_moved started true is = one call started is
    by_moved started false is = one (Isend started Standard 0 Null 0 None) started refl

    by_start : (o : Option ℕ) → starts call ≡ o → started_in (started_again moves call rest) req ≡ (if does_start req call && not (list_any (does_complete req) rest) then Some 0 else None)
    by_start None is = rw is refl
    by_start (Some started) is =
        ⊎_elim
        (λ (ends : list_any (does_complete started) rest ≡ true).
        ⊎_elim
        (λ (same : (started == req) ≡ true).
        let ends_it : list_any (does_complete req) rest ≡ true = ap (λ (r : ℕ). list_any (does_complete r) rest) (sym (eqb-true started req same)) ∙ ends in
        rw (is, ends, same, ends_it) refl)
        (λ (other : (started == req) ≡ false). rw (is, ends, other) refl)
        (cases_Bool (started == req)))
        (λ (stays : list_any (does_complete started) rest ≡ false).
        let active : left_active call rest ≡ Some started = rw (is, stays) refl in
        let anew : started_in (started_again moves call rest) req ≡ (if started == req then Some 0 else None) =
        ap (λ (o : Option ℕ). started_in (option_map_or (λ r. (if is_moved moves call rest then call else Isend r Standard 0 Null 0 None) ∷ []) o []) req) active ∙ by_moved started (is_moved moves call rest) is in
        anew
        ∙ ⊎_elim
        (λ (same : (started == req) ≡ true).
        let stays_it : list_any (does_complete req) rest ≡ false = ap (λ (r : ℕ). list_any (does_complete r) rest) (sym (eqb-true started req same)) ∙ stays in
        rw (is, same, stays_it) refl)
        (λ (other : (started == req) ≡ false). rw (is, other) refl)
        (cases_Bool (started == req)))
        (cases_Bool (list_any (does_complete started) rest))

-- where no call completes it, it is active exactly if some call starts it
pub active_if_started : (calls : List Call) (req : ℕ) → list_any (does_complete req) calls ≡ false → list_any (does_start req) calls ≡ is_some (started_in calls req)
active_if_started [] req h = refl
active_if_started (call ∷ rest) req h =
    let parts = or_parts (does_complete req call) (list_any (does_complete req) rest) h in
    let later = active_if_started rest req parts.1 in
    rw (started-cons call rest req, parts.1)
    (⊎_elim
    (λ (is : list_any (does_start req) rest ≡ true). rw is (by_rest (does_start req call) (started_in rest req) (sym (sym is ∙ later))))
    (λ (no : list_any (does_start req) rest ≡ false). rw no (by_first (does_start req call)))
    (cases_Bool (list_any (does_start req) rest)))
  where
    by_rest : (here : Bool) (o : Option ℕ) → is_some o ≡ true → (here || true) ≡ is_some (option_map (λ place. suc place) o)
    by_rest here None is = absurd (false≢true is)
    by_rest true (Some place) is = refl
    by_rest false (Some place) is = refl

    by_first : (here : Bool) → (here || false) ≡ is_some {T = ℕ} (if here && not false then Some 0 else None)
    by_first true = refl
    by_first false = refl

-- so one that some call starts and that isn't active is completed
ended_by : (calls : List Call) (req : ℕ) → started_in calls req ≡ None → list_any (does_start req) calls ≡ true → list_any (does_complete req) calls ≡ true
ended_by calls req none some =
    ⊎_elim
    (λ (is : list_any (does_complete req) calls ≡ true). is)
    (λ (no : list_any (does_complete req) calls ≡ false).
    absurd (false≢true (sym (active_if_started calls req no ∙ ap (λ (o : Option ℕ). is_some o) none) ∙ some)))
    (cases_Bool (list_any (does_complete req) calls))

-- the place in the front of the second window of what started a request before the cut
pub front_started : (moves : ℕ → Bool) (calls : List Call) (req : ℕ) → started_in (front_calls moves calls) req ≡ option_map (λ place. length (front_before moves place calls)) (started_in calls req)
front_started moves [] req = refl
front_started moves (call ∷ rest) req =
    rw (started-append (started_again moves call rest) (front_calls moves rest) req, front_completes moves rest req, active_if_started (front_calls moves rest) req (front_completes moves rest req), front_started moves rest req, started-cons call rest req)
    (by_rest (started_in rest req) refl)
  where
    by_first : (here : Bool) → (if◌then◌else◌ {A = Option ℕ} here (Some 0) None) ≡ option_map (λ place. length (front_before moves place (call ∷ rest))) (if here then Some 0 else None)
    by_first true = refl
    by_first false = refl

    by_rest : (o : Option ℕ) → started_in rest req ≡ o → (if is_some (option_map (λ place. length (front_before moves place rest)) o) then option_map (λ place. length (started_again moves call rest) + place) (option_map (λ place. length (front_before moves place rest)) o) else started_in (started_again moves call rest) req)
        ≡ option_map (λ place. length (front_before moves place (call ∷ rest))) (if list_any (does_start req) rest then option_map (λ place. suc place) o else (if does_start req call && not (list_any (does_complete req) rest) then Some 0 else None))
    by_rest (Some place) is =
        ⊎_elim
        (λ (some : list_any (does_start req) rest ≡ true).
        rw some (ap (λ (n : ℕ). Some n) (sym (length-append (started_again moves call rest) (front_before moves place rest)))))
        (λ (none : list_any (does_start req) rest ≡ false). absurd (none-some place (sym (none_started rest req none) ∙ is)))
        (cases_Bool (list_any (does_start req) rest))
    by_rest None is =
        anew_started moves call rest req
        ∙ ⊎_elim
        (λ (some : list_any (does_start req) rest ≡ true).
        rw (some, ended_by rest req is some) (ended (does_start req call)))
        (λ (none : list_any (does_start req) rest ≡ false).
        rw none (by_first (does_start req call && not (list_any (does_complete req) rest))))
        (cases_Bool (list_any (does_start req) rest))
      where
        ended : (here : Bool) → (if◌then◌else◌ {A = Option ℕ} (here && not true) (Some 0) None) ≡ None
        ended true = refl
        ended false = refl
