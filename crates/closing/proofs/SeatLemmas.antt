-- The lines of the preface by places of keys are those of the keys.
use Rattle.std.proofs.Common.{◌≡◌, refl, sym, ap, subst, ◌∙◌, ℕ, suc, ◌+◌, ◌<◌, arith, add-zero, Bool, true, false, not, ◌==◌, if◌then◌else◌, pos, List, [], ◌∷◌, ◌++◌, length, drop, filter, Option, Some}
use Rattle.std.specs.Prelude.{slice_get}
use Rattle.std.specs.List.{AllZip, list_any, position_or_len}
use Rattle.std.proofs.lemmas.Bool.{false≢true}
use Rattle.std.proofs.lemmas.Option.{slice_get_within}
use Rattle.mpicall.specs.declared.call.Call.{Call}
use Rattle.mpicall.specs.declared.call.Call.TheVariants.{Split}
use Rattle.closing.specs.Keys.{Key, World, group_of_key, has_member}
use Rattle.closing.specs.Entries.{Run}
use Rattle.closing.specs.Numbers.{is_of_call, number_of, numbered_keys, preface_keys, preface_lines, preface_split, put_in_line, put_in_lines, rank_in, share_member}
use Rattle.closing.specs.inner.Given.{IsNumbered, or_none}
use Rattle.closing.specs.inner.Numbered.{IsSeatOf}
use Rattle.closing.specs.inner.Prefaces.{IsPreface, Seated, has_rank, is_of_none, put_all, put_seated, seated_from, seated_if, seated_split, share_rank, shares}
use Rattle.closing.specs.Table.{Table, group_at}
use Rattle.closing.specs.inner.Table.{HasKey, IsTable, key_of, keys_in, ranks_in}
use Rattle.closing.specs.declared.keys.Key.{Key as KeyCode}
use Rattle.closing.specs.declared.keys.Key.TheVariants as code
use Rattle.closing.specs.declared.numbers.Preface.{Preface}
use Rattle.closing.proofs.KeyedLemmas.{zip_any, zip_append}
use Rattle.closing.proofs.NumberLists.{get_some}
use Rattle.closing.proofs.RunLemmas.{number_kept}
use Rattle.closing.proofs.TableLemmas.{group_at_is}

-- ---- Which are of no call ----

none_read : (groups : List (List ℕ)) (keys : List Key) (it : KeyCode) → (key_of groups keys it ≡ World → ⊥) → is_of_none (Some it) ≡ not (is_of_call (key_of groups keys it))
none_read groups keys code.World other = absurd (other refl)
none_read groups keys (code.Alone rank group) other = refl
none_read groups keys (code.Made wave group) other = refl
none_read groups keys (code.Duplicated wave group) other = refl
none_read groups keys (code.OfGroup group times) other = refl
none_read groups keys (code.Apart group times) other = refl

-- the code of a key says whether a call on a parent makes it
none_same : (table : Table) (place : ℕ) (key : Key) → IsTable table → HasKey table place key → (key ≡ World → ⊥) → is_of_none (slice_get table.codes place) ≡ not (is_of_call key)
none_same table place key h has other =
    let at = get_some table.codes place (omega (arith, slice_get_within (keys_in table) place key has, h.long)) in
    let reads : HasKey table place (key_of table.groups (keys_in table) at.0) = h.read place at.0 at.1 in
    let both : ◌≡◌ {A = Option Key} (Some (key_of table.groups (keys_in table) at.0)) (Some key) = sym reads ∙ has in
    let same : key_of table.groups (keys_in table) at.0 ≡ key = cc in
    ap is_of_none at.1
    ∙ none_read table.groups (keys_in table) at.0 (λ e. other (sym same ∙ e))
    ∙ ap (λ k. not (is_of_call k)) same

-- ---- Those of the head ----

seated_kept : (run : Run) (b c : Bool) (number : ℕ) (group : List ℕ) (key : Key) (others : List Seated) (keys : List Key) → b ≡ c → IsSeatOf run (record { comm = number; group = group }) key → AllZip (IsSeatOf run) others keys → AllZip (IsSeatOf run) (seated_if b number group others) (if c then key ∷ keys else keys)
seated_kept run true true number group key others keys e is h = (is, h)
seated_kept run true false number group key others keys e is h = absurd (false≢true (sym e))
seated_kept run false true number group key others keys e is h = absurd (false≢true e)
seated_kept run false false number group key others keys e is h = h

module _ (run : Run) (table : Table) (numbers : List (Option ℕ)) (numbered : List ℕ) (h : IsTable table) (ranks : ranks_in table ≡ length run) (is : IsNumbered numbers numbered) (all : AllZip (HasKey table) numbered (numbered_keys run)) (first : slice_get numbered 0 ≡ Some 0) where
  -- one that isn't the first isn't the world
  no_world : (number place : ℕ) (key : Key) → 0 < number → slice_get numbered number ≡ Some place → HasKey table place key → key ≡ World → ⊥
  no_world number place key more e has world =
      let here : HasKey table place World = subst (λ k. HasKey table place k) world has in
      let same : place ≡ 0 = h.keys_once place 0 World here h.world in
      let there : slice_get numbered number ≡ Some 0 = e ∙ ap Some same in
      let one : ◌≡◌ {A = Option (Option ℕ)} (Some (Some number)) (Some (Some 0)) = sym (is.back 0 number there) ∙ is.back 0 0 first in
      let none : number ≡ 0 = cc in
      omega arith

  seat_is : (number place : ℕ) (key : Key) → slice_get numbered number ≡ Some place → HasKey table place key → IsSeatOf run (record { comm = number; group = group_at table place }) key
  seat_is number place key e has = record {
    group = group_at_is table place key h has ∙ ap (λ n. group_of_key n key) ranks;
    number = sym (number_kept table numbers numbered (numbered_keys run) place key h is all has) ∙ ap or_none (is.back place number e);
  }

  -- those at some places are those of their keys
  pub seated_same : (number : ℕ) (places : List ℕ) (keys : List Key) → 0 < number → ((n place : ℕ) → slice_get places n ≡ Some place → slice_get numbered (number + n) ≡ Some place) → AllZip (HasKey table) places keys → AllZip (IsSeatOf run) (seated_from table number places) (filter (λ key. not (is_of_call key)) keys)
  seated_same number [] [] more at zip = tt
  seated_same number [] (k ∷ keys) more at zip = absurd zip
  seated_same number (p ∷ places) [] more at zip = absurd zip
  seated_same number (p ∷ places) (k ∷ keys) more at zip =
      let e : slice_get numbered number ≡ Some p = ap (λ n. slice_get numbered n) (sym (add-zero number)) ∙ at 0 p refl in
      seated_kept run (is_of_none (slice_get table.codes p)) (not (is_of_call k)) number (group_at table p) k
      (seated_from table (number + 1) places) (filter (λ key. not (is_of_call key)) keys)
      (none_same table p k h zip.0 (no_world number p k more e zip.0)) (seat_is number p k e zip.0)
      (seated_same (number + 1) places keys (omega arith)
      (λ n place f. let m : number + 1 + n ≡ number + suc n = omega arith in ap (λ j. slice_get numbered j) m ∙ at (suc n) place f) zip.1)

-- ---- Lines ----

module _ (run : Run) where
  share_same : (it : Seated) (key : Key) (other : Seated) (another : Key) → IsSeatOf run it key → IsSeatOf run other another → share_rank it.group other.group ≡ share_member (length run) key another
  share_same it key other another a b =
      ap (λ g. share_rank g other.group) a.group ∙ ap (λ g. share_rank (group_of_key (length run) key) g) b.group

  shares_same : (it : Seated) (key : Key) (line : List Seated) (keys : List Key) → IsSeatOf run it key → AllZip (IsSeatOf run) line keys → shares it.group line ≡ list_any (share_member (length run) key) keys
  shares_same it key line keys a all =
      zip_any (IsSeatOf run) (λ (other : Seated). share_rank it.group other.group) (share_member (length run) key) line keys
      (λ other another b. share_same it key other another a b) all

  lines_kept : (b c : Bool) (line : List Seated) (keys : List Key) (put : List (List Seated)) (puts : List (List Key)) (longer : List Seated) (longers : List Key) (lines : List (List Seated)) (others : List (List Key)) → b ≡ c
      → AllZip (IsSeatOf run) line keys → AllZip (AllZip (IsSeatOf run)) put puts → AllZip (IsSeatOf run) longer longers → AllZip (AllZip (IsSeatOf run)) lines others
      → AllZip (AllZip (IsSeatOf run)) (if b then line ∷ put else longer ∷ lines) (if c then keys ∷ puts else longers ∷ others)
  lines_kept true true line keys put puts longer longers lines others e a p l o = (a, p)
  lines_kept true false line keys put puts longer longers lines others e a p l o = absurd (false≢true (sym e))
  lines_kept false true line keys put puts longer longers lines others e a p l o = absurd (false≢true e)
  lines_kept false false line keys put puts longer longers lines others e a p l o = (l, o)

  put_same : (it : Seated) (key : Key) (lines : List (List Seated)) (others : List (List Key)) → IsSeatOf run it key → AllZip (AllZip (IsSeatOf run)) lines others → AllZip (AllZip (IsSeatOf run)) (put_seated it lines) (put_in_line (length run) key others)
  put_same it key [] [] a all = ((a, tt), tt)
  put_same it key [] (keys ∷ others) a all = absurd all
  put_same it key (line ∷ lines) [] a all = absurd all
  put_same it key (line ∷ lines) (keys ∷ others) a all =
      lines_kept (shares it.group line) (list_any (share_member (length run) key) keys) line keys (put_seated it lines) (put_in_line (length run) key others) (line ++ it ∷ []) (keys ++ key ∷ []) lines others
      (shares_same it key line keys a all.0) all.0 (put_same it key lines others a all.1)
      (zip_append (IsSeatOf run) line keys (it ∷ []) (key ∷ []) all.0 (a, tt)) all.1

  pub puts_same : (seated : List Seated) (keys : List Key) (lines : List (List Seated)) (others : List (List Key)) → AllZip (IsSeatOf run) seated keys → AllZip (AllZip (IsSeatOf run)) lines others → AllZip (AllZip (IsSeatOf run)) (put_all seated lines) (put_in_lines (length run) keys others)
  puts_same [] [] lines others zip all = all
  puts_same [] (k ∷ keys) lines others zip all = absurd zip
  puts_same (it ∷ seated) [] lines others zip all = absurd zip
  puts_same (it ∷ seated) (k ∷ keys) lines others zip all =
      puts_same seated keys (put_seated it lines) (put_in_line (length run) k others) zip.1 (put_same it k lines others zip.0 all)

  -- the split of a line is that of its keys
  split_if : (b c : Bool) (x y z w : Call) → b ≡ c → x ≡ y → z ≡ w → (if b then x else z) ≡ (if c then y else w)
  split_if true true x y z w e f g = f
  split_if true false x y z w e f g = absurd (false≢true (sym e))
  split_if false true x y z w e f g = absurd (false≢true e)
  split_if false false x y z w e f g = g

  pub split_same : (rank colour : ℕ) (line : List Seated) (keys : List Key) → AllZip (IsSeatOf run) line keys → seated_split rank colour line ≡ preface_split run rank colour keys
  split_same rank colour [] [] all = refl
  split_same rank colour [] (k ∷ keys) all = absurd all
  split_same rank colour (it ∷ line) [] all = absurd all
  split_same rank colour (it ∷ line) (k ∷ keys) all =
      split_if (has_rank rank it.group) (has_member (length run) rank k)
      (Split 0 (Some colour) (pos (position_or_len (λ member. member == rank) it.group)) (Some it.comm)) (Split 0 (Some colour) (rank_in run rank k) (number_of run k))
      (seated_split rank (colour + 1) line) (preface_split run rank (colour + 1) keys)
      (ap (λ g. has_rank rank g) all.0.group)
      (ap (λ g. Split 0 (Some colour) (pos (position_or_len (λ member. member == rank) g)) (Some it.comm)) all.0.group
      ∙ ap (λ n. Split 0 (Some colour) (rank_in run rank k) n) (sym all.0.number))
      (split_same rank (colour + 1) line keys all.1)

-- all lines of the preface
pub lines_same : (run : Run) (table : Table) (numbers : List (Option ℕ)) (numbered : List ℕ) → IsTable table → ranks_in table ≡ length run → IsNumbered numbers numbered → AllZip (HasKey table) numbered (numbered_keys run) → AllZip (AllZip (IsSeatOf run)) (put_all (seated_from table 1 (drop 1 numbered)) []) (preface_lines run)
lines_same run table numbers [] h ranks is all = absurd all
lines_same run table numbers (p ∷ numbered) h ranks is all =
    let zero_first : p ≡ 0 = h.keys_once p 0 World all.0 h.world in
    puts_same run (seated_from table 1 numbered) (preface_keys run) [] []
    (seated_same run table numbers (p ∷ numbered) h ranks is all (ap Some zero_first) 1 numbered (drop 1 (numbered_keys run)) (omega arith)
    (λ n place e. let m : 1 + n ≡ suc n = omega arith in ap (λ j. slice_get (p ∷ numbered) j) m ∙ e) all.1) tt

-- ---- As they are put ----

-- the numbers of a preface's communicators are below a later one too
pub preface_later : (preface : Preface) (number : ℕ) (lines : List (List Seated)) → IsPreface preface number lines → IsPreface preface (number + 1) lines
preface_later preface number lines h = record {
  count = h.count;
  room = h.room;
  sizes = h.sizes;
  seats = h.seats;
  colours = h.colours;
  below = λ place colour line it e k. let b = h.below place colour line it e k in omega arith;
  short = λ place line e. let b = h.short place line e in omega arith;
  some = omega arith;
}
