-- The lines of calls by which all members of a communicator make new ones.
use Rattle.std.proofs.Common.{◌≡◌, refl, sym, ◌∙◌, ap, subst, ℕ, ℤ, true, false, Option, Some, None, Ok, List, [], length}
use Rattle.std.specs.Prelude.{is_some, option_map, option_and_then}
use Rattle.std.specs.Option.{option_map_or}
use Rattle.std.specs.Str.{bytes_eq}
use Rattle.std.proofs.lemmas.Bool.{cond-true, cond-false}
use Rattle.mpicall.specs.declared.call.Call.{Call}
use Rattle.mpicall.specs.declared.call.Call.TheVariants.{Coll, Dup, Split}
use Rattle.mpicall.specs.declared.call.Kind.TheVariants as kind
use Rattle.closing.specs.Called.{Called, Splits}
use Rattle.closing.specs.Entries.{Placed, Run}
use Rattle.closing.specs.Entry.{bare_line, brings, colour_of, giving_line, made_line, maker_by, parent_group, parent_rank, split_key}
use Rattle.closing.specs.Keys.{Key, group_of_key}
use Rattle.closing.specs.Made.{wave_at}
use Rattle.closing.specs.Numbers.{named_key, rank_in}
use Rattle.closing.specs.Table.{Table}
use Rattle.closing.specs.inner.Makers.{IsNewOf, IsSmall}
use Rattle.closing.specs.inner.Table.{HasKey, IsPlaceOf}
use Rattle.closing.specs.inner.Walked.{number_of, number_or}
use Rattle.closing.specs.inner.Views.{called_view}
use Rattle.closing.specs.declared.called.Called.{Called as CalledCode}
use Rattle.closing.specs.declared.called.Called.TheVariants as code
use Rattle.closing.specs.declared.numbers.Named.{Named}
use Rattle.closing.specs.declared.walk.made.New.{New}

-- ---- The communicator that the call is on ----

-- what has a number is one
pub on_one : (named : Option Named) (comm : ℕ) → Ok comm ≡ number_or true (number_of named) → is_some named ≡ true
on_one None comm e = cc
on_one (Some it) comm e = refl

-- ---- The communicator that was made ----

-- the call made none
pub none_made : (table : Table) (f : Key → Option ℕ) (place : Option ℕ) (key : Option Key)
    → place ≡ None → IsPlaceOf table place key → option_and_then f key ≡ None
none_made table f None None e is = refl
none_made table f None (Some key) e is = absurd is
none_made table f (Some place) key e is = cc

-- what it made has no number
pub none_numbered : (table : Table) (f : Key → Option ℕ) (place : Option ℕ) (key : Option Key) (at : ℕ)
    → place ≡ Some at → IsPlaceOf table place key → ((it : Key) → HasKey table at it → None ≡ f it) → option_and_then f key ≡ None
none_numbered table f None key at e is gives = cc
none_numbered table f (Some place) None at e is gives = absurd is
none_numbered table f (Some place) (Some key) at e is gives =
    let same : place ≡ at = cc in
    sym (gives key (subst (λ v. HasKey table v key) same is))

-- what it made has one
pub new_made : (table : Table) (f : Key → Option ℕ) (place : Option ℕ) (key : Option Key) (at number : ℕ) (it : New)
    → place ≡ Some at → it.key ≡ at → it.number ≡ number → IsPlaceOf table place key → ((made : Key) → HasKey table at made → Some number ≡ f made)
    → IsNewOf table (Some it) key (option_and_then f key)
new_made table f None key at number it e ek en is gives = cc
new_made table f (Some place) None at number it e ek en is gives = is
new_made table f (Some place) (Some key) at number it e ek en is gives =
    let same : place ≡ at = cc in
    let here : HasKey table at key = subst (λ v. HasKey table v key) same is in
    (subst (λ v. HasKey table v key) (sym ek) here, sym (gives key here) ∙ ap (λ v. Some v) (sym en))

-- ---- Lines ----

-- a split with this key
pub split_as : (comm : ℕ) (colour : Option ℕ) (said key : ℤ) (new : Option ℕ) (line : Call) → said ≡ key → Split comm colour key new ≡ line
    → Split comm colour said new ≡ line
split_as comm colour said key new line e same = ap (λ v. Split comm colour v new) e ∙ same

module _ (run : Run) (placed : Placed) (comm : ℕ) where
  pub made_dup : (parent : List ℕ) (key : Key) (new : ℕ) → bytes_eq (group_of_key (length run) key) parent ≡ true
      → Dup comm new ≡ made_line run placed comm parent key new
  made_dup parent key new e =
      sym (cond-true (bytes_eq (group_of_key (length run) key) parent) (Dup comm new)
      (Split comm (Some (parent_rank parent (group_of_key (length run) key))) (rank_in run placed.rank key) (Some new)) e)

  pub made_split : (parent : List ℕ) (key : Key) (new rank colour : ℕ) (place : ℤ) → bytes_eq (group_of_key (length run) key) parent ≡ false
      → placed.rank ≡ rank → colour ≡ parent_rank parent (group_of_key (length run) key) → place ≡ rank_in run rank key
      → Split comm (Some colour) place (Some new) ≡ made_line run placed comm parent key new
  made_split parent key new rank colour place e er ec ep =
      ap (λ v. Split comm (Some v) place (Some new)) ec
      ∙ ap (λ v. Split comm (Some (parent_rank parent (group_of_key (length run) key))) v (Some new)) (ep ∙ ap (λ v. rank_in run v key) (sym er))
      ∙ sym (cond-false (bytes_eq (group_of_key (length run) key) parent) (Dup comm new)
      (Split comm (Some (parent_rank parent (group_of_key (length run) key))) (rank_in run placed.rank key) (Some new)) e)

  -- the group of the communicator that the call is on
  made_under : (table : Table) (place : ℕ) (found : Option Key) (key : Key) (new : ℕ) (result : Call) → IsPlaceOf table (Some place) found
      → ((on : Key) → found ≡ Some on → IsSmall run on)
      → ((on : Key) → HasKey table place on → IsSmall run on → result ≡ made_line run placed comm (group_of_key (length run) on) key new)
      → result ≡ made_line run placed comm (option_map_or (group_of_key (length run)) found []) key new
  made_under table place None key new result is small gives = absurd is
  made_under table place (Some on) key new result is small gives = gives on is (small on refl)

  pub made_on : (table : Table) (named : Option Named) (parent : Named) (key : Key) (new : ℕ) (result : Call) → named ≡ Some parent
      → IsPlaceOf table (option_map (λ (it : Named). it.key) named) (named_key placed)
      → ((on : Key) → named_key placed ≡ Some on → IsSmall run on)
      → ((on : Key) → HasKey table parent.key on → IsSmall run on → result ≡ made_line run placed comm (group_of_key (length run) on) key new)
      → result ≡ made_line run placed comm (parent_group run placed) key new
  made_on table named parent key new result e is small gives =
      made_under table parent.key (named_key placed) key new result
      (subst (λ v. IsPlaceOf table (option_map (λ (it : Named). it.key) v) (named_key placed)) e is) small gives

  pub bare_split : (key : ℤ) → option_map_or (brings run) (wave_at placed) false ≡ true → key ≡ split_key placed.called
      → Split comm None key None ≡ bare_line run placed comm
  bare_split key e ek =
      ap (λ v. Split comm None v None) ek
      ∙ sym (cond-true (option_map_or (brings run) (wave_at placed) false) (Split comm None (split_key placed.called) None) (Coll comm kind.Barrier) e)

  pub bare_barrier : option_map_or (brings run) (wave_at placed) false ≡ false → Coll comm kind.Barrier ≡ bare_line run placed comm
  bare_barrier e =
      sym (cond-false (option_map_or (brings run) (wave_at placed) false) (Split comm None (split_key placed.called) None) (Coll comm kind.Barrier) e)

  pub split_given : (own number : ℕ) (chosen : Option ℤ) (colour key : ℤ) (made : Key) (new : ℕ) → chosen ≡ Some colour → number ≡ colour_of colour
      → Split comm (Some number) key (Some new) ≡ giving_line run placed comm (Splits own chosen key) made new
  split_given own number chosen colour key made new e en =
      ap (λ v. Split comm (Some v) key (Some new)) en ∙ ap (λ v. giving_line run placed comm (Splits own v key) made new) (sym e)

  pub split_without : (own : ℕ) (chosen : Option ℤ) (key : ℤ) (made : Key) (new : ℕ) → chosen ≡ None
      → Dup comm new ≡ giving_line run placed comm (Splits own chosen key) made new
  split_without own chosen key made new e = ap (λ v. giving_line run placed comm (Splits own v key) made new) (sym e)

  pub giving_as : (it call : CalledCode) (made : Key) (new : ℕ) (result : Call) → it ≡ call
      → result ≡ giving_line run placed comm (called_view call) made new → result ≡ giving_line run placed comm (called_view it) made new
  giving_as it call made new result e given = given ∙ ap (λ (v : CalledCode). giving_line run placed comm (called_view v) made new) (sym e)

  pub giving_split : (it : CalledCode) (own : ℕ) (colour : Option ℤ) (key same_key : ℤ) (made : Key) (new : ℕ) (result : Call) → it ≡ code.Splits own colour key → same_key ≡ key
      → ((other : ℕ) → result ≡ giving_line run placed comm (Splits other colour same_key) made new)
      → result ≡ giving_line run placed comm (called_view it) made new
  giving_split it own colour key same_key made new result e ek given =
      given own ∙ ap (λ v. giving_line run placed comm (Splits own colour v) made new) ek
      ∙ ap (λ (v : CalledCode). giving_line run placed comm (called_view v) made new) (sym e)

  pub giving_other : (it : CalledCode) (made : Key) (new : ℕ)
      → ((own colour key : _) → it ≡ code.Splits own colour key → ⊥) → ((own : _) → it ≡ code.Makes own → ⊥)
      → Dup comm new ≡ giving_line run placed comm (called_view it) made new
  giving_other (code.Splits own colour key) made new a b = absurd (a own colour key refl)
  giving_other (code.Makes own) made new a b = absurd (b own refl)
  giving_other _ made new a b = refl

  -- ---- By what the call made ----

  pub maker_given : (table : Table) (it : New) (called : Called) (result : Call) (key : Option Key) (number : Option ℕ) → placed.called ≡ called → it.comm ≡ comm
      → IsNewOf table (Some it) key number → ((made : Key) → key ≡ Some made → IsSmall run made)
      → ((made : Key) → HasKey table it.key made → IsSmall run made → result ≡ giving_line run placed it.comm called made it.number)
      → result ≡ maker_by run placed comm key number
  maker_given table it called result None number ea ec is small gives = absurd is
  maker_given table it called result (Some made) number ea ec is small gives =
      gives made is.0 (small made refl)
      ∙ ap (λ v. giving_line run placed v called made it.number) ec
      ∙ ap (λ v. giving_line run placed comm v made it.number) (sym ea)
      ∙ ap (maker_by run placed comm (Some made)) (sym is.1)

  pub maker_bare : (table : Table) (key : Option Key) (number : Option ℕ) → IsNewOf table None key number
      → bare_line run placed comm ≡ maker_by run placed comm key number
  maker_bare table None number e = refl
  maker_bare table (Some made) number e = ap (maker_by run placed comm (Some made)) (sym e)
