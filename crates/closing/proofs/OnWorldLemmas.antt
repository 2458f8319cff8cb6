-- The journal of a rank that names the world alone.
use Rattle.std.proofs.Common.{◌≡◌, ◌∙◌, refl, sym, ap, subst, ℕ, zero, suc, ◌+◌, ◌≤◌, ◌==◌, ◌&&◌, ◌||◌, if◌then◌else◌, Bool, true, false, not, List, [], ◌∷◌, ◌++◌, length, take, Option, Some, None}
use Rattle.std.specs.Prelude.{option_and_then}
use Rattle.std.specs.List.{slice_get}
use Rattle.std.specs.Option.{option_map_or}
use Rattle.std.proofs.lemmas.Bool.{eqb-true}
use Rattle.std.proofs.lemmas.List.{take_all}
use Rattle.std.proofs.lemmas.List.Folds.{list_any-append}
use Rattle.mpicall.specs.Word.{or_else}
use Rattle.journals.specs.Lines.{Line}
use Rattle.journals.specs.declared.field.Field.{Field}
use Rattle.journals.specs.declared.word.Word.{Word}
use Rattle.journals.specs.declared.word.Word.TheVariants.{Call, Report}
use Rattle.journals.specs.declared.word.CallWord.{CallWord}
use Rattle.journals.specs.declared.word.CallWord.TheVariants as call
use Rattle.closing.specs.Called.{Called, MakesOfGroup, called, comm_of}
use Rattle.closing.specs.Keys.{Key, World, is_key_among, same_key}
use Rattle.closing.specs.RankComms.{RankComms, after_line, after_lines, comms_first, key_next, key_under}
use Rattle.closing.specs.Table.{Table}
use Rattle.closing.specs.inner.Holds.{HasComms, brings, key_on}
use Rattle.closing.specs.inner.Surveyed.{HasGot, HasRank, HaveFlags, Keeps, as_list, is_world, is_world_if_any, keep_to_world, keeps_at, keeps_to_world, name_world, names_at_place, names_by, names_from, names_world, with_name, world_place}
use Rattle.closing.specs.inner.Table.{Grows, IsPlaceOf, keys_in}
use Rattle.closing.specs.inner.Words.{counts, is_bare, is_plain}
use Rattle.closing.specs.declared.rank_comms.RankComms.{RankComms as CommsCode}
use Rattle.closing.specs.declared.survey.Survey.{Survey}
use Rattle.closing.proofs.HoldsLemmas.{report_line}
use Rattle.closing.proofs.LastWaitLemmas.{plus_one, take_next}
use Rattle.closing.proofs.NamedLemmas.{none_brought}
use Rattle.closing.proofs.NumberLists.{or_false, or_true}
use Rattle.closing.proofs.PlainLemmas.{plain_after, plain_call}
use Rattle.closing.proofs.SurveyLemmas.{name_has}
use Rattle.closing.proofs.TableLemmas.{grows_same}

-- ---- All lines, and one of them ----

and_first : (a b : Bool) → (a && b) ≡ true → a ≡ true
and_first true b is = refl
and_first false b is = cc

and_next : (a b : Bool) → (a && b) ≡ true → b ≡ true
and_next true b is = is
and_next false b is = cc

both : (a b : Bool) → a ≡ true → b ≡ true → (a && b) ≡ true
both a b is too = rw (is, too) refl

all_more : (xs : List Line) (x : Line) → keep_to_world xs ≡ true → keeps_to_world x.word x.fields ≡ true → keep_to_world (xs ++ x ∷ []) ≡ true
all_more [] x all here = both (keeps_to_world x.word x.fields) true here refl
all_more (y ∷ ys) x all here =
    both (keeps_to_world y.word y.fields) (keep_to_world (ys ++ x ∷ [])) (and_first _ (keep_to_world ys) all)
    (all_more ys x (and_next (keeps_to_world y.word y.fields) _ all) here)

pub keep_more : (lines : List Line) (n : ℕ) (there : Line) → slice_get lines n ≡ Some there → keep_to_world (take n lines) ≡ true → keeps_at lines n ≡ true
    → keep_to_world (take (n + 1) lines) ≡ true
keep_more lines n there at all here =
    let so : keeps_to_world there.word there.fields ≡ true = sym (ap (λ (o : Option Line). option_map_or (λ (l : Line). keeps_to_world l.word l.fields) o true) at) ∙ here in
    ap keep_to_world (ap (λ (m : ℕ). take m lines) (plus_one n) ∙ take_next lines n there at) ∙ all_more (take n lines) there all so

pub keep_all : (lines : List Line) (n : ℕ) → length lines ≤ n → keep_to_world (take n lines) ≡ true → keep_to_world lines ≡ true
keep_all lines n past all = sym (ap keep_to_world (take_all n lines past)) ∙ all

pub named_here : (lines : List Line) (n : ℕ) → names_at_place lines n ≡ true → name_world lines ≡ true
named_here [] n here = cc
named_here (x ∷ xs) zero here = ap (λ (b : Bool). b || name_world xs) here
named_here (x ∷ xs) (suc n) here = ap (λ (b : Bool). names_world x.word x.fields || b) (named_here xs n here) ∙ or_true (names_world x.word x.fields)

none_or : (a b : Bool) → a ≡ false → b ≡ false → (a || b) ≡ false
none_or a b is too = rw (is, too) refl

none_more : (xs : List Line) (x : Line) → name_world xs ≡ false → names_world x.word x.fields ≡ false → name_world (xs ++ x ∷ []) ≡ false
none_more xs x none here = list_any-append (λ (l : Line). names_world l.word l.fields) xs (x ∷ []) ∙ none_or (name_world xs) (name_world (x ∷ [])) none (none_or _ false here refl)

pub named_later : (lines : List Line) (n : ℕ) (there : Line) → slice_get lines n ≡ Some there → name_world (take n lines) ≡ false → names_at_place lines n ≡ false
    → name_world (take (n + 1) lines) ≡ false
named_later lines n there at none here =
    let so : names_world there.word there.fields ≡ false = sym (ap (λ (o : Option Line). option_map_or (λ (l : Line). names_world l.word l.fields) o false) at) ∙ here in
    ap name_world (ap (λ (m : ℕ). take m lines) (plus_one n) ∙ take_next lines n there at) ∙ none_more (take n lines) there none so

pub named_none : (lines : List Line) (n : ℕ) → length lines ≤ n → name_world (take n lines) ≡ false → name_world lines ≡ false
named_none lines n past none = sym (ap name_world (take_all n lines past)) ∙ none

-- ---- What the rank has ----

bare_call : (word : CallWord) (fields : List Field) → is_bare word ≡ true → counts (called word fields) ≡ false
bare_call call.Init fields is = refl
bare_call call.Finalize fields is = refl
bare_call call.Abort fields is = refl
bare_call call.Exit fields is = refl
bare_call call.Full fields is = refl
bare_call call.Stopped fields is = refl
bare_call call.Cut fields is = refl
bare_call _ fields is = cc

bare_on_none : (word : CallWord) (fields : List Field) → is_bare word ≡ true → comm_of (called word fields) ≡ None
bare_on_none call.Init fields is = refl
bare_on_none call.Finalize fields is = refl
bare_on_none call.Abort fields is = refl
bare_on_none call.Exit fields is = refl
bare_on_none call.Full fields is = refl
bare_on_none call.Stopped fields is = refl
bare_on_none call.Cut fields is = refl
bare_on_none _ fields is = cc

counts_none : (word : CallWord) (fields : List Field) → keeps_to_world (Call word) fields ≡ true → counts (called word fields) ≡ false
counts_none word fields keeps = by (is_plain word) refl keeps
  where
    by : (b : Bool) → is_plain word ≡ b → (if b then is_world_if_any (comm_of (called word fields)) else is_bare word) ≡ true → counts (called word fields) ≡ false
    by true plain is = plain_call word fields plain
    by false plain is = bare_call word fields is

word_after : (rank : ℕ) (word : Word) (fields : List Field) → keeps_to_world word fields ≡ true → after_line (comms_first rank) (record { word = word; fields = fields }) ≡ comms_first rank
word_after rank (Call word) fields keeps = plain_after (comms_first rank) (called word fields) (counts_none word fields keeps)
word_after rank (Report word) fields keeps = sym (report_line (comms_first rank) word fields) ∙ none_brought (comms_first rank) word fields (no_not (brings word) keeps)
  where
    no_not : (b : Bool) → not b ≡ true → b ≡ false
    no_not true is = cc
    no_not false is = refl

lines_after : (rank : ℕ) (lines : List Line) → keep_to_world lines ≡ true → after_lines (comms_first rank) lines ≡ comms_first rank
lines_after rank [] keep = refl
lines_after rank (x ∷ xs) keep =
    ap (λ (comms : RankComms). after_lines comms xs) (word_after rank x.word x.fields (and_first (keeps_to_world x.word x.fields) (keep_to_world xs) keep))
    ∙ lines_after rank xs (and_next (keeps_to_world x.word x.fields) (keep_to_world xs) keep)

-- ---- What it names ----

abbrev world_if : Bool → Option Key
world_if true = Some World
world_if false = None

no_next : (comms : RankComms) (it : Called) → counts it ≡ false → key_next comms it ≡ None
no_next comms (MakesOfGroup group) none = cc
no_next comms it none = refl

on_world : (rank : ℕ) (comm : Option ℕ) → is_world_if_any comm ≡ true → option_and_then (key_under (comms_first rank)) comm ≡ world_if (is_world comm)
on_world rank None is = refl
on_world rank (Some comm) is =
    let none : comm ≡ 0 = eqb-true comm 0 is in
    subst (λ (n : ℕ). key_under (comms_first rank) n ≡ world_if (n == 0)) (sym none) refl

named_by_call : (rank : ℕ) (word : CallWord) (fields : List Field) → keeps_to_world (Call word) fields ≡ true
    → as_list (key_on (comms_first rank) (called word fields)) ≡ as_list (world_if (names_world (Call word) fields))
named_by_call rank word fields keeps = by (is_plain word) refl keeps
  where
    by : (b : Bool) → is_plain word ≡ b → (if b then is_world_if_any (comm_of (called word fields)) else is_bare word) ≡ true
        → as_list (key_on (comms_first rank) (called word fields)) ≡ as_list (world_if (names_world (Call word) fields))
    by true plain is =
        ap as_list (on_world rank (comm_of (called word fields)) is)
        ∙ ap (λ (b : Bool). as_list (world_if (b && is_world (comm_of (called word fields))))) (sym plain)
    by false plain is =
        ap (λ (o : Option ℕ). as_list (option_and_then (key_under (comms_first rank)) o)) (bare_on_none word fields is)
        ∙ ap (λ (b : Bool). as_list (world_if (b && is_world (comm_of (called word fields))))) (sym plain)

named_by : (rank : ℕ) (word : Word) (fields : List Field) → keeps_to_world word fields ≡ true → names_by (comms_first rank) word fields ≡ as_list (world_if (names_world word fields))
named_by rank (Call word) fields keeps =
    ap (λ (k : Option Key). as_list (or_else k (key_on (comms_first rank) (called word fields)))) (no_next (comms_first rank) (called word fields) (counts_none word fields keeps))
    ∙ named_by_call rank word fields keeps
named_by rank (Report word) fields keeps = refl

either : (key : Key) (a b : Bool) → (is_key_among key (as_list (world_if a)) || is_key_among key (as_list (world_if b))) ≡ is_key_among key (as_list (world_if (a || b)))
either key true true = once (same_key World key)
  where
    once : (c : Bool) → ((c || false) || (c || false)) ≡ (c || false)
    once true = refl
    once false = refl
either key true false = or_false (is_key_among key (as_list (world_if true)))
either key false b = refl

among_named : (rank : ℕ) (lines : List Line) (key : Key) → keep_to_world lines ≡ true
    → is_key_among key (names_from (comms_first rank) lines) ≡ is_key_among key (as_list (world_if (name_world lines)))
among_named rank [] key keep = refl
among_named rank (x ∷ xs) key keep =
    let here : keeps_to_world x.word x.fields ≡ true = and_first (keeps_to_world x.word x.fields) (keep_to_world xs) keep in
    let rest : keep_to_world xs ≡ true = and_next (keeps_to_world x.word x.fields) (keep_to_world xs) keep in
    list_any-append (λ (other : Key). same_key other key) (names_by (comms_first rank) x.word x.fields) (names_from (after_line (comms_first rank) x) xs)
    ∙ ap (λ (ks : List Key). is_key_among key ks || is_key_among key (names_from (after_line (comms_first rank) x) xs)) (named_by rank x.word x.fields here)
    ∙ ap (λ (comms : RankComms). is_key_among key (as_list (world_if (names_world x.word x.fields))) || is_key_among key (names_from comms xs)) (word_after rank x.word x.fields here)
    ∙ ap (λ (b : Bool). is_key_among key (as_list (world_if (names_world x.word x.fields))) || b) (among_named rank xs key rest)
    ∙ either key (names_world x.word x.fields) (name_world xs)

-- ---- What is kept ----

flags_same : (table : Table) (flags : List Bool) (xs ys : List Key) → ((key : Key) → is_key_among key xs ≡ is_key_among key ys) → HaveFlags table flags xs → HaveFlags table flags ys
flags_same table flags xs ys same has = record {
  named = λ place key at. has.named place key at ∙ same key;
  there = λ key among. has.there key (same key ∙ among);
}

world_at : (table : Table) (named : Bool) → slice_get (keys_in table) 0 ≡ Some World → IsPlaceOf table (world_place named) (world_if named)
world_at table true at = at
world_at table false at = tt

pub keeps_world : (before names : List Key) (rank : ℕ) (lines : List Line) (a b : Survey) (kept : CommsCode) → b ≡ record a { named = b.named }
    → b.named.items ≡ with_name (world_place (name_world lines)) a.named.items → keep_to_world lines ≡ true → HasRank before names (comms_first rank) a kept
    → Keeps before (names ++ names_from (comms_first rank) lines) (after_lines (comms_first rank) lines) a b kept
keeps_world before names rank lines a b kept same flags keep is =
    let first = comms_first rank in
    let key = world_if (name_world lines) in
    let keys : b.keys ≡ a.keys = ap (λ (s : Survey). s.keys) same in
    let one = name_has (before ++ first.keys) names a b (world_place (name_world lines)) key same flags is.room (world_at a.keys (name_world lines) is.has.table.world) is.has in
    let among : (k : Key) → is_key_among k (names ++ as_list key) ≡ is_key_among k (names ++ names_from first lines) = λ k.
    list_any-append (λ (other : Key). same_key other k) names (as_list key)
    ∙ ap (λ (c : Bool). is_key_among k names || c) (sym (among_named rank lines k keep))
    ∙ sym (list_any-append (λ (other : Key). same_key other k) names (names_from first lines)) in
    let has : HasGot (before ++ first.keys) (names ++ names_from first lines) b = record {
      table = one.0.table;
      got = one.0.got;
      named = flags_same b.keys b.named.items (names ++ as_list key) (names ++ names_from first lines) among one.0.named;
      few = one.0.few;
    } in
    let comms : HasComms b.keys kept first = subst (λ (t : Table). HasComms t kept first) (sym keys) is.has_comms in
    subst (λ (after : RankComms). Keeps before (names ++ names_from first lines) after a b kept) (sym (lines_after rank lines keep)) (record {
      is = record { has = has; room = one.1; has_comms = comms };
      grows = subst (λ (t : Table). Grows a.keys t) (sym keys) (grows_same a.keys is.has_comms.table_is);
    })
