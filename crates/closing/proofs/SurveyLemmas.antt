-- The survey of the journals, line by line and rank by rank.
use Rattle.std.proofs.Common.{◌≡◌, ◌∙◌, refl, sym, ap, subst, ℕ, ◌+◌, ◌-◌, ◌≤◌, Bool, false, List, [], ◌∷◌, ◌++◌, length, take, replicate, Option, None, Some, append_assoc, length-append, arith}
use Rattle.std.specs.Prelude.{map, option_map}
use Rattle.std.specs.List.{AllZip, flat_map, slice_get}
use Rattle.std.proofs.lemmas.List.{append-nil, take_all}
use Rattle.std.proofs.lemmas.List.Concat.{flat_map-cons}
use Rattle.mpicall.specs.Word.{or_else}
use Rattle.journals.specs.Lines.{Line}
use Rattle.journals.specs.Taking.{word_at, fields_at, fields_in_line}
use Rattle.journals.specs.declared.field.Field.{Field}
use Rattle.journals.specs.declared.word.Word.{Word}
use Rattle.journals.specs.declared.word.Word.TheVariants.{Call, Report}
use Rattle.journals.specs.declared.word.CallWord.{CallWord}
use Rattle.journals.specs.declared.word.ReportWord.{ReportWord}
use Rattle.closing.specs.Called.{Called}
use Rattle.closing.specs.Keys.{Key}
use Rattle.closing.specs.RankComms.{RankComms, after_call, after_line, after_lines, key_next}
use Rattle.closing.specs.inner.Holds.{HasComms, key_on, report_taken, reported_line}
use Rattle.closing.specs.inner.Surveyed.{HaveFlags, HasGot, HasRank, Keeps, as_list, ends_from, names_by, names_from, with_name}
use Rattle.closing.specs.Table.{Table}
use Rattle.closing.specs.inner.Table.{Grows, HasKey, IsTable, IsPlaceOf}
use Rattle.closing.specs.declared.rank_comms.RankComms.{RankComms as CommsCode}
use Rattle.closing.specs.declared.survey.Survey.{Survey}
use Rattle.closing.proofs.HoldsLemmas.{report_line}
use Rattle.closing.proofs.LastWaitLemmas.{after_lines_more, plus_one, take_next}
use Rattle.closing.proofs.NamedLemmas.{codes_grow, got_grow, got_with, keys_with, named_grow, named_of_call, named_room, named_with, room_made, with_name_long}
use Rattle.closing.proofs.TableLemmas.{grows_on, grows_same}

names_more : (comms : RankComms) (xs ys : List Line) → names_from comms (xs ++ ys) ≡ names_from comms xs ++ names_from (after_lines comms xs) ys
names_more comms [] ys = refl
names_more comms (x ∷ xs) ys =
    ap (λ (ks : List Key). names_by comms x.word x.fields ++ ks) (names_more (after_line comms x) xs ys)
    ∙ sym (append_assoc (names_by comms x.word x.fields) (names_from (after_line comms x) xs) (names_from (after_lines (after_line comms x) xs) ys))

pub keeps_none : (before names : List Key) (comms : RankComms) (it : Survey) (kept : CommsCode) → HasRank before names comms it kept → Keeps before (names ++ []) comms it it kept
keeps_none before names comms it kept is = record {
  is = subst (λ (ks : List Key). HasRank before ks comms it kept) (sym (append-nil names)) is;
  grows = grows_same it.keys is.has_comms.table_is;
}

-- one more line is taken
pub keeps_more : (before names : List Key) (comms : RankComms) (lines : List Line) (i n : ℕ) (there : Line) (a b d : Survey) (k l : CommsCode)
    → slice_get lines i ≡ Some there → n ≡ i + 1
    → Keeps before (names ++ names_from comms (take i lines)) (after_lines comms (take i lines)) a b k
    → Keeps before ((names ++ names_from comms (take i lines)) ++ names_by (after_lines comms (take i lines)) there.word there.fields)
    (after_line (after_lines comms (take i lines)) there) b d l
    → Keeps before (names ++ names_from comms (take n lines)) (after_lines comms (take n lines)) a d l
keeps_more before names comms lines i n there a b d k l at next first more =
    let so_far : RankComms = after_lines comms (take i lines) in
    let taken : take n lines ≡ take i lines ++ there ∷ [] = ap (λ (m : ℕ). take m lines) (next ∙ plus_one i) ∙ take_next lines i there at in
    let named : names ++ names_from comms (take n lines) ≡ (names ++ names_from comms (take i lines)) ++ names_by so_far there.word there.fields =
    ap (λ (ls : List Line). names ++ names_from comms ls) taken
    ∙ ap (λ (ks : List Key). names ++ ks)
    (names_more comms (take i lines) (there ∷ []) ∙ ap (λ (ks : List Key). names_from comms (take i lines) ++ ks) (append-nil (names_by so_far there.word there.fields)))
    ∙ sym (append_assoc names (names_from comms (take i lines)) (names_by so_far there.word there.fields)) in
    let has : after_lines comms (take n lines) ≡ after_line so_far there =
    ap (λ (ls : List Line). after_lines comms ls) taken ∙ after_lines_more comms (take i lines) (there ∷ []) in
    record {
      is = subst (λ (c : RankComms). HasRank before (names ++ names_from comms (take n lines)) c d l) (sym has)
          (subst (λ (ks : List Key). HasRank before ks (after_line so_far there) d l) (sym named) more.is);
      grows = grows_on a.keys b.keys d.keys first.grows more.grows;
    }

-- all lines are taken
pub keeps_all : (before names : List Key) (comms : RankComms) (lines : List Line) (n : ℕ) (a b : Survey) (k : CommsCode) → length lines ≤ n
    → Keeps before (names ++ names_from comms (take n lines)) (after_lines comms (take n lines)) a b k
    → Keeps before (names ++ names_from comms lines) (after_lines comms lines) a b k
keeps_all before names comms lines n a b k past keeps =
    subst (λ (ls : List Line). Keeps before (names ++ names_from comms ls) (after_lines comms ls) a b k) (take_all n lines past) keeps

-- ---- Where the keys of ranks end ----

pub ends_more : {A : Type 0} (f : A → List Key) (start : ℕ) (xs : List A) (x : A)
    → ends_from start (map f (xs ++ x ∷ [])) ≡ ends_from start (map f xs) ++ (start + length (flat_map f xs ++ f x)) ∷ []
ends_more f start [] x = refl
ends_more f start (y ∷ ys) x =
    ap (λ (ns : List ℕ). (start + length (f y)) ∷ ns) (ends_more f (start + length (f y)) ys x)
    ∙ ap (λ (n : ℕ). (start + length (f y)) ∷ (ends_from (start + length (f y)) (map f ys) ++ n ∷ [])) (sums f start y ys x)
  where
    sums : {A : Type 0} (f : A → List Key) (start : ℕ) (y : A) (ys : List A) (x : A)
        → start + length (f y) + length (flat_map f ys ++ f x) ≡ start + length (flat_map f (y ∷ ys) ++ f x)
    sums f start y ys x =
        omega (arith, length-append (flat_map f ys) (f x), length-append (flat_map f (y ∷ ys)) (f x), ap length (flat_map-cons f y ys), length-append (f y) (flat_map f ys))

-- ---- What is kept, as parts of it change ----

-- each key has a flag
abbrev pub HasRoom : Survey → Type 0
HasRoom it = length it.named.items ≡ length it.keys.codes

-- each key that has none gets one
abbrev pub MakesRoom : Survey → Survey → Type 0
MakesRoom a b = length a.named.items ≤ length a.keys.codes → b.named.items ≡ a.named.items ++ replicate (length a.keys.codes - length a.named.items) false

pub grow_has : (gots names : List Key) (a b : Survey) → b ≡ record a { keys = b.keys } → Grows a.keys b.keys → HasGot gots names a → HasGot gots names b
grow_has gots names a b same grows has = record {
  table = grows.table;
  got = subst (λ (ps : List ℕ). AllZip (HasKey b.keys) ps gots) (sym (ap (λ (s : Survey). s.got.items) same)) (got_grow a.keys b.keys a.got.items gots grows has.got);
  named = subst (λ (fs : List Bool). HaveFlags b.keys fs names) (sym (ap (λ (s : Survey). s.named.items) same))
      (named_grow a.keys b.keys a.named.items names has.table has.few grows has.named);
  few = omega (arith, has.few, ap (λ (s : Survey). length s.named.items) same, codes_grow a.keys b.keys grows);
}

pub room_has : (gots names : List Key) (a b : Survey) → b ≡ record a { named = b.named } → MakesRoom a b → HasGot gots names a → HasGot gots names b × HasRoom b
room_has gots names a b same makes has =
    let keys : b.keys ≡ a.keys = ap (λ (s : Survey). s.keys) same in
    let got : b.got.items ≡ a.got.items = ap (λ (s : Survey). s.got.items) same in
    let flags = makes has.few in
    let long : length b.named.items ≡ length a.keys.codes = ap length flags ∙ room_made a.named.items (length a.keys.codes) has.few in
    let room : HasRoom b = long ∙ sym (ap (λ (t : Table). length t.codes) keys) in (
      record {
        table = subst (λ (t : Table). IsTable t) (sym keys) has.table;
        got = subst (λ (t : Table). AllZip (HasKey t) b.got.items gots) (sym keys) (subst (λ (ps : List ℕ). AllZip (HasKey a.keys) ps gots) (sym got) has.got);
        named = subst (λ (t : Table). HaveFlags t b.named.items names) (sym keys)
            (subst (λ (fs : List Bool). HaveFlags a.keys fs names) (sym flags) (named_room a.keys a.named.items (length a.keys.codes - length a.named.items) names has.named));
        few = omega (arith, room);
      },
      room,
    )

pub name_has : (gots names : List Key) (a b : Survey) (place : Option ℕ) (key : Option Key) → b ≡ record a { named = b.named } → b.named.items ≡ with_name place a.named.items
    → HasRoom a → IsPlaceOf a.keys place key → HasGot gots names a → HasGot gots (names ++ as_list key) b × HasRoom b
name_has gots names a b place key same flags room at has =
    let keys : b.keys ≡ a.keys = ap (λ (s : Survey). s.keys) same in
    let got : b.got.items ≡ a.got.items = ap (λ (s : Survey). s.got.items) same in
    let long : HasRoom b = ap length flags ∙ with_name_long place a.named.items ∙ room ∙ sym (ap (λ (t : Table). length t.codes) keys) in (
      record {
        table = subst (λ (t : Table). IsTable t) (sym keys) has.table;
        got = subst (λ (t : Table). AllZip (HasKey t) b.got.items gots) (sym keys) (subst (λ (ps : List ℕ). AllZip (HasKey a.keys) ps gots) (sym got) has.got);
        named = subst (λ (t : Table). HaveFlags t b.named.items (names ++ as_list key)) (sym keys)
            (subst (λ (fs : List Bool). HaveFlags a.keys fs (names ++ as_list key)) (sym flags) (named_with a.keys a.named.items names place key has.table room at has.named));
        few = omega (arith, long);
      },
      long,
    )

pub push_has : (gots more names : List Key) (a b : Survey) (place : Option ℕ) → b ≡ record a { got = b.got } → b.got.items ≡ a.got.items ++ as_list place
    → AllZip (HasKey a.keys) (a.got.items ++ as_list place) more → HasRoom a → HasGot gots names a → HasGot more names b × HasRoom b
push_has gots more names a b place same pushed all room has =
    let keys : b.keys ≡ a.keys = ap (λ (s : Survey). s.keys) same in
    let flags : b.named.items ≡ a.named.items = ap (λ (s : Survey). s.named.items) same in
    let long : HasRoom b = ap length flags ∙ room ∙ sym (ap (λ (t : Table). length t.codes) keys) in (
      record {
        table = subst (λ (t : Table). IsTable t) (sym keys) has.table;
        got = subst (λ (t : Table). AllZip (HasKey t) b.got.items more) (sym keys) (subst (λ (ps : List ℕ). AllZip (HasKey a.keys) ps more) (sym pushed) all);
        named = subst (λ (t : Table). HaveFlags t b.named.items names) (sym keys) (subst (λ (fs : List Bool). HaveFlags a.keys fs names) (sym flags) has.named);
        few = omega (arith, long);
      },
      long,
    )

-- ---- A call ----

pub group_takes : (gots names : List Key) (a b d e : Survey) (place : Option ℕ) (own : Option Key)
    → b ≡ record a { named = b.named } → MakesRoom a b → d ≡ record b { named = d.named } → d.named.items ≡ with_name place b.named.items
    → e ≡ record d { got = e.got } → e.got.items ≡ d.got.items ++ as_list place
    → IsPlaceOf a.keys place own → HasGot gots names a → HasGot (gots ++ as_list own) (names ++ as_list own) e
group_takes gots names a b d e place own same_b makes same_d flags same_e pushed at has =
    let keys_b : b.keys ≡ a.keys = ap (λ (s : Survey). s.keys) same_b in
    let keys_d : d.keys ≡ a.keys = ap (λ (s : Survey). s.keys) same_d ∙ keys_b in
    let one = room_has gots names a b same_b makes has in
    let two = name_has gots names b d place own same_d flags one.1 (subst (λ (t : Table). IsPlaceOf t place own) (sym keys_b) at) one.0 in
    (push_has gots (gots ++ as_list own) (names ++ as_list own) d e place same_e pushed
    (got_with d.keys d.got.items gots place own (subst (λ (t : Table). IsPlaceOf t place own) (sym keys_d) at) two.0.got) two.1 two.0).0

pub group_room : (a b d e : Survey) (place : Option ℕ) → b ≡ record a { named = b.named } → MakesRoom a b → d ≡ record b { named = d.named }
    → d.named.items ≡ with_name place b.named.items → e ≡ record d { got = e.got } → length a.named.items ≤ length a.keys.codes → HasRoom e
group_room a b d e place same_b makes same_d flags same_e few =
    ap (λ (s : Survey). length s.named.items) same_e ∙ ap length flags ∙ with_name_long place b.named.items
    ∙ ap length (makes few) ∙ room_made a.named.items (length a.keys.codes) few
    ∙ sym (ap (λ (s : Survey). length s.keys.codes) same_e ∙ ap (λ (s : Survey). length s.keys.codes) same_d ∙ ap (λ (s : Survey). length s.keys.codes) same_b)

-- where nothing was got
pub none_takes : (it : Survey) (gots names : List Key) (key : Option Key) → HasGot gots names it → IsPlaceOf it.keys None key → HasGot (gots ++ as_list key) (names ++ as_list key) it
none_takes it gots names None has at =
    subst (λ (ks : List Key). HasGot ks (names ++ []) it) (sym (append-nil gots)) (subst (λ (ks : List Key). HasGot gots ks it) (sym (append-nil names)) has)
none_takes it gots names (Some key) has at = absurd at

pub call_takes : (before names : List Key) (it : RankComms) (said : Called) (a b d e : Survey) (k l : CommsCode) (on own : Option ℕ) → HasRank before names it a k
    → IsPlaceOf a.keys on (key_on it said) → b ≡ record a { named = b.named } → b.named.items ≡ with_name on a.named.items
    → d ≡ record b { keys = d.keys } → Grows b.keys d.keys → HasComms d.keys l (after_call it said)
    → ((gots others : List Key) (key : Option Key) → HasGot gots others d → IsPlaceOf d.keys own key → HasGot (gots ++ as_list key) (others ++ as_list key) e)
    → (length d.named.items ≤ length d.keys.codes → HasRoom e) → IsPlaceOf d.keys own (key_next it said) → e ≡ record d { named = e.named; got = e.got }
    → Keeps before (names ++ as_list (or_else (key_next it said) (key_on it said))) (after_call it said) a e l
call_takes before names it said a b d e k l on own is at same_b flags same_d grows comms takes room got same_e =
    let keys_b : b.keys ≡ a.keys = ap (λ (s : Survey). s.keys) same_b in
    let keys_e : e.keys ≡ d.keys = ap (λ (s : Survey). s.keys) same_e in
    let one = name_has (before ++ it.keys) names a b on (key_on it said) same_b flags is.room at is.has in
    let two = grow_has (before ++ it.keys) (names ++ as_list (key_on it said)) b d same_d grows one.0 in
    let three = takes (before ++ it.keys) (names ++ as_list (key_on it said)) (key_next it said) two got in
    let keys : (before ++ it.keys) ++ as_list (key_next it said) ≡ before ++ (after_call it said).keys =
    append_assoc before it.keys (as_list (key_next it said)) ∙ ap (λ (ks : List Key). before ++ ks) (sym (keys_with it.keys (key_next it said))) in
    let named : (names ++ as_list (key_on it said)) ++ as_list (key_next it said) ≡ names ++ as_list (or_else (key_next it said) (key_on it said)) =
    append_assoc names (as_list (key_on it said)) (as_list (key_next it said)) ∙ ap (λ (ks : List Key). names ++ ks) (sym (named_of_call it said)) in
    record {
      is = record {
        has = subst (λ (ks : List Key). HasGot ks (names ++ as_list (or_else (key_next it said) (key_on it said))) e) keys
            (subst (λ (ks : List Key). HasGot ((before ++ it.keys) ++ as_list (key_next it said)) ks e) named three);
        room = room two.few;
        has_comms = subst (λ (t : Table). HasComms t l (after_call it said)) (sym keys_e) comms;
      };
      grows = subst (λ (t : Table). Grows a.keys t) (sym keys_e) (subst (λ (t : Table). Grows t d.keys) keys_b grows);
    }

-- ---- A report, and the start of a rank ----

pub got_takes : (before names more : List Key) (it : RankComms) (a b d e : Survey) (l : CommsCode) (place : Option ℕ) → HasGot before names a
    → b ≡ record a { keys = b.keys } → Grows a.keys b.keys → d ≡ record b { named = d.named } → MakesRoom b d
    → e ≡ record d { got = e.got } → e.got.items ≡ d.got.items ++ as_list place
    → AllZip (HasKey b.keys) (a.got.items ++ as_list place) (more ++ it.keys) → HasComms b.keys l it → Keeps more names it a e l
got_takes before names more it a b d e l place has same_b grows same_d makes same_e pushed all comms =
    let keys_d : d.keys ≡ b.keys = ap (λ (s : Survey). s.keys) same_d in
    let keys_e : e.keys ≡ b.keys = ap (λ (s : Survey). s.keys) same_e ∙ keys_d in
    let got_d : a.got.items ≡ d.got.items = sym (ap (λ (s : Survey). s.got.items) same_d ∙ ap (λ (s : Survey). s.got.items) same_b) in
    let one = grow_has before names a b same_b grows has in
    let two = room_has before names b d same_d makes one in
    let all_d : AllZip (HasKey d.keys) (d.got.items ++ as_list place) (more ++ it.keys) =
    subst (λ (t : Table). AllZip (HasKey t) (d.got.items ++ as_list place) (more ++ it.keys)) (sym keys_d)
    (subst (λ (ps : List ℕ). AllZip (HasKey b.keys) (ps ++ as_list place) (more ++ it.keys)) got_d all) in
    let three = push_has before (more ++ it.keys) names d e place same_e pushed all_d two.1 two.0 in
    record {
      is = record { has = three.0; room = three.1; has_comms = subst (λ (t : Table). HasComms t l it) (sym keys_e) comms };
      grows = subst (λ (t : Table). Grows a.keys t) (sym keys_e) grows;
    }

-- ---- A line ----

pub call_line : (there : Line) (word : CallWord) (fields : List Field) → there.word ≡ Call word → fields ≡ there.fields → there ≡ record { word = Call word; fields = fields }
call_line there word fields e f = λ i. record { word = e i; fields = sym f i }

pub report_there : (there : Line) (word : ReportWord) (fields : List Field) → there.word ≡ Report word → fields ≡ there.fields → there ≡ record { word = Report word; fields = fields }
report_there there word fields e f = λ i. record { word = e i; fields = sym f i }

pub word_there : (lines : List Line) (place : ℕ) (there : Line) (word : Word) → slice_get lines place ≡ Some there → word_at lines place ≡ Some word → there.word ≡ word
word_there lines place there word at e =
    let k : ◌≡◌ {A = Option Word} (Some there.word) (Some word) = sym (ap (λ (o : Option Line). option_map (λ (l : Line). l.word) o) at) ∙ e in cc

pub fields_there : (lines : List Line) (place : ℕ) (there : Line) → slice_get lines place ≡ Some there → fields_at lines place ≡ there.fields
fields_there lines place there at = ap (λ (o : Option Line). fields_in_line o) at

pub line_keeps : (before names : List Key) (it : RankComms) (there line : Line) (a b : Survey) (l : CommsCode) → there ≡ line
    → Keeps before (names ++ names_by it line.word line.fields) (after_line it line) a b l → Keeps before (names ++ names_by it there.word there.fields) (after_line it there) a b l
line_keeps before names it there line a b l same keeps =
    subst (λ (x : Line). Keeps before (names ++ names_by it x.word x.fields) (after_line it x) a b l) (sym same) keeps

pub report_keeps : (before names : List Key) (it : RankComms) (word : ReportWord) (fields : List Field) (a b : Survey) (l : CommsCode)
    → Keeps before names (report_taken it word fields) a b l → Keeps before (names ++ []) (after_line it (reported_line word fields)) a b l
report_keeps before names it word fields a b l keeps =
    subst (λ (c : RankComms). Keeps before (names ++ []) c a b l) (report_line it word fields)
    (subst (λ (ks : List Key). Keeps before ks (report_taken it word fields) a b l) (sym (append-nil names)) keeps)

-- what lines don't change
pub same_survey : (a b d : Survey) → b ≡ record a { keys = b.keys; named = b.named; got = b.got } → d ≡ record b { keys = d.keys; named = d.named; got = d.got }
    → d ≡ record a { keys = d.keys; named = d.named; got = d.got }
same_survey a b d first more =
    more ∙ ap (λ (s : Survey). record s { keys = d.keys; named = d.named; got = d.got }) first

pub keeps_on : (before names others : List Key) (it after : RankComms) (a b d : Survey) (k l : CommsCode) → Keeps before names it a b k → Keeps before others after b d l
    → Keeps before others after a d l
keeps_on before names others it after a b d k l first more = record { is = more.is; grows = grows_on a.keys b.keys d.keys first.grows more.grows }
