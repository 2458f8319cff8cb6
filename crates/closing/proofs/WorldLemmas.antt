-- The world isn't among the keys that ranks get.
use Rattle.std.proofs.Common.{◌≡◌, refl, sym, ap, ◌∙◌, ℕ, Bool, true, false, ◌||◌, ◌&&◌, not, cond, if◌then◌else◌, List, [], ◌∷◌, ◌++◌, length, filter, option_map, option_and_then, Option, Some, None}
use Rattle.std.specs.List.{list_any, find, filter_map, flat_map, cons_option}
use Rattle.std.proofs.lemmas.Bool.{false≢true}
use Rattle.journals.specs.Entries.{group_in}
use Rattle.journals.specs.Lines.{Line}
use Rattle.journals.specs.declared.field.Field.{Field}
use Rattle.journals.specs.declared.field.Field.TheVariants.{Natural}
use Rattle.journals.specs.declared.word.Word.{Word}
use Rattle.journals.specs.declared.word.Word.TheVariants.{Call, Report}
use Rattle.journals.specs.declared.word.ReportWord.{ReportWord}
use Rattle.journals.specs.declared.word.ReportWord.TheVariants as report
use Rattle.closing.specs.Called.{Called, MakesOfGroup, called}
use Rattle.closing.specs.Keys.{Key, World, Apart, group_count, has_member, same_key, is_key_among, each_once}
use Rattle.closing.specs.RankComms.{RankComms, Wave, after_line, after_lines, after_report, after_word, duplicated_in, comms_after, comms_first, key_next, made_in, makes_comm, under, with_key, with_made, with_some}
use Rattle.closing.specs.Entries.{Run, Placed, all_entries, entries_at, lines_at, ranks_of}
use Rattle.closing.specs.Made.{inferred_key, is_wave, keys_at, keys_of_wave, made_with, may_give, others_key, reported_group, reported_key, wave_at}

abbrev pub some_world : List Key → Bool
some_world keys = list_any (same_key World) keys

abbrev pub is_world : Option Key → Bool
is_world None = false
is_world (Some key) = same_key World key

or_none_of : (a b : Bool) → a ≡ false → b ≡ false → (a || b) ≡ false
or_none_of a b e f = ap (λ x. x || b) e ∙ f

or_left : (a b : Bool) → (a || b) ≡ false → a ≡ false
or_left true b e = e
or_left false b e = refl

or_right : (a b : Bool) → (a || b) ≡ false → b ≡ false
or_right true b e = absurd (false≢true (sym e))
or_right false b e = e

-- ---- Lists without the world ----

pub append_worldless : (xs ys : List Key) → some_world xs ≡ false → some_world ys ≡ false → some_world (xs ++ ys) ≡ false
append_worldless [] ys h g = g
append_worldless (x ∷ xs) ys h g = or_none_of (same_key World x) (some_world (xs ++ ys)) (or_left (same_key World x) (some_world xs) h) (append_worldless xs ys (or_right (same_key World x) (some_world xs) h) g)

cons_worldless : (it : Option Key) (keys : List Key) → is_world it ≡ false → some_world keys ≡ false → some_world (cons_option it keys) ≡ false
cons_worldless None keys h g = g
cons_worldless (Some key) keys h g = or_none_of (same_key World key) (some_world keys) h g

pub map_worldless : {X : Type 0} (h : X → Option Key) (xs : List X) → ((x : X) → is_world (h x) ≡ false) → some_world (filter_map h xs) ≡ false
map_worldless h [] k = refl
map_worldless h (x ∷ xs) k = cons_worldless (h x) (filter_map h xs) (k x) (map_worldless h xs k)

found_worldless : (b : Bool) (key : Key) (other : Option Key) → same_key World key ≡ false → is_world other ≡ false → is_world (cond b (Some key) other) ≡ false
found_worldless true key other h g = h
found_worldless false key other h g = g

find_worldless : (t : Key → Bool) (keys : List Key) → some_world keys ≡ false → is_world (find t keys) ≡ false
find_worldless t [] h = refl
find_worldless t (key ∷ keys) h = found_worldless (t key) key (find t keys) (or_left (same_key World key) (some_world keys) h) (find_worldless t keys (or_right (same_key World key) (some_world keys) h))

kept_worldless : (b : Bool) (key : Key) (keys : List Key) → same_key World key ≡ false → some_world keys ≡ false → some_world (if b then key ∷ keys else keys) ≡ false
kept_worldless true key keys h g = or_none_of (same_key World key) (some_world keys) h g
kept_worldless false key keys h g = g

pub filter_worldless : (t : Key → Bool) (keys : List Key) → some_world keys ≡ false → some_world (filter t keys) ≡ false
filter_worldless t [] h = refl
filter_worldless t (key ∷ keys) h = kept_worldless (t key) key (filter t keys) (or_left (same_key World key) (some_world keys) h) (filter_worldless t keys (or_right (same_key World key) (some_world keys) h))

pub flat_worldless : (f : ℕ → List Key) (xs : List ℕ) → ((x : ℕ) → some_world (f x) ≡ false) → some_world (flat_map f xs) ≡ false
flat_worldless f [] h = refl
flat_worldless f (x ∷ xs) h = append_worldless (f x) (flat_map f xs) (h x) (flat_worldless f xs h)

any_push : (key last : Key) (keys : List Key) → is_key_among key (keys ++ last ∷ []) ≡ (is_key_among key keys || (same_key last key || false))
any_push key last [] = refl
any_push key last (k ∷ keys) = ap (λ b. same_key k key || b) (any_push key last keys) ∙ sym (or_assoc (same_key k key) (is_key_among key keys) (same_key last key || false))
  where
    or_assoc : (a b c : Bool) → ((a || b) || c) ≡ (a || (b || c))
    or_assoc true b c = refl
    or_assoc false b c = refl

no_more : (a b : Bool) → b ≡ false → (a || (b || false)) ≡ a
no_more true b e = refl
no_more false b e = ap (λ x. x || false) e

-- that the world stood before is nothing to those that aren't the world
pub once_world : (before keys : List Key) → some_world keys ≡ false → each_once (before ++ World ∷ []) keys ≡ each_once before keys
once_world before [] h = refl
once_world before (key ∷ keys) h =
    let first = or_left (same_key World key) (some_world keys) h in
    let rest = or_right (same_key World key) (some_world keys) h in
    let test : is_key_among key (before ++ World ∷ []) ≡ is_key_among key before = any_push key World before ∙ no_more (is_key_among key before) (same_key World key) first in
    ap (λ b. if b then each_once (before ++ World ∷ []) keys else key ∷ each_once (key ∷ before ++ World ∷ []) keys) test
    ∙ ap (λ xs. if is_key_among key before then xs else key ∷ each_once (key ∷ before ++ World ∷ []) keys) (once_world before keys rest)
    ∙ ap (λ xs. if is_key_among key before then each_once before keys else key ∷ xs) (once_world (key ∷ before) keys rest)

-- ---- What a rank has ----

next_worldless : (held : RankComms) (it : Called) → some_world held.keys ≡ false → some_world (with_some held.keys (key_next held it)) ≡ false
next_worldless held (MakesOfGroup group) h = append_worldless held.keys _ h refl
next_worldless held it h = h

with_key_worldless : (held : RankComms) (number : ℕ) (it : Option Key) → some_world held.keys ≡ false → is_world it ≡ false → some_world (with_key held number it).keys ≡ false
with_key_worldless held number None h g = h
with_key_worldless held number (Some key) h g = append_worldless held.keys (key ∷ []) h (or_none_of (same_key World key) false g refl)

made_worldless : (held : RankComms) (number : ℕ) (group : List ℕ) (own : Option Key) (wave : Option Wave) → held.wave ≡ wave → some_world held.keys ≡ false → some_world (with_made held number group own).keys ≡ false
made_worldless held number group (Some key) wave e h = h
made_worldless held number group None None e h = with_key_worldless held number (option_map (made_in group) held.wave) h (ap (λ w. is_world (option_map (made_in group) w)) e)
made_worldless held number group None (Some it) e h = with_key_worldless held number (option_map (made_in group) held.wave) h (ap (λ w. is_world (option_map (made_in group) w)) e)

no_duplicate : (group : List ℕ) (it : Option Wave) → is_world (option_map (duplicated_in group) it) ≡ false
no_duplicate group None = refl
no_duplicate group (Some wave) = refl

report_worldless : (held : RankComms) (word : ReportWord) (fields : List Field) (group : List ℕ) → some_world held.keys ≡ false → some_world (after_report held word fields group).keys ≡ false
report_worldless held report.Comm (Natural number ∷ fields) group h = made_worldless held number group held.own held.wave refl h
report_worldless held report.Idup (Natural number ∷ Natural request ∷ fields) group h = with_key_worldless held number (option_map (duplicated_in group) (under request held.duplicates)) h (no_duplicate group (under request held.duplicates))
report_worldless held report.Apart (Natural number ∷ fields) group h = append_worldless held.keys (Apart group (group_count group held.apart) ∷ []) h refl
report_worldless held word fields group h = h

word_worldless : (held : RankComms) (word : Word) (fields : List Field) (group : List ℕ) → some_world held.keys ≡ false → some_world (after_word held word fields group).keys ≡ false
word_worldless held (Call word) fields group h = next_worldless held (called word fields) h
word_worldless held (Report word) fields group h = report_worldless held word fields group h

lines_worldless : (held : RankComms) (lines : List Line) → some_world held.keys ≡ false → some_world (after_lines held lines).keys ≡ false
lines_worldless held [] h = h
lines_worldless held (line ∷ lines) h = lines_worldless (after_line held line) lines (word_worldless held line.word line.fields (group_in line) h)

-- ---- What others report ----

made_by_wave : (group : Option (List ℕ)) (wave : Option Wave) → is_world (option_and_then (made_with wave) group) ≡ false
made_by_wave None wave = refl
made_by_wave (Some group) None = refl
made_by_wave (Some group) (Some wave) = refl

if_worldless : (b : Bool) (it : Option Key) → is_world it ≡ false → is_world (if b then it else None) ≡ false
if_worldless true it h = h
if_worldless false it h = refl

reported_worldless : (placed : Placed) → is_world (reported_key placed) ≡ false
reported_worldless placed = if_worldless (makes_comm placed.called) (option_and_then (made_with (wave_at placed)) (reported_group placed)) (made_by_wave (reported_group placed) (wave_at placed))

others_worldless : (run : Run) (rank : ℕ) (wave : Option Wave) → is_world (option_and_then (others_key run rank) wave) ≡ false
others_worldless run rank None = refl
others_worldless run rank (Some wave) = find_worldless (has_member (length run) rank) (keys_of_wave run wave) (map_worldless reported_key (filter (λ placed. is_wave wave (wave_at placed)) (all_entries run)) reported_worldless)

inferred_worldless : (run : Run) (placed : Placed) → is_world (inferred_key run placed) ≡ false
inferred_worldless run placed = if_worldless (may_give placed.called && not placed.came_back) (option_and_then (others_key run placed.rank) (wave_at placed)) (others_worldless run placed.rank (wave_at placed))

-- no rank gets the world
pub rank_worldless : (run : Run) (rank : ℕ) → some_world (keys_at run rank) ≡ false
rank_worldless run rank = append_worldless (comms_after rank (lines_at run rank)).keys (filter_map (inferred_key run) (entries_at run rank)) (lines_worldless (comms_first rank) (lines_at run rank) refl) (map_worldless (inferred_key run) (entries_at run rank) (inferred_worldless run))

pub all_worldless : (run : Run) → some_world (flat_map (keys_at run) (ranks_of run)) ≡ false
all_worldless run = flat_worldless (keys_at run) (ranks_of run) (rank_worldless run)
