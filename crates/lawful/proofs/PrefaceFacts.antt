-- The preface of a rank's list: its rank gets each of its communicators that no call on a parent makes, each once.
use Rattle.std.proofs.Common.{◌≡◌, ◌⊎◌, ℕ, ◌+◌, ◌≤◌, ◌<◌, ◌==◌, ◌&&◌, ◌||◌, ℤ, pos, Bool, true, false, if◌then◌else◌, Option, Some, None, List, [], ◌∷◌, ◌++◌, length, map, refl, sym, ap, subst, ◌∙◌, arith, eq-eqb, eqb-true, inl, inr, append_assoc, append-nil}
use Rattle.std.specs.Prelude.{⊤}
use Rattle.std.specs.List.{list_any}
use Rattle.std.proofs.lemmas.Bool.{cases_Bool, cases_lt, false≢true, or_parts, and_from}
use Rattle.mpicall.specs.declared.call.Call.{Call}
use Rattle.mpicall.specs.declared.call.Call.TheVariants.{Split}
use Rattle.callstore.specs.Communicators.{does_make, holds}
use Rattle.pairing.specs.Faults.{is_member}
use Rattle.closing.specs.Keys.{Key, World, same_key, group_of_key, has_member}
use Rattle.closing.specs.Entries.{Run}
use Rattle.closing.specs.Numbers.{is_of_call, number_of, groups_of, preface_keys, share_member, put_in_line, put_in_lines, preface_lines, rank_in, preface_split, preface_of}
use Rattle.lawful.proofs.KeyLemmas.{same_key_is_equal, one_number_is_one_communicator}
use Rattle.lawful.proofs.HoldLemmas.{AllHold, hold_more, any_more}
use Rattle.lawful.proofs.KeyFacts.{same_key_self, one_if, times, is, times_push, counts_both, Numbered, world_number, preface_once, of_preface, in_preface, member_is, in_the_world, fresh}

-- ---- Lines of communicators ----

abbrev total : Key → List (List Key) → ℕ
total key [] = 0
total key (line ∷ lines) = times (is key) line + total key lines

put_total : (key : Key) (ranks : ℕ) (one : Key) (lines : List (List Key)) → total key (put_in_line ranks one lines) ≡ one_if (same_key one key) + total key lines
put_total key ranks one [] = omega arith
put_total key ranks one (line ∷ lines) =
    elim (cases_Bool (list_any (share_member ranks one) line)) [
      | inl shares ↦ rw shares (omega (arith, put_total key ranks one lines))
      | inr apart ↦ rw apart (omega (arith, times_push (is key) line one))
    ]

puts_total : (key : Key) (ranks : ℕ) (keys : List Key) (lines : List (List Key)) → total key (put_in_lines ranks keys lines) ≡ times (is key) keys + total key lines
puts_total key ranks [] lines = omega arith
puts_total key ranks (one ∷ keys) lines =
    omega (arith, puts_total key ranks keys (put_in_line ranks one lines), put_total key ranks one lines)

-- of the communicators of a line the rank has one at most
abbrev AreFew : ℕ → ℕ → List (List Key) → Type 0
AreFew ranks rank [] = ⊤
AreFew ranks rank (line ∷ lines) = (times (has_member ranks rank) line ≤ 1) × AreFew ranks rank lines

none_at : (rank : ℕ) (test : ℕ → Bool) (group : List ℕ) → list_any (λ (member : ℕ). member == rank) group ≡ true → list_any test group ≡ false → test rank ≡ false
none_at rank test [] has none = absurd (false≢true has)
none_at rank test (member ∷ group) has none =
    let parts = or_parts (test member) (list_any test group) none in
    elim (cases_Bool (member == rank)) [
      | inl here ↦ subst (λ (r : ℕ). test r ≡ false) (eqb-true member rank here) parts.0
      | inr there ↦ none_at rank test group (rw there at has) parts.1
    ]

none_shared : (ranks rank : ℕ) (key : Key) (line : List Key) → has_member ranks rank key ≡ true → list_any (share_member ranks key) line ≡ false → times (has_member ranks rank) line ≡ 0
none_shared ranks rank key [] has apart = refl
none_shared ranks rank key (other ∷ line) has apart =
    let parts = or_parts (share_member ranks key other) (list_any (share_member ranks key) line) apart in
    let other_has = none_at rank (λ (r : ℕ). has_member ranks r other) (group_of_key ranks key) has parts.0 in
    rw (other_has, none_shared ranks rank key line has parts.1) refl

put_few : (ranks rank : ℕ) (key : Key) (lines : List (List Key)) → AreFew ranks rank lines → AreFew ranks rank (put_in_line ranks key lines)
put_few ranks rank key [] few = (one_few (has_member ranks rank key), tt)
  where
    one_few : (b : Bool) → one_if b + 0 ≤ 1
    one_few true = omega arith
    one_few false = omega arith
put_few ranks rank key (line ∷ lines) few =
    elim (cases_Bool (list_any (share_member ranks key) line)) [
      | inl shares ↦ rw shares (few.0, put_few ranks rank key lines few.1)
      | inr apart ↦ rw apart (after apart (has_member ranks rank key) refl, few.1)
    ]
  where
    after : list_any (share_member ranks key) line ≡ false → (b : Bool) → has_member ranks rank key ≡ b → times (has_member ranks rank) (line ++ key ∷ []) ≤ 1
    after apart true has = let none = none_shared ranks rank key line has apart in let pushed = times_push (has_member ranks rank) line key in rw pushed (rw (has, none) (omega arith))
    after apart false lacks = let pushed = times_push (has_member ranks rank) line key in rw pushed (rw lacks (omega (arith, few.0)))

puts_few : (ranks rank : ℕ) (keys : List Key) (lines : List (List Key)) → AreFew ranks rank lines → AreFew ranks rank (put_in_lines ranks keys lines)
puts_few ranks rank [] lines few = few
puts_few ranks rank (key ∷ keys) lines few = puts_few ranks rank keys (put_in_line ranks key lines) (put_few ranks rank key lines few)

-- ---- The split of a line ----

record Brings (run : Run) (rank : ℕ) (line : List Key) (call : Call) : Type 0 where
  key : Key
  colour : ℕ
  place : ℤ
  stands : 1 ≤ times (is key) line
  member : has_member (length run) rank key ≡ true
  call_is : call ≡ Split 0 (Some colour) place (number_of run key)

split_is : (run : Run) (rank colour : ℕ) (line : List Key) → (preface_split run rank colour line ≡ Split 0 None (pos 0) None) ⊎ Brings run rank line (preface_split run rank colour line)
split_is run rank colour [] = inl refl
split_is run rank colour (key ∷ keys) = by_member (has_member (length run) rank key) refl (split_is run rank (colour + 1) keys)
  where
    wider : (call : Call) → Brings run rank keys call → Brings run rank (key ∷ keys) call
    wider call it = record { key = it.key; colour = it.colour; place = it.place; stands = omega (arith, it.stands); member = it.member; call_is = it.call_is }

    one_more : (n : ℕ) → 1 ≤ 1 + n
    one_more n = omega arith

    by_member : (b : Bool) → has_member (length run) rank key ≡ b → (preface_split run rank (colour + 1) keys ≡ Split 0 None (pos 0) None) ⊎ Brings run rank keys (preface_split run rank (colour + 1) keys) → ((if b then Split 0 (Some colour) (rank_in run rank key) (number_of run key) else preface_split run rank (colour + 1) keys) ≡ Split 0 None (pos 0) None) ⊎ Brings run rank (key ∷ keys) (if b then Split 0 (Some colour) (rank_in run rank key) (number_of run key) else preface_split run rank (colour + 1) keys)
    by_member true has others = inr (record {
      key = key;
      colour = colour;
      place = rank_in run rank key;
      stands = rw (same_key_self key) (one_more (times (is key) keys));
      member = has;
      call_is = refl;
    })
    by_member false lacks others =
        elim others [
          | inl none ↦ inl none
          | inr it ↦ inr (wider (preface_split run rank (colour + 1) keys) it)
        ]

-- the split makes the communicator of the line that has the rank
record Made (run : Run) (rank colour : ℕ) (line : List Key) (key : Key) : Type 0 where
  own : ℕ
  place : ℤ
  split : preface_split run rank colour line ≡ Split 0 (Some own) place (number_of run key)

split_makes : (run : Run) (rank colour : ℕ) (line : List Key) (key : Key) → has_member (length run) rank key ≡ true → 1 ≤ times (is key) line → times (has_member (length run) rank) line ≤ 1 → Made run rank colour line key
split_makes run rank colour [] key has stands few = absurd (omega (arith, stands))
split_makes run rank colour (first ∷ line) key has stands few =
    elim (cases_Bool (has_member (length run) rank first)) [
      | inl own ↦ here own (rw own at few)
      | inr lacks ↦ later lacks (split_makes run rank (colour + 1) line key has (after lacks) (omega (arith, rw lacks at few)))
    ]
  where
    later : has_member (length run) rank first ≡ false → Made run rank (colour + 1) line key → Made run rank colour (first ∷ line) key
    later lacks rest = record { own = rest.own; place = rest.place; split = rw lacks rest.split }

    here : has_member (length run) rank first ≡ true → 1 + times (has_member (length run) rank) line ≤ 1 → Made run rank colour (first ∷ line) key
    here own only =
        elim (cases_Bool (same_key first key)) [
          | inl same ↦ record {
            own = colour;
            place = rank_in run rank first;
            split = rw own (ap (λ (k : Key). Split 0 (Some colour) (rank_in run rank first) (number_of run k)) (same_key_is_equal first key same));
          }
          | inr apart ↦
              let others = counts_both (has_member (length run) rank) key line has (omega (arith, rw apart at stands)) in
              absurd (omega (arith, others, only))
        ]

    after : has_member (length run) rank first ≡ false → 1 ≤ times (is key) line
    after lacks =
        elim (cases_Bool (same_key first key)) [
          | inl same ↦ absurd (false≢true (sym lacks ∙ subst (λ (k : Key). has_member (length run) rank k ≡ true) (sym (same_key_is_equal first key same)) has))
          | inr apart ↦ omega (arith, rw apart at stands)
        ]

-- ---- The preface ----

-- the communicator that a number is of, which no call on a parent makes
pub record Prefaced (run : Run) (number : ℕ) : Type 0 where
  pub key : Key
  pub is_number : number_of run key ≡ Some number
  pub no_call : is_of_call key ≡ false

-- each communicator that is made so far was counted
record Counted (run : Run) (seen : Key → ℕ) (number : ℕ) : Type 0 where
  it : Prefaced run number
  stood : 1 ≤ seen it.key

abbrev AllCounted : Run → (Key → ℕ) → List Call → Type 0
AllCounted run seen calls = (number : ℕ) → list_any (does_make number) calls ≡ true → Counted run seen number

-- what the lines to come have
record Lines (run : Run) (seen : Key → ℕ) (lines : List (List Key)) : Type 0 where
  once : (key : Key) → seen key + total key lines ≤ 1
  own : (key : Key) → 1 ≤ total key lines → (is_of_call key ≡ false) × Numbered run key

record Begun (run : Run) (rank : ℕ) (seen : Key → ℕ) (calls : List Call) : Type 0 where
  all : AllHold (groups_of run) rank [] calls
  counted : AllCounted run seen calls

or_left : (a : Bool) → (a || false) ≡ true → a ≡ true
or_left true h = refl
or_left false h = absurd (false≢true h)

world_held : (run : Run) (rank : ℕ) (calls : List Call) → rank < length run → (is_member (groups_of run) rank 0 && holds calls 0) ≡ true
world_held run rank calls within =
    and_from (is_member (groups_of run) rank 0) (holds calls 0) (member_is run rank World 0 (world_number run) (in_the_world run rank within)) refl

bare_more : (run : Run) (rank : ℕ) (seen : Key → ℕ) (line : List Key) (calls : List Call) (call : Call) → rank < length run → call ≡ Split 0 None (pos 0) None → Begun run rank seen calls → Begun run rank (λ key. seen key + times (is key) line) (calls ++ call ∷ [])
bare_more run rank seen line calls call within bare begun = record {
  all = hold_more (groups_of run) rank calls call begun.all (rw bare (record { comms = world_held run rank calls within; afresh = refl }));
  counted = λ number made.
      let before : list_any (does_make number) calls ≡ true = or_left (list_any (does_make number) calls) (rw (any_more (does_make number) calls call, bare) at made) in
      let old = begun.counted number before in
      record { it = old.it; stood = omega (arith, old.stood) };
}

no_world : (key : Key) → is_of_call key ≡ false → same_key key World ≡ false
no_world World h = absurd (false≢true (sym h))
no_world _ h = refl

-- a number stands for a communicator that wasn't counted: no call made it
unmade : (run : Run) (seen : Key → ℕ) (calls : List Call) (key : Key) (number : ℕ) → AllCounted run seen calls → number_of run key ≡ Some number → seen key ≡ 0 → list_any (does_make number) calls ≡ false
unmade run seen calls key number all h none =
    elim (cases_Bool (list_any (does_make number) calls)) [
      | inl made ↦
          let old = all number made in
          let same : old.it.key ≡ key = one_number_is_one_communicator run old.it.key key number old.it.is_number h in
          let stood : 1 ≤ seen key = subst (λ (k : Key). 1 ≤ seen k) same old.stood in
          absurd (omega (arith, stood, none))
      | inr not_made ↦ not_made
    ]

made_more : (run : Run) (rank : ℕ) (seen : Key → ℕ) (line : List Key) (calls : List Call) (colour : ℕ) (place : ℤ) (key : Key) (number : ℕ) → rank < length run → number_of run key ≡ Some number → is_of_call key ≡ false → has_member (length run) rank key ≡ true → 1 ≤ times (is key) line → seen key ≡ 0 → Begun run rank seen calls → Begun run rank (λ k. seen k + times (is k) line) (calls ++ Split 0 (Some colour) place (Some number) ∷ [])
made_more run rank seen line calls colour place key number within h no_call has stands none begun =
    let call = Split 0 (Some colour) place (Some number) in
    let new = fresh run rank calls key number h (no_world key no_call) has (unmade run seen calls key number begun.counted h none) in record {
      all = hold_more (groups_of run) rank calls call begun.all (record { comms = world_held run rank calls within; afresh = new });
      counted = λ other made. elim (cases_Bool (list_any (does_make other) calls)) [
        | inl before ↦ let old = begun.counted other before in record { it = old.it; stood = omega (arith, old.stood) }
        | inr not_before ↦
            let last : (number == other) ≡ true = rw (any_more (does_make other) calls call, not_before) at made in
            let same : number ≡ other = eqb-true number other last in
            record {
              it = record { key = key; is_number = subst (λ (n : ℕ). number_of run key ≡ Some n) same h; no_call = no_call };
              stood = omega (arith, stands);
            }
      ];
    }

next_lines : (run : Run) (seen : Key → ℕ) (line : List Key) (lines : List (List Key)) → Lines run seen (line ∷ lines) → Lines run (λ key. seen key + times (is key) line) lines
next_lines run seen line lines it = record {
  once = λ key. omega (arith, it.once key);
  own = λ key stands. it.own key (omega (arith, stands));
}

split_more : (run : Run) (rank : ℕ) (seen : Key → ℕ) (line : List Key) (lines : List (List Key)) (calls : List Call) → rank < length run → Lines run seen (line ∷ lines) → Begun run rank seen calls → Begun run rank (λ key. seen key + times (is key) line) (calls ++ preface_split run rank 0 line ∷ [])
split_more run rank seen line lines calls within it begun =
    elim (split_is run rank 0 line) [
      | inl bare ↦ bare_more run rank seen line calls (preface_split run rank 0 line) within bare begun
      | inr brings ↦
          let own = it.own brings.key (omega (arith, brings.stands)) in
          let none : seen brings.key ≡ 0 = omega (arith, it.once brings.key, brings.stands) in
          let call_is : preface_split run rank 0 line ≡ Split 0 (Some brings.colour) brings.place (Some own.1.number) =
          brings.call_is ∙ ap (λ (o : Option ℕ). Split 0 (Some brings.colour) brings.place o) own.1.is_number in
          subst (λ (c : Call). Begun run rank (λ key. seen key + times (is key) line) (calls ++ c ∷ [])) (sym call_is)
          (made_more run rank seen line calls brings.colour brings.place brings.key own.1.number within own.1.is_number own.0 brings.member brings.stands none begun)
    ]

splits_more : (run : Run) (rank : ℕ) (seen : Key → ℕ) (lines : List (List Key)) (calls : List Call) → rank < length run → Lines run seen lines → Begun run rank seen calls → (AllHold (groups_of run) rank [] (calls ++ map (preface_split run rank 0) lines)) × ((number : ℕ) → list_any (does_make number) (calls ++ map (preface_split run rank 0) lines) ≡ true → Prefaced run number)
splits_more run rank seen [] calls within it begun = (
  subst (λ (all : List Call). AllHold (groups_of run) rank [] all) (sym (append-nil calls)) begun.all,
  λ number made. (begun.counted number (rw append-nil at made)).it,
)
splits_more run rank seen (line ∷ lines) calls within it begun =
    let call = preface_split run rank 0 line in
    let rest = splits_more run rank (λ key. seen key + times (is key) line) lines (calls ++ call ∷ []) within (next_lines run seen line lines it) (split_more run rank seen line lines calls within it begun) in
    let same = append_assoc calls (call ∷ []) (map (preface_split run rank 0) lines) in (
      subst (λ (all : List Call). AllHold (groups_of run) rank [] all) same rest.0,
      λ number made. rest.1 number (subst (λ (all : List Call). list_any (does_make number) all ≡ true) (sym same) made),
    )

preface_total : (run : Run) (key : Key) → total key (preface_lines run) ≡ times (is key) (preface_keys run)
preface_total run key = plus_zero (puts_total key (length run) (preface_keys run) [])
  where
    plus_zero : {a b : ℕ} → a ≡ b + 0 → a ≡ b
    plus_zero h = omega (arith, h)

preface_begun : (run : Run) → Lines run (λ key. 0) (preface_lines run)
preface_begun run = record {
  once = λ key. omega (arith, preface_total run key, preface_once run key);
  own = λ key stands. of_preface run key (omega (arith, preface_total run key, stands));
}

nothing_begun : (run : Run) (rank : ℕ) → Begun run rank (λ key. 0) []
nothing_begun run rank = record { all = tt; counted = λ number made. absurd (false≢true made) }

pub preface_holds : (run : Run) (rank : ℕ) → rank < length run → AllHold (groups_of run) rank [] (preface_of run rank)
preface_holds run rank within = (splits_more run rank (λ key. 0) (preface_lines run) [] within (preface_begun run) (nothing_begun run rank)).0

pub preface_made : (run : Run) (rank : ℕ) → rank < length run → (number : ℕ) → list_any (does_make number) (preface_of run rank) ≡ true → Prefaced run number
preface_made run rank within = (splits_more run rank (λ key. 0) (preface_lines run) [] within (preface_begun run) (nothing_begun run rank)).1

lines_make : (run : Run) (rank : ℕ) (lines : List (List Key)) (key : Key) (number : ℕ) → number_of run key ≡ Some number → has_member (length run) rank key ≡ true → AreFew (length run) rank lines → 1 ≤ total key lines → list_any (does_make number) (map (preface_split run rank 0) lines) ≡ true
lines_make run rank [] key number h has few stands = absurd (omega (arith, stands))
lines_make run rank (line ∷ lines) key number h has few stands =
    elim (cases_lt 0 (times (is key) line)) [
      | inl here ↦
          let made = split_makes run rank 0 line key has here few.0 in
          rw (made.split, h, eq-eqb number number refl) refl
      | inr there ↦
          rw (lines_make run rank lines key number h has few.1 (omega (arith, stands, there))) (or_true (does_make number (preface_split run rank 0 line)))
    ]
  where
    or_true : (b : Bool) → (b || true) ≡ true
    or_true true = refl
    or_true false = refl

-- the preface makes each that has the rank
pub preface_makes : (run : Run) (rank : ℕ) (key : Key) (number : ℕ) → is_of_call key ≡ false → has_member (length run) rank key ≡ true → number_of run key ≡ Some number → list_any (does_make number) (preface_of run rank) ≡ true
preface_makes run rank key number no_call has h =
    lines_make run rank (preface_lines run) key number h has (puts_few (length run) rank (preface_keys run) [] tt)
    (omega (arith, preface_total run key, in_preface run key number no_call h))
