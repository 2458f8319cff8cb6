-- A field that is a canonical number without a sign, in each form.
use Rattle.std.proofs.Common.{◌≡◌, ◌∙◌, ap, cond, refl, sym, ℕ, ◌-◌, ◌&&◌, ◌==◌, not, nat_le, nat_lt, Bool, true, false, Option, Some, None, List, [], ◌∷◌, length, option_map, inl, inr}
use Rattle.std.specs.Prelude.{codes, pos}
use Rattle.std.specs.Str.{all_ascii_digits, bytes_eq}
use Rattle.std.proofs.lemmas.Bool.{cases_Bool, and_parts, eqb-true, false≢true}
use Rattle.std.proofs.lemmas.Slice.Eq.{bytes_eq-Decides}
use Rattle.mpicall.specs.Number.{has_leading_zero, is_canonical, number_up_to, signed_of, value_of}
use Rattle.journals.specs.declared.limits.TheConstants.{GREATEST}
use Rattle.journals.specs.Fields.{or_named, peer_field, signed_field, field_of}
use Rattle.journals.specs.Lines.{begins_with_at}
use Rattle.journals.specs.inner.Fields.{number_field}
use Rattle.journals.specs.declared.field.Field.{Field}
use Rattle.journals.specs.declared.field.Field.TheVariants.{Natural, Signed, Null, Any, Undefined}
use Rattle.journals.specs.declared.form.Form.{Form}
use Rattle.journals.specs.declared.form.Form.TheVariants.{NewRequest, NewMessage, Request, Message, Comm, NewComm, Member, Peer, Source, Tag, SourceTag, Root, Colour, Key, Bytes}

if_some : (b : Bool) (v n : ℕ) → cond b (Some v) None ≡ Some n → (b ≡ true) × (v ≡ n)
if_some true v n is = (refl, cc)
if_some false v n is = cc

second : (a b c : Bool) → (a && b && c) ≡ true → b ≡ true
second true true c is = refl
second true false c is = cc
second false b c is = cc

-- what spells a number is canonical, and that is its value
spelled : (limit : ℕ) (text : List ℕ) (n : ℕ) → number_up_to limit text ≡ Some n → (is_canonical text ≡ true) × (value_of text ≡ n)
unfolding number_up_to
spelled limit text n is =
    let read = if_some (is_canonical text && nat_le (value_of text) limit) (value_of text) n is in
    ((and_parts (is_canonical text) (nat_le (value_of text) limit) read.0).0, read.1)

digits : (text : List ℕ) → is_canonical text ≡ true → all_ascii_digits text ≡ true
unfolding is_canonical
digits text is = second (nat_lt 0 (length text)) (all_ascii_digits text) (not (has_leading_zero text)) is

-- it is read with another limit likewise
other_limit : (limit other : ℕ) (text : List ℕ) (n : ℕ) → number_up_to limit text ≡ Some n → number_up_to other text ≡ cond (nat_le n other) (Some n) None
unfolding number_up_to
other_limit limit other text n is =
    let parts = spelled limit text n is in
    rw (parts.0, parts.1) refl

-- it is no name
no_name : (name text : List ℕ) (named : Field) (other : Option Field) → all_ascii_digits name ≡ false → all_ascii_digits text ≡ true → or_named name named text other ≡ other
no_name name text named other word is =
    elim (cases_Bool (bytes_eq text name)) [
      | inl same ↦ absurd (false≢true (sym word ∙ ap all_ascii_digits (sym ((bytes_eq-Decides text name).0 same)) ∙ is))
      | inr apart ↦ rw apart refl
    ]

nothing : (limit n : ℕ) → number_up_to limit [] ≡ Some n → ⊥
unfolding number_up_to is_canonical
nothing limit n is = cc

-- it has no sign
no_sign : (text : List ℕ) (n : ℕ) → number_up_to GREATEST text ≡ Some n → all_ascii_digits text ≡ true → signed_of text ≡ Some (pos n)
unfolding signed_of
no_sign [] n read is = absurd (nothing GREATEST n read)
no_sign (byte ∷ bytes) n read is =
    elim (cases_Bool (byte == 45)) [
      | inl minus ↦ let at : byte ≡ 45 = eqb-true byte 45 minus in absurd (false≢true (rw at at is))
      | inr apart ↦ rw (apart, read) refl
    ]

pub number_read : (ranks : ℕ) (form : Form) (text : List ℕ) (n : ℕ) → number_up_to GREATEST text ≡ Some n → field_of ranks form text ≡ number_field ranks form n
number_read ranks form text n read = by form
  where
    all : all_ascii_digits text ≡ true
    all = digits text (spelled GREATEST text n read).0

    signed : signed_field text ≡ Some (Signed (pos n))
    signed = ap (option_map Signed) (no_sign text n read all)

    peer : peer_field text ≡ Some (Signed (pos n))
    peer = no_name (codes "null") text Null (signed_field text) refl all ∙ signed

    within : (b : Bool) → option_map Natural (cond b (Some n) None) ≡ cond b (Some (Natural n)) None
    within true = refl
    within false = refl

    by : (it : Form) → field_of ranks it text ≡ number_field ranks it n
    by NewRequest = rw read refl
    by NewMessage = rw read refl
    by Request = rw read refl
    by Message = rw read refl
    by Comm = rw read refl
    by NewComm = rw read refl
    by Member = ap (option_map Natural) (other_limit GREATEST (ranks - 1) text n read) ∙ within (nat_le n (ranks - 1))
    by Peer = peer
    by Source = no_name (codes "any") text Any (peer_field text) refl all ∙ peer
    by Tag = signed
    by SourceTag = no_name (codes "any") text Any (signed_field text) refl all ∙ signed
    by Root = signed
    by Colour = no_name (codes "undefined") text Undefined (signed_field text) refl all ∙ signed
    by Key = signed
    by Bytes = rw read refl

-- it isn't a site
pub no_at : (text : List ℕ) (n : ℕ) → number_up_to GREATEST text ≡ Some n → begins_with_at (Some text) ≡ false
no_at [] n read = refl
no_at (byte ∷ bytes) n read =
    elim (cases_Bool (byte == 64)) [
      | inl is ↦ let at : byte ≡ 64 = eqb-true byte 64 is in absurd (false≢true (rw at at (digits (byte ∷ bytes) (spelled GREATEST (byte ∷ bytes) n read).0)))
      | inr apart ↦ apart
    ]
