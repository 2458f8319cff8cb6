-- Equations of tests, by all their cases.
use Rattle.std.proofs.Common.{◌≡◌, Bool, true, false, ◌&&◌, ◌||◌, not, refl}

pub once_more : (a d l n : Bool) → (a && (d && (l && n))) ≡ ((n && d) && (a && l))
once_more true true true true = refl
once_more true true true false = refl
once_more true true false true = refl
once_more true true false false = refl
once_more true false true true = refl
once_more true false true false = refl
once_more true false false true = refl
once_more true false false false = refl
once_more false true true true = refl
once_more false true true false = refl
once_more false true false true = refl
once_more false true false false = refl
once_more false false true true = refl
once_more false false true false = refl
once_more false false false true = refl
once_more false false false false = refl

pub all_but_more : (c e l m : Bool) → ((c && not e) && (l && not m)) ≡ ((c && l) && not (e || m))
all_but_more true true true true = refl
all_but_more true true true false = refl
all_but_more true true false true = refl
all_but_more true true false false = refl
all_but_more true false true true = refl
all_but_more true false true false = refl
all_but_more true false false true = refl
all_but_more true false false false = refl
all_but_more false true true true = refl
all_but_more false true true false = refl
all_but_more false true false true = refl
all_but_more false true false false = refl
all_but_more false false true true = refl
all_but_more false false true false = refl
all_but_more false false false true = refl
all_but_more false false false false = refl

pub or_false : (a : Bool) → (a || false) ≡ a
or_false true = refl
or_false false = refl

pub and_false : (a : Bool) → (a && false) ≡ false
and_false true = refl
and_false false = refl

pub and_true : (a : Bool) → (a && true) ≡ a
and_true true = refl
and_true false = refl

pub or_true : (a : Bool) → (a || true) ≡ true
or_true true = refl
or_true false = refl

pub or_comm : (a b : Bool) → (a || b) ≡ (b || a)
or_comm true true = refl
or_comm true false = refl
or_comm false true = refl
or_comm false false = refl

pub and_comm : (a b : Bool) → (a && b) ≡ (b && a)
and_comm true true = refl
and_comm true false = refl
and_comm false true = refl
and_comm false false = refl

pub or_assoc : (a b c : Bool) → ((a || b) || c) ≡ (a || (b || c))
or_assoc true true true = refl
or_assoc true true false = refl
or_assoc true false true = refl
or_assoc true false false = refl
or_assoc false true true = refl
or_assoc false true false = refl
or_assoc false false true = refl
or_assoc false false false = refl

pub and_assoc : (a b c : Bool) → ((a && b) && c) ≡ (a && (b && c))
and_assoc true true true = refl
and_assoc true true false = refl
and_assoc true false true = refl
and_assoc true false false = refl
and_assoc false true true = refl
and_assoc false true false = refl
and_assoc false false true = refl
and_assoc false false false = refl

pub not_not : (a : Bool) → not (not a) ≡ a
not_not true = refl
not_not false = refl

pub neither : (a b c d e : Bool) → ((((not a || not b) || not c) || not d) || not e) ≡ not ((((a && b) && c) && d) && e)
neither true true true true true = refl
neither true true true true false = refl
neither true true true false true = refl
neither true true true false false = refl
neither true true false true true = refl
neither true true false true false = refl
neither true true false false true = refl
neither true true false false false = refl
neither true false true true true = refl
neither true false true true false = refl
neither true false true false true = refl
neither true false true false false = refl
neither true false false true true = refl
neither true false false true false = refl
neither true false false false true = refl
neither true false false false false = refl
neither false true true true true = refl
neither false true true true false = refl
neither false true true false true = refl
neither false true true false false = refl
neither false true false true true = refl
neither false true false true false = refl
neither false true false false true = refl
neither false true false false false = refl
neither false false true true true = refl
neither false false true true false = refl
neither false false true false true = refl
neither false false true false false = refl
neither false false false true true = refl
neither false false false true false = refl
neither false false false false true = refl
neither false false false false false = refl

pub into_first : (x p q r s : Bool) → (x && (((p && q) && r) && s)) ≡ ((((x && p) && q) && r) && s)
into_first true true true true true = refl
into_first true true true true false = refl
into_first true true true false true = refl
into_first true true true false false = refl
into_first true true false true true = refl
into_first true true false true false = refl
into_first true true false false true = refl
into_first true true false false false = refl
into_first true false true true true = refl
into_first true false true true false = refl
into_first true false true false true = refl
into_first true false true false false = refl
into_first true false false true true = refl
into_first true false false true false = refl
into_first true false false false true = refl
into_first true false false false false = refl
into_first false true true true true = refl
into_first false true true true false = refl
into_first false true true false true = refl
into_first false true true false false = refl
into_first false true false true true = refl
into_first false true false true false = refl
into_first false true false false true = refl
into_first false true false false false = refl
into_first false false true true true = refl
into_first false false true true false = refl
into_first false false true false true = refl
into_first false false true false false = refl
into_first false false false true true = refl
into_first false false false true false = refl
into_first false false false false true = refl
into_first false false false false false = refl

pub into_second : (x p q r s : Bool) → (x && (((p && q) && r) && s)) ≡ (((p && (x && q)) && r) && s)
into_second true true true true true = refl
into_second true true true true false = refl
into_second true true true false true = refl
into_second true true true false false = refl
into_second true true false true true = refl
into_second true true false true false = refl
into_second true true false false true = refl
into_second true true false false false = refl
into_second true false true true true = refl
into_second true false true true false = refl
into_second true false true false true = refl
into_second true false true false false = refl
into_second true false false true true = refl
into_second true false false true false = refl
into_second true false false false true = refl
into_second true false false false false = refl
into_second false true true true true = refl
into_second false true true true false = refl
into_second false true true false true = refl
into_second false true true false false = refl
into_second false true false true true = refl
into_second false true false true false = refl
into_second false true false false true = refl
into_second false true false false false = refl
into_second false false true true true = refl
into_second false false true true false = refl
into_second false false true false true = refl
into_second false false true false false = refl
into_second false false false true true = refl
into_second false false false true false = refl
into_second false false false false true = refl
into_second false false false false false = refl

pub into_third : (x p q r s : Bool) → (x && (((p && q) && r) && s)) ≡ (((p && q) && (x && r)) && s)
into_third true true true true true = refl
into_third true true true true false = refl
into_third true true true false true = refl
into_third true true true false false = refl
into_third true true false true true = refl
into_third true true false true false = refl
into_third true true false false true = refl
into_third true true false false false = refl
into_third true false true true true = refl
into_third true false true true false = refl
into_third true false true false true = refl
into_third true false true false false = refl
into_third true false false true true = refl
into_third true false false true false = refl
into_third true false false false true = refl
into_third true false false false false = refl
into_third false true true true true = refl
into_third false true true true false = refl
into_third false true true false true = refl
into_third false true true false false = refl
into_third false true false true true = refl
into_third false true false true false = refl
into_third false true false false true = refl
into_third false true false false false = refl
into_third false false true true true = refl
into_third false false true true false = refl
into_third false false true false true = refl
into_third false false true false false = refl
into_third false false false true true = refl
into_third false false false true false = refl
into_third false false false false true = refl
into_third false false false false false = refl

pub into_fourth : (x p q r s : Bool) → (x && (((p && q) && r) && s)) ≡ (((p && q) && r) && (x && s))
into_fourth true true true true true = refl
into_fourth true true true true false = refl
into_fourth true true true false true = refl
into_fourth true true true false false = refl
into_fourth true true false true true = refl
into_fourth true true false true false = refl
into_fourth true true false false true = refl
into_fourth true true false false false = refl
into_fourth true false true true true = refl
into_fourth true false true true false = refl
into_fourth true false true false true = refl
into_fourth true false true false false = refl
into_fourth true false false true true = refl
into_fourth true false false true false = refl
into_fourth true false false false true = refl
into_fourth true false false false false = refl
into_fourth false true true true true = refl
into_fourth false true true true false = refl
into_fourth false true true false true = refl
into_fourth false true true false false = refl
into_fourth false true false true true = refl
into_fourth false true false true false = refl
into_fourth false true false false true = refl
into_fourth false true false false false = refl
into_fourth false false true true true = refl
into_fourth false false true true false = refl
into_fourth false false true false true = refl
into_fourth false false true false false = refl
into_fourth false false false true true = refl
into_fourth false false false true false = refl
into_fourth false false false false true = refl
into_fourth false false false false false = refl

pub keeps_apart : (h l a : Bool) → (h && (l && not a)) ≡ ((h && l) && not a)
keeps_apart true true true = refl
keeps_apart true true false = refl
keeps_apart true false true = refl
keeps_apart true false false = refl
keeps_apart false true true = refl
keeps_apart false true false = refl
keeps_apart false false true = refl
keeps_apart false false false = refl

pub all_and_apart : (l a d : Bool) → ((l && not a) && d) ≡ (l && (not a && d))
all_and_apart true true true = refl
all_and_apart true true false = refl
all_and_apart true false true = refl
all_and_apart true false false = refl
all_and_apart false true true = refl
all_and_apart false true false = refl
all_and_apart false false true = refl
all_and_apart false false false = refl

pub none_of_both : (m : Bool) → false ≡ (not (not m) && not m)
none_of_both true = refl
none_of_both false = refl

pub first_or : (x a b : Bool) → ((x || a) || b) ≡ ((x || false) || (a || b))
first_or true true true = refl
first_or true true false = refl
first_or true false true = refl
first_or true false false = refl
first_or false true true = refl
first_or false true false = refl
first_or false false true = refl
first_or false false false = refl

pub second_or : (x a b : Bool) → (a || (x || b)) ≡ ((false || x) || (a || b))
second_or true true true = refl
second_or true true false = refl
second_or true false true = refl
second_or true false false = refl
second_or false true true = refl
second_or false true false = refl
second_or false false true = refl
second_or false false false = refl
