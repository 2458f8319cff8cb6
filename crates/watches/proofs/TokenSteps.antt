-- What the tokens of a list do: the list is begun and written on, and what is known of it can be had twice. Assumes
-- `Logic`.
use Rattle.std.proofs.Common.{ℕ, List, [], ◌∷◌}
use seplogic.Ra.Ura.{Ura}
use base.Share
use base.Fraction.{full_share}
use base.Logic.{SProp, ent, sep}
use base.Fml.{Lft, Share, Fml, fbor}
use base.Growing.{latest, at_least}
use base.Shift.{Keyless}
use ghost.Rules.{Halves}
use types.Logic.{Logic, sem, lfts}
use types.Growing.{latest_cut, latest_glue, at_least_dup}
use types.Tokens.{bor_fracture}
use types.Kit.{‵, raw, ◌$◌, ◌∵◌, !, qed, updating, now, done}
use denote.Sharing.{one}
use denote.Struct.Lending.{Lends}
use Rattle.watches.specs.declared.stands.Stands.{Stands}
use Rattle.watches.specs.inner.Tokens.{lists, is_all, begins_so}

pub all_keyless : (name : ℕ) (list : List Stands) (share : Share) → Keyless (is_all name list share)
unfolding latest
all_keyless name list share = tt

pub begins_keyless : (name : ℕ) (list : List Stands) → Keyless (begins_so name list)
unfolding at_least
begins_keyless name list = tt

module _ {M : Type 1} {𝓤 : Ura M} (𝓛 : Logic 𝓤) where
  open 𝓛 use {H, A}

  abbrev Pr : Type 2
  Pr = SProp 𝓤

  abbrev ◌⊢◌ : Pr → Pr → Type 1
  P ⊢ Q = ent 𝓤 P Q

  abbrev ◌∗◌ : Pr → Pr → Pr
  P ∗ Q = sep 𝓤 P Q

  abbrev ⟦◌⟧ : Fml → Pr
  ⟦ P ⟧ = sem 𝓛 P

  infix 26 ◌⊢◌
  infixr 35 ◌∗◌
  pub known_twice : (name : ℕ) (list : List Stands) → ⟦ begins_so name list ⟧ ⊢ ⟦ begins_so name list ⟧ ∗ ⟦ begins_so name list ⟧
  known_twice name list = at_least_dup lists 𝓛 name list

  pub halves : (name : ℕ) (list : List Stands) → Halves 𝓤 H A (is_all name list)
  halves name list = record {
    cut = λ q. latest_cut lists 𝓛 q (Share.left q) (Share.right q) name list (Share.halves q);
    join = λ q. latest_glue lists 𝓛 q (Share.left q) (Share.right q) name list (Share.halves q);
  }

  pub pen_lends : (name : ℕ) (list : List Stands) (l : Lft) → Lends 𝓛 (is_all name list full_share) (one (is_all name list)) l
  pen_lends name list l κ ts inc sp =
      qed 𝓛 (‵ (fbor κ (is_all name list full_share)) ∷ raw (lfts 𝓛 ts) ∷ []) ∵ updating ! $ bor_fracture ! tt (is_all name list) full_share $ now ! $ done !
