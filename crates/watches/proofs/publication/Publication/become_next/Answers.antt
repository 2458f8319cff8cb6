use Rattle.std.proofs.Common.{◌≡◌, ◌++◌, ◌∷◌, [], List, Option, Some, true, length, sym, ap, subst, ◌∙◌, arith, length-append}
use Rattle.watches.specs.Publications.{at_start, last_published, is_rising}
use Rattle.watches.specs.declared.stands.Stands.{Stands}
use Rattle.watches.specs.Stands.{is_further}
use Rattle.watches.proofs.RisingLemmas.{may_follow, further_is_more, last_of_snoc, rising_snoc}
use Rattle.watches.proofs.PrefixLemmas.{prefix_get}
use Rattle.watches.proofs.publication.Publication.become_next.Goals as goal

-- one more after a list that rises
rises_on : (list longer : List Stands) (last stands : Stands) → longer ≡ list ++ stands ∷ [] → last_published list ≡ Some last → is_rising list ≡ true → is_further last.places stands.places ≡ true → is_rising longer ≡ true
rises_on list longer last stands is end rising further =
    ap is_rising is ∙ rising_snoc list stands rising (subst (λ (last : Option Stands). may_follow last stands ≡ true) (sym end) further)

pub invariant_of-self : goal.invariant_of-self
invariant_of-self c =
    let old = c.args.self.now in
    let stands = c.args.stands.now in
    let longer : c.known.result.list ≡ old.known.list ++ stands ∷ [] = c.known.ensures.1 ∙ (c.append.ensures.1 ∙ ap (λ (list : List Stands). list ++ stands ∷ []) c.requires.all) in
    let further : is_further old.stands.places stands.places ≡ true = sym c.is_behind.ensures.value ∙ c.if-not-is_behind.false in record {
      counts = omega (arith, old.counts, ap length longer, length-append old.known.list (stands ∷ []));
      last = ap last_published longer ∙ last_of_snoc old.known.list stands;
      first = prefix_get old.known.list c.known.result.list 0 at_start (stands ∷ [], sym longer) old.first;
      rising = rises_on old.known.list c.known.result.list old.stands stands longer old.last old.rising further;
      few = omega (arith, old.few, further_is_more old.stands.places stands.places further);
    }
