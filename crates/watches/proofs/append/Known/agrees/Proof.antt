-- What two know of one list has a least bound.
use Rattle.watches.proofs.TokenWalks.{◌≡◌, ℕ, List, [], ◌∷◌, refl, IsPrefix, named, Val, vunit, vptr, SProp, emp, Fml, ftrue, fsep, flft, fhide, Least, ‵, ◌⊛◌, some, given, ◌$◌, ◌∵◌, !, qed, by, move, keep, drop, split, fsplit, fjoin, pick, learn, use1, use2, rewrite, feq_i, of_opd, unit_lit, returns, enter, alloc_all, pass_all, free_all, look_at, sets, at_least_join, fact_i, tables, yes, RattleType, owns, types_at, plain, RefOf, unit, shr_vals, shr_Tells, hidden_shr, unhide, nothing, lent_out, Stays, stay_dropped, walk_of, Goes-dropped, proved, Token, ends, Stands, lists, begins_so}
use Rattle.core.specs.contracts.marker.PhantomData as marker
use Rattle.watches.specs.contracts.append.Known as Known
use Rattle.watches.specs.contracts.append.Known.agrees.{ended, clauses}
use Rattle.watches.specs.contracts.append.Known.agrees.Key.{name as #self}
use Rattle.watches.proofs.append.Known.agrees.Statement.{statement}
use Rattle.watches.proofs.append.Known.agrees.Code as code

pub agrees_spec : {M : Type 1} → statement M
agrees_spec 𝓤 𝓛 𝓜 𝓡 wired =
    let H = 𝓛.H in let 𝓣 = tables 𝓤 H 𝓜 𝓡 𝓡.env in let fn = code.function in let c = clauses 𝓛 𝓜.mem 𝓡.returns in let Ks : RattleType = Known.the_row in
    let hs : Stays ended.signature.params ended.kept = (stay_dropped (RefOf (0 ∷ []) tt (plain (λ _. Ks)) (λ _. tt)) yes, (stay_dropped (RefOf (1 ∷ []) tt (plain (λ _. Ks)) (λ _. tt)) yes, tt)) in
    proved 𝓛 ended hs c 𝓜 𝓡 (Goes-dropped 𝓛 2 (RefOf (0 ∷ []) tt (plain (λ _. Ks)) (λ _. tt)) yes (λ κs x f. refl), (Goes-dropped 𝓛 2 (RefOf (1 ∷ []) tt (plain (λ _. Ks)) (λ _. tt)) yes (λ κs x f. refl), tt)) #self fn (code.unfolded 𝓤 H 𝓜 𝓡 wired)
    (λ κs. (shr_vals, (shr_vals, tt))) (λ κs. (shr_Tells (named 0) κs.0 Ks, (shr_Tells (named 1) κs.1.0 Ks, tt))) (λ κs qs bounds a gh are.
    let me = a.0.now in let other = a.1.0.now in let b : ℕ = a.0.ref_ptr.0 in let o : ℕ = a.0.ref_ptr.1 in let d : ℕ = a.1.0.ref_ptr.0 in let p : ℕ = a.1.0.ref_ptr.1 in
    let y : (walk_of 𝓛 ended hs c).Ghost = ((κs, qs, bounds, a, (vptr b o ∷ [], (vptr d p ∷ [], tt))), gh) in let Post : Val → SProp 𝓤 = (walk_of 𝓛 ended hs c).post y in let toks : Fml = fsep (flft κs.0 qs.0) (fsep (flft κs.1.0 qs.1.0) ftrue) in
    qed 𝓛 ((‵ toks ⊛ ‵ (owns (types_at ended.signature.params κs) a y.0.4)) ∷ given (other.name ≡ me.name) (‵ ftrue) ∷ []) ∵ move ! (1 ∷ []) $ learn ! (λ asked. drop ! $ split ! $
    fsplit ! $ move ! (2 ∷ []) $ fsplit ! $ fsplit ! $ move ! (2 ∷ []) $ fsplit ! $ fsplit ! $ keep ! (1 ∷ 4 ∷ 5 ∷ 6 ∷ []) $
    enter ! 𝓣.C 𝓣.Λ fn (vptr b o ∷ vptr d p ∷ []) Post $ alloc_all ! (λ l. pass_all ! refl ((tt, tt), ((tt, tt), tt)) $
    use1 𝓛 (‵ (hidden_shr (Token) κs.1.0 (record {}, tt) d p) ⊛ ‵ (fhide (begins_so other.name other.list))) (lent_out 𝓛 Known.struct (Known.the_codes (marker.the_row unit).coded) Known.the_heap Known.the_lent κs.1.0 other d p) $ split ! $ drop ! $ unhide ! $
    rewrite ! 0 (λ (z : ℕ). ‵ (begins_so z other.list)) asked refl $ move ! (1 ∷ []) $
    use1 𝓛 (‵ (hidden_shr (Token) κs.0 (record {}, tt) b o) ⊛ ‵ (fhide (begins_so me.name me.list))) (lent_out 𝓛 Known.struct (Known.the_codes (marker.the_row unit).coded) Known.the_heap Known.the_lent κs.0 me b o) $ split ! $ drop ! $ unhide ! $
    use2 𝓛 (some (λ (both : List Stands). given (Least IsPrefix me.list other.list both) (‵ (begins_so me.name both)))) (at_least_join lists 𝓛 me.name me.list other.list) $ pick ! (λ both. learn ! (λ so. drop ! $
    sets ! (of_opd ! (unit_lit !)) refl (tt, tt) $ feq_i ! (List Val) (vunit ∷ []) (vunit ∷ []) refl $
    move ! (1 ∷ 2 ∷ []) $ fjoin ! $ nothing ! $ nothing ! $ fjoin ! $ nothing ! $ fjoin ! $
    returns ! (look_at ! 0 refl) $ free_all ! refl $ keep ! (1 ∷ 0 ∷ 2 ∷ []) $ by ! (ends 𝓛 ended hs c y vunit tt (tt, (tt, tt)) (tt, (tt, tt)) (fact_i 𝓤 _ (emp 𝓤) (both, so.0, so.1))))))))
