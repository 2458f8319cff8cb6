-- A share of the pen shows how the list begins.
use Rattle.watches.proofs.TokenWalks.{ℕ, [], ◌∷◌, refl, named, Val, vptr, SProp, emp, Share, Fml, ftrue, fsep, flft, fhide, fshr_bor, ‵, raw, ◌⊛◌, ◌$◌, ◌∵◌, !, qed, by, move, keep, drop, split, fsplit, fjoin, use0, use1, no_more, and_then, returns, enter, alloc_all, pass_all, free_all, look_at, get, sets, agg, shr_bor-open, obor_close, latest_shows, fact_i, tables, yes, RattleType, owns, types_at, plain, RefOf, unit, shr_vals, shr_Tells, hidden_shr, unhide, nothing, lent_out, Stays, stay_dropped, walk_of, Goes-dropped, proved, token, Token, token_made, ends, lists, is_all, begins_so}
use Rattle.watches.proofs.TokenSteps as steps
use Rattle.core.specs.contracts.marker.PhantomData as marker
use Rattle.watches.specs.contracts.append.Pen as Pen
use Rattle.watches.specs.contracts.append.Pen.known.{ended, clauses}
use Rattle.watches.specs.contracts.append.Pen.known.Key.{name as #self}
use Rattle.watches.proofs.append.Pen.known.Statement.{statement}
use Rattle.watches.proofs.append.Pen.known.Code as code

pub known_spec : {M : Type 1} → statement M
known_spec 𝓤 𝓛 𝓜 𝓡 wired =
    let H = 𝓛.H in let 𝓣 = tables 𝓤 H 𝓜 𝓡 𝓡.env in let fn = code.function in let c = clauses 𝓛 𝓜.mem 𝓡.returns in let Ps : RattleType = Pen.the_row in
    let hs : Stays ended.signature.params ended.kept = (stay_dropped (RefOf (0 ∷ []) tt (plain (λ _. Ps)) (λ _. tt)) yes, tt) in
    proved 𝓛 ended hs c 𝓜 𝓡 (Goes-dropped 𝓛 1 (RefOf (0 ∷ []) tt (plain (λ _. Ps)) (λ _. tt)) yes (λ κs x f. refl), tt) #self fn (code.unfolded 𝓤 H 𝓜 𝓡 wired)
    (λ κs. (shr_vals, tt)) (λ κs. (shr_Tells (named 0) κs.0 Ps, tt)) (λ κs qs bounds a gh are.
    let me = a.0.now in let b : ℕ = a.0.ref_ptr.0 in let o : ℕ = a.0.ref_ptr.1 in let all : Share → Fml = is_all me.name me.list in
    let y : (walk_of 𝓛 ended hs c).Ghost = ((κs, qs, bounds, a, (vptr b o ∷ [], tt)), gh) in let Post : Val → SProp 𝓤 = (walk_of 𝓛 ended hs c).post y in let toks : Fml = fsep (flft κs.0 qs.0) ftrue in
    qed 𝓛 ((‵ toks ⊛ ‵ (owns (types_at ended.signature.params κs) a y.0.4)) ∷ raw ((c κs a).requires gh) ∷ []) ∵ keep ! (0 ∷ []) $ split ! $
    fsplit ! $ move ! (2 ∷ []) $ fsplit ! $ fsplit ! $ keep ! (1 ∷ 3 ∷ 4 ∷ []) $
    enter ! 𝓣.C 𝓣.Λ fn (vptr b o ∷ []) Post $ alloc_all ! (λ l. pass_all ! refl ((tt, tt), tt) $
    use1 𝓛 (‵ (hidden_shr (Token) κs.0 (record {}, tt) b o) ⊛ ‵ (fhide (fshr_bor κs.0 all))) (lent_out 𝓛 Pen.struct (Pen.the_codes (marker.the_row unit).coded) Pen.the_heap Pen.the_lent κs.0 me b o) $ split ! $ drop ! $ unhide ! $
    shr_bor-open ! tt (steps.halves 𝓛 me.name me.list) (λ q. move ! (1 ∷ []) $ use1 𝓛 (‵ (all q) ⊛ ‵ (begins_so me.name me.list)) (latest_shows lists 𝓛 q me.name me.list me.list (lists.same me.list)) $ split ! $
    move ! (2 ∷ 0 ∷ []) $ obor_close ! tt $ drop ! $ move ! (1 ∷ []) $
    use0 𝓛 (‵ (Token.own_val (record {}, tt) (token ∷ []))) (token_made 𝓛) $ fjoin ! $ sets ! (agg ! (no_more !)) refl (tt, tt) $ sets ! (agg ! (and_then ! (get ! refl) (no_more !))) refl (tt, (tt, tt)) $
    move ! (1 ∷ 2 ∷ []) $ fjoin ! $ nothing ! $ nothing ! $ fjoin ! $
    returns ! (look_at ! 0 refl) $ free_all ! refl $ keep ! (1 ∷ 0 ∷ 2 ∷ []) $ by ! (ends 𝓛 ended hs c y token (record { marker = record {}; name = me.name; list = me.list }) (tt, tt) (tt, tt) (fact_i 𝓤 _ (emp 𝓤) (refl, refl))))))
