-- The pen writes at the end.
use Rattle.watches.proofs.TokenWalks.{ℕ, List, [], ◌∷◌, ◌++◌, refl, named, Val, vunit, vptr, SProp, emp, via, full_share, Fml, ftrue, fsep, flft, ‵, raw, ◌⊛◌, later, ◌$◌, ◌∵◌, !, qed, by, move, keep, split, fsplit, fsplit3, fjoin, fjoin3, use1, await, feq_i, of_opd, unit_lit, returns, enter, alloc_all, pass_all, free_all, look_at, sets, basic, latest_grows, fact_i, tables, yes, RattleType, owns, types_at, plain, RefOf, mut_vals, mut_Tells, shr_vals, shr_Tells, nothing, opens, closes, Stays, stay_dropped, stay_ref, walk_of, Goes-dropped, Goes-ref, proved, ends, Stands, lists, is_all}
use Rattle.watches.specs.contracts.stands.Stands as StandsRow
use Rattle.watches.specs.contracts.append.Pen as Pen
use Rattle.watches.specs.contracts.append.Pen.append.{ended, clauses}
use Rattle.watches.specs.contracts.append.Pen.append.Key.{name as #self}
use Rattle.watches.proofs.append.Pen.append.Statement.{statement}
use Rattle.watches.proofs.append.Pen.append.Code as code

pub append_spec : {M : Type 1} → statement M
append_spec 𝓤 𝓛 𝓜 𝓡 wired =
    let H = 𝓛.H in let 𝓣 = tables 𝓤 H 𝓜 𝓡 𝓡.env in let fn = code.function in let c = clauses 𝓛 𝓜.mem 𝓡.returns in let Ps : RattleType = Pen.the_row in let Ss : RattleType = StandsRow.the_row in
    let hs : Stays ended.signature.params ended.kept = (stay_ref (0 ∷ []) tt (plain (λ _. Ps)), (stay_dropped (RefOf (1 ∷ []) tt (plain (λ _. Ss)) (λ _. tt)) yes, tt)) in
    proved 𝓛 ended hs c 𝓜 𝓡 (Goes-ref 𝓛 2 0 tt (plain (λ _. Ps)), (Goes-dropped 𝓛 2 (RefOf (1 ∷ []) tt (plain (λ _. Ss)) (λ _. tt)) yes (λ κs x f. refl), tt)) #self fn (code.unfolded 𝓤 H 𝓜 𝓡 wired)
    (λ κs. (mut_vals, (shr_vals, tt))) (λ κs. (mut_Tells (named 0) κs.0 Ps, (shr_Tells (named 1) κs.1.0 Ss, tt))) (λ κs qs bounds a gh are.
    let me = a.0.now in let stands : Stands = a.1.0.now in let b : ℕ = a.0.ref_ptr.0 in let o : ℕ = a.0.ref_ptr.1 in let d : ℕ = a.1.0.ref_ptr.0 in let p : ℕ = a.1.0.ref_ptr.1 in
    let longer : List Stands = me.list ++ stands ∷ [] in let me' : Ps.Denot = record { marker = me.marker; name = me.name; list = longer } in
    let y : (walk_of 𝓛 ended hs c).Ghost = ((κs, qs, bounds, a, (vptr b o ∷ [], (vptr d p ∷ [], tt))), gh) in let Post : Val → SProp 𝓤 = (walk_of 𝓛 ended hs c).post y in let toks : Fml = fsep (flft κs.0 qs.0) (fsep (flft κs.1.0 qs.1.0) ftrue) in
    qed 𝓛 ((‵ toks ⊛ ‵ (owns (types_at ended.signature.params κs) a y.0.4)) ∷ raw ((c κs a).requires gh) ∷ []) ∵ keep ! (0 ∷ []) $ split ! $
    fsplit ! $ move ! (1 ∷ []) $ fsplit ! $ move ! (3 ∷ []) $ fsplit ! $ fsplit3 ! $ move ! (3 ∷ []) $ fsplit ! $ fsplit ! $ keep ! (4 ∷ 5 ∷ 8 ∷ 6 ∷ 7 ∷ []) $
    enter ! 𝓣.C 𝓣.Λ fn (vptr b o ∷ vptr d p ∷ []) Post $ alloc_all ! (λ l. pass_all ! refl ((tt, tt), ((tt, tt), tt)) $
    opens ! tt Ps b o (λ ts. move ! (1 ∷ []) $ fsplit ! $ move ! (1 ∷ []) $
    use1 𝓛 (later (‵ (is_all me.name longer full_share))) (via 𝓤 _ (latest_grows lists 𝓛 me.name me.list longer (stands ∷ [], refl)) (basic 𝓛 _)) $ await ! tt $ move ! (1 ∷ 0 ∷ []) $ fjoin ! $
    move ! (1 ∷ 0 ∷ 2 ∷ 3 ∷ 4 ∷ []) $ closes ! tt Ps me' ts b o $ sets ! (of_opd ! (unit_lit !)) refl (tt, tt) $ feq_i ! (List Val) (vunit ∷ []) (vunit ∷ []) refl $
    move ! (4 ∷ 5 ∷ []) $ fjoin ! $ move ! (4 ∷ 0 ∷ []) $ fjoin ! $ nothing ! $ nothing ! $ fjoin ! $ feq_i ! (List Val) (vptr b o ∷ []) (vptr b o ∷ []) refl $ move ! (0 ∷ 4 ∷ 5 ∷ []) $ fjoin3 ! $ fjoin ! $
    returns ! (look_at ! 0 refl) $ free_all ! refl $ keep ! (1 ∷ 0 ∷ 2 ∷ []) $ by ! (ends 𝓛 ended hs c y vunit tt (me', (tt, tt)) (tt, (tt, tt)) (fact_i 𝓤 _ (emp 𝓤) (refl, refl))))))
