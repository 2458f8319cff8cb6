-- A new list is begun.
use Rattle.watches.proofs.TokenWalks.{ℕ, List, [], ◌∷◌, refl, Val, SProp, emp, via, full_share, Fml, ftrue, ‵, raw, ◌⊛◌, some, later, ◌$◌, ◌∵◌, !, qed, by, keep, split, fjoin, pick, use0, await, no_more, and_then, returns, enter, alloc_all, pass_all, free_all, look_at, get, sets, agg, basic, latest_new, fact_i, tables, owns, types_at, nothing, Stays, walk_of, proved, token, Token, token_made, ends, Stands, lists, is_all}
use Rattle.watches.specs.Publications.{at_start}
use Rattle.watches.specs.contracts.append.Pen.begin.{ended, clauses}
use Rattle.watches.specs.contracts.append.Pen.begin.Key.{name as #self}
use Rattle.watches.proofs.append.Pen.begin.Statement.{statement}
use Rattle.watches.proofs.append.Pen.begin.Code as code

pub begin_spec : {M : Type 1} → statement M
begin_spec 𝓤 𝓛 𝓜 𝓡 wired =
    let H = 𝓛.H in let 𝓣 = tables 𝓤 H 𝓜 𝓡 𝓡.env in let fn = code.function in let c = clauses 𝓛 𝓜.mem 𝓡.returns in let first : List Stands = at_start ∷ [] in
    let hs : Stays ended.signature.params ended.kept = tt in
    proved 𝓛 ended hs c 𝓜 𝓡 tt #self fn (code.unfolded 𝓤 H 𝓜 𝓡 wired)
    (λ κs. tt) (λ κs. tt) (λ κs qs bounds a gh are.
    let y : (walk_of 𝓛 ended hs c).Ghost = ((κs, qs, bounds, a, tt), gh) in let Post : Val → SProp 𝓤 = (walk_of 𝓛 ended hs c).post y in let toks : Fml = ftrue in
    qed 𝓛 ((‵ toks ⊛ ‵ (owns (types_at ended.signature.params κs) a y.0.4)) ∷ raw ((c κs a).requires gh) ∷ []) ∵ keep ! (0 ∷ []) $ split ! $
    keep ! (0 ∷ []) $
    enter ! 𝓣.C 𝓣.Λ fn ([]) Post $ alloc_all ! (λ l. pass_all ! refl tt $
    use0 𝓛 (later (some (λ (name : ℕ). ‵ (is_all name first full_share)))) (via 𝓤 _ (latest_new lists 𝓛 first) (basic 𝓛 _)) $ await ! tt $ pick ! (λ name.
    use0 𝓛 (‵ (Token.own_val (record {}, tt) (token ∷ []))) (token_made 𝓛) $ fjoin ! $ sets ! (agg ! (no_more !)) refl (tt, tt) $ sets ! (agg ! (and_then ! (get ! refl) (no_more !))) refl (tt, (tt, tt)) $
    nothing ! $
    returns ! (look_at ! 0 refl) $ free_all ! refl $ keep ! (2 ∷ 0 ∷ 1 ∷ []) $ by ! (ends 𝓛 ended hs c y token (record { marker = record {}; name = name; list = first }) tt tt (fact_i 𝓤 _ (emp 𝓤) refl)))))
