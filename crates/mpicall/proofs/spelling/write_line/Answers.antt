use Rattle.std.proofs.Common.{◌≡◌, ℕ, List, [], ◌∷◌, ◌++◌, OnErr, subst, ap, ◌∙◌}
use Rattle.std.specs.List.{join_with_byte}
use Rattle.mpicall.specs.Device.{AppendsBeginning}
use Rattle.mpicall.specs.Spelling.{space, line_feed, fields_of, spelling}
use Rattle.mpicall.specs.declared.call.Call.{Call}
use Rattle.mpicall.proofs.spelling.write_line.Goals as goal

pub returns-clause-fault : goal.returns-clause-fault
unfolding spelling
returns-clause-fault g c =
    let joined : c.push_call.new.self ≡ join_with_byte space (fields_of c.args.entry.now) =
    c.push_call.ensures.value
    ∙ ap (λ (line : List ℕ). line ++ join_with_byte space (fields_of c.as_call.result.now)) c.new-line.ensures
    ∙ ap (λ (call : Call). join_with_byte space (fields_of call)) c.as_call.ensures.value in
    let is : c.as_bytes.result.now ≡ spelling c.args.entry.now =
    c.as_bytes.ensures.value ∙ c.as_str.ensures ∙ c.push_str.ensures.value ∙ ap (λ (line : List ℕ). line ++ line_feed ∷ []) joined in
    subst (λ (text : List ℕ). OnErr c.write_all.result (AppendsBeginning (g.O.Output.written c.args.output.now) (g.O.Output.written c.write_all.new.output) text)) is c.write_all.ensures.fault
