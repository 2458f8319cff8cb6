use Rattle.std.proofs.Common.{ℕ, List, [], ◌∷◌, ◌++◌, ap, ◌∙◌}
use Rattle.std.specs.List.{join_with_byte}
use Rattle.mpicall.specs.Spelling.{space, fields_of}
use Rattle.mpicall.specs.declared.call.Call.{Call}
use Rattle.report.proofs.SpelledLemmas.{call_put}
use Rattle.report.proofs.write.text.push_record.Goals as goal

pub returns-clause-value : goal.returns-clause-value
returns-clause-value c =
    let page = c.args.page.now in
    c.push_call.ensures.value
    ∙ ap (λ (line : List ℕ). line ++ join_with_byte space (fields_of c.as_call.result.now)) c.push_str.ensures.value
    ∙ ap (λ (call : Call). (page ++ space ∷ []) ++ join_with_byte space (fields_of call)) c.as_call.ensures.value
    ∙ call_put page c.args.record.now
