use Rattle.std.proofs.Common.{ℕ, List, ◌++◌, ap, ◌∙◌}
use Rattle.std.proofs.lemmas.Result.{IfOk-weaker}
use Rattle.std.specs.List.{join_with_byte}
use Rattle.mpicall.specs.Spelling.{space, fields_of}
use Rattle.mpicall.specs.declared.call.Call.{Call}
use Rattle.report.proofs.json.rank.record_text.Goals as goal

pub returns : goal.returns
returns c =
    IfOk-weaker c.from_str.result _ _
    (λ text same.
    same ∙ c.as_str.ensures ∙ c.push_call.ensures.value
    ∙ ap (λ (line : List ℕ). line ++ join_with_byte space (fields_of c.as_call.result.now)) c.new-page.ensures
    ∙ ap (λ (call : Call). join_with_byte space (fields_of call)) c.as_call.ensures.value)
    c.from_str.ensures.ok
