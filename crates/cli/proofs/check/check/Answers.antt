-- The answer over the sources is that of the files' texts.
use Rattle.std.proofs.Common.{map, rules, ℕ, List, Bor, ap, sym, ◌∙◌, length}
use Rattle.std.proofs.lemmas.List.{length-map}
use Rattle.cli.specs.Openings.{fate_of}
use Rattle.cli.proofs.OpeningLemmas.{opening_passed}
use Rattle.cli.proofs.TextLemmas.{head_of_told, report_says, run_fault_says, run_leaves, tells_texts}
use Rattle.cli.proofs.check.check.Goals as goal

pub returns-in-Ok-clause-verdict : goal.returns-in-Ok-clause-verdict
returns-in-Ok-clause-verdict g c = λ text texts head_is files_are. record {
  groups = c.in_ok-head.head;
  is_head = head_of_told _ text _ c.in_ok-head.ensures.head head_is;
  accepted = λ traces hold. c.in-Ok.ensures.accepted traces
      (tells_texts g.P.In.Input.left c.in_ok-sources.sources.items (λ file. g.P.Opener.told c.args.opener.now file.now) c.args.files.now texts traces c.in_ok-sources.ensures.told files_are hold);
  of_traces = λ traces hold. c.in-Ok.ensures.verdict traces
      (tells_texts g.P.In.Input.left c.in_ok-sources.sources.items (λ file. g.P.Opener.told c.args.opener.now file.now) c.args.files.now texts traces c.in_ok-sources.ensures.told files_are hold);
}

pub returns-in-Ok-clause-written : goal.returns-in-Ok-clause-written
returns-in-Ok-clause-written g c =
    let told = λ (file : Bor (List ℕ)). g.P.Opener.told c.args.opener.now file.now in (
      c.in-Ok.ensures.written.0,
      report_says g.P.In.Input.left _ c.args.options c.in_ok-head.head c.in-Ok.verdict _ _ (map told c.args.files.now) c.in_ok-head.ensures.head
          (λ texts traces files_are hold. tells_texts g.P.In.Input.left c.in_ok-sources.sources.items told c.args.files.now texts traces c.in_ok-sources.ensures.told files_are hold)
          c.in-Ok.ensures.written.1,
      c.in-Ok.ensures.written.2,
    )

pub returns-in_err-sources-clause-fault : goal.returns-in_err-sources-clause-fault
returns-in_err-sources-clause-fault g c =
    opening_passed (fate_of g.P.In.Input.left g.P.In.Input.failures (g.P.Opener.may_give c.args.opener.now)) (g.P.Opener.told c.args.opener.now) c.args.head.now c.args.files.now c.in_ok-head.head c.open_sources.result c.from_residual-in_err-sources.result c.in_err-sources.field-0.0
    c.in_ok-head.ensures.opened (record { is_head = c.in_ok-head.ensures.head; one_a_rank = search rules }) c.open_sources.ensures.fault c.in_err-sources.was (search rules)

pub returns-in-Err-clause-fault : goal.returns-in-Err-clause-fault
returns-in-Err-clause-fault g c =
    let says = run_fault_says (fate_of g.P.In.Input.left g.P.In.Input.failures (g.P.Opener.may_give c.args.opener.now)) (g.P.Opener.told c.args.opener.now) c.args.head.now c.args.files.now g.P.In.Input.left _ _ c.in_ok-head.head c.in-Err.fault
    (sym (length-map c.in_ok-sources.sources.items _) ∙ ap length c.in_ok-sources.ensures.told ∙ length-map c.args.files.now _)
    (record { is_head = c.in_ok-head.ensures.head; one_a_rank = search rules })
    c.in-Err.ensures.fed
    c.in-Err.ensures.stopped
    (λ rank line may. absurd cc)
    (λ texts files_are traces hold. c.in-Err.ensures.refused traces
    (tells_texts g.P.In.Input.left c.in_ok-sources.sources.items (λ file. g.P.Opener.told c.args.opener.now file.now) c.args.files.now texts traces c.in_ok-sources.ensures.told files_are hold)) in
    rw (c.from-in-Err.ensures) says

pub returns-in-Err-clause-output : goal.returns-in-Err-clause-output
returns-in-Err-clause-output g c =
    rw (c.from-in-Err.ensures)
    (run_leaves g.P.In.Input.left g.O.Output.written g.O.Output.failures c.in_ok-sources.sources.items c.args.options.reading c.in_ok-head.head c.args.options.format c.args.out.now c.run_by.new.out c.in-Err.fault
    c.in-Err.ensures.output)
