use Rattle.std.proofs.Common.{◌≡◌, ℕ, false, List, Bor, map, sym, subst}
use Rattle.cli.specs.inner.Answer.{IsAnswered, Shows}
use Rattle.closing.specs.Recordings.{choice_in}
use Rattle.cli.specs.ExitContract.{EndsInFiles, EndsInJudged, EndsInReport, IsDone, IsFaultOf, made_by}
use Rattle.cli.specs.Journals.{IsFaultOfClose, IsFaultOfJudge}
use Rattle.cli.specs.Openings.{fate_of}
use Rattle.cli.specs.Texts.{IsFaultOfCheck}
use Rattle.cli.specs.declared.command_line.CommandLine.{CommandLine}
use Rattle.cli.specs.declared.command_line.CommandLine.TheVariants.{Said}
use Rattle.cli.specs.declared.status.Status.TheVariants.{Free}
use Rattle.cli.proofs.EndLemmas.{shown}
use Rattle.cli.proofs.FolderLemmas.{of_folder}
use Rattle.cli.proofs.program.answer.Goals as goal

pub returns-in-Check : goal.returns-in-Check
returns-in-Check g c =
    let fate = fate_of g.P.In.Input.left g.P.In.Input.failures (g.P.Opener.may_give c.args.opener.now) in
    let told = g.P.Opener.told c.args.opener.now in
    let named = g.P.Opener.named c.args.opener.now in
    let made = made_by g.M.Maker.empty g.M.Maker.text c.args.maker.now c.args.maker.now in
    let written = g.O.Output.written in
    let failures = g.O.Output.failures in
    subst (λ (words : CommandLine). IsAnswered written failures (IsDone told named made words) (IsFaultOf fate told named words) c.args.out.now c.answer_check.new.out c.answer_check.result) (sym c.in-Check.is)
    (subst (λ (files : List (Bor (List ℕ))). IsAnswered written failures (EndsInReport c.in-Check.options (told c.in-Check.head.now) (map (λ (file : Bor (List ℕ)). told file.now) files)) (IsFaultOfCheck fate told c.in-Check.head.now files) c.args.out.now c.answer_check.new.out c.answer_check.result)
    c.deref.ensures.value c.answer_check.ensures)

pub returns-in-Lint : goal.returns-in-Lint
returns-in-Lint g c =
    let fate = fate_of g.P.In.Input.left g.P.In.Input.failures (g.P.Opener.may_give c.args.opener.now) in
    let told = g.P.Opener.told c.args.opener.now in
    let named = g.P.Opener.named c.args.opener.now in
    let made = made_by g.M.Maker.empty g.M.Maker.text c.args.maker.now c.args.maker.now in
    subst (λ (words : CommandLine). IsAnswered g.O.Output.written g.O.Output.failures (IsDone told named made words) (IsFaultOf fate told named words) c.args.out.now c.answer_lint.new.out c.answer_lint.result) (sym c.in-Lint.is) c.answer_lint.ensures

pub returns-in-Judge : goal.returns-in-Judge
returns-in-Judge g c =
    let fate = fate_of g.P.In.Input.left g.P.In.Input.failures (g.P.Opener.may_give c.args.opener.now) in
    let told = g.P.Opener.told c.args.opener.now in
    let named = g.P.Opener.named c.args.opener.now in
    let made = made_by g.M.Maker.empty g.M.Maker.text c.args.maker.now c.args.maker.now in
    let written = g.O.Output.written in
    let failures = g.O.Output.failures in
    subst (λ (words : CommandLine). IsAnswered written failures (IsDone told named made words) (IsFaultOf fate told named words) c.args.out.now c.answer_judge.new.out c.answer_judge.result) (sym c.in-Judge.is)
    (of_folder g.P.Opener.told g.P.Opener.named (λ known folder. IsAnswered written failures (EndsInJudged known c.in-Judge.manner) (IsFaultOfJudge known c.in-Judge.manner.choice folder) c.args.out.now c.answer_judge.new.out c.answer_judge.result)
    c.new-judged.result.opener c.args.opener c.new-judged.result.path c.in-Judge.folder c.new-judged.ensures.opener c.new-judged.ensures.path c.answer_judge.ensures)

pub returns-in-Close : goal.returns-in-Close
returns-in-Close g c =
    let fate = fate_of g.P.In.Input.left g.P.In.Input.failures (g.P.Opener.may_give c.args.opener.now) in
    let told = g.P.Opener.told c.args.opener.now in
    let named = g.P.Opener.named c.args.opener.now in
    let made = made_by g.M.Maker.empty g.M.Maker.text c.args.maker.now c.answer_close.new.maker in
    let written = g.O.Output.written in
    let failures = g.O.Output.failures in
    subst (λ (words : CommandLine). IsAnswered written failures (IsDone told named made words) (IsFaultOf fate told named words) c.args.out.now c.answer_close.new.out c.answer_close.result) (sym c.in-Close.is)
    (of_folder g.P.Opener.told g.P.Opener.named (λ known folder. IsAnswered written failures (EndsInFiles known (choice_in c.in-Close.choice) made.empty (made.text c.in-Close.path.now)) (IsFaultOfClose known folder c.in-Close.path.now) c.args.out.now c.answer_close.new.out c.answer_close.result)
    c.new-journals.result.opener c.args.opener c.new-journals.result.path c.in-Close.folder c.new-journals.ensures.opener c.new-journals.ensures.path c.answer_close.ensures)

pub returns-in-Said-default-false : goal.returns-in-Said-default-false
returns-in-Said-default-false g c =
    let fate = fate_of g.P.In.Input.left g.P.In.Input.failures (g.P.Opener.may_give c.args.opener.now) in
    let told = g.P.Opener.told c.args.opener.now in
    let named = g.P.Opener.named c.args.opener.now in
    let made = made_by g.M.Maker.empty g.M.Maker.text c.args.maker.now c.args.maker.now in
    let text = c.in-Said-default-false.text in
    let said = c.in-Said-default-false.is in
    let asked_for = c.in-Said-default-false.is_error-test in
    let is : c.args.words ≡ Said c.in-Said-default-false.text false = cc in
    subst (λ (words : CommandLine). IsAnswered g.O.Output.written g.O.Output.failures (IsDone told named made words) (IsFaultOf fate told named words) c.args.out.now c.show.new.out c.show.result) (sym is)
    (shown g.O.Output.written g.O.Output.failures fate told named made c.args.out.now c.show.new.out text c.show.result
    (subst (λ (bytes : List ℕ). Shows g.O.Output.written g.O.Output.failures c.args.out.now c.show.new.out bytes Free c.show.result) c.deref-in-Said-default-false.ensures c.show.ensures))
