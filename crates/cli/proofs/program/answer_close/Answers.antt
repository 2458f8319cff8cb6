-- Nothing is on standard output, or the fault is reported.
use Rattle.std.proofs.Common.{refl, inl, subst, sym}
use Rattle.closing.specs.Recordings.{choice_in}
use Rattle.cli.specs.ExitContract.{EndsInFiles}
use Rattle.cli.specs.JournalFolders.{known_in}
use Rattle.cli.specs.Journals.{IsFaultOfClose}
use Rattle.cli.specs.Outputs.{Nothing}
use Rattle.cli.specs.inner.Outputs.{LeavesAtFault}
use Rattle.cli.specs.declared.fault.Fault.{Fault}
use Rattle.cli.proofs.EndLemmas.{refused}
use Rattle.cli.proofs.JournalLemmas.{closed_left, may_close}
use Rattle.cli.proofs.program.answer_close.Goals as goal

pub returns-in-Ok : goal.returns-in-Ok
returns-in-Ok g c = (Nothing, refl, inl (record { is_written = c.in-Ok.ensures.written; status_is = refl; output = refl; errors = refl }))

pub returns-in-Err : goal.returns-in-Err
returns-in-Err g c =
    let folder = c.args.journals.now in
    let known = known_in (g.P.Opener.told folder.opener.now) (g.P.Opener.named folder.opener.now) folder.path.now in
    let files = EndsInFiles known (choice_in c.args.choice) (g.M.Maker.empty c.args.maker.now) (g.M.Maker.text c.close_folder.new.maker c.args.path.now) in
    let same = sym c.fault_of_close-fault.ensures in
    let may = subst (λ (f : Fault). IsFaultOfClose known folder.path.now c.args.path.now f) same (may_close known folder.path c.args.path c.in-Err.fault c.in-Err.ensures.fault) in
    let left = subst (λ (f : Fault). LeavesAtFault g.O.Output.written g.O.Output.failures c.args.out.now c.args.out.now f) same (closed_left g.O.Output.written g.O.Output.failures c.args.out.now c.args.out.now folder.path c.args.path c.in-Err.fault refl) in
    refused g.O.Output.written g.O.Output.failures files (IsFaultOfClose known folder.path.now c.args.path.now) c.args.out.now c.args.out.now c.refuse.new.out c.fault_of_close-fault.result c.refuse.result tt tt may left c.refuse.ensures
