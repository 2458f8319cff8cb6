-- The sources tell the texts' traces, so what `run_by` says of these is known.
use Rattle.mpicall.specs.Devices.{refusals}
use Rattle.driver.proofs.TextLemmas.{well, badly}
use Rattle.driver.proofs.texts.run_texts.Goals as goal

pub returns-clause-ok : goal.returns-clause-ok
returns-clause-ok g c =
    well c.args.reading c.args.head c.args.format c.in-Ok.sources.items c.args.texts.now c.args.out.now c.run_by.new.out refusals c.run_by.result
    c.in-Ok.ensures.told c.run_by.ensures.accepted c.run_by.ensures.verdict c.run_by.ensures.written

pub returns-clause-fault : goal.returns-clause-fault
returns-clause-fault g c =
    badly c.args.reading c.args.head c.args.format c.in-Ok.sources.items c.args.texts.now c.args.out.now c.run_by.new.out refusals c.run_by.result
    c.in-Ok.ensures.told c.run_by.ensures.refused c.run_by.ensures.output
