-- What a judgement ensures, as one fact.
use Rattle.cli.proofs.shown.judge_folder.Goals as goal

pub returns : goal.returns
returns g c = record {
  written = c.judge.ensures.written;
  no_write_failed = c.judge.ensures.no_write_failed;
  fault = c.judge.ensures.fault;
  output = c.judge.ensures.output;
}
