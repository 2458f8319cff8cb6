-- What a check ensures, as one fact.
use Rattle.cli.proofs.shown.check_paths.Goals as goal

pub returns : goal.returns
returns g c = record {
  verdict = c.check.ensures.verdict;
  fault = c.check.ensures.fault;
  written = c.check.ensures.written;
  no_write_failed = c.check.ensures.no_write_failed;
  output = c.check.ensures.output;
}
