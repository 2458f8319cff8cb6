-- One source a path so far, which none asked, with the trace of the path's text; each of these was opened.
use Rattle.std.proofs.Common.{◌≡◌, map, take, option_map}
use Rattle.std.specs.List.{AllWithin}
use Rattle.mpicall.specs.Source.{coming}
use Rattle.mpicall.specs.Trace.{trace_of}
use Rattle.driver.specs.VerdictContract.{AreFresh}
use Rattle.cli.specs.Openings.{Opened, fate_of}
use Rattle.cli.proofs.check.open_sources.Given as goal

abbrev pub invariant-loop-path : goal.invariant-loop-path
invariant-loop-path g l = record {
  fresh : AreFresh l.sources.items;
  told : map (coming g.P.In.Input.left) l.sources.items ≡ map (λ path. option_map trace_of (g.P.Opener.told l.opener path.now)) (take l.path-index l.paths);
  opened : AllWithin (λ path. fate_of g.P.In.Input.left g.P.In.Input.failures (g.P.Opener.may_give l.opener) path.now Opened) l.paths 0 l.path-index;
}
