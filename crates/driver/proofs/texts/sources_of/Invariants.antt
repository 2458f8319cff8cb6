-- One source a text so far, which none asked, with the text's trace.
use Rattle.std.proofs.Common.{◌≡◌, Some, map, take}
use Rattle.mpicall.specs.Devices.{bytes_left}
use Rattle.mpicall.specs.Source.{coming}
use Rattle.mpicall.specs.Trace.{trace_of}
use Rattle.driver.specs.VerdictContract.{AreFresh}
use Rattle.driver.proofs.texts.sources_of.Given as goal

abbrev pub invariant-loop-text : goal.invariant-loop-text
invariant-loop-text l = record {
  fresh : AreFresh l.sources.items;
  told : map (coming (λ input. Some (bytes_left input))) l.sources.items ≡ map (λ text. Some (trace_of text.now)) (take l.text-index l.texts);
}
