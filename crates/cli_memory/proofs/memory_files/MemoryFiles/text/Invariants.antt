-- None of the files so far has the path.
use Rattle.std.proofs.Common.{◌≡◌, drop}
use Rattle.cli_memory.specs.MemoryFiles.{text_on}
use Rattle.cli_memory.proofs.memory_files.MemoryFiles.text.Given as goal

abbrev pub invariant-loop-file : goal.invariant-loop-file
invariant-loop-file l = text_on (drop l.file-index l.file-items) l.path ≡ text_on l.file-items l.path
