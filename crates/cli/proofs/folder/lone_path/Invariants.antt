use Rattle.std.proofs.Common.{◌<◌, length}
use Rattle.std.specs.Option.{IfSome}
use Rattle.cli.proofs.folder.lone_path.Given as goal

-- the path found so far is one of the words
abbrev pub invariant-loop-place : goal.invariant-loop-place
invariant-loop-place l = IfSome l.found (λ place. place < length l.words)
