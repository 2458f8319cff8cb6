use Rattle.std.proofs.Common.{◌≡◌, map, take, string_bytes}
use Rattle.cli.proofs.argv.as_texts.Given as goal

abbrev pub invariant-loop-word : goal.invariant-loop-word
invariant-loop-word l = map (λ text. text.now) l.texts.items ≡ map string_bytes (take l.word-index l.words)
