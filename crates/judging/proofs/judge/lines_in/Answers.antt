-- The lines of JSON, or none.
use Rattle.judging.specs.inner.Known.{known_in}
use Rattle.judging.specs.inner.Tables.{rows_of}
use Rattle.judging.proofs.JudgeLemmas.{lined_json, lined_text}
use Rattle.judging.proofs.judge.lines_in.Goals as goal

pub returns-in-Json : goal.returns-in-Json
returns-in-Json c =
    lined_json (rows_of c.args.lists.now.table) c.args.manner c.args.analyser.now (known_in c.args.known.now) c.args.graph.now.at_open c.args.findings.now (λ lines. lines.items) c.lines_of.result
    c.in-Json.is c.requires.reading c.lines_of.ensures.names c.lines_of.ensures.numbers

pub returns-in-Text : goal.returns-in-Text
returns-in-Text c =
    lined_text (rows_of c.args.lists.now.table) c.args.manner c.args.analyser.now (known_in c.args.known.now) c.args.graph.now.at_open c.args.findings.now c.new.result.items c.in-Text.is c.new.ensures.items
