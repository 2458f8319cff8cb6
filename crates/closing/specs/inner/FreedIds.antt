-- What a line, by its place, says of requests that are freed and of messages that requests take.
use Rattle.std.specs.Prelude.{ℕ, Option, option_and_then, List, slice_get}
use Rattle.journals.specs.Lines.{Line}
use Rattle.closing.specs.Entry.{matched_in}
use Rattle.closing.specs.Freed.{freed_in}

abbrev pub freed_at : List Line → ℕ → Option ℕ
freed_at lines place = option_and_then (λ line. freed_in line.word line.fields) (slice_get lines place)

abbrev pub matched_at : List Line → ℕ → ℕ → Option ℕ
matched_at lines place request = option_and_then (λ line. matched_in request line.word line.fields) (slice_get lines place)
