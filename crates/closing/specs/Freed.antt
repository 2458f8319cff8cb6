-- Which requests a rank's program frees (MPI 4.0, section 3.7.3), and which records of its list start them.
use Rattle.std.specs.Prelude.{ℕ, Bool, false, Option, Some, None, List, [], ◌∷◌, slice_get}
use Rattle.std.specs.List.{list_any, filter_map}
use Rattle.std.specs.Option.{option_map_or}
use Rattle.journals.specs.Lines.{Line}
use Rattle.journals.specs.declared.field.Field.{Field}
use Rattle.journals.specs.declared.field.Field.TheVariants.{Natural}
use Rattle.journals.specs.declared.word.CallWord.TheVariants as call
use Rattle.journals.specs.declared.word.Word.{Word}
use Rattle.journals.specs.declared.word.Word.TheVariants.{Call}
use Rattle.closing.specs.Entries.{Run, lines_at}
use Rattle.closing.specs.Entry.{id_of}
use Rattle.closing.specs.Recording.{Listed}
use Rattle.closing.specs.Steps.{Id, Written, same_id}

-- the request that a line frees
abbrev pub freed_in : Word → List Field → Option ℕ
freed_in (Call call.RequestFree) (Natural request ∷ []) = Some request
freed_in word fields = None

-- those that some lines free
abbrev pub freed : List Line → List ℕ
freed lines = filter_map (λ line. freed_in line.word line.fields) lines

-- the lines free a request for which this stands in the trace
abbrev pub is_freed : List Line → Id → Bool
is_freed lines id = list_any (λ request. same_id (id_of lines request) id) (freed lines)

-- the record starts one of these
abbrev pub starts_one_of : (Id → Bool) → Option Written → Bool
starts_one_of are None = false
starts_one_of are (Some it) = option_map_or are it.starts false

-- the record at a place of a rank's list starts a request that the rank's program frees
abbrev pub starts_freed : Run → ℕ → Listed → ℕ → Bool
starts_freed run rank list place = starts_one_of (is_freed (lines_at run rank)) (slice_get list.records place)
