-- The words of the format and their texts. A call that starts an operation has an `i` before the word of
-- the operation.
use Rattle.std.specs.Prelude.{ℕ, ◌==◌, Option, Some, None, option_map, if◌then◌else◌, List, [], ◌∷◌, ◌++◌, map, get_or, codes}
use denote.Enum.Declared.{tag_of}
use Rattle.std.specs.Str.{bytes_eq}
use Rattle.mpicall.specs.declared.call.Mode.TheVariants.{Standard, Synchronous, Buffered}
use Rattle.mpicall.specs.declared.word.Collective.{Collective}
use Rattle.mpicall.specs.declared.word.Collective.TheVariants.{Barrier, Bcast, Gather, Scatter, Reduce, Allgather, Alltoall, Allreduce, Scan, Exscan}
use Rattle.mpicall.specs.declared.word.Operation.{Operation}
use Rattle.mpicall.specs.declared.word.Operation.TheVariants.{Send, Recv, Coll}
use Rattle.mpicall.specs.declared.word.Word.{Word}
use Rattle.mpicall.specs.declared.word.Word.TheVariants.{Blocking, Started, Named}
use Rattle.mpicall.specs.declared.word.Name.{Name}
use Rattle.mpicall.specs.declared.word.Name.TheVariants as name
use Rattle.mpicall.specs.contracts.word.Name.{the_type}
use Rattle.mpicall.specs.declared.word.Layout.{Layout}
use Rattle.mpicall.specs.declared.word.Layout.TheVariants as layout

abbrev pub collective_text : Collective → List ℕ
collective_text Barrier = codes "barrier"
collective_text Bcast = codes "bcast"
collective_text Gather = codes "gather"
collective_text Scatter = codes "scatter"
collective_text Reduce = codes "reduce"
collective_text Allgather = codes "allgather"
collective_text Alltoall = codes "alltoall"
collective_text Allreduce = codes "allreduce"
collective_text Scan = codes "scan"
collective_text Exscan = codes "exscan"

abbrev pub operation_text : Operation → List ℕ
operation_text (Send Standard) = codes "send"
operation_text (Send Synchronous) = codes "ssend"
operation_text (Send Buffered) = codes "bsend"
operation_text Recv = codes "recv"
operation_text (Coll collective) = collective_text collective

-- the letter before the word of an operation that a call starts
abbrev pub start_letter : ℕ
start_letter = 105

-- the words that are no operation's, each with its text and with what follows it
abbrev pub names : List (List ℕ × Name × Layout)
names =
    (codes "waitall", name.Waitall, layout.Requests) ∷ (codes "wait", name.Wait, layout.Request) ∷ (codes "waitany", name.Waitany, layout.Chosen)
    ∷ (codes "sendrecv", name.Sendrecv, layout.Exchange) ∷ (codes "dup", name.Dup, layout.Copy) ∷ (codes "split", name.Split, layout.Split)
    ∷ (codes "finalize", name.Finalize, layout.Nothing) ∷ (codes "probe", name.Probe, layout.Message) ∷ (codes "open", name.Open, layout.Nothing) ∷ []

-- what these say of a name: its text, and what follows it
abbrev pub name_text : Name → List ℕ
name_text name = get_or (map (λ row. row.0) names) (tag_of the_type name) []

abbrev pub layout_of : Name → Layout
layout_of name = get_or (map (λ row. row.2) names) (tag_of the_type name) layout.Nothing

-- the letter before a word, and the text after that
abbrev pub letter_of : Word → List ℕ
letter_of (Started operation) = start_letter ∷ []
letter_of _ = []

abbrev pub stem_of : Word → List ℕ
stem_of (Blocking operation) = operation_text operation
stem_of (Started operation) = operation_text operation
stem_of (Named name) = name_text name

-- the text of a word
abbrev pub text_of : Word → List ℕ
text_of word = letter_of word ++ stem_of word

-- the first of some things that has a text
abbrev pub with_text : {A : Type 0} → (A → List ℕ) → List ℕ → List A → Option A
with_text texts text [] = None
with_text texts text (x ∷ xs) = if bytes_eq text (texts x) then Some x else with_text texts text xs

-- the first answer, or else the second
abbrev pub or_else : {A : Type 0} → Option A → Option A → Option A
or_else (Some x) other = Some x
or_else None other = other

abbrev pub collectives : List Collective
collectives = Barrier ∷ Bcast ∷ Gather ∷ Scatter ∷ Reduce ∷ Allgather ∷ Alltoall ∷ Allreduce ∷ Scan ∷ Exscan ∷ []

abbrev pub messages : List Operation
messages = Send Standard ∷ Recv ∷ Send Synchronous ∷ Send Buffered ∷ []

-- the collective, the operation and the word with a text, if the format has one
unfoldable pub collective_of : List ℕ → Option Collective
collective_of text = with_text collective_text text collectives

unfoldable pub operation_of : List ℕ → Option Operation
operation_of text = or_else (with_text operation_text text messages) (option_map Coll (collective_of text))

abbrev pub started_word : List ℕ → Option Word
started_word [] = None
started_word (letter ∷ text) = if letter == start_letter then option_map Started (operation_of text) else None

-- the name with a text, by the rows of a table
abbrev pub name_in : List (List ℕ × Name) → List ℕ → Option Name
name_in [] text = None
name_in (row ∷ rows) text = if bytes_eq text row.0 then Some row.1 else name_in rows text

abbrev pub named_of : List ℕ → Option Word
named_of text = option_map Named (name_in (map (λ row. (row.0, row.1)) names) text)

unfoldable pub word_of : List ℕ → Option Word
word_of text = or_else (option_map Blocking (operation_of text)) (or_else (started_word text) (named_of text))
