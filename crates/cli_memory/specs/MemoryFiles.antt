-- What files in memory hold, and those of a folder that is made there.
use Rattle.std.specs.Prelude.{ℕ, ◌==◌, Bool, true, false, Option, Some, None, bytes_eq, string_bytes, if◌then◌else◌, List, [], ◌∷◌}
use Rattle.mpicall.specs.Devices.{bytes_written}
use Rattle.judging.specs.declared.close.FileName.{FileName}
use Rattle.judging.specs.declared.close.FileName.TheVariants.{Head, Trace}
use Rattle.cli_memory.specs.declared.memory_files.KeptFolder.{KeptFolder}
use Rattle.cli_memory.specs.declared.memory_files.MadeFile.{MadeFile}
use Rattle.cli_memory.specs.declared.memory_files.MemoryFile.{MemoryFile}

-- the text of the first file with the path
abbrev pub text_on : List MemoryFile → List ℕ → Option (List ℕ)
text_on [] path = None
text_on (file ∷ files) path = if bytes_eq file.path.now path then Some file.text.now else text_on files path

-- two names are the same
abbrev pub is_same : FileName → FileName → Bool
is_same Head Head = true
is_same (Trace rank) (Trace other) = rank == other
is_same name other = false

-- the text of the first file with the name
abbrev pub text_in : List MadeFile → FileName → Option (List ℕ)
text_in [] name = None
text_in (file ∷ files) name = if is_same file.name name then Some (bytes_written file.output) else text_in files name

-- that in the folder with a path, where it was kept
abbrev pub text_at : Option KeptFolder → List ℕ → FileName → Option (List ℕ)
text_at None path name = None
text_at (Some kept) path name = if bytes_eq (string_bytes kept.path) path then text_in kept.folder.files.items name else None
