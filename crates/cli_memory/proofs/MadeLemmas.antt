-- What is found of a file that was taken back, and of a folder that was kept.
use Rattle.std.proofs.Common.{◌≡◌, ◌∙◌, ℕ, ◌==◌, Bool, true, false, cond, Option, Some, None, List, [], ◌∷◌, refl, sym, ap, subst, ⊎_elim, Global, string_bytes}
use Rattle.std.specs.Prelude.{bytes_eq}
use Rattle.std.proofs.lemmas.Bool.{cases_Bool}
use Rattle.std.proofs.lemmas.Bool.Decides.{Decides-eqb}
use Rattle.std.proofs.lemmas.Slice.Eq.{bytes_eq-Decides}
use Rattle.mpicall.specs.Devices.{bytes_written}
use Rattle.judging.specs.declared.close.FileName.{FileName}
use Rattle.judging.specs.declared.close.FileName.TheVariants.{Head, Trace}
use Rattle.cli_memory.specs.MemoryFiles.{is_same, text_at, text_in}
use Rattle.cli_memory.specs.declared.memory_files.KeptFolder.{KeptFolder}
use Rattle.cli_memory.specs.declared.memory_files.MadeFile.{MadeFile}

same_self : (name : FileName) → is_same name name ≡ true
same_self Head = refl
same_self (Trace rank) = (Decides-eqb rank rank).1 refl

same_other : (name other : FileName) → (other ≡ name → ⊥) → is_same name other ≡ false
same_other Head Head apart = absurd (apart refl)
same_other Head (Trace rank) apart = refl
same_other (Trace rank) Head apart = refl
same_other (Trace rank) (Trace other) apart = ⊎_elim (λ same. absurd (apart (ap Trace (sym ((Decides-eqb rank other).0 same))))) (λ differ. differ) (cases_Bool (rank == other))

-- the file that was taken back, and the others
pub added_own : (files now : List MadeFile) (file : MadeFile) → now ≡ file ∷ files → text_in now file.name ≡ Some (bytes_written file.output)
added_own files now file is =
    ap (λ (all : List MadeFile). text_in all file.name) is ∙ ap (λ (b : Bool). cond b (Some (bytes_written file.output)) (text_in files file.name)) (same_self file.name)

pub added_other : (files now : List MadeFile) (file : MadeFile) (other : FileName) → now ≡ file ∷ files → (other ≡ file.name → ⊥) → text_in now other ≡ text_in files other
added_other files now file other is apart =
    ap (λ (all : List MadeFile). text_in all other) is ∙ ap (λ (b : Bool). cond b (Some (bytes_written file.output)) (text_in files other)) (same_other file.name other apart)

-- the files of a folder that was kept
pub kept_text : (kept : KeptFolder) (path : List ℕ) (name : FileName) → string_bytes kept.path ≡ path → text_at (Some kept) path name ≡ text_in kept.folder.files.items name
kept_text kept path name is = ap (λ (b : Bool). cond b (text_in kept.folder.files.items name) None) ((bytes_eq-Decides (string_bytes kept.path) path).1 is)
