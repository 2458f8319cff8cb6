-- What is known of a file in a folder, by what its opener answers.
use Rattle.std.proofs.Common.{◌≡◌, ◌∙◌, ℕ, Bool, true, false, Option, Some, None, List, Ok, Err, length, slice_get, refl, sym, ap, subst, Bor}
use Rattle.std.specs.Prelude.{IfSome, is_some}
use Rattle.clap.specs.Walk.{Text}
use Rattle.std.specs.Io.KnownBytes.{Appends}
use Rattle.closing.specs.Entries.{Run}
use Rattle.closing.specs.Entry.{Choice}
use Rattle.closing.specs.Journals.{run_of}
use Rattle.closing.specs.Recording.{Listed, Recording, recording_of}
use Rattle.closing.specs.Texts.{head_text, trace_text}
use Rattle.judging.specs.Closing.{AreFilesOf, IsWritten}
use Rattle.judging.specs.JournalTexts.{Known, AreKnown, bytes_in}
use Rattle.judging.specs.declared.close.FileName.{FileName}
use Rattle.judging.specs.declared.close.FileName.TheVariants.{Head, Trace}
use Rattle.cli.specs.JournalFolders.{known_by, known_file, known_in}

bytes_known : (text : Option Text) (named : Option Bool) → bytes_in (known_by text named) ≡ text
bytes_known (Some text) named = refl
bytes_known None (Some false) = refl
bytes_known None (Some true) = refl
bytes_known None None = refl

found_known : (text : Option Text) (named : Option Bool) (there : Bool) → IfSome text (λ it. there ≡ true) → IfSome named (λ is. there ≡ is) →
    IfSome (known_by text named) (λ bytes. there ≡ is_some bytes)
found_known (Some text) named there told is = told
found_known None (Some false) there told is = is
found_known None (Some true) there told is = tt
found_known None None there told is = tt

-- whether it was found
pub found_in : (text : Text → Option Text) (named : Text → Option Bool) (path own : Text) (there : Bool) → path ≡ own →
    IfSome (text path) (λ it. there ≡ true) → IfSome (named path) (λ is. there ≡ is) → IfSome (known_file text named own) (λ bytes. there ≡ is_some bytes)
found_in text named path own there same told is =
    subst (λ (p : Text). IfSome (known_file text named p) (λ bytes. there ≡ is_some bytes)) same (found_known (text path) (named path) there told is)

-- what was opened
pub opened_in : (text : Text → Option Text) (named : Text → Option Bool) (path own : Text) (left : Option Text) → path ≡ own → left ≡ text path → left ≡ bytes_in (known_file text named own)
opened_in text named path own left same is = is ∙ ap text same ∙ sym (bytes_known (text own) (named own))

-- that nothing was
pub unopened_in : (text : Text → Option Text) (named : Text → Option Bool) (path own : Text) → path ≡ own → text path ≡ None → bytes_in (known_file text named own) ≡ None
unopened_in text named path own same is = bytes_known (text own) (named own) ∙ ap text (sym same) ∙ is

-- what is said of the journals of an opener in a folder is said of the same opener and folder
pub of_folder : {P : Type 0} (told : P → Text → Option Text) (named : P → Text → Option Bool) (says : Known → Text → Type 0) (opener other : Bor P) (path folder : Bor Text) → opener ≡ other → path ≡ folder →
    says (known_in (told opener.now) (named opener.now) path.now) path.now → says (known_in (told other.now) (named other.now) folder.now) folder.now
of_folder {P} told named says opener other path folder same_opener same_path it =
    subst (λ (o : Bor P). says (known_in (told o.now) (named o.now) folder.now) folder.now) same_opener
    (subst (λ (f : Bor Text). says (known_in (told opener.now) (named opener.now) f.now) f.now) same_path it)

-- files that were kept as they were written are those of the recording
files_as : (empty other : Option Text) (text moved : FileName → Option Text) (recording : Recording) → AreFilesOf empty text recording → empty ≡ other → ((name : FileName) → moved name ≡ text name) → AreFilesOf other moved recording
files_as empty other text moved recording are same kept = record {
  head = at Head (head_text recording) are.head;
  traces = λ rank list is. at (Trace rank) (trace_text list) (are.traces rank list is);
}
  where
    at : (name : FileName) (bytes : Text) → Appends empty (text name) bytes → Appends other (moved name) bytes
    at name bytes appends =
        subst (λ (e : Option Text). Appends e (moved name) bytes) same (subst (λ (t : Option Text). Appends empty t bytes) (sym (kept name)) appends)

pub files_moved : (known : Known) (choice : Choice) (empty other : Option Text) (text moved : FileName → Option Text) → IsWritten known choice empty text → empty ≡ other → ((name : FileName) → moved name ≡ text name) → IsWritten known choice other moved
files_moved known choice empty other text moved written same kept = record {
  of_run = λ first texts run are reads. files_as empty other text moved (recording_of run choice) (written.of_run first texts run are reads) same kept;
  of_none_refused = written.of_none_refused;
}
