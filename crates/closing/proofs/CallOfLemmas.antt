-- The call of an entry, by what a word says of fields.
use Rattle.std.proofs.Common.{◌≡◌, ◌∙◌, ap, subst, sym, List, length}
use Rattle.journals.specs.Lines.{Line}
use Rattle.journals.specs.Taking.{fields_at}
use Rattle.journals.specs.declared.field.Field.{Field}
use Rattle.journals.specs.declared.word.CallWord.{CallWord}
use Rattle.closing.specs.Called.{called, naturals_in}
use Rattle.closing.specs.Fit.{AreNumbers}
use Rattle.closing.specs.inner.CallOf.{IsCallOf}
use Rattle.closing.specs.inner.Views.{called_view}
use Rattle.closing.specs.inner.Walked.{AreRequests}
use Rattle.closing.specs.declared.called.Called.{Called as CalledCode}
use Rattle.closing.specs.declared.walk.Entry.{Entry as EntryCode}

-- the word and the fields are those of the entry
pub is_of : (lines : List Line) (entry : EntryCode) (word : CallWord) (fields : List Field) (it : CalledCode) → entry.word ≡ word → fields ≡ fields_at lines entry.place
    → called_view it ≡ called word fields → (AreNumbers word (length (naturals_in fields)) (length fields) → AreRequests it) → IsCallOf lines entry it
is_of lines entry word fields it word_is fields_are says requests = record {
  says = says ∙ ap (λ (w : CallWord). called w fields) (sym word_is) ∙ ap (called entry.word) fields_are;
  requests = λ are. requests (subst (λ (w : CallWord). AreNumbers w (length (naturals_in fields)) (length fields)) word_is
      (subst (λ (xs : List Field). AreNumbers entry.word (length (naturals_in xs)) (length xs)) (sym fields_are) are));
}
