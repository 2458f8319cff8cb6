-- The fields after a word are as many as it takes, and its site is in its form.
use Rattle.std.proofs.Common.{◌∙◌, ap, subst, Ok, Err, List, ℕ, length}
use Rattle.std.specs.Option.{option_copied}
use Rattle.journals.specs.Words.{forms_of}
use Rattle.journals.specs.Lines.{last_field, fields_of}
use Rattle.journals.specs.inner.Taking.{fields_after_word, PutsFields}
use Rattle.journals.proofs.PushLemmas.{Tested, after_word_read, after_word_wrong}
use Rattle.journals.proofs.line.push_by_parts.Goals as goal

pub returns-in-Ok : goal.returns-in-Ok
returns-in-Ok c =
    let tested : Tested c.args.word (fields_after_word c.args.line.now) c.has_site-has_site.result (option_copied c.tail_of-tail.result.last) c.tail_of-tail.result.count c.count_without-count.result c.takes_count.result c.site_fits.result = record {
      last_is = c.tail_of-tail.ensures.last ∙ ap last_field c.after_word.ensures.value;
      has_is = c.has_site-has_site.ensures;
      all_is = c.tail_of-tail.ensures.count ∙ ap (λ (fields : List (List ℕ)). length fields) c.after_word.ensures.value;
      count_is = c.count_without-count.ensures;
      takes_is = c.takes_count.ensures;
      takes_it = c.if-not-takes_count.false;
      fits_is = c.site_fits.ensures;
      fits_it = c.if-not-site_fits.false;
    } in
    let read : PutsFields (fields_of c.args.ranks (forms_of c.args.word c.count_without-count.result) c.after_word-2.result) c.args.into.now.items c.push_fields.new.into.items (Ok tt) = c.in-Ok.ensures in
    after_word_read c.args.ranks _ _ _ _ _ _ _ _ _ _ tested (rw c.after_word-2.ensures.value at read)

pub returns-in-Err : goal.returns-in-Err
returns-in-Err c =
    let tested : Tested c.args.word (fields_after_word c.args.line.now) c.has_site-has_site.result (option_copied c.tail_of-tail.result.last) c.tail_of-tail.result.count c.count_without-count.result c.takes_count.result c.site_fits.result = record {
      last_is = c.tail_of-tail.ensures.last ∙ ap last_field c.after_word.ensures.value;
      has_is = c.has_site-has_site.ensures;
      all_is = c.tail_of-tail.ensures.count ∙ ap (λ (fields : List (List ℕ)). length fields) c.after_word.ensures.value;
      count_is = c.count_without-count.ensures;
      takes_is = c.takes_count.ensures;
      takes_it = c.if-not-takes_count.false;
      fits_is = c.site_fits.ensures;
      fits_it = c.if-not-site_fits.false;
    } in
    let read : PutsFields (fields_of c.args.ranks (forms_of c.args.word c.count_without-count.result) c.after_word-2.result) c.args.into.now.items c.push_fields.new.into.items (Err c.in-Err.fault) = c.in-Err.ensures in
    let here = subst (λ (fields : List (List ℕ)). PutsFields (fields_of c.args.ranks (forms_of c.args.word c.count_without-count.result) fields) c.args.into.now.items c.push_fields.new.into.items (Err c.in-Err.fault)) c.after_word-2.ensures.value read in
    after_word_wrong c.args.ranks _ _ _ _ _ _ _ _ _ _ c.in-Err.fault tested here
