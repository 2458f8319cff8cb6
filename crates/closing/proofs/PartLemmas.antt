-- The calls of a list that is cut where it is too long, by the records that it has so far.
use Rattle.std.proofs.Common.{◌≡◌, ◌∙◌, sym, ap, subst, arith, ℕ, ◌-◌, ◌<◌, ◌≤◌, List, [], ◌∷◌, ◌++◌, length, take, append_assoc, Option, Some, None, option_map, inl, inr, ◌⊎◌}
use Rattle.std.specs.Prelude.{nat_lt, slice_get}
use Rattle.std.proofs.lemmas.Bool.{cond-true, cond-false, lt-ltb, le-ltb, cases_lt}
use Rattle.std.proofs.lemmas.List.{map-append, length-map, take-map}
use Rattle.mpicall.specs.declared.call.Call.{Call}
use Rattle.mpicall.specs.declared.call.Call.TheVariants.{Open}
use Rattle.closing.specs.Steps.{Written, Progress}
use Rattle.closing.specs.Recording.{Listed, calls_of, cut, line_of, most_records}
use Rattle.closing.specs.inner.Lists.{Handed, HasPlaces, IsCut, calls_in}
use Rattle.closing.specs.declared.list.List.{List as ListCode}
use Rattle.closing.specs.declared.why.Why.TheVariants.{TooLong}
use Rattle.closing.proofs.ListLemmas.{take_past}

-- a list as it is cut
abbrev pub shortened : Listed → Listed
shortened it = record {
  records = take (most_records - 1) it.records;
  end = Open;
  line = line_of (slice_get it.records (most_records - 1));
  why = Some TooLong;
  active = it.active;
}

-- one that isn't too long stays
pub cut_short : (it : Listed) → length it.records < most_records → cut it ≡ it
cut_short it h = cond-true (nat_lt (length it.records) most_records) it (shortened it) (lt-ltb (length it.records) most_records h)

pub cut_long : (it : Listed) → most_records ≤ length it.records → cut it ≡ shortened it
cut_long it h = cond-false (nat_lt (length it.records) most_records) it (shortened it) (le-ltb (length it.records) most_records h)

-- of the records that a list has so far, if they aren't too many, all are among its calls
pub begins_short : (it : Listed) (records more : List Written) → it.records ≡ records ++ more
    → (rest : List Call) × (calls_of it ≡ calls_in records ++ rest)
begins_short it records more e = (
  calls_in more ++ it.end ∷ [],
  ap (λ xs. calls_in xs ++ it.end ∷ []) e ∙ ap (λ xs. xs ++ it.end ∷ []) (map-append (λ one. one.call) records more)
      ∙ append_assoc (calls_in records) (calls_in more) (it.end ∷ []),
)

begins_long : (it : Listed) (records more : List Written) → it.records ≡ records ++ more → length records < most_records
    → (rest : List Call) × (calls_of (shortened it) ≡ calls_in records ++ rest)
begins_long it records more e h =
    let left = take (most_records - 1 - length (calls_in records)) (calls_in more) in
    let count : length (calls_in records) ≡ length records = length-map records (λ one. one.call) in (
      left ++ Open ∷ [],
      ap (λ xs. calls_in (take (most_records - 1) xs) ++ Open ∷ []) e
          ∙ ap (λ xs. xs ++ Open ∷ [])
          (sym (take-map (λ one. one.call) (most_records - 1) (records ++ more))
          ∙ ap (take (most_records - 1)) (map-append (λ one. one.call) records more)
          ∙ take_past (most_records - 1) (calls_in records) (calls_in more) (omega (arith, h, count)))
          ∙ append_assoc (calls_in records) left (Open ∷ []),
    )

pub cut_begins : (it : Listed) (records more : List Written) → it.records ≡ records ++ more → length records < most_records
    → (rest : List Call) × (calls_of (cut it) ≡ calls_in records ++ rest)
cut_begins it records more e h = by_length (cases_lt (length it.records) most_records)
  where
    by_length : (length it.records < most_records) ⊎ (most_records ≤ length it.records) → (rest : List Call) × (calls_of (cut it) ≡ calls_in records ++ rest)
    by_length (inl short) =
        let k = begins_short it records more e in (k.0, ap calls_of (cut_short it short) ∙ k.1)
    by_length (inr long) =
        let k = begins_long it records more e h in (k.0, ap calls_of (cut_long it long) ∙ k.1)

-- ---- A list that is cut ----

some_line : (it : Option Written) (line : ℕ) → option_map (λ one. one.line) it ≡ Some line → line_of it ≡ line
some_line None line e = absurd (cc (e))
some_line (Some one) line e = cc

-- what the list has of one that is cut within a line's records, before its end
pub record IsCutAt (handed : Handed) (line : ℕ) (list : ListCode) (it : Listed) : Type 0 where
  pub calls : calls_of it ≡ handed.calls ++ (list.records ++ Open ∷ [])
  pub line_is : it.line ≡ line
  pub why : it.why ≡ Some TooLong
  pub places : HasPlaces handed.frees it.records list.freed

pub cut_is : (it : Listed) (handed : Handed) (progress : Progress) (line : ℕ) (list : ListCode)
    → progress.records ≡ it.records → IsCut handed progress line list → IsCutAt handed line list (cut it)
cut_is it handed progress line list same is =
    let long : most_records ≤ length it.records = subst (λ (xs : List Written). most_records ≤ length xs) same is.long in
    let records : take (most_records - 1) (calls_in it.records) ≡ handed.calls ++ list.records =
    ap (λ xs. take (most_records - 1) (calls_in xs)) (sym same) ∙ is.records in
    let ends : option_map (λ one. one.line) (slice_get it.records (most_records - 1)) ≡ Some line =
    ap (λ xs. option_map (λ one. one.line) (slice_get xs (most_records - 1))) (sym same) ∙ is.ends_at in
    record {
      calls =
          ap calls_of (cut_long it long)
          ∙ ap (λ xs. xs ++ Open ∷ []) (sym (take-map (λ one. one.call) (most_records - 1) it.records) ∙ records)
          ∙ append_assoc handed.calls list.records (Open ∷ []);
      line_is = ap (λ one. one.line) (cut_long it long) ∙ some_line (slice_get it.records (most_records - 1)) line ends;
      why = ap (λ one. one.why) (cut_long it long);
      places =
          subst (λ (xs : List Written). HasPlaces handed.frees xs list.freed)
          (ap (take (most_records - 1)) same ∙ sym (ap (λ one. one.records) (cut_long it long))) is.places;
    }
