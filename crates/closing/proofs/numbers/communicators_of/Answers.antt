-- All of it together.
use Rattle.std.proofs.Common.{◌≡◌, ◌∙◌, ℕ, ◌<◌, [], List, Option, drop, length, arith, refl, sym, subst}
use Rattle.std.specs.HashSet.{contains_by}
use Rattle.closing.specs.inner.Given.{AreBelow, numbered_places}
use Rattle.closing.specs.inner.Numbered.{AreGroupsOf, AreNamed, brings_at, same_wave}
use Rattle.closing.specs.inner.Prefaces.{IsPreface, put_all, seated_from}
use Rattle.closing.specs.declared.keys.Wave.{Wave as WaveCode}
use Rattle.closing.proofs.KeptLemmas.{run_kept}
use Rattle.closing.proofs.NumberedLemmas.{places_in}
use Rattle.closing.proofs.numbers.communicators_of.Goals as goal

pub returns : goal.returns
returns c =
    λ run ranks fit s window.
    let survey = c.args.survey in
    let it = c.in_ok-numbering.numbering in
    let of = c.in_ok-numbering.ensures in
    let list : c.as_slice-list.result.now ≡ it.numbered.items = c.as_slice-list.ensures.value in
    let numbers : c.as_slice-numbers.result.now ≡ it.numbers.items = c.as_slice-numbers.ensures.value in
    let room : length it.numbers.items ≡ length survey.keys.codes = sym it.numbers.ok.0 ∙ of.room in
    let given : 0 < length it.numbers.items → AreBelow (length it.numbers.items) (places_in survey) → it.numbered.items ≡ numbered_places survey.named.items (places_in survey) =
    λ some below. of.given (omega (arith, it.numbers.ok.0)) (subst (λ n. AreBelow n (places_in survey)) (sym it.numbers.ok.0) below) in
    let named = c.in_ok-named.named in
    let by = subst (λ (xs : List (Option ℕ)). AreNamed survey.keys xs named.items) numbers c.in_ok-named.ensures in
    let preface = c.in_ok-preface.preface in
    let brings = subst (λ (xs : List ℕ). AreBelow (length survey.keys.codes) xs → (wave : WaveCode) → contains_by (same_wave wave) c.in_ok-bringing.bringing ≡ brings_at survey.keys xs wave) list c.in_ok-bringing.ensures in
    let lines = subst (λ (r : ℕ). 0 < length it.numbered.items → AreBelow (length survey.keys.codes) it.numbered.items → AreGroupsOf survey.keys r it.numbered.items → IsPreface preface (length it.numbered.items) (put_all (seated_from survey.keys 1 (drop 1 it.numbered.items)) [])) ranks
    (subst (λ (xs : List ℕ). 0 < length xs → AreBelow (length survey.keys.codes) xs → AreGroupsOf survey.keys c.args.ranks xs → IsPreface preface (length xs) (put_all (seated_from survey.keys 1 (drop 1 xs)) [])) list c.in_ok-preface.ensures.lines) in
    run_kept run survey _ it.numbers.items fit s refl refl room of.numbering given by brings (c.in_ok-preface.ensures.ranks ∙ ranks) lines window
