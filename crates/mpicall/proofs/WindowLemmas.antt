-- What the buffer of a window holds after a read after its end.
use Rattle.std.proofs.Common.{◌≡◌, ℕ, ◌+◌, ◌-◌, ◌≤◌, List, ◌++◌, length, take, drop, sym, ap, ◌∙◌, refl, arith, Option, Some, None, append_assoc}
use Rattle.std.proofs.Math.Seq.{take-append-add}
use Rattle.std.proofs.lemmas.List.{drop-take, drop-drop, take-take, drop-append-le, length-take, length-drop}
use Rattle.std.proofs.lemmas.Slice.{take-put_mid, take-put_mid_below}
use Rattle.std.specs.Io.KnownBytes.{Keeps, prepend_known, Consumes}
use borrow.Rule.Slice.PartMut.{put_mid}

-- the bytes between two places, from the front that ends at the second one
between : (start end : ℕ) (bytes : List ℕ) → start ≤ end → take (end - start) (drop start bytes) ≡ drop start (take end bytes)
between start end bytes h =
    let whole : start + (end - start) ≡ end = omega arith in
    sym (drop-take start (end - start) bytes) ∙ ap (λ n. drop start (take n bytes)) whole

-- the front of a buffer into which some bytes were put
put_front : (end room count : ℕ) (buffer into : List ℕ) → end ≤ length buffer → count ≤ length into → take (end + count) (put_mid end room buffer into) ≡ take end buffer ++ take count into
put_front end room count buffer into fits short =
    let all : take (end + length into) (put_mid end room buffer into) ≡ take end buffer ++ into = take-put_mid end room buffer into (end + length into) refl fits in
    let front : length (take end buffer) ≡ end = omega (arith, length-take end buffer) in
    sym (take-take (end + count) (end + length into) (put_mid end room buffer into) (omega arith))
    ∙ ap (λ bytes. take (end + count) bytes) all
    ∙ ap (λ n. take (n + count) (take end buffer ++ into)) (sym front)
    ∙ take-append-add (take end buffer) into count

-- a read after the held bytes adds what it gave
pub filled : (start end room count : ℕ) (buffer into : List ℕ) → start ≤ end → end ≤ length buffer → count ≤ length into → take (end + count - start) (drop start (put_mid end room buffer into)) ≡ take (end - start) (drop start buffer) ++ take count into
filled start end room count buffer into order fits short =
    between start (end + count) (put_mid end room buffer into) (omega arith)
    ∙ ap (drop start) (put_front end room count buffer into fits short)
    ∙ drop-append-le start (take end buffer) (take count into) (omega (arith, length-take end buffer))
    ∙ ap (λ bytes. bytes ++ take count into) (sym (between start end buffer order))

-- a read that failed leaves them
pub unfilled : (start end room : ℕ) (buffer into : List ℕ) → start ≤ end → end ≤ length buffer → take (end - start) (drop start (put_mid end room buffer into)) ≡ take (end - start) (drop start buffer)
unfilled start end room buffer into order fits =
    between start end (put_mid end room buffer into) order
    ∙ ap (drop start) (take-put_mid_below end room buffer into end (omega arith) fits)
    ∙ sym (between start end buffer order)

-- the bytes after the first ones
pub dropped : (start end count : ℕ) (buffer : List ℕ) → start + count ≤ end → take (end - (start + count)) (drop (start + count) buffer) ≡ drop count (take (end - start) (drop start buffer))
dropped start end count buffer h =
    between (start + count) end buffer h
    ∙ sym (drop-drop count start (take end buffer))
    ∙ ap (drop count) (sym (between start end buffer (omega arith)))

pub window_length : (start end : ℕ) (buffer : List ℕ) → start ≤ end → end ≤ length buffer → length (take (end - start) (drop start buffer)) ≡ end - start
window_length start end buffer order fits = omega (arith, length-take (end - start) (drop start buffer), length-drop start buffer)

-- what is held and what is left stay one text
pub known_filled : (buffered now given : List ℕ) (old new : Option (List ℕ)) → now ≡ buffered ++ given → Consumes old new given → Keeps (prepend_known buffered old) (prepend_known now new)
known_filled buffered now given None new e c = tt
known_filled buffered now given (Some old) None e c = c
known_filled buffered now given (Some old) (Some new) e c =
    ap (λ bytes. bytes ++ new) e ∙ append_assoc buffered given new ∙ ap (λ bytes. buffered ++ bytes) (sym c)

pub known_kept : (buffered now : List ℕ) (old new : Option (List ℕ)) → now ≡ buffered → Keeps old new → Keeps (prepend_known buffered old) (prepend_known now new)
known_kept buffered now None new e k = tt
known_kept buffered now (Some old) None e k = k
known_kept buffered now (Some old) (Some new) e k = ap (λ bytes. bytes ++ new) e ∙ ap (λ bytes. buffered ++ bytes) k
