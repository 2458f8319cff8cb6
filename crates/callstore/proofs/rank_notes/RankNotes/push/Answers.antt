use Rattle.std.proofs.Common.{◌≡◌, ◌∙◌, ◌-◌, ◌≤◌, vec_len, vec_capacity, ◌<◌, ◌++◌, ◌∷◌, [], List, length, map, ap, arith}
use Rattle.std.proofs.lemmas.List.{length-map}
use Rattle.mpicall.specs.declared.call.Call.{Call}
use Rattle.callstore.specs.inner.Entries.{Entry}
use Rattle.callstore.specs.Limits.{most_calls}
use Rattle.callstore.specs.Notes.{Noted, calls_in, listed, AreStarts}
use Rattle.callstore.specs.inner.Notes.{NotedList}
use Rattle.callstore.specs.Packed.{noted}
use Rattle.callstore.specs.inner.Packed.{noted_of, listed_starts}
use Rattle.callstore.proofs.PackedLemmas.{listed_few, notes_push, stored_push, names_more, few_listed, as_many_starts, packed_stored, packed_noted}
use Rattle.callstore.proofs.rank_notes.RankNotes.push.Goals as goal

pub invariant_of-self : goal.invariant_of-self
invariant_of-self c =
    let call = c.as_call-call.result.now in
    let entries = c.self.inside.entries.items in
    let starts = c.self.inside.starts.items in
    let places = c.args.starts.now in
    let entry : Entry = record { call = c.pack-packed.result; cached = c.args.cached } in
    let first : length starts ≡ c.len.result = cc in
    let same : map (noted_of entries starts) entries ≡ c.args.self.now.calls = ap (λ (list : NotedList). list.calls) c.self.view_is in
    let are_starts : AreStarts (calls_in (map (noted_of entries starts) entries)) call places = rw (same, c.as_call-call.ensures.value) c.requires.starts in
    let those = names_more entries starts places call entry are_starts in
    let few : length entries < most_calls = omega (arith, c.requires.few, ap (λ (list : List Noted). length list) same, length-map entries (noted_of entries starts)) in
    rw (c.push_reserved.ensures, c.push_all.ensures, c.listed_starts.ensures)
    (stored_push entries starts (listed_starts call places) entry c.self.invariant
    (packed_stored _ starts places call entry c.as_call-call.ensures.in_ranges those.start
    (c.pack-packed.ensures.call _ starts those.are_those first) (c.pack-packed.ensures.starts starts first) (rw first c.pack-packed.ensures.end))
    (few_listed call places c.as_call-call.ensures.in_ranges (as_many_starts _ call places are_starts)) few)

pub returns : goal.returns
returns c =
    let call = c.as_call-call.result.now in
    let entries = c.self.inside.entries.items in
    let starts = c.self.inside.starts.items in
    let places = c.args.starts.now in
    let entry : Entry = record { call = c.pack-packed.result; cached = c.args.cached } in
    let first : length starts ≡ c.len.result = cc in
    let same : map (noted_of entries starts) entries ≡ c.args.self.now.calls = ap (λ (list : NotedList). list.calls) c.self.view_is in
    let are_starts : AreStarts (calls_in (map (noted_of entries starts) entries)) call places = rw (same, c.as_call-call.ensures.value) c.requires.starts in
    let those = names_more entries starts places call entry are_starts in
    let is = packed_noted (entries ++ entry ∷ []) starts places call entry (c.pack-packed.ensures.call _ starts those.are_those first) (c.pack-packed.ensures.starts starts first) in
    rw (c.push_reserved.ensures, c.push_all.ensures, c.listed_starts.ensures)
    (notes_push entries starts (listed_starts call places) entry c.self.invariant
    ∙ ap (λ (note : Noted). map (noted_of entries starts) entries ++ note ∷ []) is
    ∙ ap (λ (notes : List Noted). notes ++ noted call c.args.cached places ∷ []) same
    ∙ ap (λ (it : Call). c.args.self.now.calls ++ noted it c.args.cached places ∷ []) c.as_call-call.ensures.value)

pub push_all-requires : goal.push_all-requires
push_all-requires c =
    let call = c.as_call-call.result.now in
    let places = c.args.starts.now in
    let few : length (listed_starts call places) ≤ length (listed call) = listed_few call places (as_many_starts (calls_in c.args.self.now.calls) call places (rw c.as_call-call.ensures.value c.requires.starts)) in
    let room : vec_capacity c.self.inside.starts - vec_len c.self.inside.starts ≡ c.args.self.now.room.starts = ap (λ (list : NotedList). list.room.starts) c.self.view_is in
    let fits : length (listed call) ≤ c.args.self.now.room.starts = rw c.as_call-call.ensures.value c.requires.room.starts in
    rw c.listed_starts.ensures (omega (arith, few, room, fits))
