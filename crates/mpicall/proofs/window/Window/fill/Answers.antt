-- A read adds what it gave after the held bytes, or leaves them.
use Rattle.std.proofs.Common.{arith, ◌∙◌, sym, ap, take, ◌++◌, length, List, ℕ}
use Rattle.std.proofs.lemmas.List.{length-take, length-drop}
use Rattle.mpicall.proofs.WindowLemmas.{filled, unfilled, known_filled, known_kept, window_length}
use Rattle.mpicall.proofs.window.Window.fill.Goals as goal

pub make_room-requires-clause-few : goal.make_room-requires-clause-few
make_room-requires-clause-few g c =
    let i = c.self.inside in
    let told = c.self.told in
    let buffered = ap length (sym c.self.view_is) ∙ window_length i.start i.end i.buffer c.self.invariant.0 (omega arith) in
    omega arith

pub returns-in-Err-clause-fault : goal.returns-in-Err-clause-fault
returns-in-Err-clause-fault g c =
    let room = c.make_room.new in
    let kept = unfilled room.start room.end _ room.buffer c.read_some.new.into c.make_room.ensures.order (omega arith) in
    kept ∙ c.make_room.ensures.buffered ∙ c.self.view_is

pub returns-in-Err-clause-known : goal.returns-in-Err-clause-known
returns-in-Err-clause-known g c =
    let room = c.make_room.new in
    let kept = unfilled room.start room.end _ room.buffer c.read_some.new.into c.make_room.ensures.order (omega arith) in
    known_kept _ _ _ _ (kept ∙ c.make_room.ensures.buffered ∙ c.self.view_is) c.in-Err.ensures.bytes

pub returns-in-Ok-clause-known : goal.returns-in-Ok-clause-known
returns-in-Ok-clause-known g c =
    let room = c.make_room.new in
    let more = filled room.start room.end _ c.in-Ok.count room.buffer c.read_some.new.into c.make_room.ensures.order (omega arith) c.in-Ok.ensures.bound.0 in
    let buffered = c.make_room.ensures.buffered ∙ c.self.view_is in
    known_filled _ _ _ _ _ (more ∙ ap (λ (bytes : List ℕ). bytes ++ take c.in-Ok.count c.read_some.new.into) buffered) c.in-Ok.ensures.bytes.0

pub returns-in-Ok-clause-ok : goal.returns-in-Ok-clause-ok
returns-in-Ok-clause-ok g c =
    let room = c.make_room.new in
    let more = filled room.start room.end _ c.in-Ok.count room.buffer c.read_some.new.into c.make_room.ensures.order (omega arith) c.in-Ok.ensures.bound.0 in
    let buffered = c.make_room.ensures.buffered ∙ c.self.view_is in
    let within = c.in-Ok.ensures.bound.0 in
    (take c.in-Ok.count c.read_some.new.into, more ∙ ap (λ (bytes : List ℕ). bytes ++ take c.in-Ok.count c.read_some.new.into) buffered, omega (arith, length-take c.in-Ok.count c.read_some.new.into))

pub returns-in-Ok-clause-end : goal.returns-in-Ok-clause-end
returns-in-Ok-clause-end g c = λ none. c.in-Ok.ensures.bytes.1 none (let same = c.read_some.auto.into in omega (arith, length-take {A = ℕ}, length-drop {A = ℕ}))
