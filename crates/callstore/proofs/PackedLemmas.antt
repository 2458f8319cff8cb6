-- Entries of a rank, whose lists of calls and of starts go on.
use Rattle.std.proofs.Common.{◌≡◌, ℕ, zero, suc, ◌+◌, ◌<◌, ◌≤◌, Option, Some, None, IsSome, is_some, List, [], ◌∷◌, ◌++◌, length, map, drop, refl, sym, ap, ◌∙◌, Bool, true, false, ◌&&◌, leb, arith, length-append, length-set, set}
use Rattle.std.specs.Prelude.{unwrap_or}
use Rattle.std.specs.List.{list_all, All}
use Rattle.std.proofs.lemmas.Bool.{false≢true, leb-true}
use Rattle.std.proofs.lemmas.List.{take-append-le, drop-append-le, map-append, map-set, length-drop, length-map}
use Rattle.std.proofs.lemmas.List.Elements.{All-nil, All-cons, All-head, All-tail, All-push, All-weaker, All-set, All-get_or}
use Rattle.mpicall.specs.Limits.{few_enough, names_enough, in_ranges}
use Rattle.mpicall.specs.Argument.{is_in_range}
use Rattle.mpicall.specs.Spelling.{arguments_of}
use Rattle.mpicall.specs.declared.limits.TheConstants.{MOST_REQUESTS}
use Rattle.mpicall.specs.declared.call.Call.{Call}
use Rattle.mpicall.specs.declared.call.Call.TheVariants as made
use Rattle.mpicall.specs.inner.CallArgs.{call_from}
use Rattle.mpicall.specs.declared.call_args.CallArgs.{CallArgs}
use Rattle.mpicall.specs.declared.call_args.CallArgs.TheVariants as call_args
use Rattle.mpicall.specs.declared.word.Name.{Name}
use Rattle.mpicall.specs.declared.word.Name.TheVariants as name
use Rattle.callstore.specs.declared.packed.Packed.{Packed}
use Rattle.callstore.specs.declared.packed.Packed.TheVariants.{Send, Recv, Wait, Waitall, Waitany, Nothing, Message, Exchange, Copy, Split}
use Rattle.mpicall.specs.declared.call.Peer.TheVariants.{Rank, Null}
use Rattle.callstore.specs.Hot.{hot_kind}
use Rattle.callstore.specs.inner.Entries.{Entry}
use Rattle.std.specs.Option.{option_map, option_map_or}
use Rattle.std.specs.List.{slice_get}
use Rattle.std.proofs.lemmas.Option.{same_Some, slice_get-map, slice_get_within, get_or_from_slice_get}
use Rattle.callstore.specs.declared.cached_match.CachedMatch.{CachedMatch}
use Rattle.callstore.specs.declared.envelope.Half.{Half}
use Rattle.callstore.specs.CachedMatch.{with_partner}
use Rattle.callstore.specs.Limits.{most_calls}
use Rattle.callstore.specs.Requests.{starts as starts_of, waits_for, completes as completes_of}
use Rattle.callstore.specs.Notes.{Noted, listed, calls_in, note_with, partnered_in, request_among, AreStarts, completed_among}
use Rattle.callstore.specs.Packed.{noted}
use Rattle.callstore.specs.inner.Packed.{request_of, hot_kind_of, request_at, req_at, reqs_at, part, unpack, unpack_starts, end_of, noted_of, StartRequests, IsStored, AreStored, listed_starts}
use Rattle.callstore.proofs.OptionLemmas.{same_map}

-- a part of a list stays as the list goes on
part_more : (xs more : List ℕ) (first count : ℕ) → first + count ≤ length xs → part (xs ++ more) first count ≡ part xs first count
part_more xs more first count within =
    let rest : count ≤ length (drop first xs) = omega (arith, length-drop first xs) in
    rw (drop-append-le first xs more (omega arith)) (take-append-le count (drop first xs) more rest)

starts_more : (starts more : List ℕ) (packed : Packed) → end_of packed ≤ length starts → unpack_starts (starts ++ more) packed ≡ unpack_starts starts packed
starts_more starts more (Waitall first count) within = part_more starts more first count within
starts_more starts more (Waitany chosen first count) within = part_more starts more first count within
starts_more starts more _ within = refl

-- a call that starts a request starts the same as calls go on
request_more : (entries more : List Entry) (place : ℕ) → IsSome (request_at entries place) → request_at (entries ++ more) place ≡ request_at entries place
request_more [] more place some = absurd (false≢true some)
request_more (entry ∷ entries) more zero some = refl
request_more (entry ∷ entries) more (suc place) some = request_more entries more place some

reqs_more : (entries more : List Entry) (places : List ℕ) → StartRequests entries places → reqs_at (entries ++ more) places ≡ reqs_at entries places
reqs_more entries more [] start = refl
reqs_more entries more (place ∷ places) start =
    let first = request_more entries more place (All-head (λ (p : ℕ). IsSome (request_at entries p)) place places start) in
    let rest = reqs_more entries more places (All-tail (λ (p : ℕ). IsSome (request_at entries p)) place places start) in
    rw first (ap (λ (reqs : List ℕ). req_at entries place ∷ reqs) rest)

start_more : (entries more : List Entry) (places : List ℕ) → StartRequests entries places → StartRequests (entries ++ more) places
start_more entries more =
    All-weaker (λ (p : ℕ). IsSome (request_at entries p)) (λ (p : ℕ). IsSome (request_at (entries ++ more) p))
    (λ p some. ap (λ (o : Option ℕ). is_some o) (request_more entries more p some) ∙ some)

-- so a wait names the same requests
named_more : (entries entries' : List Entry) (starts starts' : List ℕ) (first count : ℕ) → first + count ≤ length starts → StartRequests entries (part starts first count) → reqs_at (entries ++ entries') (part (starts ++ starts') first count) ≡ reqs_at entries (part starts first count)
named_more entries entries' starts starts' first count within start =
    ap (λ (places : List ℕ). reqs_at (entries ++ entries') places) (part_more starts starts' first count within)
    ∙ reqs_more entries entries' (part starts first count) start

unpack_more : (entries entries' : List Entry) (starts starts' : List ℕ) (packed : Packed) → end_of packed ≤ length starts → StartRequests entries (unpack_starts starts packed) → unpack (entries ++ entries') (starts ++ starts') packed ≡ unpack entries starts packed
unpack_more entries entries' starts starts' (Wait start) within started =
    ap (λ (o : Option ℕ). made.Wait (unwrap_or o 0)) (request_more entries entries' start (All-head (λ (p : ℕ). IsSome (request_at entries p)) start [] started))
unpack_more entries entries' starts starts' (Waitall first count) within started =
    ap (λ (reqs : List ℕ). made.Waitall reqs) (named_more entries entries' starts starts' first count within started)
unpack_more entries entries' starts starts' (Waitany chosen first count) within started =
    ap (λ (reqs : List ℕ). made.Waitany chosen reqs) (named_more entries entries' starts starts' first count within started)
unpack_more entries entries' starts starts' _ within started = refl

-- so an entry stands for the same, and is stored
noted_more : (entries entries' : List Entry) (starts starts' : List ℕ) (entry : Entry) → IsStored entries starts entry → noted_of (entries ++ entries') (starts ++ starts') entry ≡ noted_of entries starts entry
noted_more entries entries' starts starts' entry stored =
    ap (λ (call : Call). noted call entry.cached (unpack_starts (starts ++ starts') entry.call)) (unpack_more entries entries' starts starts' entry.call stored.within stored.started)
    ∙ ap (λ (xs : List ℕ). noted (unpack entries starts entry.call) entry.cached xs) (starts_more starts starts' entry.call stored.within)

stored_more : (entries entries' : List Entry) (starts starts' : List ℕ) (entry : Entry) → IsStored entries starts entry → IsStored (entries ++ entries') (starts ++ starts') entry
stored_more entries entries' starts starts' entry stored = record {
  ranged = ap in_ranges (unpack_more entries entries' starts starts' entry.call stored.within stored.started) ∙ stored.ranged;
  within = omega (arith, length-append starts starts', stored.within);
  started = rw (starts_more starts starts' entry.call stored.within) (start_more entries entries' (unpack_starts starts entry.call) stored.started);
}

map_same : {X Y : Type 0} (f g : X → Y) (P : X → Type 0) (xs : List X) → ((x : X) → P x → f x ≡ g x) → All P xs → map f xs ≡ map g xs
map_same f g P [] same each = refl
map_same {Y = Y} f g P (x ∷ xs) same each =
    let first : f x ≡ g x = same x (All-head P x xs each) in
    let rest : map f xs ≡ map g xs = map_same f g P xs same (All-tail P x xs each) in
    cc

-- an entry is added, and what it lists
pub notes_push : (entries : List Entry) (starts starts' : List ℕ) (entry : Entry) → AreStored entries starts → map (noted_of (entries ++ entry ∷ []) (starts ++ starts')) (entries ++ entry ∷ []) ≡ map (noted_of entries starts) entries ++ noted_of (entries ++ entry ∷ []) (starts ++ starts') entry ∷ []
notes_push entries starts starts' entry stored =
    map-append (noted_of (entries ++ entry ∷ []) (starts ++ starts')) entries (entry ∷ [])
    ∙ ap (λ (notes : List Noted). notes ++ noted_of (entries ++ entry ∷ []) (starts ++ starts') entry ∷ [])
    (map_same (noted_of (entries ++ entry ∷ []) (starts ++ starts')) (noted_of entries starts) (IsStored entries starts) entries (noted_more entries (entry ∷ []) starts starts') stored.each)

pub stored_push : (entries : List Entry) (starts starts' : List ℕ) (entry : Entry) → AreStored entries starts → IsStored (entries ++ entry ∷ []) (starts ++ starts') entry → length starts' ≤ MOST_REQUESTS → length entries < most_calls → AreStored (entries ++ entry ∷ []) (starts ++ starts')
stored_push entries starts starts' entry stored added short few = record {
  each = All-push (IsStored (entries ++ entry ∷ []) (starts ++ starts')) entries entry
      (All-weaker (IsStored entries starts) (IsStored (entries ++ entry ∷ []) (starts ++ starts')) (stored_more entries (entry ∷ []) starts starts') entries stored.each) added;
  few_starts = omega (arith, length-append starts starts', length-append entries (entry ∷ []), stored.few_starts);
  few = omega (arith, length-append entries (entry ∷ []));
}

-- a call of a name and what follows it is no wait, and starts no request
pub record IsApart (call : Call) : Type 0 where
  pub starts : starts_of call ≡ None
  pub waits : waits_for call ≡ []
  pub completes : completes_of call ≡ []
  pub among : completed_among call [] ≡ []
  pub kind : hot_kind call ≡ 0

pub args_apart : (it : CallArgs) (n : Name) → IsApart (call_from n it)
args_apart call_args.Nothing name.Waitall = record { starts = refl; waits = refl; completes = refl; among = refl; kind = refl }
args_apart (call_args.Message comm source tag) name.Waitall = record { starts = refl; waits = refl; completes = refl; among = refl; kind = refl }
args_apart (call_args.Exchange comm dest send_tag source recv_tag bytes) name.Waitall = record { starts = refl; waits = refl; completes = refl; among = refl; kind = refl }
args_apart (call_args.Copy comm new) name.Waitall = record { starts = refl; waits = refl; completes = refl; among = refl; kind = refl }
args_apart (call_args.Split comm colour key new) name.Waitall = record { starts = refl; waits = refl; completes = refl; among = refl; kind = refl }
args_apart _ _ = record { starts = refl; waits = refl; completes = refl; among = refl; kind = refl }

-- the kind of an entry is that of its call
pub kind_unpacked : (entries : List Entry) (starts : List ℕ) (packed : Packed) → hot_kind (unpack entries starts packed) ≡ hot_kind_of packed
kind_unpacked entries starts (Recv comm (Rank source) tag) = refl
kind_unpacked entries starts (Recv comm Null tag) = refl
kind_unpacked entries starts (Nothing name) = (args_apart call_args.Nothing name).kind
kind_unpacked entries starts (Message name comm source tag) = (args_apart (call_args.Message comm source tag) name).kind
kind_unpacked entries starts (Exchange name comm dest source send_tag recv_tag bytes) = (args_apart (call_args.Exchange comm dest send_tag source recv_tag bytes) name).kind
kind_unpacked entries starts (Copy name comm new) = (args_apart (call_args.Copy comm new) name).kind
kind_unpacked entries starts (Split name comm colour key new) = (args_apart (call_args.Split comm colour key new) name).kind
kind_unpacked entries starts _ = refl

-- the request that an entry starts is that of its call
request_unpacked : (entries : List Entry) (starts : List ℕ) (packed : Packed) → starts_of (unpack entries starts packed) ≡ request_of packed
request_unpacked entries starts (Send mode comm dest tag bytes) = refl
request_unpacked entries starts (Nothing name) = (args_apart call_args.Nothing name).starts
request_unpacked entries starts (Message name comm source tag) = (args_apart (call_args.Message comm source tag) name).starts
request_unpacked entries starts (Exchange name comm dest source send_tag recv_tag bytes) = (args_apart (call_args.Exchange comm dest send_tag source recv_tag bytes) name).starts
request_unpacked entries starts (Copy name comm new) = (args_apart (call_args.Copy comm new) name).starts
request_unpacked entries starts (Split name comm colour key new) = (args_apart (call_args.Split comm colour key new) name).starts
request_unpacked entries starts _ = refl

request_noted : (all : List Entry) (starts : List ℕ) (entries : List Entry) (place : ℕ) → request_among (calls_in (map (noted_of all starts) entries)) place ≡ request_at entries place
request_noted all starts [] place = refl
request_noted all starts (entry ∷ entries) zero = request_unpacked all starts entry.call
request_noted all starts (entry ∷ entries) (suc place) = request_noted all starts entries place

-- what is at the starts of a wait: calls that start requests, and those that it names
pub record Names (entries : List Entry) (places reqs : List ℕ) : Type 0 where
  pub start : StartRequests entries places
  pub are_those : reqs_at entries places ≡ reqs

names : (entries : List Entry) (places reqs : List ℕ) → map (request_at entries) places ≡ map (λ req. Some req) reqs → Names entries places reqs
names entries [] [] h = record { start = All-nil (λ (p : ℕ). IsSome (request_at entries p)); are_those = refl }
names entries [] (req ∷ reqs) h = absurd cc
names entries (place ∷ places) [] h = absurd cc
names entries (place ∷ places) (req ∷ reqs) h =
    let first : request_at entries place ≡ Some req = cc in
    let rest = names entries places reqs cc in
    record {
      start = All-cons (λ (p : ℕ). IsSome (request_at entries p)) place places (ap (λ (o : Option ℕ). is_some o) first) rest.start;
      are_those = rw first (ap (λ (others : List ℕ). req ∷ others) rest.are_those);
    }

-- of the starts that are given with a call, once an entry is added
pub names_more : (entries : List Entry) (starts places : List ℕ) (call : Call) (entry : Entry) → AreStarts (calls_in (map (noted_of entries starts) entries)) call places → Names (entries ++ entry ∷ []) places (waits_for call)
names_more entries starts places call entry are_starts =
    let those = names entries places (waits_for call) (sym (same_map (request_among (calls_in (map (noted_of entries starts) entries))) (request_at entries) places (request_noted entries starts entries)) ∙ are_starts) in
    record {
      start = start_more entries (entry ∷ []) places those.start;
      are_those = reqs_more entries (entry ∷ []) places those.start ∙ those.are_those;
    }

-- there is one for each request
pub as_many_starts : (calls : List Call) (call : Call) (places : List ℕ) → AreStarts calls call places → length places ≡ length (waits_for call)
as_many_starts calls call places are_starts =
    sym (length-map places (request_among calls)) ∙ ap (λ (os : List (Option ℕ)). length os) are_starts ∙ length-map (waits_for call) (λ (req : ℕ). Some req)

-- a call that was packed is stored
pub packed_stored : (entries : List Entry) (starts places : List ℕ) (call : Call) (entry : Entry) → in_ranges call ≡ true → StartRequests entries places → unpack entries (starts ++ listed_starts call places) entry.call ≡ call → unpack_starts (starts ++ listed_starts call places) entry.call ≡ places → end_of entry.call ≤ length starts + length (listed_starts call places) → IsStored entries (starts ++ listed_starts call places) entry
packed_stored entries starts places call entry ranged start is starts_are end = record {
  ranged = ap in_ranges is ∙ ranged;
  within = omega (arith, end, length-append starts (listed_starts call places));
  started = rw starts_are start;
}

-- and is the same call
pub packed_noted : (entries : List Entry) (starts places : List ℕ) (call : Call) (entry : Entry) → unpack entries (starts ++ listed_starts call places) entry.call ≡ call → unpack_starts (starts ++ listed_starts call places) entry.call ≡ places → noted_of entries (starts ++ listed_starts call places) entry ≡ noted call entry.cached places
packed_noted entries starts places call entry is starts_are =
    ap (λ (it : Call). noted it entry.cached (unpack_starts (starts ++ listed_starts call places) entry.call)) is
    ∙ ap (λ (xs : List ℕ). noted call entry.cached xs) starts_are

-- a wait for several lists no more starts than it may name requests
right : (a b : Bool) → (a && b) ≡ true → b ≡ true
right true b h = h
right false b h = absurd (false≢true h)

pub most_of : (reqs : List ℕ) → few_enough reqs ≡ true → length reqs ≤ MOST_REQUESTS
most_of reqs few = leb-true (length reqs) MOST_REQUESTS (right (leb 1 (length reqs)) (leb (length reqs) MOST_REQUESTS) few)

pub few_listed : (call : Call) (places : List ℕ) → in_ranges call ≡ true → length places ≡ length (waits_for call) → length (listed_starts call places) ≤ MOST_REQUESTS
few_listed call places ranged same = by_names call places (right (list_all is_in_range (arguments_of call)) (names_enough call) ranged) same
  where
    by_names : (call : Call) (places : List ℕ) → names_enough call ≡ true → length places ≡ length (waits_for call) → length (listed_starts call places) ≤ MOST_REQUESTS
    by_names (made.Waitall reqs) places few same = omega (arith, same, most_of reqs few)
    by_names (made.Waitany chosen reqs) places few same = omega (arith, same, most_of reqs few)
    by_names _ places few same = omega arith

same_maps : {X Y : Type 0} (f g : X → Y) (xs : List X) → ((x : X) → f x ≡ g x) → map f xs ≡ map g xs
same_maps f g [] agree = refl
same_maps {Y = Y} f g (x ∷ xs) agree =
    let first : f x ≡ g x = agree x in
    let rest : map f xs ≡ map g xs = same_maps f g xs agree in
    cc

-- what is kept with an entry's call is another: all calls stay
request_cached : (entries : List Entry) (i : ℕ) (old : Entry) (cached : CachedMatch) → slice_get entries i ≡ Some old → (place : ℕ) → request_at (set entries i (record { call = old.call; cached = cached })) place ≡ request_at entries place
request_cached [] i old cached h place = refl
request_cached (entry ∷ entries) zero old cached h zero = ap (λ (e : Entry). request_of e.call) (sym (same_Some entry old h))
request_cached (entry ∷ entries) zero old cached h (suc place) = refl
request_cached (entry ∷ entries) (suc i) old cached h zero = refl
request_cached (entry ∷ entries) (suc i) old cached h (suc place) = request_cached entries i old cached h place

module _ (entries entries' : List Entry) (same : (place : ℕ) → request_at entries' place ≡ request_at entries place) where
  reqs_same : (places : List ℕ) → reqs_at entries' places ≡ reqs_at entries places
  reqs_same places = same_maps (req_at entries') (req_at entries) places (λ place. ap (λ (o : Option ℕ). unwrap_or o 0) (same place))

  unpack_same : (starts : List ℕ) (packed : Packed) → unpack entries' starts packed ≡ unpack entries starts packed
  unpack_same starts (Wait start) = ap (λ (o : Option ℕ). made.Wait (unwrap_or o 0)) (same start)
  unpack_same starts (Waitall first count) = ap (λ (reqs : List ℕ). made.Waitall reqs) (reqs_same (part starts first count))
  unpack_same starts (Waitany chosen first count) = ap (λ (reqs : List ℕ). made.Waitany chosen reqs) (reqs_same (part starts first count))
  unpack_same starts _ = refl

  noted_same : (starts : List ℕ) (entry : Entry) → noted_of entries' starts entry ≡ noted_of entries starts entry
  noted_same starts entry = ap (λ (call : Call). noted call entry.cached (unpack_starts starts entry.call)) (unpack_same starts entry.call)

  stored_same : (starts : List ℕ) (entry : Entry) → IsStored entries starts entry → IsStored entries' starts entry
  stored_same starts entry stored = record {
    ranged = ap in_ranges (unpack_same starts entry.call) ∙ stored.ranged;
    within = stored.within;
    started = All-weaker (λ (p : ℕ). IsSome (request_at entries p)) (λ (p : ℕ). IsSome (request_at entries' p))
        (λ p some. ap (λ (o : Option ℕ). is_some o) (same p) ∙ some) (unpack_starts starts entry.call) stored.started;
  }

-- so all is stored as before, and the notes have another with the one
stored_as : (entries : List Entry) (starts : List ℕ) (old : Entry) (cached : CachedMatch) → IsStored entries starts old → IsStored entries starts (record { call = old.call; cached = cached })
stored_as entries starts old cached stored = record { ranged = stored.ranged; within = stored.within; started = stored.started }

pub stored_cached : (entries : List Entry) (starts : List ℕ) (i : ℕ) (old : Entry) (cached : CachedMatch) → slice_get entries i ≡ Some old → AreStored entries starts → AreStored (set entries i (record { call = old.call; cached = cached })) starts
stored_cached entries starts i old cached h stored =
    let entry : Entry = record { call = old.call; cached = cached } in
    let same = request_cached entries i old cached h in
    record {
      each = All-set (IsStored (set entries i entry) starts) entries i entry
          (stored_same entries (set entries i entry) same starts entry (stored_as entries starts old cached (rw (get_or_from_slice_get entries i old old h) at (All-get_or (IsStored entries starts) entries i old (slice_get_within entries i old h) stored.each))))
          (All-weaker (IsStored entries starts) (IsStored (set entries i entry) starts) (stored_same entries (set entries i entry) same starts) entries stored.each);
      few_starts = omega (arith, stored.few_starts, length-set entries i entry);
      few = omega (arith, stored.few, length-set entries i entry);
    }

pub notes_cached : (entries : List Entry) (starts : List ℕ) (i : ℕ) (old : Entry) (half : Half) (there : ℕ) → slice_get entries i ≡ Some old → map (noted_of (set entries i (record { call = old.call; cached = with_partner half there old.cached })) starts) (set entries i (record { call = old.call; cached = with_partner half there old.cached })) ≡ partnered_in (map (noted_of entries starts) entries) i half there
notes_cached entries starts i old half there h =
    let entry : Entry = record { call = old.call; cached = with_partner half there old.cached } in
    let same = request_cached entries i old (with_partner half there old.cached) h in
    same_maps (noted_of (set entries i entry) starts) (noted_of entries starts) (set entries i entry) (noted_same entries (set entries i entry) same starts)
    ∙ map-set (noted_of entries starts) entries i entry
    ∙ sym (ap (λ (o : Option Noted). option_map_or (λ note. set (map (noted_of entries starts) entries) i (note_with half there note)) o (map (noted_of entries starts) entries))
    (slice_get-map (noted_of entries starts) entries i ∙ ap (option_map (noted_of entries starts)) h))

-- as many starts are listed as requests
pub listed_few : (call : Call) (places : List ℕ) → length places ≡ length (waits_for call) → length (listed_starts call places) ≤ length (listed call)
listed_few (made.Waitall reqs) places same = omega (arith, same)
listed_few (made.Waitany chosen reqs) places same = omega (arith, same)
listed_few _ places same = omega arith
