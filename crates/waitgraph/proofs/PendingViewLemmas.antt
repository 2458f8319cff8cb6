-- Needs of messages by the rank and number of their other halves, and lists of needs.
use Rattle.std.proofs.Common.{inl, inr, ◌≡◌, ◌⊎◌, ℕ, zero, suc, ◌≤◌, ◌==◌, Bool, true, false, ◌&&◌, Option, Some, None, unwrap_or, is_some, List, [], ◌∷◌, ◌++◌, length, map, flat_map, eqb, refl, sym, ap, subst, ◌∙◌, ⊎_elim, arith}
use Rattle.std.specs.Prelude.{find}
use Rattle.std.specs.List.{slice_get, list_all, list_any}
use Rattle.std.specs.Option.{option_map, option_map_or}
use Rattle.std.proofs.lemmas.List.Folds.{list_all-append}
use Rattle.std.proofs.lemmas.Option.{none-some, same_Some, slice_get-get_or}
use Rattle.std.proofs.lemmas.List.Quantifiers.{position-Some}
use Rattle.std.proofs.lemmas.Bool.{cases_Bool, false≢true, true≢false, and_parts, and_from, or_left, or_right, eqb-true}
use Rattle.mpicall.specs.Ending.{ends_list}
use Rattle.mpicall.specs.declared.call.Call.{Call}
use Rattle.mpicall.specs.declared.call.Call.TheVariants.{Recv, Probe, Wait, Waitall, Waitany, Open}
use Rattle.mpigroup.specs.Groups.{Groups, group_of, group_rank_of, world_rank_of}
use Rattle.callstore.specs.declared.envelope.Envelope.{Envelope}
use Rattle.callstore.specs.declared.envelope.Half.{Half}
use Rattle.callstore.specs.declared.envelope.Half.TheVariants.{Send as SendHalf, Recv as RecvHalf}
use Rattle.callstore.specs.declared.envelope.Message.{Message}
use Rattle.callstore.specs.Recordings.{Lists, calls_of}
use Rattle.callstore.specs.Envelopes.{message_of, probed_message, envelope_by, envelope_of, same_envelope, has_envelope, rank_of_half, other_half}
use Rattle.callstore.specs.Requests.{starts, completes, is_among}
use Rattle.callstore.specs.Waves.{does_join}
use Rattle.callstore.proofs.OptionLemmas.{map_parts}
use Rattle.pairing.specs.Partners.{number_of}
use Rattle.pairing.specs.Probed.{probed_envelope}
use Rattle.pairing.specs.LeftOpen.{leaves_open}
use Rattle.pairing.proofs.PartnerLemmas.{same_envelope_true}
use Rattle.moves.specs.declared.need.Need.{Need}
use Rattle.moves.specs.declared.need.Need.TheVariants.{At, Lacking}
use Rattle.moves.specs.Needs.{half_need, probe_need, world_of}
use Rattle.moves.proofs.OntoLemmas.{nth_need}
use Rattle.waitgraph.specs.declared.pending.Wanted.{Wanted}
use Rattle.moves.specs.declared.reading.Reading.{Reading}
use Rattle.waitgraph.specs.Pending.{Known, takes, call_needs, waited_by, is_over}
use Rattle.waitgraph.specs.PendingStays.{may_come_back}
use Rattle.waitgraph.proofs.AmongLemmas.{Among, among_left, among_right}

-- the fields of the envelope of what a call receives
pub record Received (groups : Groups) (k : ℕ) (e : Envelope) (call : Call) : Type 0 where
  pub m : Message
  pub receives : message_of RecvHalf call ≡ Some m
  pub comm : e.comm ≡ m.comm
  pub source : e.source ≡ m.peer
  pub tag : e.tag ≡ m.tag
  pub own : group_rank_of groups m.comm k ≡ Some e.dest

pub same_parts : (e : Envelope) (m : Message) (own : ℕ) → same_envelope e (envelope_by RecvHalf m own) ≡ true → (e.comm ≡ m.comm) × (e.source ≡ m.peer) × (e.dest ≡ own) × (e.tag ≡ m.tag)
same_parts e m own h =
    let one = and_parts (e.comm == m.comm) (e.source == m.peer && (e.dest == own && e.tag == m.tag)) h in
    let two = and_parts (e.source == m.peer) (e.dest == own && e.tag == m.tag) one.1 in
    let three = and_parts (e.dest == own) (e.tag == m.tag) two.1 in
    (eqb-true e.comm m.comm one.0, eqb-true e.source m.peer two.0, eqb-true e.dest own three.0, eqb-true e.tag m.tag three.1)

pub received : (groups : Groups) (k : ℕ) (e : Envelope) (call : Call) → has_envelope groups k RecvHalf e call ≡ true → Received groups k e call
received groups k e call h = by_message (message_of RecvHalf call) refl
  where
    by_own : (m : Message) → message_of RecvHalf call ≡ Some m → (o : Option ℕ) → group_rank_of groups m.comm k ≡ o → option_map_or (same_envelope e) (option_map (envelope_by RecvHalf m) o) false ≡ true → Received groups k e call
    by_own m receives None own is = absurd (false≢true is)
    by_own m receives (Some g) own is =
        let parts = same_parts e m g is in
        record { m = m; receives = receives; comm = parts.0; source = parts.1; tag = parts.3; own = own ∙ ap (λ (d : ℕ). Some d) (sym parts.2) }

    by_message : (o : Option Message) → message_of RecvHalf call ≡ o → Received groups k e call
    by_message None none = absurd (false≢true (rw none at h))
    by_message (Some m) receives = by_own m receives (group_rank_of groups m.comm k) refl (rw receives at h)

pub same_fields : (m n : Message) → Some m ≡ Some n → (m.comm ≡ n.comm) × (m.peer ≡ n.peer) × (m.tag ≡ n.tag)
same_fields m n h =
    let same : m ≡ n = same_Some m n h in
    (ap (λ (x : Message). x.comm) same, ap (λ (x : Message). x.peer) same, ap (λ (x : Message). x.tag) same)

pub same_takes : (wanted : Wanted) (a b c d e f : ℕ) → a ≡ d → b ≡ e → c ≡ f → takes wanted a b c ≡ takes wanted d e f
same_takes wanted a b c d e f one two three =
    ap (λ (x : ℕ). takes wanted x b c) one ∙ ap (λ (x : ℕ). takes wanted d x c) two ∙ ap (λ (x : ℕ). takes wanted d e x) three

-- Needs by the rank and number of the other half, over any recording with the call in its place.
pub as_nth : (k w : ℕ) (o : Option ℕ) → w ≡ k → option_map_or (λ partner. At partner.0 partner.1) (option_map {U = ℕ × ℕ} (λ place. (k, place)) o) (Lacking w) ≡ option_map_or (At k) o (Lacking k)
as_nth k w None same = rw same refl
as_nth k w (Some place) same = refl

pub peer_rank : (groups : Groups) (rank : ℕ) (half : Half) (call : Call) (m : Message) (e : Envelope) (k : ℕ) → message_of half call ≡ Some m → envelope_of groups rank half call ≡ Some e → rank_of_half groups (other_half half) e ≡ Some k → world_of groups m.comm m.peer ≡ k
peer_rank groups rank half call m e k sends has there =
    let own : option_map (envelope_by half m) (group_rank_of groups m.comm rank) ≡ Some e = rw sends at has in
    let parts = map_parts (envelope_by half m) (group_rank_of groups m.comm rank) e own in
    by_half half parts.0 (subst (λ (x : Envelope). rank_of_half groups (other_half half) x ≡ Some k) (sym parts.2) there)
  where
    by_half : (h : Half) (g : ℕ) → rank_of_half groups (other_half h) (envelope_by h m g) ≡ Some k → world_of groups m.comm m.peer ≡ k
    by_half SendHalf g found = ap (λ (o : Option ℕ). unwrap_or o m.peer) found
    by_half RecvHalf g found = ap (λ (o : Option ℕ). unwrap_or o m.peer) found

pub source_rank : (groups : Groups) (rank : ℕ) (call : Call) (m : Message) (e : Envelope) (k : ℕ) → probed_message call ≡ Some m → probed_envelope groups rank call ≡ Some e → rank_of_half groups SendHalf e ≡ Some k → world_of groups m.comm m.peer ≡ k
source_rank groups rank call m e k probes has there =
    let own : option_map (envelope_by RecvHalf m) (group_rank_of groups m.comm rank) ≡ Some e = rw probes at has in
    let parts = map_parts (envelope_by RecvHalf m) (group_rank_of groups m.comm rank) e own in
    let from : rank_of_half groups SendHalf (envelope_by RecvHalf m parts.0) ≡ Some k = subst (λ (x : Envelope). rank_of_half groups SendHalf x ≡ Some k) (sym parts.2) there in
    ap (λ (o : Option ℕ). unwrap_or o m.peer) from

module _ (groups : Groups) (rank place : ℕ) (call : Call) where
  pub record Named (half : Half) (m : Message) : Type 0 where
    pub k : ℕ
    pub e : Envelope
    pub has : envelope_of groups rank half call ≡ Some e
    pub there : rank_of_half groups (other_half half) e ≡ Some k
    pub is : (R : Lists) → slice_get (calls_of R rank) place ≡ Some call → half_need groups R rank place half m ≡ nth_need R (has_envelope groups k (other_half half) e) k (number_of groups R rank half e place)

  abbrev pub Nobody : Half → Message → Type 0
  Nobody half m = (R : Lists) → slice_get (calls_of R rank) place ≡ Some call → half_need groups R rank place half m ≡ Lacking (world_of groups m.comm m.peer)

  pub half_view : (half : Half) (m : Message) → message_of half call ≡ Some m → Nobody half m ⊎ Named half m
  half_view half m sends = by_envelope (envelope_of groups rank half call) refl
    where
      by_rank : (e : Envelope) → envelope_of groups rank half call ≡ Some e → (o : Option ℕ) → rank_of_half groups (other_half half) e ≡ o → Nobody half m ⊎ Named half m
      by_rank e has None none = inl (λ R present. rw (present, has, none) refl)
      by_rank e has (Some k) there = inr (record {
        k = k;
        e = e;
        has = has;
        there = there;
        is = λ R present.
            let peer' = peer_rank groups rank half call m e k sends has there in
            rw (present, has, there) (as_nth k (world_of groups m.comm m.peer) _ peer');
      })

      by_envelope : (o : Option Envelope) → envelope_of groups rank half call ≡ o → Nobody half m ⊎ Named half m
      by_envelope None none = inl (λ R present. rw (present, none) refl)
      by_envelope (Some e) has = by_rank e has (rank_of_half groups (other_half half) e) refl

  pub record NamedProbe (m : Message) : Type 0 where
    pub k : ℕ
    pub e : Envelope
    pub has : probed_envelope groups rank call ≡ Some e
    pub there : rank_of_half groups SendHalf e ≡ Some k
    pub is : (R : Lists) → slice_get (calls_of R rank) place ≡ Some call → probe_need groups R rank place m ≡ nth_need R (has_envelope groups k SendHalf e) k (number_of groups R rank RecvHalf e place)

  abbrev pub NobodyProbed : Message → Type 0
  NobodyProbed m = (R : Lists) → slice_get (calls_of R rank) place ≡ Some call → probe_need groups R rank place m ≡ Lacking (world_of groups m.comm m.peer)

  pub probe_view : (m : Message) → probed_message call ≡ Some m → NobodyProbed m ⊎ NamedProbe m
  probe_view m probes = by_envelope (probed_envelope groups rank call) refl
    where
      by_rank : (e : Envelope) → probed_envelope groups rank call ≡ Some e → (o : Option ℕ) → rank_of_half groups SendHalf e ≡ o → NobodyProbed m ⊎ NamedProbe m
      by_rank e has None none = inl (λ R present. rw (present, has, none) refl)
      by_rank e has (Some k) there = inr (record {
        k = k;
        e = e;
        has = has;
        there = there;
        is = λ R present.
            let source = source_rank groups rank call m e k probes has there in
            rw (present, has, there) (as_nth k (world_of groups m.comm m.peer) _ source);
      })

      by_envelope : (o : Option Envelope) → probed_envelope groups rank call ≡ o → NobodyProbed m ⊎ NamedProbe m
      by_envelope None none = inl (λ R present. rw (present, none) refl)
      by_envelope (Some e) has = by_rank e has (rank_of_half groups SendHalf e) refl

-- the first of what comes after
pub get_back : {A : Type 0} (xs ys : List A) → slice_get (xs ++ ys) (length xs) ≡ slice_get ys 0
get_back [] ys = refl
get_back (x ∷ xs) ys = get_back xs ys

-- a call in which a rank is that came back sends nothing and joins no wave, nor does an open
pub sends_none : (groups : Groups) (k : ℕ) (e : Envelope) (call : Call) → (call ≡ Open) ⊎ (may_come_back call ≡ true) → has_envelope groups k SendHalf e call ≡ false
sends_none groups k e Open h = refl
sends_none groups k e (Recv comm source tag) h = refl
sends_none groups k e (Probe comm source tag) h = refl
sends_none groups k e (Wait req) h = refl
sends_none groups k e (Waitall reqs) h = refl
sends_none groups k e (Waitany chosen reqs) h = refl
sends_none groups k e _ (inl is) = cc
sends_none groups k e _ (inr back) = absurd (false≢true back)

pub joins_none : (comm : ℕ) (call : Call) → (call ≡ Open) ⊎ (may_come_back call ≡ true) → does_join comm call ≡ false
joins_none comm Open h = refl
joins_none comm (Recv c source tag) h = refl
joins_none comm (Probe c source tag) h = refl
joins_none comm (Wait req) h = refl
joins_none comm (Waitall reqs) h = refl
joins_none comm (Waitany chosen reqs) h = refl
joins_none comm _ (inl is) = cc
joins_none comm _ (inr back) = absurd (false≢true back)

pub all_on : {A : Type 0} (p q : Need → Bool) (need later : A → Need) → ((x : A) → p (need x) ≡ true → q (later x) ≡ true) → (xs : List A) → list_all p (map need xs) ≡ true → list_all q (map later xs) ≡ true
all_on p q need later on [] h = refl
all_on p q need later on (x ∷ xs) h =
    let both = and_parts (p (need x)) (list_all p (map need xs)) h in
    and_from (q (later x)) (list_all q (map later xs)) (on x both.0) (all_on p q need later on xs both.1)

-- what is found first
pub find_never : {A : Type 0} (xs : List A) → find (λ x. false) xs ≡ None
find_never [] = refl
find_never (x ∷ xs) = find_never xs

pub find_passes : {A : Type 0} (p : A → Bool) (xs : List A) (y : A) → find p xs ≡ Some y → p y ≡ true
find_passes p [] y h = absurd (none-some y h)
find_passes p (x ∷ xs) y h =
    ⊎_elim
    (λ (is : p x ≡ true).
    let same : x ≡ y = same_Some x y (rw is at h) in
    ap p (sym same) ∙ is)
    (λ (no : p x ≡ false). find_passes p xs y (rw no at h))
    (cases_Bool (p x))

pub find_first : {A : Type 0} (p : A → Bool) (xs : List A) (i : ℕ) (x : A) → slice_get xs i ≡ Some x → p x ≡ true → (j : ℕ) × (y : A) × (j ≤ i) × (slice_get xs j ≡ Some y) × (p y ≡ true) × (find p xs ≡ Some y)
find_first p [] i x there is = absurd (none-some x there)
find_first p (z ∷ xs) zero x there is =
    let here : p z ≡ true = ap p (same_Some z x there) ∙ is in
    (0, z, omega arith, refl, here, rw here refl)
find_first p (z ∷ xs) (suc i) x there is =
    let rest = find_first p xs i x there is in
    ⊎_elim
    (λ (here : p z ≡ true). (0, z, omega arith, refl, here, rw here refl))
    (λ (differs : p z ≡ false). (suc rest.0, rest.1, omega (arith, rest.2), rest.3, rest.4, rw differs rest.5))
    (cases_Bool (p z))

-- one of a list passes
pub any_map : {A B : Type 0} (p : B → Bool) (f : A → B) (x : A) (xs : List A) → Among x xs → p (f x) ≡ true → list_any p (map f xs) ≡ true
any_map p f x [] there is = absurd there
any_map p f x (y ∷ ys) (inl e) is = or_left (p (f y)) (list_any p (map f ys)) (ap (λ z. p (f z)) e ∙ is)
any_map p f x (y ∷ ys) (inr there) is = or_right (p (f y)) (list_any p (map f ys)) (any_map p f x ys there is)

pub among_flat : {A B : Type 0} (y : B) (x : A) (f : A → List B) (xs : List A) → Among x xs → Among y (f x) → Among y (flat_map f xs)
among_flat y x f [] there of = absurd there
among_flat y x f (z ∷ xs) (inl e) of = among_left y (f z) (flat_map f xs) (subst (λ a. Among y (f a)) (sym e) of)
among_flat y x f (z ∷ xs) (inr there) of = among_right y (f z) (flat_map f xs) (among_flat y x f xs there of)

-- a call that comes back and receives a message is no wait and no probe
pub only_receives : (call : Call) → may_come_back call ≡ true → (m : Message) → message_of RecvHalf call ≡ Some m → (completes call ≡ []) × (probed_message call ≡ None)
only_receives (Recv comm source tag) back m h = (refl, refl)
only_receives (Probe comm source tag) back m h = absurd (none-some m h)
only_receives (Wait req) back m h = absurd (none-some m h)
only_receives (Waitall reqs) back m h = absurd (none-some m h)
only_receives (Waitany chosen reqs) back m h = absurd (none-some m h)
only_receives _ back m h = absurd (false≢true back)

-- a test over four lists
pub four_parts : {A : Type 0} (p : A → Bool) (a b c d : List A) → list_all p (a ++ b ++ c ++ d) ≡ true → (list_all p a ≡ true) × (list_all p b ≡ true) × (list_all p c ≡ true) × (list_all p d ≡ true)
four_parts p a b c d h =
    let one = and_parts (list_all p (a ++ b ++ c)) (list_all p d) (sym (list_all-append p (a ++ b ++ c) d) ∙ h) in
    let two = and_parts (list_all p (a ++ b)) (list_all p c) (sym (list_all-append p (a ++ b) c) ∙ one.0) in
    let three = and_parts (list_all p a) (list_all p b) (sym (list_all-append p a b) ∙ two.0) in
    (three.0, three.1, two.1, one.1)

pub four_join : {A : Type 0} (p : A → Bool) (a b c d : List A) → list_all p a ≡ true → list_all p b ≡ true → list_all p c ≡ true → list_all p d ≡ true → list_all p (a ++ b ++ c ++ d) ≡ true
four_join p a b c d one two three four =
    list_all-append p (a ++ b ++ c) d
    ∙ and_from (list_all p (a ++ b ++ c)) (list_all p d)
    (list_all-append p (a ++ b) c
    ∙ and_from (list_all p (a ++ b)) (list_all p c)
    (list_all-append p a b ∙ and_from (list_all p a) (list_all p b) one two) three) four

pub flat_all : (p : Need → Bool) (f : ℕ → List Need) (req : ℕ) (reqs : List ℕ) → is_among req reqs ≡ true → list_all p (flat_map f reqs) ≡ true → list_all p (f req) ≡ true
flat_all p f req [] among h = absurd (false≢true among)
flat_all p f req (first ∷ reqs) among h =
    let both = and_parts (list_all p (f first)) (list_all p (flat_map f reqs)) (sym (list_all-append p (f first) (flat_map f reqs)) ∙ h) in
    ⊎_elim
    (λ (is : (first == req) ≡ true). ap (λ (r : ℕ). list_all p (f r)) (sym (eqb-true first req is)) ∙ both.0)
    (λ (no : (first == req) ≡ false).
    let rest : is_among req reqs ≡ true = rw no at among in
    flat_all p f req reqs rest both.1)
    (cases_Bool (first == req))

pub has_it : (groups : Groups) (k : ℕ) (half : Half) (e : Envelope) (call : Call) → has_envelope groups k half e call ≡ true → envelope_of groups k half call ≡ Some e
has_it groups k half e call h = by_envelope (envelope_of groups k half call) refl
  where
    by_envelope : (o : Option Envelope) → envelope_of groups k half call ≡ o → envelope_of groups k half call ≡ Some e
    by_envelope None none = absurd (false≢true (sym (ap (λ (o : Option Envelope). option_map_or (same_envelope e) o false) none) ∙ h))
    by_envelope (Some f) is =
        let same : e ≡ f = same_envelope_true e f (sym (ap (λ (o : Option Envelope). option_map_or (same_envelope e) o false) is) ∙ h) in
        is ∙ ap (λ (x : Envelope). Some x) (sym same)

pub rank_of_member : (groups : Groups) (comm rank g : ℕ) → group_rank_of groups comm rank ≡ Some g → world_rank_of groups comm g ≡ Some rank
rank_of_member groups comm rank g h =
    let found = position-Some (λ member. eqb member rank) (group_of groups comm) g 0 h in
    slice_get-get_or (group_of groups comm) g 0 found.0 ∙ ap (λ (m : ℕ). Some m) (eqb-true _ _ found.1)

pub starts_none : (call : Call) → may_come_back call ≡ true → is_some (starts call) ≡ false
starts_none (Recv comm source tag) back = refl
starts_none (Probe comm source tag) back = refl
starts_none (Wait req) back = refl
starts_none (Waitall reqs) back = refl
starts_none (Waitany chosen reqs) back = refl
starts_none _ back = absurd (false≢true back)

pub goes_on_if : (call : Call) → ends_list call ≡ false → leaves_open call ≡ false
goes_on_if Open h = absurd (true≢false h)
goes_on_if _ h = refl

-- a wait for all that a call needs
pub over_call : (reading : Reading) (groups : Groups) (recording : Lists) (known : Known) (rank place : ℕ) (call : Call) (p : Need → Bool) → leaves_open call ≡ false → list_all p (call_needs reading groups recording known.sinks rank place call) ≡ true → is_over p (waited_by reading groups recording known rank place call) ≡ true
over_call reading groups recording known rank place call p goes passes = rw goes (and_from (list_all p (call_needs reading groups recording known.sinks rank place call)) true passes refl)
