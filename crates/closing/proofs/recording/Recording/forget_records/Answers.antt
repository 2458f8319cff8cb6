-- What is kept of the rank, with its records handed on.
use Rattle.std.proofs.Common.{◌≡◌, ◌∙◌, true, ap, arith, length, refl}
use Rattle.closing.specs.Journals.{run_in}
use Rattle.closing.specs.inner.Rankwise.{made_by}
use Rattle.closing.specs.declared.walk.Walk.{Walk}
use Rattle.closing.proofs.ChangedLemmas.{all_handed, changes_none, changes_only, left_stays, made_few, map_stays, same_past, still_recorded}
use Rattle.closing.proofs.RankwiseLemmas.{got_none, got_walk}
use Rattle.closing.proofs.RecordedLemmas.{forgotten_of}
use Rattle.closing.proofs.recording.Recording.forget_records.Goals.{in-Some, in_default}
use Rattle.closing.proofs.recording.Recording.forget_records.Goals as goal

pub invariant_of-self : goal.invariant_of-self
invariant_of-self c =
    elim c.match-get_mut.branch [
      | in-Some w ↦
          let at = got_walk c.self.inside.walks.items c.self.inside.walks.items c.from.result c.args.rank w.in-Some.walk.now refl c.from.ensures w.in-Some.ensures.item.3 in
          let over : w.in-Some.walk.now.is_over ≡ true → w.forget_records.new.self.is_over ≡ true = λ e. ap (λ (it : Walk). it.is_over) w.forget_records.ensures.same ∙ e in
          rw (w.self-inside-is, c.from.ensures)
          (still_recorded c.self.inside.ranks c.self.inside.journals.items c.self.inside.choice c.self.inside.run c.self.inside.walks.items c.args.rank w.in-Some.walk.now w.forget_records.new.self c.self.invariant at
          c.self.inside.run over
          (λ fit.
          forgotten_of (run_in c.self.inside.journals.items) c.self.inside.choice c.self.inside.run c.args.rank w.in-Some.walk.now w.forget_records.new.self w.forget_records.ensures.same
          (c.self.invariant.have.are fit c.args.rank w.in-Some.walk.now at) w.forget_records.ensures.none
          (w.forget_records.ensures.handed (made_few c.self.inside.ranks c.self.inside.journals.items c.self.inside.choice c.self.inside.run c.self.inside.walks.items c.args.rank w.in-Some.walk.now w.forget_records.new.self c.self.invariant at fit))
          w.forget_records.ensures.stands w.forget_records.ensures.freed)
          (λ fit other walk one. one))
      | in_default w ↦ rw w.self-inside-is c.self.invariant
    ]

pub returns-clause-same : goal.returns-clause-same
returns-clause-same c =
    elim c.match-get_mut.branch [
      | in-Some w ↦
          let at = got_walk c.self.inside.walks.items c.self.inside.walks.items c.from.result c.args.rank w.in-Some.walk.now refl c.from.ensures w.in-Some.ensures.item.3 in
          rw (w.self-inside-is, c.from.ensures, ← c.self.view_is) (changes_only c.self.inside.ranks c.self.inside.journals.items c.self.inside.choice c.self.inside.run c.self.inside.walks.items c.args.rank w.in-Some.walk.now w.forget_records.new.self c.self.invariant at)
      | in_default w ↦ rw (w.self-inside-is, ← c.self.view_is) (changes_none c.args.rank _)
    ]

pub returns-clause-made : goal.returns-clause-made
returns-clause-made c =
    elim c.match-get_mut.branch [
      | in-Some w ↦
          let at = got_walk c.self.inside.walks.items c.self.inside.walks.items c.from.result c.args.rank w.in-Some.walk.now refl c.from.ensures w.in-Some.ensures.item.3 in
          rw (w.self-inside-is, c.from.ensures, ← c.self.view_is)
          (λ fit.
          let handed = w.forget_records.ensures.handed (made_few c.self.inside.ranks c.self.inside.journals.items c.self.inside.choice c.self.inside.run c.self.inside.walks.items c.args.rank w.in-Some.walk.now w.forget_records.new.self c.self.invariant at fit) in
          let none : length w.forget_records.new.self.list.records ≡ 0 = ap length w.forget_records.ensures.none in
          let same : made_by w.forget_records.new.self ≡ made_by w.in-Some.walk.now = omega (arith, handed, none) in
          map_stays c.self.inside.ranks c.self.inside.journals.items c.self.inside.choice c.self.inside.run c.self.inside.walks.items c.args.rank w.in-Some.walk.now w.forget_records.new.self c.self.invariant at made_by same)
      | in_default w ↦ rw (w.self-inside-is, ← c.self.view_is) (λ fit. refl)
    ]

pub returns-clause-before : goal.returns-clause-before
returns-clause-before c =
    elim c.match-get_mut.branch [
      | in-Some w ↦
          let at = got_walk c.self.inside.walks.items c.self.inside.walks.items c.from.result c.args.rank w.in-Some.walk.now refl c.from.ensures w.in-Some.ensures.item.3 in
          rw (w.self-inside-is, c.from.ensures, ← c.self.view_is)
          (map_stays c.self.inside.ranks c.self.inside.journals.items c.self.inside.choice c.self.inside.run c.self.inside.walks.items c.args.rank w.in-Some.walk.now w.forget_records.new.self c.self.invariant at (λ (it : Walk). it.before) (ap (λ (it : Walk). it.before) w.forget_records.ensures.same))
      | in_default w ↦ rw (w.self-inside-is, ← c.self.view_is) refl
    ]

pub returns-clause-left : goal.returns-clause-left
returns-clause-left c =
    elim c.match-get_mut.branch [
      | in-Some w ↦
          let at = got_walk c.self.inside.walks.items c.self.inside.walks.items c.from.result c.args.rank w.in-Some.walk.now refl c.from.ensures w.in-Some.ensures.item.3 in
          rw (w.self-inside-is, c.from.ensures, ← c.self.view_is)
          (left_stays c.self.inside.ranks c.self.inside.journals.items c.self.inside.choice c.self.inside.run c.self.inside.walks.items c.args.rank w.in-Some.walk.now w.forget_records.new.self c.self.invariant at (ap (λ (it : Walk). it.is_over) w.forget_records.ensures.same) (ap (λ (it : Walk). it.next) w.forget_records.ensures.same))
      | in_default w ↦ rw (w.self-inside-is, ← c.self.view_is) refl
    ]

pub returns-clause-handed : goal.returns-clause-handed
returns-clause-handed c =
    elim c.match-get_mut.branch [
      | in-Some w ↦
          let at = got_walk c.self.inside.walks.items c.self.inside.walks.items c.from.result c.args.rank w.in-Some.walk.now refl c.from.ensures w.in-Some.ensures.item.3 in
          rw (w.self-inside-is, c.from.ensures, ← c.self.view_is) (λ fit. all_handed c.self.inside.ranks c.self.inside.journals.items c.self.inside.choice c.self.inside.run c.self.inside.walks.items c.args.rank w.in-Some.walk.now w.forget_records.new.self c.self.invariant at (w.forget_records.ensures.handed (made_few c.self.inside.ranks c.self.inside.journals.items c.self.inside.choice c.self.inside.run c.self.inside.walks.items c.args.rank w.in-Some.walk.now w.forget_records.new.self c.self.invariant at fit)))
      | in_default w ↦
          let none = got_none c.self.inside.walks.items c.self.inside.walks.items c.from.result c.args.rank refl c.from.ensures w.in_default.ensures.item.3 in
          rw (w.self-inside-is, ← c.self.view_is) (λ fit. same_past (λ (it : Walk). it.handed) made_by c.self.inside.walks.items c.args.rank none)
    ]
