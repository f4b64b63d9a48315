use Rattle.std.proofs.Common.{◌≡◌, ◌<◌, ◌/◌, ◌+◌, arith, length, ℕ, ap, subst, sym, ◌∙◌, List, Bool, true, false, get_or, nat_lt}
use Rattle.std.proofs.lemmas.Bool.{lt-ltb, le-ltb}
use Rattle.gi_prop.specs.TrailView.{StandsAt}
use Rattle.gi_cdcl.proofs.Marking.{MarksSoFar, Marks-none, Marks-done, Marks-skip, Marks-set, unseen}
use Rattle.gi_cdcl.proofs.analyze.mark_seen.Goals as goal
use Rattle.gi_cdcl.proofs.analyze.mark_seen.Goals.{in-Some+then-at-end+then-not-has+then-at-start, in-Some+then-at-end+then-not-has+else-at-start, in-Some+else-at-end, else-at-end-via-then-at-end+else-not-has, else-at-end-via-else-at-end, in_default}

pub loop-l-init : goal.loop-l-init
loop-l-init c = Marks-none _ _ _ _ _

pub returns : goal.returns
returns c = Marks-done _ _ _ _ _ _ _ _ c.loop-l-test.false c.loop-l.invariant

pub loop-l-preserved : goal.loop-l-preserved
loop-l-preserved c =
    let h = c.loop-l.invariant in
    let lt = c.loop-l-test.true in
    let tr = c.requires.trail in
    let P : List Bool → ℕ → Type 0 = λ bs m. MarksSoFar c.args.trail.now.lits c.args.clause.now (c.loop-l.l-index + 1) c.args.start c.args.end c.args.seen.now bs m in
    let stands : (p : ℕ) → StandsAt c.args.trail.now.lits c.var.result p → StandsAt c.args.trail.now.lits (c.l-item.result / 2) p = λ p s. subst (λ (v : ℕ). StandsAt c.args.trail.now.lits v p) c.var.ensures s in
    let apart : (p q : ℕ) → StandsAt c.args.trail.now.lits (c.l-item.result / 2) p → StandsAt c.args.trail.now.lits (c.l-item.result / 2) q → q ≡ p = λ p q s u. tr.apart q p u.below s.below (u.names ∙ sym s.names) in
    elim c.match-place_of.branch [
      | in-Some+then-at-end+then-not-has+then-at-start w ↦
          let at = w.in-Some.at in
          let s = stands at w.in-Some.ensures in
          let start : nat_lt at c.args.start ≡ false = le-ltb at c.args.start w.if-at-start.true in
          let within : at < length c.loop-l.seen = omega (arith, s.below, c.requires.len, h.len) in
          subst (λ (bs : List Bool). P bs c.match-place_of.more) (sym (w.seen-is ∙ w.set.ensures)) (Marks-set _ _ _ _ _ _ _ _ h _ lt c.l-item.is at _ s (λ q u. apart at q s u) w.if-at-end.true within (sym w.if-not-has.ensures) (rw (start, w.more-is) (omega arith)))
      | in-Some+then-at-end+then-not-has+else-at-start w ↦
          let at = w.in-Some.at in
          let s = stands at w.in-Some.ensures in
          let start : nat_lt at c.args.start ≡ true = lt-ltb at c.args.start w.if-at-start.false in
          let within : at < length c.loop-l.seen = omega (arith, s.below, c.requires.len, h.len) in
          subst (λ (bs : List Bool). P bs c.match-place_of.more) (sym (w.seen-is ∙ w.set.ensures)) (Marks-set _ _ _ _ _ _ _ _ h _ lt c.l-item.is at _ s (λ q u. apart at q s u) w.if-at-end.true within (sym w.if-not-has.ensures) (rw (start, w.more-is) (omega arith)))
      | in-Some+else-at-end w ↦
          let s = stands w.in-Some.at w.in-Some.ensures in
          let done : MarksSoFar c.args.trail.now.lits c.args.clause.now (c.loop-l.l-index + 1) c.args.start c.args.end c.args.seen.now c.loop-l.seen c.loop-l.more =
          Marks-skip _ _ _ _ _ _ _ _ h _ lt c.l-item.is
          (λ q ql u. elim w.else-at-end.branch [
            | else-at-end-via-then-at-end+else-not-has w' ↦ ap (λ i. get_or c.loop-l.seen i false) (apart w.in-Some.at q s u) ∙ sym w'.if-not-has.ensures
            | else-at-end-via-else-at-end w' ↦ absurd (let e = apart w.in-Some.at q s u in omega (arith, w'.if-at-end.false, e, ql))
          ]) in
          subst (λ (bs : List Bool). P bs c.match-place_of.more) (sym w.seen-is) (subst (P c.loop-l.seen) (sym w.more-is) done)
      | in_default w ↦
          subst (λ (bs : List Bool). P bs c.match-place_of.more) (sym w.seen-is) (subst (P c.loop-l.seen) (sym w.more-is)
          (Marks-skip _ _ _ _ _ _ _ _ h _ lt c.l-item.is (λ q ql u. absurd (unseen _ _ q w.in_default.ensures (subst (λ (v : ℕ). StandsAt c.args.trail.now.lits v q) (sym c.var.ensures) u)))))
    ]
