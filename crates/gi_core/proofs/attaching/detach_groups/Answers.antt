use Rattle.std.proofs.Common.{◌≡◌, ◌+◌, ◌-◌, ℕ, length, ap, sym, subst, ◌∙◌, arith}
use Rattle.gi_lit.specs.Problem.{names}
use Rattle.gi_store.specs.StoreView.{entries}
use Rattle.gi_prop.specs.Attached.{IsAttached, Detaches}
use Rattle.gi_cdcl.specs.Searching.{Searching}
use Rattle.gi_core.specs.Joined.{AreGuardsLast, EndsActive, HasKeys, IsLeft, looked_at}
use Rattle.gi_core.proofs.Keys.{got_any, got_clause}
use Rattle.gi_core.proofs.Leaving.{looked_attached, looked_drop, looked_keep, looked_end, guards_last, plain_place}
use Rattle.gi_core.proofs.attaching.detach_groups.Goals as goal
use Rattle.gi_core.proofs.attaching.detach_groups.Goals.{then-has_guard, else-has_guard}

pub loop-i-init : goal.loop-i-init
loop-i-init c =
    let h = c.args.store.now in
    let start : length h.plain + length h.groups ≡ c.problem-count.result - 0 = omega (arith, c.problem-count.ensures) in
    record { keys = subst (λ (n : ℕ). HasKeys c.args.search.now (looked_at c.args.g (entries h) n)) start c.requires.left; goes = λ k g. g }

pub has_guard-requires-clause-last : goal.has_guard-requires-clause-last
has_guard-requires-clause-last c =
    let h = c.args.store.now in
    let m = c.problem-count.result - c.loop-i.i in
    let i = c.problem-count.result - (c.loop-i.i + 1) in
    let step : m ≡ i + 1 = omega arith in
    let e = got_any h m i c.in-Some.key step (sym c.in-Some.is ∙ c.key_at.ensures) in
    subst (AreGuardsLast h.active) (sym (got_clause h i c.in-Some.key c.clause-clause.result.now e c.clause-clause.ensures.only)) (guards_last h i e.entry c.is_whole.ensures.whole (omega (arith, c.problem-count.ensures)) e.is)

pub detach-requires : goal.detach-requires
detach-requires c =
    let h = c.args.store.now in
    let m = c.problem-count.result - c.loop-i.i in
    let i = c.problem-count.result - (c.loop-i.i + 1) in
    let step : m ≡ i + 1 = omega arith in
    let e = got_any h m i c.in-Some.key step (sym c.in-Some.is ∙ c.key_at.ensures) in
    subst (IsAttached c.loop-i.search.attached) e.key_is (looked_attached c.loop-i.search c.args.g (entries h) m i e.entry step e.within e.is c.loop-i.invariant.keys)

pub loop-i-preserved : goal.loop-i-preserved
loop-i-preserved c =
    let h = c.args.store.now in
    let m = c.problem-count.result - c.loop-i.i in
    let i = c.problem-count.result - (c.loop-i.i + 1) in
    let step : m ≡ i + 1 = omega arith in
    let e = got_any h m i c.in-Some.key step (sym c.in-Some.is ∙ c.key_at.ensures) in
    let read = got_clause h i c.in-Some.key c.clause-clause.result.now e c.clause-clause.ensures.only in
    let P : Searching → Type 0 = λ s. IsLeft c.args.search.now s (looked_at c.args.g (entries h) i) in
    elim c.if-has_guard.branch [
      | then-has_guard w ↦ subst P (sym w.search-is) (record {
        keys = looked_drop c.loop-i.search w.detach.new.self c.args.g (entries h) m i e.entry step e.within e.is (ap (names c.args.g) (sym read) ∙ sym w.if-has_guard.ensures) c.loop-i.invariant.keys (subst (λ k. Detaches k c.loop-i.search.attached w.detach.new.self.attached) (sym e.key_is) w.detach.ensures.detached);
        goes = λ k g. w.detach.ensures.goes k (c.loop-i.invariant.goes k g);
      })
      | else-has_guard w ↦ subst P (sym w.search-is) (record {
        keys = looked_keep c.loop-i.search c.args.g (entries h) m i e.entry step e.within e.is (ap (names c.args.g) (sym read) ∙ sym w.if-has_guard.ensures) c.loop-i.invariant.keys;
        goes = c.loop-i.invariant.goes;
      })
    ]

pub returns-then-not-is_group-clause-attached : goal.returns-then-not-is_group-clause-attached
returns-then-not-is_group-clause-attached c =
    let h = c.args.store.now in
    let m = c.problem-count.result - c.loop-i.i in
    let i = c.problem-count.result - (c.loop-i.i + 1) in
    let step : m ≡ i + 1 = omega arith in
    let e = got_any h m i c.in-Some.key step (sym c.in-Some.is ∙ c.key_at.ensures) in
    let read = got_clause h i c.in-Some.key c.clause-clause.result.now e c.clause-clause.ensures.only in
    let place = plain_place h i e.entry c.is_whole.ensures.whole (omega (arith, c.problem-count.ensures)) e.is (λ x. absurd (let e = c.if-not-is_group.ensures.1 (subst (EndsActive h.active) (sym read) x) in cc)) in
    looked_end c.edits_are_of_the_problem.ensures.left c.loop-i.search c.args.g h m c.is_whole.ensures.whole c.requires.guard (omega arith) c.loop-i.invariant.keys

pub returns-clause-attached : goal.returns-clause-attached
returns-clause-attached c = looked_end c.edits_are_of_the_problem.ensures.left c.loop-i.search c.args.g c.args.store.now (c.problem-count.result - c.loop-i.i) c.is_whole.ensures.whole c.requires.guard (omega arith) c.loop-i.invariant.keys
