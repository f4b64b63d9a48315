use Rattle.std.proofs.Common.{◌≡◌, ◌<◌, ◌≤◌, ◌-◌, ◌+◌, arith, length, ℕ, ap, subst, sym, ◌∙◌, Some, None, get_or, take}
use Rattle.std.proofs.lemmas.List.Elements.{All-contains}
use Rattle.std.proofs.lemmas.List.{get_or_default}
use Rattle.gi_lit.specs.Closure.{IsSettled}
use Rattle.gi_store.specs.StoreView.{IsWithin}
use Rattle.gi_prop.specs.TrailView.{IsTrail}
use Rattle.gi_cdcl.specs.Sound.{stored, IsSupported}
use Rattle.gi_cdcl.specs.Marks.{marked}
use Rattle.gi_cdcl.proofs.Uip.{holds_stored, holds_live}
use Rattle.gi_cdcl.proofs.Resolving.{Resolving, Resolving-init, Resolving-skip, Resolving-top, Resolving-step, not_decision, step_bound}
use Rattle.gi_cdcl.proofs.analyze.resolve.Goals as goal

pub mark_seen-open-requires-clause-within : goal.mark_seen-open-requires-clause-within
mark_seen-open-requires-clause-within c = All-contains (IsWithin c.args.trail.now.vars) (stored c.args.store.now) c.args.conflict.now c.requires.within c.requires.stands

pub loop-at-init : goal.loop-at-init
loop-at-init c =
    let t = c.args.trail.now in
    let tr : IsTrail t = c.level.ensures.trail in
    let start_is : c.start_of-start.result ≡ get_or t.level_starts (length t.level_starts - 1) 0 = rw c.level.ensures.value at c.start_of-start.ensures in
    let m = rw c.lits-at.ensures.value at c.mark_seen-open.ensures in
    let within : c.start_of-start.result ≤ length t.lits = rw start_is (tr.levels.within (length t.level_starts - 1) (let d = c.requires.deep in omega arith)) in
    let settled : IsSettled (take c.start_of-start.result t.lits) c.args.conflict.now = rw start_is (All-contains (λ c. IsSettled (take (get_or t.level_starts (length t.level_starts - 1) 0) t.lits) c) (stored c.args.store.now) c.args.conflict.now (c.requires.leveled.closed (length t.level_starts - 1) (let d = c.requires.deep in omega arith)).each c.requires.stands) in
    rw c.lits-at.ensures.value (Resolving-init c.args.store.now t tr c.args.conflict.now c.start_of-start.result c.requires.falsified _ _ c.requires.blank c.requires.room _ m within settled)

pub returns-then-open-eq1 : goal.returns-then-open-eq1
returns-then-open-eq1 c =
    let t = c.args.trail.now in
    let tr : IsTrail t = c.level.ensures.trail in
    let start_is : c.start_of-start.result ≡ get_or t.level_starts (length t.level_starts - 1) 0 = rw c.level.ensures.value at c.start_of-start.ensures in
    let up : c.loop-at.at ≡ (c.loop-at.at - 1) + 1 = omega arith in
    let h = subst (λ (n : ℕ). Resolving c.args.store.now t c.args.conflict.now c.start_of-start.result n c.loop-at.seen c.loop-at.open) up c.loop-at.invariant in
    rw (← start_is) (Resolving-top c.args.store.now t tr c.args.conflict.now c.start_of-start.result (c.loop-at.at - 1) c.loop-at.seen c.loop-at.open (omega (arith, c.loop-at-test.true)) h (sym c.if-has.ensures) c.if-open-eq1.true)

pub loop-at-preserved : goal.loop-at-preserved
loop-at-preserved c =
    let t = c.args.trail.now in
    let tr : IsTrail t = c.level.ensures.trail in
    let up : c.loop-at.at ≡ (c.loop-at.at - 1) + 1 = omega arith in
    let h = subst (λ (n : ℕ). Resolving c.args.store.now t c.args.conflict.now c.start_of-start.result n c.loop-at.seen c.loop-at.open) up c.loop-at.invariant in
    Resolving-skip c.args.store.now t tr c.args.conflict.now c.start_of-start.result (c.loop-at.at - 1) c.loop-at.seen c.loop-at.open (omega (arith, c.loop-at-test.true)) h (sym c.if-has.ensures)

pub unreachable-requires : goal.unreachable-requires
unreachable-requires c =
    let t = c.args.trail.now in
    let tr : IsTrail t = c.level.ensures.trail in
    let start_is : c.start_of-start.result ≡ get_or t.level_starts (length t.level_starts - 1) 0 = rw c.level.ensures.value at c.start_of-start.ensures in
    let up : c.loop-at.at ≡ (c.loop-at.at - 1) + 1 = omega arith in
    let h = subst (λ (n : ℕ). Resolving c.args.store.now t c.args.conflict.now c.start_of-start.result n c.loop-at.seen c.loop-at.open) up c.loop-at.invariant in
    let lt : c.loop-at.at - 1 < length t.lits = let x = h.at_le in omega (arith, c.loop-at-test.true) in
    let s : IsSupported c.args.store.now t (c.loop-at.at - 1) None = subst (IsSupported c.args.store.now t (c.loop-at.at - 1)) (sym c.reason_at.ensures ∙ c.in-None.is) (c.requires.sound.each (c.loop-at.at - 1) lt) in
    not_decision c.args.store.now t tr c.args.conflict.now c.start_of-start.result (c.loop-at.at - 1) c.loop-at.seen c.loop-at.open (omega (arith, c.loop-at-test.true)) h (sym c.if-has.ensures) c.if-open-eq1.false
    (λ j k. let e : get_or t.level_starts k.0 0 ≡ j = get_or_default t.level_starts k.0 0 j k.1 ∙ k.2 in let o = tr.levels.ordered k.0 (length t.level_starts - 1) (let lt : k.0 < length t.level_starts = k.1 in omega arith) (let d = c.requires.deep in omega arith) in omega (arith, o, e, start_is))
    s

pub unreachable-requires-2 : goal.unreachable-requires-2
unreachable-requires-2 c =
    let h = c.loop-at.invariant in
    let same : c.loop-at.at ≡ c.start_of-start.result = let l = h.low in omega (arith, c.loop-at-test.false) in
    let q : marked c.loop-at.at c.loop-at.seen ≡ marked c.start_of-start.result c.loop-at.seen = ap (λ n. marked n c.loop-at.seen) same in
    let p = h.positive in
    omega (arith, p, h.count, q)

pub clause-requires : goal.clause-requires
clause-requires c =
    let t = c.args.trail.now in
    let lt : c.loop-at.at - 1 < length t.lits = let x = c.loop-at.invariant.at_le in omega (arith, c.loop-at-test.true) in
    let s : IsSupported c.args.store.now t (c.loop-at.at - 1) (Some c.in-Some.reason) = subst (IsSupported c.args.store.now t (c.loop-at.at - 1)) (sym c.reason_at.ensures ∙ c.in-Some.is) (c.requires.sound.each (c.loop-at.at - 1) lt) in
    holds_live c.args.store.now c.in-Some.reason s.0 s.1

pub mark_seen-open-requires-in-Some-clause-within : goal.mark_seen-open-requires-in-Some-clause-within
mark_seen-open-requires-in-Some-clause-within c = All-contains (IsWithin c.args.trail.now.vars) (stored c.args.store.now) c.clause.result.now c.requires.within (holds_stored c.args.store.now c.in-Some.reason c.clause.result.now c.clause.ensures.holds)

pub loop-at-preserved-in-Some : goal.loop-at-preserved-in-Some
loop-at-preserved-in-Some c =
    let t = c.args.trail.now in
    let tr : IsTrail t = c.level.ensures.trail in
    let up : c.loop-at.at ≡ (c.loop-at.at - 1) + 1 = omega arith in
    let h = subst (λ (n : ℕ). Resolving c.args.store.now t c.args.conflict.now c.start_of-start.result n c.loop-at.seen c.loop-at.open) up c.loop-at.invariant in
    let lt : c.loop-at.at - 1 < length t.lits = let x = h.at_le in omega (arith, c.loop-at-test.true) in
    let reason : get_or t.reasons (c.loop-at.at - 1) None ≡ Some c.in-Some.reason = sym c.reason_at.ensures ∙ c.in-Some.is in
    let s : IsSupported c.args.store.now t (c.loop-at.at - 1) (Some c.in-Some.reason) = subst (IsSupported c.args.store.now t (c.loop-at.at - 1)) reason (c.requires.sound.each (c.loop-at.at - 1) lt) in
    let same : c.clause.result.now ≡ s.0 = c.clause.ensures.only s.0 s.1 in
    let m = rw same at c.mark_seen-open-in-Some.ensures in
    Resolving-step c.args.store.now t tr c.args.conflict.now c.start_of-start.result (c.loop-at.at - 1) c.loop-at.seen c.loop-at.open (omega (arith, c.loop-at-test.true)) h (sym c.if-has.ensures) s.0 c.in-Some.reason reason s.1 s.2 _ _ m c.if-open-eq1.false

pub overflow_add-open : goal.overflow_add-open
overflow_add-open c =
    let t = c.args.trail.now in
    let tr : IsTrail t = c.level.ensures.trail in
    let up : c.loop-at.at ≡ (c.loop-at.at - 1) + 1 = omega arith in
    let h = subst (λ (n : ℕ). Resolving c.args.store.now t c.args.conflict.now c.start_of-start.result n c.loop-at.seen c.loop-at.open) up c.loop-at.invariant in
    let b = step_bound c.args.store.now t tr c.args.conflict.now c.start_of-start.result (c.loop-at.at - 1) c.loop-at.seen c.loop-at.open (omega (arith, c.loop-at-test.true)) h (sym c.if-has.ensures) _ _ _ c.mark_seen-open-in-Some.ensures in
    omega (arith, b, c.loop-at.auto.at-fits)
