use Rattle.std.proofs.Common.{◌≡◌, ◌<◌, ◌-◌, ◌+◌, ◌/◌, arith, ℕ, ap, subst, sym, ◌∙◌, List, Bool, Some, None, length}
use Rattle.std.proofs.lemmas.List.{get_or_default}
use Rattle.std.proofs.lemmas.List.Elements.{All-contains}
use Rattle.gi_store.specs.StoreView.{IsWithin}
use Rattle.gi_prop.specs.TrailView.{IsTrail, StandsAt}
use Rattle.gi_lit.proofs.Literals.{var-opposite}
use Rattle.gi_cdcl.specs.Sound.{stored, IsSupported}
use Rattle.gi_cdcl.specs.Assumed.{LeadsFrom}
use Rattle.gi_cdcl.proofs.Marking.{unseen}
use Rattle.gi_cdcl.proofs.Uip.{holds_stored}
use Rattle.gi_cdcl.proofs.Assuming.{Tracing, Tracing-init, Tracing-skip, Tracing-decision, Tracing-step}
use Rattle.gi_cdcl.proofs.assume.trace.Goals as goal
use Rattle.gi_cdcl.proofs.assume.trace.Goals.{in-Some, in_default}

pub loop-at-init : goal.loop-at-init
loop-at-init c =
    let tr : IsTrail c.args.trail.now = c.lits-at.ensures.trail in
    let P : List Bool → Type 0 = λ bs. Tracing c.args.store.now c.args.trail.now c.args.failed bs (length c.args.trail.now.lits) in
    rw c.lits-at.ensures.value (elim c.match-place_of.branch [
      | in-Some w ↦ subst P (sym (w.seen-is ∙ w.set.ensures)) (Tracing-init _ _ tr c.args.failed c.requires.failed w.in-Some.place (subst (λ (v : ℕ). StandsAt c.args.trail.now.lits v w.in-Some.place) c.var.ensures w.in-Some.ensures) c.args.seen.now c.requires.room)
      | in_default w ↦ absurd (let f = c.requires.failed in unseen _ _ f.0 w.in_default.ensures (record { below = f.1; names = ap (λ n. n / 2) (get_or_default c.args.trail.now.lits f.0 0 _ f.1 ∙ f.2) ∙ var-opposite c.args.failed ∙ sym c.var.ensures }))
    ])

pub loop-at-preserved-in-Some-reason_at : goal.loop-at-preserved-in-Some-reason_at
loop-at-preserved-in-Some-reason_at c =
    let t = c.args.trail.now in
    let tr : IsTrail t = c.lits-at.ensures.trail in
    let up : c.loop-at.at ≡ (c.loop-at.at - 1) + 1 = omega (arith, c.loop-at-test.true) in
    let h = subst (λ (n : ℕ). Tracing c.args.store.now t c.args.failed c.loop-at.seen n) up c.loop-at.invariant in
    let lt : c.loop-at.at - 1 < length t.lits = let x = c.loop-at.invariant.at_le in omega (arith, c.loop-at-test.true) in
    let s : IsSupported c.args.store.now t (c.loop-at.at - 1) (Some c.in-Some-reason_at.reason) = subst (IsSupported c.args.store.now t (c.loop-at.at - 1)) (sym c.reason_at.ensures ∙ c.in-Some-reason_at.is) (c.requires.sound.each (c.loop-at.at - 1) lt) in
    let m = rw (c.clause.ensures.only s.0 s.1) at c.mark_seen-more.ensures in
    Tracing-step _ _ tr c.args.failed (c.loop-at.at - 1) c.loop-at.seen h s.0 c.in-Some-reason_at.reason s.1 s.2 0 _ _ m

pub loop-at-preserved-in_default-reason_at : goal.loop-at-preserved-in_default-reason_at
loop-at-preserved-in_default-reason_at c =
    let t = c.args.trail.now in
    let up : c.loop-at.at ≡ (c.loop-at.at - 1) + 1 = omega (arith, c.loop-at-test.true) in
    let h = subst (λ (n : ℕ). Tracing c.args.store.now t c.args.failed c.loop-at.seen n) up c.loop-at.invariant in
    let lt : c.loop-at.at - 1 < length t.lits = let x = c.loop-at.invariant.at_le in omega (arith, c.loop-at-test.true) in
    let s : IsSupported c.args.store.now t (c.loop-at.at - 1) None = subst (IsSupported c.args.store.now t (c.loop-at.at - 1)) (sym c.reason_at.ensures ∙ c.in_default-reason_at.is) (c.requires.sound.each (c.loop-at.at - 1) lt) in
    Tracing-decision _ _ c.lits-at.ensures.trail c.args.failed (c.loop-at.at - 1) c.loop-at.seen h s

pub loop-at-preserved : goal.loop-at-preserved
loop-at-preserved c =
    let t = c.args.trail.now in
    let up : c.loop-at.at ≡ (c.loop-at.at - 1) + 1 = omega (arith, c.loop-at-test.true) in
    let h = subst (λ (n : ℕ). Tracing c.args.store.now t c.args.failed c.loop-at.seen n) up c.loop-at.invariant in
    Tracing-skip _ _ c.lits-at.ensures.trail c.args.failed (c.loop-at.at - 1) c.loop-at.seen h (sym c.if-has.ensures)

pub returns-clause-leads : goal.returns-clause-leads
returns-clause-leads c =
    let zero_at : c.loop-at.at ≡ 0 = omega (arith, c.loop-at-test.false) in
    subst (LeadsFrom c.args.store.now c.args.trail.now c.args.failed c.loop-at.seen) zero_at c.loop-at.invariant.leads

pub mark_seen-more-requires-clause-within : goal.mark_seen-more-requires-clause-within
mark_seen-more-requires-clause-within c = All-contains (IsWithin c.args.trail.now.vars) (stored c.args.store.now) c.clause.result.now c.requires.within (holds_stored c.args.store.now c.in-Some-reason_at.reason c.clause.result.now c.clause.ensures.holds)
