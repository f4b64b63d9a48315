use Rattle.std.proofs.Common.{◌≡◌, ◌-◌, length, ℕ, subst, sym, get_or, arith}
use Rattle.gi_lit.specs.Closure.{IsFalsified}
use Rattle.gi_prop.specs.TrailView.{IsTrail}
use Rattle.gi_cdcl.specs.Uip.{IsJump}
use Rattle.gi_cdcl.proofs.Uip.{holds_stored}
use Rattle.gi_cdcl.proofs.Built.{built_marked, built_uip, built_bottom, built_jump}
use Rattle.gi_cdcl.proofs.analyze.analyze.Goals as goal
use Rattle.gi_cdcl.proofs.analyze.analyze.Goals.{in-None, in-Some}

pub resolve-top-requires-clause-stands : goal.resolve-top-requires-clause-stands
resolve-top-requires-clause-stands c = holds_stored c.args.store.now c.args.conflict c.clause-falsified.result.now c.clause-falsified.ensures.holds

pub resolve-top-requires-clause-falsified : goal.resolve-top-requires-clause-falsified
resolve-top-requires-clause-falsified c = let q = c.requires.conflict in subst (IsFalsified c.args.trail.now.lits) (sym (c.clause-falsified.ensures.only q.clause q.held)) q.falsified

pub build-requires-clause-start : goal.build-requires-clause-start
build-requires-clause-start c =
    let start_is : c.start_of-start.result ≡ get_or c.args.trail.now.level_starts (length c.args.trail.now.level_starts - 1) 0 = rw c.level.ensures.value at c.start_of-start.ensures in
    rw start_is c.resolve-top.ensures.low

pub build-requires-clause-top : goal.build-requires-clause-top
build-requires-clause-top c = rw c.lits.ensures.value c.resolve-top.ensures.high

pub returns-clause-uip : goal.returns-clause-uip
returns-clause-uip c clause held =
    let t = c.args.trail.now in
    let tr : IsTrail t = c.level.ensures.trail in
    let start_is : c.start_of-start.result ≡ get_or t.level_starts (length t.level_starts - 1) 0 = rw c.level.ensures.value at c.start_of-start.ensures in
    let cut = rw (c.clause-falsified.ensures.only clause held, ← start_is) at c.resolve-top.ensures in
    let built = built_marked _ _ _ _ _ _ _ c.touched.ensures (rw c.lits.ensures.value at c.in_ok-clause.ensures) in
    rw (← start_is) (built_uip _ _ tr clause _ _ _ _ _ cut built)

pub returns-clause-jump : goal.returns-clause-jump
returns-clause-jump c =
    let t = c.args.trail.now in
    let tr : IsTrail t = c.level.ensures.trail in
    let start_is : c.start_of-start.result ≡ get_or t.level_starts (length t.level_starts - 1) 0 = rw c.level.ensures.value at c.start_of-start.ensures in
    let cut = rw (← start_is) at c.resolve-top.ensures in
    let built = built_marked _ _ _ _ _ _ _ c.touched.ensures (rw c.lits.ensures.value at c.in_ok-clause.ensures) in
    rw (← start_is) (elim c.match-last.branch [
      | in-None w ↦ subst (λ (n : ℕ). IsJump t c.in_ok-clause.clause c.start_of-start.result n) (sym w.level-is) (built_bottom _ _ tr _ _ _ _ _ _ cut built w.in-None.is c.requires.deep)
      | in-Some w ↦ subst (λ (n : ℕ). IsJump t c.in_ok-clause.clause c.start_of-start.result n) (sym w.level-is) (built_jump _ _ tr _ _ _ _ _ _ cut built w.in-Some.place _ w.in-Some.is c.requires.deep start_is w.level_at-level.ensures)
    ])

pub start_over-requires : goal.start_over-requires
start_over-requires c = let f = c.level.ensures.trail.few in omega (arith, f, c.vars.ensures)
