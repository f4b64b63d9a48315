use Rattle.std.proofs.Common.{◌≡◌, ℕ, ◌+◌, ◌<◌, ◌≤◌, List, length, take, get_or, subst, arith}
use Rattle.std.specs.List.{All}
use Rattle.std.proofs.lemmas.List.{get_or_read, take_all}
use Rattle.std.proofs.lemmas.List.Elements.{All-more, All-weaker}
use Rattle.gi_kept.proofs.marks.greatest.Goals as goal
use Rattle.gi_kept.proofs.marks.greatest.Goals.{then-greatest-index, else-greatest-index}

weaker : (old new : ℕ) → old ≤ new → (v : ℕ) → v ≤ old → v ≤ new
weaker old new le v h = omega arith

step : (vars : List ℕ) (i old new x : ℕ) → i < length vars → x ≡ get_or vars i 0 → All (λ v. v ≤ old) (take i vars) → old ≤ new → x ≤ new → All (λ v. v ≤ new) (take (i + 1) vars)
step vars i old new x lt e h le at = All-more (λ v. v ≤ new) vars i 0 lt (All-weaker (λ v. v ≤ old) (λ v. v ≤ new) (weaker old new le) (take i vars) h) (subst (λ y. y ≤ new) e at)

pub loop-v-preserved : goal.loop-v-preserved
loop-v-preserved c =
    let at = get_or_read c.args.vars.now c.loop-v.v-index c.v-item.result c.loop-v-test.true c.v-item.is 0 in
    elim c.if-greatest-index.branch [
      | then-greatest-index w ↦ record { high = omega arith; within = step c.args.vars.now c.loop-v.v-index c.loop-v.greatest c.if-greatest-index.greatest c.v-item.result c.loop-v-test.true at c.loop-v.invariant.within (omega arith) (omega arith) }
      | else-greatest-index w ↦ record { high = omega arith; within = step c.args.vars.now c.loop-v.v-index c.loop-v.greatest c.if-greatest-index.greatest c.v-item.result c.loop-v-test.true at c.loop-v.invariant.within (omega arith) (omega arith) }
    ]

pub returns-clause-within : goal.returns-clause-within
returns-clause-within c = subst (λ (vs : List ℕ). All (λ v. v ≤ c.loop-v.greatest) vs) (take_all c.loop-v.v-index c.args.vars.now (omega arith)) c.loop-v.invariant.within
