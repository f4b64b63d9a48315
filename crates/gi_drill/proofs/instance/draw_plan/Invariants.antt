use Rattle.std.proofs.Common.{◌≡◌, ◌+◌, ◌==◌, map}
use Rattle.std.specs.List.{range_with_len}
use Rattle.gi_drill.specs.Generator.{draw, state_after}
use Rattle.gi_drill.proofs.instance.draw_plan.Given as goal

abbrev pub invariant-loop-v : goal.invariant-loop-v
invariant-loop-v l = (l.values.items ≡ map (λ v. draw (v + 1) 2 l.fn.generator == 1) (range_with_len 0 l._v)) × (l.generator ≡ state_after l._v l.fn.generator)
