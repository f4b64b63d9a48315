use Rattle.std.proofs.Common.{◌≡◌, ◌+◌, ◌*◌, ◌++◌, map}
use Rattle.std.specs.List.{range_with_len}
use Rattle.gi_model.specs.declared.calls.Call.TheVariants.{Add}
use Rattle.gi_drill.specs.Generator.{state_after}
use Rattle.gi_drill.specs.Instance.{clause_at}
use Rattle.gi_drill.specs.Script.{lines_text}
use Rattle.gi_drill.proofs.script.put_clauses.Given as goal

abbrev pub invariant-loop-i : goal.invariant-loop-i
invariant-loop-i l = (l.out ≡ l.fn.out ++ lines_text (map Add (map (clause_at l.fn.seed) (range_with_len 0 l._i)))) × (l.generator ≡ state_after (150 + 6 * l._i) l.fn.seed)
