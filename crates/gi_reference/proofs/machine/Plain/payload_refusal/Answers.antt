use Rattle.std.proofs.Common.{refl}
use Rattle.gi_reference.proofs.machine.Plain.payload_refusal.Goals as goal

pub returns-then-has_unusable : goal.returns-then-has_unusable
returns-then-has_unusable c = let e = c.in_ok-payload.ensures in rw (← e.clauses, ← c.if-has_unusable.ensures) refl

pub returns-then-is_past_with : goal.returns-then-is_past_with
returns-then-is_past_with c = let e = c.in_ok-payload.ensures in rw (← e.clauses, ← e.vars, ← c.if-has_unusable.ensures, ← c.if-is_past_with.ensures) refl

pub returns : goal.returns
returns c = let e = c.in_ok-payload.ensures in rw (← e.clauses, ← e.vars, ← c.if-has_unusable.ensures, ← c.if-is_past_with.ensures) e.refused
