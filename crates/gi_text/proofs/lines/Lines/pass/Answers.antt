use Rattle.std.proofs.Common.{inl, inr, length, ap, arith}
use Rattle.gi_text.specs.Lines.{Kept}
use Rattle.gi_text.proofs.Fronts.{last_goes, line_goes}
use Rattle.gi_text.proofs.lines.Lines.pass.Goals as goal

pub returns-then-n-len : goal.returns-then-n-len
returns-then-n-len c = elim c.requires.ends [
  | inl whole ↦ line_goes c.args.n c.args.self.now c.take_off.new.self whole.0 whole.1 c.take_off.ensures
  | inr last ↦ absurd (omega (arith, last.3, c.if-n-len.true, c.len.ensures, ap (λ (k : Kept). length k.left) c.self.view_is))
]

pub returns-else-n-len : goal.returns-else-n-len
returns-else-n-len c = elim c.requires.ends [
  | inl whole ↦ absurd (omega (arith, whole.0, c.if-n-len.false, c.len.ensures, ap (λ (k : Kept). length k.left) c.self.view_is))
  | inr last ↦ last_goes c.args.n c.args.self.now c.take_off-else-n-len.new.self last.0 last.1 last.2 last.3 c.take_off-else-n-len.ensures
]
