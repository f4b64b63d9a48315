use Rattle.std.proofs.Common.{◌≡◌, ◌+◌, None, min, subst, sym, ap, ◌∙◌}
use Rattle.gi_text.specs.Lines.{Kept, line_at}
use Rattle.gi_text.proofs.Held.{held_front}
use Rattle.gi_text.proofs.lines.Lines.wait.Goals as goal

pub invariant_of-self : goal.invariant_of-self
invariant_of-self c =
    held_front c.self.inside.held _ c.self.inside.looked (c.self.inside.most + 1) _ _ _ _ c.self.invariant
    (subst (λ (k : Kept). line_at k.left ≡ None) (sym c.self.view_is) c.requires)
    c.truncate.ensures
    (c.min-self-inside.ensures ∙ ap (λ n. min c.self.inside.looked n) c.len-2.ensures)
