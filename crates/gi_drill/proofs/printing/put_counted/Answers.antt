use Rattle.std.proofs.Common.{ℕ, List, [], ◌∷◌, ◌++◌, ◌∙◌, append_assoc, decimal, subst}
use Rattle.gi_outside.specs.Outbox.{Stands}
use Rattle.gi_drill.proofs.printing.put_counted.Goals as goal

pub returns : goal.returns
returns g c = λ start text h.
    subst (λ (t : List ℕ). Stands start (g.L.Link.state c.put-2.new.link) c.put-2.new.self t)
    (append_assoc (text ++ c.args.label.now) (decimal c.args.number) (10 ∷ []) ∙ append_assoc text c.args.label.now (decimal c.args.number ++ 10 ∷ []))
    (c.put-2.ensures start _ (c.put_number.ensures start _ (c.put.ensures start text h)))
