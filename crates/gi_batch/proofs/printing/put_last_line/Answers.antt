use Rattle.std.proofs.Common.{ℕ, ◌*◌, List, subst}
use Rattle.gi_outside.specs.Outbox.{Stands}
use Rattle.gi_batch.proofs.Lines.{rest_is, rest_put}
use Rattle.gi_batch.proofs.printing.put_last_line.Goals as goal

pub returns : goal.returns
returns g c = λ start before h.
    subst (λ (text : List ℕ). Stands start (g.L.Link.state c.put.new.link) c.put.new.self text)
    (rest_put before c.args.literals.now _ c.args.i (rest_is c.args.literals.now (c.args.i * 12)) c.requires.begun c.requires.last)
    (c.put.ensures start _ (c.put_literals.ensures start before h))
