use Rattle.std.proofs.Common.{◌≡◌, ℕ, ◌+◌, ◌-◌, ◌*◌, List, take, drop, ap, subst, arith}
use Rattle.gi_outside.specs.Outbox.{Stands}
use Rattle.gi_batch.proofs.Lines.{full_put}
use Rattle.gi_batch.proofs.printing.put_full_line.Goals as goal

pub returns : goal.returns
returns g c = λ start before h.
    let twelve : c.args.i * 12 + 12 - c.args.i * 12 ≡ 12 = omega arith in
    subst (λ (text : List ℕ). Stands start (g.L.Link.state c.put.new.link) c.put.new.self text)
    (full_put before c.args.literals.now _ c.args.i (ap (λ n. take n (drop (c.args.i * 12) c.args.literals.now)) twelve) c.requires)
    (c.put.ensures start _ (c.put_literals.ensures start before h))
