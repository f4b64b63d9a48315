use Rattle.std.proofs.Common.{◌≡◌, ap, sym, ◌∙◌, false, take}
use Rattle.gi_outside.specs.Outbox.{Waiting}
use Rattle.gi_outside.proofs.Gathering.{flushed, flushed_cut}
use Rattle.gi_outside.proofs.outbox.Outbox.flush.Goals as goal

pub returns-in-Done-clause-stands : goal.returns-in-Done-clause-stands
returns-in-Done-clause-stands g c = λ start text h.
    let sound : c.args.self.now.broken ≡ false = sym (ap (λ (w : Waiting). w.broken) c.self.view_is) ∙ c.if-self.false in
    rw c.if-self.false (flushed start (g.L.Link.state c.args.link.now) (g.L.Link.state c.write_all.new.link) c.args.self.now (take c.self.inside.len c.self.inside.bytes) text sound (sym (ap (λ (w : Waiting). w.bytes) c.self.view_is)) c.in-Done.ensures h)

pub returns-in-Failed-clause-stands : goal.returns-in-Failed-clause-stands
returns-in-Failed-clause-stands g c = λ start text h.
    let sound : c.args.self.now.broken ≡ false = sym (ap (λ (w : Waiting). w.broken) c.self.view_is) ∙ c.if-self.false in
    flushed_cut start (g.L.Link.state c.args.link.now) (g.L.Link.state c.write_all.new.link) c.args.self.now (take c.self.inside.len c.self.inside.bytes) text sound (sym (ap (λ (w : Waiting). w.bytes) c.self.view_is)) c.in-Failed.ensures h
