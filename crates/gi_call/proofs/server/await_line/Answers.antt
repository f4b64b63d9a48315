use Rattle.std.proofs.Common.{◌+◌, ◌≤◌, length, sym, ap, ◌∙◌, subst, refl}
use Rattle.gi_text.specs.Given.{IsLine}
use Rattle.gi_text.specs.Lines.{Kept as Held}
use Rattle.gi_call.specs.MidCall.{Spoken}
use Rattle.gi_call.proofs.server.await_line.Goals as goal

pub pieces-init : goal.pieces-init
pieces-init g c = record { most = c.requires; few = λ sent h. h; spoken = λ start es sent x. x }

pub returns-in-Line-clause-line : goal.returns-in-Line-clause-line
returns-in-Line-clause-line g c = subst (λ (h : Held). IsLine c.in-Line.n h) (sym c.in-Line.ensures.1) c.in-Line.ensures.0

pub returns-in-Line-clause-few : goal.returns-in-Line-clause-few
returns-in-Line-clause-few g c = λ sent h. subst (λ (k : Held). sent + length k.left ≤ c.pieces.taken) (sym c.in-Line.ensures.1) (c.pieces.invariant.few sent h)

pub returns-in-Line-clause-spoken : goal.returns-in-Line-clause-spoken
returns-in-Line-clause-spoken g c = λ start es sent x. subst (λ (h : Held). Spoken start (g.L.Link.state c.pieces.server) es sent h c.pieces.taken) (sym c.in-Line.ensures.1) (c.pieces.invariant.spoken start es sent x)

pub returns-in-Long-clause-spoken : goal.returns-in-Long-clause-spoken
returns-in-Long-clause-spoken g c = λ start es sent x.
    (refl, (record { lines = c.pieces.lines; taken = c.pieces.taken; spoken = c.pieces.invariant.spoken start es sent x }, c.in-Long.ensures))

pub returns-in-Done-clause-spoken : goal.returns-in-Done-clause-spoken
returns-in-Done-clause-spoken g c = λ start es sent x.
    (record { lines = c.pieces.lines; taken = c.pieces.taken; spoken = c.pieces.invariant.spoken start es sent x }, c.in-Done.ensures.0, c.in-Done.ensures.1)

pub read_piece-requires : goal.read_piece-requires
read_piece-requires g c = record { most = c.pieces.invariant.most; «open» = ap (λ (h : Held). h.ended) c.in-More.ensures.2 ∙ c.in-More.ensures.1 }

pub returns-in-Some-clause-spoken : goal.returns-in-Some-clause-spoken
returns-in-Some-clause-spoken g c = λ start es sent x.
    c.in-Some.ensures.spoken c.args.number start es sent (subst (λ (h : Held). Spoken start (g.L.Link.state c.pieces.server) es sent h c.pieces.taken) (sym c.in-More.ensures.2) (c.pieces.invariant.spoken start es sent x))

pub pieces-preserved : goal.pieces-preserved
pieces-preserved g c = record {
  most = c.in-None.ensures.most;
  few = λ sent h. c.in-None.ensures.few sent (subst (λ (k : Held). sent + length k.left ≤ c.pieces.taken) (sym c.in-More.ensures.2) (c.pieces.invariant.few sent h));
  spoken = λ start es sent x. c.in-None.ensures.spoken 0 start es sent (subst (λ (h : Held). Spoken start (g.L.Link.state c.pieces.server) es sent h c.pieces.taken) (sym c.in-More.ensures.2) (c.pieces.invariant.spoken start es sent x));
}
