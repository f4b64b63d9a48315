use Rattle.std.proofs.Common.{Bool, Some, sym, subst}
use Rattle.std.specs.List.{Contains}
use Rattle.std.proofs.lemmas.List.Elements.{Contains-push}
use Rattle.gi_prop.specs.TrailView.{TrailView, HasValue}
use Rattle.gi_scopes.specs.Under.{Adds}
use Rattle.gi_scopes.proofs.Assuming.{adds_none, adds_one}
use Rattle.gi_scopes.proofs.close.take_on.Goals as goal

pub returns-in-Some-clause-adds : goal.returns-in-Some-clause-adds
returns-in-Some-clause-adds c given a = adds_none given c.args.trail.now

pub returns-in-Some-clause-taken : goal.returns-in-Some-clause-taken
returns-in-Some-clause-taken c t = subst (λ (b : Bool). HasValue c.args.trail.now.lits c.args.l (Some b)) t c.in-Some.ensures

pub returns-in-None-clause-adds : goal.returns-in-None-clause-adds
returns-in-None-clause-adds c given a = subst (Adds given c.args.trail.now) (sym c.assign.ensures.added) (adds_one given c.args.trail.now c.args.l a)

pub returns-in-None-clause-taken : goal.returns-in-None-clause-taken
returns-in-None-clause-taken c t = subst (λ (s : TrailView). Contains s.lits c.args.l) (sym c.assign.ensures.added) (Contains-push c.args.trail.now.lits c.args.l)
