use Rattle.std.proofs.Common.{refl}
use Rattle.gi_model.proofs.Refusing.{is_rest}
use Rattle.gi_model.proofs.table.lacks.Goals as goal

pub returns-then-lacks_scope : goal.returns-then-lacks_scope
returns-then-lacks_scope g c = rw (is_rest (g.F.Facts.state c.args.facts.now) c.args.call.now c.requires, ← c.if-lacks_scope.ensures) refl

pub returns-then-is_unlisted : goal.returns-then-is_unlisted
returns-then-is_unlisted g c = rw (is_rest (g.F.Facts.state c.args.facts.now) c.args.call.now c.requires, ← c.if-lacks_scope.ensures, ← c.if-is_unlisted.ensures) refl

pub returns-then-lacks_solve : goal.returns-then-lacks_solve
returns-then-lacks_solve g c = rw (is_rest (g.F.Facts.state c.args.facts.now) c.args.call.now c.requires, ← c.if-lacks_scope.ensures, ← c.if-is_unlisted.ensures, ← c.if-lacks_solve.ensures) refl

pub returns-then-lacks_model : goal.returns-then-lacks_model
returns-then-lacks_model g c = rw (is_rest (g.F.Facts.state c.args.facts.now) c.args.call.now c.requires, ← c.if-lacks_scope.ensures, ← c.if-is_unlisted.ensures, ← c.if-lacks_solve.ensures, ← c.if-lacks_model.ensures) refl

pub returns-then-lacks_clause : goal.returns-then-lacks_clause
returns-then-lacks_clause g c = rw (is_rest (g.F.Facts.state c.args.facts.now) c.args.call.now c.requires, ← c.if-lacks_scope.ensures, ← c.if-is_unlisted.ensures, ← c.if-lacks_solve.ensures, ← c.if-lacks_model.ensures, ← c.if-lacks_clause.ensures) refl

pub returns : goal.returns
returns g c = rw (is_rest (g.F.Facts.state c.args.facts.now) c.args.call.now c.requires, ← c.if-lacks_scope.ensures, ← c.if-is_unlisted.ensures, ← c.if-lacks_solve.ensures, ← c.if-lacks_model.ensures, ← c.if-lacks_clause.ensures) refl
