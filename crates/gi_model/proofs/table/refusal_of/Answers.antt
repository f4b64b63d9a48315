use Rattle.std.proofs.Common.{refl}
use Rattle.gi_model.proofs.Refusing.{is_table}
use Rattle.gi_model.proofs.table.refusal_of.Goals as goal

pub returns-then-is_work : goal.returns-then-is_work
returns-then-is_work g c = rw (is_table (g.F.Facts.state c.args.facts.now) c.args.call.now, ← c.if-is_work.ensures) refl

pub returns-then-is_over : goal.returns-then-is_over
returns-then-is_over g c = rw (is_table (g.F.Facts.state c.args.facts.now) c.args.call.now, ← c.if-is_work.ensures, ← c.if-is_over.ensures) refl

pub returns-then-not-is_admitted : goal.returns-then-not-is_admitted
returns-then-not-is_admitted g c = rw (is_table (g.F.Facts.state c.args.facts.now) c.args.call.now, ← c.if-is_work.ensures, ← c.if-is_over.ensures, ← c.if-not-is_admitted.ensures) refl

pub returns-then-is_load : goal.returns-then-is_load
returns-then-is_load g c = rw (is_table (g.F.Facts.state c.args.facts.now) c.args.call.now, ← c.if-is_work.ensures, ← c.if-is_over.ensures, ← c.if-not-is_admitted.ensures, ← c.if-is_load.ensures) refl

pub returns-then-is_scoped : goal.returns-then-is_scoped
returns-then-is_scoped g c = rw (is_table (g.F.Facts.state c.args.facts.now) c.args.call.now, ← c.if-is_work.ensures, ← c.if-is_over.ensures, ← c.if-not-is_admitted.ensures, ← c.if-is_load.ensures, ← c.if-is_scoped.ensures) refl

pub returns-then-has_bad_lit : goal.returns-then-has_bad_lit
returns-then-has_bad_lit g c = rw (is_table (g.F.Facts.state c.args.facts.now) c.args.call.now, ← c.if-is_work.ensures, ← c.if-is_over.ensures, ← c.if-not-is_admitted.ensures, ← c.if-is_load.ensures, ← c.if-is_scoped.ensures, ← c.if-has_bad_lit.ensures) refl

pub returns-then-is_not_guard : goal.returns-then-is_not_guard
returns-then-is_not_guard g c = rw (is_table (g.F.Facts.state c.args.facts.now) c.args.call.now, ← c.if-is_work.ensures, ← c.if-is_over.ensures, ← c.if-not-is_admitted.ensures, ← c.if-is_load.ensures, ← c.if-is_scoped.ensures, ← c.if-has_bad_lit.ensures, ← c.if-is_not_guard.ensures) refl

pub returns-then-is_held : goal.returns-then-is_held
returns-then-is_held g c = rw (is_table (g.F.Facts.state c.args.facts.now) c.args.call.now, ← c.if-is_work.ensures, ← c.if-is_over.ensures, ← c.if-not-is_admitted.ensures, ← c.if-is_load.ensures, ← c.if-is_scoped.ensures, ← c.if-has_bad_lit.ensures, ← c.if-is_not_guard.ensures, ← c.if-is_held.ensures) refl

pub returns-then-is_beyond : goal.returns-then-is_beyond
returns-then-is_beyond g c = rw (is_table (g.F.Facts.state c.args.facts.now) c.args.call.now, ← c.if-is_work.ensures, ← c.if-is_over.ensures, ← c.if-not-is_admitted.ensures, ← c.if-is_load.ensures, ← c.if-is_scoped.ensures, ← c.if-has_bad_lit.ensures, ← c.if-is_not_guard.ensures, ← c.if-is_held.ensures, ← c.if-is_beyond.ensures) refl

pub returns : goal.returns
returns g c = rw (is_table (g.F.Facts.state c.args.facts.now) c.args.call.now, ← c.if-is_work.ensures, ← c.if-is_over.ensures, ← c.if-not-is_admitted.ensures, ← c.if-is_load.ensures, ← c.if-is_scoped.ensures, ← c.if-has_bad_lit.ensures, ← c.if-is_not_guard.ensures, ← c.if-is_held.ensures, ← c.if-is_beyond.ensures) c.lacks.ensures
