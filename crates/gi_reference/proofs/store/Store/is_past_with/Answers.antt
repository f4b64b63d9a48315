use Rattle.std.proofs.Common.{refl}
use Rattle.gi_reference.proofs.Loading.{is_past_by}
use Rattle.gi_reference.proofs.store.Store.is_past_with.Goals as goal

pub returns-then-has_too_many_vars : goal.returns-then-has_too_many_vars
returns-then-has_too_many_vars c = rw (is_past_by c.args.clauses.now c.args.vars c.args.self.now, ← c.as_slice.ensures, ← c.if-has_too_many_vars.ensures) refl

pub returns-then-has_too_many_clauses : goal.returns-then-has_too_many_clauses
returns-then-has_too_many_clauses c = rw (is_past_by c.args.clauses.now c.args.vars c.args.self.now, ← c.len.ensures, ← c.as_slice.ensures, ← c.if-has_too_many_vars.ensures, ← c.if-has_too_many_clauses.ensures) refl

pub returns : goal.returns
returns c =
    let v = rw c.as_slice.ensures at c.has_too_many_vars.ensures in
    let k = rw c.len.ensures at c.has_too_many_clauses.ensures in
    let l = rw c.as_slice-2.ensures at c.lacks_lits_of.ensures in
    rw (is_past_by c.args.clauses.now c.args.vars c.args.self.now, ← v, c.if-has_too_many_vars.false, ← k, c.if-has_too_many_clauses.false, ← l) refl
