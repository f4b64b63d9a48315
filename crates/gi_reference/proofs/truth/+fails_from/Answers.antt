use Rattle.std.proofs.Common.{◌≡◌, ◌↔◌, ◌+◌, ◌-◌, ℕ, IsTrue, Bool, false, not, length, sym, subst, ◌∙◌, arith, length-set}
use Rattle.gi_reference.specs.Search.{FailsFrom}
use Rattle.gi_reference.proofs.Trying.{none_left, try_first, try_both}
use Rattle.gi_reference.proofs.truth.+fails_from.Goals as goal

pub returns-then-free-eq0-clause-fails : goal.returns-then-free-eq0-clause-fails
returns-then-free-eq0-clause-fails t c =
    subst (λ k. IsTrue (not c.is_model.result) ↔ FailsFrom c.args.clauses.now c.args.lits.now k c.args.values.now) (sym c.if-free-eq0.true)
    (none_left c.args.clauses.now c.args.lits.now c.args.values.now c.is_model.result c.is_model.ensures c.requires.clauses c.requires.lits)

pub returns-then-not-fails_from-clause-fails : goal.returns-then-not-fails_from-clause-fails
returns-then-not-fails_from-clause-fails t c =
    let e : (c.args.free - 1) + 1 ≡ c.args.free = omega arith in
    subst (λ k. IsTrue false ↔ FailsFrom c.args.clauses.now c.args.lits.now k c.args.values.now) e
    (try_first c.args.clauses.now c.args.lits.now c.args.values.now c.fails_from.new.values (c.args.free - 1) (omega arith) c.fails_from.result c.fails_from.ensures.fails c.if-not-fails_from.true)

pub returns-clause-fails : goal.returns-clause-fails
returns-clause-fails t c =
    let e : (c.args.free - 1) + 1 ≡ c.args.free = omega arith in
    subst (λ k. IsTrue c.fails_from-2.result ↔ FailsFrom c.args.clauses.now c.args.lits.now k c.args.values.now) e
    (try_both c.args.clauses.now c.args.lits.now c.args.values.now c.fails_from.new.values (c.args.free - 1) (omega arith) (c.fails_from.auto.values ∙ length-set _ _ _) c.fails_from.ensures.rest c.fails_from-2.result (c.fails_from.ensures.fails.0 c.if-not-fails_from.false) c.fails_from-2.ensures.fails)
