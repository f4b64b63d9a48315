use Rattle.std.proofs.Common.{◌≡◌, ℕ, ◌+◌, ◌<◌, Bool, true, nat_lt, length, subst, arith}
use Rattle.std.specs.List.{sum_by}
use Rattle.gi_lit.specs.Problem.{Problem, lit_count}
use Rattle.gi_model.specs.Limits.{most_lits}
use Rattle.gi_reference.proofs.Counting.{no_clauses_fit, groups_decide}
use Rattle.gi_reference.proofs.store.Store.lacks_lits_of.Goals as goal

pub returns-in-Some-left_by_clauses : goal.returns-in-Some-left_by_clauses
returns-in-Some-left_by_clauses c =
    let P : Problem → Type 0 = λ p. c.is_none.result ≡ nat_lt most_lits (lit_count p + sum_by length c.args.clauses.now) in
    subst P c.self.view_is (groups_decide _ (sum_by length c.args.clauses.now) c.in-Some.room c.in-Some-left_by_clauses.left c.left_by_groups.result c.is_none.result c.in-Some.ensures.some
    (rw c.as_slice.ensures.value at c.in-Some-left_by_clauses.ensures.some)
    (rw c.as_slice-in-Some-left_by_clauses.ensures.value at c.left_by_groups.ensures.some)
    (rw c.as_slice-in-Some-left_by_clauses.ensures.value at c.left_by_groups.ensures.none)
    c.is_none.ensures)

pub returns-in-None-left_by_clauses : goal.returns-in-None-left_by_clauses
returns-in-None-left_by_clauses c =
    let P : Problem → Type 0 = λ p. true ≡ nat_lt most_lits (lit_count p + sum_by length c.args.clauses.now) in
    subst P c.self.view_is (no_clauses_fit _ (sum_by length c.args.clauses.now) c.in-Some.room c.in-Some.ensures.some (rw c.as_slice.ensures.value at c.in-None-left_by_clauses.ensures.none))
