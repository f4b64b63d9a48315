-- Whether so many literals more are too many.
use Rattle.std.proofs.Common.{◌≡◌, ℕ, ◌+◌, ◌<◌, ◌≤◌, Bool, true, false, not, nat_lt, Option, Some, None, List, length, sym, arith}
use Rattle.std.specs.List.{sum_by}
use Rattle.std.specs.Option.{is_some, IfSome, IfNone}
use Rattle.std.proofs.lemmas.Bool.{lt-ltb, le-ltb}
use Rattle.gi_lit.specs.Problem.{Problem, as_given, lit_count}
use Rattle.gi_model.specs.Limits.{most_lits}

abbrev pub by_clauses : Problem → ℕ
by_clauses p = sum_by length p.plain

abbrev pub by_groups : Problem → ℕ
by_groups p = sum_by as_given p.groups

pub no_clauses_fit : (p : Problem) (count room : ℕ) → room + count ≡ most_lits → room < by_clauses p → true ≡ nat_lt most_lits (lit_count p + count)
unfolding lit_count
no_clauses_fit p count room e lt = sym (lt-ltb most_lits (by_clauses p + by_groups p + count) (omega arith))

pub groups_decide : (p : Problem) (count room left : ℕ) (o : Option ℕ) (r : Bool) → room + count ≡ most_lits → left + by_clauses p ≡ room → IfSome o (λ x. x + by_groups p ≡ left) → IfNone o (left < by_groups p) → is_some o ≡ not r → r ≡ nat_lt most_lits (lit_count p + count)
unfolding lit_count
groups_decide p count room left None true e f some none h = sym (lt-ltb most_lits (by_clauses p + by_groups p + count) (omega arith))
groups_decide p count room left None false e f some none h = absurd cc
groups_decide p count room left (Some x) true e f some none h = absurd cc
groups_decide p count room left (Some x) false e f some none h = sym (le-ltb most_lits (by_clauses p + by_groups p + count) (omega arith))
