-- What contracts see of a solver: a problem, and what is learnt about it.
use Rattle.std.specs.Prelude.{ℕ, List, []}
use Rattle.gi_lit.specs.Problem.{Problem, empty_problem}
use Rattle.gi_store.specs.StoreView.{StoreView, problem_of, known_of}
use Rattle.gi_scopes.specs.Under.{base_of}

pub record Content : Type 0 where
  pub problem : Problem
  pub known : List (List ℕ)  -- the learnt clauses, the oldest first
  pub base : StoreView  -- the plain clauses and groups with their keys

abbrev pub content_of : StoreView → Content
content_of h = record { problem = problem_of h; known = known_of h; base = base_of h }

-- with nothing in it
abbrev pub no_content : Content
no_content = record {
  problem = empty_problem;
  known = [];
  base = record { vars = 0; plain = []; groups = []; active = []; freed = []; learnt = [] };
}
