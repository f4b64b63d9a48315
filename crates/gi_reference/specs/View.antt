-- How the plain machine is seen as a state.
use Rattle.std.specs.Prelude.{ℕ, List}
use Rattle.gi_lit.specs.Problem.{Problem}
use Rattle.gi_model.specs.State.{State, Scope}
use Rattle.gi_model.specs.Views.{solve_of, life_of}
use Rattle.gi_model.specs.declared.solve.Solve.{Solve}
use Rattle.gi_model.specs.declared.life.Life.{Life}

abbrev pub state_of : Problem → List (List ℕ) → List ℕ → List Scope → Solve → ℕ → Life → State
state_of problem known pending scopes solve serial life =
    record {
      problem = problem;
      known = known;
      pending = pending;
      scopes = scopes;
      solve = solve_of solve;
      serial = serial;
      life = life_of life;
    }
