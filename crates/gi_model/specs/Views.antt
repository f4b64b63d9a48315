-- How a solve and a life are seen as those of the state.
use Rattle.std.specs.Prelude.{◌≡◌, Bool, List}
use Rattle.gi_model.specs.State.{Run, Solve, no_solve, running, paused, ended, Life, alive, shut, dead}
use Rattle.gi_model.specs.declared.replies.Verdict.TheVariants.{Sat}
use Rattle.gi_model.specs.declared.run.Run.{Run as RunCode}
use Rattle.gi_model.specs.declared.solve.Solve.{Solve as SolveCode}
use Rattle.gi_model.specs.declared.solve.Solve.TheVariants as solve
use Rattle.gi_model.specs.declared.life.Life.{Life as LifeCode}
use Rattle.gi_model.specs.declared.life.Life.TheVariants as life

abbrev pub run_of : RunCode → Run
run_of r = record {
  serial = r.serial;
  assumed = r.assumed;
  budget = r.budget;
  spent = r.spent;
  slices = r.slices;
}

abbrev pub solve_of : SolveCode → Solve
solve_of solve.Idle = no_solve
solve_of (solve.Running r) = running (run_of r)
solve_of (solve.Paused r) = paused (run_of r)
solve_of (solve.Ended n v) = ended n v

abbrev pub life_of : LifeCode → Life
life_of life.Alive = alive
life_of life.Shut = shut
life_of life.Dead = dead

-- the solve ended with these values
abbrev pub IsModelOf : Solve → List Bool → Type 0
IsModelOf (ended n (Sat values)) told = values ≡ told
IsModelOf solve told = ⊥
