-- How a machine's parts are seen as a state, and what a call does to them.
use Rattle.std.specs.Prelude.{◌≡◌, None}
use Rattle.gi_lit.specs.Problem.{Problem}
use Rattle.gi_model.specs.State.{State}
use Rattle.gi_model.specs.Views.{solve_of, life_of}
use Rattle.gi_model.specs.History.{Step}
use Rattle.gi_model.specs.Kept.{IsKept}
use Rattle.gi_model.specs.declared.calls.Call.{Call}
use Rattle.gi_model.specs.declared.replies.Reply.{Reply}
use Rattle.gi_scopes.specs.Open.{Open, AreReasoned}
use Rattle.gi_scopes.specs.Built.{IsFor}
use Rattle.gi_core.specs.Content.{Content}
use Rattle.gi_core.specs.declared.machine.Machine.{Machine}

abbrev pub state_of : Machine → State
state_of m = record {
  problem = m.solver.problem;
  known = m.solver.known;
  pending = m.pending;
  scopes = m.scopes.scopes;
  solve = solve_of m.solve;
  serial = m.serial;
  life = life_of m.life;
}

-- each literal that scopes list has its reasons, and the trail that they keep is built for the
-- solver's clauses
pub record IsBacked (c : Content) (o : Open) : Type 0 where
  pub reasoned : AreReasoned c.problem o
  pub served : IsFor o.kept o.scopes c.base

-- whatever the problem is, nothing is listed that lacks a reason; and no trail is kept
pub record IsBlank (o : Open) : Type 0 where
  pub reasoned : (p : Problem) → AreReasoned p o
  pub unkept : o.kept ≡ None

-- what every legal history keeps, and what backs the scopes
pub record IsMachine (m : Machine) : Type 0 where
  pub kept : IsKept (state_of m)
  pub backed : IsBacked m.solver m.scopes

-- a step of the state, which keeps what backs the scopes
pub record Moves (old : Machine) (call : Call) (answer : Reply) (new : Machine) : Type 0 where
  pub step : Step (state_of old) call answer (state_of new)
  pub backed : IsBacked old.solver old.scopes → IsBacked new.solver new.scopes
