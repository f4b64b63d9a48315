use Rattle.gi_example.proofs.Telling.{model_is_true}
use Rattle.gi_example.proofs.planner.Planner.model.Goals as goal

pub returns-in-Model : goal.returns-in-Model
returns-in-Model c = model_is_true _ _ _ c.is_kept.ensures c.in-Model.ensures
