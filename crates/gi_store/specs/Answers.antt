-- What a new guard gives.
use Rattle.std.specs.Prelude.{◌≡◌, ◌<◌, []}
use Rattle.gi_lit.specs.Literals.{max_var}
use Rattle.gi_lit.specs.Problem.{next_guard}
use Rattle.gi_store.specs.StoreView.{StoreView, problem_of, with_new_guard}
use Rattle.gi_store.specs.declared.new_guard.NewGuard.{NewGuard}
use Rattle.gi_store.specs.declared.new_guard.NewGuard.TheVariants.{Guard, Limit, NoMemory}

abbrev pub GivesGuard : StoreView → NewGuard → StoreView → Type 0
GivesGuard old (Guard g) new = (g ≡ next_guard (problem_of old)) × (new ≡ with_new_guard old)
GivesGuard old Limit new = (old.freed ≡ []) × (old.vars ≡ max_var) × (new ≡ old)
GivesGuard old NoMemory new = (new ≡ old) × (old.freed ≡ [] → old.vars < max_var)
