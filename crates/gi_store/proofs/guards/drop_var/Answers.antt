use Rattle.std.proofs.Common.{rules}
use Rattle.std.proofs.lemmas.Fn.{filter_same}
use Rattle.gi_lit.specs.Problem.{without}
use Rattle.gi_store.proofs.guards.drop_var.Goals as goal

pub returns : goal.returns
unfolding without
returns c = record { items = filter_same _ _ _ (λ x b f' k. search rules) _ _ c.retain.ensures.filtered }
