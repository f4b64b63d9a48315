use Rattle.std.proofs.Common.{rules}
use Rattle.std.proofs.lemmas.Fn.{filter_same}
use Rattle.gi_lit.specs.Problem.{without_groups}
use Rattle.gi_kept.proofs.kept.drop_groups.Goals as goal

pub returns : goal.returns
unfolding without_groups
returns c = record { items = filter_same _ _ _ (λ x b f' k. search rules) _ _ c.retain.ensures.filtered }
