use Rattle.std.proofs.Common.{length, false, ap, ◌∙◌}
use Rattle.std.proofs.lemmas.List.{length-replicate}
use Rattle.gi_scopes.proofs.Noting.{noted_none}
use Rattle.gi_scopes.proofs.implied.fit.Goals as goal

pub returns-clause-none : goal.returns-clause-none
returns-clause-none c = noted_none c.args.n c.in_ok-table.table.items c.in_ok-table.ensures

pub returns-clause-count : goal.returns-clause-count
returns-clause-count c = ap length c.in_ok-table.ensures ∙ length-replicate c.args.n false
