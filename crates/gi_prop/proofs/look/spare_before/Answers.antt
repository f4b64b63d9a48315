use Rattle.std.proofs.Common.{◌/◌, ◌≤◌, sym, subst}
use Rattle.std.proofs.lemmas.List.Elements.{All-take}
use Rattle.gi_store.specs.StoreView.{IsWithin}
use Rattle.gi_prop.proofs.Seeking.{spare_before}
use Rattle.gi_prop.proofs.look.spare_before.Goals as goal

pub spare_in-requires : goal.spare_in-requires
spare_in-requires c = subst (IsWithin c.args.trail.now.vars) (sym c.up_to.ensures) (All-take (λ l. (1 ≤ l / 2) × (l / 2 ≤ c.args.trail.now.vars)) c.args.place c.args.clause.now c.requires.within)

pub returns : goal.returns
returns c = spare_before c.args.trail.now.lits c.args.clause.now c.up_to.result.now c.args.place c.args.other c.up_to.ensures c.spare_in.result c.spare_in.ensures
