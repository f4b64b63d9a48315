use Rattle.std.proofs.Common.{subst}
use Rattle.gi_store.specs.Whole.{IsWhole}
use Rattle.gi_store.proofs.Edits.{not_active}
use Rattle.gi_store.proofs.store.Store.is_active.Goals as goal

pub returns-in_default : goal.returns-in_default
returns-in_default c = (λ e. absurd (cc e), λ m. absurd (not_active c.args.self.now (subst IsWhole c.self.view_is c.self.invariant.kept.whole) c.args.v _ c.kind.ensures c.in_default.not-Active m))
