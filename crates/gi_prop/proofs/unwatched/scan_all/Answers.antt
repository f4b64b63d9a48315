use Rattle.gi_prop.proofs.Moves.{aside_on}
use Rattle.gi_prop.proofs.Visiting.{added_on}
use Rattle.gi_prop.proofs.Passing.{if_none, lists_passed}
use Rattle.gi_prop.proofs.unwatched.scan_all.Goals as goal

pub returns-in-Some-scan-clause-added : goal.returns-in-Some-scan-clause-added
returns-in-Some-scan-clause-added c = added_on _ _ _ _ _ c.scan.ensures.watched.trail.reasons c.scan.ensures.added c.scan-2.ensures.added

pub returns-clause-added : goal.returns-clause-added
returns-clause-added c = added_on _ _ _ _ _ c.scan-2.ensures.watched.trail.reasons (added_on _ _ _ _ _ c.scan.ensures.watched.trail.reasons c.scan.ensures.added c.scan-2.ensures.added) c.scan-3.ensures.added

pub returns-clause-passed : goal.returns-clause-passed
returns-clause-passed c = if_none c.scan-3.result _ _ (λ p. lists_passed c.args.slots.now _ _ _ c.args.store.now _ _ _ c.scan-2.ensures.first_aside c.scan-3.ensures.first_aside c.scan-2.ensures.added.adds c.scan-3.ensures.added.adds c.in_default.ensures.passed c.in_default-scan.ensures.passed p) c.scan-3.ensures.passed

pub returns-clause-first_aside : goal.returns-clause-first_aside
returns-clause-first_aside c = aside_on _ _ _ (aside_on _ _ _ c.scan.ensures.first_aside c.scan-2.ensures.first_aside) c.scan-3.ensures.first_aside

pub returns-clause-second_aside : goal.returns-clause-second_aside
returns-clause-second_aside c = aside_on _ _ _ (aside_on _ _ _ c.scan.ensures.second_aside c.scan-2.ensures.second_aside) c.scan-3.ensures.second_aside
