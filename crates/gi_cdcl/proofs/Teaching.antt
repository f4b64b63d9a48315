-- The laws on what is learnt.
use Rattle.std.proofs.Common.{◌≡◌, ◌++◌}
use Rattle.gi_lit.specs.Problem.{full}
use Rattle.gi_store.specs.StoreView.{StoreView, problem_of, known_of}
use Rattle.gi_store.proofs.Editing.{entries_are}
use Rattle.gi_cdcl.specs.Sound.{stored}
use Rattle.gi_cdcl.specs.Laws.{LearntClausesAreFresh}
use Rattle.gi_cdcl.proofs.Uip.{holds_stored}
use Rattle.gi_cdcl.proofs.Fresh.{uip_fresh}

-- what is stored is the full clauses of the problem and the learnt ones, in order
pub stored_is : (h : StoreView) → stored h ≡ full (problem_of h) ++ known_of h
stored_is h = entries_are h

pub learnt_fresh : LearntClausesAreFresh
learnt_fresh h t key conflict start clause known used tr closed holds f u = uip_fresh h (stored_is h) known t tr conflict start clause closed used (holds_stored h key conflict holds) f u
