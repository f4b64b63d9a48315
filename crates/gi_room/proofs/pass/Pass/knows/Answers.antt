use Rattle.std.proofs.Common.{subst}
use Rattle.std.specs.Prelude.{Contains}
use Rattle.gi_model.specs.State.{opening}
use Rattle.gi_model.specs.History.{IsLegal}
use Rattle.gi_turn.specs.Seats.{view_of}
use Rattle.gi_room.specs.Seen.{Seen}
use Rattle.gi_room.specs.Calls.{HasCauses, KnowsPhases, SolvesAreShort}
use Rattle.gi_room.specs.Histories.{history_in}
use Rattle.gi_room.proofs.Turns.{turns_legal}
use Rattle.gi_room.proofs.Turning.{glances_named}
use Rattle.gi_room.proofs.Marking.{causes, short}
use Rattle.gi_room.proofs.pass.Pass.knows.Goals as goal

pub returns-clause-own : goal.returns-clause-own
returns-clause-own c = subst (λ (p : Seen). Contains p.held p.number) c.self.view_is c.self.invariant.own

pub returns-clause-legal : goal.returns-clause-legal
returns-clause-legal c = subst (λ (p : Seen). IsLegal p.history) c.self.view_is record { each = turns_legal (view_of c.self.inside.seat).seen opening c.self.invariant.turns }

pub returns-clause-phases : goal.returns-clause-phases
returns-clause-phases c = subst KnowsPhases c.self.view_is (glances_named (view_of c.self.inside.seat) c.self.invariant.opened c.self.invariant.turns c.self.invariant.phases)

pub returns-clause-causes : goal.returns-clause-causes
returns-clause-causes c = subst HasCauses c.self.view_is (causes _ (view_of c.self.inside.seat) c.self.invariant.turns c.self.invariant.marks)

pub returns-clause-short : goal.returns-clause-short
returns-clause-short c = subst (λ (p : Seen). SolvesAreShort p.history) c.self.view_is
    (short (history_in (view_of c.self.inside.seat).seen) c.solves_are_short.ensures record { each = turns_legal (view_of c.self.inside.seat).seen opening c.self.invariant.turns })
