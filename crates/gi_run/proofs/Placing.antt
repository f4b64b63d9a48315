-- Whatever was done, the pass is one of the same room.
use Rattle.std.proofs.Common.{◌≡◌, ℕ, Option, Some, None, ap}
use Rattle.gi_outside.specs.World.{World}
use Rattle.gi_command.specs.declared.command.Command.{Command}
use Rattle.gi_command.specs.declared.command.Command.TheVariants.{Run, Check, Convert, Solve, Drill}
use Rattle.gi_dimacs.specs.declared.fault.CnfFault.{CnfFault}
use Rattle.gi_room.specs.Seen.{Seen}
use Rattle.gi_run.specs.Performing.{Performs}

pub performed : (command : Option Command) (old new : World) (before after : Seen) (status : ℕ) (refusal : Option CnfFault)
    → Performs command old new before after status refusal → after.place ≡ before.place
performed None old new before after status refusal h = ap (λ (p : Seen). p.place) h.2
performed (Some (Run quiet)) old new before after status refusal h = h.0.has.hosts.after_place
performed (Some (Check form)) old new before after status refusal h = ap (λ (p : Seen). p.place) h.1
performed (Some (Convert form)) old new before after status refusal h = ap (λ (p : Seen). p.place) h.1
performed (Some (Solve form budget)) old new before after status refusal h = h.has.holds.place
performed (Some (Drill rounds)) old new before after status refusal h = h.0.has.place
