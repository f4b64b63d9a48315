use Rattle.std.proofs.Common.{refl}
use Rattle.gi_prop.specs.Watching.AreHome.{two, rests}
use Rattle.gi_prop.proofs.Watches.{one_left, none_left}
use Rattle.gi_prop.proofs.look.initial_watches.Goals as goal

pub returns-in-Two : goal.returns-in-Two
returns-in-Two c = two c.in-Two.a c.in-Two.b c.list_of.ensures.value c.list_of-in-Two.ensures.value c.in-Two.ensures.0 c.in-Two.ensures.1 c.in-Two.ensures.2

pub returns-in-One : goal.returns-in-One
returns-in-One c = rests refl c.unwatched_list-list.ensures (one_left c.args.trail.now.lits c.args.clause.now c.in-One.field-0 c.in-One.ensures.2)

pub returns-in-Nothing : goal.returns-in-Nothing
returns-in-Nothing c = rests refl c.unwatched_list-list.ensures (none_left c.args.trail.now.lits c.args.clause.now c.in-Nothing.ensures)
