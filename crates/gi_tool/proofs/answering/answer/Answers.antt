use Rattle.std.proofs.Common.{Option}
use Rattle.gi_room.specs.Seen.{Seen}
use Rattle.gi_run.specs.Starting.{Starts}
use Rattle.gi_tool.proofs.Opening.{opened}
use Rattle.gi_tool.proofs.answering.answer.Goals as goal

pub returns : goal.returns
returns g c =
    let P : Option Seen → Type 0 = λ o. Starts c.args.words.now o (g.L.Link.state c.args.user.now) (g.L.Link.state c.start.new.user) c.start.result.status c.start.result.refusal in
    opened P c.open.result c.open.ensures.first c.start.ensures
