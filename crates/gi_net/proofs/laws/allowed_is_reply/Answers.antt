use Rattle.gi_net.proofs.Replying.{replied_to}
use Rattle.gi_net.proofs.laws.allowed_is_reply.Goals as goal

pub returns : goal.returns
returns c = replied_to
