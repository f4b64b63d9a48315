use Rattle.std.proofs.Common.{[], ◌++◌}
use Rattle.gi_test_circuits.proofs.writing.value_of.Goals as goal

pub returns-in-Aig : goal.returns-in-Aig
returns-in-Aig c =
    let read = c.in_ok-feed.ensures.ok [] c.new-reader.ensures.nothing in
    c.good_is_writable.ensures c.in-Aig.aig (c.said_is_good.ensures c.in-Aig.aig c.args.text.now (c.in-Aig.ensures.said c.args.text.now read))
