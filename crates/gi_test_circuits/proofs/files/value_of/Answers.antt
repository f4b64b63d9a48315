use Rattle.std.proofs.Common.{[], ◌++◌}
use Rattle.gi_test_circuits.proofs.files.value_of.Goals as goal

pub returns-in-Aig : goal.returns-in-Aig
returns-in-Aig c =
    let read = c.in_ok-feed.ensures.ok [] c.new-reader.ensures.nothing in
    c.good_is_importable.ensures c.in-Aig.aig (c.said_is_good.ensures c.in-Aig.aig c.args.file.now (c.in-Aig.ensures.said c.args.file.now read))
