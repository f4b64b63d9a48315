use Rattle.gi_files.proofs.reading.read_file.Goals as goal

pub returns-in-All : goal.returns-in-All
returns-in-All g c =
    let fed = c.in-All.ensures in
    record { bytes = fed.bytes; gave = fed.gave; bounded = fed.bounded; is = c.input_of.ensures (g.L.Link.state c.args.user.now) (g.L.Link.state c.feed_all.new.user) fed.bytes fed.is.0 (c.finish.ensures.read fed.bytes fed.is.1) }
