use Rattle.std.proofs.Common.{◌≤◌, ◌++◌, length, take, arith, length-append}
use Rattle.std.proofs.lemmas.List.{length-take-le}
use Rattle.gi_files.proofs.Giving.{gave_on, gave_piece}
use Rattle.gi_files.proofs.feeding.feed_all.Goals as goal

pub pieces-preserved : goal.pieces-preserved
pieces-preserved g c =
    let piece = take c.in-Bytes.n c.read.new.into in
    let going = c.pieces.invariant.going in
    let fits : c.in-Bytes.n ≤ length c.read.new.into = omega (arith, c.in-Bytes.ensures.fits.1) in
    let gave = gave_piece (g.L.Link.state c.pieces.user) (g.L.Link.state c.read.new.self) piece c.in-Bytes.ensures.tape c.in-Bytes.ensures.rest c.in-Bytes.ensures.count c.in-Bytes.ensures.other in
    record {
      most = omega (arith, c.pieces-test.true, c.in-Bytes.ensures.fits.1);
      going = record {
        bytes = going.bytes ++ piece;
        gave = gave_on (g.L.Link.state c.read.new.self) piece going gave;
        read = c.in-Ok.ensures.ok going.bytes going.read;
        count = omega (arith, length-append going.bytes piece, going.count, length-take-le c.in-Bytes.n c.read.new.into fits);
      };
    }

pub returns-in-Err : goal.returns-in-Err
returns-in-Err g c =
    let piece = take c.in-Bytes.n c.read.new.into in
    let going = c.pieces.invariant.going in
    let gave = gave_piece (g.L.Link.state c.pieces.user) (g.L.Link.state c.read.new.self) piece c.in-Bytes.ensures.tape c.in-Bytes.ensures.rest c.in-Bytes.ensures.count c.in-Bytes.ensures.other in
    let fits : c.in-Bytes.n ≤ length c.read.new.into = omega (arith, c.in-Bytes.ensures.fits.1) in
    record {
      bytes = going.bytes ++ piece;
      gave = gave_on (g.L.Link.state c.read.new.self) piece going gave;
      bounded = omega (arith, c.pieces-test.true, c.in-Bytes.ensures.fits.1, length-append going.bytes piece, going.count, length-take-le c.in-Bytes.n c.read.new.into fits);
      is = tt;
    }
