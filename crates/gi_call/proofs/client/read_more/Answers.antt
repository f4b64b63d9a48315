use Rattle.std.proofs.Common.{◌+◌, ◌<◌, ◌≤◌, length, take, refl, arith}
use Rattle.std.proofs.lemmas.List.{length-take-le}
use Rattle.gi_outside.proofs.Writing.{rose_since}
use Rattle.gi_net.proofs.Moving.{with_piece, with_piece_ahead}
use Rattle.gi_call.proofs.Typing.{typed_ended, typed_read}
use Rattle.gi_call.proofs.client.read_more.Goals as goal

pub returns-in-Failed-clause-typed : goal.returns-in-Failed-clause-typed
returns-in-Failed-clause-typed g c = λ start done printed x.
    let v = g.M.Link.state c.args.user.now in
    let w = g.M.Link.state c.read.new.self in (
      (
        record {
          source = c.args.reader.now;
          taken = c.args.taken.now;
          typed = typed_ended w c.args.reader.now x c.requires.open c.in-Failed.ensures.tape c.in-Failed.ensures.rest c.in-Failed.ensures.count c.in-Failed.ensures.other (λ e more. refl);
          not_ended = c.in-Failed.ensures.ended;
          open_is = c.requires.open;
        },
        c.requires.whole,
      ),
      rose_since start.failed_reads v.failed_reads w.failed_reads x.reads (c.in-Failed.ensures.cause refl),
    )

pub returns-in-End-clause-typed : goal.returns-in-End-clause-typed
returns-in-End-clause-typed g c = λ start done printed x.
    typed_ended (g.M.Link.state c.read.new.self) c.end.new.self x c.requires.open c.in-End.ensures.tape c.in-End.ensures.rest c.in-End.ensures.count c.in-End.ensures.other c.end.ensures.same

pub returns-in-Ok-clause-typed : goal.returns-in-Ok-clause-typed
returns-in-Ok-clause-typed g c = λ start done printed x.
    let fits : c.in-Bytes.n ≤ length c.read.new.into = omega (arith, c.in-Bytes.ensures.fits.1) in
    let few : length (take c.in-Bytes.n c.read.new.into) ≤ 4096 = omega (arith, length-take-le c.in-Bytes.n c.read.new.into fits, c.in-Bytes.ensures.fits.1) in
    rw (length-take-le c.in-Bytes.n c.read.new.into fits) at
    (typed_read (g.M.Link.state c.read.new.self) c.feed.new.self (take c.in-Bytes.n c.read.new.into) x c.requires.open c.in-Bytes.ensures.tape c.in-Bytes.ensures.rest c.in-Bytes.ensures.count c.in-Bytes.ensures.other c.in-Ok.ensures.ok few)

pub returns-in-Err-clause-typed : goal.returns-in-Err-clause-typed
returns-in-Err-clause-typed g c = λ start done printed x.
    let piece = take c.in-Bytes.n c.read.new.into in
    let fits : c.in-Bytes.n ≤ length c.read.new.into = omega (arith, c.in-Bytes.ensures.fits.1) in
    let few : length piece ≤ 4096 = omega (arith, length-take-le c.in-Bytes.n c.read.new.into fits, c.in-Bytes.ensures.fits.1) in
    let some : 0 < c.args.taken.now + length piece = omega (arith, length-take-le c.in-Bytes.n c.read.new.into fits, c.in-Bytes.ensures.fits.0) in (
      record {
        source = with_piece c.args.reader.now piece;
        taken = c.args.taken.now + length piece;
        typed = typed_read (g.M.Link.state c.read.new.self) (with_piece c.args.reader.now piece) piece x c.requires.open c.in-Bytes.ensures.tape c.in-Bytes.ensures.rest c.in-Bytes.ensures.count c.in-Bytes.ensures.other (with_piece_ahead c.args.reader.now piece) few;
        not_ended = c.in-Bytes.ensures.ended;
        open_is = c.requires.open;
      },
      some,
    )
