use Rattle.std.proofs.Common.{◌+◌, ◌<◌, ◌≤◌, length, length-append, take, sym, ◌∙◌, refl, ap, ◌++◌, true, arith}
use Rattle.std.proofs.lemmas.List.{length-take-le}
use Rattle.gi_text.specs.Lines.{Kept as Held}
use Rattle.gi_outside.proofs.Writing.{rose_since}
use Rattle.gi_call.proofs.Speaking.{spoke_none, spoke_read}
use Rattle.gi_call.proofs.server.read_piece.Goals as goal

pub returns-in-Failed-clause-spoken : goal.returns-in-Failed-clause-spoken
returns-in-Failed-clause-spoken g c = λ number start es sent x.
    let v = g.L.Link.state c.args.server.now in
    let w = g.L.Link.state c.read.new.self in (
      record {
        lines = c.args.lines.now;
        taken = c.args.taken.now;
        spoken = spoke_none w c.args.lines.now x c.requires.open c.in-Failed.ensures.tape c.in-Failed.ensures.rest c.in-Failed.ensures.count c.in-Failed.ensures.other refl (λ e. absurd (let no = sym c.requires.open ∙ e in cc));
      },
      rose_since start.failed_reads v.failed_reads w.failed_reads x.reads (c.in-Failed.ensures.cause refl),
    )

pub returns-in-End-clause-spoken : goal.returns-in-End-clause-spoken
returns-in-End-clause-spoken g c = λ number start es sent x.
    rw c.end.ensures (spoke_none (g.L.Link.state c.read.new.self) (record c.args.lines.now { ended = true }) x c.requires.open c.in-End.ensures.tape c.in-End.ensures.rest c.in-End.ensures.count c.in-End.ensures.other refl (λ e. c.in-End.ensures.ended))

pub returns-in-Ok-clause-spoken : goal.returns-in-Ok-clause-spoken
returns-in-Ok-clause-spoken g c = λ number start es sent x.
    let piece = take c.in-Bytes.n c.read.new.into in
    let fits : c.in-Bytes.n ≤ length c.read.new.into = omega (arith, c.in-Bytes.ensures.fits.1) in
    let few : length piece ≤ 4096 = omega (arith, length-take-le c.in-Bytes.n c.read.new.into fits, c.in-Bytes.ensures.fits.1) in
    rw (length-take-le c.in-Bytes.n c.read.new.into fits) at
    (spoke_read (g.L.Link.state c.read.new.self) c.feed.new.self piece x c.requires.open c.in-Bytes.ensures.tape c.in-Bytes.ensures.rest c.in-Bytes.ensures.count c.in-Bytes.ensures.other few (ap (λ (h : Held). h.left) c.in-Ok.ensures.ok) (ap (λ (h : Held). h.ended) c.in-Ok.ensures.ok))

pub returns-in-Err-clause-spoken : goal.returns-in-Err-clause-spoken
returns-in-Err-clause-spoken g c = λ number start es sent x.
    let piece = take c.in-Bytes.n c.read.new.into in
    let fits : c.in-Bytes.n ≤ length c.read.new.into = omega (arith, c.in-Bytes.ensures.fits.1) in
    let few : length piece ≤ 4096 = omega (arith, length-take-le c.in-Bytes.n c.read.new.into fits, c.in-Bytes.ensures.fits.1) in
    let some : 0 < length (c.args.lines.now.left ++ piece) = omega (arith, length-append c.args.lines.now.left piece, length-take-le c.in-Bytes.n c.read.new.into fits, c.in-Bytes.ensures.fits.0) in (
      record {
        lines = record c.args.lines.now { left = c.args.lines.now.left ++ piece };
        taken = c.args.taken.now + length piece;
        spoken = spoke_read (g.L.Link.state c.read.new.self) (record c.args.lines.now { left = c.args.lines.now.left ++ piece }) piece x c.requires.open c.in-Bytes.ensures.tape c.in-Bytes.ensures.rest c.in-Bytes.ensures.count c.in-Bytes.ensures.other few refl refl;
      },
      some,
    )

pub returns-then-taken-ge-MOST_BYTES-clause-spoken : goal.returns-then-taken-ge-MOST_BYTES-clause-spoken
returns-then-taken-ge-MOST_BYTES-clause-spoken g c = λ number start es sent x. (record { lines = c.args.lines.now; taken = c.args.taken.now; spoken = x }, omega arith)
