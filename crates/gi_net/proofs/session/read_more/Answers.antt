use Rattle.std.proofs.Common.{◌≤◌, length, take, sym, ◌∙◌, refl, arith, inr}
use Rattle.std.proofs.lemmas.List.{length-take-le}
use Rattle.gi_net.proofs.Ending.{ends_read_fault, no_memory}
use Rattle.gi_net.proofs.Moving.{has_read, has_read_added, with_piece, with_piece_ahead}
use Rattle.gi_net.proofs.session.read_more.Goals as goal

pub returns-in-Failed-clause-session : goal.returns-in-Failed-clause-session
returns-in-Failed-clause-session g c = λ start first here before now going.
    ends_read_fault (g.L.Link.state c.read.new.self) going c.requires.whole c.requires.open c.in-Failed.ensures.tape c.in-Failed.ensures.rest c.in-Failed.ensures.count c.in-Failed.ensures.other c.in-Failed.ensures.ended (c.in-Failed.ensures.cause refl)

pub returns-in-Ok-clause-session : goal.returns-in-Ok-clause-session
returns-in-Ok-clause-session g c = λ start first here before now going.
    let fits : c.in-Bytes.n ≤ length c.read.new.into = omega (arith, c.in-Bytes.ensures.fits.1) in
    let few : length (take c.in-Bytes.n c.read.new.into) ≤ 4096 = omega (arith, length-take-le c.in-Bytes.n c.read.new.into fits, c.in-Bytes.ensures.fits.1) in
    rw (length-take-le c.in-Bytes.n c.read.new.into fits) at
    (has_read (g.L.Link.state c.read.new.self) c.feed.new.self (take c.in-Bytes.n c.read.new.into) going c.requires.whole c.requires.open c.in-Bytes.ensures.tape c.in-Bytes.ensures.rest c.in-Bytes.ensures.count c.in-Bytes.ensures.other c.in-Ok.ensures.ok few)

pub returns-in-Err-clause-session : goal.returns-in-Err-clause-session
returns-in-Err-clause-session g c = λ start first here before now going.
    let piece = take c.in-Bytes.n c.read.new.into in
    let fits : c.in-Bytes.n ≤ length c.read.new.into = omega (arith, c.in-Bytes.ensures.fits.1) in
    let few : length piece ≤ 4096 = omega (arith, length-take-le c.in-Bytes.n c.read.new.into fits, c.in-Bytes.ensures.fits.1) in
    let w = g.L.Link.state c.read.new.self in
    let r = with_piece c.args.reader.now piece in
    let fed = with_piece_ahead c.args.reader.now piece in
    let read = has_read w r piece going c.requires.whole c.requires.open c.in-Bytes.ensures.tape c.in-Bytes.ensures.rest c.in-Bytes.ensures.count c.in-Bytes.ensures.other fed few in
    let added = has_read_added w r piece going c.requires.whole c.requires.open c.in-Bytes.ensures.tape c.in-Bytes.ensures.rest c.in-Bytes.ensures.count c.in-Bytes.ensures.other fed few in
    no_memory (g.L.Link.state c.tell_no_memory.new.link) c.tell_no_memory.result read.so_far read.quiet (c.in-Bytes.ensures.ended ∙ sym c.requires.open) (λ x. absurd x)
    (inr (inr (record { before = going.so_far.added; bytes = piece; split = added }))) c.tell_no_memory.ensures
