use Rattle.std.proofs.Common.{◌≡◌, ◌+◌, length, ap, ◌∙◌, refl}
use Rattle.gi_call.specs.declared.asking.Asking.{Asking}
use Rattle.gi_call.proofs.Stopping.{answered, unkept_stops}
use Rattle.gi_call.proofs.server.accept.Goals as goal

pub returns-in-Ok-clause-answered : goal.returns-in-Ok-clause-answered
returns-in-Ok-clause-answered c = λ start now es x.
    let e : c.args.number ≡ length es + 1 = c.requires.number ∙ ap (λ n. n + 1) x.sent in
    let after : Asking = record { alloc = c.args.asking.now.alloc; lines = c.pass.new.self; taken = c.args.asking.now.taken; sent = c.args.number; kept = c.keep.new.kept } in
    (answered c.args.number c.args.n c.args.call c.args.reply c.args.asking.now.kept start now es c.args.asking.now.lines c.args.asking.now.taken after e x.kept x.spoken x.models c.requires.can c.requires.text c.in-Ok.ensures.0 c.pass.ensures refl refl c.in-Ok.ensures.1, c.requires.can)

pub returns-in-Err-clause-answered : goal.returns-in-Err-clause-answered
returns-in-Err-clause-answered c = λ start now es x.
    unkept_stops c.in-Err.end c.args.number c.args.n c.args.call c.args.reply c.args.asking.now.kept start now es c.args.asking.now.lines c.args.asking.now.taken (c.requires.number ∙ ap (λ n. n + 1) x.sent) x.kept x.spoken c.requires.line c.requires.can c.requires.text c.in-Err.ensures
