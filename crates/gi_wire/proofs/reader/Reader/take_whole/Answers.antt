use Rattle.std.proofs.Common.{Some, None, refl, subst, sym, take}
use Rattle.gi_text.specs.Given.{IsLine}
use Rattle.gi_wire.specs.declared.reader.RequestKind.TheVariants as asked
use Rattle.gi_wire.specs.Gives.{GivesLoad}
use Rattle.gi_wire.specs.Grammar.{Makes}
use Rattle.gi_wire.specs.Items.{Joined}
use Rattle.gi_wire.specs.Source.{Source}
use Rattle.gi_wire.proofs.Front.{front, front_ends, front_gives, front_joins, front_loads, front_wants}
use Rattle.gi_wire.proofs.Reading.{long_lines}
use Rattle.gi_wire.proofs.Sources.{source_of}
use Rattle.gi_wire.proofs.reader.Reader.take_whole.Goals as goal

pub take_front-requires-clause-line : goal.take_front-requires-clause-line
take_front-requires-clause-line c = subst (λ (r : Source). IsLine c.args.n r.lines) (sym c.self.view_is) c.requires.line

pub returns-in-GoesOn : goal.returns-in-GoesOn
returns-in-GoesOn c =
    front_joins (front c.self.inside.lines c.self.inside.line c.self.inside.begun c.self.inside.load c.args.self.now c.take_front.new.lines c.args.n c.self.view_is c.requires.load c.take_front.ensures.line c.requires.short) c.take_front.new.begun c.in-GoesOn.ensures.takes

pub returns-in-Long : goal.returns-in-Long
returns-in-Long c =
    rw (c.number.ensures.item, c.first-first.ensures) (front_gives (front c.self.inside.lines c.self.inside.line c.self.inside.begun c.self.inside.load c.args.self.now c.take_front.new.lines c.args.n c.self.view_is c.requires.load c.take_front.ensures.line c.requires.short) c.number.new.self asked.Long
    (λ next. long_lines c.self.inside.line c.self.inside.begun (take c.args.n c.self.inside.lines.left) next c.in-Long.ensures.takes) tt c.number.ensures.next)

pub returns-in-Call : goal.returns-in-Call
returns-in-Call c =
    rw (c.number-in-Call.ensures.item, c.first-first.ensures) (front_ends (front c.self.inside.lines c.self.inside.line c.self.inside.begun c.self.inside.load c.args.self.now c.take_front.new.lines c.args.n c.self.view_is c.requires.load c.take_front.ensures.line c.requires.short) c.number-in-Call.new.self (asked.Call c.in-Call.call) (Some (Makes c.in-Call.call))
    c.in-Call.ensures.takes.0 (λ next. refl) c.in-Call.ensures.takes.1 c.number-in-Call.ensures.next)

pub returns-in-Load : goal.returns-in-Load
returns-in-Load c =
    front_loads (front c.self.inside.lines c.self.inside.line c.self.inside.begun c.self.inside.load c.args.self.now c.take_front.new.lines c.args.n c.self.view_is c.requires.load c.take_front.ensures.line c.requires.short) c.in-Load.load c.next_load.result c.next_load.new.self c.in-Load.ensures.takes.0
    (subst (λ (j : Joined). GivesLoad c.next_load.result (source_of c.take_front.new.lines c.self.inside.line j (Some c.in-Load.load)) c.next_load.new.self) c.new.ensures c.next_load.ensures)

pub returns-in-Syntax : goal.returns-in-Syntax
returns-in-Syntax c =
    rw (c.number-in-Syntax.ensures.item, c.first-first.ensures) (front_ends (front c.self.inside.lines c.self.inside.line c.self.inside.begun c.self.inside.load c.args.self.now c.take_front.new.lines c.args.n c.self.view_is c.requires.load c.take_front.ensures.line c.requires.short) c.number-in-Syntax.new.self asked.Syntax None
    c.in-Syntax.ensures.takes (λ next. refl) tt c.number-in-Syntax.ensures.next)

pub returns-in-NoMemory : goal.returns-in-NoMemory
returns-in-NoMemory c =
    front_wants (front c.self.inside.lines c.self.inside.line c.self.inside.begun c.self.inside.load c.args.self.now c.take_front.new.lines c.args.n c.self.view_is c.requires.load c.take_front.ensures.line c.requires.short) c.take_front.new.begun c.in-NoMemory.ensures.takes
