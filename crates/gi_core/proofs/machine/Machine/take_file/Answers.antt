use Rattle.std.proofs.Common.{sym, arith}
use Rattle.gi_core.proofs.Filing.{lits_counted, take_lit, take_limit, take_dead, take_done}
use Rattle.gi_core.proofs.machine.Machine.take_file.Goals as goal

pub lacks_room-requires : goal.lacks_room-requires
lacks_room-requires c = rw c.as_slice-clauses.ensures (omega (arith, lits_counted c.args.file.now.clauses, c.requires.good.literals))

pub load-requires-clause-whole : goal.load-requires-clause-whole
load-requires-clause-whole c = c.requires.whole.kept.clauses

pub returns-then-some_clause_unusable : goal.returns-then-some_clause_unusable
returns-then-some_clause_unusable c = take_lit c.args.self.now c.args.file.now c.requires.whole.kept c.requires.good (sym (rw c.as_slice-clauses.ensures at c.if-some_clause_unusable.ensures))

pub returns-then-lacks_room : goal.returns-then-lacks_room
returns-then-lacks_room c = take_limit c.args.self.now c.args.file.now c.requires.whole.kept c.requires.good (sym (rw c.as_slice-clauses.ensures at c.if-some_clause_unusable.ensures)) (sym (rw c.as_slice-clauses.ensures at c.if-lacks_room.ensures))

pub returns-in-Ok : goal.returns-in-Ok
returns-in-Ok c = rw c.as_slice-clauses.ensures (take_done c.more_clauses_keep_reasons.ensures c.args.self.now c.load.new.self c.edited.new.self c.forget.new.self c.args.file.now c.requires.whole.kept c.requires.good (sym (rw c.as_slice-clauses.ensures at c.if-some_clause_unusable.ensures)) (sym (rw c.as_slice-clauses.ensures at c.if-lacks_room.ensures)) (rw c.as_slice-clauses.ensures at c.in-Ok.ensures) c.edited.ensures c.forget.ensures)

pub returns-in-Err : goal.returns-in-Err
returns-in-Err c = take_dead c.args.self.now c.die.new.self c.args.file.now c.die.result c.requires.whole.kept c.requires.good (sym (rw c.as_slice-clauses.ensures at c.if-some_clause_unusable.ensures)) (sym (rw c.as_slice-clauses.ensures at c.if-lacks_room.ensures)) c.die.ensures.value c.die.ensures.state c.die.ensures.blank
