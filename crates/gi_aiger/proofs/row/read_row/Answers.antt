use Rattle.std.proofs.Common.{ap, ◌∙◌}
use Rattle.gi_aiger.specs.Rows.{row_numbers}
use Rattle.gi_aiger.specs.Fields.{numbers_of, with_own}
use Rattle.gi_aiger.proofs.Rowing.{row_is}
use Rattle.gi_aiger.proofs.row.read_row.Goals as goal

pub returns-in_ok-numbers-in-Some : goal.returns-in_ok-numbers-in-Some
returns-in_ok-numbers-in-Some c =
    c.row_numbers.ensures ∙ ap (row_numbers c.args.max c.args.room c.args.section) c.as_slice.ensures.value
    ∙ row_is c.args.max c.args.room c.args.section c.in_ok-numbers-in-Some.numbers.items (with_own c.args.own (numbers_of c.args.line.now)) c.requires.max c.requires.room (c.in_ok-numbers-in-Some.ensures (numbers_of c.args.line.now) (rw c.in-Some.is at c.in_ok-read_numbers.ensures))
