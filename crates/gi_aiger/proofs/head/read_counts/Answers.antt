use Rattle.std.proofs.Common.{ap, ◌∙◌}
use Rattle.gi_aiger.specs.Header.{head_numbers}
use Rattle.gi_aiger.specs.Fields.{numbers_of}
use Rattle.gi_aiger.proofs.Heading.{counts_are}
use Rattle.gi_aiger.proofs.head.read_counts.Goals as goal

pub returns-in-Some-clause-read : goal.returns-in-Some-clause-read
returns-in-Some-clause-read c = c.judge_numbers.ensures.read ∙ ap (head_numbers c.args.form) c.as_slice.ensures.value ∙ counts_are c.args.form c.in-Some.numbers.items (numbers_of c.args.line.now) (rw c.in-Some.is at c.in_ok-read_numbers.ensures)
