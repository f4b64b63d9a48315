use Rattle.std.proofs.Common.{ap, sym, ◌∙◌}
use Rattle.gi_aiger.specs.Header.{form_of, head_fields, header_of}
use Rattle.gi_aiger.proofs.Heading.{no_numbers}
use Rattle.gi_aiger.proofs.head.read_header.Goals as goal

pub returns-in-None-clause-read : goal.returns-in-None-clause-read
unfolding header_of
returns-in-None-clause-read c = sym (ap head_fields c.in-None.ensures.fields ∙ no_numbers (form_of c.args.line.now))
