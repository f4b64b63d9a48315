-- What is known of a link over standard input and output: it tells no bytes.
use Rattle.std.specs.Prelude.{None}
use Rattle.gi_outside.specs.World.{World}
use Rattle.gi_outside.specs.declared.standard.StdLink.{StdLink}

abbrev pub standard_state : StdLink → World
standard_state l = record {
  tape = None;
  rest = None;
  failed_reads = l.failed_reads;
  failed_writes = l.failed_writes;
  ended = l.ended;
}
