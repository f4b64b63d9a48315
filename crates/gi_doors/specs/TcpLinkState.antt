-- What is known of a link over TCP: its faults, and no bytes.
use Rattle.std.specs.Prelude.{None}
use Rattle.gi_outside.specs.World.{World}
use Rattle.gi_doors.specs.declared.tcp_link.TcpLink.{TcpLink}

abbrev pub link_state : {S : Type 0} → TcpLink S → World
link_state l = record {
  tape = None;
  rest = None;
  failed_reads = l.failed_reads;
  failed_writes = l.failed_writes;
  ended = l.ended;
}
