-- What is known of a dial in memory.
use Rattle.std.specs.Prelude.{Option, Some, option_to_list}
use Rattle.gi_outside.specs.declared.memory.MemoryLink.{MemoryLink}
use Rattle.gi_doors.specs.declared.memory_dial.MemoryDial.{MemoryDial}
use Rattle.gi_doors.specs.DialScript.{count_given}
use Rattle.gi_doors.specs.DialState.{DialState}

-- the link that it has still
abbrev pub dial_link : MemoryDial → Option MemoryLink
dial_link d = d.link

-- the link that was hung up
abbrev pub dial_done : MemoryDial → Option MemoryLink
dial_done d = d.done

-- it tells all
abbrev pub dial_state : MemoryDial → DialState MemoryLink
dial_state d = record {
  faults = d.faults;
  given = Some (count_given d.link);
  hung = Some (option_to_list d.done);
}
