-- What is known of a link in memory.
use Rattle.std.specs.Prelude.{ℕ, List, drop, Some}
use Rattle.gi_outside.specs.World.{World}
use Rattle.gi_outside.specs.Script.{Script}
use Rattle.gi_outside.specs.declared.link.Piece.{Piece}
use Rattle.gi_outside.specs.declared.memory.MemoryLink.{MemoryLink}

-- the pieces so far
abbrev pub memory_tape : MemoryLink → List Piece
memory_tape l = l.tape.items

-- the bytes still to come
abbrev pub memory_rest : MemoryLink → List ℕ
memory_rest l = drop l.at l.input

-- it tells both
abbrev pub memory_state : MemoryLink → World
memory_state l = record {
  tape = Some l.tape.items;
  rest = Some (drop l.at l.input);
  failed_reads = l.failed_reads;
  failed_writes = l.failed_writes;
  ended = l.ended;
}

-- what it was told to do, and how far it has come
abbrev pub memory_script : MemoryLink → Script
memory_script l = record {
  reads = l.reads;
  writes = l.writes;
  cuts = drop l.cut l.cuts.items;
  bad_reads = l.bad_reads.items;
  bad_writes = l.bad_writes.items;
  starved = l.starved;
}
