-- What is known of a door in memory.
use Rattle.std.specs.Prelude.{List, Some}
use Rattle.std.specs.Vec.Iter.{into_iter_items}
use Rattle.gi_outside.specs.declared.memory.MemoryLink.{MemoryLink}
use Rattle.gi_doors.specs.declared.memory_door.MemoryDoor.{MemoryDoor}
use Rattle.gi_doors.specs.DoorScript.{DoorScript}
use Rattle.gi_doors.specs.DoorState.{DoorState}

-- the links that were hung up
abbrev pub door_done : MemoryDoor → List MemoryLink
door_done d = d.done.items

-- it tells all
abbrev pub door_state : MemoryDoor → DoorState MemoryLink
door_state d = record {
  faults = d.faults;
  ended = d.ended;
  out = Some d.out;
  hung = Some d.done.items;
}

-- what it was told to do, and how far it has come
abbrev pub door_script : MemoryDoor → DoorScript
door_script d = record {
  accepts = d.accepts;
  links = into_iter_items d.links;
  bad_accepts = d.bad_accepts.items;
}
