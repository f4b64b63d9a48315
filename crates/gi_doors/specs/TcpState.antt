-- What is known of doors and dials over TCP: their faults, and no links.
use Rattle.std.specs.Prelude.{ℕ, None, false}
use Rattle.gi_doors.specs.declared.tcp_dial.TcpDial.{TcpDial}
use Rattle.gi_doors.specs.declared.tcp_door.TcpDoor.{TcpDoor}
use Rattle.gi_doors.specs.DialState.{DialState}
use Rattle.gi_doors.specs.DoorState.{DoorState}

abbrev pub dial_faults : {R : Type 0} → TcpDial R → ℕ
dial_faults d = d.faults

abbrev pub tcp_dial_state : {R L : Type 0} → TcpDial R → DialState L
tcp_dial_state d = record { faults = d.faults; given = None; hung = None }

abbrev pub door_faults : {R M N : Type 0} → TcpDoor R M N → ℕ
door_faults d = d.faults

-- it is never closed
abbrev pub tcp_door_state : {R L M N : Type 0} → TcpDoor R M N → DoorState L
tcp_door_state d = record { faults = d.faults; ended = false; out = None; hung = None }
