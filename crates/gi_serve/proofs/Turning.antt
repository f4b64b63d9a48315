-- One turn.
use Rattle.std.proofs.Common.{◌≡◌, ℕ, ◌+◌, ◌≤◌, Bool, true, [], ◌∷◌, map, Some, None, option_map, refl, ap}
use Rattle.gi_outside.specs.Link.{Rose}
use Rattle.gi_outside.specs.World.{World, Wrote, WroteCut}
use Rattle.gi_doors.specs.Door.{HangsUp, SameDoor}
use Rattle.gi_doors.specs.DoorState.{DoorState}
use Rattle.gi_doors.specs.Fresh.{IsFresh}
use Rattle.gi_net.specs.declared.how.How.{How}
use Rattle.gi_serve.specs.ClosedLines.{closed_line}
use Rattle.gi_serve.specs.Connection.{Connection, WasServed}
use Rattle.gi_serve.specs.Puts.{Puts}
use Rattle.gi_serve.specs.ShelfState.{ShelfState}
use Rattle.gi_serve.specs.Turns.{HasTurned, IsOut, ServesOne}
use Rattle.gi_serve.specs.declared.serve_end.ServeEnd.TheVariants as end
use Rattle.gi_serve.proofs.Accounting.{accounts_one, accounts_same, accounts_unserved, hung_ended}

-- the pass was put on the shelf, and the link hung up
pub serves_one : {L : Type 0} (world : L → World) (quiet : Bool) (c : Connection L) (before mid new : DoorState L) (old after : ShelfState) → IsOut before mid → mid.faults ≤ new.faults
    → HangsUp c.link mid new → old.lost ≤ after.lost → Puts c.pass old after → WasServed world quiet c → ServesOne world quiet c.how before new old after
serves_one world quiet c before mid new old after is faults hangs lost puts was = record {
  connection = c;
  how_is = refl;
  accounts = accounts_one world quiet c before mid new old after is faults hangs lost puts was;
  closed = hung_ended before mid new c.link is hangs;
}

module _ {L : Type 0} (world : L → World) (quiet : Bool) (number : ℕ) (by : How) (before new : DoorState L) (user written : World) (shelf after : ShelfState) (one : ServesOne world quiet by before new shelf after) where
  ended_so : map (λ c. c.how) (one.connection ∷ []) ≡ by ∷ []
  ended_so = ap (λ (b : How). b ∷ []) one.how_is

  -- its line was printed
  pub goes_on : Wrote user written (closed_line number by) → HasTurned world quiet number None before new user written shelf after
  goes_on wrote = record {
    served = one.connection ∷ [];
    unserved = [];
    accounts = one.accounts;
    closed = one.closed;
    tells = (refl, (by, ended_so, wrote));
  }

  -- or it was cut
  pub ends_cut : WroteCut user written (closed_line number by) → HasTurned world quiet number (Some end.WriteFault) before new user written shelf after
  ends_cut cut = record {
    served = one.connection ∷ [];
    unserved = [];
    accounts = one.accounts;
    closed = one.closed;
    tells = (refl, (by, ended_so, cut));
  }

-- no room could be opened
pub ends_unserved : {L : Type 0} (world : L → World) (quiet : Bool) (number : ℕ) (link : L) (before mid new : DoorState L) (user : World) (shelf : ShelfState) → IsOut before mid → mid.faults ≤ new.faults
    → HangsUp link mid new → IsFresh (world link) → HasTurned world quiet number (Some end.NoMemory) before new user user shelf shelf
ends_unserved world quiet number link before mid new user shelf is faults hangs fresh = record {
  served = [];
  unserved = link ∷ [];
  accounts = accounts_unserved world quiet link before mid new shelf is faults hangs fresh;
  closed = hung_ended before mid new link is hangs;
  tells = (refl, refl, refl);
}

-- the door is closed
pub ends_closed : {L : Type 0} (world : L → World) (quiet : Bool) (number : ℕ) (old new : DoorState L) (user : World) (shelf : ShelfState) → old.faults ≤ new.faults
    → new ≡ record old { faults = new.faults; ended = true } → HasTurned world quiet number (Some end.Closed) old new user user shelf shelf
ends_closed {L = L} world quiet number old new user shelf faults is = record {
  served = [];
  unserved = [];
  accounts = accounts_same world quiet old new shelf faults (ap (λ (d : DoorState L). d.out) is) (ap (λ (d : DoorState L). d.hung) is);
  closed = ap (λ (d : DoorState L). d.ended) is;
  tells = (refl, refl, refl);
}

-- the door failed
pub ends_failed : {L : Type 0} (world : L → World) (quiet : Bool) (number : ℕ) (old new : DoorState L) (user : World) (shelf : ShelfState) → old.faults ≤ new.faults
    → SameDoor old new → Rose old.faults new.faults → HasTurned world quiet number (Some end.DoorFault) old new user user shelf shelf
ends_failed {L = L} world quiet number old new user shelf faults is rose = record {
  served = [];
  unserved = [];
  accounts = accounts_same world quiet old new shelf faults (ap (λ (d : DoorState L). d.out) is) (ap (λ (d : DoorState L). d.hung) is);
  closed = ap (λ (d : DoorState L). d.ended) is;
  tells = (refl, refl, refl, rose);
}

-- a link came in
pub is_out : {L : Type 0} (old new : DoorState L) → old.faults ≤ new.faults → new ≡ record old { faults = new.faults; out = option_map (λ links. links + 1) old.out } → IsOut old new
is_out old new faults is = record { faults = faults; out = is }
