-- Accounts, one behind the other.
use Rattle.std.proofs.Common.{◌≡◌, ℕ, ◌+◌, ◌-◌, ◌≤◌, Bool, inl, inr, List, [], ◌∷◌, ◌++◌, map, Option, Some, None, option_map, refl, sym, ap, subst, ◌∙◌, append_assoc, arith}
use Rattle.std.proofs.lemmas.List.{append-nil, map-append}
use Rattle.std.proofs.lemmas.List.Elements.{All-append, All-cons, All-nil}
use Rattle.gi_outside.specs.Link.{Rose}
use Rattle.gi_outside.specs.Told.{Adds}
use Rattle.gi_outside.specs.World.{World}
use Rattle.gi_outside.proofs.Writing.{adds_more, adds_none, rose_since}
use Rattle.gi_doors.specs.Door.{HangsUp}
use Rattle.gi_doors.specs.DoorState.{DoorState}
use Rattle.gi_doors.specs.Fresh.{IsFresh}
use Rattle.gi_room.specs.Seen.{Seen}
use Rattle.gi_serve.specs.Accounts.{Accounts}
use Rattle.gi_serve.specs.Connection.{Connection, WasServed}
use Rattle.gi_serve.specs.Puts.{Puts}
use Rattle.gi_serve.specs.ShelfState.{ShelfState}
use Rattle.gi_serve.specs.Turns.{IsOut}

-- a door by its parts
door_is : {L : Type 0} (old new : DoorState L) (links : List L) → new.out ≡ old.out → Adds old.hung new.hung links
    → new ≡ record old { faults = new.faults; ended = new.ended; hung = option_map (λ ls. ls ++ links) old.hung }
door_is old new links out hung = ap (λ (o : Option ℕ). record new { out = o }) out ∙ ap (λ h. record new { out = old.out; hung = h }) hung

-- a rise stays one
rose_until : (a b c : ℕ) → Rose a b → b ≤ c → Rose a c
rose_until a b c rose le = omega arith

-- one link more and one less
back : (o : Option ℕ) → option_map (λ n. n - 1) (option_map (λ n. n + 1) o) ≡ o
back None = refl
back (Some n) = let e : n + 1 - 1 ≡ n = omega arith in ap Some e

-- nothing has come yet
pub accounts_none : {L : Type 0} (world : L → World) (quiet : Bool) (door : DoorState L) (shelf : ShelfState) → Accounts world quiet [] [] door door shelf shelf
accounts_none world quiet door shelf = record {
  each = All-nil (WasServed world quiet);
  fresh = All-nil (λ link. IsFresh (world link));
  faults = omega arith;
  door = door_is door door [] refl (adds_none door.hung);
  lost = omega arith;
  shelved = λ kept. adds_none shelf.shelved;
}

-- at most the count of faults and the end are others
pub accounts_same : {L : Type 0} (world : L → World) (quiet : Bool) (door now : DoorState L) (shelf : ShelfState) → door.faults ≤ now.faults
    → now.out ≡ door.out → now.hung ≡ door.hung → Accounts world quiet [] [] door now shelf shelf
accounts_same world quiet door now shelf faults out hung = record {
  each = All-nil (WasServed world quiet);
  fresh = All-nil (λ link. IsFresh (world link));
  faults = faults;
  door = door_is door now [] out (hung ∙ adds_none door.hung);
  lost = omega arith;
  shelved = λ kept. adds_none shelf.shelved;
}

module _ {L : Type 0} (world : L → World) (quiet : Bool) (served more : List (Connection L)) (unserved : List L) (old mid new : DoorState L) (first halfway last : ShelfState)
    (a : Accounts world quiet served [] old mid first halfway) (b : Accounts world quiet more unserved mid new halfway last) where
  all_hung : Adds old.hung new.hung (map (λ c. c.link) (served ++ more) ++ unserved)
  all_hung =
      let links = ap (λ ls. ls ++ (map (λ c. c.link) more ++ unserved)) (append-nil (map (λ c. c.link) served)) ∙ sym (append_assoc (map (λ c. c.link) served) (map (λ c. c.link) more) unserved)
      ∙ ap (λ ls. ls ++ unserved) (sym (map-append (λ c. c.link) served more)) in
      subst (Adds old.hung new.hung) links
      (adds_more old.hung mid.hung new.hung (map (λ c. c.link) served ++ []) (map (λ c. c.link) more ++ unserved) (ap (λ (d : DoorState L). d.hung) a.door) (ap (λ (d : DoorState L). d.hung) b.door))

  all_out : new.out ≡ old.out
  all_out = ap (λ (d : DoorState L). d.out) b.door ∙ ap (λ (d : DoorState L). d.out) a.door

  all_shelved : ¬ Rose first.lost last.lost → Adds first.shelved last.shelved (map (λ c. c.pass) (served ++ more))
  all_shelved kept = subst (Adds first.shelved last.shelved) (sym (map-append (λ c. c.pass) served more))
      (adds_more first.shelved halfway.shelved last.shelved (map (λ c. c.pass) served) (map (λ c. c.pass) more)
      (a.shelved (λ rose. kept (rose_until first.lost halfway.lost last.lost rose b.lost))) (b.shelved (λ rose. kept (rose_since first.lost halfway.lost last.lost a.lost rose))))

  -- connections behind those that were served
  pub accounts_more : Accounts world quiet (served ++ more) unserved old new first last
  accounts_more = record {
    each = All-append (WasServed world quiet) served more a.each b.each;
    fresh = b.fresh;
    faults = omega (arith, a.faults, b.faults);
    door = door_is old new (map (λ c. c.link) (served ++ more) ++ unserved) all_out all_hung;
    lost = omega (arith, a.lost, b.lost);
    shelved = all_shelved;
  }

module _ {L : Type 0} (before mid new : DoorState L) (link : L) (is : IsOut before mid) (hangs : HangsUp link mid new) where
  hung_out : new.out ≡ before.out
  hung_out = ap (λ (d : DoorState L). d.out) hangs ∙ ap (option_map (λ n. n - 1)) (ap (λ (d : DoorState L). d.out) is.out) ∙ back before.out

  hung_link : Adds before.hung new.hung (link ∷ [])
  hung_link = ap (λ (d : DoorState L). d.hung) hangs ∙ ap (option_map (λ ls. ls ++ link ∷ [])) (ap (λ (d : DoorState L). d.hung) is.out)

  pub hung_ended : new.ended ≡ before.ended
  hung_ended = ap (λ (d : DoorState L). d.ended) hangs ∙ ap (λ (d : DoorState L). d.ended) is.out

-- the shelf, with one pass more unless it was lost
put_one : (pass : Seen) (old new : ShelfState) → Puts pass old new → ¬ Rose old.lost new.lost → Adds old.shelved new.shelved (pass ∷ [])
put_one pass old new (inl there) kept = ap (λ (s : ShelfState). s.shelved) there
put_one pass old new (inr lost) kept = absurd (kept lost.1)

-- one connection that was served
pub accounts_one : {L : Type 0} (world : L → World) (quiet : Bool) (c : Connection L) (before mid new : DoorState L) (old after : ShelfState) → IsOut before mid → mid.faults ≤ new.faults
    → HangsUp c.link mid new → old.lost ≤ after.lost → Puts c.pass old after → WasServed world quiet c → Accounts world quiet (c ∷ []) [] before new old after
accounts_one world quiet c before mid new old after is faults hangs lost puts was = record {
  each = All-cons (WasServed world quiet) c [] was (All-nil (WasServed world quiet));
  fresh = All-nil (λ link. IsFresh (world link));
  faults = omega (arith, is.faults, faults);
  door = door_is before new (c.link ∷ []) (hung_out before mid new c.link is hangs) (hung_link before mid new c.link is hangs);
  lost = lost;
  shelved = put_one c.pass old after puts;
}

-- a link that was not
pub accounts_unserved : {L : Type 0} (world : L → World) (quiet : Bool) (link : L) (before mid new : DoorState L) (shelf : ShelfState) → IsOut before mid → mid.faults ≤ new.faults
    → HangsUp link mid new → IsFresh (world link) → Accounts world quiet [] (link ∷ []) before new shelf shelf
accounts_unserved world quiet link before mid new shelf is faults hangs fresh = record {
  each = All-nil (WasServed world quiet);
  fresh = All-cons (λ l. IsFresh (world l)) link [] fresh (All-nil (λ l. IsFresh (world l)));
  faults = omega (arith, is.faults, faults);
  door = door_is before new (link ∷ []) (hung_out before mid new link is hangs) (hung_link before mid new link is hangs);
  lost = omega arith;
  shelved = λ kept. adds_none shelf.shelved;
}
