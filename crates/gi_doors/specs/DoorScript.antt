-- What a door in memory was told to do, and how far it has come.
use Rattle.std.specs.Prelude.{◌≡◌, ℕ, List, [], ◌∷◌, Contains}
use Rattle.gi_outside.specs.Link.{up}
use Rattle.gi_outside.specs.declared.memory.MemoryLink.{MemoryLink}
use Rattle.gi_doors.specs.declared.door.Came.{Came}
use Rattle.gi_doors.specs.declared.door.Came.TheVariants as came

pub record DoorScript : Type 0 where
  -- how many accepts were asked for
  pub accepts : ℕ
  -- the links to come
  pub links : List MemoryLink
  -- the numbers of the accepts that fail
  pub bad_accepts : List ℕ

-- an accept fails exactly where its number is bad, and else gives the next link, or Closed where
-- none is left
abbrev pub FollowsAccept : Came MemoryLink → DoorScript → DoorScript → Type 0
FollowsAccept (came.Link link) old new = (¬ Contains old.bad_accepts (up old.accepts))
    × (old.links ≡ link ∷ new.links)
    × (new ≡ record old { accepts = up old.accepts; links = new.links })
FollowsAccept came.Closed old new = (¬ Contains old.bad_accepts (up old.accepts))
    × (old.links ≡ []) × (new ≡ record old { accepts = up old.accepts })
FollowsAccept came.Failed old new = Contains old.bad_accepts (up old.accepts)
    × (new ≡ record old { accepts = up old.accepts })

-- a count of faults, after an accept
abbrev pub accepts_failed : Came MemoryLink → ℕ → ℕ
accepts_failed (came.Link link) before = before
accepts_failed came.Closed before = before
accepts_failed came.Failed before = up before
