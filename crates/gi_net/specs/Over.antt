-- A session that is over, with what asked for the memory that was wanting.
use Rattle.std.specs.Prelude.{◌≡◌, ℕ, ◌⊎◌, Bool, true, List, [], ◌∷◌, ◌++◌, length, drop, map}
use Rattle.std.specs.List.{flat_map}
use Rattle.gi_outside.specs.Link.{ins}
use Rattle.gi_outside.specs.World.{World}
use Rattle.gi_outside.specs.declared.link.Piece.{Piece}
use Rattle.gi_outside.specs.declared.link.Piece.TheVariants.{In, Out}
use Rattle.gi_model.specs.declared.replies.Reply.TheVariants as reply
use Rattle.gi_wire.specs.Gives.{TakesMemory}
use Rattle.gi_wire.specs.Items.{items}
use Rattle.gi_wire.specs.Text.{text}
use Rattle.gi_wire.specs.declared.reader.Request.{Request}
use Rattle.gi_net.specs.declared.how.How.{How}
use Rattle.gi_net.specs.declared.how.How.TheVariants as how
use Rattle.gi_net.specs.Answers.{Answer}
use Rattle.gi_net.specs.Served.{EndsBy}
use Rattle.gi_net.specs.Session.{Session, given}
use Rattle.gi_net.specs.Standing.{Standing}

-- nothing but `nomem` was written since the last read
pub record IsBehindRead (tape : List Piece) : Type 0 where
  pub before : List Piece
  pub bytes : List ℕ
  pub pieces : List (List ℕ)
  pub split : tape ≡ (before ++ In bytes ∷ []) ++ map Out pieces
  pub joined : flat_map (λ piece. piece) pieces ≡ text 0 reply.NoMemory

-- whatever bytes come behind those taken, reading the item behind those in front takes memory
pub record NextTakesMemory (bytes : List ℕ) (ended : Bool) (front : List Request) : Type 0 where
  pub each : (e : Bool) (more : List ℕ) → (ended ≡ true → (e ≡ true) × (more ≡ []))
      → TakesMemory (drop (length front) (items e (bytes ++ more)))

-- What memory was asked for: a call, which was answered `nomem`, or whose caller lacked memory for
-- its entry; the lists, the bytes or the joined lines of the next item; or the bytes that were read
-- last.
abbrev pub Wanted : Type 0 → Type 0 → List Answer → List Piece → Type 0
Wanted starved next given tape = EndsBy given reply.NoMemory
    ⊎ (starved ⊎ (next ⊎ IsBehindRead tape))

pub record Over (old new : World) (before after : Standing) (starved : Type 0) (by : How) : Type
    0 where
  pub session : Session old new before after by
  pub wanted : by ≡ how.NoMemory
      → Wanted starved (NextTakesMemory (ins session.added) new.ended session.served.front)
      (given session) session.added
