-- A session that goes on.
use Rattle.std.specs.Prelude.{◌≡◌, ℕ, ◌+◌, ◌≤◌, Bool, List, ◌++◌, length, map}
use Rattle.std.specs.List.{AllByRecursion}
use Rattle.gi_outside.specs.Link.{ins, outs}
use Rattle.gi_outside.specs.Told.{Adds, Takes}
use Rattle.gi_outside.specs.World.{World}
use Rattle.gi_outside.specs.declared.link.Piece.{Piece}
use Rattle.gi_model.specs.History.{Entry}
use Rattle.gi_wire.specs.Items.{items}
use Rattle.gi_wire.specs.Source.{Comes, Source, ahead}
use Rattle.gi_wire.specs.declared.reader.Request.{Request}
use Rattle.gi_net.specs.Answers.{answers, calls, texts}
use Rattle.gi_net.specs.Entries.{WorksForWaits, all_own_of, own_of, replies}
use Rattle.gi_net.specs.Served.{IsPrompt, IsQuiet, IsShort}
use Rattle.gi_net.specs.Standing.{Standing}

-- A session so far: what was added to tape and history, the items that were answered, what is ahead
-- of the reader, and what was written. Own work may stand at the end where `last` holds.
pub record SoFar (last : Type 0) (start now : World) (first here : Standing) (source : Source)
    (taken : ℕ) (done : List Request) (own : List Entry) (out : List ℕ) : Type 0 where
  pub added : List Piece
  pub entries : List Entry
  pub tape : Adds start.tape now.tape added
  pub rest : Takes start.rest now.rest (ins added)
  pub reads : start.failed_reads ≤ now.failed_reads
  pub writes : start.failed_writes ≤ now.failed_writes
  pub number : here.number ≡ first.number
  pub history : here.history ≡ first.history ++ entries
  pub left : first.left ≡ here.left + length (all_own_of first.number entries)
  pub own_is : own_of first.number entries ≡ own
  pub works : WorksForWaits last (all_own_of first.number entries)
  pub out_is : outs added ≡ out
  pub taken_is : length (ins added) ≡ taken
  pub items_are : (ended : Bool) (more : List ℕ) → Comes source ended more
      → items ended (ins added ++ more) ≡ done ++ ahead source ended more
  pub calls_are : map (λ e. e.call) own ≡ calls done
  pub prompt : IsPrompt own added
  pub pieces : AllByRecursion IsShort added

-- all answers so far were written, and the session goes on after each of them
pub record MidSession (start now : World) (first here : Standing) (source : Source)
    (taken : ℕ) : Type 0 where
  pub done : List Request
  pub own : List Entry
  pub so_far : SoFar ⊥ start now first here source taken done own
      (texts (answers done (replies own)))
  pub quiet : AllByRecursion IsQuiet (answers done (replies own))
