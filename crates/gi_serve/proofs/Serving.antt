-- A session that was hosted on the first pass of a new room.
use Rattle.std.proofs.Common.{◌≡◌, ◌⊎◌, ℕ, ◌*◌, ◌^◌, ◌≤◌, Bool, true, List, [], ◌++◌, length, All, Option, Some, None, IfSome, refl, sym, ap, subst, ◌∙◌, arith}
use Rattle.std.specs.Prelude.{drop, Contains}
use Rattle.gi_outside.specs.Link.{ins}
use Rattle.gi_outside.specs.Told.{Adds}
use Rattle.gi_outside.specs.World.{World}
use Rattle.gi_outside.specs.declared.link.Piece.{Piece}
use Rattle.gi_doors.specs.Fresh.{IsFresh}
use Rattle.gi_model.specs.History.{Entry}
use Rattle.gi_net.specs.Session.{HasCause}
use Rattle.gi_net.specs.declared.how.How.{How}
use Rattle.gi_net.specs.declared.how.How.TheVariants as how
use Rattle.gi_turn.specs.Known.{Place}
use Rattle.gi_room.specs.Calls.{Sole}
use Rattle.gi_room.specs.Entries.{all_own_of}
use Rattle.gi_room.specs.Seen.{Seen, new_pass}
use Rattle.gi_host.specs.Hosts.{Hosts, IsAlone}
use Rattle.gi_host.specs.Laws.{UsesAQuarter}
use Rattle.gi_serve.specs.Connection.{HasFault, WasServed, session_of}

none_split : (n : ℕ) → ¬ Contains [] n
none_split n has = let l = has.1 in omega arith

sole_new : (place : Place) → Sole (new_pass place)
sole_new place = ((0, omega arith, refl), λ n has. absurd (none_split n has))

-- where nothing had gone through a link, its tape is what was added
added_alone : (o n : Option (List Piece)) (x : List Piece) → IfSome o (λ tape. tape ≡ []) → Adds o n x → IfSome n (λ tape. tape ≡ x)
added_alone None n x f e = subst (λ m. IfSome m (λ tape. tape ≡ x)) (sym e) tt
added_alone (Some t) n x f e = subst (λ m. IfSome m (λ tape. tape ≡ x)) (sym e) (ap (λ tape. tape ++ x) f)

fault_of : (by : How) (came now : World) → IsFresh came → HasCause by came now → HasFault by now
fault_of how.ReadFault came now fresh rose = let none = fresh.reads in omega (arith, none, rose)
fault_of how.WriteFault came now fresh rose = let none = fresh.writes in omega (arith, none, rose)
fault_of by came now fresh rose = tt

much_of : UsesAQuarter → (came now : World) (place : Place) (pass : Seen) (by : How) (h : Hosts came now (new_pass place) pass by) → by ≡ how.TooMuch
    → (2 ^ 62 ≤ length (ins (session_of h).added)) ⊎ (2 ^ 56 ≤ 4 * length (all_own_of 0 (session_of h).entries))
much_of law came now place pass how.TooMuch h e = law came now (new_pass place) pass h
much_of law came now place pass by h e = absurd cc

module _ (came now : World) (place : Place) (pass : Seen) (by : How) (h : Hosts came now (new_pass place) pass by) where
  -- the whole history is that of the session and what came behind it
  whole : pass.history ≡ h.serves.visits.entries ++ h.behind
  whole = h.after_history ∙ ap (λ es. es ++ h.behind) (h.serves.visits.history ∙ ap (λ es. es ++ h.serves.visits.entries) h.history)

  alone_of : IsAlone (new_pass place) pass pass.history
  alone_of = subst (IsAlone (new_pass place) pass) (sym whole) (h.alone (sole_new place))

-- what a hosted session on such a pass is to the server
pub was_served : {L : Type 0} (world : L → World) (quiet : Bool) (came : World) (link : L) (place : Place) (before pass : Seen) (by : How) → before ≡ new_pass place → IsFresh came → UsesAQuarter
    → Hosts came (world link) before pass by → (quiet ≡ true → Sole before → All (λ (e : Entry). e.by ≡ before.number) (drop (length before.history) pass.history))
    → WasServed world quiet (record { link = link; pass = pass; how = by })
was_served world quiet came link place before pass by first fresh law hosts own =
    let h : Hosts came (world link) (new_pass place) pass by = subst (λ p. Hosts came (world link) p pass by) first hosts in
    let o : quiet ≡ true → Sole (new_pass place) → All (λ (e : Entry). e.by ≡ 0) pass.history = subst (λ (p : Seen). quiet ≡ true → Sole p → All (λ (e : Entry). e.by ≡ p.number) (drop (length p.history) pass.history)) first own in
    record {
      came = came;
      fresh = fresh;
      place = place;
      hosts = h;
      tape = added_alone came.tape (world link).tape (session_of h).added fresh.tape (session_of h).tape;
      alone = alone_of came (world link) place pass by h;
      own = λ q. o q (sole_new place);
      fault = fault_of by came (world link) fresh (session_of h).cause;
      much = much_of law came (world link) place pass by h;
    }
