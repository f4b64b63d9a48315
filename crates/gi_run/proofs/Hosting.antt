-- What follows of a session that was hosted.
use Rattle.std.proofs.Common.{◌≡◌, ◌≢◌, ◌⊎◌, ℕ, ◌*◌, ◌^◌, ◌≤◌, ◌==◌, Bool, true, false, inl, inr, List, [], ◌∷◌, ◌++◌, length, All, get_or, refl, sym, ap, subst, ◌∙◌, eq-eqb}
use Rattle.std.specs.Prelude.{drop}
use Rattle.std.proofs.lemmas.Bool.{both_ways, eqb-true}
use Rattle.gi_outside.specs.Link.{ins}
use Rattle.gi_outside.specs.World.{World}
use Rattle.gi_model.specs.State.{opening}
use Rattle.gi_model.specs.History.{Entry, IsLegal, IsLegalFrom}
use Rattle.gi_model.specs.Refusals.{is_work as is_slice}
use Rattle.gi_net.specs.declared.how.How.{How}
use Rattle.gi_net.specs.declared.how.How.TheVariants as how
use Rattle.gi_net.specs.Entries.{all_own_of, is_work, own_of}
use Rattle.gi_net.specs.Session.{Session}
use Rattle.gi_net.specs.Standing.{Standing}
use Rattle.gi_net.proofs.Completing.{whole}
use Rattle.gi_room.specs.Calls.{Sole}
use Rattle.gi_room.specs.Seen.{Seen}
use Rattle.gi_host.specs.Hosts.{Hosts, IsAlone}
use Rattle.gi_host.specs.Laws.{UsesAQuarter}
use Rattle.gi_host.specs.Visits.{standing_of}
use Rattle.gi_run.specs.Outcome.{HasHosted, Runs, exit_status, session_of}
use Rattle.gi_run.specs.Shutting.{EndsSolve, HasEnded, HasLostWork}
use Rattle.gi_run.proofs.Alone.{all_front, cancel, same_work}
use Rattle.gi_run.proofs.Having.{Has, has_contained}
use Rattle.gi_run.proofs.Lost.{IsOurs, lost_work}
use Rattle.gi_run.proofs.Over.{ended_in}

-- an entry that is work unless it is the session's own
ours : (n : ℕ) (e : Entry) → (e.by ≢ n → is_slice e.call ≡ true) → IsOurs n e
ours n e other = go (e.by == n) refl
  where
    go : (b : Bool) → (e.by == n) ≡ b → IsOurs n e
    go true is = inl (eqb-true e.by n is)
    go false is = inr (same_work e.call ∙ other (λ same. both_ways _ is (eq-eqb e.by n same)))

module _ (old new : World) (first mid : Standing) (s : Session old new first mid how.Dead) (legal : IsLegal mid.history) where
  ended : Has EndsSolve (first.history ++ s.entries)
  ended = ended_in first.history s.entries (own_of first.number s.entries) _ s.served.front (subst (λ (es : List Entry). IsLegalFrom opening es) s.history legal.each) refl s.served.ends.0

  over_of : HasEnded mid.history
  over_of = subst HasEnded (sym s.history) (has_contained EndsSolve (first.history ++ s.entries) ended)

  lost_of : All (IsOurs first.number) s.entries → ¬ HasEnded first.history → HasLostWork s.entries
  lost_of own fresh = lost_work first.number first.history s.entries new.ended (ins s.added) s.served.front s.served.rest own ended fresh s.served.split s.served.calls_are s.served.ends.0

over : (old new : World) (first mid : Standing) (by : How) → Session old new first mid by → IsLegal mid.history → by ≡ how.Dead → HasEnded mid.history
over old new first mid how.Dead s legal e = over_of old new first mid s legal
over old new first mid by s legal e = absurd cc

pub lost : (old new : World) (first mid : Standing) (by : How) (s : Session old new first mid by) → IsLegal mid.history → All (IsOurs first.number) s.entries → by ≡ how.Dead → ¬ HasEnded first.history → HasLostWork s.entries
lost old new first mid how.Dead s legal own e fresh = lost_of old new first mid s legal own fresh
lost old new first mid by s legal own e fresh = absurd cc

used : UsesAQuarter → (old new : World) (p q : Seen) (by : How) (h : Hosts old new p q by) → by ≡ how.TooMuch
    → (2 ^ 62 ≤ length (ins (session_of h).added)) ⊎ (p.left ≤ 4 * length (all_own_of p.number (session_of h).entries))
used law old new p q how.TooMuch h e = law old new p q h
used law old new p q by h e = absurd cc

module _ (old new : World) (p q : Seen) (by : How) (h : Hosts old new p q by) where
  abbrev s : Session old new (standing_of h.first) (standing_of h.mid) by
  s = session_of h

  same_entries : h.serves.visits.entries ≡ s.entries
  same_entries = cancel h.first.history h.serves.visits.entries s.entries (sym h.serves.visits.history ∙ s.history)

  -- for a sole pass all entries of the session are its own, or others' work
  all_ours : Sole p → All (IsOurs h.first.number) s.entries
  all_ours sole =
      let others : All (λ (e : Entry). e.by ≢ p.number → is_slice e.call ≡ true) h.serves.visits.entries =
      all_front (λ (e : Entry). e.by ≢ p.number → is_slice e.call ≡ true) h.serves.visits.entries h.behind (h.alone sole).others in
      subst (λ es. All (IsOurs h.first.number) es) same_entries (λ k d lt. ours h.first.number (get_or h.serves.visits.entries k d) (λ n. others k d lt (λ is. n (is ∙ sym h.number))))

  pub has_hosted : UsesAQuarter → HasHosted old new p q by
  has_hosted law = record {
    hosts = h;
    over = over old new (standing_of h.first) (standing_of h.mid) by s h.serves.legal;
    lost = λ e sole fresh. lost old new (standing_of h.first) (standing_of h.mid) by s h.serves.legal (all_ours sole) e (λ ended. fresh (subst HasEnded h.history ended));
    used = used law old new p q by h;
    whole = whole old new (standing_of h.first) (standing_of h.mid) by s;
  }

-- the status of such a session
pub runs : (quiet : Bool) (old new : World) (p q : Seen) (by : How) (status : ℕ) → HasHosted old new p q by → (quiet ≡ true → Sole p → All (λ (e : Entry). e.by ≡ p.number) (drop (length p.history) q.history))
    → status ≡ exit_status by → Runs quiet old new p q status
runs quiet old new p q by status has own is = record {
  by = by;
  has = has;
  own = own;
  status_is = is;
  fine = λ calm. elim (has.whole calm).ends [ inl bye ↦ is ∙ ap exit_status bye | inr eof ↦ is ∙ ap exit_status eof ];
}
