-- A slice of the search is a slice of work.
use Rattle.std.proofs.Common.{◌≡◌, ◌≢◌, ℕ, ◌+◌, ◌*◌, ◌/◌, ◌≤◌, ◌==◌, Bool, true, false, cond, Some, None, List, ◌++◌, length, refl, ◌∙◌, arith, ◌⊎◌, inl, inr}
use Rattle.std.specs.List.{All, Contains}
use Rattle.std.proofs.lemmas.Bool.{both_ways, cases_Bool, eq-eqb, eqb-true}
use Rattle.std.proofs.lemmas.List.Elements.{All-weaker}
use Rattle.gi_lit.specs.Problem.{Problem, has, IsProblemVar, IsLiveVar}
use Rattle.gi_lit.proofs.Vars.{var_from, Contains-from_has, lacks_none}
use Rattle.gi_store.specs.StoreView.{StoreView}
use Rattle.gi_model.specs.Limits.{most_news}
use Rattle.gi_model.specs.Luby.{IsLuby}
use Rattle.gi_model.specs.State.{State, Run, live_run, dead_state}
use Rattle.gi_model.specs.Refusals.{refuses}
use Rattle.gi_model.specs.Effects.{sliced}
use Rattle.gi_model.specs.Kept.{IsKept}
use Rattle.gi_model.specs.Work.{EndsWork}
use Rattle.gi_model.specs.declared.calls.Call.TheVariants as call
use Rattle.gi_model.specs.declared.replies.Reply.{Reply}
use Rattle.gi_model.specs.declared.replies.Reply.TheVariants as reply
use Rattle.gi_model.specs.declared.replies.Verdict.TheVariants.{Unknown}
use Rattle.gi_model.specs.declared.replies.Cause.TheVariants.{Budget}
use Rattle.gi_cdcl.specs.Ends.{EndsSlice}
use Rattle.gi_cdcl.specs.declared.slice.Slice.{Slice}
use Rattle.gi_cdcl.specs.declared.slice.Slice.TheVariants as slice
use Rattle.gi_core.specs.Content.{Content}
use Rattle.gi_core.specs.Slicing.{AreUsable, Learns, Advances}
use Rattle.gi_model.specs.Views.{run_of}
use Rattle.gi_core.specs.Ending.{verdict_of, now_of, Settles}
use Rattle.gi_core.specs.View.{state_of, Moves, IsBacked, IsBlank}
use Rattle.gi_model.specs.declared.run.Run.{Run as RunCode}
use Rattle.gi_model.specs.declared.solve.Solve.TheVariants.{Running}
use Rattle.gi_model.specs.declared.life.Life.TheVariants.{Alive}
use Rattle.gi_core.specs.declared.machine.Machine.{Machine}
use Rattle.gi_core.proofs.Moving.{work_step, moves_dead}

-- the end of a slice that was allowed no more than is left of the budget
pub ends_work : (s : State) (r : Run) (limit mark : ℕ) (news : List (List ℕ)) (end : Slice) → EndsSlice s.problem s.known r.assumed limit r.serial mark news end → end ≢ slice.NoMemory → length news ≤ limit → r.spent + limit ≤ r.budget → EndsWork s r mark news (now_of (verdict_of end mark (r.spent + length news) r.budget))
ends_work s r limit mark news slice.Braked e n few within = (e, refl)
ends_work s r limit mark news slice.Learned e n few within = go (r.spent + length news == r.budget) refl
  where
    go : (b : Bool) → (r.spent + length news == r.budget) ≡ b → EndsWork s r mark news (now_of (cond b (Some (Unknown (Budget r.budget))) None))
    go true t = (e.0, (eqb-true (r.spent + length news) r.budget t, e.1.1), refl)
    go false t = (e.0, (λ q. both_ways _ t (eq-eqb (r.spent + length news) r.budget q.0)), e.1.1)
ends_work s r limit mark news (slice.Sat values) e n few within = (e.0, (λ q. let spent = q.0 in e.1 (omega arith, q.1)), e.2)
ends_work s r limit mark news (slice.Unsat w) e n few within = (e.0, (λ q. let spent = q.0 in e.1 (omega arith, q.1)), e.2)
ends_work s r limit mark news slice.NoMemory e n few within = absurd (n refl)

pub advances_learns : (old new : Content) (assumed : List ℕ) (limit serial mark : ℕ) (news : List (List ℕ)) (end : Slice) → end ≢ slice.NoMemory → Advances old new assumed limit serial mark news end → Learns old new assumed limit serial mark news end
advances_learns old new assumed limit serial mark news slice.Braked n a = a
advances_learns old new assumed limit serial mark news slice.Learned n a = a
advances_learns old new assumed limit serial mark news (slice.Sat values) n a = a
advances_learns old new assumed limit serial mark news (slice.Unsat w) n a = a
advances_learns old new assumed limit serial mark news slice.NoMemory n a = absurd (n refl)

-- a slice that ends with learnt clauses has as many as were allowed
pub learned_full : (old new : Content) (assumed : List ℕ) (limit serial mark : ℕ) (news : List (List ℕ)) (end : Slice) → end ≡ slice.Learned → Advances old new assumed limit serial mark news end → length news ≡ limit
learned_full old new assumed limit serial mark news slice.Learned e a = a.ends.1.0
learned_full old new assumed limit serial mark news other e a = absurd cc

-- a solve that goes on has learnt
pub goes_on : (end : Slice) (mark spent budget : ℕ) → None ≡ verdict_of end mark spent budget → end ≢ slice.NoMemory → end ≡ slice.Learned
goes_on slice.Learned mark spent budget e n = refl
goes_on slice.NoMemory mark spent budget e n = absurd (n refl)
goes_on slice.Braked mark spent budget e n = absurd cc
goes_on (slice.Sat values) mark spent budget e n = absurd cc
goes_on (slice.Unsat w) mark spent budget e n = absurd cc

-- a live variable is of the problem, or an active guard
live_used : (p : Problem) (v : ℕ) → IsLiveVar p v → IsProblemVar p v ⊎ Contains p.active v
live_used p v h = elim (cases_Bool (has p.active v)) [
  | inl t ↦ inr (Contains-from_has p.active v t)
  | inr f ↦ inl (var_from p v (record { low = h.0; high = h.1; inactive = lacks_none p.active v f; unfreed = h.2 }))
]

pub kept_usable : (s : State) (base : StoreView) → IsKept s → AreUsable (record { problem = s.problem; known = s.known; base = base })
kept_usable s base k = record {
  implied = k.known_implied;
  used = All-weaker (All (λ l. IsLiveVar s.problem (l / 2))) (All (λ l. IsProblemVar s.problem (l / 2) ⊎ Contains s.problem.active (l / 2))) (λ c a. All-weaker (λ l. IsLiveVar s.problem (l / 2)) (λ l. IsProblemVar s.problem (l / 2) ⊎ Contains s.problem.active (l / 2)) (λ l. live_used s.problem (l / 2)) c a) s.known k.known_live;
}

-- the slice of a run, and what became of the machine
pub settled : (m a n : Machine) (run : RunCode) (limit mark luby : ℕ) (news : List (List ℕ)) (end : Slice) (answer : Reply) → m.life ≡ Alive → end ≢ slice.NoMemory → limit ≤ most_news → IsLuby (run.slices + 1) luby → limit ≤ 32 * luby → run.spent + limit ≤ run.budget
    → Learns m.solver a.solver run.assumed limit run.serial mark news end → a ≡ record m { solver = a.solver }
    → Settles a run news (verdict_of end mark (run.spent + length news) run.budget) answer n → Moves (record m { solve = Running run }) (call.Work mark) answer n
unfolding refuses
settled m a n run limit mark luby news end answer alive_is some limit_is luby_is paced within l part s = go answer s
  where
    old : Machine
    old = record m { solve = Running run }

    live : live_run (state_of old) ≡ Some (run_of run)
    live = rw alive_is refl

    go : (x : Reply) → Settles a run news (verdict_of end mark (run.spent + length news) run.budget) x n → Moves old (call.Work mark) x n
    go (reply.Worked told now) h = rw (h.news_are, h.now_is) (record {
      step = work_step (state_of old) (state_of n) (run_of run) mark news (now_of (verdict_of end mark (run.spent + length news) run.budget)) live
          (record { few = (let f = l.few in omega arith); paced = (luby, luby_is, (let f = l.few in omega arith)); within = (let f = l.few in omega arith); fresh = l.fresh; ends = ends_work (state_of old) (run_of run) limit mark news end l.ends some l.few within })
          (h.state ∙ made);
      backed = λ b. rw (h.scopes, h.solver) (backs b);
    })
      where
        made : record (state_of a) { solve = sliced (run_of run) (length news) now } ≡ record (state_of old) { known = m.solver.known ++ news; solve = sliced (run_of run) (length news) (now_of (verdict_of end mark (run.spent + length news) run.budget)) }
        made = rw (part, l.new_is, h.now_is) refl

        backs : IsBacked m.solver m.scopes → IsBacked a.solver a.scopes
        backs b = rw (part, l.new_is) (record { reasoned = b.reasoned; served = b.served })
    go reply.NoMemory h = moves_dead old n (call.Work mark) reply.NoMemory tt refl (rw live refl) refl h.0 h.1
    go other h = elim h [ ]

pub work_dead : (m n : Machine) (run : RunCode) (mark : ℕ) (answer : Reply) → m.life ≡ Alive → answer ≡ reply.NoMemory → state_of n ≡ dead_state → IsBlank n.scopes → Moves (record m { solve = Running run }) (call.Work mark) answer n
unfolding refuses
work_dead m n run mark answer e ea es all = moves_dead (record m { solve = Running run }) n (call.Work mark) answer tt refl (rw e refl) ea es all
