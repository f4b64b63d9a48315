-- What a solve spends is bounded by its variables.
use Rattle.std.proofs.Common.{◌≡◌, ◌≢◌, ℕ, ◌+◌, ◌<◌, ◌≤◌, ◌⊎◌, inl, inr, Bool, true, false, Option, Some, None, List, [], ◌∷◌, ◌++◌, length, refl, sym, ap, ◌∙◌, subst, arith, append_assoc, length-append}
use Rattle.std.specs.List.{All}
use Rattle.std.proofs.lemmas.List.Elements.{All-head, All-tail}
use Rattle.gi_lit.specs.Problem.{Problem}
use Rattle.gi_lit.specs.Learnt.{AreFresh}
use Rattle.gi_lit.proofs.Codes.{few_news}
use Rattle.gi_model.specs.State.{State, Run, Solve, no_solve, running, paused, ended, opening, live_run}
use Rattle.gi_model.specs.Replies.{status_of, waited}
use Rattle.gi_model.specs.Refusals.{refuses, is_work, admits}
use Rattle.gi_model.specs.Effects.{after, accepted, edited, pausing, resuming, stopping, trimmed, sliced}
use Rattle.gi_model.specs.Work.{Works, AnswersWork, EndsWork}
use Rattle.gi_model.specs.Tests.{AnswersTest, AnswersReasons}
use Rattle.gi_model.specs.History.{Allows, Answers, AnswersModel, Replied, Entry, after_all, IsLegalFrom}
use Rattle.gi_model.specs.Told.{spent_on, told_spent}
use Rattle.gi_model.specs.Bound.{edits, IsQuiet, StartsNone, IsUnderWay, live_of, live_slices, IsShort, SolvesAreShort}
use Rattle.gi_model.specs.declared.calls.Call.{Call}
use Rattle.gi_model.specs.declared.calls.Call.TheVariants as call
use Rattle.gi_model.specs.declared.replies.Reply.{Reply}
use Rattle.gi_model.specs.declared.replies.Reply.TheVariants as reply
use Rattle.gi_model.specs.declared.replies.Now.{Now}
use Rattle.gi_model.specs.declared.replies.Now.TheVariants.{Live, Ended}
use Rattle.gi_model.specs.declared.replies.Verdict.TheVariants.{Sat, Unsat, Unknown}
use Rattle.gi_model.specs.declared.replies.Cause.TheVariants.{Stopped, Budget}
use Rattle.gi_model.specs.declared.refusal.Refusal.{Refusal}
use Rattle.gi_model.proofs.Accepting.{IsAccepted, accepted_facts}
use Rattle.gi_model.proofs.Keeping.{append-nil}
use Rattle.gi_model.proofs.Histories.{live_is, work_or_not, legal_from_kept, opening_kept, after_status}

-- news of several slices are news of one
pub AreFresh-append : (p : Problem) (known xs ys : List (List ℕ)) → AreFresh p known xs → AreFresh p (known ++ xs) ys → AreFresh p known (xs ++ ys)
AreFresh-append p known [] ys a b = subst (λ k. AreFresh p k ys) (append-nil known) b
AreFresh-append p known (x ∷ xs) ys a b = (a.0, a.1, AreFresh-append p (known ++ x ∷ []) xs ys a.2 (subst (λ k. AreFresh p k ys) (sym (append_assoc known (x ∷ []) xs)) b))

-- a solve under way has learnt the news and nothing else since its start
record IsGoing (p : Problem) (start : List (List ℕ)) (budget : ℕ) (news : List (List ℕ)) (q : Problem) (known : List (List ℕ)) (r : Run) : Type 0 where
  problem : q ≡ p
  known_is : known ≡ start ++ news
  spent : r.spent ≡ length news
  budget_is : r.budget ≡ budget

-- and one that ran out of budget had as many news as that
abbrev IsAt : Problem → List (List ℕ) → ℕ → List (List ℕ) → Problem → List (List ℕ) → Solve → Type 0
IsAt p start budget news q known no_solve = Unit {0}
IsAt p start budget news q known (running r) = IsGoing p start budget news q known r
IsAt p start budget news q known (paused r) = IsGoing p start budget news q known r
IsAt p start budget news q known (ended k (Unknown (Budget b))) = (b ≡ length news) × (b ≡ budget)
IsAt p start budget news q known (ended k v) = Unit {0}

-- so much was told of news since the start, and all of them are fresh
record Spends (p : Problem) (start : List (List ℕ)) (budget : ℕ) (s : State) (spent : ℕ) : Type 0 where
  news : List (List ℕ)
  fresh : AreFresh p start news
  told : spent ≡ length news
  at : IsAt p start budget news s.problem s.known s.solve

spent_status : (v : Solve) (n : ℕ) → spent_on n (status_of v) ≡ n
spent_status no_solve n = refl
spent_status (running r) n = refl
spent_status (paused r) n = refl
spent_status (ended k v) n = refl

spent_waited : (v : Solve) (n : ℕ) → spent_on n (waited v) ≡ n
spent_waited no_solve n = refl
spent_waited (running r) n = refl
spent_waited (paused r) n = refl
spent_waited (ended k (Sat values)) n = refl
spent_waited (ended k (Unsat w)) n = refl
spent_waited (ended k (Unknown c)) n = refl

edits_or_not : (c : Call) → (edits c ≡ true) ⊎ (edits c ≡ false)
edits_or_not c = go (edits c) refl
  where
    go : (b : Bool) → edits c ≡ b → (edits c ≡ true) ⊎ (edits c ≡ false)
    go true e = inl e
    go false e = inr e

module _ (p : Problem) (start : List (List ℕ)) (budget : ℕ) where
  abbrev On : State → Call → Reply → ℕ → Type 0
  On s c answer spent = Spends p start budget (after s c answer) (spent_on spent answer)

  -- what neither a running nor a paused solve admits leaves none under way
  edited_at : (news known : List (List ℕ)) (q : Problem) (v : Solve) (c : Call) → admits v c ≡ true → ((r : Run) → admits (running r) c ≡ false) → ((r : Run) → admits (paused r) c ≡ false) → IsAt p start budget news q known (edited v)
  edited_at news known q no_solve c a x y = tt
  edited_at news known q (running r) c a x y = let e = x r in absurd cc
  edited_at news known q (paused r) c a x y = let e = y r in absurd cc
  edited_at news known q (ended k v) c a x y = tt

  pausing_at : (news known : List (List ℕ)) (q : Problem) (v : Solve) → IsAt p start budget news q known v → IsAt p start budget news q known (pausing v)
  pausing_at news known q no_solve h = tt
  pausing_at news known q (running r) h = h
  pausing_at news known q (paused r) h = h
  pausing_at news known q (ended k v) h = h

  resuming_at : (news known : List (List ℕ)) (q : Problem) (v : Solve) → IsAt p start budget news q known v → IsAt p start budget news q known (resuming v)
  resuming_at news known q no_solve h = tt
  resuming_at news known q (running r) h = h
  resuming_at news known q (paused r) h = h
  resuming_at news known q (ended k v) h = h

  stopping_at : (news known : List (List ℕ)) (q : Problem) (v : Solve) → IsAt p start budget news q known v → IsAt p start budget news q known (stopping v)
  stopping_at news known q no_solve h = tt
  stopping_at news known q (running r) h = tt
  stopping_at news known q (paused r) h = tt
  stopping_at news known q (ended k v) h = h

  -- nothing is learnt, and what the solve is then is known
  moved : (s t : State) (spent n : ℕ) (h : Spends p start budget s spent) → n ≡ spent → IsAt p start budget h.news t.problem t.known t.solve → Spends p start budget t n
  moved s t spent n h e at = record { news = h.news; fresh = h.fresh; told = e ∙ h.told; at = at }

  -- nothing changes
  same : (s : State) (c : Call) (answer : Reply) (spent : ℕ) → accepted s c answer ≡ s → spent_on spent answer ≡ spent → Spends p start budget s spent → On s c answer spent
  unfolding after
  same s c (reply.Refused r) spent e n h = h
  same s c reply.NoMemory spent e n h = moved s _ spent spent h refl tt
  same s c other spent e n h = subst (λ (m : ℕ). Spends p start budget (accepted s c other) m) (sym n) (subst (λ (t : State). Spends p start budget t spent) (sym e) h)

  told_as : (s : State) (c : Call) (answer is : Reply) (spent : ℕ) → answer ≡ is → On s c is spent → On s c answer spent
  told_as s c answer is spent e h = subst (λ (r : Reply). On s c r spent) (sym e) h

  status_spends : (s : State) (c : Call) (v : Solve) (spent : ℕ) (h : Spends p start budget s spent) → accepted s c (status_of v) ≡ record s { solve = v } → IsAt p start budget h.news s.problem s.known v → On s c (status_of v) spent
  status_spends s c v spent h e at =
      let P : State → Type 0 = λ t. Spends p start budget t spent in
      subst (λ (m : ℕ). Spends p start budget (after s c (status_of v)) m) (sym (spent_status v spent)) (after_status s c v P h (subst P (sym e) (moved s (record s { solve = v }) spent spent h refl at)))

  test_spends : (s : State) (answer : Reply) (spent : ℕ) (h : Spends p start budget s spent) → ((q : Problem) (known : List (List ℕ)) → IsAt p start budget h.news q known (edited s.solve)) → AnswersTest s answer → On s call.Test answer spent
  unfolding after
  test_spends s (reply.Implied ls) spent h at a = moved s _ spent spent h refl (at s.problem s.known)
  test_spends s (reply.Failed w) spent h at a = moved s _ spent spent h refl (at s.problem s.known)
  test_spends s other spent h at a = elim a [ ]

  reasons_spend : (s : State) (m : ℕ) (answer : Reply) (spent : ℕ) → Spends p start budget s spent → AnswersReasons s m answer → On s (call.Reasons m) answer spent
  reasons_spend s m (reply.Reasons rs) spent h a = same s (call.Reasons m) (reply.Reasons rs) spent refl refl h
  reasons_spend s m other spent h a = elim a [ ]

  model_spends : (s : State) (answer : Reply) (spent : ℕ) (v : Solve) → Spends p start budget s spent → AnswersModel s v answer → On s call.Model answer spent
  model_spends s answer spent (ended k (Sat values)) h a = told_as s call.Model answer _ spent a (same s call.Model _ spent refl refl h)
  model_spends s answer spent other h a = elim a [ ]

  -- a slice, also the last
  slice_spends : (s : State) (r : Run) (mark spent : ℕ) (news : List (List ℕ)) (now : Now) → s.solve ≡ running r → Works s r mark news now → Spends p start budget s spent → Spends p start budget (record s { known = s.known ++ news; solve = sliced r (length news) now }) (spent + length news)
  slice_spends s r mark spent news now e w h = record {
    news = h.news ++ news;
    fresh = AreFresh-append p start h.news news h.fresh (subst (λ (x : Problem). AreFresh x (start ++ h.news) news) g.problem (subst (λ (k : List (List ℕ)). AreFresh s.problem k news) g.known_is w.fresh));
    told = (let a = h.told in omega (arith, lengths));
    at = go now w.ends;
  }
    where
      g : IsGoing p start budget h.news s.problem s.known r
      g = subst (λ (v : Solve). IsAt p start budget h.news s.problem s.known v) e h.at

      lengths : length (h.news ++ news) ≡ length h.news + length news
      lengths = length-append h.news news

      go : (x : Now) → EndsWork s r mark news x → IsAt p start budget (h.news ++ news) s.problem (s.known ++ news) (sliced r (length news) x)
      go Live d = record {
        problem = g.problem;
        known_is = ap (λ (k : List (List ℕ)). k ++ news) g.known_is ∙ append_assoc start h.news news;
        spent = (let a = g.spent in omega (arith, lengths));
        budget_is = g.budget_is;
      }
      go (Ended (Sat values)) d = tt
      go (Ended (Unsat ls)) d = tt
      go (Ended (Unknown (Stopped k))) d = tt
      go (Ended (Unknown (Budget b))) d = ((let a = g.spent in let c = d.1.0 in let f = d.2 in omega (arith, lengths)), d.2 ∙ g.budget_is)

  work_spends : (s : State) (mark : ℕ) (answer : Reply) (spent : ℕ) (o : Option Run) → live_run s ≡ o → AnswersWork s o mark answer → Spends p start budget s spent → On s (call.Work mark) answer spent
  unfolding after
  work_spends s mark (reply.Worked news now) spent (Some r) e a h = rw e (slice_spends s r mark spent news now (live_is s r e) a h)
  work_spends s mark other spent (Some r) e a h = elim a [ ]
  work_spends s mark answer spent None e a h = told_as s (call.Work mark) answer reply.Idle spent a (rw e h)

  -- a call that isn't refused, is no edit and starts nothing
  answer_spends : (s : State) (c : Call) (answer : Reply) (spent : ℕ) → is_work c ≡ false → edits c ≡ false → IsAccepted s c → ((n : ℕ) → answer ≢ reply.Started n) → Answers s c answer → Spends p start budget s spent → On s c answer spent
  unfolding after
  answer_spends s (call.Vars k) answer spent w q a n r h = absurd cc
  answer_spends s (call.Add c) answer spent w q a n r h = absurd cc
  answer_spends s call.NewGuard answer spent w q a n r h = absurd cc
  answer_spends s (call.Under gs c) answer spent w q a n r h = absurd cc
  answer_spends s (call.DropGuard g) answer spent w q a n r h = absurd cc
  answer_spends s (call.Assume ls) answer spent w q a n r h = told_as s (call.Assume ls) answer _ spent r (moved s _ spent spent h refl (edited_at h.news _ _ s.solve (call.Assume ls) a.admitted (λ x. refl) (λ x. refl)))
  answer_spends s call.Test answer spent w q a n r h = test_spends s answer spent h (λ x known. edited_at h.news known x s.solve call.Test a.admitted (λ y. refl) (λ y. refl)) r
  answer_spends s call.Untest answer spent w q a n r h = told_as s call.Untest answer _ spent r (moved s _ spent spent h refl (edited_at h.news _ _ s.solve call.Untest a.admitted (λ x. refl) (λ x. refl)))
  answer_spends s (call.Reasons m) answer spent w q a n r h = reasons_spend s m answer spent h r
  answer_spends s (call.Solve b) answer spent w q a n r h = absurd (n (s.serial + 1) r)
  answer_spends s call.Pause answer spent w q a n r h = told_as s call.Pause answer _ spent r (status_spends s call.Pause (pausing s.solve) spent h refl (pausing_at h.news s.known s.problem s.solve h.at))
  answer_spends s call.Resume answer spent w q a n r h = told_as s call.Resume answer _ spent r (status_spends s call.Resume (resuming s.solve) spent h refl (resuming_at h.news s.known s.problem s.solve h.at))
  answer_spends s call.Stop answer spent w q a n r h = told_as s call.Stop answer _ spent r (status_spends s call.Stop (stopping s.solve) spent h refl (stopping_at h.news s.known s.problem s.solve h.at))
  answer_spends s call.Poll answer spent w q a n r h = told_as s call.Poll answer _ spent r (same s call.Poll (status_of s.solve) spent refl (spent_status s.solve spent) h)
  answer_spends s call.Wait answer spent w q a n r h = told_as s call.Wait answer _ spent r (same s call.Wait (waited s.solve) spent refl (spent_waited s.solve spent) h)
  answer_spends s call.Model answer spent w q a n r h = model_spends s answer spent s.solve h r
  answer_spends s call.Known answer spent w q a n r h = told_as s call.Known answer _ spent r h
  answer_spends s (call.KnownClause i) answer spent w q a n r h = told_as s (call.KnownClause i) answer _ spent r h
  answer_spends s (call.LoadCnf bytes) answer spent w q a n r h = told_as s (call.LoadCnf bytes) answer _ spent r (moved s _ spent spent h refl (edited_at h.news _ _ s.solve (call.LoadCnf bytes) a.admitted (λ x. refl) (λ x. refl)))
  answer_spends s call.Bye answer spent w q a n r h = told_as s call.Bye answer _ spent r h
  answer_spends s call.Shut answer spent w q a n r h = told_as s call.Shut answer _ spent r (moved s _ spent spent h refl h.at)
  answer_spends s (call.Work mark) answer spent w q a n r h = absurd cc

  entry_spends : (s : State) (e : Entry) (spent : ℕ) → Allows s e.call e.reply → IsQuiet e → StartsNone e → Spends p start budget s spent → On s e.call e.reply spent
  unfolding after
  entry_spends s e spent a quiet none h = go (refuses s e.call) refl a.replied
    where
      unread : e.reply ≡ reply.NoMemory → On s e.call e.reply spent
      unread x = told_as s e.call e.reply reply.NoMemory spent x (moved s _ spent spent h refl tt)

      answered : refuses s e.call ≡ None → Answers s e.call e.reply → ((mark : ℕ) × (e.call ≡ call.Work mark)) ⊎ (is_work e.call ≡ false) → On s e.call e.reply spent
      answered i x (inl w) = (let P : Call → Type 0 = λ d. Answers s d e.reply → On s d e.reply spent in subst P (sym w.1) (λ r. work_spends s w.0 e.reply spent (live_run s) refl r h)) x
      answered i x (inr w) = elim (edits_or_not e.call) [
        | inl t ↦ elim (quiet t) [
          | inl q ↦ told_as s e.call e.reply (reply.Refused q.0) spent q.1 h
          | inr q ↦ unread q
        ]
        | inr u ↦ answer_spends s e.call e.reply spent w u (accepted_facts s e.call w i) none x h
      ]

      go : (o : Option Refusal) → refuses s e.call ≡ o → Replied s e.call e.reply o → On s e.call e.reply spent
      go (Some r) i (inl x) = told_as s e.call e.reply (reply.Refused r) spent x h
      go (Some r) i (inr x) = unread x.0
      go None i (inr x) = unread x.0
      go None i (inl x) = answered i x (work_or_not e.call)

  all_spend : (es : List Entry) (s : State) (spent : ℕ) → IsLegalFrom s es → All IsQuiet es → All StartsNone es → Spends p start budget s spent → Spends p start budget (after_all s es) (told_spent spent es)
  unfolding after_all told_spent
  all_spend [] s spent l q n h = h
  all_spend (e ∷ es) s spent l q n h = all_spend es (after s e.call e.reply) (spent_on spent e.reply) l.1 (All-tail IsQuiet e es q) (All-tail StartsNone e es n) (entry_spends s e spent l.0 (All-head IsQuiet e es q) (All-head StartsNone e es n) h)

-- at its start a solve has spent nothing
begins : (s : State) (b n : ℕ) → Spends s.problem (trimmed s.known) b (after s (call.Solve b) (reply.Started n)) 0
unfolding after
begins s b n = record {
  news = [];
  fresh = tt;
  told = refl;
  at = record { problem = refl; known_is = sym (append-nil (trimmed s.known)); spent = refl; budget_is = refl };
}

-- no status is a slice of work
status_calm : (v : Solve) (news : List (List ℕ)) → reply.Worked news Live ≢ status_of v
status_calm no_solve news e = absurd cc
status_calm (running r) news e = absurd cc
status_calm (paused r) news e = absurd cc
status_calm (ended k v) news e = absurd cc

waited_calm : (v : Solve) (news : List (List ℕ)) → reply.Worked news Live ≢ waited v
waited_calm no_solve news e = absurd cc
waited_calm (running r) news e = absurd cc
waited_calm (paused r) news e = absurd cc
waited_calm (ended k (Sat values)) news e = absurd cc
waited_calm (ended k (Unsat w)) news e = absurd cc
waited_calm (ended k (Unknown c)) news e = absurd cc

model_calm : (s : State) (v : Solve) (news : List (List ℕ)) → ¬ AnswersModel s v (reply.Worked news Live)
model_calm s (ended k (Sat values)) news e = absurd cc
model_calm s other news e = elim e [ ]

work_learns : (s : State) (mark : ℕ) (news : List (List ℕ)) (o : Option Run) → AnswersWork s o mark (reply.Worked news Live) → 0 < length news
work_learns s mark news (Some r) h = h.ends.2.0
work_learns s mark news None h = absurd cc

-- a slice that ends live has learnt something
answer_learns : (s : State) (c : Call) (news : List (List ℕ)) → Answers s c (reply.Worked news Live) → 0 < length news
answer_learns s (call.Vars n) news h = absurd cc
answer_learns s (call.Add c) news h = absurd cc
answer_learns s call.NewGuard news h = absurd cc
answer_learns s (call.Under gs c) news h = absurd cc
answer_learns s (call.DropGuard g) news h = absurd cc
answer_learns s (call.Assume ls) news h = absurd cc
answer_learns s call.Test news h = elim h [ ]
answer_learns s call.Untest news h = absurd cc
answer_learns s (call.Reasons m) news h = elim h [ ]
answer_learns s (call.Solve b) news h = absurd cc
answer_learns s call.Pause news h = absurd (status_calm (pausing s.solve) news h)
answer_learns s call.Resume news h = absurd (status_calm (resuming s.solve) news h)
answer_learns s call.Stop news h = absurd (status_calm (stopping s.solve) news h)
answer_learns s call.Poll news h = absurd (status_calm s.solve news h)
answer_learns s call.Wait news h = absurd (waited_calm s.solve news h)
answer_learns s call.Model news h = absurd (model_calm s s.solve news h)
answer_learns s call.Known news h = absurd cc
answer_learns s (call.KnownClause i) news h = absurd cc
answer_learns s (call.LoadCnf bytes) news h = absurd cc
answer_learns s call.Bye news h = absurd cc
answer_learns s call.Shut news h = absurd cc
answer_learns s (call.Work mark) news h = work_learns s mark news (live_run s) h

live_learns : (s : State) (c : Call) (news : List (List ℕ)) → Allows s c (reply.Worked news Live) → 0 < length news
live_learns s c news a = go (refuses s c) a.replied
  where
    go : (o : Option Refusal) → Replied s c (reply.Worked news Live) o → 0 < length news
    go (Some r) (inl x) = absurd cc
    go (Some r) (inr x) = absurd (cc x.0)
    go None (inl x) = answer_learns s c news x
    go None (inr x) = absurd (cc x.0)

live_low : (s : State) (c : Call) (answer : Reply) (spent : ℕ) → Allows s c answer → ((n : ℕ) → answer ≢ reply.Started n) → spent + live_of answer ≤ spent_on spent answer
live_low s c (reply.Worked news Live) spent a n = let l = live_learns s c news a in omega arith
live_low s c (reply.Worked news (Ended v)) spent a n = omega arith
live_low s c (reply.Started k) spent a n = absurd (n k refl)
live_low s c other spent a n = omega arith

all_live : (es : List Entry) (s : State) (spent : ℕ) → IsLegalFrom s es → All StartsNone es → spent + live_slices es ≤ told_spent spent es
unfolding live_slices told_spent
all_live [] s spent l n = omega arith
all_live (e ∷ es) s spent l n =
    let a = live_low s e.call e.reply spent l.0 (All-head StartsNone e es n) in
    let b = all_live es (after s e.call e.reply) (spent_on spent e.reply) l.1 (All-tail StartsNone e es n) in
    omega arith

legal_left : (es : List Entry) (more : List Entry) (s : State) → IsLegalFrom s (es ++ more) → IsLegalFrom s es × IsLegalFrom (after_all s es) more
unfolding after_all
legal_left [] more s h = (tt, h)
legal_left (e ∷ es) more s h = let r = legal_left es more (after s e.call e.reply) h.1 in ((h.0, r.0), r.1)

after_append : (es more : List Entry) (s : State) → after_all s (es ++ more) ≡ after_all (after_all s es) more
unfolding after_all
after_append [] more s = refl
after_append (e ∷ es) more s = after_append es more (after s e.call e.reply)

-- so much a solve under way has spent
under_way_spent : (p : Problem) (start news known : List (List ℕ)) (budget : ℕ) (q : Problem) (v : Solve) (r : Run) → IsAt p start budget news q known v → IsUnderWay v r → r.spent ≡ length news
under_way_spent p start news known budget q v r h (inl e) = (let g = subst (IsAt p start budget news q known) e h in g.spent)
under_way_spent p start news known budget q v r h (inr e) = (let g = subst (IsAt p start budget news q known) e h in g.spent)

pub solves_are_short : SolvesAreShort
unfolding after_all told_spent
solves_are_short es more by b n h quiet none =
    let e : Entry = record { by = by; call = call.Solve b; reply = reply.Started n } in
    let s : State = after_all opening es in
    let l = legal_left es (record { by = by; call = call.Solve b; reply = reply.Started n } ∷ more) opening h.each in
    let k = legal_from_kept es opening l.0 opening_kept in
    let start = trimmed s.known in
    let m : State = after s (call.Solve b) (reply.Started n) in
    let t : State = after_all m more in
    let g = all_spend s.problem start b more m 0 l.1.1 quiet none (begins s b n) in
    let le = few_news s.problem start g.news k.clauses g.fresh in
    let live = all_live more m 0 l.1.1 none in
    let told = g.told in
    subst (IsShort s.problem.vars b more) (sym (after_append es (record { by = by; call = call.Solve b; reply = reply.Started n } ∷ more) opening)) (record {
      news = omega arith;
      live = omega arith;
      run = λ r w. let q = under_way_spent s.problem start g.news t.known b t.problem t.solve r g.at w in omega arith;
      ended = λ k c e. let a = subst (IsAt s.problem start b g.news t.problem t.known) e g.at in (a.1, (let x = a.0 in let y = a.1 in omega arith));
    })
