-- What a turn does to what a seat knows, and what that is to its pass.
use Rattle.std.proofs.Common.{◌≡◌, ◌≢◌, ℕ, ◌+◌, ◌<◌, ◌≤◌, ◌==◌, ◌⊎◌, inl, inr, Option, Some, Bool, true, false, cond, List, [], ◌∷◌, ◌++◌, length, length-append, take, map, refl, ap, sym, ◌∙◌, subst, arith}
use Rattle.std.specs.Prelude.{slice_index_or, All, Contains}
use Rattle.std.proofs.lemmas.List.{map-append, length-map, append_assoc}
use Rattle.std.proofs.lemmas.List.Elements.{All-nil, All-head, All-map, All-weaker, recursion_from_All}
use Rattle.std.proofs.lemmas.Bool.{eqb-true}
use Rattle.std.specs.List.{AllByRecursion}
use Rattle.gi_model.specs.State.{State, Run, Solve, no_solve, running, paused, ended, Life, alive, shut, dead, opening, live_run, phase_of}
use Rattle.gi_model.specs.Refusals.{refuses}
use Rattle.gi_model.specs.Work.{AnswersWork}
use Rattle.gi_model.specs.declared.calls.Call.TheVariants as call
use Rattle.gi_model.specs.declared.phase.Phase.TheVariants as phase
use Rattle.gi_model.specs.History.{Entry, Step, Allows, takes_memory, after_all}
use Rattle.gi_model.specs.Effects.{after}
use Rattle.gi_model.specs.declared.calls.Call.{Call}
use Rattle.gi_model.specs.declared.replies.Reply.{Reply}
use Rattle.gi_model.specs.declared.replies.Reply.TheVariants as reply
use Rattle.gi_room.specs.Entries.{all_own_of}
use Rattle.gi_turn.specs.Entries.{At, IsGlance, phase_after, entry_of}
use Rattle.gi_turn.specs.Known.{Place}
use Rattle.gi_turn.specs.Steps.{HasEntered}
use Rattle.gi_turn.specs.Views.{KnowsPhases, KnowsMarks, OwnSeen, after_publish, first_view}
use Rattle.gi_turn.specs.declared.view.Entry.{Entry as Turn}
use Rattle.gi_turn.specs.declared.view.View.{View}
use Rattle.gi_turn.proofs.Entering.{entered_own, entered_glances}
use Rattle.gi_turn.proofs.Views.{at_below}
use Rattle.gi_model.proofs.Entering.{after_push, never_spent}
use Rattle.gi_room.specs.Telling.{told_of, call_in}
use Rattle.gi_room.specs.Histories.{entry_in, history_in, mark_of, phase_number, IsTurn, AreTurns, StandsFor}
use Rattle.gi_room.specs.Seen.{Seen, seen_of, glance_of, phase_at, IsPassView, MayAsk}
use Rattle.gi_room.specs.Hearing.{greatest, Hears, Heard}
use Rattle.gi_room.specs.Turning.{Worked, IsInTurn, Waited, Ended}
use Rattle.gi_room.specs.Calls.{Names, Adds, Heeds, looks_of, Works, Helps, Waits}
use Rattle.gi_room.proofs.Reading.{read_call, read_reply}
use Rattle.gi_room.proofs.Turns.{turns_push, turns_legal, phases_named, phase_back, foreign_rest}

no_rest : (seen rest : List Turn) → seen ++ rest ≡ seen → rest ≡ []
no_rest seen [] e = refl
no_rest seen (x ∷ xs) e = absurd (let l : length seen + length (x ∷ xs) ≡ length seen = sym (length-append seen (x ∷ xs)) ∙ ap length e in omega arith)

module _ {T : Type 0} (stands : T → List Turn → Type 0) (v : View) (t : T) (w : View) (h : HasEntered stands MayAsk v t w) where
  pub has_waited : 0 < v.left → Waited v w
  has_waited left =
      let starts = h.finds.starts in
      let is = h.view in
      let seen : w.seen ≡ v.seen ++ starts.0 = ap (λ (y : View). y.seen) is ∙ starts.1 in record {
        others = starts.0;
        seen = seen;
        foreign = foreign_rest v.held v.seen starts.0 (subst (OwnSeen v) seen (entered_own stands MayAsk v t w h));
        alone = λ sole. no_rest v.seen starts.0 (sym starts.1 ∙ (h.finds.sole sole).0);
        left = (let l = ap (λ (y : View). y.left) is in omega arith);
        number = ap (λ (y : View). y.number) is;
        held = ap (λ (y : View). y.held) is;
        kin = ap (λ (y : View). y.kin) is;
        splits = ap (λ (y : View). y.splits) is;
        asked = ap (λ (y : View). y.asked) is;
        sees = (let s = ap (λ (y : View). y.sees) is in omega arith);
        reached = All-weaker (IsGlance w.opened w.seen) (λ (g : ℕ × ℕ). g.0 ≤ length w.seen) (λ g a. a.0) w.glances (entered_glances stands MayAsk v t w h);
      }

  pub no_fresh : w.fresh ≡ []
  no_fresh = ap (λ (y : View). y.fresh) h.view

  pub has_turn : IsPassView v → AreTurns opening w.seen → IsInTurn w
  has_turn kept turns = record {
    turn = ap (λ (y : View). y.turn) h.view;
    opened = ap (λ (y : View). y.opened) h.view ∙ kept.opened;
    turns = turns;
    own = subst (λ (y : View). Contains y.held y.number) (sym h.view) kept.own;
  }

-- the turn that an answered call leaves
made_turn : (s t : State) (by p : ℕ) (what : Call) (answer : Reply) → p ≡ phase_number (phase_of t) → Step s what answer t → IsTurn s (entry_of by p (mark_of what) (told_of what answer))
made_turn s t by p what answer is step = record {
  allowed = subst (λ r. Allows s (call_in (told_of what answer)) r) (sym (read_reply what answer)) (subst (λ c. Allows s c answer) (sym (read_call what answer)) step.allowed);
  phase = is ∙ ap (λ u. phase_number (phase_of u)) (step.new_is ∙ (λ i. after s (sym (read_call what answer) i) (sym (read_reply what answer) i)));
  mark = ap mark_of (sym (read_call what answer));
}

-- its entry
entry_back : (by p mark : ℕ) (what : Call) (answer : Reply) → entry_in (entry_of by p mark (told_of what answer)) ≡ record { by = by; call = what; reply = answer }
entry_back by p mark what answer = λ i. record { by = by; call = read_call what answer i; reply = read_reply what answer i }

-- a machine that made one step more stands for one turn more
pub stands_on : (log : List Turn) (t : State) (by p : ℕ) (what : Call) (answer : Reply) → p ≡ phase_number (phase_of t) → AreTurns opening log → Step (after_all opening (history_in log)) what answer t
    → StandsFor t (log ++ entry_of by p (mark_of what) (told_of what answer) ∷ [])
stands_on log t by p what answer is turns step =
    let e : Turn = entry_of by p (mark_of what) (told_of what answer) in
    let more : history_in (log ++ e ∷ []) ≡ history_in log ++ record { by = by; call = what; reply = answer } ∷ [] = map-append entry_in log (e ∷ []) ∙ ap (λ (x : Entry). history_in log ++ x ∷ []) (entry_back by p (mark_of what) what answer) in record {
      turns = turns_push log e opening turns (made_turn (after_all opening (history_in log)) t by p what answer is step);
      state = step.new_is ∙ sym (after_push (history_in log) (record { by = by; call = what; reply = answer }) opening) ∙ ap (after_all opening) (sym more);
    }

pub has_ended : (t : State) (p : ℕ) (what : Call) (answer : Reply) (v w : View) → p ≡ phase_number (phase_of t) → IsInTurn v → Step (after_all opening (history_in v.seen)) what answer t
    → w ≡ after_publish v (entry_of v.number p (mark_of what) (told_of what answer)) → KnowsPhases w → KnowsMarks MayAsk w → Ended what answer v w
has_ended t p what answer v w is turn step published phases marks = record {
  phase = p;
  allowed = step.allowed;
  seen = ap (λ (y : View). y.seen) published;
  kept = record {
    idle = ap (λ (y : View). y.turn) published;
    opened = ap (λ (y : View). y.opened) published ∙ turn.opened;
    turns = subst (λ (y : View). AreTurns opening y.seen) (sym published) (stands_on v.seen t v.number p what answer is turn.turns step).turns;
    phases = phases;
    marks = marks;
    own = subst (λ (y : View). Contains y.held y.number) (sym published) turn.own;
  };
  left = ap (λ (y : View). y.left) published;
  number = ap (λ (y : View). y.number) published;
  held = ap (λ (y : View). y.held) published;
  kin = ap (λ (y : View). y.kin) published;
  splits = ap (λ (y : View). y.splits) published;
  asked = ap (λ (y : View). y.asked) published;
  glances = ap (λ (y : View). y.glances) published;
  sees = ap (λ (y : View). y.sees) published;
}

-- what all glances name
names : (v : View) → v.opened ≡ 0 → AreTurns opening v.seen → (g : ℕ × ℕ) → (g.0 ≤ length v.seen → g.1 ≡ phase_after v.opened (take g.0 v.seen)) → g.0 ≤ length v.seen → Names (history_in v.seen) (glance_of g)
names v opened turns g is reached = ap phase_at (is reached ∙ phases_named v.seen opening v.opened g.0 turns opened) ∙ phase_back (phase_of (after_all opening (take g.0 (history_in v.seen))))

pub glances_named : (v : View) → v.opened ≡ 0 → AreTurns opening v.seen → KnowsPhases v → All (λ g. g.0 ≤ length (history_in v.seen) → Names (history_in v.seen) g) (map glance_of v.glances)
glances_named v opened turns knows = All-map (λ g. g.0 ≤ length (history_in v.seen) → Names (history_in v.seen) g) glance_of v.glances
    (All-weaker (λ (g : ℕ × ℕ). g.0 ≤ length v.seen → g.1 ≡ phase_after v.opened (take g.0 v.seen)) (λ g. g.0 ≤ length (history_in v.seen) → Names (history_in v.seen) (glance_of g))
    (λ g is reached. names v opened turns g is (subst (λ n. g.0 ≤ n) (length-map v.seen entry_in) reached)) v.glances knows)

reached_all : (u w : View) (e : Turn) → w.seen ≡ u.seen ++ e ∷ [] → w.glances ≡ u.glances → All (λ g. g.0 ≤ length u.seen) u.glances → w.opened ≡ 0 → AreTurns opening w.seen → KnowsPhases w
    → All (λ g. (g.0 ≤ length (history_in w.seen)) × Names (history_in w.seen) g) (map glance_of w.glances)
reached_all u w e seen same reached opened turns knows =
    let more : length w.seen ≡ length u.seen + 1 = ap length seen ∙ length-append u.seen (e ∷ []) in
    let within : All (λ (g : ℕ × ℕ). g.0 ≤ length w.seen) w.glances = subst (λ gs. All (λ (g : ℕ × ℕ). g.0 ≤ length w.seen) gs) (sym same) (All-weaker (λ (g : ℕ × ℕ). g.0 ≤ length u.seen) (λ g. g.0 ≤ length w.seen) (λ g l. omega arith) u.glances reached) in
    All-map (λ g. (g.0 ≤ length (history_in w.seen)) × Names (history_in w.seen) g) glance_of w.glances
    (λ k d lt. (subst (λ n. (slice_index_or w.glances k d).0 ≤ n) (sym (length-map w.seen entry_in)) (within k d lt), names w opened turns (slice_index_or w.glances k d) (knows k d lt) (within k d lt)))

own_none : (held : List ℕ) (n : ℕ) (es : List Entry) → Contains held n → AllByRecursion (λ (e : Entry). ¬ Contains held e.by) es → all_own_of n es ≡ []
own_none held n [] has none = refl
own_none held n (e ∷ es) has none = go (e.by == n) refl (own_none held n es has none.1)
  where
    go : (b : Bool) → (e.by == n) ≡ b → all_own_of n es ≡ [] → cond b (e ∷ all_own_of n es) (all_own_of n es) ≡ []
    go true is rest = absurd (none.0 (subst (Contains held) (sym (eqb-true e.by n is)) has))
    go false is rest = rest

-- what the pass has made
pub adds : (place : Place) (what : Call) (answer : Reply) (v u w : View) → Contains v.held v.number → Waited v u → Ended what answer u w → Adds what answer (seen_of place v) (seen_of place w)
adds place what answer v u w holds waits ends =
    let e : Turn = entry_of u.number ends.phase (mark_of what) (told_of what answer) in
    let own : Entry = record { by = v.number; call = what; reply = answer } in record {
      others = history_in waits.others;
      foreign = All-map (λ (x : Entry). ¬ Contains v.held x.by) entry_in waits.others waits.foreign;
      no_own = own_none v.held v.number (history_in waits.others) holds (recursion_from_All (λ (x : Entry). ¬ Contains v.held x.by) (history_in waits.others) (All-map (λ (x : Entry). ¬ Contains v.held x.by) entry_in waits.others waits.foreign));
      alone = λ sole. ap history_in (waits.alone sole);
      history = ap history_in ends.seen ∙ map-append entry_in u.seen (e ∷ []) ∙ ap (λ es. history_in es ++ entry_in e ∷ []) waits.seen ∙ ap (λ es. es ++ entry_in e ∷ []) (map-append entry_in v.seen waits.others)
          ∙ append_assoc (history_in v.seen) (history_in waits.others) (entry_in e ∷ []) ∙ ap (λ (x : Entry). history_in v.seen ++ (history_in waits.others ++ x ∷ [])) (entry_back u.number ends.phase (mark_of what) what answer ∙ ap (λ n. record { by = n; call = what; reply = answer }) waits.number);
      legal = record { each = turns_legal w.seen opening ends.kept.turns };
      left = waits.left ∙ ap (λ n. n + 1) (sym ends.left);
      holds = record {
        place = refl;
        number = ends.number ∙ waits.number;
        held = ends.held ∙ waits.held;
        kin = ends.kin ∙ waits.kin;
        splits = ends.splits ∙ waits.splits;
        asked = ends.asked ∙ waits.asked;
      };
      sees = (let a = waits.sees in let b = ends.sees in omega arith);
      reached = reached_all u w e ends.seen ends.glances waits.reached ends.kept.opened ends.kept.turns ends.kept.phases;
    }

work_done : (s : State) (run : Run) (mark : ℕ) (r : Reply) → AnswersWork s (Some run) mark r → r ≢ reply.Idle
work_done s run mark (reply.Worked news now) a e = absurd cc
work_done s run mark r a e = elim a [ ]

has_run : (s : State) → phase_of s ≡ phase.Live → (r : Run) × (live_run s ≡ Some r)
has_run s e = go s.life s.solve e
  where
    go : (l : Life) (v : Solve) → phase_of (record s { life = l; solve = v }) ≡ phase.Live → (r : Run) × (live_run (record s { life = l; solve = v }) ≡ Some r)
    go alive (running r) e = (r, refl)
    go alive no_solve e = absurd cc
    go alive (paused r) e = absurd cc
    go alive (ended n w) e = absurd cc
    go shut v e = absurd cc
    go dead v e = absurd cc

-- work on a running solve isn't idle
pub busy : (s : State) (mark : ℕ) (r : Reply) → phase_of s ≡ phase.Live → Allows s (call.Work mark) r → r ≢ reply.Idle
unfolding refuses
busy s mark r live a = let run = has_run s live in go (live_run s) run.0 run.1 a.replied
  where
    go : (o : Option Run) (run : Run) → o ≡ Some run → AnswersWork s o mark r ⊎ ((r ≡ reply.NoMemory) × (takes_memory s (call.Work mark) ≡ true)) → r ≢ reply.Idle
    go o run e (inl x) = work_done s run mark r (subst (λ (o : Option Run). AnswersWork s o mark r) e x)
    go o run e (inr x) = λ idle. (let never : reply.NoMemory ≡ reply.Idle = sym x.0 ∙ idle in absurd cc)

-- work is never answered that no call was left
pub never_out : (s : State) (mark : ℕ) (r : Reply) → Allows s (call.Work mark) r → r ≢ reply.Spent
never_out s mark r a e = never_spent s (call.Work mark) (subst (Allows s (call.Work mark)) e a)

helps_by : (answer : Reply) (old new : Seen) → answer ≢ reply.Spent → Works answer old new → Helps answer old new
helps_by reply.Spent old new never h = absurd (never refl)
helps_by answer old new never h = h

greatest_first : (ms : List ℕ) (k : ℕ) → 0 < length ms → All (λ m. k ≤ m) ms → k ≤ greatest ms
unfolding greatest
greatest_first [] k some all = absurd (omega arith)
greatest_first (m ∷ ms) k some all = let l = All-head (λ m. k ≤ m) m ms all in omega arith

-- what was heard keeps the turn, and what is to be waited for
pub turn_heard : (v w : View) → IsInTurn v → Hears v w → IsInTurn w
turn_heard v w turn h = subst IsInTurn (sym h.view) record { turn = turn.turn; opened = turn.opened; turns = turn.turns; own = turn.own }

pub waited_heard : (u v w : View) → Waited u v → Hears v w → Waited u w
waited_heard u v w waits h = subst (Waited u) (sym h.view) record {
  others = waits.others;
  seen = waits.seen;
  foreign = waits.foreign;
  alone = waits.alone;
  left = waits.left;
  number = waits.number;
  held = waits.held;
  kin = waits.kin;
  splits = waits.splits;
  asked = waits.asked;
  sees = (let s = waits.sees in omega arith);
  reached = waits.reached;
}

pub seen_heard : (v w : View) → Hears v w → w.seen ≡ v.seen
seen_heard v w h = ap (λ (y : View). y.seen) h.view

-- in a room
module _ (old : Seen) (place after : Place) (v u w : View) (is : seen_of place v ≡ old) (same : after ≡ place) (own : Contains v.held v.number) (waits : Waited v u) where
  pub adds_as : (what : Call) (answer : Reply) → Ended what answer u w → Adds what answer old (seen_of after w)
  adds_as what answer ends = subst (λ (p : Seen). Adds what answer p (seen_of after w)) is (subst (λ (q : Place). Adds what answer (seen_of place v) (seen_of q w)) (sym same) (adds place what answer v u w own waits ends))

-- and a turn of work
module _ (old : Seen) (place after : Place) (v u w : View) (is : seen_of place v ≡ old) (same : after ≡ place) (own : Contains v.held v.number) (waits : Waited v u) where
  heeds : (answer : Reply) (mark : ℕ) (x : View) → Heard mark answer u x → Heeds answer old.asked mark
  heeds (reply.Worked news now) mark x heard =
      let hears = heard.hears in
      let asked : old.asked ≡ u.asked = sym (ap (λ (p : Seen). p.asked) is) ∙ sym waits.asked in
      λ m l has. subst (λ n. m ≤ n) (sym heard.greatest_is) (greatest_first hears.more m (let a = heard.asks in omega arith) (All-weaker (λ k. (mark l : ℕ) → Contains u.asked (mark, l) → mark ≤ k) (λ k. m ≤ k) (λ k h. h m l (subst (λ (xs : List (ℕ × ℕ)). Contains xs (m, l)) asked has)) hears.more hears.asked))
  heeds answer mark x heard = tt

  looks : (answer : Reply) (mark : ℕ) (x : View) → Heard mark answer u x → w.sees ≡ x.sees → old.sees + looks_of answer ≤ (seen_of after w).sees
  looks (reply.Worked news now) mark x heard kept = (let s = waits.sees in let e = ap (λ (p : Seen). p.sees) is in let d = ap (λ (y : View). y.sees) heard.hears.view in let a = heard.asks in omega arith)
  looks answer mark x heard kept = (let s = waits.sees in let e = ap (λ (p : Seen). p.sees) is in let d = ap (λ (y : View). y.sees) heard.hears.view in omega arith)

  pub works_as : (answer : Reply) → Worked answer u w → Works answer old (seen_of after w)
  works_as answer done = record {
    mark = done.mark;
    adds = adds_as old place after v done.mid w is same own (waited_heard v u done.mid waits done.heard.hears) (call.Work done.mark) answer done.ended;
    heeds = heeds answer done.mark done.mid done.heard;
    looks = looks answer done.mark done.mid done.heard done.ended.sees;
  }

  pub helps_as : (answer : Reply) → Worked answer u w → Helps answer old (seen_of after w)
  helps_as answer done = helps_by answer old (seen_of after w) (never_out (after_all opening (history_in done.mid.seen)) done.mark answer done.ended.allowed) (works_as answer done)

  pub waits_as : (answer : Reply) (what : Call) → what ≡ call.Wait → phase_of (after_all opening (history_in u.seen)) ≡ phase.Live → Worked answer u w → Waits what old (seen_of after w)
  waits_as answer what wait live done = record {
    wait = wait;
    answer = answer;
    busy = busy (after_all opening (history_in done.mid.seen)) done.mark answer (ap (λ log. phase_of (after_all opening (history_in log))) (seen_heard u done.mid done.heard.hears) ∙ live) done.ended.allowed;
    works = works_as answer done;
  }

-- a new room
pub stands_new : (s : State) → s ≡ opening → StandsFor s []
unfolding AreTurns after_all
stands_new s is = record { turns = tt; state = is }

at_nothing : (k : ℕ) (e : Turn) → At [] k e → ⊥
at_nothing k e at = (let l = at_below [] k e at in omega arith)

pub kept_new : (v : View) → v ≡ first_view 0 → IsPassView v
unfolding AreTurns
kept_new v is = subst IsPassView (sym is) record {
  idle = refl;
  opened = refl;
  turns = tt;
  phases = All-nil _;
  marks = ((λ k e at. absurd (at_nothing k e at)), (λ sole k e at. absurd (at_nothing k e at)), (λ sole k e at. absurd (at_nothing k e at)));
  own = (0, omega arith, refl);
}
