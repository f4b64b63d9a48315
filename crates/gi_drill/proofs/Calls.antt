-- One call after another.
use Rattle.std.proofs.Common.{◌≡◌, ◌≢◌, ℕ, ◌+◌, Bool, true, false, Option, Some, None, List, [], ◌∷◌, ◌++◌, length, map, refl, ap, sym, ◌∙◌, subst, ◌⊎◌, inl, inr}
use Rattle.std.specs.List.{AllByRecursion}
use Rattle.gi_lit.specs.Lists.{IsSublist}
use Rattle.gi_lit.specs.Truth.{Satisfies, MakesTrue, Fail}
use Rattle.gi_lit.specs.Problem.{Problem, in_force}
use Rattle.gi_model.specs.Loads.{bad_payload}
use Rattle.gi_model.specs.State.{State, Run, Solve, running, ended, alive, live_run, dead_state}
use Rattle.gi_model.specs.Refusals.{refuses, tests, first_of, is_work}
use Rattle.gi_model.specs.Effects.{after, worked}
use Rattle.gi_model.specs.Work.{AnswersWork, EndsWork, Works}
use Rattle.gi_model.specs.History.{Allows, Answers, Entry, IsLegalFrom, IsRefused, Replied, takes_memory}
use Rattle.gi_model.specs.declared.calls.Call.{Call}
use Rattle.gi_model.specs.declared.calls.Call.TheVariants as call
use Rattle.gi_model.specs.declared.replies.Reply.{Reply}
use Rattle.gi_model.specs.declared.replies.Reply.TheVariants as reply
use Rattle.gi_model.specs.declared.replies.Now.{Now}
use Rattle.gi_model.specs.declared.replies.Now.TheVariants.{Live, Ended}
use Rattle.gi_model.specs.declared.replies.Verdict.{Verdict}
use Rattle.gi_model.specs.declared.replies.Verdict.TheVariants.{Sat, Unsat, Unknown}
use Rattle.gi_model.specs.declared.replies.Cause.TheVariants.{Stopped, Budget}
use Rattle.gi_model.specs.declared.refusal.Refusal.{Refusal}
use Rattle.gi_model.specs.declared.refusal.Refusal.TheVariants as refusal
use Rattle.gi_drill.specs.declared.tally.Tally.{Tally}
use Rattle.gi_drill.specs.Counting.{new_tally, noted, tally_from}
use Rattle.gi_drill.specs.Laws.{IsLively, IsTaken, without_work}

-- entries that a state allows, which make these calls
pub record Ahead (s : State) (calls : List Call) (es : List Entry) : Type 0 where
  pub legal : IsLegalFrom s es
  pub calls_are : map (λ (e : Entry). e.call) (without_work es) ≡ calls
  pub lively : AllByRecursion (λ (e : Entry). IsLively e.reply) (without_work es)

-- what comes of them
pub record Comes (goal : Tally → Type 0) (t : Tally) (es : List Entry) : Type 0 where
  pub tally : goal (tally_from t es)
  pub taken : AllByRecursion IsTaken es

-- an answer that is no refusal
abbrev pub IsNone : Reply → Type 0
IsNone answer = (r : Refusal) → answer ≢ reply.Refused r

work_or_not : (c : Call) → ((mark : ℕ) × (c ≡ call.Work mark)) ⊎ (is_work c ≡ false)
work_or_not (call.Work mark) = inl (mark, refl)
work_or_not other = inr refl

-- without a running solve work is idle
idle_work : (s : State) (mark : ℕ) (answer : Reply) → live_run s ≡ None → Allows s (call.Work mark) answer → answer ≡ reply.Idle
unfolding refuses
idle_work s mark answer rests a = go a.replied
  where
    go : (AnswersWork s (live_run s) mark answer) ⊎ ((answer ≡ reply.NoMemory) × (takes_memory s (call.Work mark) ≡ true)) → answer ≡ reply.Idle
    go (inl x) = let P : Option Run → Type 0 = λ o. AnswersWork s o mark answer in subst P rests x
    go (inr x) = let q : false ≡ true = rw rests at x.1 in absurd cc

idle_after : (s : State) (mark : ℕ) → live_run s ≡ None → after s (call.Work mark) reply.Idle ≡ s
unfolding after
idle_after s mark rests = ap (λ (o : Option Run). worked o reply.Idle s) rests

-- work is no call
ahead_work : (s new : State) (calls : List Call) (e : Entry) (es : List Entry) → is_work e.call ≡ true → after s e.call e.reply ≡ new → Ahead s calls (e ∷ es) → Ahead new calls es
ahead_work s new calls e es w same h = record { legal = subst (λ (x : State). IsLegalFrom x es) same h.legal.1; calls_are = rw w at h.calls_are; lively = rw w at h.lively }

comes_work : (goal : Tally → Type 0) (t : Tally) (e : Entry) (es : List Entry) (mark : ℕ) → e.call ≡ call.Work mark → IsTaken e → Comes goal t es → Comes goal t (e ∷ es)
unfolding tally_from
comes_work goal t e es mark is taken h = record { tally = subst (λ (c : Call). goal (tally_from (noted t c e.reply) es)) (sym is) h.tally; taken = (taken, h.taken) }

-- what the rest comes to, once a call was allowed
abbrev pub Goes : (Tally → Type 0) → Tally → State → Call → List Call → Type 0
Goes goal t s c cs = (answer : Reply) (rest : List Entry) → Allows s c answer → IsLively answer → Ahead (after s c answer) cs rest → IsNone answer × Comes goal (noted t c answer) rest

own_call : (goal : Tally → Type 0) (t : Tally) (s : State) (c : Call) (cs : List Call) (e : Entry) (es : List Entry) → is_work e.call ≡ false → Ahead s (c ∷ cs) (e ∷ es) → Goes goal t s c cs → Comes goal t (e ∷ es)
unfolding tally_from
own_call goal t s c cs e es f h k =
    let q : e.call ∷ map (λ (e : Entry). e.call) (without_work es) ≡ c ∷ cs = rw f at h.calls_are in
    let is : e.call ≡ c = cc in
    let others : map (λ (e : Entry). e.call) (without_work es) ≡ cs = cc in
    let l : IsLively e.reply × AllByRecursion (λ (e : Entry). IsLively e.reply) (without_work es) = rw f at h.lively in
    let a : Allows s c e.reply = subst (λ (d : Call). Allows s d e.reply) is h.legal.0 in
    let r = k e.reply es a l.0 (record { legal = subst (λ (d : Call). IsLegalFrom (after s d e.reply) es) is h.legal.1; calls_are = others; lively = l.1 }) in
    record { tally = subst (λ (d : Call). goal (tally_from (noted t d e.reply) es)) (sym is) r.1.tally; taken = (r.0, r.1.taken) }

idle_none : (answer : Reply) → answer ≡ reply.Idle → IsNone answer
idle_none answer e r q = let n : reply.Idle ≡ reply.Refused r = sym e ∙ q in absurd cc

-- the next call, where no solve is running
pub next_call : (goal : Tally → Type 0) (t : Tally) (s : State) (c : Call) (cs : List Call) (es : List Entry) → live_run s ≡ None → Ahead s (c ∷ cs) es → Goes goal t s c cs → Comes goal t es
next_call goal t s c cs [] rests h k = let q : [] ≡ c ∷ cs = h.calls_are in absurd cc
next_call goal t s c cs (e ∷ es) rests h k = elim (work_or_not e.call) [
  | inl w ↦
      let idle = idle_work s w.0 e.reply rests (subst (λ (d : Call). Allows s d e.reply) w.1 h.legal.0) in
      let same : after s e.call e.reply ≡ s = ap (λ (d : Call). after s d e.reply) w.1 ∙ ap (after s (call.Work w.0)) idle ∙ idle_after s w.0 rests in
      comes_work goal t e es w.0 w.1 (idle_none e.reply idle) (next_call goal t s c cs es rests (ahead_work s s (c ∷ cs) e es (ap is_work w.1) same h) k)
  | inr f ↦ own_call goal t s c cs e es f h k
]

-- no call is left
pub no_more : (goal : Tally → Type 0) (t : Tally) (s : State) (es : List Entry) → live_run s ≡ None → goal t → Ahead s [] es → Comes goal t es
unfolding tally_from
no_more goal t s [] rests g h = record { tally = g; taken = tt }
no_more goal t s (e ∷ es) rests g h = elim (work_or_not e.call) [
  | inl w ↦
      let idle = idle_work s w.0 e.reply rests (subst (λ (d : Call). Allows s d e.reply) w.1 h.legal.0) in
      let same : after s e.call e.reply ≡ s = ap (λ (d : Call). after s d e.reply) w.1 ∙ ap (after s (call.Work w.0)) idle ∙ idle_after s w.0 rests in
      comes_work goal t e es w.0 w.1 (idle_none e.reply idle) (no_more goal t s es rests g (ahead_work s s [] e es (ap is_work w.1) same h))
  | inr f ↦ (let q : e.call ∷ map (λ (e : Entry). e.call) (without_work es) ≡ [] = rw f at h.calls_are in absurd cc)
]

-- a machine that died refuses the next call
dead_answer : (answer : Reply) → Allows dead_state call.Wait answer → IsLively answer → ⊥
unfolding refuses
dead_answer answer a l = go a.replied
  where
    go : IsRefused call.Wait answer refusal.Dead → ⊥
    go (inl x) = l.alive x
    go (inr x) = l.memory x.0

pub dead_wait : (cs : List Call) (es : List Entry) → Ahead dead_state (call.Wait ∷ cs) es → ⊥
dead_wait cs es h = (next_call (λ t. ⊥) new_tally dead_state call.Wait cs es refl h (λ answer rest a l ahead. absurd (dead_answer answer a l))).tally

none_first : (ts : List (Bool × Refusal)) (last : Option Refusal) → AllByRecursion (λ (t : Bool × Refusal). t.0 ≡ false) ts → first_of ts last ≡ last
none_first [] last h = refl
none_first (t ∷ ts) last h = rw h.0 (none_first ts last h.1)

-- no condition of the table holds
pub accepts : (s : State) (c : Call) → is_work c ≡ false → AllByRecursion (λ (t : Bool × Refusal). t.0 ≡ false) (tests s c) → bad_payload c ≡ None → refuses s c ≡ None
unfolding refuses
accepts s c w a b = rw w (none_first (tests s c) (bad_payload c) a ∙ b)

pub answered : (s : State) (c : Call) (answer : Reply) → refuses s c ≡ None → IsLively answer → Allows s c answer → Answers s c answer
answered s c answer n l a = go (subst (λ (o : Option Refusal). Replied s c answer o) n a.replied)
  where
    go : Replied s c answer None → Answers s c answer
    go (inl x) = x
    go (inr x) = absurd (l.memory x.0)

-- a call with one answer
pub take : (goal : Tally → Type 0) (t : Tally) (s : State) (c : Call) (cs : List Call) (es : List Entry) (answer : Reply) → live_run s ≡ None → refuses s c ≡ None
    → ((x : Reply) → Answers s c x → x ≡ answer) → IsNone answer → Ahead s (c ∷ cs) es → ((rest : List Entry) → Ahead (after s c answer) cs rest → Comes goal (noted t c answer) rest) → Comes goal t es
take goal t s c cs es answer rests n one none h k = next_call goal t s c cs es rests h (λ x rest a l ahead.
    let e = one x (answered s c x n l a) in
    (subst IsNone (sym e) none, subst (λ (y : Reply). Comes goal (noted t c y) rest) (sym e) (k rest (subst (λ (y : Reply). Ahead (after s c y) cs rest) e ahead))))

-- a machine that is alive, with no scope
abbrev pub at : Problem → List ℕ → List (List ℕ) → Solve → ℕ → State
at p pending known solve serial = record { problem = p; known = known; pending = pending; scopes = []; solve = solve; serial = serial; life = alive }

-- what a solve found
abbrev pub IsFound : Problem → List ℕ → Verdict → Type 0
IsFound p assumed (Sat values) = Satisfies values (in_force p assumed) × MakesTrue values assumed
IsFound p assumed (Unsat w) = IsSublist w assumed × Fail (in_force p w) w
IsFound p assumed (Unknown c) = Unit {0}

found : (s : State) (r : Run) (mark : ℕ) (news : List (List ℕ)) (v : Verdict) → EndsWork s r mark news (Ended v) → IsFound s.problem r.assumed v
found s r mark news (Sat values) e = (e.2.clauses, e.2.lits)
found s r mark news (Unsat w) e = (e.2.some, e.2.fails)
found s r mark news (Unknown (Stopped k)) e = tt
found s r mark news (Unknown (Budget b)) e = tt

-- what the rest comes to, once the solve has ended
abbrev pub Ends : (Tally → Type 0) → Tally → Problem → List ℕ → ℕ → ℕ → List ℕ → List Call → Type 0
Ends goal t p pending serial n assumed cs = (known : List (List ℕ)) (v : Verdict) (answer : Reply) (rest : List Entry) → IsFound p assumed v → Allows (at p pending known (ended n v) serial) call.Wait answer → IsLively answer
    → Ahead (after (at p pending known (ended n v) serial) call.Wait answer) cs rest → IsNone answer × Comes goal (noted t call.Wait answer) rest

-- a solve that is running answers work, or memory was wanting
work_shape : (s : State) (r : Run) (mark : ℕ) (answer : Reply) → live_run s ≡ Some r → Allows s (call.Work mark) answer → (answer ≡ reply.NoMemory) ⊎ ((news : List (List ℕ)) × (now : Now) × (answer ≡ reply.Worked news now) × Works s r mark news now)
unfolding refuses
work_shape s r mark answer runs a = go a.replied
  where
    shape : (x : Reply) → AnswersWork s (Some r) mark x → (x ≡ reply.NoMemory) ⊎ ((news : List (List ℕ)) × (now : Now) × (x ≡ reply.Worked news now) × Works s r mark news now)
    shape (reply.Worked news now) w = inr (news, now, refl, w)
    shape other w = elim w [ ]

    go : (AnswersWork s (live_run s) mark answer) ⊎ ((answer ≡ reply.NoMemory) × (takes_memory s (call.Work mark) ≡ true)) → (answer ≡ reply.NoMemory) ⊎ ((news : List (List ℕ)) × (now : Now) × (answer ≡ reply.Worked news now) × Works s r mark news now)
    go (inl x) = shape answer (let P : Option Run → Type 0 = λ o. AnswersWork s o mark answer in subst P runs x)
    go (inr x) = inl x.0

dies : (s : State) (c : Call) → after s c reply.NoMemory ≡ dead_state
unfolding after
dies s c = refl

goes_on : (p : Problem) (pending : List ℕ) (known : List (List ℕ)) (serial : ℕ) (r : Run) (mark : ℕ) (news : List (List ℕ)) → after (at p pending known (running r) serial) (call.Work mark) (reply.Worked news Live) ≡ at p pending (known ++ news) (running (record r { spent = r.spent + length news; slices = r.slices + 1 })) serial
unfolding after
goes_on p pending known serial r mark news = refl

comes_to_end : (p : Problem) (pending : List ℕ) (known : List (List ℕ)) (serial : ℕ) (r : Run) (mark : ℕ) (news : List (List ℕ)) (v : Verdict) → after (at p pending known (running r) serial) (call.Work mark) (reply.Worked news (Ended v)) ≡ at p pending (known ++ news) (ended r.serial v) serial
unfolding after
comes_to_end p pending known serial r mark news v = refl

-- where a slice leaves the solve
by_now : (goal : Tally → Type 0) (t : Tally) (p : Problem) (pending : List ℕ) (known : List (List ℕ)) (serial : ℕ) (r : Run) (n : ℕ) (assumed : List ℕ) (cs : List Call) (e : Entry) (es : List Entry) (mark : ℕ) (news : List (List ℕ)) (now : Now)
    → r.serial ≡ n → r.assumed ≡ assumed → e.call ≡ call.Work mark → e.reply ≡ reply.Worked news now → Works (at p pending known (running r) serial) r mark news now → Ahead (at p pending known (running r) serial) (call.Wait ∷ cs) (e ∷ es) → Ends goal t p pending serial n assumed cs
    → ((known' : List (List ℕ)) (q : Run) → q.serial ≡ n → q.assumed ≡ assumed → Ahead (at p pending known' (running q) serial) (call.Wait ∷ cs) es → Comes goal t es) → Comes goal t es
by_now goal t p pending known serial r n assumed cs e es mark news Live same given is answer w h k again =
    let s = at p pending known (running r) serial in
    let eq : after s e.call e.reply ≡ at p pending (known ++ news) (running (record r { spent = r.spent + length news; slices = r.slices + 1 })) serial = ap (λ (d : Call). after s d e.reply) is ∙ ap (after s (call.Work mark)) answer ∙ goes_on p pending known serial r mark news in
    again (known ++ news) (record r { spent = r.spent + length news; slices = r.slices + 1 }) same given (ahead_work s (at p pending (known ++ news) (running (record r { spent = r.spent + length news; slices = r.slices + 1 })) serial) (call.Wait ∷ cs) e es (ap is_work is) eq h)
by_now goal t p pending known serial r n assumed cs e es mark news (Ended v) same given is answer w h k again =
    let s = at p pending known (running r) serial in
    let eq : after s e.call e.reply ≡ at p pending (known ++ news) (ended n v) serial = ap (λ (d : Call). after s d e.reply) is ∙ ap (after s (call.Work mark)) answer ∙ comes_to_end p pending known serial r mark news v ∙ ap (λ (m : ℕ). at p pending (known ++ news) (ended m v) serial) same in
    next_call goal t (at p pending (known ++ news) (ended n v) serial) call.Wait cs es refl (ahead_work s (at p pending (known ++ news) (ended n v) serial) (call.Wait ∷ cs) e es (ap is_work is) eq h)
    (λ x rest a l ahead. k (known ++ news) v x rest (subst (λ (ls : List ℕ). IsFound p ls v) given (found s r mark news v w.ends)) a l ahead)

worked_none : (answer : Reply) (news : List (List ℕ)) (now : Now) → answer ≡ reply.Worked news now → IsNone answer
worked_none answer news now e r q = let n : reply.Worked news now ≡ reply.Refused r = sym e ∙ q in absurd cc

-- work while a solve is running
busy : (goal : Tally → Type 0) (t : Tally) (p : Problem) (pending : List ℕ) (known : List (List ℕ)) (serial : ℕ) (r : Run) (n : ℕ) (assumed : List ℕ) (cs : List Call) (e : Entry) (es : List Entry) (mark : ℕ)
    → r.serial ≡ n → r.assumed ≡ assumed → e.call ≡ call.Work mark → Ahead (at p pending known (running r) serial) (call.Wait ∷ cs) (e ∷ es) → Ends goal t p pending serial n assumed cs
    → ((known' : List (List ℕ)) (q : Run) → q.serial ≡ n → q.assumed ≡ assumed → Ahead (at p pending known' (running q) serial) (call.Wait ∷ cs) es → Comes goal t es) → Comes goal t (e ∷ es)
busy goal t p pending known serial r n assumed cs e es mark same given is h k again =
    let s = at p pending known (running r) serial in
    elim (work_shape s r mark e.reply refl (subst (λ (d : Call). Allows s d e.reply) is h.legal.0)) [
      | inl m ↦ absurd (dead_wait cs es (ahead_work s dead_state (call.Wait ∷ cs) e es (ap is_work is) (ap (after s e.call) m ∙ dies s e.call) h))
      | inr x ↦ comes_work goal t e es mark is (worked_none e.reply x.0 x.1 x.2) (by_now goal t p pending known serial r n assumed cs e es mark x.0 x.1 same given is x.2 x.3 h k again)
    ]

-- no wait comes while the solve is running
not_yet : (s : State) (r : Run) (cs : List Call) (e : Entry) (es : List Entry) → live_run s ≡ Some r → is_work e.call ≡ false → Ahead s (call.Wait ∷ cs) (e ∷ es) → ⊥
not_yet s r cs e es runs f h =
    let q : e.call ∷ map (λ (e : Entry). e.call) (without_work es) ≡ call.Wait ∷ cs = rw f at h.calls_are in
    let is : e.call ≡ call.Wait = cc in
    let a : Allows s call.Wait e.reply = subst (λ (d : Call). Allows s d e.reply) is h.legal.0 in
    let rests : live_run s ≡ None = a.may_come in
    let no : Some r ≡ None = sym runs ∙ rests in
    absurd cc

-- a wait while a solve is running
pub next_wait : (goal : Tally → Type 0) (t : Tally) (p : Problem) (pending : List ℕ) (known : List (List ℕ)) (serial : ℕ) (r : Run) (n : ℕ) (assumed : List ℕ) (cs : List Call) (es : List Entry)
    → r.serial ≡ n → r.assumed ≡ assumed → Ahead (at p pending known (running r) serial) (call.Wait ∷ cs) es → Ends goal t p pending serial n assumed cs → Comes goal t es
next_wait goal t p pending known serial r n assumed cs [] same given h k = let q : [] ≡ call.Wait ∷ cs = h.calls_are in absurd cc
next_wait goal t p pending known serial r n assumed cs (e ∷ es) same given h k = elim (work_or_not e.call) [
  | inl w ↦ busy goal t p pending known serial r n assumed cs e es w.0 same given w.1 h k (λ known' q same' given' h'. next_wait goal t p pending known' serial q n assumed cs es same' given' h' k)
  | inr f ↦ absurd (not_yet (at p pending known (running r) serial) r cs e es refl f h)
]
