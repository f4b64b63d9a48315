-- What it takes that a machine is over.
use Rattle.std.proofs.Common.{◌≡◌, ◌≢◌, ◌+◌, Bool, true, false, cond, Option, Some, None, Result, Ok, Err, List, [], ◌∷◌, ◌++◌, length, filter, ◌⊎◌, inl, inr, refl, sym, ap, subst, ◌∙◌, arith, length-append}
use Rattle.std.specs.List.{AllByRecursion}
use Rattle.std.proofs.lemmas.Bool.{cases_Bool}
use Rattle.gi_model.specs.State.{State, Run, opening, live_run}
use Rattle.gi_dimacs.specs.Content.{File}
use Rattle.gi_dimacs.specs.declared.fault.CnfFault.{CnfFault}
use Rattle.gi_model.specs.Loads.{loaded, file_refused, bad_payload}
use Rattle.gi_model.specs.Refusals.{first_of, is_over, is_work, refuses, tests}
use Rattle.gi_model.specs.Effects.{accepted, after, tested, worked}
use Rattle.gi_model.specs.History.{Allows, Entry, IsLegalFrom, Replied}
use Rattle.gi_model.specs.declared.calls.Call.{Call}
use Rattle.gi_model.specs.declared.calls.Call.TheVariants as call
use Rattle.gi_model.specs.declared.replies.Reply.{Reply}
use Rattle.gi_model.specs.declared.replies.Reply.TheVariants as reply
use Rattle.gi_model.specs.declared.refusal.Refusal.{Refusal}
use Rattle.gi_model.specs.declared.refusal.Refusal.TheVariants as refusal
use Rattle.gi_model.proofs.Entering.{refused_is}
use Rattle.gi_wire.specs.declared.reader.RequestKind.{RequestKind}
use Rattle.gi_wire.specs.declared.reader.RequestKind.TheVariants as asked
use Rattle.gi_wire.specs.declared.reader.Request.{Request}
use Rattle.gi_net.specs.Answers.{Answer, answers, replies_after, reply_for}
use Rattle.gi_net.specs.Entries.{replies}
use Rattle.gi_net.specs.Served.{EndsBy}
use Rattle.gi_run.specs.Shutting.{EndsSolve}
use Rattle.gi_run.proofs.Having.{Has, has_right, has_unfiltered}

-- a refusal for good
abbrev pub IsDead : Reply → Type 0
IsDead r = r ≡ reply.Refused refusal.Dead

unused : (a : RequestKind) (rs : List Reply) → Has IsDead (replies_after a rs) → Has IsDead rs
unused (asked.Call c) [] h = h
unused (asked.Call c) (r ∷ rs) h = inr h
unused asked.Syntax rs h = h
unused asked.Long rs h = h

used : (a : RequestKind) (rs : List Reply) → IsDead (reply_for a rs) → Has IsDead rs
used (asked.Call c) [] h = absurd cc
used (asked.Call c) (r ∷ rs) h = inl h
used asked.Syntax rs h = absurd cc
used asked.Long rs h = absurd cc

-- what two lists that are one begin with, and what stands behind
pub first_is : (x y : Answer) (xs ys : List Answer) → x ∷ xs ≡ y ∷ ys → x ≡ y
first_is x y xs ys e = cc

pub rest_is : (x y : Answer) (xs ys : List Answer) → x ∷ xs ≡ y ∷ ys → xs ≡ ys
rest_is x y xs ys e = cc

pub dead_reply : (is : List Request) (rs : List Reply) (before : List Answer) (last : Answer) → answers is rs ≡ before ++ last ∷ [] → IsDead last.reply → Has IsDead rs
unfolding answers
dead_reply [] rs before last e d = let no : 0 ≡ length before + 1 = ap length e ∙ length-append before (last ∷ []) in absurd (omega (arith, no))
dead_reply (i ∷ is) rs [] last e d = used i.asked rs (ap (λ (a : Answer). a.reply) (first_is (record { item = i; reply = reply_for i.asked rs }) last (answers is (replies_after i.asked rs)) [] e) ∙ d)
dead_reply (i ∷ is) rs (b ∷ bs) last e d =
    unused i.asked rs (dead_reply is (replies_after i.asked rs) bs last (rest_is (record { item = i; reply = reply_for i.asked rs }) b (answers is (replies_after i.asked rs)) (bs ++ last ∷ []) e) d)

pub dead_entry : (es : List Entry) → Has IsDead (replies es) → Has (λ (e : Entry). IsDead e.reply) es
dead_entry [] h = h
dead_entry (e ∷ es) (inl here) = inl here
dead_entry (e ∷ es) (inr there) = inr (dead_entry es there)

-- a refusal that no condition that holds has
unnamed : (x : Refusal) (last : Option Refusal) → last ≢ Some x → (ts : List (Bool × Refusal)) → AllByRecursion (λ (t : Bool × Refusal). t.1 ≡ x → t.0 ≡ false) ts → first_of ts last ≢ Some x
unnamed x last n [] a e = n e
unnamed x last n (t ∷ ts) a e = go (unnamed x last n ts a.1) t.0 refl e
  where
    go : first_of ts last ≢ Some x → (b : Bool) → t.0 ≡ b → cond b (Some t.1) (first_of ts last) ≡ Some x → ⊥
    go rest true is q = (let no : true ≡ false = sym is ∙ a.0 cc in absurd cc)
    go rest false is q = rest q

-- and a bad payload isn't refused for good
file_lives : (file : Result File CnfFault) → file_refused file ≢ Some refusal.Dead
file_lives (Ok f) e = absurd cc
file_lives (Err fault) e = absurd cc

payload_lives : (c : Call) → bad_payload c ≢ Some refusal.Dead
payload_lives (call.LoadCnf bytes) e = file_lives (loaded bytes) e
payload_lives other e = absurd cc

-- only a machine that is over refuses for good
named_dead : (s : State) (c : Call) → refuses s c ≡ Some refusal.Dead → is_over s.life ≡ true
unfolding refuses
named_dead s c e = elim (cases_Bool (is_over s.life)) [
  | inl over ↦ over
  | inr f ↦ elim (cases_Bool (is_work c)) [
    | inl t ↦ (let q : None ≡ Some refusal.Dead = rw t at e in absurd cc)
    | inr n ↦ absurd (unnamed refusal.Dead (bad_payload c) (payload_lives c) (tests s c) ((λ q. f), ((λ q. absurd cc), ((λ q. absurd cc), ((λ q. absurd cc), ((λ q. absurd cc), ((λ q. absurd cc), ((λ q. absurd cc), ((λ q. absurd cc), ((λ q. absurd cc), ((λ q. absurd cc), ((λ q. absurd cc), ((λ q. absurd cc), tt)))))))))))) (rw n at e))
  ]
]

life_tested : (s : State) (r : Reply) → (tested r s).life ≡ s.life
life_tested s (reply.Implied ls) = refl
life_tested s (reply.Failed w) = refl
life_tested s r = refl

life_worked : (s : State) (o : Option Run) (r : Reply) → (worked o r s).life ≡ s.life
life_worked s (Some run) (reply.Worked news now) = refl
life_worked s (Some run) r = refl
life_worked s None r = refl

life_accepted : (s : State) (c : Call) (r : Reply) → c ≢ call.Shut → (accepted s c r).life ≡ s.life
life_accepted s call.Shut r n = absurd (n refl)
life_accepted s call.Test r n = life_tested s r
life_accepted s (call.Work mark) r n = life_worked s (live_run s) r
life_accepted s c r n = refl

is_shut : (c : Call) → (c ≡ call.Shut) ⊎ (c ≢ call.Shut)
is_shut call.Shut = inl refl
is_shut c = inr (λ e. cc)

-- by what the life of a machine may change
life_after : (s : State) (c : Call) (r : Reply) → (r ≡ reply.NoMemory) ⊎ (c ≡ call.Shut) ⊎ ((after s c r).life ≡ s.life)
unfolding after
life_after s c (reply.Refused q) = inr (inr refl)
life_after s c reply.NoMemory = inl refl
life_after s c r = elim (is_shut c) [ inl e ↦ inr (inl e) | inr n ↦ inr (inr (life_accepted s c r n)) ]

refused_over : (s : State) (c : Call) (r : Reply) → Allows s c r → (q : Refusal) → r ≡ reply.Refused q → is_over s.life ≡ false → is_over (after s c r).life ≡ false
unfolding after
refused_over s c r a q e f = subst (λ (x : Reply). is_over (after s c x).life ≡ false) (sym e) f

-- a shut that is accepted is answered so
shut_done : (s : State) (r : Reply) → Allows s call.Shut r → (r ≡ reply.Done) ⊎ ((q : Refusal) × (r ≡ reply.Refused q))
shut_done s r a = go (refuses s call.Shut) a.replied
  where
    go : (o : Option Refusal) → Replied s call.Shut r o → (r ≡ reply.Done) ⊎ ((q : Refusal) × (r ≡ reply.Refused q))
    go (Some q) (inl x) = inr (q, x)
    go (Some q) (inr x) = absurd (let no = x.1 in cc)
    go None (inl x) = inl x
    go None (inr x) = absurd (let no = x.1 in cc)

-- where a machine goes over, the entry is one by which it does
ends_it : (s : State) (e : Entry) → Allows s e.call e.reply → is_over s.life ≡ false → is_over (after s e.call e.reply).life ≡ true → EndsSolve e
ends_it s e a f t = elim (life_after s e.call e.reply) [
  | inl no_memory ↦ inr no_memory
  | inr (inl is) ↦ elim (shut_done s e.reply (subst (λ (c : Call). Allows s c e.reply) is a)) [
    | inl done ↦ inl (is, done)
    | inr q ↦ (let no : true ≡ false = sym t ∙ refused_over s e.call e.reply a q.0 q.1 f in absurd cc)
  ]
  | inr (inr same) ↦ (let no : true ≡ false = sym t ∙ ap is_over same ∙ f in absurd cc)
]

-- a call is refused for good only behind such an entry
pub ended_before : (es : List Entry) (s : State) → is_over s.life ≡ false → IsLegalFrom s es → Has (λ (e : Entry). IsDead e.reply) es → Has EndsSolve es
ended_before [] s f legal h = h
ended_before (e ∷ es) s f legal (inl here) =
    let over = named_dead s e.call (refused_is s e.call refusal.Dead (subst (λ (r : Reply). Allows s e.call r) here legal.0)) in
    let no : true ≡ false = sym over ∙ f in absurd cc
ended_before (e ∷ es) s f legal (inr there) = elim (cases_Bool (is_over (after s e.call e.reply).life)) [
  | inl over ↦ inl (ends_it s e legal.0 f over)
  | inr not_yet ↦ inr (ended_before es (after s e.call e.reply) not_yet legal.1 there)
]

-- so such an entry stands in the history of a session that was ended by such a refusal
pub ended_in : (seen entries own : List Entry) (p : Entry → Bool) (is : List Request) → IsLegalFrom opening (seen ++ entries) → filter p entries ≡ own
    → EndsBy (answers is (replies own)) (reply.Refused refusal.Dead) → Has EndsSolve (seen ++ entries)
ended_in seen entries own p is legal owns ends =
    let asked : Has (λ (e : Entry). IsDead e.reply) own = dead_entry own (dead_reply is (replies own) ends.before ends.last ends.split ends.is) in
    let entered : Has (λ (e : Entry). IsDead e.reply) entries = has_unfiltered (λ (e : Entry). IsDead e.reply) p entries (subst (Has (λ (e : Entry). IsDead e.reply)) (sym owns) asked) in
    ended_before (seen ++ entries) opening refl legal (has_right (λ (e : Entry). IsDead e.reply) seen entries entered)
