-- A history, entry by entry.
use Rattle.std.proofs.Common.{◌≡◌, ℕ, ◌+◌, ◌^◌, ◌≤◌, ◌⊎◌, inl, inr, Bool, true, false, List, [], ◌∷◌, ◌++◌, length, map, Some, refl, ap, sym, ◌∙◌, subst, arith, length-append}
use Rattle.std.specs.List.{AllByRecursion, flat_map, sum_by}
use Rattle.std.proofs.lemmas.List.Elements.{recursion_from_All}
use Rattle.std.proofs.lemmas.List.Sums.{sum_by-append}
use Rattle.gi_lit.specs.Literals.{max_var}
use Rattle.gi_dimacs.specs.Content.{clauses_in, literals_in}
use Rattle.gi_dimacs.specs.Texts.{IsItemOf, IsLiteralOf}
use Rattle.gi_dimacs.specs.declared.items.Item.{Item}
use Rattle.gi_dimacs.specs.declared.items.Item.TheVariants as items
use Rattle.gi_model.specs.Effects.{after}
use Rattle.gi_model.specs.History.{Allows, Entry, IsLegalFrom, after_all}
use Rattle.gi_model.specs.State.{State, no_solve, opening}
use Rattle.gi_model.specs.Limits.{most_clauses, most_lits}
use Rattle.gi_model.specs.declared.calls.Call.{Call}
use Rattle.gi_model.specs.declared.calls.Call.TheVariants as call
use Rattle.gi_model.specs.declared.replies.Reply.TheVariants as reply
use Rattle.gi_net.specs.Entries.{is_work, own_of}
use Rattle.gi_batch.specs.Steps.{BatchStep, Clause, Solve, item_steps}
use Rattle.gi_batch.specs.Done.{is_proper}
use Rattle.gi_batch.specs.Laws.{AreGood, IsHistoryOf, IsUnstopped, StandsIn, has_failed, lacks_memory}
use Rattle.gi_batch.specs.Told.{Told, news_on, news_since, nothing_told, told_by, told_on}
use Rattle.gi_batch.proofs.Order.{Follows, Stage, Resting, Going, Showing, alone_calls, calls_of, does_follow, next_call, next_stage, next_steps, step_call}
use Rattle.gi_batch.proofs.Mirror.{Allowed, AreLits, Mirror}
use Rattle.gi_batch.proofs.Advance.{call_advances}
use Rattle.gi_batch.proofs.Slices.{work_advances}

pub work_or_not : (c : Call) → ((mark : ℕ) × (c ≡ call.Work mark)) ⊎ (is_work c ≡ false)
work_or_not (call.Work mark) = inl (mark, refl)
work_or_not other = inr refl

-- where a history has come to
pub record IsHere (b : ℕ) (t : Told) (news : List (List ℕ)) (most : ℕ) (s : State) (rest : List Entry) : Type 0 where
  pub stage : Stage
  pub steps : List BatchStep
  pub mirror : Mirror b stage t news most s
  pub allowed : Allowed b t steps
  pub follows : Follows b stage steps (calls_of rest)
  pub legal : IsLegalFrom s rest
  pub unstopped : AllByRecursion IsUnstopped rest
  pub few : most + length rest ≤ 2 ^ 56

abbrev pub Goes_on : ℕ → Told → List (List ℕ) → ℕ → State → Entry → List Entry → Type 0
Goes_on b t news most s e rest = (e.reply ≡ reply.NoMemory) ⊎ IsHere b (told_on t e.call) (news_on news e.reply) (most + 1) (after s e.call e.reply) rest

pub calls-work : (e : Entry) (rest : List Entry) → is_work e.call ≡ true → calls_of (e ∷ rest) ≡ calls_of rest
calls-work e rest w = rw w refl

pub calls-own : (e : Entry) (rest : List Entry) → is_work e.call ≡ false → calls_of (e ∷ rest) ≡ e ∷ calls_of rest
calls-own e rest w = rw w refl

-- what is allowed behind the call that comes next
next_allowed : (b : ℕ) (stage : Stage) (steps : List BatchStep) (t : Told) (c : Call) → next_call b stage steps ≡ Some c → Allowed b t steps → Allowed b (told_on t c) (next_steps stage steps)
unfolding Allowed
next_allowed b Resting [] t c next h = absurd cc
next_allowed b Resting (step ∷ steps) t c next h = let same : step_call b step ≡ c = cc in subst (λ (x : Call). Allowed b (told_on t x) steps) same h.1
next_allowed b Going steps t c next h = let same : call.Wait ≡ c = cc in subst (λ (x : Call). Allowed b (told_on t x) steps) same h
next_allowed b Showing steps t c next h = let same : call.Model ≡ c = cc in subst (λ (x : Call). Allowed b (told_on t x) steps) same h

module _ (b : ℕ) (t : Told) (news : List (List ℕ)) (most : ℕ) (s : State) (e : Entry) (rest : List Entry) (here : IsHere b t news most s (e ∷ rest)) where
  lengths : most + 1 + length rest ≤ 2 ^ 56
  lengths = omega (arith, here.few)

  work_goes : (mark : ℕ) → e.call ≡ call.Work mark → Goes_on b t news most s e rest
  work_goes mark is =
      let a : Allows s (call.Work mark) e.reply = subst (λ (c : Call). Allows s c e.reply) is here.legal.0 in
      elim (work_advances b here.stage t news most s mark e.reply here.mirror (here.unstopped.0 mark is) a) [
        | inl none ↦ inl none
        | inr m ↦ inr (record {
          stage = here.stage;
          steps = here.steps;
          mirror = subst (λ (c : Call). Mirror b here.stage (told_on t c) (news_on news e.reply) (most + 1) (after s c e.reply)) (sym is) m;
          allowed = subst (λ (c : Call). Allowed b (told_on t c) here.steps) (sym is) here.allowed;
          follows = subst (Follows b here.stage here.steps) (calls-work e rest (ap is_work is)) here.follows;
          legal = here.legal.1;
          unstopped = here.unstopped.1;
          few = lengths;
        })
      ]

  pub next_is : is_work e.call ≡ false → Follows b here.stage here.steps (e ∷ calls_of rest)
  next_is own = subst (Follows b here.stage here.steps) (calls-own e rest own) here.follows

  call_goes : is_work e.call ≡ false → Goes_on b t news most s e rest
  unfolding Follows
  call_goes own =
      let next = next_is own in
      elim (call_advances b here.stage here.steps t news most s e.call e.reply here.mirror here.allowed (omega (arith, here.few)) next.0 here.legal.0) [
        | inl none ↦ inl none
        | inr m ↦ inr (record {
          stage = next_stage here.stage here.steps e.reply;
          steps = next_steps here.stage here.steps;
          mirror = m.1;
          allowed = next_allowed b here.stage here.steps t e.call next.0 here.allowed;
          follows = next.1;
          legal = here.legal.1;
          unstopped = here.unstopped.1;
          few = lengths;
        })
      ]

  -- a call is answered as it is meant, or memory is wanting
  pub call_answered : is_work e.call ≡ false → (e.reply ≡ reply.NoMemory) ⊎ (is_proper e.call e.reply ≡ true)
  unfolding Follows
  call_answered own =
      let next = next_is own in
      elim (call_advances b here.stage here.steps t news most s e.call e.reply here.mirror here.allowed (omega (arith, here.few)) next.0 here.legal.0) [ inl none ↦ inl none | inr m ↦ inr m.0 ]

  entry_goes : Goes_on b t news most s e rest
  entry_goes = elim (work_or_not e.call) [ inl w ↦ work_goes w.0 w.1 | inr own ↦ call_goes own ]

failed_here : (e : Entry) (es : List Entry) → e.reply ≡ reply.NoMemory → has_failed (e ∷ es) ≡ true
failed_here e es is = rw is refl

pub failed_later : (e : Entry) (es : List Entry) → has_failed es ≡ true → has_failed (e ∷ es) ≡ true
failed_later e es h = go (lacks_memory e.reply) refl
  where
    go : (x : Bool) → lacks_memory e.reply ≡ x → has_failed (e ∷ es) ≡ true
    go true q = rw q refl
    go false q = rw q h

-- how far a history has come, unless memory was wanting
pub reaches : (b : ℕ) (before rest : List Entry) (t : Told) (news : List (List ℕ)) (most : ℕ) (s : State) → IsHere b t news most s (before ++ rest) → (has_failed before ≡ true) ⊎ ((n : ℕ) × IsHere b (told_by t before) (news_since news before) n (after_all s before) rest)
unfolding told_by news_since after_all
reaches b [] rest t news most s here = inr (most, here)
reaches b (e ∷ before) rest t news most s here = elim (entry_goes b t news most s e (before ++ rest) here) [
  | inl none ↦ inl (failed_here e before none)
  | inr next ↦ elim (reaches b before rest (told_on t e.call) (news_on news e.reply) (most + 1) (after s e.call e.reply) next) [
    | inl failed ↦ inl (failed_later e before failed)
    | inr reached ↦ inr reached
  ]
]

-- what a good file asks is allowed
good_lits : (vars : ℕ) (ls : List ℕ) → vars ≤ max_var → AllByRecursion (IsLiteralOf vars) ls → AreLits ls
good_lits vars [] le h = tt
good_lits vars (l ∷ ls) le h = ((h.0.0, omega (arith, h.0.1)), good_lits vars ls le h.1)

module _ (b vars : ℕ) (small : vars ≤ max_var) where
  abbrev clause_more : Told → List ℕ → Told
  clause_more t c = told_on t (call.Add c)

  count_more : (t : Told) (c : List ℕ) → length (clause_more t c).clauses ≡ length t.clauses + 1
  count_more t c = length-append t.clauses (c ∷ [])

  literals_more : (t : Told) (c : List ℕ) → sum_by length (clause_more t c).clauses ≡ sum_by length t.clauses + length c
  literals_more t c = sum_by-append length t.clauses (c ∷ []) ∙ (let e : sum_by length t.clauses + (0 + length c) ≡ sum_by length t.clauses + length c = omega arith in e)

  items_allowed : (its : List Item) (t : Told) → length t.pending ≡ 0 → AllByRecursion (IsItemOf vars) its → length t.clauses + clauses_in its ≤ most_clauses → sum_by length t.clauses + literals_in its ≤ most_lits → Allowed b t (flat_map item_steps its)
  unfolding Allowed
  items_allowed [] t none good clauses literals = tt
  items_allowed (items.Clause c ∷ its) t none good clauses literals = (
    (good_lits vars c small good.0, omega (arith, clauses), omega (arith, literals)),
    items_allowed its (clause_more t c) none good.1 (omega (arith, clauses, count_more t c)) (omega (arith, literals, literals_more t c)),
  )
  items_allowed (items.Ask ls ∷ its) t none good clauses literals = (
    (good_lits vars ls small good.0.0, omega (arith, none, good.0.1)),
    (tt, items_allowed its (told_on (told_on t (call.Assume ls)) (call.Solve b)) refl good.1 clauses literals),
  )

  clauses_allowed : (cs : List (List ℕ)) (t : Told) → AllByRecursion (IsItemOf vars) (map items.Clause cs) → length t.clauses + clauses_in (map items.Clause cs) ≤ most_clauses → sum_by length t.clauses + literals_in (map items.Clause cs) ≤ most_lits → Allowed b t (map Clause cs ++ Solve ∷ [])
  unfolding Allowed
  clauses_allowed [] t good clauses literals = (tt, tt)
  clauses_allowed (c ∷ cs) t good clauses literals = (
    (good_lits vars c small good.0, omega (arith, clauses), omega (arith, literals)),
    clauses_allowed cs (clause_more t c) good.1 (omega (arith, clauses, count_more t c)) (omega (arith, literals, literals_more t c)),
  )

good_allowed : (b : ℕ) (steps : List BatchStep) → AreGood steps → Allowed b nothing_told steps
unfolding Allowed
good_allowed b steps (inl (v, good, is)) = subst (Allowed b nothing_told) (sym is) (good.vars, clauses_allowed b v.vars good.vars v.clauses (told_on nothing_told (call.Vars v.vars)) good.items (omega (arith, good.clauses)) (omega (arith, good.literals)))
good_allowed b steps (inr (v, good, is)) = subst (Allowed b nothing_told) (sym is) (items_allowed b v.vars good.vars v.items nothing_told refl good.items (omega (arith, good.clauses)) (omega (arith, good.literals)))

-- a machine at its beginning
begins_here : (number b : ℕ) (steps : List BatchStep) (es : List Entry) → AreGood steps → IsHistoryOf number b steps es → IsHere b nothing_told [] 0 opening es
begins_here number b steps es good h = record {
  stage = Resting;
  steps = steps;
  mirror = record { known = []; solve = no_solve; serial = 0; is = refl; at = tt; few = omega arith };
  allowed = good_allowed b steps good;
  follows = subst (Follows b Resting steps) (alone_calls number es h.alone) (does_follow b steps (own_of number es) h.rest h.does);
  legal = h.legal.each;
  unstopped = recursion_from_All IsUnstopped es h.unstopped;
  few = omega (arith, h.few);
}

-- where an entry of a history stands
pub stands_here : (b : ℕ) (before : List Entry) (e : Entry) → (stands : StandsIn b before e) → (has_failed before ≡ true) ⊎ ((n : ℕ) × IsHere b (told_by nothing_told before) (news_since [] before) n (after_all opening before) (e ∷ stands.after))
stands_here b before e stands = reaches b before (e ∷ stands.after) nothing_told [] 0 opening (begins_here stands.number b stands.steps (before ++ e ∷ stands.after) stands.good stands.history)
