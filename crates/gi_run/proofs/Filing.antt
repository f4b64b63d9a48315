-- A file that was solved on a pass.
use Rattle.std.proofs.Common.{◌≡◌, ℕ, ◌≤◌, ◌^◌, ◌==◌, true, false, not, ◌&&◌, Option, None, List, [], ◌∷◌, ◌++◌, length, ◌⊎◌, inl, inr, refl, sym, ap, subst, ◌∙◌, arith, eq-eqb, append-nil, append_assoc}
use Rattle.std.specs.List.{All}
use Rattle.std.proofs.lemmas.Bool.{both_ways, not-true, and_parts, or_cases}
use Rattle.std.proofs.lemmas.List.Elements.{All-head, All-tail, All-weaker, All-contains, Contains-append_right, filter_passes}
use Rattle.gi_outside.specs.Link.{Rose}
use Rattle.gi_outside.specs.World.{World, WroteCut}
use Rattle.gi_dimacs.proofs.Ends.{good_values}
use Rattle.gi_files.specs.declared.form.Form.{Form}
use Rattle.gi_files.specs.Texts.{refused_text}
use Rattle.gi_files.specs.declared.form.Form.TheVariants as forms
use Rattle.gi_model.specs.History.{Entry, IsLegal}
use Rattle.gi_model.specs.declared.calls.Call.{Call}
use Rattle.gi_model.specs.declared.calls.Call.TheVariants as call
use Rattle.gi_model.specs.declared.replies.Reply.{Reply}
use Rattle.gi_model.specs.declared.replies.Reply.TheVariants as reply
use Rattle.gi_net.specs.Entries.{all_own_of, own_of, is_work}
use Rattle.gi_net.specs.Laws.{AllowedIsReply}
use Rattle.gi_net.specs.Standing.{Standing}
use Rattle.gi_batch.specs.Doing.{Does}
use Rattle.gi_batch.specs.Done.{AreProper, IsDenied, is_proper}
use Rattle.gi_batch.specs.Grown.{Grown}
use Rattle.gi_batch.specs.Laws.{AreGood, AsksAreWritten, CallsAreAnswered, FailuresAreTrue, IsHistoryOf, IsUnstopped, ModelsAreTrue, StandsIn, UnknownIsSpent, has_failed, lacks_memory}
use Rattle.gi_batch.specs.Solves.{AnswersSolve, Solves, Stops}
use Rattle.gi_batch.specs.Steps.{HasSteps, BatchStep}
use Rattle.gi_batch.specs.declared.answer.Answer.{Answer}
use Rattle.gi_batch.specs.declared.answer.Solved.{Solved}
use Rattle.gi_batch.specs.declared.answer.Solved.TheVariants as solved
use Rattle.gi_batch.specs.declared.answer.Stop.{Stop}
use Rattle.gi_batch.specs.declared.answer.Stop.TheVariants as stops
use Rattle.gi_run.specs.Kept.{IsHistory, IsNew, IsOwn}
use Rattle.gi_room.specs.Calls.{HasCauses, HoldsAsBefore}
use Rattle.gi_room.specs.Seen.{Seen}
use Rattle.gi_host.specs.Visits.{Visits, asking, standing_of, visit}
use Rattle.gi_run.specs.Shutting.{HasLostWork}
use Rattle.gi_run.proofs.Alone.{all_own, cancel, kept}
use Rattle.gi_run.proofs.Unasked.{IsStop, file_calls, unasked}
use Rattle.gi_run.proofs.Lost.{IsLost, IsOurs, lost_or_called}
use Rattle.gi_run.proofs.Having.{Has, has_contained, has_left, has_right, has_split, has_unfiltered}
use Rattle.gi_run.specs.Solving.{AreAsked, AreTrue, HasSolved, IsAnswered, IsUndisturbed}

-- the calls of a good file were begun
pub record Began (form : Form) (bytes : List ℕ) (budget : ℕ) (before after : Standing) : Type 0 where
  pub steps : List BatchStep
  pub are : HasSteps form bytes steps
  pub calls : List Entry
  pub rest : List Entry
  pub grown : Grown before after calls
  pub does : Does budget steps (calls ++ rest)

good_of : (form : Form) (bytes : List ℕ) (steps : List BatchStep) → HasSteps form bytes steps → AreGood steps
good_of forms.Cnf bytes steps h = inl (h.0, good_values.only h.0 bytes h.1, h.2)
good_of forms.Icnf bytes steps h = inr (h.0, good_values.only_icnf h.0 bytes h.1, h.2)

module _ (form : Form) (budget : ℕ) (old mid new : World) (before after : Standing) (bytes : List ℕ) where
  abbrev answered_began : (answer : Answer) → AnswersSolve answer form budget old mid new before after bytes → Began form bytes budget before after
  answered_began answer a = record {
    steps = a.steps;
    are = a.are;
    calls = a.done.calls;
    rest = [];
    grown = a.done.grown;
    does = subst (Does budget a.steps) (sym (append-nil a.done.calls)) a.done.does;
  }

  abbrev stopped_began : (by : Stop) → Stops by form budget old mid new before after bytes → Began form bytes budget before after
  stopped_began by a = record { steps = a.steps; are = a.are; calls = a.begun.calls; rest = a.begun.rest; grown = a.begun.grown; does = a.begun.does }

-- nothing was called, or the calls of a good file were begun
began : (by : Solved) (form : Form) (budget : ℕ) (old new : World) (before after : Standing) (s : Solves by form budget old new before after) → (after ≡ before) ⊎ Began form s.bytes budget before after
began solved.Sat form budget old new before after s = inr (answered_began form budget old s.mid new before after s.bytes _ s.ends)
began solved.Unsat form budget old new before after s = inr (answered_began form budget old s.mid new before after s.bytes _ s.ends)
began solved.Unknown form budget old new before after s = inr (answered_began form budget old s.mid new before after s.bytes _ s.ends)
began (solved.Refused fault) form budget old new before after s = inl s.ends.0.same
began solved.ReadFault form budget old new before after s = inl s.ends.2
began solved.WriteFault form budget old new before after s = elim s.ends [ inl r ↦ inl r.1.same | inr t ↦ inr (stopped_began form budget old s.mid new before after s.bytes _ t) ]
began solved.NoMemory form budget old new before after s = elim s.ends [ inl r ↦ inl r.1 | inr t ↦ inr (stopped_began form budget old s.mid new before after s.bytes _ t) ]
began solved.TooMuch form budget old new before after s = elim s.ends [ inl r ↦ inl r.2 | inr t ↦ inr (stopped_began form budget old s.mid new before after s.bytes _ t) ]
began solved.Denied form budget old new before after s = inr (stopped_began form budget old s.mid new before after s.bytes _ s.ends)

-- the whole history of such a pass is that of the file's calls, or of a front of them
module _ (form : Form) (bytes : List ℕ) (budget : ℕ) (p q : Seen) (new : IsNew p) (b : Began form bytes budget (standing_of p) (standing_of q)) (kept : IsHistory q.number q.history) where
  kept_own : All (IsOwn p.number) q.history
  kept_own = subst (λ (n : ℕ). All (IsOwn n) q.history) b.grown.number kept.own

  entered : q.history ≡ b.grown.entries
  entered = b.grown.history ∙ ap (λ es. es ++ b.grown.entries) new.history

  alone : all_own_of p.number q.history ≡ q.history
  alone = all_own p.number q.history (All-weaker (IsOwn p.number) (λ (e : Entry). e.by ≡ p.number) (λ e o. o.by) q.history kept_own)

  own_is : own_of p.number q.history ≡ b.calls
  own_is = ap (own_of p.number) entered ∙ b.grown.own_is

  few : length q.history ≤ 2 ^ 56
  few =
      let e : length (all_own_of p.number b.grown.entries) ≡ length q.history = ap length (ap (all_own_of p.number) (sym entered) ∙ alone) in
      let l = b.grown.left in
      let m = new.left in
      omega arith

  history_of : IsHistoryOf p.number budget b.steps q.history
  history_of = record {
    legal = kept.legal;
    alone = alone;
    unstopped = All-weaker (IsOwn p.number) IsUnstopped (λ e o. o.unmarked) q.history kept_own;
    few = few;
    rest = b.rest;
    does = subst (λ cs. Does budget b.steps (cs ++ b.rest)) (sym own_is) b.does;
  }

  abbrev stands : 1 ≤ budget → (before after : List Entry) (e : Entry) → q.history ≡ before ++ e ∷ after → StandsIn budget before e
  stands least before after e split = record {
    number = p.number;
    steps = b.steps;
    after = after;
    positive = least;
    good = good_of form bytes b.steps b.are;
    history = subst (IsHistoryOf p.number budget b.steps) split history_of;
  }

no_split : {P : Type 0} (es before after : List Entry) (e : Entry) → es ≡ [] → es ≡ before ++ e ∷ after → P
no_split es [] after e none split = let n : [] ≡ e ∷ after = sym none ∙ split in absurd cc
no_split es (x ∷ before) after e none split = let n : [] ≡ x ∷ (before ++ e ∷ after) = sym none ∙ split in absurd cc

module _ (form : Form) (bytes : List ℕ) (budget : ℕ) (p q : Seen) (new : IsNew p) (least : 1 ≤ budget) (kept : IsHistory q.number q.history) where
  -- what was told at a wait and at a model
  asked_of : AsksAreWritten → (standing_of q ≡ standing_of p) ⊎ Began form bytes budget (standing_of p) (standing_of q) → AreAsked form bytes q.history
  asked_of written (inl same) before after e split c = no_split q.history before after e (ap (λ (s : Standing). s.history) same ∙ new.history) split
  asked_of written (inr b) before after e split c =
      let w = written budget before e (stands form bytes budget p q new b kept least before after e split) c in
      record { steps = b.steps; are = b.are; front = w.0; rest = w.1; split = w.2; told_is = w.3 }

module _ (form : Form) (bytes : List ℕ) (budget : ℕ) (p q : Seen) (new : IsNew p) (least : 1 ≤ budget) (kept : IsHistory q.number q.history) (answered : CallsAreAnswered) (models : ModelsAreTrue) (failures : FailuresAreTrue) (unknown : UnknownIsSpent) where
  true_of : (standing_of q ≡ standing_of p) ⊎ Began form bytes budget (standing_of p) (standing_of q) → AreTrue budget q.history
  true_of (inl same) =
      let none : q.history ≡ [] = ap (λ (s : Standing). s.history) same ∙ new.history in
      record {
        answered = λ before after e split n. no_split q.history before after e none split;
        models = λ before after e literals split c r. no_split q.history before after e none split;
        failures = λ before after e serial failed split c r. no_split q.history before after e none split;
        unknown = λ before after e serial because split c r. no_split q.history before after e none split;
      }
  true_of (inr b) = record {
    answered = λ before after e split n. answered budget before e (stands form bytes budget p q new b kept least before after e split) n;
    models = λ before after e literals split c r. models budget before e literals (stands form bytes budget p q new b kept least before after e split) c r;
    failures = λ before after e serial failed split c r. failures budget before e serial failed (stands form bytes budget p q new b kept least before after e split) c r;
    unknown = λ before after e serial because split c r. (unknown budget before e serial because (stands form bytes budget p q new b kept least before after e split) c r).1;
  }

-- where an entry stands
at_split : (es : List Entry) (x : Entry) → Has (λ (e : Entry). e ≡ x) es → (before : List Entry) × (after : List Entry) × (es ≡ before ++ x ∷ after)
at_split [] x h = absurd h
at_split (e ∷ es) x (inl here) = ([], es, ap (λ y. y ∷ es) here)
at_split (e ∷ es) x (inr there) = let r = at_split es x there in (e ∷ r.0, r.1, ap (λ ys. e ∷ ys) r.2)

abbrev IsStarved : Entry → Type 0
IsStarved e = e.reply ≡ reply.NoMemory

starved_reply : (r : Reply) → lacks_memory r ≡ true → r ≡ reply.NoMemory
starved_reply reply.NoMemory e = refl
starved_reply other e = absurd cc

failed_starved : (es : List Entry) → has_failed es ≡ true → Has IsStarved es
failed_starved [] e = absurd cc
failed_starved (x ∷ es) e = elim (or_cases (lacks_memory x.reply) (has_failed es) e) [ inl a ↦ inl (starved_reply x.reply a) | inr b ↦ inr (failed_starved es b) ]

not_proper : (c : Call) → is_proper c reply.NoMemory ≡ true → ⊥
not_proper call.Wait e = absurd cc
not_proper call.Model e = absurd cc
not_proper other e = absurd cc

none_starved : (es : List Entry) → AreProper es → ¬ Has IsStarved es
none_starved [] a h = h
none_starved (e ∷ es) a (inl here) = not_proper e.call (subst (λ r. is_proper e.call r ≡ true) here a.0)
none_starved (e ∷ es) a (inr there) = none_starved es a.1 there

module _ (form : Form) (bytes : List ℕ) (budget : ℕ) (p q : Seen) (new : IsNew p) (least : 1 ≤ budget) (kept : IsHistory q.number q.history) (answered : CallsAreAnswered) (b : Began form bytes budget (standing_of p) (standing_of q)) (d : IsDenied b.calls) where
  abbrev last : Entry
  last = d.0.last

  is_call : is_work last.call ≡ false
  is_call =
      let ps : All (λ (e : Entry). ((e.by == p.number) && not (is_work e.call)) ≡ true) (d.0.before ++ last ∷ []) =
      subst (All (λ (e : Entry). ((e.by == p.number) && not (is_work e.call)) ≡ true)) (own_is form bytes budget p q new b kept ∙ d.0.split) (filter_passes (λ (e : Entry). (e.by == p.number) && not (is_work e.call)) q.history) in
      not-true _ (and_parts _ _ (All-contains (λ (e : Entry). ((e.by == p.number) && not (is_work e.call)) ≡ true) (d.0.before ++ last ∷ []) last ps (Contains-append_right d.0.before (last ∷ []) last (0, omega arith, refl)))).1

  called : Has (λ (e : Entry). e ≡ last) q.history
  called = has_unfiltered (λ (e : Entry). e ≡ last) (λ (e : Entry). (e.by == p.number) && not (is_work e.call)) q.history
      (subst (Has (λ (e : Entry). e ≡ last)) (sym (own_is form bytes budget p q new b kept ∙ d.0.split)) (has_right (λ (e : Entry). e ≡ last) d.0.before (last ∷ []) (inl refl)))

  starved : Has IsStarved q.history
  starved =
      let at = at_split q.history last called in
      elim (answered budget at.0 last (stands form bytes budget p q new b kept least at.0 at.1 last at.2) is_call) [
        | inl proper ↦ absurd (both_ways _ d.0.improper proper)
        | inr failed ↦ subst (Has IsStarved) (append_assoc at.0 (last ∷ []) at.1 ∙ sym at.2) (has_left IsStarved (at.0 ++ last ∷ []) at.1 (failed_starved (at.0 ++ last ∷ []) failed))
      ]

  lost : HasLostWork q.history
  lost = elim (lost_or_called IsStarved (λ e w h. h) p.number q.history
      (All-weaker (IsOwn p.number) (IsOurs p.number) (λ e o. inl o.by) q.history (kept_own form bytes budget p q new b kept)) starved) [
        | inl gone ↦ (let h = has_contained IsLost q.history gone in (h.0, h.1, h.2.0, h.2.1))
        | inr in_calls ↦ elim (has_split IsStarved d.0.before (last ∷ []) (subst (Has IsStarved) (own_is form bytes budget p q new b kept ∙ d.0.split) in_calls)) [
          | inl before ↦ absurd (none_starved d.0.before d.0.proper before)
          | inr (inl here) ↦ absurd (d.1 here)
          | inr (inr none) ↦ absurd none
        ]
      ]

denied_lost : (by : Solved) (form : Form) (budget : ℕ) (old now : World) (p q : Seen) → IsNew p → 1 ≤ budget → IsHistory q.number q.history → CallsAreAnswered → Solves by form budget old now (standing_of p) (standing_of q) → by ≡ solved.Denied → HasLostWork q.history
denied_lost solved.Denied form budget old now p q new least kept answered s e = lost form s.bytes budget p q new least kept answered (stopped_began form budget old s.mid now (standing_of p) (standing_of q) s.bytes stops.Denied s.ends) s.ends.begun.cause.0
denied_lost by form budget old now p q new least kept answered s e = absurd cc

module _ (form : Form) (budget : ℕ) (old now : World) (p q : Seen) where
  no_cut : (mid : World) (text : List ℕ) → mid.failed_writes ≡ old.failed_writes → ¬ Rose old.failed_writes now.failed_writes → ¬ WroteCut mid now text
  no_cut mid text same calm cut = calm (subst (λ n. Rose n now.failed_writes) same cut.cause)

  undisturbed_whole : (by : Solved) (s : Solves by form budget old now (standing_of p) (standing_of q)) → (by ≡ solved.Denied → HasLostWork q.history) → IsUndisturbed by s.bytes old now q → IsAnswered by
  undisturbed_whole solved.Sat s lost u = inl refl
  undisturbed_whole solved.Unsat s lost u = inr (inl refl)
  undisturbed_whole solved.Unknown s lost u = inr (inr (inl refl))
  undisturbed_whole (solved.Refused fault) s lost u = inr (inr (inr (fault, refl)))
  undisturbed_whole solved.ReadFault s lost u = absurd (u.reads (subst (λ (w : World). Rose old.failed_reads w.failed_reads) (sym s.ends.1) s.ends.0))
  undisturbed_whole solved.WriteFault s lost u = elim s.ends [
    | inl r ↦ absurd (no_cut s.mid (refused_text r.0) s.gave.writes u.writes r.2)
    | inr t ↦ absurd (no_cut s.mid _ s.gave.writes u.writes t.begun.cause.1)
  ]
  undisturbed_whole solved.NoMemory s lost u = absurd (u.memory refl)
  undisturbed_whole solved.TooMuch s lost u = elim s.ends [
    | inl r ↦ absurd (let many = r.0 in let few = u.bytes_are_few in omega arith)
    | inr t ↦ absurd (let none = t.begun.cause.3 in let some = u.calls in omega arith)
  ]
  undisturbed_whole solved.Denied s lost u = absurd (u.work (lost refl))

  -- all that holds of a file that was solved on a pass
  pub has_solved : (by : Solved) → Solves by form budget old now (standing_of p) (standing_of q) → 1 ≤ budget → HoldsAsBefore p q → IsLegal q.history → (IsNew p → IsHistory q.number q.history)
      → CallsAreAnswered → ModelsAreTrue → FailuresAreTrue → UnknownIsSpent → AsksAreWritten → HasSolved by form budget old now p q
  has_solved by s least holds legal kept answered models failures unknown written = record {
    solves = s;
    holds = holds;
    legal = legal;
    kept = kept;
    truths = λ new. true_of form s.bytes budget p q new least (kept new) answered models failures unknown (began by form budget old now (standing_of p) (standing_of q) s);
    asks = λ new. asked_of form s.bytes budget p q new least (kept new) written (began by form budget old now (standing_of p) (standing_of q) s);
    denied = λ new. denied_lost by form budget old now p q new least (kept new) answered s;
    whole = λ new. undisturbed_whole by s (denied_lost by form budget old now p q new least (kept new) answered s);
  }

-- what the pass keeps, by what its calls did to it
module _ (by : Solved) (form : Form) (budget : ℕ) (old now : World) (p q : Seen) (started : Option ℕ) (s : Solves by form budget old now (standing_of p) (standing_of q)) (v : Visits (visit p None) (visit q started)) where
  -- the calls of a file are no stops
  no_stops : ¬ Has IsStop (own_of p.number v.entries)
  no_stops has = elim (began by form budget old now (standing_of p) (standing_of q) s) [
    | inl same ↦
        let none : v.entries ≡ [] = cancel p.history v.entries [] (sym v.history ∙ ap (λ (x : Standing). x.history) same ∙ sym (append-nil p.history)) in
        subst (λ es. Has IsStop (own_of p.number es)) none has
    | inr b ↦
        let own : own_of p.number v.entries ≡ b.calls = ap (own_of p.number) (cancel p.history v.entries b.grown.entries (sym v.history ∙ b.grown.history)) ∙ b.grown.own_is in
        file_calls budget b.steps (b.calls ++ b.rest) b.does (has_left IsStop b.calls b.rest (subst (Has IsStop) own has))
  ]

  holds : HoldsAsBefore p q
  holds = record {
    place = v.place;
    number = v.number;
    held = v.held;
    kin = v.kin;
    splits = v.splits;
    asked = sym v.asked ∙ unasked p.number v.entries (asking (visit p None)) no_stops;
  }

  pub solved_on : 1 ≤ budget → HasCauses q → IsLegal q.history → AllowedIsReply → CallsAreAnswered → ModelsAreTrue → FailuresAreTrue → UnknownIsSpent → AsksAreWritten → HasSolved by form budget old now p q
  solved_on least causes legal law = has_solved form budget old now p q by s least holds legal (λ new. kept p q v.entries new v.history v.own holds causes law legal v.busy)

-- the visits from a pass to a pass, by other words for both
pub visits_as : (p a b q : Seen) (s t : Option ℕ) → a ≡ p → s ≡ None → q ≡ b → Visits (visit a s) (visit b t) → Visits (visit p None) (visit q t)
visits_as p a b q s t first fresh last v =
    subst (λ (x : Seen). Visits (visit p None) (visit x t)) (sym last) (subst (λ (x : Option ℕ). Visits (visit p x) (visit b t)) fresh (subst (λ (x : Seen). Visits (visit x s) (visit b t)) first v))
