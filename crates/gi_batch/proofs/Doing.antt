-- Steps, one after another.
use Rattle.std.proofs.Common.{◌≡◌, ℕ, inl, inr, true, false, List, [], ◌∷◌, ◌++◌, Some, None, Result, Ok, Err, refl, ap, sym, ◌∙◌, subst, arith, append_assoc, length-append}
use Rattle.std.proofs.lemmas.List.{append-nil}
use Rattle.std.proofs.lemmas.List.Concat.{flat_map-append}
use Rattle.gi_outside.specs.World.{World, Wrote, WroteCut}
use Rattle.gi_outside.proofs.Writing.{rose_since, wrote_is, wrote_more, wrote_none}
use Rattle.gi_model.specs.History.{Entry}
use Rattle.gi_model.specs.declared.calls.Call.{Call}
use Rattle.gi_model.specs.declared.calls.Call.TheVariants as call
use Rattle.gi_model.specs.declared.replies.Reply.{Reply}
use Rattle.gi_model.specs.declared.replies.Reply.TheVariants as reply
use Rattle.gi_net.specs.Standing.{Standing}
use Rattle.gi_batch.specs.declared.answer.Answer.{Answer}
use Rattle.gi_batch.specs.declared.answer.Stop.{Stop}
use Rattle.gi_batch.specs.declared.answer.Stop.TheVariants as stops
use Rattle.gi_batch.specs.Steps.{BatchStep, Vars, Clause, Assume, Solve}
use Rattle.gi_batch.specs.Grown.{Grown}
use Rattle.gi_batch.specs.Doing.{Does, DoesStep}
use Rattle.gi_batch.specs.Output.{answer_after, call_text, last_answer, output}
use Rattle.gi_batch.specs.Done.{AreProper, EndsImproper, Goes, IsBegun, IsDone, LacksMemory, StopsBy, goes_on, is_proper}
use Rattle.gi_batch.specs.Making.{FailsBy, IsMade, MakesLast, entry_of, stop_after}
use Rattle.gi_batch.proofs.Growing.{grown_more, grown_none}

pub does-append : (budget : ℕ) (s t : List BatchStep) (xs ys : List Entry) → Does budget s xs → Does budget t ys → Does budget (s ++ t) (xs ++ ys)
does-append budget [] t xs ys a b = subst (λ (zs : List Entry). Does budget t (zs ++ ys)) (sym a) b
does-append budget (step ∷ s) t xs ys a b = (a.0, a.1 ++ ys, ap (λ zs. zs ++ ys) a.2 ∙ append_assoc a.0 a.1 ys, a.3, does-append budget s t a.1 ys a.4 b)

-- some entry of a call
abbrev pub some_entry : Call → Entry
some_entry what = record { by = 0; call = what; reply = reply.Done }

-- a step can be done
step_can : (budget : ℕ) (step : BatchStep) → (xs : List Entry) × DoesStep budget step xs
step_can budget (Vars n) = (some_entry (call.Vars n) ∷ [], record { entry = some_entry (call.Vars n); only = refl; is = refl })
step_can budget (Clause c) = (some_entry (call.Add c) ∷ [], record { entry = some_entry (call.Add c); only = refl; is = refl })
step_can budget (Assume ls) = (some_entry (call.Assume ls) ∷ [], record { entry = some_entry (call.Assume ls); only = refl; is = refl })
step_can budget Solve = (
  some_entry (call.Solve budget) ∷ some_entry call.Wait ∷ [],
  record { start = some_entry (call.Solve budget); wait = some_entry call.Wait; shown = []; are = refl; starts = refl; waits = refl; shows = refl },
)

pub steps_can : (budget : ℕ) (steps : List BatchStep) → (xs : List Entry) × Does budget steps xs
steps_can budget [] = ([], refl)
steps_can budget (step ∷ steps) =
    let a = step_can budget step in
    let b = steps_can budget steps in
    (a.0 ++ b.0, (a.0, b.0, refl, a.1, b.1))

-- one step
pub does_one : (budget : ℕ) (step : BatchStep) (xs : List Entry) → DoesStep budget step xs → Does budget (step ∷ []) xs
does_one budget step xs d = (xs, [], sym (append-nil xs), d, refl)

pub proper-append : (xs ys : List Entry) → AreProper xs → AreProper ys → AreProper (xs ++ ys)
proper-append [] ys a b = b
proper-append (x ∷ xs) ys a b = (a.0, proper-append xs ys a.1 b)

pub output-append : (xs ys : List Entry) → output (xs ++ ys) ≡ output xs ++ output ys
output-append xs ys = flat_map-append (λ (e : Entry). call_text e.call e.reply) xs ys

pub answer-append : (before : Answer) (xs ys : List Entry) → last_answer before (xs ++ ys) ≡ last_answer (last_answer before xs) ys
answer-append before [] ys = refl
answer-append before (x ∷ xs) ys = answer-append (answer_after before x.call x.reply) xs ys

-- a text was cut behind what was written before
pub cut_after : (u v w : World) (a b : List ℕ) → Wrote u v a → WroteCut v w b → WroteCut u w (a ++ b)
cut_after u v w a b wrote cut = record {
  sent = a ++ cut.sent;
  wrote = wrote_more u v w a cut.sent wrote cut.wrote;
  cut = (cut.cut.0, cut.cut.1, append_assoc a cut.sent cut.cut.0 ∙ ap (λ xs. a ++ xs) cut.cut.2);
  cause = rose_since u.failed_writes v.failed_writes w.failed_writes wrote.writes cut.cause;
}

pub wrote_after : (u v w : World) (xs ys : List Entry) → Wrote u v (output xs) → Wrote v w (output ys) → Wrote u w (output (xs ++ ys))
wrote_after u v w xs ys a b = wrote_is u w (output xs ++ output ys) (output (xs ++ ys)) (sym (output-append xs ys)) (wrote_more u v w (output xs) (output ys) a b)

abbrev improper_after : (xs ys : List Entry) → AreProper xs → EndsImproper ys → EndsImproper (xs ++ ys)
improper_after xs ys proper ends = record {
  before = xs ++ ends.before;
  last = ends.last;
  split = ap (λ zs. xs ++ zs) ends.split ∙ sym (append_assoc xs ends.before (ends.last ∷ []));
  proper = proper-append xs ends.before proper ends.proper;
  improper = ends.improper;
}

-- calls that were made before those that stop
pub stops_after : (by : Stop) (xs ys rest : List Entry) (u v w : World) (k : Standing) → AreProper xs → Wrote u v (output xs) → StopsBy by ys rest v w k → StopsBy by (xs ++ ys) rest u w k
stops_after stops.WriteFault xs ys rest u v w k proper wrote stop = (
  proper-append xs ys proper stop.0,
  subst (λ text. WroteCut u w text) (sym (output-append xs ys)) (cut_after u v w (output xs) (output ys) wrote stop.1),
  record {
    before = xs ++ stop.2.before;
    last = stop.2.last;
    split = ap (λ zs. xs ++ zs) stop.2.split ∙ sym (append_assoc xs stop.2.before (stop.2.last ∷ []));
    mid = stop.2.mid;
    wrote = wrote_after u v stop.2.mid xs stop.2.before wrote stop.2.wrote;
    cut = stop.2.cut;
  },
)
stops_after stops.TooMuch xs ys rest u v w k proper wrote stop = (proper-append xs ys proper stop.0, wrote_after u v w xs ys wrote stop.1, stop.2, stop.3)
stops_after stops.Denied xs ys rest u v w k proper wrote stop = ((improper_after xs ys proper stop.0.0, stop.0.1), wrote_after u v w xs ys wrote stop.1)
stops_after stops.NoMemory xs ys rest u v w k proper wrote stop = (lacks stop.0, wrote_after u v w xs ys wrote stop.1)
  where
    lacks : LacksMemory ys → LacksMemory (xs ++ ys)
    lacks (inl all) = inl (proper-append xs ys proper all)
    lacks (inr ends) = inr (improper_after xs ys proper ends.0, ends.1)

-- what stops early stops early in longer steps too
more_rest : (by : Stop) (calls rest more : List Entry) (v w : World) (k : Standing) → StopsBy by calls rest v w k → StopsBy by calls (rest ++ more) v w k
more_rest stops.WriteFault calls rest more v w k stop = stop
more_rest stops.TooMuch calls rest more v w k stop = (stop.0, stop.1, omega (arith, stop.2, length-append rest more), stop.3)
more_rest stops.Denied calls rest more v w k stop = stop
more_rest stops.NoMemory calls rest more v w k stop = stop

pub begun_more : (by : Stop) (budget : ℕ) (s t : List BatchStep) (v w : World) (h k : Standing) → IsBegun by budget s v w h k → IsBegun by budget (s ++ t) v w h k
begun_more by budget s t v w h k b =
    let more = steps_can budget t in
    record {
      calls = b.calls;
      rest = b.rest ++ more.0;
      grown = b.grown;
      does = subst (λ (zs : List Entry). Does budget (s ++ t) zs) (append_assoc b.calls b.rest more.0) (does-append budget s t (b.calls ++ b.rest) more.0 b.does more.1);
      cause = more_rest by b.calls b.rest more.0 v w k b.cause;
    }

-- steps that go on behind steps that were done
pub goes_after : (r : Result Answer Stop) (budget : ℕ) (s t : List BatchStep) (u v w : World) (g h k : Standing) (a b : Answer) → IsDone budget s u v g h a b → Goes r budget t v w h k b → Goes r budget (s ++ t) u w g k a
goes_after (Ok answer) budget s t u v w g h k a b done next = record {
  calls = done.calls ++ next.calls;
  grown = grown_more g h k done.calls next.calls done.grown next.grown;
  does = does-append budget s t done.calls next.calls done.does next.does;
  proper = proper-append done.calls next.calls done.proper next.proper;
  wrote = wrote_after u v w done.calls next.calls done.wrote next.wrote;
  answer_is = answer-append a done.calls next.calls ∙ ap (λ (x : Answer). last_answer x next.calls) done.answer_is ∙ next.answer_is;
}
goes_after (Err by) budget s t u v w g h k a b done next = record {
  calls = done.calls ++ next.calls;
  rest = next.rest;
  grown = grown_more g h k done.calls next.calls done.grown next.grown;
  does = subst (λ (zs : List Entry). Does budget (s ++ t) zs) (sym (append_assoc done.calls next.calls next.rest)) (does-append budget s t done.calls (next.calls ++ next.rest) done.does next.does);
  cause = stops_after by done.calls next.calls next.rest u v w k done.proper done.wrote next.cause;
}

-- a reply that ends it all prints nothing, and isn't proper
silent : (what : Call) (r : Reply) → goes_on r ≡ false → call_text what r ≡ []
silent call.Wait reply.NoMemory h = refl
silent call.Wait (reply.Refused x) h = refl
silent call.Wait other h = absurd cc
silent call.Model reply.NoMemory h = refl
silent call.Model (reply.Refused x) h = refl
silent call.Model other h = absurd cc
silent other r h = refl

improper : (what : Call) (r : Reply) → goes_on r ≡ false → is_proper what r ≡ false
improper call.Wait reply.NoMemory h = refl
improper call.Wait (reply.Refused x) h = refl
improper call.Wait other h = absurd cc
improper call.Model reply.NoMemory h = refl
improper call.Model (reply.Refused x) h = refl
improper call.Model other h = absurd cc
improper other r h = h

-- the call comes next in the steps
pub record ComesNext (budget : ℕ) (steps : List BatchStep) (xs : List Entry) (what : Call) : Type 0 where
  pub each : (e : Entry) → e.call ≡ what → (rest : List Entry) × Does budget steps (xs ++ (e ∷ rest))

grown_same : (g h k : Standing) (xs : List Entry) → Grown g h xs → Grown h k [] → Grown g k xs
grown_same g h k xs a b = subst (Grown g k) (append-nil xs) (grown_more g h k xs [] a b)

-- a call behind others that has no entry
unentered : (by : Stop) (budget : ℕ) (steps : List BatchStep) (u v : World) (g h k : Standing) (xs : List Entry) (what : Call) → Grown g h xs → ComesNext budget steps xs what → Grown h k [] → ((rest : List Entry) → StopsBy by xs (some_entry what ∷ rest) u v k) → IsBegun by budget steps u v g k
unentered by budget steps u v g h k xs what grown next none cause =
    let n = next.each (some_entry what) refl in
    record { calls = xs; rest = some_entry what ∷ n.0; grown = grown_same g h k xs grown none; does = n.1; cause = cause n.0 }

-- one that has, with such a reply
module _ (by : Stop) (budget : ℕ) (steps : List BatchStep) (u v : World) (g h k : Standing) (xs : List Entry) (what : Call) (grown : Grown g h xs) (proper : AreProper xs) (wrote : Wrote u v (output xs)) (next : ComesNext budget steps xs what) where
  abbrev ends_so : (last : MakesLast what h k) → EndsImproper (xs ++ entry_of h what last.reply ∷ [])
  ends_so last = record { before = xs; last = entry_of h what last.reply; split = refl; proper = proper; improper = improper what last.reply last.ends }

  wrote_so : (last : MakesLast what h k) → Wrote u v (output (xs ++ entry_of h what last.reply ∷ []))
  wrote_so last = wrote_after u v v xs (entry_of h what last.reply ∷ []) wrote (wrote_is v v [] (output (entry_of h what last.reply ∷ [])) (sym (append-nil (call_text what last.reply) ∙ silent what last.reply last.ends)) (wrote_none v))

  entered : (last : MakesLast what h k) → ((rest : List Entry) → StopsBy by (xs ++ entry_of h what last.reply ∷ []) rest u v k) → IsBegun by budget steps u v g k
  entered last cause =
      let n = next.each (entry_of h what last.reply) refl in
      record {
        calls = xs ++ entry_of h what last.reply ∷ [];
        rest = n.0;
        grown = grown_more g h k xs (entry_of h what last.reply ∷ []) grown last.made.grown;
        does = subst (λ (zs : List Entry). Does budget steps zs) (sym (append_assoc xs (entry_of h what last.reply ∷ []) n.0)) n.1;
        cause = cause n.0;
      }

-- a call that fails behind others
pub fails_behind : (by : Stop) (budget : ℕ) (steps : List BatchStep) (u v : World) (g h k : Standing) (xs : List Entry) (what : Call) → Grown g h xs → AreProper xs → Wrote u v (output xs) → ComesNext budget steps xs what → FailsBy by what h k → IsBegun by budget steps u v g k
fails_behind stops.NoMemory budget steps u v g h k xs what grown proper wrote next (inl none) = unentered stops.NoMemory budget steps u v g h k xs what grown next none (λ rest. (inl proper, wrote))
fails_behind stops.NoMemory budget steps u v g h k xs what grown proper wrote next (inr last) =
    entered stops.NoMemory budget steps u v g h k xs what grown proper wrote next last.0 (λ rest. (inr (ends_so stops.NoMemory budget steps u v g h k xs what grown proper wrote next last.0, last.1), wrote_so stops.NoMemory budget steps u v g h k xs what grown proper wrote next last.0))
fails_behind stops.TooMuch budget steps u v g h k xs what grown proper wrote next fails = unentered stops.TooMuch budget steps u v g h k xs what grown next fails.0 (λ rest. (proper, wrote, omega arith, fails.1))
fails_behind stops.Denied budget steps u v g h k xs what grown proper wrote next fails =
    entered stops.Denied budget steps u v g h k xs what grown proper wrote next fails.0 (λ rest. ((ends_so stops.Denied budget steps u v g h k xs what grown proper wrote next fails.0, fails.1), wrote_so stops.Denied budget steps u v g h k xs what grown proper wrote next fails.0))
fails_behind stops.WriteFault budget steps u v g h k xs what grown proper wrote next fails = absurd fails

-- the first call of a step fails
pub fails_first : (by : Stop) (budget : ℕ) (step : BatchStep) (steps : List BatchStep) (v : World) (h k : Standing) (what : Call) → ((e : Entry) → e.call ≡ what → (rest : List Entry) × DoesStep budget step (e ∷ rest)) → FailsBy by what h k → IsBegun by budget (step ∷ steps) v v h k
fails_first by budget step steps v h k what next fails =
    fails_behind by budget (step ∷ steps) v v h h k [] what (grown_none h) tt (wrote_none v)
    (record { each = λ e is. let n = next e is in let more = steps_can budget steps in (n.0 ++ more.0, (e ∷ n.0, more.0, refl, n.1, more.1)) }) fails

-- a step of one call, that was made
pub made_step : (budget : ℕ) (step : BatchStep) (v : World) (h k : Standing) (what : Call) (r : Reply) (before : Answer) → IsMade what r h k → is_proper what r ≡ true → call_text what r ≡ [] → answer_after before what r ≡ before → ((e : Entry) → e.call ≡ what → DoesStep budget step (e ∷ [])) → IsDone budget (step ∷ []) v v h k before before
made_step budget step v h k what r before made proper silent same does = record {
  calls = entry_of h what r ∷ [];
  grown = made.grown;
  does = does_one budget step (entry_of h what r ∷ []) (does (entry_of h what r) refl);
  proper = (proper, tt);
  wrote = wrote_is v v [] (output (entry_of h what r ∷ [])) (sym (append-nil (call_text what r) ∙ silent)) (wrote_none v);
  answer_is = same;
}

-- why it doesn't go on after a reply
pub fails_after : (r : Reply) (by : Stop) (what : Call) (h k : Standing) → stop_after r ≡ Some by → IsMade what r h k → FailsBy by what h k
fails_after reply.NoMemory stops.NoMemory what h k e made = inr (record { reply = reply.NoMemory; made = made; ends = refl }, refl)
fails_after reply.NoMemory other what h k e made = absurd cc
fails_after (reply.Refused x) stops.Denied what h k e made = (record { reply = reply.Refused x; made = made; ends = refl }, λ q. cc)
fails_after (reply.Refused x) other what h k e made = absurd cc
fails_after r by what h k e made = absurd cc

pub goes_after_reply : (r : Reply) → stop_after r ≡ None → goes_on r ≡ true
goes_after_reply reply.NoMemory e = absurd cc
goes_after_reply (reply.Refused x) e = absurd cc
goes_after_reply other e = refl
