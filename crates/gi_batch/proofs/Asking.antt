-- A solve, call by call.
use Rattle.std.proofs.Common.{◌≡◌, ◌≢◌, ℕ, inl, inr, true, false, is_some, List, [], ◌∷◌, ◌++◌, Option, Some, None, refl, ap, sym, ◌∙◌, subst, arith}
use Rattle.std.proofs.lemmas.List.{append-nil}
use Rattle.gi_outside.specs.World.{World, Wrote, WroteCut}
use Rattle.gi_outside.proofs.Writing.{wrote_is, wrote_none}
use Rattle.gi_model.specs.History.{Entry}
use Rattle.gi_model.specs.declared.calls.Call.TheVariants as call
use Rattle.gi_model.specs.declared.replies.Reply.{Reply}
use Rattle.gi_model.specs.declared.replies.Reply.TheVariants as reply
use Rattle.gi_model.specs.declared.replies.Status.TheVariants as status
use Rattle.gi_net.specs.Standing.{Standing}
use Rattle.gi_batch.specs.declared.answer.Answer.{Answer}
use Rattle.gi_batch.specs.declared.answer.Answer.TheVariants as answers
use Rattle.gi_batch.specs.declared.answer.Stop.{Stop}
use Rattle.gi_batch.specs.declared.answer.Stop.TheVariants as stops
use Rattle.gi_batch.specs.Steps.{Solve}
use Rattle.gi_batch.specs.Grown.{Grown}
use Rattle.gi_batch.specs.Doing.{AsksModel, Does, IsCalled}
use Rattle.gi_batch.specs.Output.{answer_of, answer_text, call_text, given_or, last_answer, model_text, output, wait_text}
use Rattle.gi_batch.specs.Done.{AreProper, EndsImproper, IsBegun, IsDone, StopsBy, goes_on, is_model, is_proper}
use Rattle.gi_batch.specs.Making.{FailsBy, IsMade, Makes, entry_of}
use Rattle.gi_batch.specs.Showing.{IsUntold, Shows, ShowsModel, ShowsNoModel, ShowsNot}
use Rattle.gi_batch.proofs.Growing.{grown_more, grown_none}
use Rattle.gi_batch.proofs.Doing.{cut_after, does_one, fails_behind, fails_first, output-append, proper-append, some_entry, stops_after, wrote_after}

-- what may follow a wait
pub model_rest : (r : Reply) → (rest : List Entry) × AsksModel r rest
model_rest (reply.Status serial status.Sat) = (some_entry call.Model ∷ [], record { entry = some_entry call.Model; only = refl; is = refl })
model_rest other = ([], refl)

asks_one : (r : Reply) (calls : List Entry) → answer_of r ≡ Some answers.Sat → IsCalled call.Model calls → AsksModel r calls
asks_one (reply.Status serial status.Sat) calls e called = called
asks_one other calls e called = absurd cc

asks_none : (r : Reply) (a : Answer) → answer_of r ≡ Some a → a ≢ answers.Sat → AsksModel r []
asks_none (reply.Status serial status.Sat) a e other = absurd (other cc)
asks_none r a e other = refl

asks_nothing : (r : Reply) → answer_of r ≡ None → AsksModel r []
asks_nothing (reply.Status serial status.Sat) e = absurd cc
asks_nothing r e = refl

-- a model changes no answer
shown_keeps : (r : Reply) (a : Answer) (shown : List Entry) → AsksModel r shown → last_answer a shown ≡ a
shown_keeps (reply.Status serial status.Sat) a shown asks =
    let e = asks.entry in
    ap (last_answer a) asks.only ∙ ap (λ c. last_answer a ((record { by = e.by; call = c; reply = e.reply }) ∷ [])) asks.is
shown_keeps r a shown asks = ap (last_answer a) asks

-- a wait's own text
wait_is : (wait : Entry) (a : Answer) → wait.call ≡ call.Wait → answer_of wait.reply ≡ Some a → call_text wait.call wait.reply ≡ answer_text a
wait_is wait a is told = ap (λ c. call_text c wait.reply) is ∙ ap wait_text told

wait_output : (wait : Entry) (a : Answer) → wait.call ≡ call.Wait → answer_of wait.reply ≡ Some a → answer_text a ≡ output (wait ∷ [])
wait_output wait a is told = sym (append-nil (call_text wait.call wait.reply) ∙ wait_is wait a is told)

wait_proper : (wait : Entry) (a : Answer) → wait.call ≡ call.Wait → answer_of wait.reply ≡ Some a → AreProper (wait ∷ [])
wait_proper wait a is told = (ap (λ c. is_proper c wait.reply) is ∙ ap is_some told, tt)

wrote_wait : (wait : Entry) (a : Answer) (v w : World) → wait.call ≡ call.Wait → answer_of wait.reply ≡ Some a → Wrote v w (answer_text a) → Wrote v w (output (wait ∷ []))
wrote_wait wait a v w is told wrote = wrote_is v w (answer_text a) (output (wait ∷ [])) (wait_output wait a is told) wrote

-- an answer without a model
pub shows_alone : (wait : Entry) (a : Answer) (v w : World) (h : Standing) → wait.call ≡ call.Wait → answer_of wait.reply ≡ Some a → a ≢ answers.Sat → Wrote v w (answer_text a) → Shows wait v w h h
shows_alone wait a v w h is told other wrote = record {
  shown = [];
  grown = grown_none h;
  asks = asks_none wait.reply a told other;
  proper = tt;
  wrote = wrote_wait wait a v w is told wrote;
}

-- an answer that was cut
pub shows_cut : (wait : Entry) (a : Answer) (v w : World) (h : Standing) → wait.call ≡ call.Wait → answer_of wait.reply ≡ Some a → WroteCut v w (answer_text a) → ShowsNot stops.WriteFault wait v w h h
shows_cut wait a v w h is told cut =
    let rest = model_rest wait.reply in
    record {
      shown = [];
      rest = rest.0;
      grown = grown_none h;
      asks = rest.1;
      cause = (
        wait_proper wait a is told,
        subst (λ text. WroteCut v w text) (wait_output wait a is told) cut,
        record { before = []; last = wait; split = refl; mid = v; wrote = wrote_none v; cut = subst (λ text. WroteCut v w text) (sym (wait_is wait a is told)) cut },
      );
    }

model_is : (h : Standing) (literals : List ℕ) → model_text literals ≡ output (entry_of h call.Model (reply.Model literals) ∷ [])
model_is h literals = sym (append-nil (model_text literals))

-- an answer with its model
pub shows_model : (wait : Entry) (v w x : World) (h k : Standing) → wait.call ≡ call.Wait → answer_of wait.reply ≡ Some answers.Sat → Wrote v w (answer_text answers.Sat) → ShowsModel w x h k → Shows wait v x h k
shows_model wait v w x h k is told wrote shows =
    let e : Entry = entry_of h call.Model (reply.Model shows.literals) in
    record {
      shown = e ∷ [];
      grown = shows.made.grown;
      asks = asks_one wait.reply (e ∷ []) told (record { entry = e; only = refl; is = refl });
      proper = (refl, tt);
      wrote = wrote_after v w x (wait ∷ []) (e ∷ []) (wrote_wait wait answers.Sat v w is told wrote) (wrote_is w x (model_text shows.literals) (output (e ∷ [])) (model_is h shows.literals) shows.wrote);
    }

untold_text : (r : Reply) → is_model r ≡ false → call_text call.Model r ≡ []
untold_text (reply.Model literals) e = absurd cc
untold_text other e = refl

same_world : (v w x : World) (text : List ℕ) → x ≡ w → Wrote v w text → Wrote v x text
same_world v w x text e wrote = subst (λ (y : World). Wrote v y text) (sym e) wrote

module _ (wait : Entry) (v w x : World) (h k : Standing) (is : wait.call ≡ call.Wait) (told : answer_of wait.reply ≡ Some answers.Sat) (wrote : Wrote v w (answer_text answers.Sat)) where
  -- no model is asked for
  unasked : (by : Stop) → Grown h k [] → StopsBy by (wait ∷ []) (some_entry call.Model ∷ []) v x k → ShowsNot by wait v x h k
  unasked by grown cause = record {
    shown = [];
    rest = some_entry call.Model ∷ [];
    grown = grown;
    asks = asks_one wait.reply (some_entry call.Model ∷ []) told (record { entry = some_entry call.Model; only = refl; is = refl });
    cause = cause;
  }

  -- one is
  asked : (by : Stop) (r : Reply) → IsMade call.Model r h k → StopsBy by (wait ∷ entry_of h call.Model r ∷ []) [] v x k → ShowsNot by wait v x h k
  asked by r made cause = record {
    shown = entry_of h call.Model r ∷ [];
    rest = [];
    grown = made.grown;
    asks = asks_one wait.reply (entry_of h call.Model r ∷ []) told (record { entry = entry_of h call.Model r; only = refl; is = refl });
    cause = cause;
  }

  wrote_alone : x ≡ w → Wrote v x (output (wait ∷ []))
  wrote_alone e = same_world v w x (output (wait ∷ [])) e (wrote_wait wait answers.Sat v w is told wrote)

  wrote_untold : (r : Reply) → IsUntold r w x h k → Wrote v x (output (wait ∷ entry_of h call.Model r ∷ []))
  wrote_untold r untold = wrote_is v x (output (wait ∷ [])) (output (wait ∷ entry_of h call.Model r ∷ [])) (ap (λ text. call_text wait.call wait.reply ++ (text ++ [])) (sym (untold_text r untold.none))) (wrote_alone untold.silent)

  abbrev untold_ends : (r : Reply) → IsUntold r w x h k → EndsImproper (wait ∷ entry_of h call.Model r ∷ [])
  untold_ends r untold = record { before = wait ∷ []; last = entry_of h call.Model r; split = refl; proper = wait_proper wait answers.Sat is told; improper = untold.none }

  -- an answer without the model that belongs to it
  pub shows_no_model : (by : Stop) → ShowsNoModel by w x h k → ShowsNot by wait v x h k
  shows_no_model stops.WriteFault (literals, made, cut) = asked stops.WriteFault (reply.Model literals) made (
    proper-append (wait ∷ []) (entry_of h call.Model (reply.Model literals) ∷ []) (wait_proper wait answers.Sat is told) (refl, tt),
    subst (λ text. WroteCut v x text) (ap (λ text. output (wait ∷ []) ++ text) (model_is h literals) ∙ sym (output-append (wait ∷ []) (entry_of h call.Model (reply.Model literals) ∷ [])))
        (cut_after v w x (output (wait ∷ [])) (model_text literals) (wrote_wait wait answers.Sat v w is told wrote) cut),
    record { before = wait ∷ []; last = entry_of h call.Model (reply.Model literals); split = refl; mid = w; wrote = wrote_wait wait answers.Sat v w is told wrote; cut = cut },
  )
  shows_no_model stops.TooMuch (grown, left, same) = unasked stops.TooMuch grown (wait_proper wait answers.Sat is told, wrote_alone same, omega arith, left)
  shows_no_model stops.Denied (r, untold, other) = asked stops.Denied r untold.made ((untold_ends r untold, other), wrote_untold r untold)
  shows_no_model stops.NoMemory (inl none) = unasked stops.NoMemory none.0 (inl (wait_proper wait answers.Sat is told), wrote_alone none.1)
  shows_no_model stops.NoMemory (inr untold) = asked stops.NoMemory reply.NoMemory untold.made (inr (untold_ends reply.NoMemory untold, refl), wrote_untold reply.NoMemory untold)

-- the start of a solve comes first
pub start_first : (by : Stop) (budget : ℕ) (v : World) (h k : Standing) → FailsBy by (call.Solve budget) h k → IsBegun by budget (Solve ∷ []) v v h k
start_first by budget v h k fails = fails_first by budget Solve [] v h k (call.Solve budget)
    (λ e is. (some_entry call.Wait ∷ [], record { start = e; wait = some_entry call.Wait; shown = []; are = refl; starts = is; waits = refl; shows = refl })) fails

solving : (budget : ℕ) (start wait : Entry) (shown : List Entry) → start.call ≡ call.Solve budget → wait.call ≡ call.Wait → AsksModel wait.reply shown → Does budget (Solve ∷ []) (start ∷ wait ∷ shown)
solving budget start wait shown starts waits shows = does_one budget Solve (start ∷ wait ∷ shown) (record { start = start; wait = wait; shown = shown; are = refl; starts = starts; waits = waits; shows = shows })

started_proper : (budget : ℕ) (h : Standing) (r : Reply) → goes_on r ≡ true → AreProper (entry_of h (call.Solve budget) r ∷ [])
started_proper budget h r goes = (goes, tt)

started_output : (budget : ℕ) (v : World) (h : Standing) (r : Reply) → Wrote v v (output (entry_of h (call.Solve budget) r ∷ []))
started_output budget v h r = wrote_none v

-- a wait behind it that fails
pub wait_fails : (by : Stop) (budget : ℕ) (v : World) (g h k : Standing) (told : Option Reply) → Makes (call.Solve budget) told g h → FailsBy by call.Wait h k → IsBegun by budget (Solve ∷ []) v v g k
wait_fails by budget v g h k told start fails =
    let e : Entry = entry_of g (call.Solve budget) start.reply in
    fails_behind by budget (Solve ∷ []) v v g h k (e ∷ []) call.Wait start.made.grown (started_proper budget g start.reply start.goes) (started_output budget v g start.reply)
    (record { each = λ wait is. let rest = model_rest wait.reply in (rest.0, solving budget e wait rest.0 refl is rest.1) }) fails

goes_no_memory : (r : Reply) → goes_on r ≡ true → r ≢ reply.NoMemory
goes_no_memory reply.NoMemory e q = absurd cc
goes_no_memory r e q = absurd cc

some_is : (o : Option Reply) (r q : Reply) → o ≡ Some r → o ≡ Some q → q ≡ r
some_is o r q d e = cc

-- a wait that was answered otherwise
pub wait_denied : (budget : ℕ) (v : World) (g h k : Standing) (told then : Option Reply) (r : Reply) → Makes (call.Solve budget) told g h → Makes call.Wait then h k → then ≡ Some r → answer_of r ≡ None → IsBegun stops.Denied budget (Solve ∷ []) v v g k
wait_denied budget v g h k told then r start wait is none =
    let d : Entry = entry_of g (call.Solve budget) start.reply in
    let e : Entry = entry_of h call.Wait wait.reply in
    let no : answer_of wait.reply ≡ None = ap answer_of (some_is then r wait.reply is wait.told_is) ∙ none in
    record {
      calls = d ∷ e ∷ [];
      rest = [];
      grown = grown_more g h k (d ∷ []) (e ∷ []) start.made.grown wait.made.grown;
      does = solving budget d e [] refl refl (asks_nothing wait.reply no);
      cause = (
        (record { before = d ∷ []; last = e; split = refl; proper = started_proper budget g start.reply start.goes; improper = ap is_some no }, goes_no_memory wait.reply wait.goes),
        wrote_is v v [] (output (d ∷ e ∷ [])) (ap (λ o. wait_text o ++ []) (sym no)) (wrote_none v),
      );
    }

pub second_is : (h i : Standing) (then : Option Reply) (r : Reply) (a : Answer) → (wait : Makes call.Wait then h i) → then ≡ Some r → answer_of r ≡ Some a → answer_of wait.reply ≡ Some a
second_is h i then r a wait is answered = ap answer_of (some_is then r wait.reply is wait.told_is) ∙ answered

module _ (budget : ℕ) (v w : World) (g h i k : Standing) (told then : Option Reply) (r : Reply) (a : Answer) (start : Makes (call.Solve budget) told g h) (wait : Makes call.Wait then h i) (is : then ≡ Some r) (answered : answer_of r ≡ Some a) where
  abbrev first : Entry
  first = entry_of g (call.Solve budget) start.reply

  abbrev second : Entry
  second = entry_of h call.Wait wait.reply

  is_second : answer_of wait.reply ≡ Some a
  is_second = second_is h i then r a wait is answered

  both_grown : (shown : List Entry) → Grown i k shown → Grown g k (first ∷ second ∷ shown)
  both_grown shown grown = grown_more g h k (first ∷ []) (second ∷ shown) start.made.grown (grown_more h i k (second ∷ []) shown wait.made.grown grown)

  -- the answer was printed
  pub solved_so : (before : Answer) → Shows second v w i k → IsDone budget (Solve ∷ []) v w g k before a
  solved_so before shows = record {
    calls = first ∷ second ∷ shows.shown;
    grown = both_grown shows.shown shows.grown;
    does = solving budget first second shows.shown refl refl shows.asks;
    proper = (start.goes, (ap is_some is_second, shows.proper));
    wrote = shows.wrote;
    answer_is = ap (λ o. last_answer (given_or o before) shows.shown) is_second ∙ shown_keeps wait.reply a shows.shown shows.asks;
  }

  -- it wasn't, or not whole
  pub unsolved_so : (by : Stop) → ShowsNot by second v w i k → IsBegun by budget (Solve ∷ []) v w g k
  unsolved_so by shows = record {
    calls = first ∷ second ∷ shows.shown;
    rest = shows.rest;
    grown = both_grown shows.shown shows.grown;
    does = solving budget first second (shows.shown ++ shows.rest) refl refl shows.asks;
    cause = stops_after by (first ∷ []) (second ∷ shows.shown) shows.rest v v w k (started_proper budget g start.reply start.goes) (started_output budget v g start.reply) shows.cause;
  }
