-- The steps of a file, one after another.
use Rattle.std.proofs.Common.{◌≡◌, ℕ, ◌+◌, ◌<◌, List, [], ◌∷◌, ◌++◌, length, map, take, drop, get_or, Option, Result, Ok, Err, refl, ap, sym, ◌∙◌, subst, inl}
use Rattle.std.specs.List.{flat_map}
use Rattle.std.proofs.lemmas.List.{append-nil, map-append, take-append-drop, take_more}
use Rattle.std.proofs.lemmas.List.Concat.{flat_map-append}
use Rattle.gi_outside.specs.World.{World}
use Rattle.gi_dimacs.specs.declared.items.Item.{Item}
use Rattle.gi_dimacs.specs.declared.items.Item.TheVariants as items
use Rattle.gi_outside.proofs.Writing.{wrote_none}
use Rattle.gi_model.specs.declared.calls.Call.TheVariants as call
use Rattle.gi_model.specs.declared.replies.Reply.{Reply}
use Rattle.gi_net.specs.Standing.{Standing}
use Rattle.gi_batch.specs.declared.answer.Answer.{Answer}
use Rattle.gi_batch.specs.declared.answer.Stop.{Stop}
use Rattle.gi_batch.specs.declared.answer.Stop.TheVariants as stops
use Rattle.gi_batch.specs.Steps.{BatchStep, Vars, Clause, Assume, Solve, item_steps}
use Rattle.gi_batch.specs.Done.{Goes, IsBegun, IsDone}
use Rattle.gi_batch.specs.Making.{FailsBy, Makes}
use Rattle.gi_batch.proofs.Growing.{grown_none}
use Rattle.gi_batch.proofs.Doing.{begun_more, fails_first, goes_after, made_step, steps_can}

-- nothing was to be done
pub done_none : (budget : ℕ) (v : World) (h : Standing) (a : Answer) → IsDone budget [] v v h h a a
done_none budget v h a = record { calls = []; grown = grown_none h; does = refl; proper = tt; wrote = wrote_none v; answer_is = refl }

-- nothing was done, for want of memory
pub begun_none : (budget : ℕ) (steps : List BatchStep) (v : World) (h : Standing) → IsBegun stops.NoMemory budget steps v v h h
begun_none budget steps v h = let all = steps_can budget steps in record { calls = []; rest = all.0; grown = grown_none h; does = all.1; cause = (inl tt, wrote_none v) }

-- variables
pub vars_made : (budget : ℕ) (n : ℕ) (v : World) (h k : Standing) (told : Option Reply) (a : Answer) → Makes (call.Vars n) told h k → IsDone budget (Vars n ∷ []) v v h k a a
vars_made budget n v h k told a makes = made_step budget (Vars n) v h k (call.Vars n) makes.reply a makes.made makes.goes refl refl (λ e is. record { entry = e; only = refl; is = is })

pub vars_fail : (by : Stop) (budget : ℕ) (n : ℕ) (steps : List BatchStep) (v : World) (h k : Standing) → FailsBy by (call.Vars n) h k → IsBegun by budget (Vars n ∷ steps) v v h k
vars_fail by budget n steps v h k fails = fails_first by budget (Vars n) steps v h k (call.Vars n) (λ e is. ([], record { entry = e; only = refl; is = is })) fails

-- a clause
pub clause_made : (budget : ℕ) (clause : List ℕ) (v : World) (h k : Standing) (told : Option Reply) (a : Answer) → Makes (call.Add clause) told h k → IsDone budget (Clause clause ∷ []) v v h k a a
clause_made budget clause v h k told a makes = made_step budget (Clause clause) v h k (call.Add clause) makes.reply a makes.made makes.goes refl refl (λ e is. record { entry = e; only = refl; is = is })

pub clause_fails : (by : Stop) (budget : ℕ) (clause : List ℕ) (steps : List BatchStep) (v : World) (h k : Standing) → FailsBy by (call.Add clause) h k → IsBegun by budget (Clause clause ∷ steps) v v h k
clause_fails by budget clause steps v h k fails = fails_first by budget (Clause clause) steps v h k (call.Add clause) (λ e is. ([], record { entry = e; only = refl; is = is })) fails

-- assumptions
pub assume_made : (budget : ℕ) (lits : List ℕ) (v : World) (h k : Standing) (told : Option Reply) (a : Answer) → Makes (call.Assume lits) told h k → IsDone budget (Assume lits ∷ []) v v h k a a
assume_made budget lits v h k told a makes = made_step budget (Assume lits) v h k (call.Assume lits) makes.reply a makes.made makes.goes refl refl (λ e is. record { entry = e; only = refl; is = is })

pub assume_fails : (by : Stop) (budget : ℕ) (lits : List ℕ) (steps : List BatchStep) (v : World) (h k : Standing) → FailsBy by (call.Assume lits) h k → IsBegun by budget (Assume lits ∷ steps) v v h k
assume_fails by budget lits steps v h k fails = fails_first by budget (Assume lits) steps v h k (call.Assume lits) (λ e is. ([], record { entry = e; only = refl; is = is })) fails

-- clauses, in order
pub clauses_more : (budget : ℕ) (clauses : List (List ℕ)) (clause : List ℕ) (v : World) (g h k : Standing) (told : Option Reply) (a : Answer) → IsDone budget (map Clause clauses) v v g h a a → Makes (call.Add clause) told h k → IsDone budget (map Clause (clauses ++ clause ∷ [])) v v g k a a
clauses_more budget clauses clause v g h k told a done makes =
    subst (λ (s : List BatchStep). IsDone budget s v v g k a a) (sym (map-append Clause clauses (clause ∷ [])))
    (goes_after (Ok a) budget (map Clause clauses) (Clause clause ∷ []) v v v g h k a a done (clause_made budget clause v h k told a makes))

pub clauses_fail : (by : Stop) (budget : ℕ) (before after all : List (List ℕ)) (clause : List ℕ) (v : World) (g h k : Standing) (a : Answer) → before ++ clause ∷ after ≡ all → IsDone budget (map Clause before) v v g h a a → FailsBy by (call.Add clause) h k → IsBegun by budget (map Clause all) v v g k
clauses_fail by budget before after all clause v g h k a split done fails =
    subst (λ (s : List BatchStep). IsBegun by budget s v v g k) (sym (map-append Clause before (clause ∷ after)) ∙ ap (map Clause) split)
    (goes_after (Err by) budget (map Clause before) (Clause clause ∷ map Clause after) v v v g h k a a done (clause_fails by budget clause (map Clause after) v h k fails))

-- what is left of the clauses
pub split_more : (yielded left rest all : List (List ℕ)) (clause : List ℕ) → yielded ++ left ≡ all → left ≡ clause ∷ rest → yielded ++ clause ∷ rest ≡ all
split_more yielded left rest all clause split is = ap (λ xs. yielded ++ xs) (sym is) ∙ split

-- an item that is a clause
pub item_clause_made : (budget : ℕ) (item : Item) (clause copy : List ℕ) (v : World) (h k : Standing) (told : Option Reply) (a : Answer) → item ≡ items.Clause clause → copy ≡ clause → Makes (call.Add copy) told h k → IsDone budget (item_steps item) v v h k a a
item_clause_made budget item clause copy v h k told a is same makes =
    subst (λ (i : Item). IsDone budget (item_steps i) v v h k a a) (ap items.Clause same ∙ sym is) (clause_made budget copy v h k told a makes)

pub item_clause_fails : (by : Stop) (budget : ℕ) (item : Item) (clause copy : List ℕ) (v : World) (h k : Standing) → item ≡ items.Clause clause → copy ≡ clause → FailsBy by (call.Add copy) h k → IsBegun by budget (item_steps item) v v h k
item_clause_fails by budget item clause copy v h k is same fails =
    subst (λ (i : Item). IsBegun by budget (item_steps i) v v h k) (ap items.Clause same ∙ sym is) (clause_fails by budget copy [] v h k fails)

-- one that is an ask
pub item_ask_goes : (r : Result Answer Stop) (budget : ℕ) (item : Item) (lits copy : List ℕ) (v w : World) (h k l : Standing) (told : Option Reply) (a : Answer) → item ≡ items.Ask lits → copy ≡ lits → Makes (call.Assume copy) told h k → Goes r budget (Solve ∷ []) v w k l a → Goes r budget (item_steps item) v w h l a
item_ask_goes r budget item lits copy v w h k l told a is same makes goes =
    subst (λ (i : Item). Goes r budget (item_steps i) v w h l a) (ap items.Ask same ∙ sym is)
    (goes_after r budget (Assume copy ∷ []) (Solve ∷ []) v v w h k l a a (assume_made budget copy v h k told a makes) goes)

pub item_ask_fails : (by : Stop) (budget : ℕ) (item : Item) (lits copy : List ℕ) (v : World) (h k : Standing) → item ≡ items.Ask lits → copy ≡ lits → FailsBy by (call.Assume copy) h k → IsBegun by budget (item_steps item) v v h k
item_ask_fails by budget item lits copy v h k is same fails =
    subst (λ (i : Item). IsBegun by budget (item_steps i) v v h k) (ap items.Ask same ∙ sym is) (assume_fails by budget copy (Solve ∷ []) v h k fails)

-- items, in order
items_split : (xs : List Item) (n : ℕ) → flat_map item_steps (take n xs) ++ flat_map item_steps (drop n xs) ≡ flat_map item_steps xs
items_split xs n = sym (flat_map-append item_steps (take n xs) (drop n xs)) ∙ ap (flat_map item_steps) (take-append-drop n xs)

pub items_more : (r : Result Answer Stop) (budget : ℕ) (xs : List Item) (i : ℕ) (item : Item) (u v w : World) (g h k : Standing) (a b : Answer) → i < length xs → item ≡ get_or xs i item → IsDone budget (flat_map item_steps (take i xs)) u v g h a b → Goes r budget (item_steps item) v w h k b → Goes r budget (flat_map item_steps (take (i + 1) xs)) u w g k a
items_more r budget xs i item u v w g h k a b lt is done goes =
    let steps : flat_map item_steps (take i xs) ++ item_steps item ≡ flat_map item_steps (take (i + 1) xs)
    = ap (λ (x : Item). flat_map item_steps (take i xs) ++ item_steps x) is ∙ sym (ap (flat_map item_steps) (take_more xs i item lt) ∙ flat_map-append item_steps (take i xs) (get_or xs i item ∷ []) ∙ ap (λ ss. flat_map item_steps (take i xs) ++ ss) (append-nil (item_steps (get_or xs i item)))) in
    subst (λ (s : List BatchStep). Goes r budget s u w g k a) steps (goes_after r budget (flat_map item_steps (take i xs)) (item_steps item) u v w g h k a b done goes)

pub items_fail : (by : Stop) (budget : ℕ) (xs : List Item) (n : ℕ) (u w : World) (g k : Standing) → IsBegun by budget (flat_map item_steps (take n xs)) u w g k → IsBegun by budget (flat_map item_steps xs) u w g k
items_fail by budget xs n u w g k begun =
    subst (λ (s : List BatchStep). IsBegun by budget s u w g k) (items_split xs n) (begun_more by budget (flat_map item_steps (take n xs)) (flat_map item_steps (drop n xs)) u w g k begun)
