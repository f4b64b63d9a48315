-- How a slice ends: a model of the clauses in force, or assumptions that fail with them.
use Rattle.std.proofs.Common.{◌≡◌, ◌≢◌, ℕ, Result, Ok, Err, refl, ◌+◌, ◌*◌, ◌/◌, ◌≤◌, Bool, true, false, List, [], ◌∷◌, ◌++◌, length, get_or, sym, ap, ◌∙◌, subst, arith, inl, inr, append_assoc}
use Rattle.std.specs.List.{All, Contains}
use Rattle.std.specs.Result.{IfOk, result_unwrap_or}
use Rattle.std.proofs.lemmas.Bool.{cases_Bool, false≢true}
use Rattle.std.proofs.lemmas.List.{map-append}
use Rattle.std.proofs.lemmas.List.Elements.{All-nil, All-cons, All-head, All-tail, All-contains, Contains-append_left, Contains-get_or}
use Rattle.std.proofs.lemmas.List.Folds.{list_any_at, list_any_none}
use Rattle.gi_lit.specs.Lists.{IsSublist}
use Rattle.gi_lit.specs.Truth.{true_in, clause_true, Satisfies, MakesTrue}
use Rattle.gi_lit.specs.Closure.{Conflicts, IsClosed}
use Rattle.gi_lit.specs.Problem.{Problem, full, in_force, IsWellFormed}
use Rattle.gi_lit.specs.Guards.{IsLess}
use Rattle.gi_lit.specs.Learnt.{IsImplied}
use Rattle.gi_lit.proofs.Closure.{conflicts_fail, Conflicts-more}
use Rattle.gi_lit.proofs.Growing.{Satisfies-fewer}
use Rattle.gi_lit.proofs.Guarding.{guards_sound}
use Rattle.gi_lit.proofs.Resting.{rests}
use Rattle.gi_store.specs.StoreView.{Entry, StoreView, Holds, IsWithin, Keeps, problem_of, known_of, with_learnt}
use Rattle.gi_store.specs.Whole.{IsWhole}
use Rattle.gi_prop.specs.TrailView.{TrailView}
use Rattle.gi_prop.specs.Attached.{Attached}
use Rattle.gi_cdcl.specs.Sound.{stored}
use Rattle.gi_cdcl.specs.Values.{AllAssigned, IsAssignment}
use Rattle.gi_lit.specs.Ends.{IsModel, IsFailing}
use Rattle.gi_cdcl.specs.Ends.{Learns, EndsSlice, Slices}
use Rattle.gi_cdcl.specs.Searching.{AreKnown}
use Rattle.gi_cdcl.specs.Invariant.{HasLearnt}
use Rattle.gi_cdcl.specs.Finish.{Finishes, HasEnded}
use Rattle.gi_cdcl.specs.declared.slice.Slice.{Slice}
use Rattle.gi_cdcl.specs.declared.slice.Slice.TheVariants.{Learned, Sat, Unsat, Braked, NoMemory}
use Rattle.gi_cdcl.proofs.Fresh.{satisfies_all}
use Rattle.gi_cdcl.proofs.Values.{closed_true, assumed_true}
use Rattle.gi_cdcl.proofs.Stores.{all_used, all_within}
use Rattle.gi_cdcl.proofs.Teaching.{stored_is}
use Rattle.gi_cdcl.proofs.Trails.{holds_more_all}

-- the negative literal of a guard whose positive literal is true is false
guard_false : (values : List Bool) (g : ℕ) → true_in values (2 * g) ≡ true → true_in values (2 * g + 1) ≡ false
unfolding true_in
guard_false values g h = grind arith

-- values that satisfy the full clauses and make the assumptions true satisfy the clauses in force
pub satisfies_force : (p : Problem) (given : List ℕ) (values : List Bool) → IsWellFormed p → Satisfies values (full p) → MakesTrue values given → Satisfies values (in_force p given)
satisfies_force p given values w s m = record { each = λ k d lt. let r = (rests p given w).awake (get_or (in_force p given) k d) (Contains-get_or (in_force p given) k d lt) in go (get_or (in_force p given) k d) r.0 (All-contains (λ c. clause_true values c ≡ true) (full p) r.0 s.each r.1) r.2 }
  where
    go : (d c : List ℕ) → clause_true values c ≡ true → IsLess p given c d → clause_true values d ≡ true
    go d c t r = elim (cases_Bool (clause_true values d)) [
      | inl yes' ↦ yes'
      | inr none ↦ absurd (false≢true (sym (list_any_none (true_in values) c (λ k e lt. elim (r.others k e lt) [
        | inl inside ↦ elim (cases_Bool (true_in values (get_or c k e))) [ inl up ↦ absurd (false≢true (sym none ∙ list_any_at (true_in values) d inside.0 (get_or c k e) inside.1 (ap (true_in values) inside.2 ∙ up))) | inr down ↦ down ]
        | inr g ↦ ap (true_in values) g.negative ∙ guard_false values g.guard (All-contains (λ l. true_in values l ≡ true) given (2 * g.guard) m.each g.stands)
      ])) ∙ t))
    ]

pub model_of : (p : Problem) (known : List (List ℕ)) (assumed : List ℕ) (values : List Bool) → IsWellFormed p → length values ≡ p.vars → Satisfies values (full p) → MakesTrue values assumed → IsModel p assumed values
model_of p known assumed values w len s m = record { count = len; clauses = satisfies_force p assumed values w s m; lits = m }

-- what conflicts under some of the assumptions fails
pub failing_of : (p : Problem) (known : List (List ℕ)) (assumed w : List ℕ) → IsWellFormed p → All (IsImplied p) known → All (λ l. 1 ≤ l / 2) w → IsSublist w assumed → Conflicts (full p ++ known) w → IsFailing p assumed known w
failing_of p known assumed w wf i low sub d = record {
  some = sub;
  fails = guards_sound p w wf low (λ values s g. conflicts_fail (full p ++ known) w d values (satisfies_all p known i values s) g);
  derived = d;
}

sublist_all : (P : ℕ → Type 0) (xs ys : List ℕ) → IsSublist xs ys → All P ys → All P xs
sublist_all P [] ys h a = All-nil P
sublist_all P (x ∷ xs) [] h a = elim h [ ]
sublist_all P (x ∷ xs) (y ∷ ys) (inl h) a = All-cons P x xs (subst P (sym h.0) (All-head P y ys a)) (sublist_all P xs ys h.1 (All-tail P y ys a))
sublist_all P (x ∷ xs) (y ∷ ys) (inr h) a = sublist_all P (x ∷ xs) ys h (All-tail P y ys a)

-- the same over what is stored
pub failing_stored : (h : StoreView) (assumed w : List ℕ) → IsWellFormed (problem_of h) → AreKnown h → IsWithin h.vars assumed → IsSublist w assumed → Conflicts (stored h) w → IsFailing (problem_of h) assumed (known_of h) w
failing_stored h assumed w wf k within sub c =
    failing_of (problem_of h) (known_of h) assumed w wf k.implied (sublist_all (λ l. 1 ≤ l / 2) w assumed sub (λ i d lt. (within i d lt).0)) sub (subst (λ cs. Conflicts cs w) (stored_is h) c)

-- where the clauses conflict on their own
pub failing_root : (h : StoreView) (assumed : List ℕ) → IsWellFormed (problem_of h) → AreKnown h → Conflicts (stored h) [] → IsFailing (problem_of h) assumed (known_of h) []
failing_root h assumed wf k c = failing_of (problem_of h) (known_of h) assumed [] wf k.implied (All-nil (λ l. 1 ≤ l / 2)) tt (subst (λ cs. Conflicts cs []) (stored_is h) c)

-- with the empty clause learnt too
pub failing_learnt : (h new : StoreView) (assumed : List ℕ) (key : ℕ) (c : List ℕ) → new ≡ with_learnt key c h → IsFailing (problem_of h) assumed (known_of h) [] → IsFailing (problem_of new) assumed (known_of new) []
failing_learnt h new assumed key c e f = subst (λ (s : StoreView). IsFailing (problem_of s) assumed (known_of s) []) (sym e) (record {
  some = f.some;
  fails = f.fails;
  derived = subst (λ cs. Conflicts cs []) (append_assoc (full (problem_of h)) (known_of h) (c ∷ []) ∙ ap (λ (xs : List (List ℕ)). full (problem_of h) ++ xs) (sym (map-append (λ (e : Entry). e.lits) h.learnt (record { key = key; lits = c } ∷ [])))) (Conflicts-more (full (problem_of h) ++ known_of h) (c ∷ []) [] f.derived);
})

-- values of a trail that is closed and whole
pub model_stored : (h : StoreView) (lits assumed : List ℕ) (values : List Bool) → IsWhole h → AreKnown h → IsWithin h.vars assumed → All (Contains lits) assumed → IsClosed (stored h) lits → AllAssigned h lits → IsAssignment h.vars lits values → IsModel (problem_of h) assumed values
model_stored h lits assumed values w k within all cl assigned a =
    let s : Satisfies values (full (problem_of h) ++ known_of h) = subst (Satisfies values) (stored_is h) (closed_true h lits values (all_used h w.well_formed k.used) (all_within h w) cl assigned a) in
    model_of (problem_of h) (known_of h) assumed values w.well_formed a.len
    (Satisfies-fewer (full (problem_of h)) (full (problem_of h) ++ known_of h) values (λ c i. Contains-append_left (full (problem_of h)) (known_of h) c i) s)
    (assumed_true h.vars lits assumed values within all a)

-- in words of the store at the beginning of the slice
pub ends_slice : (old now : StoreView) (news : List (List ℕ)) → HasLearnt old now news → (assumed : List ℕ) (limit serial mark : ℕ) (end : Slice) → Finishes now assumed limit serial mark news end → EndsSlice (problem_of old) (known_of old) assumed limit serial mark news end
ends_slice old now news h assumed limit serial mark end f = go end f
  where
    l : Learns old now news
    l = h.learns

    known_is : known_of now ≡ known_of old ++ news
    known_is = ap known_of l.new_is ∙ map-append (λ (e : Entry). e.lits) old.learnt l.entries ∙ ap (λ (xs : List (List ℕ)). known_of old ++ xs) (sym l.are)

    problem_is : problem_of now ≡ problem_of old
    problem_is = ap problem_of l.new_is

    go : (end : Slice) → Finishes now assumed limit serial mark news end → EndsSlice (problem_of old) (known_of old) assumed limit serial mark news end
    go Braked f = f
    go Learned f = f
    go (Sat values) f = (f.0, f.1, subst (λ (p : Problem). IsModel p assumed values) problem_is f.2)
    go (Unsat w) f = (f.0, f.1, subst (λ (p : Problem). IsFailing p assumed (known_of old ++ news) w) problem_is (subst (λ (ks : List (List ℕ)). IsFailing (problem_of now) assumed ks w) known_is f.2))
    go NoMemory f = f

-- a slice changes no clause
pub learns_keep : (old now : StoreView) (news : List (List ℕ)) → HasLearnt old now news → Keeps old now
learns_keep old now news h = record { each = λ key clause held live. subst (λ (s : StoreView). Holds s key clause) (sym h.learns.new_is) (holds_more_all old h.learns.entries key clause held) }

pub slices_of : (old now : StoreView) (news : List (List ℕ)) (assumed : List ℕ) (limit serial mark : ℕ) (end : Slice) → HasLearnt old now news → length news ≤ limit → Finishes now assumed limit serial mark news end → Slices old now assumed limit serial mark news end
slices_of old now news assumed limit serial mark end h few f = record { few = few; fresh = h.fresh; learns = h.learns; ends = ends_slice old now news h assumed limit serial mark end f }

-- how a slice ends where want of memory is one of the ends
module _ (p : Attached) (old new : StoreView) (t : TrailView) (assumed : List ℕ) (limit serial mark asks : ℕ) (news : List (List ℕ)) {E : Type 0} where
  pub ended_or : (r : Result Slice E) → IfOk r (HasEnded p old new t assumed limit serial mark asks news) → result_unwrap_or r NoMemory ≢ NoMemory
      → HasEnded p old new t assumed limit serial mark asks news (result_unwrap_or r NoMemory)
  ended_or (Ok end) h ne = h
  ended_or (Err e) h ne = absurd (ne refl)

  pub finishes_or : (r : Result Slice E) → IfOk r (HasEnded p old new t assumed limit serial mark asks news) → Finishes new assumed limit serial mark news (result_unwrap_or r NoMemory)
  finishes_or (Ok end) h = h.finishes
  finishes_or (Err e) h = tt
