-- A file's clauses, added one after another.
use Rattle.std.proofs.Common.{◌≡◌, ℕ, ◌+◌, ◌/◌, ◌<◌, ◌≤◌, ◌||◌, Bool, true, false, not, suc, List, ◌∷◌, length, drop, get_or, refl, sym, ap, ◌∙◌, subst, add-one, drop-cons, inl, inr}
use Rattle.std.specs.List.{All, list_any}
use Rattle.std.proofs.lemmas.Bool.{lt-leb}
use Rattle.std.proofs.lemmas.List.{drop_all}
use Rattle.std.proofs.lemmas.List.Elements.{All-head, All-tail}
use Rattle.std.proofs.lemmas.List.Folds.{list_any_none}
use Rattle.gi_lit.specs.Problem.{Problem, top, grown, with_clause, with_clauses, is_problem_var, is_usable, IsWellFormed}
use Rattle.gi_lit.proofs.Growing.{IsUsable, IsWellFormed-grown, IsWellFormed-clause}
use Rattle.gi_model.specs.Refusals.{some_unusable}
use Rattle.gi_model.proofs.Loading.{AreUsable, clauses_usable, clauses_usable_more}
use Rattle.gi_core.specs.Content.{Content}

-- the clauses that are left may still be added, and with them the problem is the one with all of them
pub record IsAdding (old now : Content) (vars : ℕ) (clauses left : List (List ℕ)) : Type 0 where
  pub whole : IsWellFormed now.problem
  pub usable : AreUsable now.problem left
  pub problem : with_clauses left now.problem ≡ with_clauses clauses (grown vars old.problem)
  pub known : now.known ≡ old.known

pub adding_start : (old now : Content) (vars : ℕ) (clauses : List (List ℕ)) → IsWellFormed old.problem → list_any (some_unusable old.problem) clauses ≡ false → now ≡ record old { problem = grown vars old.problem } → IsAdding old now vars clauses clauses
adding_start old now vars clauses w u e = rw e (record {
  whole = IsWellFormed-grown vars old.problem w;
  usable = clauses_usable_more vars old.problem clauses w (clauses_usable old.problem clauses u);
  problem = refl;
  known = refl;
})

left_now : (clauses : List (List ℕ)) (i : ℕ) (c : List ℕ) → i < length clauses → c ≡ get_or clauses i c → drop i clauses ≡ c ∷ drop (i + 1) clauses
left_now clauses i c lt q = drop-cons clauses i c lt ∙ ap (λ x. x ∷ drop (suc i) clauses) (sym q) ∙ rw add-one refl

adding_now : (old now : Content) (vars : ℕ) (clauses : List (List ℕ)) (i : ℕ) (c : List ℕ) → i < length clauses → c ≡ get_or clauses i c → IsAdding old now vars clauses (drop i clauses) → IsAdding old now vars clauses (c ∷ drop (i + 1) clauses)
adding_now old now vars clauses i c lt q a = subst (IsAdding old now vars clauses) (left_now clauses i c lt q) a

or_true : (b : Bool) → not (b || true) ≡ false
or_true true = refl
or_true false = refl

all_usable : (p : Problem) (c : List ℕ) → All (IsUsable p) c → some_unusable p c ≡ false
all_usable p c u = list_any_none (λ l. not (is_usable p l)) c (λ k d lt. go (get_or c k d) (u k d lt))
  where
    go : (l : ℕ) → IsUsable p l → not (is_usable p l) ≡ false
    go l (inl v) = rw v refl
    go l (inr lt) = ap (λ (b : Bool). not (is_problem_var p (l / 2) || not b)) (lt-leb (l / 2) p.vars lt) ∙ or_true (is_problem_var p (l / 2))

-- the next clause may be added
pub adding_usable : (old now : Content) (vars : ℕ) (clauses : List (List ℕ)) (i : ℕ) (c : List ℕ) → i < length clauses → c ≡ get_or clauses i c → IsAdding old now vars clauses (drop i clauses) → some_unusable now.problem c ≡ false
adding_usable old now vars clauses i c lt q a = all_usable now.problem c (All-head (λ d. All (IsUsable now.problem) d) c (drop (i + 1) clauses) (adding_now old now vars clauses i c lt q a).usable)

pub adding_more : (old now new : Content) (vars : ℕ) (clauses : List (List ℕ)) (i : ℕ) (c : List ℕ) → i < length clauses → c ≡ get_or clauses i c → IsAdding old now vars clauses (drop i clauses) → new ≡ record now { problem = with_clause c now.problem; base = new.base } → IsAdding old new vars clauses (drop (i + 1) clauses)
adding_more old now new vars clauses i c lt q a e =
    let b = adding_now old now vars clauses i c lt q a in
    let u : AreUsable now.problem (drop (i + 1) clauses) = All-tail (λ d. All (IsUsable now.problem) d) c (drop (i + 1) clauses) b.usable in
    rw e (record {
      whole = IsWellFormed-clause c now.problem (All-head (λ d. All (IsUsable now.problem) d) c (drop (i + 1) clauses) b.usable) b.whole;
      usable = clauses_usable_more (top c) now.problem (drop (i + 1) clauses) b.whole u;
      problem = b.problem;
      known = b.known;
    })

pub adding_end : (old now : Content) (vars : ℕ) (clauses : List (List ℕ)) (i : ℕ) → length clauses ≤ i → IsAdding old now vars clauses (drop i clauses) → now ≡ record old { problem = with_clauses clauses (grown vars old.problem); base = now.base }
adding_end old now vars clauses i le a =
    let b = subst (IsAdding old now vars clauses) (drop_all i clauses le) a in
    ap (λ (p : Problem). record now { problem = p }) b.problem ∙ ap (λ (ks : List (List ℕ)). record { problem = with_clauses clauses (grown vars old.problem); known = ks; base = now.base }) b.known
