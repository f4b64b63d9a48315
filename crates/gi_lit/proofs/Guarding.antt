-- Making guards that aren't given false.
use Rattle.std.proofs.Common.{◌≡◌, ◌≢◌, ℕ, ◌+◌, ◌-◌, ◌*◌, ◌/◌, ◌%◌, ◌≤◌, Bool, true, false, not, cond, nat_eq, List, [], ◌∷◌, ◌++◌, length, get_or, set, refl, sym, ◌∙◌, subst, arith, ◌⊎◌, inl, inr, get_or-set_other, get_or-set_same}
use Rattle.std.specs.List.{All, Contains}
use Rattle.std.proofs.lemmas.Bool.{cases_eq, cases_lt, eqb-true, false≢true, ne_eqb}
use Rattle.std.proofs.lemmas.List.{get_or_past, set_past}
use Rattle.std.proofs.lemmas.List.Elements.{All-head, All-tail, All-cons, All-contains, Contains-get_or, Contains-append_right}
use Rattle.std.proofs.lemmas.List.Folds.{list_any_at, Any-from_list_any}
use Rattle.gi_lit.specs.Truth.{true_in, clause_true, MakesTrue, Satisfies}
use Rattle.gi_lit.specs.Problem.{Problem, has, in_force, full, IsPlain, IsProblemVar, IsWellFormed}
use Rattle.gi_lit.specs.Guards.{IsLess, IsAsleep}
use Rattle.gi_lit.specs.Laws.{GuardsAreSound}
use Rattle.gi_lit.proofs.Vars.{var_facts, has-from_Contains, lacks}
use Rattle.gi_lit.proofs.Resting.{rests}

-- a true clause has a true literal
pub true_lit : (v : List Bool) (c : List ℕ) → clause_true v c ≡ true → (l : ℕ) × Contains c l × (true_in v l ≡ true)
true_lit v c e = let a = Any-from_list_any (true_in v) c e in (a.1, (a.0, a.2, a.3), a.4)

pub true_clause : (v : List Bool) (c : List ℕ) (l : ℕ) → Contains c l → true_in v l ≡ true → clause_true v c ≡ true
true_clause v c l h t = list_any_at (true_in v) c h.0 l h.1 (subst (λ m. true_in v m ≡ true) (sym h.2) t)

-- each guard that isn't given is made false
abbrev cleared : List ℕ → List ℕ → List Bool → List Bool
cleared given [] values = values
cleared given (g ∷ gs) values = cleared given gs (cond (has given (2 * g)) values (set values (g - 1) false))

-- the place is of no guard that is made false
abbrev IsSpared : List ℕ → ℕ → ℕ → Type 0
IsSpared given i g = (has given (2 * g) ≡ true) ⊎ (i ≢ g - 1)

kept : (given gs : List ℕ) (values : List Bool) (i : ℕ) → All (IsSpared given i) gs → get_or (cleared given gs values) i false ≡ get_or values i false
kept given [] values i h = refl
kept given (g ∷ gs) values i h = kept given gs _ i (All-tail (IsSpared given i) g gs h) ∙ go (has given (2 * g)) (All-head (IsSpared given i) g gs h)
  where
    go : (b : Bool) → (b ≡ true) ⊎ (i ≢ g - 1) → get_or (cond b values (set values (g - 1) false)) i false ≡ get_or values i false
    go true o = refl
    go false (inl e) = absurd (false≢true e)
    go false (inr n) = get_or-set_other values (g - 1) i false false n

pub unset_at : (values : List Bool) (i : ℕ) → get_or (set values i false) i false ≡ false
unset_at values i = elim (cases_lt i (length values)) [ inl lt ↦ get_or-set_same values i false false lt | inr le ↦ rw (set_past values i false le) (get_or_past values i false le) ]

-- a value that is false stays so
stays_false : (given gs : List ℕ) (values : List Bool) (i : ℕ) → get_or values i false ≡ false → get_or (cleared given gs values) i false ≡ false
stays_false given [] values i h = h
stays_false given (g ∷ gs) values i h = stays_false given gs _ i (go (has given (2 * g)) (cases_eq i (g - 1)))
  where
    go : (b : Bool) → (i ≡ g - 1) ⊎ (i ≡ g - 1 → ⊥) → get_or (cond b values (set values (g - 1) false)) i false ≡ false
    go true o = h
    go false (inl e) = rw e (unset_at values (g - 1))
    go false (inr n) = get_or-set_other values (g - 1) i false false n ∙ h

-- a guard that isn't given is false
cleared_guards : (given gs : List ℕ) (values : List Bool) → All (λ g. has given (2 * g) ≡ false → get_or (cleared given gs values) (g - 1) false ≡ false) gs
cleared_guards given [] values = λ k d lt. absurd (omega arith)
cleared_guards given (g ∷ gs) values = All-cons (λ x. has given (2 * x) ≡ false → get_or (cleared given (g ∷ gs) values) (x - 1) false ≡ false) g gs
    (λ h. stays_false given gs (cond (has given (2 * g)) values (set values (g - 1) false)) (g - 1) (rw h (unset_at values (g - 1))))
    (cleared_guards given gs (cond (has given (2 * g)) values (set values (g - 1) false)))

pub same_truth : (v w : List Bool) (l : ℕ) → get_or w (l / 2 - 1) false ≡ get_or v (l / 2 - 1) false → true_in w l ≡ true_in v l
unfolding true_in
same_truth v w l e = rw e refl

pub negative_true : (w : List Bool) (g : ℕ) → get_or w (g - 1) false ≡ false → true_in w (2 * g + 1) ≡ true
unfolding true_in
negative_true w g e =
    let odd : nat_eq ((2 * g + 1) % 2) 0 ≡ false = ne_eqb ((2 * g + 1) % 2) 0 (omega arith) in
    let half : (2 * g + 1) / 2 ≡ g = omega arith in
    rw (odd, half, e) refl

odd_false : (v : List Bool) (l : ℕ) → nat_eq (l % 2) 0 ≡ false → true_in v l ≡ true → get_or v (l / 2 - 1) false ≡ false
unfolding true_in
odd_false v l o t = go (get_or v (l / 2 - 1) false) (rw o at t)
  where
    go : (b : Bool) → not b ≡ true → b ≡ false
    go true e = sym e
    go false e = refl

odd_true : (w : List Bool) (l : ℕ) → nat_eq (l % 2) 0 ≡ false → get_or w (l / 2 - 1) false ≡ false → true_in w l ≡ true
unfolding true_in
odd_true w l o e = rw (o, e) refl

module _ (p : Problem) (given : List ℕ) (h : IsWellFormed p) (v : List Bool) where
  w : List Bool
  w = cleared given p.active v

  low_guard : (g : ℕ) → Contains p.active g → 1 ≤ g
  low_guard g act = All-contains (λ x. 1 ≤ x) (p.freed ++ p.active) g h.low (Contains-append_right p.freed p.active g act)

  -- a literal of a problem variable keeps its truth
  plain_same : (l : ℕ) → IsProblemVar p (l / 2) → true_in w l ≡ true_in v l
  unfolding w
  plain_same l x = same_truth v (cleared given p.active v) l (kept given p.active v (l / 2 - 1) (λ k d lt. inr (λ e.
      let f = var_facts p (l / 2) x in
      let act : Contains p.active (get_or p.active k d) = Contains-get_or p.active k d lt in
      let same : get_or p.active k d ≡ l / 2 = omega (arith, e, f.low, low_guard _ act) in
      f.inactive (subst (Contains p.active) same act))))

  guard_false : (g : ℕ) → Contains p.active g → ¬ Contains given (2 * g) → true_in w (2 * g + 1) ≡ true
  unfolding w
  guard_false g act missing = negative_true (cleared given p.active v) g (All-contains (λ g. has given (2 * g) ≡ false → get_or (cleared given p.active v) (g - 1) false ≡ false) p.active g (cleared_guards given p.active v) act (lacks given (2 * g) missing))

  -- whoever satisfies the clauses in force satisfies the full ones with those guards made false
  full_true : Satisfies v (in_force p given) → Satisfies w (full p)
  full_true s = record { each = λ k d lt. clause (get_or (full p) k d) ((rests p given h).others _ (Contains-get_or (full p) k d lt)) }
    where
      clause : (c : List ℕ) → ((d : List ℕ) × Contains (in_force p given) d × IsLess p given c d) ⊎ IsAsleep p given c → clause_true w c ≡ true
      clause c (inl t) =
          let x = true_lit v t.0 (All-contains (λ c. clause_true v c ≡ true) (in_force p given) t.0 s.each t.1) in
          let plain : IsProblemVar p (x.0 / 2) = All-contains (λ l. IsProblemVar p (l / 2)) t.0 x.0 (All-contains (IsPlain p) (in_force p given) t.0 (rests p given h).plain t.1) x.1 in
          true_clause w c x.0 (All-contains (Contains c) t.0 x.0 t.2.part x.1) (plain_same x.0 plain ∙ x.2)
      clause c (inr z) = true_clause w c (2 * z.guard + 1) z.negative (guard_false z.guard z.active z.missing)

  given_kept : All (λ l. 1 ≤ l / 2) given → MakesTrue v given → MakesTrue w given
  unfolding w
  given_kept big t = record { each = λ k d lt. go (get_or given k d) (Contains-get_or given k d lt) (big k d lt) (t.each k d lt) (nat_eq (get_or given k d % 2) 0) refl }
    where
      go : (l : ℕ) → Contains given l → 1 ≤ l / 2 → true_in v l ≡ true → (b : Bool) → nat_eq (l % 2) 0 ≡ b → true_in (cleared given p.active v) l ≡ true
      go l c b t true e =
          let even : l % 2 ≡ 0 = eqb-true (l % 2) 0 e in
          same_truth v (cleared given p.active v) l (kept given p.active v (l / 2 - 1) (λ k d lt. elim (cases_eq (l / 2) (get_or p.active k d)) [
            | inl same ↦ inl (let twice : l ≡ 2 * get_or p.active k d = omega arith in has-from_Contains given (2 * get_or p.active k d) (subst (Contains given) twice c))
            | inr other ↦ inr (λ q. let g = low_guard _ (Contains-get_or p.active k d lt) in other (omega arith))
          ])) ∙ t
      go l c b t false e = odd_true (cleared given p.active v) l e (stays_false given p.active v (l / 2 - 1) (odd_false v l e t))

pub guards_sound : GuardsAreSound
guards_sound p given h big fail v s t = fail (w p given h v) (full_true p given h v s) (given_kept p given h v big t)
