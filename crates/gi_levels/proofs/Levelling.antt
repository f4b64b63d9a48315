-- A search from gates to their operands.
use Rattle.std.proofs.Common.{◌≡◌, ◌≢◌, ℕ, zero, suc, ◌+◌, ◌-◌, ◌<◌, ◌≤◌, max, List, [], ◌∷◌, ◌++◌, length, take, get_or, set, Bool, true, false, cond, ◌⊎◌, inl, inr, refl, ap, sym, ◌∙◌, arith, subst, length-append}
use Rattle.std.proofs.Math.ListN.{length-set}
use Rattle.std.proofs.lemmas.List.{get_or-set_same, get_or-set_other, get_or_append_left, get_or-append_right, get_or-take, length-take-le}
use Rattle.std.proofs.lemmas.List.Sums.{sum_by-set}
use Rattle.std.proofs.lemmas.Bool.Decides.{eqb_tells}
use Rattle.gi_levels.specs.declared.levels.Node.{Node}
use Rattle.gi_levels.specs.Levels.{node_at, IsOperand, HasLevels, IsKnown, Exact, unseen, Searching, Rooted, IsLast, Advances}

same_or : (a b : ℕ) → (a ≡ b) ⊎ (a ≢ b)
same_or a b = elim (eqb_tells a b) [ inl t ↦ inl t.1 | inr f ↦ inr f.1 ]

-- a level function falls along the path
falls_along : (nodes : List Node) (st : List ℕ) (f : HasLevels nodes) → ((j : ℕ) → j + 1 < length st → IsOperand nodes (get_or st j 0) (get_or st (j + 1) 0)) → (j d k : ℕ) → j + d ≡ k → k < length st → f.level (get_or st k 0) ≤ f.level (get_or st j 0)
falls_along nodes st f path j zero k e lt = let same : j ≡ k = omega arith in subst (λ (i : ℕ). f.level (get_or st i 0) ≤ f.level (get_or st j 0)) same (omega arith)
falls_along nodes st f path j (suc d) k e lt =
    let before : k - 1 + 1 ≡ k = omega arith in
    let ih = falls_along nodes st f path j d (k - 1) (omega arith) (omega arith) in
    let step = f.falls (get_or st (k - 1) 0) (get_or st (k - 1 + 1) 0) (path (k - 1) (omega arith)) in
    let last : f.level (get_or st k 0) < f.level (get_or st (k - 1) 0) = subst (λ (i : ℕ). f.level (get_or st i 0) < f.level (get_or st (k - 1) 0)) before step in
    omega arith

pub cyclic : (nodes : List Node) (seen : List Bool) (lv st : List ℕ) (fr top p : ℕ) → Searching nodes seen lv st fr → IsLast st top → IsOperand nodes top p → get_or lv p 0 ≡ 0 → get_or seen p false ≡ true → HasLevels nodes → ⊥
cyclic nodes seen lv st fr top p s l o unknown was f =
    let found = s.on_stack p o.1 was unknown in
    let down = falls_along nodes st f s.path found.0 (length st - 1 - found.0) (length st - 1) (omega (arith, found.1)) (omega (arith, l.some)) in
    let up : f.level p < f.level top = f.falls top p o in
    let at_top : f.level top ≤ f.level (get_or st found.0 0) = subst (λ (i : ℕ). f.level i ≤ f.level (get_or st found.0 0)) l.last down in
    let at_p : f.level top ≤ f.level p = subst (λ (i : ℕ). f.level top ≤ f.level i) found.2 at_top in
    omega arith

pub fewer : (seen : List Bool) (p : ℕ) → p < length seen → get_or seen p false ≡ false → unseen (set seen p true) + 1 ≡ unseen seen
fewer seen p lt was =
    let e = sum_by-set (λ b. cond b 0 1) seen p true false lt in
    let one : cond {A = ℕ} (get_or seen p false) 0 1 ≡ 1 = rw was refl in
    omega (arith, e, one)

pub some_fresh : (nodes : List Node) (seen : List Bool) (lv st : List ℕ) (fr p : ℕ) → Searching nodes seen lv st fr → p < length nodes → get_or seen p false ≡ false → 0 < fr
some_fresh nodes seen lv st fr p s lt was = omega (arith, fewer seen p (omega (arith, s.seen_len)) was, s.count)

-- a gate goes onto the path
pub pushed : (nodes : List Node) (seen : List Bool) (lv st : List ℕ) (fr fr' top p : ℕ) → Searching nodes seen lv st fr → IsLast st top → IsOperand nodes top p → get_or lv p 0 ≡ 0 → get_or seen p false ≡ false → fr' + 1 ≡ fr → Advances nodes lv st fr (set seen p true) lv (st ++ p ∷ []) fr'
pushed nodes seen lv st fr fr' top p s l o unknown was e = record {
  sound = record {
    seen_len = length-set seen p true ∙ s.seen_len;
    levels_len = s.levels_len;
    within = λ j lt. by_within j (same_or j (length st)) lt;
    path = λ j lt. by_path j (same_or (j + 1) (length st)) lt;
    on_stack = λ k lt was' none. by_stack k (same_or k p) lt was' none;
    exact = s.exact;
    fits = λ k. omega (arith, s.fits k, len);
    count = omega (arith, fewer seen p (omega (arith, s.seen_len, o.1)) was, s.count);
  };
  rooted = λ root r. by_root root r;
  keeps = λ k h. h;
  falls = omega (arith, len);
} where
  len : length (st ++ p ∷ []) ≡ length st + 1
  len = length-append st (p ∷ [])

  at_left : (j : ℕ) → j < length st → get_or (st ++ p ∷ []) j 0 ≡ get_or st j 0
  at_left j lt = get_or_append_left st (p ∷ []) 0 j lt

  at_end : (j : ℕ) → j ≡ length st → get_or (st ++ p ∷ []) j 0 ≡ p
  at_end j h = get_or-append_right st (p ∷ []) (length st) j 0 refl (omega arith) ∙ ap (λ (i : ℕ). get_or (p ∷ []) i 0) none where
    none : j - length st ≡ 0
    none = omega arith

  by_within : (j : ℕ) → (j ≡ length st) ⊎ (j ≢ length st) → j < length (st ++ p ∷ []) → get_or (st ++ p ∷ []) j 0 < length nodes
  by_within j (inl h) lt = subst (λ (i : ℕ). i < length nodes) (sym (at_end j h)) o.1
  by_within j (inr h) lt = let in_st : j < length st = omega (arith, len) in subst (λ (i : ℕ). i < length nodes) (sym (at_left j in_st)) (s.within j in_st)

  by_path : (j : ℕ) → (j + 1 ≡ length st) ⊎ (j + 1 ≢ length st) → j + 1 < length (st ++ p ∷ []) → IsOperand nodes (get_or (st ++ p ∷ []) j 0) (get_or (st ++ p ∷ []) (j + 1) 0)
  by_path j (inl h) lt =
      let is_top : get_or st j 0 ≡ top = ap (λ (i : ℕ). get_or st i 0) (omega arith) ∙ l.last in
      subst (λ (i : ℕ). IsOperand nodes (get_or (st ++ p ∷ []) j 0) i) (sym (at_end (j + 1) h)) (subst (λ (i : ℕ). IsOperand nodes i p) (sym (at_left j (omega arith) ∙ is_top)) o)
  by_path j (inr h) lt =
      let in_st : j + 1 < length st = omega (arith, len) in
      subst (λ (i : ℕ). IsOperand nodes (get_or (st ++ p ∷ []) j 0) i) (sym (at_left (j + 1) in_st)) (subst (λ (i : ℕ). IsOperand nodes i (get_or st (j + 1) 0)) (sym (at_left j (omega arith))) (s.path j in_st))

  by_stack : (k : ℕ) → (k ≡ p) ⊎ (k ≢ p) → k < length nodes → get_or (set seen p true) k false ≡ true → get_or lv k 0 ≡ 0 → (j : ℕ) × (j < length (st ++ p ∷ [])) × (get_or (st ++ p ∷ []) j 0 ≡ k)
  by_stack k (inl h) lt was' none = (length st, omega (arith, len), at_end (length st) refl ∙ sym h)
  by_stack k (inr h) lt was' none =
      let found = s.on_stack k lt (sym (get_or-set_other seen p k true false h) ∙ was') none in
      (found.0, omega (arith, len, found.1), at_left found.0 found.1 ∙ found.2)

  by_root : (root : ℕ) → Rooted root st lv → Rooted root (st ++ p ∷ []) lv
  by_root root (inl h) = inl (omega (arith, len), at_left 0 h.0 ∙ h.1)
  by_root root (inr h) = inr h

-- a gate whose operands are known gets its level
pub settled : (nodes : List Node) (seen : List Bool) (lv st : List ℕ) (fr top : ℕ) → Searching nodes seen lv st fr → IsLast st top → IsKnown nodes lv (node_at nodes top).left → IsKnown nodes lv (node_at nodes top).right
    → Advances nodes lv st fr seen (set lv top (max (get_or lv (node_at nodes top).left 0) (get_or lv (node_at nodes top).right 0) + 1)) (take (length st - 1) st) fr
settled nodes seen lv st fr top s l kl kr = record {
  sound = record {
    seen_len = s.seen_len;
    levels_len = length-set lv top v ∙ s.levels_len;
    within = λ j lt. subst (λ (i : ℕ). i < length nodes) (sym (in_front j (omega (arith, lt, len)))) (s.within j (omega (arith, lt, len)));
    path = λ j lt. subst (λ (i : ℕ). IsOperand nodes i (get_or (take (length st - 1) st) (j + 1) 0)) (sym (in_front j (omega (arith, lt, len))))
        (subst (λ (i : ℕ). IsOperand nodes (get_or st j 0) i) (sym (in_front (j + 1) (omega (arith, lt, len)))) (s.path j (omega (arith, lt, len))));
    on_stack = λ k lt was none. by_stack k (same_or k top) lt was none;
    exact = λ k lt some. by_exact k (same_or k top) lt some;
    fits = λ k. by_fits k (same_or k top);
    count = s.count;
  };
  rooted = λ root r. by_root root r;
  keeps = λ k h. kept k (same_or k top) h;
  falls = omega (arith, len, l.some);
} where
  v : ℕ
  v = max (get_or lv (node_at nodes top).left 0) (get_or lv (node_at nodes top).right 0) + 1

  new : List ℕ
  new = set lv top (max (get_or lv (node_at nodes top).left 0) (get_or lv (node_at nodes top).right 0) + 1)

  len : length (take (length st - 1) st) ≡ length st - 1
  len = length-take-le (length st - 1) st (omega arith)

  in_front : (j : ℕ) → j < length st - 1 → get_or (take (length st - 1) st) j 0 ≡ get_or st j 0
  in_front j lt = get_or-take (length st - 1) st j 0 lt

  top_in : top < length nodes
  top_in = subst (λ (i : ℕ). i < length nodes) l.last (s.within (length st - 1) (omega (arith, l.some)))

  at_top : get_or new top 0 ≡ max (get_or lv (node_at nodes top).left 0) (get_or lv (node_at nodes top).right 0) + 1
  at_top = get_or-set_same lv top (max (get_or lv (node_at nodes top).left 0) (get_or lv (node_at nodes top).right 0) + 1) 0 (omega (arith, top_in, s.levels_len))

  at_other : (k : ℕ) → k ≢ top → get_or new k 0 ≡ get_or lv k 0
  at_other k ne = get_or-set_other lv top k (max (get_or lv (node_at nodes top).left 0) (get_or lv (node_at nodes top).right 0) + 1) 0 ne

  not_zero : get_or new top 0 ≢ 0
  not_zero = λ e. omega (arith, at_top)

  kept : (k : ℕ) → (k ≡ top) ⊎ (k ≢ top) → get_or lv k 0 ≢ 0 → get_or new k 0 ≢ 0
  kept k (inl h) some = subst (λ (i : ℕ). get_or new i 0 ≢ 0) (sym h) not_zero
  kept k (inr h) some = λ e. some (sym (at_other k h) ∙ e)

  known_top : get_or lv top 0 ≢ 0 → get_or new top 0 ≡ get_or lv top 0
  known_top some = let ex = s.exact top top_in some in omega (arith, at_top, ex.value)

  same : (o : ℕ) → (o ≡ top) ⊎ (o ≢ top) → IsKnown nodes lv o → get_or new o 0 ≡ get_or lv o 0
  same o (inl h) known = let at = known_top (subst (λ (i : ℕ). get_or lv i 0 ≢ 0) h (known (subst (λ (i : ℕ). i < length nodes) (sym h) top_in))) in subst (λ (i : ℕ). get_or new i 0 ≡ get_or lv i 0) (sym h) at
  same o (inr h) known = at_other o h

  known : (o : ℕ) → IsKnown nodes lv o → IsKnown nodes new o
  known o k = λ lt. kept o (same_or o top) (k lt)

  exact_top : Exact nodes new top
  exact_top = record {
    value = omega (arith, at_top, same (node_at nodes top).left (same_or (node_at nodes top).left top) kl, same (node_at nodes top).right (same_or (node_at nodes top).right top) kr);
    left = known (node_at nodes top).left kl;
    right = known (node_at nodes top).right kr;
  }

  by_exact : (k : ℕ) → (k ≡ top) ⊎ (k ≢ top) → k < length nodes → get_or new k 0 ≢ 0 → Exact nodes new k
  by_exact k (inl h) lt some = subst (λ (i : ℕ). Exact nodes new i) (sym h) exact_top
  by_exact k (inr h) lt some =
      let ex = s.exact k lt (λ e. some (at_other k h ∙ e)) in
      record {
        value = omega (arith, at_other k h, ex.value, same (node_at nodes k).left (same_or (node_at nodes k).left top) ex.left, same (node_at nodes k).right (same_or (node_at nodes k).right top) ex.right);
        left = known (node_at nodes k).left ex.left;
        right = known (node_at nodes k).right ex.right;
      }

  by_fits : (k : ℕ) → (k ≡ top) ⊎ (k ≢ top) → get_or new k 0 + fr + length (take (length st - 1) st) ≤ length nodes
  by_fits k (inl h) =
      let f : get_or new top 0 + fr + length (take (length st - 1) st) ≤ length nodes = omega (arith, at_top, s.fits (node_at nodes top).left, s.fits (node_at nodes top).right, len, l.some) in
      subst (λ (i : ℕ). get_or new i 0 + fr + length (take (length st - 1) st) ≤ length nodes) (sym h) f
  by_fits k (inr h) = omega (arith, at_other k h, s.fits k, len)

  by_stack : (k : ℕ) → (k ≡ top) ⊎ (k ≢ top) → k < length nodes → get_or seen k false ≡ true → get_or new k 0 ≡ 0 → (j : ℕ) × (j < length (take (length st - 1) st)) × (get_or (take (length st - 1) st) j 0 ≡ k)
  by_stack k (inl h) lt was none = absurd (not_zero (subst (λ (i : ℕ). get_or new i 0 ≡ 0) h none))
  by_stack k (inr h) lt was none =
      let found = s.on_stack k lt was (sym (at_other k h) ∙ none) in
      let ne : found.0 ≢ length st - 1 = λ e. h (sym found.2 ∙ ap (λ (i : ℕ). get_or st i 0) e ∙ l.last) in
      let front : found.0 < length st - 1 = omega (arith, found.1, ne) in
      (found.0, omega (arith, len, front), in_front found.0 front ∙ found.2)

  by_root : (root : ℕ) → Rooted root st lv → Rooted root (take (length st - 1) st) new
  by_root root (inr h) = inr (kept root (same_or root top) h)
  by_root root (inl h) = elim (same_or (length st) 1) [
    | inl one ↦
        let is_top : root ≡ top = sym h.1 ∙ ap (λ (i : ℕ). get_or st i 0) (omega arith) ∙ l.last in
        inr (subst (λ (i : ℕ). get_or new i 0 ≢ 0) (sym is_top) not_zero)
    | inr more ↦ inl (omega (arith, len, l.some), in_front 0 (omega (arith, l.some)) ∙ h.1)
  ]

any_default : (xs : List Bool) (i : ℕ) (d e : Bool) → i < length xs → get_or xs i d ≡ get_or xs i e
any_default [] i d e lt = absurd (omega arith)
any_default (x ∷ xs) zero d e lt = refl
any_default (x ∷ xs) (suc i) d e lt = any_default xs i d e (omega arith)

pub flag_is : (xs : List Bool) (i : ℕ) (b r : Bool) → i < length xs → r ≡ get_or xs i r → r ≡ b → get_or xs i false ≡ b
flag_is xs i b r lt e is = any_default xs i false r lt ∙ sym e ∙ is

-- the same at equal values
pub advances_to : (nodes : List Node) (lv st : List ℕ) (fr : ℕ) (seen : List Bool) (lv' st' : List ℕ) (fr' : ℕ) (seen₂ : List Bool) (lv₂ st₂ : List ℕ) (fr₂ : ℕ)
    → seen₂ ≡ seen → lv₂ ≡ lv' → st₂ ≡ st' → fr₂ ≡ fr' → Advances nodes lv st fr seen lv' st' fr' → Advances nodes lv st fr seen₂ lv₂ st₂ fr₂
advances_to nodes lv st fr seen lv' st' fr' seen₂ lv₂ st₂ fr₂ a b d e h =
    subst (λ (x : List Bool). Advances nodes lv st fr x lv₂ st₂ fr₂) (sym a) (subst (λ (x : List ℕ). Advances nodes lv st fr seen x st₂ fr₂) (sym b) (subst (λ (x : List ℕ). Advances nodes lv st fr seen lv' x fr₂) (sym d) (subst (λ (x : ℕ). Advances nodes lv st fr seen lv' st' x) (sym e) h)))
