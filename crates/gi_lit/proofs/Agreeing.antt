-- The unit closures of the full clauses and of the clauses in force agree on problem literals.
use Rattle.std.proofs.Common.{◌≡◌, ◌≢◌, ℕ, zero, suc, ◌+◌, ◌*◌, ◌/◌, ◌<◌, Bool, true, false, List, [], ◌∷◌, ◌++◌, length, take, get_or, refl, sym, ap, ◌∙◌, subst, arith, ◌⊎◌, inl, inr, add-one}
use Rattle.std.specs.List.{All, Contains}
use Rattle.std.proofs.lemmas.Bool.{cases_lt, cases_eq}
use Rattle.std.proofs.lemmas.List.{take_all, get_or_default}
use Rattle.std.proofs.lemmas.List.Elements.{All-nil, All-contains, All-contains_itself, All-weaker, All-more, Contains-append_left, Contains-push, Contains-get_or}
use Rattle.gi_lit.specs.Literals.{opposite}
use Rattle.gi_lit.specs.Closure.{Forces, IsFalsified, IsStep, IsDerivation, InClosure, Clashes, Conflicts}
use Rattle.gi_lit.specs.Problem.{Problem, has, in_force, full, IsPlain, IsWellFormed, IsProblemVar, IsAssumable}
use Rattle.gi_lit.specs.Guards.{IsGiven, IsLess, IsAsleep, IsGuardedLit}
use Rattle.gi_lit.specs.Laws.{ClosuresAgree, ConflictsAgree}
use Rattle.gi_lit.proofs.Literals.{opposite-opposite, var-opposite}
use Rattle.gi_lit.proofs.Closure.{given_derives, IsDerivation-push}
use Rattle.gi_lit.proofs.Vars.{var_facts, Contains-from_has, lacks_none}
use Rattle.gi_lit.proofs.Resting.{rests}

pub opposite-odd : (g : ℕ) → opposite (2 * g + 1) ≡ 2 * g
unfolding opposite
opposite-odd g = grind arith

-- a derivation that has what is given, and the literals
record Covers (clauses : List (List ℕ)) (given lits : List ℕ) : Type 0 where
  derivation : List ℕ
  derived : IsDerivation clauses given derivation
  starts : All (Contains derivation) given
  covers : All (Contains derivation) lits

pushed : (e xs : List ℕ) (l : ℕ) → All (Contains e) xs → All (Contains (e ++ l ∷ [])) xs
pushed e xs l a = All-weaker (Contains e) (Contains (e ++ l ∷ [])) (λ x h. Contains-append_left e (l ∷ []) x h) xs a

covers_more : (clauses : List (List ℕ)) (given lits : List ℕ) (n : ℕ) → n < length lits → (r : Covers clauses given (take n lits)) → IsStep clauses given r.derivation (get_or lits n 0) → Covers clauses given (take (suc n) lits)
covers_more clauses given lits n lt r s = record {
  derivation = r.derivation ++ get_or lits n 0 ∷ [];
  derived = IsDerivation-push clauses given r.derivation (get_or lits n 0) r.derived s;
  starts = pushed r.derivation given (get_or lits n 0) r.starts;
  covers = rw (← add-one) (All-more (Contains (r.derivation ++ get_or lits n 0 ∷ [])) lits n 0 lt (pushed r.derivation (take n lits) (get_or lits n 0) r.covers) (Contains-push r.derivation (get_or lits n 0)));
}

module _ (p : Problem) (given : List ℕ) (h : IsWellFormed p) (ok : All (IsAssumable p) given) where
  abbrev Whole : List ℕ → Type 0
  Whole d = (c : List ℕ) × Contains (full p) c × IsLess p given c d

  whole_of : (d : List ℕ) → Contains (in_force p given) d → Whole d
  whole_of d c = (rests p given h).awake d c

  abbrev Told : List ℕ → Type 0
  Told c = ((d : List ℕ) × Contains (in_force p given) d × IsLess p given c d) ⊎ IsAsleep p given c

  told_of : (c : List ℕ) → Contains (full p) c → Told c
  told_of c a = (rests p given h).others c a

  -- a released literal's opposite is given
  is_given : (e : List ℕ) (m : ℕ) → All (Contains e) given → IsGiven p given m → Contains e (opposite m)
  is_given e m a r = subst (Contains e) (sym (ap opposite r.negative ∙ opposite-odd r.guard)) (All-contains (Contains e) given (2 * r.guard) a r.stands)

  -- from the clauses in force to the full ones
  full_step : (earlier e : List ℕ) (l : ℕ) → IsStep (in_force p given) given earlier l → All (Contains e) earlier → All (Contains e) given → IsStep (full p) given e l
  full_step earlier e l (inl a) before starts = inl a
  full_step earlier e l (inr s) before starts = inr (w.0, w.1, record { stands = All-contains (Contains w.0) s.0 l w.2.part s.2.stands; others = λ k d lt. other (get_or w.0 k d) (w.2.others k d lt) })
    where
      w : Whole s.0
      w = whole_of s.0 s.1

      other : (m : ℕ) → Contains s.0 m ⊎ IsGiven p given m → (m ≡ l) ⊎ Contains e (opposite m)
      other m (inl inside) = elim (All-contains (λ m. (m ≡ l) ⊎ Contains earlier (opposite m)) s.0 m s.2.others inside) [ inl same ↦ inl same | inr b ↦ inr (All-contains (Contains e) earlier (opposite m) before b) ]
      other m (inr r) = inr (is_given e m starts r)

  full_front : (lits : List ℕ) → IsDerivation (in_force p given) given lits → (n : ℕ) → Covers (full p) given (take n lits)
  full_front lits d zero = record { derivation = given; derived = given_derives (full p) given; starts = All-contains_itself given; covers = All-nil (Contains given) }
  full_front lits d (suc n) = elim (cases_lt n (length lits)) [
    | inl lt ↦ let r = full_front lits d n in covers_more (full p) given lits n lt r (full_step (take n lits) r.derivation (get_or lits n 0) (d.each n lt) r.covers r.starts)
    | inr le ↦ let e : take (suc n) lits ≡ take n lits = take_all (suc n) lits (omega arith) ∙ sym (take_all n lits le) in subst (Covers (full p) given) (sym e) (full_front lits d n)
  ]

  full_covers : (lits : List ℕ) → IsDerivation (in_force p given) given lits → Covers (full p) given lits
  full_covers lits d = subst (Covers (full p) given) (take_all (length lits) lits (omega arith)) (full_front lits d (length lits))

  full_clash : (lits e : List ℕ) → All (Contains e) lits → All (Contains e) given → Clashes (in_force p given) lits → Clashes (full p) e
  full_clash lits e covers starts (inl x) = inl (x.0, All-contains (Contains e) lits x.0 covers x.1, All-contains (Contains e) lits (opposite x.0) covers x.2)
  full_clash lits e covers starts (inr x) = inr (w.0, w.1, λ k d lt. other (get_or w.0 k d) (w.2.others k d lt))
    where
      w : Whole x.0
      w = whole_of x.0 x.1

      other : (m : ℕ) → Contains x.0 m ⊎ IsGiven p given m → Contains e (opposite m)
      other m (inl inside) = All-contains (Contains e) lits (opposite m) covers (All-contains (λ m. Contains lits (opposite m)) x.0 m x.2 inside)
      other m (inr r) = is_given e m starts r

  pub conflicts_in_full : Conflicts (in_force p given) given → Conflicts (full p) given
  conflicts_in_full c = let r = full_covers c.lits c.derived in record { lits = r.derivation; derived = r.derived; clash = full_clash c.lits r.derivation r.covers r.starts c.clash }

  pub closure_in_full : (l : ℕ) → InClosure (in_force p given) given l → InClosure (full p) given l
  closure_in_full l c = let r = full_covers c.lits c.derived in record { lits = r.derivation; derived = r.derived; stands = All-contains (Contains r.derivation) c.lits l r.covers c.stands }

  -- from the full clauses to those in force
  in_force_plain : (d : List ℕ) (m : ℕ) → Contains (in_force p given) d → Contains d m → IsProblemVar p (m / 2)
  in_force_plain d m c a = All-contains (λ l. IsProblemVar p (l / 2)) d m (All-contains (IsPlain p) (in_force p given) d (rests p given h).plain c) a

  no_guard : (g v : ℕ) → Contains p.active g → IsProblemVar p v → v ≢ g
  no_guard g v act pv e = (var_facts p v pv).inactive (subst (Contains p.active) (sym e) act)

  -- a derivation's literal is given, or of a problem variable
  plain_derived : (lits : List ℕ) → IsDerivation (in_force p given) given lits → All (λ l. Contains given l ⊎ IsProblemVar p (l / 2)) lits
  plain_derived lits d k x lt = rw (get_or_default lits k x 0 lt) (go (get_or lits k 0) (d.each k lt))
    where
      go : (l : ℕ) → IsStep (in_force p given) given (take k lits) l → Contains given l ⊎ IsProblemVar p (l / 2)
      go l (inl a) = inl a
      go l (inr s) = inr (in_force_plain s.0 l s.1 s.2.stands)

  guard_given : (lits : List ℕ) → IsDerivation (in_force p given) given lits → (g : ℕ) → Contains p.active g → Contains lits (2 * g) → Contains given (2 * g)
  guard_given lits d g act c = elim (All-contains (λ l. Contains given l ⊎ IsProblemVar p (l / 2)) lits (2 * g) (plain_derived lits d) c) [ inl a ↦ a | inr pv ↦ absurd (no_guard g (2 * g / 2) act pv (omega arith)) ]

  -- a guard's negation, which conflicts where the guard is given
  record Denies (lits : List ℕ) (l : ℕ) : Type 0 where
    guard : ℕ
    active : Contains p.active guard
    is : l ≡ 2 * guard + 1
    conflict : Contains given (2 * guard) → (d : List ℕ) × Contains (in_force p given) d × IsFalsified lits d

  abbrev Mirrored : List ℕ → ℕ → Type 0
  Mirrored lits l = Contains lits l ⊎ Denies lits l

  mirrored_more : (lits : List ℕ) (x l : ℕ) → Mirrored lits l → Mirrored (lits ++ x ∷ []) l
  mirrored_more lits x l (inl a) = inl (Contains-append_left lits (x ∷ []) l a)
  mirrored_more lits x l (inr r) = inr (record { guard = r.guard; active = r.active; is = r.is; conflict = λ g. let c = r.conflict g in (c.0, c.1, pushed_false c.0 c.2) })
    where
      pushed_false : (d : List ℕ) → IsFalsified lits d → IsFalsified (lits ++ x ∷ []) d
      pushed_false d f = All-weaker (λ m. Contains lits (opposite m)) (λ m. Contains (lits ++ x ∷ []) (opposite m)) (λ m a. Contains-append_left lits (x ∷ []) (opposite m) a) d f

  -- one that is the opposite of a problem literal, or a guard's positive literal, is there itself
  mirrored_plain : (lits : List ℕ) (m : ℕ) → IsProblemVar p (m / 2) → Mirrored lits (opposite m) → Contains lits (opposite m)
  mirrored_plain lits m pv (inl a) = a
  mirrored_plain lits m pv (inr r) = absurd (no_guard r.guard (m / 2) r.active pv (let e = r.is in omega (arith, var-opposite m)))

  mirrored_guard : (lits : List ℕ) (g : ℕ) → Mirrored lits (2 * g) → Contains lits (2 * g)
  mirrored_guard lits g (inl a) = a
  mirrored_guard lits g (inr r) = absurd (let e = r.is in omega arith)

  record Mirror (lits : List ℕ) : Type 0 where
    derivation : List ℕ
    derived : IsDerivation (in_force p given) given derivation
    mirrored : All (Mirrored derivation) lits

  mirror_push : (lits : List ℕ) (n : ℕ) → n < length lits → (r : Mirror (take n lits)) → IsStep (in_force p given) given r.derivation (get_or lits n 0) → Mirror (take (suc n) lits)
  mirror_push lits n lt r s = record {
    derivation = r.derivation ++ get_or lits n 0 ∷ [];
    derived = IsDerivation-push (in_force p given) given r.derivation (get_or lits n 0) r.derived s;
    mirrored = rw (← add-one) (All-more (Mirrored (r.derivation ++ get_or lits n 0 ∷ [])) lits n 0 lt (All-weaker (Mirrored r.derivation) (Mirrored (r.derivation ++ get_or lits n 0 ∷ [])) (mirrored_more r.derivation (get_or lits n 0)) (take n lits) r.mirrored) (inl (Contains-push r.derivation (get_or lits n 0))));
  }

  mirror_deny : (lits : List ℕ) (n : ℕ) → n < length lits → (r : Mirror (take n lits)) → Denies r.derivation (get_or lits n 0) → Mirror (take (suc n) lits)
  mirror_deny lits n lt r x = record {
    derivation = r.derivation;
    derived = r.derived;
    mirrored = rw (← add-one) (All-more (Mirrored r.derivation) lits n 0 lt r.mirrored (inr x));
  }

  module _ (earlier : List ℕ) (r : Mirror earlier) where
    here : (m : ℕ) → Contains earlier m → Mirrored r.derivation m
    here m a = All-contains (Mirrored r.derivation) earlier m r.mirrored a

    -- a clause in force, where the whole clause forces l or is false
    others_here : (d c : List ℕ) (l : ℕ) → Contains (in_force p given) d → IsLess p given c d → Forces c l earlier → All (λ m. (m ≡ l) ⊎ Contains r.derivation (opposite m)) d
    others_here d c l a rel f k x lt = go (get_or d k x) (Contains-get_or d k x lt)
      where
        go : (m : ℕ) → Contains d m → (m ≡ l) ⊎ Contains r.derivation (opposite m)
        go m b = elim (All-contains (λ m. (m ≡ l) ⊎ Contains earlier (opposite m)) c m f.others (All-contains (Contains c) d m rel.part b)) [
          | inl same ↦ inl same
          | inr before ↦ inr (mirrored_plain r.derivation m (in_force_plain d m a b) (here (opposite m) before))
        ]

    -- another guard's negation can't stand in a clause that forces l
    no_other : (c : List ℕ) (l g : ℕ) → Forces c l earlier → Contains p.active g → Contains c (2 * g + 1) → l ≢ 2 * g + 1 → Contains given (2 * g)
    no_other c l g f act b n = elim (All-contains (λ m. (m ≡ l) ⊎ Contains earlier (opposite m)) c (2 * g + 1) f.others b) [
      | inl same ↦ absurd (n (sym same))
      | inr before ↦ guard_given r.derivation r.derived g act (mirrored_guard r.derivation g (here (2 * g) (subst (Contains earlier) (opposite-odd g) before)))
    ]

    -- l is of a guard: its negation is denied
    denies : (c : List ℕ) (l : ℕ) → Contains (full p) c → Forces c l earlier → Contains p.active (l / 2) → Denies r.derivation l
    denies c l a f act = record { guard = l / 2; active = act; is = odd; conflict = λ giv. go giv (told_of c a) }
      where
        odd : l ≡ 2 * (l / 2) + 1
        odd = (All-contains (IsGuardedLit p) c l (All-contains (All (IsGuardedLit p)) (full p) c (rests p given h).lits a) f.stands).negative act

        go : Contains given (2 * (l / 2)) → Told c → (d : List ℕ) × Contains (in_force p given) d × IsFalsified r.derivation d
        go giv (inl t) = (
          t.0,
          t.1,
          λ k x lt. elim (others_here t.0 c l t.1 t.2 f k x lt) [
            | inl same ↦ absurd (no_guard (l / 2) (get_or t.0 k x / 2) act (in_force_plain t.0 (get_or t.0 k x) t.1 (Contains-get_or t.0 k x lt)) (ap (λ m. m / 2) same))
            | inr before ↦ before
          ],
        )
        go giv (inr t) = absurd (elim (cases_eq l (2 * t.guard + 1)) [
          | inl same ↦ t.missing (subst (λ g. Contains given (2 * g)) (let s = same in omega arith) giv)
          | inr n ↦ t.missing (no_other c l t.guard f t.active t.negative n)
        ])

    -- l is of no active guard: a clause in force forces it
    forces_here : (c : List ℕ) (l : ℕ) → Contains (full p) c → Forces c l earlier → ¬ Contains p.active (l / 2) → IsStep (in_force p given) given r.derivation l
    forces_here c l a f n = go (told_of c a)
      where
        go : Told c → IsStep (in_force p given) given r.derivation l
        go (inl t) = inr (t.0, t.1, record { stands = elim (All-contains (λ m. Contains t.0 m ⊎ IsGiven p given m) c l t.2.others f.stands) [ inl b ↦ b | inr g ↦ absurd (n (subst (Contains p.active) (let e = g.negative in omega arith) g.active)) ]; others = others_here t.0 c l t.1 t.2 f })
        go (inr t) = absurd (t.missing (no_other c l t.guard f t.active t.negative (λ e. n (subst (Contains p.active) (let s = e in omega arith) t.active))))

  mirror_step : (lits : List ℕ) (n : ℕ) → n < length lits → (r : Mirror (take n lits)) → IsStep (full p) given (take n lits) (get_or lits n 0) → Mirror (take (suc n) lits)
  mirror_step lits n lt r (inl a) = mirror_push lits n lt r (inl a)
  mirror_step lits n lt r (inr s) = go (has p.active (get_or lits n 0 / 2)) refl
    where
      go : (b : Bool) → has p.active (get_or lits n 0 / 2) ≡ b → Mirror (take (suc n) lits)
      go true e = mirror_deny lits n lt r (denies (take n lits) r s.0 (get_or lits n 0) s.1 s.2 (Contains-from_has p.active (get_or lits n 0 / 2) e))
      go false e = mirror_push lits n lt r (forces_here (take n lits) r s.0 (get_or lits n 0) s.1 s.2 (lacks_none p.active (get_or lits n 0 / 2) e))

  mirror_front : (lits : List ℕ) → IsDerivation (full p) given lits → (n : ℕ) → Mirror (take n lits)
  mirror_front lits d zero = record { derivation = given; derived = given_derives (in_force p given) given; mirrored = All-nil (Mirrored given) }
  mirror_front lits d (suc n) = elim (cases_lt n (length lits)) [
    | inl lt ↦ mirror_step lits n lt (mirror_front lits d n) (d.each n lt)
    | inr le ↦ let e : take (suc n) lits ≡ take n lits = take_all (suc n) lits (omega arith) ∙ sym (take_all n lits le) in subst Mirror (sym e) (mirror_front lits d n)
  ]

  mirror : (lits : List ℕ) → IsDerivation (full p) given lits → Mirror lits
  mirror lits d = subst Mirror (take_all (length lits) lits (omega arith)) (mirror_front lits d (length lits))

  pub closure_in_force : (l : ℕ) → IsProblemVar p (l / 2) → InClosure (full p) given l → InClosure (in_force p given) given l
  closure_in_force l pv c = let r = mirror c.lits c.derived in elim (here c.lits r l c.stands) [
    | inl a ↦ record { lits = r.derivation; derived = r.derived; stands = a }
    | inr x ↦ absurd (no_guard x.guard (l / 2) x.active pv (let e = x.is in omega arith))
  ]

  pub conflicts_in_force : Conflicts (full p) given → Conflicts (in_force p given) given
  conflicts_in_force c = record { lits = r.derivation; derived = r.derived; clash = go c.clash }
    where
      r : Mirror c.lits
      r = mirror c.lits c.derived

      -- a guard and its negation
      denied : {l : ℕ} → (x : Denies r.derivation l) → Contains r.derivation (2 * x.guard) → Clashes (in_force p given) r.derivation
      denied x a = inr (x.conflict (guard_given r.derivation r.derived x.guard x.active a))

      both : (l : ℕ) → Mirrored r.derivation l → Mirrored r.derivation (opposite l) → Clashes (in_force p given) r.derivation
      both l (inl a) (inl b) = inl (l, a, b)
      both l (inl a) (inr x) = denied x (subst (Contains r.derivation) (sym (opposite-opposite l) ∙ (ap opposite x.is ∙ opposite-odd x.guard)) a)
      both l (inr x) (inl b) = denied x (subst (Contains r.derivation) (ap opposite x.is ∙ opposite-odd x.guard) b)
      both l (inr x) (inr y) = absurd (let e : 2 * x.guard ≡ 2 * y.guard + 1 = sym (ap opposite x.is ∙ opposite-odd x.guard) ∙ y.is in omega arith)

      go : Clashes (full p) c.lits → Clashes (in_force p given) r.derivation
      go (inl x) = both x.0 (here c.lits r x.0 x.1) (here c.lits r (opposite x.0) x.2)
      go (inr x) = one (told_of x.0 x.1)
        where
          one : Told x.0 → Clashes (in_force p given) r.derivation
          one (inl t) = inr (t.0, t.1, λ k y lt. mirrored_plain r.derivation (get_or t.0 k y) (in_force_plain t.0 (get_or t.0 k y) t.1 (Contains-get_or t.0 k y lt)) (here c.lits r (opposite (get_or t.0 k y)) (All-contains (λ m. Contains c.lits (opposite m)) x.0 (get_or t.0 k y) x.2 (t.2.part k y lt))))
          one (inr t) = absurd (t.missing (guard_given r.derivation r.derived t.guard t.active (mirrored_guard r.derivation t.guard (here c.lits r (2 * t.guard) (subst (Contains c.lits) (opposite-odd t.guard) (All-contains (λ m. Contains c.lits (opposite m)) x.0 (2 * t.guard + 1) x.2 t.negative))))))

pub closures_agree : ClosuresAgree
closures_agree p given h ok l pv = (closure_in_force p given h ok l pv, closure_in_full p given h ok l)

pub conflicts_agree : ConflictsAgree
conflicts_agree p given h ok = (conflicts_in_force p given h ok, conflicts_in_full p given h ok)
