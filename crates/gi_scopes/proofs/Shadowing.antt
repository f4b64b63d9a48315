-- From unit closure over the full clauses to unit closure over the clauses in force.
use Rattle.std.proofs.Common.{◌≡◌, ◌≢◌, ℕ, zero, suc, ◌+◌, ◌*◌, ◌/◌, ◌<◌, ◌≤◌, Bool, true, false, List, [], ◌∷◌, ◌++◌, length, take, get_or, refl, sym, ap, ◌∙◌, subst, arith, ◌⊎◌, inl, inr, add-one}
use Rattle.std.specs.List.{All, Contains}
use Rattle.std.proofs.lemmas.Bool.{cases_lt, cases_eq, false≢true}
use Rattle.std.proofs.lemmas.List.{take_all, get_or_default}
use Rattle.std.proofs.lemmas.List.Elements.{All-nil, All-contains, All-weaker, All-more, Contains-append_left, Contains-push, Contains-get_or}
use Rattle.gi_lit.specs.Literals.{opposite}
use Rattle.gi_lit.specs.Lists.{IsSublist}
use Rattle.gi_lit.specs.Truth.{true_in, IsConsequence, Fail}
use Rattle.gi_lit.specs.Closure.{Forces, IsFalsified, IsStep, IsDerivation, InClosure, Conflicts, IsConsistent, IsSettled, has_true, has_two, IsClosed}
use Rattle.gi_lit.specs.Problem.{Problem, is_problem_var, in_force, full, IsPlain, IsWellFormed, IsProblemVar}
use Rattle.gi_lit.specs.Guards.{IsLess, IsGiven, IsAsleep, IsGuardedLit}
use Rattle.gi_lit.proofs.Literals.{var-opposite, opposite-opposite}
use Rattle.gi_lit.proofs.Agreeing.{opposite-odd}
use Rattle.gi_lit.proofs.Closure.{given_derives, IsDerivation-push, derived_true, conflicts_fail}
use Rattle.gi_lit.proofs.Closing.{closure_inside, nothing_conflicts}
use Rattle.gi_lit.proofs.Guarding.{guards_sound}
use Rattle.gi_lit.proofs.Resting.{rests}
use Rattle.gi_lit.proofs.Vars.{var_facts}
use Rattle.gi_store.specs.StoreView.{IsWithin}
use Rattle.gi_model.specs.Tests.{HasCause, Implies}
use Rattle.gi_scopes.specs.Open.{IsReasoned}
use Rattle.gi_scopes.specs.Listing.{IsListing}
use Rattle.gi_scopes.proofs.Fronts.{Contains-take, sublist_has, sublist_all}

no_guard : (p : Problem) (l g : ℕ) → Contains p.active g → IsProblemVar p (l / 2) → l / 2 ≢ g
no_guard p l g act pv e = (var_facts p (l / 2) pv).inactive (subst (Contains p.active) (sym e) act)

in_force_plain : (p : Problem) (given : List ℕ) → IsWellFormed p → (d : List ℕ) (m : ℕ) → Contains (in_force p given) d → Contains d m → IsProblemVar p (m / 2)
in_force_plain p given w d m c a = All-contains (λ l. IsProblemVar p (l / 2)) d m (All-contains (IsPlain p) (in_force p given) d (rests p given w).plain c) a

-- what fails by unit closure over the full clauses fails over those in force
fails : (p : Problem) (w : List ℕ) → IsWellFormed p → All (λ l. 1 ≤ l / 2) w → Conflicts (full p) w → Fail (in_force p w) w
fails p w wf low c = guards_sound p w wf low (conflicts_fail (full p) w c)

-- a literal and its opposite
both_conflict : (clauses : List (List ℕ)) (given : List ℕ) (l : ℕ) → Contains given l → Contains given (opposite l) → Conflicts clauses given
both_conflict clauses given l a b = record { lits = given; derived = given_derives clauses given; clash = inl (l, a, b) }

low_lits : (n : ℕ) (given w : List ℕ) → IsWithin n given → IsSublist w given → All (λ l. 1 ≤ l / 2) w
low_lits n given w within s = sublist_all (λ l. 1 ≤ l / 2) w given s (λ x c. let r : (1 ≤ x / 2) × (x / 2 ≤ n) = All-contains (λ l. (1 ≤ l / 2) × (l / 2 ≤ n)) given x within c in r.0)

-- assumptions that clash fail
pub clash_closes : (p : Problem) (n : ℕ) (given w : List ℕ) (l : ℕ) → IsWellFormed p → IsWithin n given → IsSublist w given → Contains w l × Contains w (opposite l) → Conflicts (in_force p given) given × IsSublist w given × Fail (in_force p w) w
clash_closes p n given w l wf within s c = (both_conflict (in_force p given) given l (sublist_has w given l s c.0) (sublist_has w given (opposite l) s c.1), s, fails p w wf (low_lits n given w within s) (both_conflict (full p) w l c.0 c.1))

-- assumptions under which the full clauses conflict fail
pub conflict_closes : (p : Problem) (n : ℕ) (given w : List ℕ) → IsWellFormed p → IsWithin n given → IsSublist w given → Conflicts (full p) w → Conflicts (in_force p given) given → Conflicts (in_force p given) given × IsSublist w given × Fail (in_force p w) w
conflict_closes p n given w wf within s c f = (f, s, fails p w wf (low_lits n given w within s) c)

module _ (p : Problem) (w : IsWellFormed p) (given lits : List ℕ) (u : IsDerivation (full p) given lits) where
  pub full_lit : (c : List ℕ) (l : ℕ) → Contains (full p) c → Contains c l → IsGuardedLit p l
  full_lit c l a b = All-contains (IsGuardedLit p) c l (All-contains (All (IsGuardedLit p)) (full p) c (rests p given w).lits a) b

  -- a guard's positive literal is an assumption, since no clause has it
  pub guard_given : (g : ℕ) → Contains p.active g → Contains lits (2 * g) → Contains given (2 * g)
  guard_given g act h = go (u.each h.0 h.1)
    where
      at : get_or lits h.0 0 ≡ 2 * g
      at = get_or_default lits h.0 0 (2 * g) h.1 ∙ h.2

      go : IsStep (full p) given (take h.0 lits) (get_or lits h.0 0) → Contains given (2 * g)
      go (inl a) = subst (Contains given) at a
      go (inr f) =
          let n : get_or lits h.0 0 ≡ 2 * (get_or lits h.0 0 / 2) + 1 = (full_lit f.0 (get_or lits h.0 0) f.1 f.2.stands).negative (subst (Contains p.active) (let e = at in omega arith) act) in
          absurd (let e = at in omega arith)

  -- the clause is in force less guards that are given, or its guard isn't given
  abbrev Told : List ℕ → Type 0
  Told c = ((d : List ℕ) × Contains (in_force p given) d × IsLess p given c d) ⊎ IsAsleep p given c

  told_of : (c : List ℕ) → Contains (full p) c → Told c
  told_of c a = (rests p given w).others c a

  -- a derivation over the clauses in force that has the first literals of problem variables
  record Shadow (n : ℕ) : Type 0 where
    derivation : List ℕ
    derived : IsDerivation (in_force p given) given derivation
    covers : All (λ m. IsProblemVar p (m / 2) → Contains derivation m) (take n lits)

  module _ (n : ℕ) (lt : n < length lits) (r : Shadow n) where
    before : (m : ℕ) → Contains (take n lits) (opposite m) → IsProblemVar p (m / 2) → Contains r.derivation (opposite m)
    before m c pv = All-contains (λ x. IsProblemVar p (x / 2) → Contains r.derivation x) (take n lits) (opposite m) r.covers c (subst (IsProblemVar p) (sym (var-opposite m)) pv)

    shadow_push : IsStep (in_force p given) given r.derivation (get_or lits n 0) → Shadow (suc n)
    shadow_push s = record {
      derivation = r.derivation ++ get_or lits n 0 ∷ [];
      derived = IsDerivation-push (in_force p given) given r.derivation (get_or lits n 0) r.derived s;
      covers = rw (← add-one) (All-more (λ m. IsProblemVar p (m / 2) → Contains (r.derivation ++ get_or lits n 0 ∷ []) m) lits n 0 lt
          (All-weaker (λ m. IsProblemVar p (m / 2) → Contains r.derivation m) (λ m. IsProblemVar p (m / 2) → Contains (r.derivation ++ get_or lits n 0 ∷ []) m) (λ m f pv. Contains-append_left r.derivation (get_or lits n 0 ∷ []) m (f pv)) (take n lits) r.covers)
          (λ pv. Contains-push r.derivation (get_or lits n 0)));
    }

    shadow_skip : ¬ IsProblemVar p (get_or lits n 0 / 2) → Shadow (suc n)
    shadow_skip other = record {
      derivation = r.derivation;
      derived = r.derived;
      covers = rw (← add-one) (All-more (λ m. IsProblemVar p (m / 2) → Contains r.derivation m) lits n 0 lt r.covers (λ pv. absurd (other pv)));
    }

    shadow_forced : IsProblemVar p (get_or lits n 0 / 2) → (c : List ℕ) → Contains (full p) c → Forces c (get_or lits n 0) (take n lits) → IsStep (in_force p given) given r.derivation (get_or lits n 0)
    shadow_forced pv c a f = go (told_of c a)
      where
        x : ℕ
        x = get_or lits n 0

        other : (m : ℕ) → Contains c m → (m ≡ get_or lits n 0) ⊎ Contains (take n lits) (opposite m)
        other m b = All-contains (λ m. (m ≡ get_or lits n 0) ⊎ Contains (take n lits) (opposite m)) c m f.others b

        go : Told c → IsStep (in_force p given) given r.derivation (get_or lits n 0)
        go (inl t) = inr (
          t.0,
          t.1,
          record {
            stands = elim (All-contains (λ l. Contains t.0 l ⊎ IsGiven p given l) c (get_or lits n 0) t.2.others f.stands) [
              | inl b ↦ b
              | inr g ↦ absurd (no_guard p (get_or lits n 0) g.guard g.active pv (let e = g.negative in omega arith))
            ];
            others = λ k d kl.
                let m : ℕ = get_or t.0 k d in
                let inside : Contains t.0 m = Contains-get_or t.0 k d kl in
                elim (other m (All-contains (Contains c) t.0 m t.2.part inside)) [
                  | inl same ↦ inl same
                  | inr b ↦ inr (before m b (in_force_plain p given w t.0 m t.1 inside))
                ];
          },
        )
        go (inr s) = elim (other (2 * s.guard + 1) s.negative) [
          | inl same ↦ absurd (no_guard p (get_or lits n 0) s.guard s.active pv (let e = same in omega arith))
          | inr b ↦ absurd (s.missing (guard_given s.guard s.active (Contains-take n lits (2 * s.guard) (subst (Contains (take n lits)) (opposite-odd s.guard) b))))
        ]

    shadow_step : Shadow (suc n)
    shadow_step = go (is_problem_var p (get_or lits n 0 / 2)) refl
      where
        go : (b : Bool) → is_problem_var p (get_or lits n 0 / 2) ≡ b → Shadow (suc n)
        go false e = shadow_skip (λ pv. false≢true (sym e ∙ pv))
        go true pv = elim (u.each n lt) [
          | inl a ↦ shadow_push (inl a)
          | inr f ↦ shadow_push (shadow_forced pv f.0 f.1 f.2)
        ]

  shadow_front : (n : ℕ) → Shadow n
  shadow_front zero = record { derivation = given; derived = given_derives (in_force p given) given; covers = All-nil (λ m. IsProblemVar p (m / 2) → Contains given m) }
  shadow_front (suc n) = elim (cases_lt n (length lits)) [
    | inl lt ↦ shadow_step n lt (shadow_front n)
    | inr le ↦
        let r = shadow_front n in
        let e : take (suc n) lits ≡ take n lits = take_all (suc n) lits (omega arith) ∙ sym (take_all n lits le) in
        record { derivation = r.derivation; derived = r.derived; covers = subst (All (λ m. IsProblemVar p (m / 2) → Contains r.derivation m)) (sym e) r.covers }
  ]

  shadow : Shadow (length lits)
  shadow = shadow_front (length lits)

  shadow_has : (m : ℕ) → Contains lits m → IsProblemVar p (m / 2) → Contains shadow.derivation m
  shadow_has m c pv = All-contains (λ m. IsProblemVar p (m / 2) → Contains shadow.derivation m) lits m (subst (All (λ m. IsProblemVar p (m / 2) → Contains shadow.derivation m)) (take_all (length lits) lits (omega arith)) shadow.covers) c pv

  consequence : (m : ℕ) → Contains lits m → IsProblemVar p (m / 2) → IsConsequence (in_force p given) given m
  consequence m c pv values sat mk = All-contains (λ l. true_in values l ≡ true) shadow.derivation m (derived_true (in_force p given) given shadow.derivation shadow.derived values sat mk).each (shadow_has m c pv)

  -- where a full clause is false, the clauses in force conflict
  pub conflict_in_force : (c : List ℕ) → Contains (full p) c → IsFalsified lits c → Conflicts (in_force p given) given
  conflict_in_force c a f = record { lits = shadow.derivation; derived = shadow.derived; clash = go (told_of c a) }
    where
      go : Told c → ((l : ℕ) × Contains shadow.derivation l × Contains shadow.derivation (opposite l)) ⊎ ((d : List ℕ) × Contains (in_force p given) d × IsFalsified shadow.derivation d)
      go (inl t) = inr (
        t.0,
        t.1,
        λ k d kl.
            let m : ℕ = get_or t.0 k d in
            let inside : Contains t.0 m = Contains-get_or t.0 k d kl in
            shadow_has (opposite m) (All-contains (λ m. Contains lits (opposite m)) c m f (All-contains (Contains c) t.0 m t.2.part inside)) (subst (IsProblemVar p) (sym (var-opposite m)) (in_force_plain p given w t.0 m t.1 inside)),
      )
      go (inr s) = absurd (s.missing (guard_given s.guard s.active (subst (Contains lits) (opposite-odd s.guard) (All-contains (λ m. Contains lits (opposite m)) c (2 * s.guard + 1) f s.negative))))

  module _ (whole : All (Contains lits) given) (closed : IsClosed (full p) lits) (free : IsConsistent lits) where
    not_both : (g : ℕ) → Contains given (2 * g) → ¬ Contains lits (2 * g + 1)
    not_both g a b = free.each (2 * g + 1) b (subst (Contains lits) (sym (opposite-odd g)) (All-contains (Contains lits) given (2 * g) whole a))

    stays_settled : (c d : List ℕ) → IsLess p given c d → IsSettled lits c → IsSettled lits d
    stays_settled c d less (has_true l a b) = elim (All-contains (λ l. Contains d l ⊎ IsGiven p given l) c l less.others a) [
      | inl inside ↦ has_true l inside b
      | inr g ↦ absurd (not_both g.guard g.stands (subst (Contains lits) g.negative b))
    ]
    stays_settled c d less (has_two l m a b ne x y) = elim (All-contains (λ l. Contains d l ⊎ IsGiven p given l) c l less.others a) [
      | inl inl_d ↦ elim (All-contains (λ l. Contains d l ⊎ IsGiven p given l) c m less.others b) [
        | inl inm_d ↦ has_two l m inl_d inm_d ne x y
        | inr g ↦ absurd (y (false_guard m g))
      ]
      | inr g ↦ absurd (x (false_guard l g))
    ]
      where
        false_guard : (z : ℕ) → IsGiven p given z → Contains lits (opposite z)
        false_guard z g = subst (Contains lits) (sym (ap opposite g.negative ∙ opposite-odd g.guard)) (All-contains (Contains lits) given (2 * g.guard) whole g.stands)

    closed_force : IsClosed (in_force p given) lits
    closed_force = record {
      each = λ k d lt.
          let x : List ℕ = get_or (in_force p given) k d in
          let r = (rests p given w).awake x (Contains-get_or (in_force p given) k d lt) in
          stays_settled r.0 x r.2 (All-contains (IsSettled lits) (full p) r.0 closed.each r.1);
    }

    pub nothing_fails : ¬ Conflicts (in_force p given) given
    nothing_fails = nothing_conflicts (in_force p given) given lits closed_force free whole

    closure_plain : (m : ℕ) → InClosure (in_force p given) given m → Contains given m ⊎ IsProblemVar p (m / 2)
    closure_plain m c = go (c.derived.each c.stands.0 c.stands.1)
      where
        at : get_or c.lits c.stands.0 0 ≡ m
        at = get_or_default c.lits c.stands.0 0 m c.stands.1 ∙ c.stands.2

        go : IsStep (in_force p given) given (take c.stands.0 c.lits) (get_or c.lits c.stands.0 0) → Contains given m ⊎ IsProblemVar p (m / 2)
        go (inl a) = inl (subst (Contains given) at a)
        go (inr s) = inr (in_force_plain p given w s.0 m s.1 (subst (Contains s.0) at s.2.stands))

    module _ (earlier ls : List ℕ) (rss : List (List ℕ)) (h : IsListing p given earlier lits ls rss) where
      cause : (k : ℕ) → k < length ls → HasCause p (given ++ (earlier ++ take k ls)) (get_or ls k 0)
      cause k lt =
          let e = h.listed.each k lt in
          let r : IsReasoned p (get_or ls k 0) (get_or rss k []) = e.0 in
          (r.clause, r.stands, record { stands = r.holds; others = λ i d il. reason r e.1 (get_or r.clause i d) (Contains-get_or r.clause i d il) })
        where
          reason : (r : IsReasoned p (get_or ls k 0) (get_or rss k [])) → All (Contains (given ++ (earlier ++ take k ls))) (get_or rss k []) → (l : ℕ) → Contains r.clause l → (l ≡ get_or ls k 0) ⊎ Contains (given ++ (earlier ++ take k ls)) (opposite l)
          reason r a l c = elim (cases_eq l (get_or ls k 0)) [
            | inl same ↦ inl same
            | inr ne ↦ inr (All-contains (Contains (given ++ (earlier ++ take k ls))) (get_or rss k []) (opposite l) a ((r.others (opposite l)).1 (l, c, ne, refl)))
          ]

      pub implies : Implies p given earlier ls
      implies = record {
        distinct = h.distinct;
        new = h.new;
        listed = record { plain = h.plain; consequences = λ k d lt. consequence (get_or ls k d) (h.inside k d lt) (h.plain k d lt); causes = cause };
        covers = λ m c. elim (closure_plain m c) [
          | inl a ↦ Contains-append_left given (earlier ++ ls) m a
          | inr pv ↦ All-contains (λ m. IsProblemVar p (m / 2) → Contains (given ++ (earlier ++ ls)) m) lits m h.covers (closure_inside (in_force p given) given lits closed_force free whole m c) pv
        ];
      }

-- where an assumption's opposite follows, the clauses in force conflict
pub opposite_in_force : (p : Problem) (w : IsWellFormed p) (given lits : List ℕ) → IsDerivation (full p) given lits → (l : ℕ) → Contains given l → Contains lits (opposite l) → Conflicts (in_force p given) given
opposite_in_force p w given lits u l g h = go (u.each h.0 h.1)
  where
    at : get_or lits h.0 0 ≡ opposite l
    at = get_or_default lits h.0 0 (opposite l) h.1 ∙ h.2

    more : IsDerivation (full p) given (lits ++ l ∷ [])
    more = IsDerivation-push (full p) given lits l u (inl g)

    falsified : (c : List ℕ) → Forces c (get_or lits h.0 0) (take h.0 lits) → IsFalsified (lits ++ l ∷ []) c
    falsified c f i d lt =
        let m : ℕ = get_or c i d in
        elim (All-contains (λ m. (m ≡ get_or lits h.0 0) ⊎ Contains (take h.0 lits) (opposite m)) c m f.others (Contains-get_or c i d lt)) [
          | inl same ↦ subst (Contains (lits ++ l ∷ [])) (sym (ap opposite (same ∙ at) ∙ opposite-opposite l)) (Contains-push lits l)
          | inr b ↦ Contains-append_left lits (l ∷ []) (opposite m) (Contains-take h.0 lits (opposite m) b)
        ]

    go : IsStep (full p) given (take h.0 lits) (get_or lits h.0 0) → Conflicts (in_force p given) given
    go (inl a) = both_conflict (in_force p given) given l g (subst (Contains given) at a)
    go (inr f) = conflict_in_force p w given (lits ++ l ∷ []) more f.0 f.1 (falsified f.0 f.2)
