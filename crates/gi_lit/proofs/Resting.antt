-- The law on guards.
use Rattle.std.proofs.Common.{◌≡◌, ℕ, ◌+◌, ◌*◌, ◌/◌, ◌≤◌, Bool, true, false, cond, ◌&&◌, List, [], ◌∷◌, ◌++◌, length, map, get_or, refl, sym, ap, ◌∙◌, subst, arith, ◌⊎◌, inl, inr, length-append}
use Rattle.std.specs.List.{All, Contains}
use Rattle.std.proofs.lemmas.Bool.{both_ways, and_parts, false≢true}
use Rattle.std.proofs.lemmas.List.{length-map}
use Rattle.std.proofs.lemmas.List.Elements.{All-append, All-cons, All-nil, All-head, All-tail, All-map, All-contains, All-contains_itself, All-weaker, Contains-get_or, Contains-append_left, Contains-append_right, Contains-append_cases}
use Rattle.gi_lit.specs.Problem.{Problem, Group, has, are_given, forced, negatives, guarded, full, in_force, clause_count, IsProblemVar, IsPlain, IsGroup, IsWellFormed}
use Rattle.gi_lit.specs.Guards.{IsGiven, IsLess, IsAsleep, IsGuardedLit, RestsOnGuards}
use Rattle.gi_lit.specs.Laws.{ProblemsRestOnGuards}
use Rattle.gi_lit.proofs.Vars.{var_facts, var_from, Contains-from_has, lacks_none}
use Rattle.gi_lit.proofs.Distinct.{IsDistinct-apart}
use Rattle.gi_lit.proofs.Lists.{Contains-nil, Contains-first, Contains-later, Contains-cases, Contains-map, Contains-unmap}

-- guards that are given stand positive
all_given : (given gs : List ℕ) → are_given given gs ≡ true → All (λ g. Contains given (2 * g)) gs
all_given given [] e = All-nil (λ g. Contains given (2 * g))
all_given given (g ∷ gs) e = let a = and_parts _ _ e in All-cons (λ g. Contains given (2 * g)) g gs (Contains-from_has given (2 * g) a.0) (all_given given gs a.1)

-- else one of them doesn't
one_missing : (given gs : List ℕ) → are_given given gs ≡ false → (g : ℕ) × Contains gs g × ¬ Contains given (2 * g)
one_missing given [] e = absurd (false≢true (sym e))
one_missing given (g ∷ gs) e = go (one_missing given gs) (has given (2 * g)) refl e
  where
    go : (are_given given gs ≡ false → (m : ℕ) × Contains gs m × ¬ Contains given (2 * m)) → (b : Bool) → has given (2 * g) ≡ b → (b && are_given given gs) ≡ false → (m : ℕ) × Contains (g ∷ gs) m × ¬ Contains given (2 * m)
    go rest true h r = let x = rest r in (x.0, Contains-later g gs x.0 x.1, x.2)
    go rest false h r = (g, Contains-first g gs, lacks_none given (2 * g) h)

-- a group's clause is in force exactly where all its guards are given
record IsForced (given : List ℕ) (qs : List Group) (d : List ℕ) : Type 0 where
  pub group : Group
  pub stands : Contains qs group
  pub clause : group.clause ≡ d
  pub said : are_given given group.guards ≡ true

forced_from : (given : List ℕ) (qs : List Group) (d : List ℕ) → Contains (forced given qs) d → IsForced given qs d
forced_from given [] d c = absurd (Contains-nil d c)
forced_from given (q ∷ qs) d c = go (are_given given q.guards) refl c (forced_from given qs d)
  where
    go : (b : Bool) → are_given given q.guards ≡ b → Contains (cond b (q.clause ∷ forced given qs) (forced given qs)) d → (Contains (forced given qs) d → IsForced given qs d) → IsForced given (q ∷ qs) d
    go true e m rest = elim (Contains-cases q.clause (forced given qs) d m) [
      | inl s ↦ record { group = q; stands = Contains-first q qs; clause = s; said = e }
      | inr r ↦ let f = rest r in record { group = f.group; stands = Contains-later q qs f.group f.stands; clause = f.clause; said = f.said }
    ]
    go false e m rest = let f = rest m in record { group = f.group; stands = Contains-later q qs f.group f.stands; clause = f.clause; said = f.said }

forced_to : (given : List ℕ) (qs : List Group) (q : Group) → Contains qs q → are_given given q.guards ≡ true → Contains (forced given qs) q.clause
forced_to given [] q c e = absurd (Contains-nil q c)
forced_to given (p ∷ ps) q c e = go (are_given given p.guards) refl (Contains-cases p ps q c) (λ m. forced_to given ps q m e)
  where
    go : (b : Bool) → are_given given p.guards ≡ b → (p ≡ q) ⊎ Contains ps q → (Contains ps q → Contains (forced given ps) q.clause) → Contains (cond b (p.clause ∷ forced given ps) (forced given ps)) q.clause
    go true f (inl a) rest = subst (λ (r : Group). Contains (p.clause ∷ forced given ps) r.clause) a (Contains-first p.clause (forced given ps))
    go true f (inr m) rest = Contains-later p.clause (forced given ps) q.clause (rest m)
    go false f (inl a) rest = absurd (both_ways (are_given given p.guards) f (ap (λ (r : Group). are_given given r.guards) a ∙ e))
    go false f (inr m) rest = rest m

module _ (p : Problem) (given : List ℕ) (w : IsWellFormed p) where
  plain_lits : (c : List ℕ) → IsPlain p c → All (IsGuardedLit p) c
  plain_lits c h k d lt = let f = var_facts p (get_or c k d / 2) (h k d lt) in record { low = f.low; high = f.high; unfreed = f.unfreed; negative = λ a. absurd (f.inactive a) }

  guard_lit : (g : ℕ) → Contains p.active g → IsGuardedLit p (2 * g + 1)
  guard_lit g act = record { low = rw half (All-contains (λ x. 1 ≤ x) (p.freed ++ p.active) g w.low in_all); high = rw half (All-contains (λ x. x ≤ p.vars) (p.freed ++ p.active) g w.high in_all); unfreed = rw half (λ c. IsDistinct-apart p.freed p.active g w.distinct c act); negative = λ _. omega arith }
    where
      half : (2 * g + 1) / 2 ≡ g
      half = omega arith

      in_all : Contains (p.freed ++ p.active) g
      in_all = Contains-append_right p.freed p.active g act

  guard_lits : (gs : List ℕ) → All (Contains p.active) gs → All (IsGuardedLit p) (negatives gs)
  guard_lits gs a = All-map (IsGuardedLit p) (λ g. 2 * g + 1) gs (All-weaker (Contains p.active) (λ g. IsGuardedLit p (2 * g + 1)) guard_lit gs a)

  group_lits : (q : Group) → IsGroup p q → All (IsGuardedLit p) (guarded q)
  group_lits q h = All-append (IsGuardedLit p) q.clause (negatives q.guards) (plain_lits q.clause h.0) (guard_lits q.guards h.1)

  itself : (c : List ℕ) → IsLess p given c c
  itself c = record { part = All-contains_itself c; others = λ k d lt. inl (Contains-get_or c k d lt) }

  abbrev Left : List ℕ → ℕ → Type 0
  Left d l = Contains d l ⊎ IsGiven p given l

  less : (q : Group) → IsGroup p q → are_given given q.guards ≡ true → IsLess p given (guarded q) q.clause
  less q h e = record {
    part = λ k d lt. Contains-append_left q.clause (negatives q.guards) (get_or q.clause k d) (Contains-get_or q.clause k d lt);
    others = All-append (Left q.clause) q.clause (negatives q.guards) (λ k d lt. inl (Contains-get_or q.clause k d lt))
        (All-map (Left q.clause) (λ g. 2 * g + 1) q.guards (λ k d lt. inr (record { guard = get_or q.guards k d; active = h.1 k d lt; negative = refl; stands = all_given given q.guards e k d lt })));
  }

  group_of : (q : Group) → Contains p.groups q → IsGroup p q
  group_of q c = All-contains (IsGroup p) p.groups q w.groups c

  forced_plain : (qs : List Group) → All (IsGroup p) qs → All (IsPlain p) (forced given qs)
  forced_plain [] a = All-nil (IsPlain p)
  forced_plain (q ∷ qs) a = go (forced_plain qs (All-tail (IsGroup p) q qs a)) (All-head (IsGroup p) q qs a) (are_given given q.guards)
    where
      go : All (IsPlain p) (forced given qs) → IsGroup p q → (b : Bool) → All (IsPlain p) (cond b (q.clause ∷ forced given qs) (forced given qs))
      go rest first true = All-cons (IsPlain p) q.clause (forced given qs) first.0 rest
      go rest first false = rest

  pub rests : RestsOnGuards p given
  unfolding full in_force
  rests = record {
    lits = All-append (All (IsGuardedLit p)) p.plain (map guarded p.groups) (λ k d lt. plain_lits (get_or p.plain k d) (w.plain k d lt))
        (All-map (All (IsGuardedLit p)) guarded p.groups (λ k d lt. group_lits (get_or p.groups k d) (w.groups k d lt)));
    plain = All-append (IsPlain p) p.plain (forced given p.groups) w.plain (forced_plain p.groups w.groups);
    awake = λ d c. elim (Contains-append_cases p.plain (forced given p.groups) d c) [
      | inl a ↦ (d, Contains-append_left p.plain (map guarded p.groups) d a, itself d)
      | inr b ↦ let f = forced_from given p.groups d b in (guarded f.group, Contains-append_right p.plain (map guarded p.groups) (guarded f.group) (Contains-map guarded p.groups f.group f.stands), subst (IsLess p given (guarded f.group)) f.clause (less f.group (group_of f.group f.stands) f.said))
    ];
    others = λ c m. elim (Contains-append_cases p.plain (map guarded p.groups) c m) [
      | inl a ↦ inl (c, Contains-append_left p.plain (forced given p.groups) c a, itself c)
      | inr b ↦ let u = Contains-unmap guarded p.groups c b in subst Told u.2 (of_group u.0 u.1 (are_given given u.0.guards) refl)
    ];
  }
    where
      Told : List ℕ → Type 0
      Told x = ((d : List ℕ) × Contains (p.plain ++ forced given p.groups) d × IsLess p given x d) ⊎ IsAsleep p given x

      of_group : (q : Group) → Contains p.groups q → (b : Bool) → are_given given q.guards ≡ b → Told (guarded q)
      of_group q c true e = inl (q.clause, Contains-append_right p.plain (forced given p.groups) q.clause (forced_to given p.groups q c e), less q (group_of q c) e)
      of_group q c false e =
          let x = one_missing given q.guards e in
          let h = group_of q c in
          inr (record { guard = x.0; active = All-contains (Contains p.active) q.guards x.0 h.1 x.1; negative = Contains-append_right q.clause (negatives q.guards) (2 * x.0 + 1) (Contains-map (λ g. 2 * g + 1) q.guards x.0 x.1); missing = x.2 })

pub problems_rest : ProblemsRestOnGuards
problems_rest p given w = rests p given w

-- a literal of a full clause is of a problem variable or of an active guard
pub problem_or_guard : (p : Problem) (l : ℕ) → IsGuardedLit p l → IsProblemVar p (l / 2) ⊎ Contains p.active (l / 2)
problem_or_guard p l r = go (has p.active (l / 2)) refl
  where
    go : (b : Bool) → has p.active (l / 2) ≡ b → IsProblemVar p (l / 2) ⊎ Contains p.active (l / 2)
    go true e = inr (Contains-from_has p.active (l / 2) e)
    go false e = inl (var_from p (l / 2) (record { low = r.low; high = r.high; inactive = lacks_none p.active (l / 2) e; unfreed = r.unfreed }))

pub length-full : (p : Problem) → length (full p) ≡ clause_count p
unfolding full
length-full p = omega (arith, length-append p.plain (map guarded p.groups), length-map p.groups guarded)
