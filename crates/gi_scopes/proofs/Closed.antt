-- What a trail that is closed under all assumptions tells.
use Rattle.std.proofs.Common.{◌≡◌, ℕ, ◌+◌, ◌<◌, ◌≤◌, Option, Some, None, IfSome, List, [], ◌∷◌, ◌++◌, ◌-◌, length, take, get_or, refl, sym, ap, ◌∙◌, subst, arith, length-append}
use Rattle.std.specs.List.{All, Contains}
use Rattle.std.proofs.lemmas.List.{length-take, take_at}
use Rattle.std.proofs.lemmas.List.Elements.{Contains-append_left}
use Rattle.gi_lit.specs.Literals.{opposite}
use Rattle.gi_lit.specs.Closure.{IsDerivation, IsClosed, IsConsistent, Conflicts}
use Rattle.gi_lit.specs.Problem.{full, in_force, IsWellFormed}
use Rattle.gi_store.specs.StoreView.{StoreView, problem_of}
use Rattle.gi_prop.specs.TrailView.{IsTrail, TrailView}
use Rattle.gi_model.specs.State.{Scope, Found, listed, scope_assumed, scope_listed}
use Rattle.gi_model.specs.Tests.{Implies}
use Rattle.gi_scopes.specs.Under.{base_of, AreReached}
use Rattle.gi_scopes.specs.Built.{IsBuilt, IsCovered, CoversLevels, IsFor, Rises, IsListedAbove, kept_lits}
use Rattle.gi_scopes.specs.Listing.{AreBehind, AreKnown, AreListed, HasTrail, IsClosedFor, IsListing, MayStart, Counts}
use Rattle.gi_scopes.specs.declared.outcome.Outcome.{Outcome}
use Rattle.gi_scopes.specs.declared.outcome.Outcome.TheVariants.{Listed, Failing}
use Rattle.gi_scopes.specs.declared.kept.Kept.{Kept}
use Rattle.gi_scopes.specs.declared.kept.Reach.TheVariants.{Closed}
use Rattle.gi_scopes.proofs.Attaching.{under_of}
use Rattle.gi_scopes.proofs.Base.{same_full}
use Rattle.gi_scopes.proofs.Listing.{scope_assumed-push}
use Rattle.gi_scopes.proofs.Leveling.{built_now, built_there, built_closed}
use Rattle.gi_scopes.proofs.Covering.{covered_known, covered_behind, covered_more, covered_now, covers_top, covers_lower, rises_longer}
use Rattle.gi_scopes.proofs.Few.{few_more}
use Rattle.gi_scopes.proofs.Shadowing.{nothing_fails, implies}

module _ (s : StoreView) (w : IsWellFormed (problem_of s)) (scs : List Scope) (assumed : List ℕ) (k : Kept) (h : IsClosedFor s scs assumed k) (whole : IsTrail k.trail) where
  abbrev given : List ℕ
  given = scope_assumed scs ++ assumed

  abbrev with_found : Found → Scope
  with_found f = record { assumed = assumed; found = f }

  abbrev sc : Scope
  sc = with_found (listed [])

  built : IsBuilt k (scs ++ sc ∷ []) (base_of s)
  built = (h (listed [])).0

  pub closed_reached : AreReached (base_of s) (scope_assumed scs ++ assumed) k.trail (length k.trail.lits)
  closed_reached = subst (λ xs. AreReached (base_of s) xs k.trail (length k.trail.lits)) (scope_assumed-push scs sc) (built_now (base_of s) (scs ++ sc ∷ []) k built).reached

  there : All (Contains k.trail.lits) given
  there = subst (All (Contains k.trail.lits)) (scope_assumed-push scs sc) (built_there (base_of s) (scs ++ sc ∷ []) k built)

  derived : IsDerivation (full (problem_of s)) given k.trail.lits
  derived = under_of s given k.trail closed_reached

  closed : IsClosed (full (problem_of s)) k.trail.lits
  closed = subst (λ (cs : List (List ℕ)). IsClosed cs k.trail.lits) (same_full s) (built_closed (base_of s) (scs ++ sc ∷ []) k built)

  pub closed_built : (n : ℕ) (f : Found) → IsBuilt (record k { unlisted = n }) (scs ++ with_found f ∷ []) (base_of s)
  closed_built n f = let b = (h f).0 in record { goes = b.goes; keys = b.keys; count = b.count; levels = b.levels }

  module _ (ls : List ℕ) (rss : List (List ℕ)) (l : IsListing (problem_of s) (scope_assumed scs ++ assumed) (scope_listed scs) k.trail.lits ls rss) where
    pub closed_closes : (¬ Conflicts (in_force (problem_of s) (scope_assumed scs ++ assumed)) (scope_assumed scs ++ assumed)) × Implies (problem_of s) (scope_assumed scs ++ assumed) (scope_listed scs) ls × AreListed (problem_of s) (scope_assumed scs ++ assumed) (scope_listed scs) ls rss
    closed_closes = (nothing_fails (problem_of s) w given k.trail.lits derived there closed whole.consistent, implies (problem_of s) w given k.trail.lits derived there closed whole.consistent (scope_listed scs) ls rss l, l.listed)

    pub closed_little : (kept : Option Kept) → Rises kept (Closed k) → (IsConsistent (kept_lits kept) → All (Contains (kept_lits kept)) (scope_assumed scs ++ scope_listed scs)) → length k.trail.lits ≤ length (kept_lits kept) + (length ls + length assumed + length s.active)
    closed_little kept r known = few_more (problem_of s) w given k.trail.lits derived whole.apart (scope_listed scs) ls rss l (kept_lits kept) q.0 (scope_assumed scs) assumed q.1 refl (known free)
      where
        q : (more : List ℕ) × (k.trail.lits ≡ kept_lits kept ++ more)
        q = rises_longer kept k r

        free : IsConsistent (kept_lits kept)
        free = record { each = λ m a b. whole.consistent.each m (subst (λ xs. Contains xs m) (sym q.1) (Contains-append_left (kept_lits kept) q.0 m a)) (subst (λ xs. Contains xs (opposite m)) (sym q.1) (Contains-append_left (kept_lits kept) q.0 (opposite m) b)) }

    more_covered : All (Contains k.trail.lits) (scope_listed scs) → IsCovered (base_of s) (scs ++ with_found (listed ls) ∷ []) k.trail.lits
    more_covered c = covered_more s w scs assumed k.trail closed_reached ls rss l c

    counts : length k.trail.level_starts ≡ length (scs ++ with_found (listed ls) ∷ [])
    counts = (h (listed ls)).0.count

    -- where all of the trail was looked at
    pub anew_covers : (n : ℕ) → length scs ≤ n → (n ≡ length scs → All (Contains k.trail.lits) (scope_listed scs)) → CoversLevels (record k { unlisted = n }) (scs ++ with_found (listed ls) ∷ []) (base_of s)
    anew_covers n high c = covers_top (base_of s) scs (with_found (listed ls)) (record k { unlisted = n }) counts (λ j above le. absurd (omega (arith, high, above, le))) (λ le. more_covered (c (omega (arith, high, le))))

    -- and where only what is behind the trail that was kept was
    pub kept_covers : (kept : Option Kept) → IsFor kept scs (base_of s) → Rises kept (Closed k) → (n : ℕ) → IsListedAbove kept (length scs) n → CoversLevels (record k { unlisted = n }) (scs ++ with_found (listed ls) ∷ []) (base_of s)
    kept_covers None b r n a = absurd a
    kept_covers (Some old) b r n a = covers_top (base_of s) scs (with_found (listed ls)) (record k { unlisted = n }) counts lower (λ le. more_covered (λ i d lt. wider (get_or (scope_listed scs) i d) (now.there i d lt)))
      where
        now : IsCovered (base_of s) scs old.trail.lits
        now = covered_now (base_of s) scs old b.0.count b.1 (omega (arith, a.0, a.1))

        wider : (m : ℕ) → Contains old.trail.lits m → Contains k.trail.lits m
        wider m c = subst (λ xs. Contains xs m) (sym r.lits) (Contains-append_left old.trail.lits r.more m c)

        lower : (j : ℕ) → n < j → j ≤ length scs → IsCovered (base_of s) (take j scs) (take (get_or k.trail.level_starts j (length k.trail.lits)) k.trail.lits)
        lower j above le = covers_lower (base_of s) scs old k.trail whole b.0.count r b.1 j (omega (arith, a.0, above)) le

  pub kept_known : (kept : Option Kept) → IsFor kept scs (base_of s) → Rises kept (Closed k) → (n : ℕ) → IsListedAbove kept (length scs) n → AreKnown (problem_of s) ((scope_assumed scs ++ assumed) ++ scope_listed scs) (take (length (kept_lits kept)) k.trail.lits)
  kept_known None b r n a = absurd a
  kept_known (Some old) b r n a = subst (AreKnown (problem_of s) (given ++ scope_listed scs)) (sym (ap (take (length old.trail.lits)) r.lits ∙ take_at old.trail.lits r.more (length old.trail.lits) refl)) (covered_known s w scs old.trail.lits assumed (covered_now (base_of s) scs old b.0.count b.1 (omega (arith, a.0, a.1))))

  pub kept_behind : (kept : Option Kept) → IsFor kept scs (base_of s) → Rises kept (Closed k) → (n : ℕ) → IsListedAbove kept (length scs) n → AreBehind k.trail.lits (length (kept_lits kept)) assumed ((scope_assumed scs ++ assumed) ++ scope_listed scs)
  kept_behind None b r n a = absurd a
  kept_behind (Some old) b r n a = covered_behind s w scs old.trail.lits r.more assumed k.trail.lits r.lits whole.apart (built_there (base_of s) scs old b.0) (covered_now (base_of s) scs old b.0.count b.1 (omega (arith, a.0, a.1))).there

  pub kept_within : (kept : Option Kept) → Rises kept (Closed k) → length (kept_lits kept) ≤ length k.trail.lits
  kept_within kept r = let q = rises_longer kept k r in omega (arith, ap length q.1, length-append (kept_lits kept) q.0)

  -- from the end of the trail that was kept, where that is covered
  pub start_above : (kept : Option Kept) → IsFor kept scs (base_of s) → Rises kept (Closed k) → (from : ℕ) → from ≡ length (kept_lits kept) → (above : Option ℕ) → IfSome above (IsListedAbove kept (length scs)) → IfSome above (MayStart s scs assumed k from)
  start_above kept b r from e None a = a
  start_above kept b r from e (Some n) a = subst (λ (at : ℕ). MayStart s scs assumed k at n) (sym e) (record {
    within = kept_within kept r;
    known = kept_known kept b r n a;
    behind = λ some. kept_behind kept b r n a;
    covers = λ ls rss l. kept_covers ls rss l kept b r n a;
  })

  -- from the beginning
  pub start_anew : (n : ℕ) → length scs ≤ n → (n ≡ length scs → All (Contains k.trail.lits) (scope_listed scs)) → MayStart s scs assumed k 0 n
  start_anew n high c = record {
    within = omega arith;
    known = λ m d lt. absurd (omega (arith, lt, length-take 0 k.trail.lits));
    behind = λ some. absurd (omega (arith, some));
    covers = λ ls rss l. anew_covers ls rss l n high c;
  }

-- a step was counted for each literal behind that place
pub counts_trail : (t : TrailView) (o : Outcome) (from before now : ℕ) → HasTrail t o → now ≡ before + (length t.lits - from) → Counts from before now o
counts_trail t (Listed i k) from before now h e = e ∙ ap (λ (u : TrailView). before + (length u.lits - from)) (sym h)
counts_trail t (Failing w) from before now h e = tt
