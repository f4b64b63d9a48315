use Rattle.std.proofs.Common.{◌≡◌, ◌≢◌, ℕ, ◌+◌, ◌<◌, ◌≤◌, Option, Some, None, List, length, take, drop, get_or, sym, ◌∙◌, subst, arith, ◌⊎◌, inl, inr}
use Rattle.std.specs.List.{All, Contains}
use Rattle.std.specs.Option.{MatchOption}
use Rattle.std.proofs.lemmas.List.{get_or_read, take_all, take-append-drop}
use Rattle.std.proofs.lemmas.List.Elements.{All-more, All-append, Contains-append_left, Contains-append_right}
use Rattle.gi_lit.specs.Literals.{opposite}
use Rattle.gi_lit.specs.Closure.{IsFalsified}
use Rattle.gi_prop.specs.Watched.{IsPair, IsAside}
use Rattle.gi_prop.specs.Watched.IsAside.{waits, single}
use Rattle.gi_prop.specs.Steps.{AreOthersFalse, IsSpare}
use Rattle.gi_prop.specs.declared.look.Found.{Found}

-- what is known of the first i literals, and of the one that isn't false
abbrev pub LeftSoFar : List ℕ → List ℕ → ℕ → Option ℕ → Type 0
LeftSoFar lits clause i None = All (λ m. Contains lits (opposite m)) (take i clause)
LeftSoFar lits clause i (Some f) = Contains clause f × ¬ Contains lits (opposite f) × All (λ m. (m ≡ f) ⊎ Contains lits (opposite m)) (take i clause)

module _ (lits clause : List ℕ) (i x : ℕ) (lt : i < length clause) (item : x ≡ get_or clause i x) where
  at_item : (d : ℕ) → get_or clause i d ≡ x
  at_item d = sym (get_or_read clause i x lt item d)

  pub item_stands : Contains clause x
  item_stands = (i, lt, sym item)

  pub left_two : (f : ℕ) → LeftSoFar lits clause i (Some f) → ¬ Contains lits (opposite x) → (f ≡ x → ⊥) → IsPair clause f x × ¬ Contains lits (opposite f) × ¬ Contains lits (opposite x)
  left_two f s h ne = (record { first = s.0; second = (i, lt, sym item); differ = ne }, s.1, h)

  pub step_false : (o : Option ℕ) → LeftSoFar lits clause i o → Contains lits (opposite x) → LeftSoFar lits clause (i + 1) o
  step_false None s h = All-more (λ m. Contains lits (opposite m)) clause i 0 lt s (rw (at_item 0) h)
  step_false (Some f) s h = (s.0, s.1, All-more (λ m. (m ≡ f) ⊎ Contains lits (opposite m)) clause i 0 lt s.2 (rw (at_item 0) (inr h)))

  pub step_new : LeftSoFar lits clause i None → ¬ Contains lits (opposite x) → LeftSoFar lits clause (i + 1) (Some x)
  step_new s h = ((i, lt, sym item), h, All-more (λ m. (m ≡ x) ⊎ Contains lits (opposite m)) clause i 0 lt (λ k d kl. inr (s k d kl)) (inl (at_item 0)))

  pub step_same : (f : ℕ) → LeftSoFar lits clause i (Some f) → f ≡ x → LeftSoFar lits clause (i + 1) (Some f)
  step_same f s e = (s.0, s.1, All-more (λ m. (m ≡ f) ⊎ Contains lits (opposite m)) clause i 0 lt s.2 (inl (at_item 0 ∙ sym e)))

  -- a literal that is this one, or false
  pub others_more : (f : ℕ) → AreOthersFalse lits (take i clause) f → (x ≡ f) ⊎ Contains lits (opposite x) → AreOthersFalse lits (take (i + 1) clause) f
  others_more f h k = All-more (λ m. (m ≡ f) ⊎ Contains lits (opposite m)) clause i 0 lt h (subst (λ (m : ℕ). (m ≡ f) ⊎ Contains lits (opposite m)) (sym (at_item 0)) k)

  -- one that is the first
  pub same_more : (f : ℕ) → All (λ m. m ≡ f) (take i clause) → x ≡ f → All (λ m. m ≡ f) (take (i + 1) clause)
  same_more f h k = All-more (λ m. m ≡ f) clause i 0 lt h (at_item 0 ∙ k)

  pub waits_for : (f : ℕ) → Contains clause f → x ≢ f → IsAside clause 0
  waits_for f h ne = waits (let z : 0 ≡ 0 = omega arith in z) x f (record { first = (i, lt, sym item); second = h; differ = ne })

pub all_of : (P : ℕ → Type 0) (clause : List ℕ) (i : ℕ) → length clause ≤ i → All P (take i clause) → All P clause
all_of P clause i le h = subst (All P) (take_all i clause le) h

pub end_none : (lits clause : List ℕ) (i : ℕ) → length clause ≤ i → LeftSoFar lits clause i None → IsFalsified lits clause
end_none lits clause i le s = all_of (λ m. Contains lits (opposite m)) clause i le s

pub end_some : (lits clause : List ℕ) (i f : ℕ) → length clause ≤ i → LeftSoFar lits clause i (Some f) → Contains clause f × ¬ Contains lits (opposite f) × AreOthersFalse lits clause f
end_some lits clause i f le s = (s.0, s.1, all_of (λ m. (m ≡ f) ⊎ Contains lits (opposite m)) clause i le s.2)

pub others_all : (lits clause : List ℕ) (i f : ℕ) → length clause ≤ i → AreOthersFalse lits (take i clause) f → AreOthersFalse lits clause f
others_all lits clause i f le h = all_of (λ m. (m ≡ f) ⊎ Contains lits (opposite m)) clause i le h

pub single_all : (clause : List ℕ) (i f : ℕ) → length clause ≤ i → Contains clause f → All (λ m. m ≡ f) (take i clause) → IsAside clause 1
single_all clause i f le h s = single (let z : 1 ≡ 1 = omega arith in z) f h (all_of (λ m. m ≡ f) clause i le s)

-- none is left and this one is false, too
pub all_false : (lits clause : List ℕ) (f : ℕ) → Contains lits (opposite f) → AreOthersFalse lits clause f → IsFalsified lits clause
all_false lits clause f o h k d lt = elim (h k d lt) [ inl e ↦ subst (λ (m : ℕ). Contains lits (opposite m)) (sym e) o | inr c ↦ c ]

-- what is found in a part of the clause, and that nothing is in both parts
pub spare_behind : (lits clause part : List ℕ) (n other : ℕ) → part ≡ drop n clause → (r : Option Found) → MatchOption r (AreOthersFalse lits part other) (λ f. IsSpare lits part other (Some f.lit)) → MatchOption r (AreOthersFalse lits (drop n clause) other) (λ f. IsSpare lits clause other (Some f.lit))
spare_behind lits clause part n other e None h = subst (λ (z : List ℕ). AreOthersFalse lits z other) e h
spare_behind lits clause part n other e (Some f) h = (subst (λ (z : List ℕ). Contains z f.lit) (take-append-drop n clause) (Contains-append_right (take n clause) (drop n clause) f.lit (subst (λ (z : List ℕ). Contains z f.lit) e h.0)), h.1, h.2)

pub spare_before : (lits clause part : List ℕ) (n other : ℕ) → part ≡ take n clause → (r : Option Found) → MatchOption r (AreOthersFalse lits part other) (λ f. IsSpare lits part other (Some f.lit)) → MatchOption r (AreOthersFalse lits (take n clause) other) (λ f. IsSpare lits clause other (Some f.lit))
spare_before lits clause part n other e None h = subst (λ (z : List ℕ). AreOthersFalse lits z other) e h
spare_before lits clause part n other e (Some f) h = (subst (λ (z : List ℕ). Contains z f.lit) (take-append-drop n clause) (Contains-append_left (take n clause) (drop n clause) f.lit (subst (λ (z : List ℕ). Contains z f.lit) e h.0)), h.1, h.2)

pub others_joined : (lits clause : List ℕ) (n other : ℕ) → AreOthersFalse lits (take n clause) other → AreOthersFalse lits (drop n clause) other → AreOthersFalse lits clause other
others_joined lits clause n other a b = subst (All (λ m. (m ≡ other) ⊎ Contains lits (opposite m))) (take-append-drop n clause) (All-append (λ m. (m ≡ other) ⊎ Contains lits (opposite m)) (take n clause) (drop n clause) a b)
