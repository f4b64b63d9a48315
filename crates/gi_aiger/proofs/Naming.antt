-- The flags of the symbols so far.
use Rattle.std.proofs.Common.{◌≡◌, ◌≢◌, ℕ, ◌+◌, ◌*◌, ◌-◌, ◌<◌, ◌≤◌, List, [], ◌∷◌, ◌++◌, Bool, true, false, ◌&&◌, ◌||◌, inl, inr, refl, ap, sym, ◌∙◌, arith}
use Rattle.std.specs.Prelude.{◌==◌}
use Rattle.std.proofs.lemmas.Bool.Decides.{eqb_tells}
use Rattle.gi_aiger.specs.declared.aig.Symbol.{Symbol}
use Rattle.gi_aiger.specs.Named.{is_named}

-- each flag tells whether its kind and place are there
abbrev pub Tell : (ℕ → Bool) → List Symbol → Type 0
Tell seen symbols = (kind place : ℕ) → 98 ≤ kind → kind < 114 → seen (16 * place + (kind - 98)) ≡ is_named symbols kind place

pub none_named : (seen : ℕ → Bool) → ((i : ℕ) → seen i ≡ false) → Tell seen []
unfolding is_named
none_named seen none kind place a b = none (16 * place + (kind - 98))

-- the same flags tell the same
pub same_named : (seen more : ℕ → Bool) (symbols : List Symbol) → ((i : ℕ) → more i ≡ seen i) → Tell seen symbols → Tell more symbols
same_named seen more symbols same told kind place a b = same (16 * place + (kind - 98)) ∙ told kind place a b

or_false : (b : Bool) → (b || false) ≡ b
or_false true = refl
or_false false = refl

or_assoc : (a b c : Bool) → (a || (b || c)) ≡ ((a || b) || c)
or_assoc true b c = refl
or_assoc false b c = refl

or_true : (b : Bool) → (b || true) ≡ true
or_true true = refl
or_true false = refl

named-push : (symbols : List Symbol) (s : Symbol) (kind place : ℕ) → is_named (symbols ++ s ∷ []) kind place ≡ (is_named symbols kind place || ((s.kind == kind) && (s.place == place)))
unfolding is_named
named-push [] s kind place = or_false ((s.kind == kind) && (s.place == place))
named-push (t ∷ ts) s kind place = ap (λ (b : Bool). ((t.kind == kind) && (t.place == place)) || b) (named-push ts s kind place) ∙ or_assoc ((t.kind == kind) && (t.place == place)) (is_named ts kind place) ((s.kind == kind) && (s.place == place))

same_and : (a b c d : ℕ) → a ≡ c → b ≡ d → ((a == c) && (b == d)) ≡ true
same_and a b c d e f = rw (e, f) both where
  both : ((c == c) && (d == d)) ≡ true
  both = elim (eqb_tells c c) [ inl t ↦ elim (eqb_tells d d) [ inl u ↦ rw (t.0, u.0) refl | inr u ↦ absurd (u.1 refl) ] | inr f ↦ absurd (f.1 refl) ]

other_and : (a b c d : ℕ) → (a ≡ c → b ≡ d → ⊥) → ((a == c) && (b == d)) ≡ false
other_and a b c d h = elim (eqb_tells a c) [ inl t ↦ elim (eqb_tells b d) [ inl u ↦ absurd (h t.1 u.1) | inr u ↦ rw (t.0, u.0) refl ] | inr f ↦ rw f.0 refl ]

pub push_tells : (seen more : ℕ → Bool) (symbols : List Symbol) (s : Symbol) (flag : ℕ) → Tell seen symbols → more flag ≡ true → ((i : ℕ) → i ≢ flag → more i ≡ seen i) → 98 ≤ s.kind → s.kind < 114 → flag ≡ 16 * s.place + (s.kind - 98) → Tell more (symbols ++ s ∷ [])
push_tells seen more symbols s flag told set same low high is kind place a b = elim (eqb_tells (16 * place + (kind - 98)) flag) [
  | inl t ↦
      let kinds : s.kind ≡ kind = omega (arith, t.1, is, a, b, low, high) in
      let places : s.place ≡ place = omega (arith, t.1, is, a, b, low, high) in
      ap more t.1 ∙ set
      ∙ sym (named-push symbols s kind place ∙ ap (λ (x : Bool). is_named symbols kind place || x) (same_and s.kind s.place kind place kinds places) ∙ or_true (is_named symbols kind place))
  | inr f ↦
      same (16 * place + (kind - 98)) f.1 ∙ told kind place a b
      ∙ sym (named-push symbols s kind place ∙ ap (λ (x : Bool). is_named symbols kind place || x) (other_and s.kind s.place kind place (λ k p. f.1 (ap (λ (i : ℕ). 16 * place + (i - 98)) (sym k) ∙ ap (λ (i : ℕ). 16 * i + (s.kind - 98)) (sym p) ∙ sym is))) ∙ or_false (is_named symbols kind place))
]
