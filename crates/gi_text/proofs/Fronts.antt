-- A front that is given as a line.
use Rattle.std.proofs.Common.{◌≡◌, ℕ, ◌+◌, ◌<◌, List, length, take, drop, Some, None, true, refl, ap, sym, ◌∙◌, subst, inl, inr, arith}
use Rattle.std.proofs.lemmas.List.{drop_all, length-take-le, take_all}
use Rattle.gi_text.specs.Lines.{GivesLine, Kept, line_at, without_front}
use Rattle.gi_text.specs.Given.{Gives, GivesFront}
use Rattle.gi_text.specs.declared.lines.Next.{Next}
use Rattle.gi_text.specs.declared.lines.Next.TheVariants.{Line, Long, More, Done, NoMemory}

-- up to an LF
gives_at : (line : List ℕ) (n : ℕ) (old new : Kept) → line_at old.left ≡ Some (take n old.left, drop (n + 1) old.left) → line ≡ take n old.left → new ≡ without_front (n + 1) old → GivesLine line old new
gives_at line n old new found e is = record {
  line_is = inl (found ∙ ap (λ (xs : List ℕ). Some (xs, drop (n + 1) old.left)) (sym e) ∙ ap (λ (k : Kept). Some (line, k.left)) (sym is));
  ended = ap (λ (k : Kept). k.ended) is;
  long = ap (λ (k : Kept). k.long) is;
  most = ap (λ (k : Kept). k.most) is;
}

pub front_is_line : (next : Next) (n : ℕ) (old mid new : Kept) → mid ≡ old → n < length old.left → line_at old.left ≡ Some (take n old.left, drop (n + 1) old.left) → GivesFront next n (n + 1) mid new → Gives next old new
front_is_line next n old mid new same lt found given = by_cases next (subst (λ (k : Kept). GivesFront next n (n + 1) k new) same given) where
  size : length (take n old.left) ≡ n
  size = length-take-le n old.left (omega arith)

  by_cases : (next : Next) → GivesFront next n (n + 1) old new → Gives next old new
  by_cases (Line line) g = (omega (arith, size, ap length g.1, g.0), gives_at line n old new found g.1 g.2)
  by_cases Long g = (take n old.left, omega (arith, size, g.0), gives_at (take n old.left) n old new found refl g.1)
  by_cases More g = absurd g
  by_cases Done g = absurd g
  by_cases NoMemory g = (record { line = take n old.left; behind = without_front (n + 1) old; fits = omega (arith, size, g.0); gives = gives_at (take n old.left) n old (without_front (n + 1) old) found refl refl }, g.1)

-- a whole line of so many bytes goes
pub line_goes : (n : ℕ) (old new : Kept) → (n < length old.left) → line_at old.left ≡ Some (take n old.left, drop (n + 1) old.left) → new ≡ without_front (n + 1) old → GivesLine (take n old.left) old new
line_goes n old new lt found is = gives_at (take n old.left) n old new found refl is

-- so does the last one, which has no LF
pub last_goes : (n : ℕ) (old new : Kept) → line_at old.left ≡ None → old.ended ≡ true → 0 < n → n ≡ length old.left → new ≡ without_front n old → GivesLine (take n old.left) old new
last_goes n old new none ended some all is =
    let whole : take n old.left ≡ old.left = take_all n old.left (omega (arith, all)) in
    record {
      line_is = inr (none, ended, omega (arith, some, all, ap length whole), whole, ap (λ (k : Kept). k.left) is ∙ drop_all n old.left (omega (arith, all)));
      ended = ap (λ (k : Kept). k.ended) is;
      long = ap (λ (k : Kept). k.long) is;
      most = ap (λ (k : Kept). k.most) is;
    }

pub last_is_line : (next : Next) (n : ℕ) (old mid new : Kept) → mid ≡ old → line_at old.left ≡ None → old.ended ≡ true → 0 < n → n ≡ length old.left → GivesFront next n n mid new → Gives next old new
last_is_line next n old mid new same none ended some all given = by_cases next (subst (λ (k : Kept). GivesFront next n n k new) same given) where
  size : length (take n old.left) ≡ n
  size = length-take-le n old.left (omega (arith, all))

  by_cases : (next : Next) → GivesFront next n n old new → Gives next old new
  by_cases (Line line) g = (omega (arith, size, ap length g.1, g.0), subst (λ (l : List ℕ). GivesLine l old new) (sym g.1) (last_goes n old new none ended some all g.2))
  by_cases Long g = (take n old.left, omega (arith, size, g.0), last_goes n old new none ended some all g.1)
  by_cases More g = absurd g
  by_cases Done g = absurd g
  by_cases NoMemory g = (record { line = take n old.left; behind = without_front n old; fits = omega (arith, size, g.0); gives = last_goes n old (without_front n old) none ended some all refl }, g.1)
