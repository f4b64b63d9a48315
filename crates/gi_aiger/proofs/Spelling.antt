-- What the numbers of a line say, both ways.
use Rattle.std.proofs.Common.{◌≡◌, ℕ, ◌+◌, ◌*◌, ◌%◌, ◌≤◌, nat_le, List, [], ◌∷◌, length, get_or, Bool, true, false, ◌&&◌, ◌||◌, cond, ◌⊎◌, inl, inr, Result, Ok, Err, refl, ap, sym, ◌∙◌, subst, arith}
use Rattle.std.specs.Prelude.{◌==◌}
use Rattle.std.proofs.lemmas.Bool.{ne_eqb}
use Rattle.std.proofs.lemmas.Bool.Decides.{nat_tests, eqb_tells}
use Rattle.gi_aiger.specs.declared.aig.AndGate.{AndGate}
use Rattle.gi_aiger.specs.declared.aig.Latch.{Latch}
use Rattle.gi_aiger.specs.declared.aig.Reset.{Reset}
use Rattle.gi_aiger.specs.declared.aig.Reset.TheVariants.{Zero, One, Free}
use Rattle.gi_aiger.specs.declared.fault.AigCode.{AigCode}
use Rattle.gi_aiger.specs.declared.fault.AigCode.TheVariants.{Count, Literal, Limit}
use Rattle.gi_aiger.specs.declared.row.Section.{Section}
use Rattle.gi_aiger.specs.declared.row.Section.TheVariants as sections
use Rattle.gi_aiger.specs.declared.row.Row.{Row}
use Rattle.gi_aiger.specs.declared.row.Row.TheVariants as rows
use Rattle.gi_aiger.specs.Rows.{literal_of, defining_of, reset_of, latch_of, gate_of, row_with, size_of, row_of, row_numbers, section_of}
use Rattle.gi_aiger.specs.Relation.{IsDefining, Spells, reset_number}

-- the literals and the size of a row are within their limits
abbrev pub InRange : ℕ → ℕ → Row → Type 0
InRange max room (rows.Input l) = IsDefining max l
InRange max room (rows.Latch l) = IsDefining max l.lit × (l.next ≤ 2 * max + 1)
InRange max room (rows.Out l) = l ≤ 2 * max + 1
InRange max room (rows.Bad l) = l ≤ 2 * max + 1
InRange max room (rows.Con l) = l ≤ 2 * max + 1
InRange max room (rows.Size n) = n ≤ room
InRange max room (rows.Justice l) = l ≤ 2 * max + 1
InRange max room (rows.Fair l) = l ≤ 2 * max + 1
InRange max room (rows.Gate g) = IsDefining max g.lhs × (g.rhs0 ≤ 2 * max + 1) × (g.rhs1 ≤ 2 * max + 1)

-- one number
literal_ok : (max n : ℕ) → n ≤ 2 * max + 1 → literal_of max n ≡ Ok n
literal_ok max n le = let t : nat_le n (2 * max + 1) ≡ true = grind (arith, nat_tests) in rw t refl

size_ok : (room n : ℕ) → n ≤ room → size_of room n ≡ Ok n
size_ok room n le = let t : nat_le n room ≡ true = grind (arith, nat_tests) in rw t refl

defining_ok : (max n : ℕ) → IsDefining max n → defining_of max n ≡ Ok n
defining_ok max n is =
    let two : 2 ≤ n = is.1 in
    let t : nat_le 2 n ≡ true = grind (arith, nat_tests) in
    rw (is.0, t) (literal_ok max n (omega (arith, is.2)))

same_ok : {A : Type 0} (n l : A) → ◌≡◌ {A = Result A AigCode} (Ok n) (Ok l) → l ≡ n
same_ok n l e = cc

literal_back : (max n l : ℕ) → literal_of max n ≡ Ok l → (l ≡ n) × (n ≤ 2 * max + 1)
literal_back max n l e = by_test (nat_le n (2 * max + 1)) refl e where
  by_test : (b : Bool) → nat_le n (2 * max + 1) ≡ b → cond b (Ok n) (Err Literal) ≡ Ok l → (l ≡ n) × (n ≤ 2 * max + 1)
  by_test true t e = (same_ok n l e, grind (arith, nat_tests, t))
  by_test false t e = absurd cc

size_back : (room n l : ℕ) → size_of room n ≡ Ok l → (l ≡ n) × (n ≤ room)
size_back room n l e = by_test (nat_le n room) refl e where
  by_test : (b : Bool) → nat_le n room ≡ b → cond b (Ok n) (Err Limit) ≡ Ok l → (l ≡ n) × (n ≤ room)
  by_test true t e = (same_ok n l e, grind (arith, nat_tests, t))
  by_test false t e = absurd cc

defining_back : (max n l : ℕ) → defining_of max n ≡ Ok l → (l ≡ n) × IsDefining max n
defining_back max n l e = by_even (n % 2 == 0) refl e where
  even : (n % 2 == 0) ≡ true → n % 2 ≡ 0
  even t = elim (eqb_tells (n % 2) 0) [ inl y ↦ y.1 | inr f ↦ absurd cc ]

  by_two : (b : Bool) → (n % 2 == 0) ≡ true → nat_le 2 n ≡ b → cond b (literal_of max n) (Err Literal) ≡ Ok l → (l ≡ n) × IsDefining max n
  by_two true z t e =
      let r = literal_back max n l e in
      let two : 2 ≤ n = grind (arith, nat_tests, t) in
      let none : n % 2 ≡ 0 = even z in
      (r.0, (none, two, omega (arith, r.1, none)))
  by_two false z t e = absurd cc

  by_even : (b : Bool) → (n % 2 == 0) ≡ b → cond (b && nat_le 2 n) (literal_of max n) (Err Literal) ≡ Ok l → (l ≡ n) × IsDefining max n
  by_even true z e = by_two (nat_le 2 n) z refl e
  by_even false z e = absurd cc

-- a reset
reset_ok : (l : Latch) (r : Reset) → 2 ≤ l.lit → reset_of l.lit (reset_number l r) ≡ Ok r
reset_ok l Zero two = refl
reset_ok l One two = refl
reset_ok l Free two = elim (eqb_tells l.lit l.lit) [ inl t ↦ rw (ne_eqb l.lit 0 (λ e. omega arith), ne_eqb l.lit 1 (λ e. omega arith), t.0) refl | inr f ↦ absurd (f.1 refl) ]

reset_back : (l : Latch) (n : ℕ) (r : Reset) → reset_of l.lit n ≡ Ok r → n ≡ reset_number l r
reset_back l n r e = elim (eqb_tells n 0) [
  | inl t ↦ let is : r ≡ Zero = same_ok Zero r (rw t.0 at e) in t.1 ∙ ap (reset_number l) (sym is)
  | inr f ↦ by_one f.0 (eqb_tells n 1)
] where
  never : ◌≡◌ {A = Result Reset AigCode} (Err Literal) (Ok r) → ⊥
  never e = cc

  by_one : (n == 0) ≡ false → (((n == 1) ≡ true) × (n ≡ 1)) ⊎ (((n == 1) ≡ false) × (n ≡ 1 → ⊥)) → n ≡ reset_number l r
  by_one f (inl t) = let is : r ≡ One = same_ok One r (rw (f, t.0) at e) in t.1 ∙ ap (reset_number l) (sym is)
  by_one f (inr g) = elim (eqb_tells n l.lit) [
    | inl t ↦ let is : r ≡ Free = same_ok Free r (rw (f, g.0, t.0) at e) in t.1 ∙ ap (reset_number l) (sym is)
    | inr k ↦ absurd (never (rw (f, g.0, k.0) at e))
  ]

-- from a row to its numbers' reading
pub spelled_read : (max room : ℕ) (row : Row) (ns : List ℕ) → Spells row ns → InRange max room row → row_numbers max room (section_of row) ns ≡ Ok row
spelled_read max room (rows.Input l) ns e is = ap (row_numbers max room sections.Input) e ∙ ap (row_with rows.Input) (defining_ok max l is)
spelled_read max room (rows.Latch l) ns e is = by_spelling e where
  parts : (n : ℕ) → reset_of l.lit n ≡ Ok l.reset → latch_of (defining_of max l.lit) (literal_of max l.next) (reset_of l.lit n) ≡ Ok (rows.Latch l)
  parts n r = rw (defining_ok max l.lit is.0, literal_ok max l.next is.1, r) refl

  by_spelling : Spells (rows.Latch l) ns → row_numbers max room sections.Latch ns ≡ Ok (rows.Latch l)
  by_spelling (inl e) = ap (row_numbers max room sections.Latch) e ∙ parts (reset_number l l.reset) (reset_ok l l.reset is.0.1)
  by_spelling (inr e) = ap (row_numbers max room sections.Latch) e.1 ∙ parts 0 (ap Ok (sym e.0))
spelled_read max room (rows.Out l) ns e is = ap (row_numbers max room sections.Out) e ∙ ap (row_with rows.Out) (literal_ok max l is)
spelled_read max room (rows.Bad l) ns e is = ap (row_numbers max room sections.Bad) e ∙ ap (row_with rows.Bad) (literal_ok max l is)
spelled_read max room (rows.Con l) ns e is = ap (row_numbers max room sections.Con) e ∙ ap (row_with rows.Con) (literal_ok max l is)
spelled_read max room (rows.Size n) ns e is = ap (row_numbers max room sections.Size) e ∙ ap (row_with rows.Size) (size_ok room n is)
spelled_read max room (rows.Justice l) ns e is = ap (row_numbers max room sections.Justice) e ∙ ap (row_with rows.Justice) (literal_ok max l is)
spelled_read max room (rows.Fair l) ns e is = ap (row_numbers max room sections.Fair) e ∙ ap (row_with rows.Fair) (literal_ok max l is)
spelled_read max room (rows.Gate g) ns e is = ap (row_numbers max room sections.Gate) e ∙ rw (defining_ok max g.lhs is.0, literal_ok max g.rhs0 is.1, literal_ok max g.rhs1 is.2) refl

-- and back
abbrev OneNumber : (ℕ → Row) → (ℕ → Type 0) → List ℕ → Row → Type 0
OneNumber row P ns u = (n : ℕ) × (ns ≡ n ∷ []) × P n × (u ≡ row n)

with_back : (row : ℕ → Row) (r : Result ℕ AigCode) (u : Row) → row_with row r ≡ Ok u → (n : ℕ) × (r ≡ Ok n) × (u ≡ row n)
with_back row (Ok n) u e = (n, refl, same_ok (row n) u e)
with_back row (Err c) u e = absurd cc

one_back : (row : ℕ → Row) (f : ℕ → Result ℕ AigCode) (P : ℕ → Type 0) → ((n l : ℕ) → f n ≡ Ok l → (l ≡ n) × P n) → (ns : List ℕ) (u : Row) → cond (length ns == 1) (row_with row (f (get_or ns 0 0))) (Err Count) ≡ Ok u → OneNumber row P ns u
one_back row f P back [] u e = absurd cc
one_back row f P back (n ∷ []) u e = let w = with_back row (f n) u e in let b = back n w.0 w.1 in (n, refl, b.1, w.2 ∙ ap row b.0)
one_back row f P back (n ∷ m ∷ ns) u e = absurd (never (rw (ne_eqb (length (n ∷ m ∷ ns)) 1 (λ q. omega arith)) at e)) where
  never : ◌≡◌ {A = Result Row AigCode} (Err Count) (Ok u) → ⊥
  never e = cc

abbrev pub Back : ℕ → ℕ → List ℕ → Row → Type 0
Back max room ns u = Spells u ns × InRange max room u

latch_parts : (max lit next reset : ℕ) (u : Row) → latch_of (defining_of max lit) (literal_of max next) (reset_of lit reset) ≡ Ok u → (l : Latch) × (u ≡ rows.Latch l) × (l.lit ≡ lit) × (l.next ≡ next) × (reset ≡ reset_number l l.reset) × IsDefining max l.lit × (l.next ≤ 2 * max + 1)
latch_parts max lit next reset u e = by_own (defining_of max lit) refl e where
  by_reset : (a b : ℕ) (r : Result Reset AigCode) → defining_of max lit ≡ Ok a → literal_of max next ≡ Ok b → reset_of lit reset ≡ r → latch_of (Ok a) (Ok b) r ≡ Ok u → (l : Latch) × (u ≡ rows.Latch l) × (l.lit ≡ lit) × (l.next ≡ next) × (reset ≡ reset_number l l.reset) × IsDefining max l.lit × (l.next ≤ 2 * max + 1)
  by_reset a b (Ok r) ea eb er e =
      let da = defining_back max lit a ea in
      let db = literal_back max next b eb in
      let own : reset_of a reset ≡ Ok r = ap (λ (n : ℕ). reset_of n reset) da.0 ∙ er in
      (record { lit = a; next = b; reset = r }, same_ok (rows.Latch (record { lit = a; next = b; reset = r })) u e, da.0, db.0, reset_back (record { lit = a; next = b; reset = r }) reset r own, subst (IsDefining max) (sym da.0) da.1, subst (λ (n : ℕ). n ≤ 2 * max + 1) (sym db.0) db.1)
  by_reset a b (Err c) ea eb er e = absurd cc

  by_next : (a : ℕ) (r : Result ℕ AigCode) → defining_of max lit ≡ Ok a → literal_of max next ≡ r → latch_of (Ok a) r (reset_of lit reset) ≡ Ok u → (l : Latch) × (u ≡ rows.Latch l) × (l.lit ≡ lit) × (l.next ≡ next) × (reset ≡ reset_number l l.reset) × IsDefining max l.lit × (l.next ≤ 2 * max + 1)
  by_next a (Ok b) ea eb e = by_reset a b (reset_of lit reset) ea eb refl e
  by_next a (Err c) ea eb e = absurd cc

  by_own : (r : Result ℕ AigCode) → defining_of max lit ≡ r → latch_of r (literal_of max next) (reset_of lit reset) ≡ Ok u → (l : Latch) × (u ≡ rows.Latch l) × (l.lit ≡ lit) × (l.next ≡ next) × (reset ≡ reset_number l l.reset) × IsDefining max l.lit × (l.next ≤ 2 * max + 1)
  by_own (Ok a) ea e = by_next a (literal_of max next) ea refl e
  by_own (Err c) ea e = absurd cc

gate_parts : (max a b c : ℕ) (u : Row) → gate_of (defining_of max a) (literal_of max b) (literal_of max c) ≡ Ok u → (g : AndGate) × (u ≡ rows.Gate g) × (g.lhs ≡ a) × (g.rhs0 ≡ b) × (g.rhs1 ≡ c) × IsDefining max g.lhs × (g.rhs0 ≤ 2 * max + 1) × (g.rhs1 ≤ 2 * max + 1)
gate_parts max a b c u e = by_lhs (defining_of max a) refl e where
  by_rhs1 : (x y : ℕ) (r : Result ℕ AigCode) → defining_of max a ≡ Ok x → literal_of max b ≡ Ok y → literal_of max c ≡ r → gate_of (Ok x) (Ok y) r ≡ Ok u → (g : AndGate) × (u ≡ rows.Gate g) × (g.lhs ≡ a) × (g.rhs0 ≡ b) × (g.rhs1 ≡ c) × IsDefining max g.lhs × (g.rhs0 ≤ 2 * max + 1) × (g.rhs1 ≤ 2 * max + 1)
  by_rhs1 x y (Ok z) ex ey ez e =
      let dx = defining_back max a x ex in
      let dy = literal_back max b y ey in
      let dz = literal_back max c z ez in
      (record { lhs = x; rhs0 = y; rhs1 = z }, same_ok (rows.Gate (record { lhs = x; rhs0 = y; rhs1 = z })) u e, dx.0, dy.0, dz.0, subst (IsDefining max) (sym dx.0) dx.1, subst (λ (n : ℕ). n ≤ 2 * max + 1) (sym dy.0) dy.1, subst (λ (n : ℕ). n ≤ 2 * max + 1) (sym dz.0) dz.1)
  by_rhs1 x y (Err d) ex ey ez e = absurd cc

  by_rhs0 : (x : ℕ) (r : Result ℕ AigCode) → defining_of max a ≡ Ok x → literal_of max b ≡ r → gate_of (Ok x) r (literal_of max c) ≡ Ok u → (g : AndGate) × (u ≡ rows.Gate g) × (g.lhs ≡ a) × (g.rhs0 ≡ b) × (g.rhs1 ≡ c) × IsDefining max g.lhs × (g.rhs0 ≤ 2 * max + 1) × (g.rhs1 ≤ 2 * max + 1)
  by_rhs0 x (Ok y) ex ey e = by_rhs1 x y (literal_of max c) ex ey refl e
  by_rhs0 x (Err d) ex ey e = absurd cc

  by_lhs : (r : Result ℕ AigCode) → defining_of max a ≡ r → gate_of r (literal_of max b) (literal_of max c) ≡ Ok u → (g : AndGate) × (u ≡ rows.Gate g) × (g.lhs ≡ a) × (g.rhs0 ≡ b) × (g.rhs1 ≡ c) × IsDefining max g.lhs × (g.rhs0 ≤ 2 * max + 1) × (g.rhs1 ≤ 2 * max + 1)
  by_lhs (Ok x) ex e = by_rhs0 x (literal_of max b) ex refl e
  by_lhs (Err d) ex e = absurd cc

wrong_count : (u : Row) (b : Bool) (r : Result Row AigCode) → b ≡ false → cond b r (Err Count) ≡ Ok u → ⊥
wrong_count u true r f e = cc
wrong_count u false r f e = cc

latch_back : (max room : ℕ) (ns : List ℕ) (u : Row) → row_numbers max room sections.Latch ns ≡ Ok u → Back max room ns u
latch_back max room [] u e = absurd cc
latch_back max room (a ∷ []) u e = absurd cc
latch_back max room (a ∷ b ∷ []) u e =
    let p = latch_parts max a b 0 u e in
    subst (Back max room (a ∷ b ∷ [])) (sym p.1) (inr (zero_reset p.0 p.0.reset p.4 p.5.1, twice p.0 p.2 p.3), (p.5, p.6)) where
      zero_reset : (l : Latch) (r : Reset) → 0 ≡ reset_number l r → 2 ≤ l.lit → r ≡ Zero
      zero_reset l Zero e two = refl
      zero_reset l One e two = absurd (omega (arith, e))
      zero_reset l Free e two = absurd (omega (arith, e, two))

      twice : (l : Latch) → l.lit ≡ a → l.next ≡ b → a ∷ b ∷ [] ≡ l.lit ∷ l.next ∷ []
      twice l e f = rw (e, f) refl
latch_back max room (a ∷ b ∷ c ∷ []) u e =
    let p = latch_parts max a b c u e in
    subst (Back max room (a ∷ b ∷ c ∷ [])) (sym p.1) (inl (thrice p.0 p.2 p.3 p.4), (p.5, p.6)) where
      thrice : (l : Latch) → l.lit ≡ a → l.next ≡ b → c ≡ reset_number l l.reset → a ∷ b ∷ c ∷ [] ≡ l.lit ∷ l.next ∷ reset_number l l.reset ∷ []
      thrice l e f g = ap (λ (n : ℕ). a ∷ b ∷ n ∷ []) g ∙ ap (λ (n : ℕ). a ∷ n ∷ reset_number l l.reset ∷ []) (sym f) ∙ ap (λ (n : ℕ). n ∷ l.next ∷ reset_number l l.reset ∷ []) (sym e)
latch_back max room (a ∷ b ∷ c ∷ d ∷ ns) u e =
    absurd (wrong_count u ((length (a ∷ b ∷ c ∷ d ∷ ns) == 2) || (length (a ∷ b ∷ c ∷ d ∷ ns) == 3)) (row_of max room sections.Latch (a ∷ b ∷ c ∷ d ∷ ns)) (rw (ne_eqb (length (a ∷ b ∷ c ∷ d ∷ ns)) 2 (λ q. omega arith), ne_eqb (length (a ∷ b ∷ c ∷ d ∷ ns)) 3 (λ q. omega arith)) refl) e)

gate_back : (max room : ℕ) (ns : List ℕ) (u : Row) → row_numbers max room sections.Gate ns ≡ Ok u → Back max room ns u
gate_back max room [] u e = absurd cc
gate_back max room (a ∷ []) u e = absurd cc
gate_back max room (a ∷ b ∷ []) u e = absurd cc
gate_back max room (a ∷ b ∷ c ∷ []) u e =
    let p = gate_parts max a b c u e in
    subst (Back max room (a ∷ b ∷ c ∷ [])) (sym p.1) (thrice p.0 p.2 p.3 p.4, (p.5, p.6, p.7)) where
      thrice : (g : AndGate) → g.lhs ≡ a → g.rhs0 ≡ b → g.rhs1 ≡ c → a ∷ b ∷ c ∷ [] ≡ g.lhs ∷ g.rhs0 ∷ g.rhs1 ∷ []
      thrice g e f h = ap (λ (n : ℕ). a ∷ b ∷ n ∷ []) (sym h) ∙ ap (λ (n : ℕ). a ∷ n ∷ g.rhs1 ∷ []) (sym f) ∙ ap (λ (n : ℕ). n ∷ g.rhs0 ∷ g.rhs1 ∷ []) (sym e)
gate_back max room (a ∷ b ∷ c ∷ d ∷ ns) u e =
    absurd (wrong_count u (length (a ∷ b ∷ c ∷ d ∷ ns) == 3) (row_of max room sections.Gate (a ∷ b ∷ c ∷ d ∷ ns)) (ne_eqb (length (a ∷ b ∷ c ∷ d ∷ ns)) 3 (λ q. omega arith)) e)

single_back : (max room : ℕ) (row : ℕ → Row) (f : ℕ → Result ℕ AigCode) (P : ℕ → Type 0) → ((n l : ℕ) → f n ≡ Ok l → (l ≡ n) × P n) → ((n : ℕ) (ns : List ℕ) → ns ≡ n ∷ [] → P n → Back max room ns (row n)) → (ns : List ℕ) (u : Row) → cond (length ns == 1) (row_with row (f (get_or ns 0 0))) (Err Count) ≡ Ok u → Back max room ns u
single_back max room row f P back is ns u e = let o = one_back row f P back ns u e in subst (Back max room ns) (sym o.3) (is o.0 ns o.1 o.2)

pub numbers_back : (max room : ℕ) (s : Section) (ns : List ℕ) (u : Row) → row_numbers max room s ns ≡ Ok u → Back max room ns u
numbers_back max room sections.Input ns u e = single_back max room rows.Input (defining_of max) (IsDefining max) (λ n l q. defining_back max n l q) (λ n ms q p. (q, p)) ns u e
numbers_back max room sections.Latch ns u e = latch_back max room ns u e
numbers_back max room sections.Out ns u e = single_back max room rows.Out (literal_of max) (λ n. n ≤ 2 * max + 1) (λ n l q. literal_back max n l q) (λ n ms q p. (q, p)) ns u e
numbers_back max room sections.Bad ns u e = single_back max room rows.Bad (literal_of max) (λ n. n ≤ 2 * max + 1) (λ n l q. literal_back max n l q) (λ n ms q p. (q, p)) ns u e
numbers_back max room sections.Con ns u e = single_back max room rows.Con (literal_of max) (λ n. n ≤ 2 * max + 1) (λ n l q. literal_back max n l q) (λ n ms q p. (q, p)) ns u e
numbers_back max room sections.Size ns u e = single_back max room rows.Size (size_of room) (λ n. n ≤ room) (λ n l q. size_back room n l q) (λ n ms q p. (q, p)) ns u e
numbers_back max room sections.Justice ns u e = single_back max room rows.Justice (literal_of max) (λ n. n ≤ 2 * max + 1) (λ n l q. literal_back max n l q) (λ n ms q p. (q, p)) ns u e
numbers_back max room sections.Fair ns u e = single_back max room rows.Fair (literal_of max) (λ n. n ≤ 2 * max + 1) (λ n l q. literal_back max n l q) (λ n ms q p. (q, p)) ns u e
numbers_back max room sections.Gate ns u e = gate_back max room ns u e
