-- Numbers in lines, one after another.
use Rattle.std.proofs.Common.{◌≡◌, ℕ, ◌+◌, ◌<◌, ℤ, pos, Bool, cond, List, [], ◌∷◌, ◌++◌, length, map, take, get_or, codes, refl, ap, sym, ◌∙◌, subst, append_assoc}
use Rattle.std.specs.Fmt.{signed_decimal}
use Rattle.std.proofs.lemmas.Bool.{ne_eqb}
use Rattle.std.proofs.lemmas.List.{append-nil, map-append, take_more}
use Rattle.std.proofs.lemmas.List.Sums.{fold-append}
use Rattle.gi_lit.specs.Literals.{number_of}
use Rattle.gi_outside.specs.Outbox.{Stands, Waiting}
use Rattle.gi_outside.specs.World.{World}
use Rattle.gi_wire.specs.CallText.{column_after, column_behind, guard_numbers, listed, placed, wrapped}

pub wrapped-append : (column : ℕ) (xs ys : List ℤ) → wrapped column (xs ++ ys) ≡ wrapped column xs ++ wrapped (column_after column xs) ys
unfolding wrapped column_after
wrapped-append column [] ys = refl
wrapped-append column (x ∷ xs) ys =
    ap (λ (t : List ℕ). placed column (signed_decimal x) ++ t) (wrapped-append (column_behind column (signed_decimal x)) xs ys)
    ∙ sym (append_assoc (placed column (signed_decimal x)) (wrapped (column_behind column (signed_decimal x)) xs) (wrapped (column_after (column_behind column (signed_decimal x)) xs) ys))

pub wrapped_push : (column : ℕ) (xs : List ℤ) (z : ℤ) → wrapped column (xs ++ z ∷ []) ≡ wrapped column xs ++ placed (column_after column xs) (signed_decimal z)
unfolding wrapped
wrapped_push column xs z = wrapped-append column xs (z ∷ []) ∙ ap (λ (t : List ℕ). wrapped column xs ++ t) (append-nil (placed (column_after column xs) (signed_decimal z)))

pub column_push : (column : ℕ) (xs : List ℤ) (z : ℤ) → column_after column (xs ++ z ∷ []) ≡ column_behind (column_after column xs) (signed_decimal z)
unfolding column_after
column_push column xs z = fold-append (λ (c : ℕ) (y : ℤ). column_behind c (signed_decimal y)) column xs (z ∷ [])

-- a text was put behind what was put before
abbrev pub Puts : World → Waiting → World → Waiting → List ℕ → Type 0
Puts v p w q text = (start : World) (before : List ℕ) → Stands start v p before → Stands start w q (before ++ text)

pub puts_none : (v : World) (p : Waiting) → Puts v p v p []
puts_none v p start before h = subst (λ (t : List ℕ). Stands start v p t) (sym (append-nil before)) h

pub puts_both : (v : World) (p : Waiting) (w : World) (q : Waiting) (x : World) (r : Waiting) (a b : List ℕ) → Puts v p w q a → Puts w q x r b → Puts v p x r (a ++ b)
puts_both v p w q x r a b h k start before stands = subst (λ (t : List ℕ). Stands start x r t) (append_assoc before a b) (k start (before ++ a) (h start before stands))

pub wrapped_none : (column : ℕ) → wrapped column [] ≡ []
unfolding wrapped
wrapped_none column = refl

pub column_none : (column : ℕ) → column ≡ column_after column []
unfolding column_after
column_none column = refl

-- a step of a loop over literals or guards
numbers_more : (f : ℕ → ℤ) (xs : List ℕ) (i x : ℕ) → i < length xs → x ≡ get_or xs i x → map f (take (i + 1) xs) ≡ map f (take i xs) ++ f x ∷ []
numbers_more f xs i x lt is = ap (map f) (take_more xs i x lt) ∙ map-append f (take i xs) (get_or xs i x ∷ []) ∙ ap (λ (y : ℕ). map f (take i xs) ++ f y ∷ []) (sym is)

pushed : (f : ℕ → ℤ) (xs : List ℕ) (i x : ℕ) (z : ℤ) → i < length xs → x ≡ get_or xs i x → z ≡ f x → map f (take i xs) ++ z ∷ [] ≡ map f (take (i + 1) xs)
pushed f xs i x z lt is number = ap (λ (y : ℤ). map f (take i xs) ++ y ∷ []) number ∙ sym (numbers_more f xs i x lt is)

pub wrapped_more : (f : ℕ → ℤ) (column filled : ℕ) (xs : List ℕ) (i x : ℕ) (z : ℤ) → i < length xs → x ≡ get_or xs i x → z ≡ f x → filled ≡ column_after column (map f (take i xs))
    → wrapped column (map f (take i xs)) ++ placed filled (signed_decimal z) ≡ wrapped column (map f (take (i + 1) xs))
wrapped_more f column filled xs i x z lt is number here =
    ap (λ (c : ℕ). wrapped column (map f (take i xs)) ++ placed c (signed_decimal z)) here
    ∙ sym (wrapped_push column (map f (take i xs)) z) ∙ ap (wrapped column) (pushed f xs i x z lt is number)

pub column_more : (f : ℕ → ℤ) (column filled : ℕ) (xs : List ℕ) (i x : ℕ) (z : ℤ) → i < length xs → x ≡ get_or xs i x → z ≡ f x → filled ≡ column_after column (map f (take i xs))
    → column_behind filled (signed_decimal z) ≡ column_after column (map f (take (i + 1) xs))
column_more f column filled xs i x z lt is number here =
    ap (λ (c : ℕ). column_behind c (signed_decimal z)) here
    ∙ sym (column_push column (map f (take i xs)) z) ∙ ap (column_after column) (pushed f xs i x z lt is number)

-- the 0 behind several guards
several : (gs : List ℕ) → (length gs ≡ 1 → ⊥) → map pos gs ++ pos 0 ∷ [] ≡ guard_numbers gs
several gs many = sym (ap (λ (b : Bool). cond b (map pos gs) (map pos gs ++ pos 0 ∷ [])) (ne_eqb (length gs) 1 many))

pub wrapped_end : (column filled : ℕ) (gs : List ℕ) → (length gs ≡ 1 → ⊥) → filled ≡ column_after column (map pos gs) → wrapped column (map pos gs) ++ placed filled (signed_decimal (pos 0)) ≡ wrapped column (guard_numbers gs)
wrapped_end column filled gs many here =
    ap (λ (c : ℕ). wrapped column (map pos gs) ++ placed c (signed_decimal (pos 0))) here ∙ sym (wrapped_push column (map pos gs) (pos 0)) ∙ ap (wrapped column) (several gs many)

pub column_end : (column filled : ℕ) (gs : List ℕ) → (length gs ≡ 1 → ⊥) → filled ≡ column_after column (map pos gs) → column_behind filled (signed_decimal (pos 0)) ≡ column_after column (guard_numbers gs)
column_end column filled gs many here =
    ap (λ (c : ℕ). column_behind c (signed_decimal (pos 0))) here ∙ sym (column_push column (map pos gs) (pos 0)) ∙ ap (column_after column) (several gs many)

-- a group
pub under_text : (gs hs c d : List ℕ) (column : ℕ) → gs ≡ hs → c ≡ d → column ≡ column_after 5 (guard_numbers gs)
    → codes "under" ++ (wrapped 5 (guard_numbers gs) ++ (wrapped column (map number_of c) ++ codes " 0")) ≡ listed (codes "under") (guard_numbers hs ++ map number_of d)
under_text gs hs c d column same alike here =
    let guards = guard_numbers gs in
    let numbers = map number_of c in
    ap (λ (k : ℕ). codes "under" ++ (wrapped 5 guards ++ (wrapped k numbers ++ codes " 0"))) here
    ∙ ap (λ (t : List ℕ). codes "under" ++ t) (sym (append_assoc (wrapped 5 guards) (wrapped (column_after 5 guards) numbers) (codes " 0")) ∙ ap (λ (t : List ℕ). t ++ codes " 0") (sym (wrapped-append 5 guards numbers)))
    ∙ ap (λ (xs : List ℕ). listed (codes "under") (guard_numbers xs ++ numbers)) same
    ∙ ap (λ (xs : List ℕ). listed (codes "under") (guard_numbers hs ++ map number_of xs)) alike
