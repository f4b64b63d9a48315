-- A value that some file says is good.
use Rattle.std.proofs.Common.{◌≡◌, ℕ, ◌+◌, ◌<◌, ◌≤◌, nat_lt, nat_le, List, [], ◌∷◌, ◌++◌, length, get_or, drop, Bool, true, false, cond, inl, inr, Option, Some, None, option_map, refl, subst, arith}
use Rattle.std.specs.Prelude.{◌==◌}
use Rattle.std.specs.List.{AllByRecursion}
use Rattle.std.proofs.lemmas.Bool.Decides.{nat_tests, eqb_tells}
use Rattle.std.proofs.lemmas.List.Elements.{All-from_recursion}
use Rattle.gi_text.specs.Numbers.{magnitude}
use Rattle.gi_aiger.specs.declared.aig.Aig.{Aig}
use Rattle.gi_aiger.specs.declared.aig.Symbol.{Symbol}
use Rattle.gi_aiger.specs.declared.head.Form.TheVariants.{Ascii, Binary}
use Rattle.gi_aiger.specs.declared.head.Head.{Head}
use Rattle.gi_aiger.specs.Fields.{split_space}
use Rattle.gi_aiger.specs.Lines.{bare}
use Rattle.gi_aiger.specs.Symbols.{places_of, place_in, symbol_named, symbol_parts}
use Rattle.gi_aiger.specs.Relation.{IsAig, AllName, head_of_aig}
use Rattle.gi_aiger.specs.Good.{IsTitle, AreNew, IsGood}
use Rattle.gi_aiger.proofs.Lining.{IsPlain, plain_head, plain_cons}
use Rattle.gi_aiger.proofs.Fitting.{header_within}
use Rattle.gi_aiger.proofs.Renumbering.{header_fits, sums_to}

-- a line without its LF has none
pub bare_is_plain : (l : List ℕ) → IsPlain (bare l)
unfolding bare
bare_is_plain [] = refl
bare_is_plain (b ∷ l) = by_test (b == 10) refl (bare_is_plain l) where
  by_test : (e : Bool) → (b == 10) ≡ e → IsPlain (bare l) → IsPlain (cond e [] (b ∷ bare l))
  by_test true is plain = refl
  by_test false is plain = plain_cons b (bare l) is plain

plain_rest : (l : List ℕ) → IsPlain l → IsPlain (drop 1 l)
plain_rest [] plain = refl
plain_rest (b ∷ l) plain = (plain_head b l plain).1

abbrev Pair : Type 0
Pair = List ℕ × List ℕ

split_plain : (l : List ℕ) (p : Pair) → IsPlain l → split_space l ≡ Some p → IsPlain p.1
unfolding split_space
split_plain [] p plain e = absurd cc
split_plain (b ∷ l) p plain e = by_test (b == 32) (λ q r. split_plain l q (plain_head b l plain).1 r) e where
  same : (q : Pair) → ◌≡◌ {A = Option Pair} (Some q) (Some p) → q ≡ p
  same q e = cc

  by_rest : (o : Option Pair) → ((q : Pair) → o ≡ Some q → IsPlain q.1) → option_map (λ q. (b ∷ q.0, q.1)) o ≡ Some p → IsPlain p.1
  by_rest None ih e = absurd cc
  by_rest (Some q) ih e = subst (λ (r : Pair). IsPlain r.1) (same (b ∷ q.0, q.1) e) (ih q refl)

  by_test : (t : Bool) → ((q : Pair) → split_space l ≡ Some q → IsPlain q.1) → cond t (Some ([], l)) (option_map (λ q. (b ∷ q.0, q.1)) (split_space l)) ≡ Some p → IsPlain p.1
  by_test true ih e = subst (λ (r : Pair). IsPlain r.1) (same ([], l) e) (plain_head b l plain).1
  by_test false ih e = by_rest (split_space l) ih e

-- a symbol that is read names a place
title_back : (h : Head) (kind : ℕ) (o : Option Pair) (s : Symbol) → ((p : Pair) → o ≡ Some p → IsPlain p.1) → symbol_parts (places_of h kind) kind o ≡ Some s → IsTitle h s
title_back h kind None s plain e = absurd cc
title_back h kind (Some p) s plain e = by_number (magnitude p.0) e where
  same : (q : Symbol) → ◌≡◌ {A = Option Symbol} (Some q) (Some s) → q ≡ s
  same q e = cc

  below : (a b : ℕ) → nat_lt a b ≡ true → a < b
  below a b t = grind (arith, nat_tests, t)

  long : (n : ℕ) → (n == 0) ≡ false → 1 ≤ n
  long n f = elim (eqb_tells n 0) [ inl t ↦ absurd cc | inr g ↦ omega (arith, g.1) ]

  by_name : (place : ℕ) (b : Bool) → place < places_of h kind → (length p.1 == 0) ≡ b → cond b None (Some (record { kind = kind; place = place; name = p.1 })) ≡ Some s → IsTitle h s
  by_name place true lt is e = absurd cc
  by_name place false lt is e = subst (IsTitle h) (same (record { kind = kind; place = place; name = p.1 }) e) (record { place = lt; name = long (length p.1) is; plain = plain p refl })

  by_place : (place : ℕ) (b : Bool) → nat_lt place (places_of h kind) ≡ b → symbol_named kind (cond b (Some place) None) p.1 ≡ Some s → IsTitle h s
  by_place place true lt e = by_name place (length p.1 == 0) (below place (places_of h kind) lt) refl e
  by_place place false lt e = absurd cc

  by_number : (n : Option ℕ) → symbol_named kind (place_in (places_of h kind) n) p.1 ≡ Some s → IsTitle h s
  by_number None e = absurd cc
  by_number (Some place) e = by_place place (nat_lt place (places_of h kind)) refl e

titles_back : (h : Head) (y : List Symbol) (names : List (List ℕ)) (ss : List Symbol) → AllName h y names ss → AllByRecursion (IsTitle h) ss × AreNew y ss
titles_back h y [] [] named = (tt, tt)
titles_back h y [] (s ∷ ss) named = absurd named
titles_back h y (l ∷ names) [] named = absurd named
titles_back h y (l ∷ names) (s ∷ ss) named =
    let more = titles_back h (y ++ s ∷ []) names ss named.3 in
    let plain : (p : Pair) → split_space (drop 1 (bare l)) ≡ Some p → IsPlain p.1 = λ p e. split_plain (drop 1 (bare l)) p (plain_rest (bare l) (bare_is_plain l)) e in
    ((title_back h (get_or (bare l) 0 0) (split_space (drop 1 (bare l))) s plain named.1, more.0), (named.2, more.1))

either_form : (v : Aig) (ss : List Symbol) → AllByRecursion (IsTitle (head_of_aig Binary v)) ss → AllByRecursion (IsTitle (head_of_aig Ascii v)) ss
either_form v [] titles = tt
either_form v (s ∷ ss) titles = (record { place = titles.0.place; name = titles.0.name; plain = titles.0.plain }, either_form v ss titles.1)

low_enough : (a b : ℕ) → nat_le a b ≡ true → a ≤ b
low_enough a b t = grind (arith, nat_tests, t)

pub said_good : (v : Aig) (bytes : List ℕ) → IsAig v bytes → IsGood v
said_good v bytes (inl a) =
    let titles = titles_back (head_of_aig Ascii v) [] a.names v.symbols a.named in
    record {
      fits = low_enough (length v.inputs + length v.latches + length v.gates) v.max (header_fits (bare a.head) (head_of_aig Ascii v) a.header).1;
      within = header_within (bare a.head) (head_of_aig Ascii v) a.header;
      titles = All-from_recursion (IsTitle (head_of_aig Ascii v)) v.symbols titles.0;
      apart = titles.1;
      sound = a.sound;
    }
said_good v bytes (inr a) =
    let titles = titles_back (head_of_aig Binary v) [] a.names v.symbols a.named in
    let sum : length v.inputs + length v.latches + length v.gates ≡ v.max = sums_to v.max (length v.inputs + length v.latches + length v.gates) (header_fits (bare a.head) (head_of_aig Binary v) a.header).1 in
    record {
      fits = omega (arith, sum);
      within = header_within (bare a.head) (head_of_aig Binary v) a.header;
      titles = All-from_recursion (IsTitle (head_of_aig Ascii v)) v.symbols (either_form v v.symbols titles.0);
      apart = titles.1;
      sound = a.sound;
    }
