-- The lines behind the gates are read where they say symbols and a comment, and only there.
use Rattle.std.proofs.Common.{◌≡◌, ℕ, ◌+◌, List, [], ◌∷◌, ◌++◌, Bool, true, false, cond, Option, Some, None, Result, Ok, Err, refl, ap, sym, ◌∙◌, append_assoc}
use Rattle.std.proofs.lemmas.List.{append-nil}
use Rattle.gi_aiger.specs.declared.aig.Aig.{Aig}
use Rattle.gi_aiger.specs.declared.aig.Symbol.{Symbol}
use Rattle.gi_aiger.specs.declared.fault.AigCode.{AigCode}
use Rattle.gi_aiger.specs.declared.fault.AigCode.TheVariants as codes
use Rattle.gi_aiger.specs.declared.fault.AigFault.{AigFault}
use Rattle.gi_aiger.specs.declared.head.Head.{Head}
use Rattle.gi_aiger.specs.declared.taken.Taken.{Taken}
use Rattle.gi_aiger.specs.Lines.{bare, joined}
use Rattle.gi_aiger.specs.Symbols.{symbol_of}
use Rattle.gi_aiger.specs.Named.{is_named, named_by, add_symbol}
use Rattle.gi_aiger.specs.Files.{aig_of, whole, begins_comment, comment_of, then_symbols, read_symbols}
use Rattle.gi_aiger.specs.Relation.{AllName, IsRest}

pub symbols_there : (h : Head) (t : Taken) (rest : List (List ℕ)) (comment : Option (List ℕ)) (k : ℕ) (y : List Symbol) (names : List (List ℕ)) (symbols : List Symbol) → AllName h y names symbols → IsRest rest comment → read_symbols h k t y (names ++ rest) ≡ whole h t (y ++ symbols) comment
unfolding read_symbols
symbols_there h t [] comment k y [] [] named is = ap (whole h t y) (sym is) ∙ ap (λ (z : List Symbol). whole h t z comment) (sym (append-nil y))
symbols_there h t (l ∷ ls) comment k y [] [] named is =
    ap (λ (b : Bool). cond b (whole h t y (Some (comment_of (joined (l ∷ ls))))) (then_symbols (add_symbol h y (bare l)) t k (λ more. read_symbols h (k + 1) t more ls))) is.0 ∙ ap (whole h t y) (sym is.1) ∙ ap (λ (z : List Symbol). whole h t z comment) (sym (append-nil y))
symbols_there h t rest comment k y [] (s ∷ symbols) named is = absurd named
symbols_there h t rest comment k y (l ∷ names) [] named is = absurd named
symbols_there h t rest comment k y (l ∷ names) (s ∷ symbols) named is =
    let added : add_symbol h y (bare l) ≡ Ok (y ++ s ∷ []) = ap (λ (o : Option Symbol). named_by o y) named.1 ∙ ap (λ (b : Bool). cond {A = Result (List Symbol) AigCode} b (Err codes.Symbol) (Ok (y ++ s ∷ []))) named.2 in
    ap (λ (b : Bool). cond b (whole h t y (Some (comment_of (joined (l ∷ (names ++ rest)))))) (then_symbols (add_symbol h y (bare l)) t k (λ more. read_symbols h (k + 1) t more (names ++ rest)))) named.0
    ∙ ap (λ (r : Result (List Symbol) AigCode). then_symbols r t k (λ more. read_symbols h (k + 1) t more (names ++ rest))) added ∙ symbols_there h t rest comment (k + 1) (y ++ s ∷ []) names symbols named.3 is
    ∙ ap (λ (z : List Symbol). whole h t z comment) (append_assoc y (s ∷ []) symbols)

pub record Titled (h : Head) (v : Aig) (t : Taken) (y : List Symbol) (ls : List (List ℕ)) : Type 0 where
  pub names : List (List ℕ)
  pub rest : List (List ℕ)
  pub symbols : List Symbol
  pub comment : Option (List ℕ)
  pub split : names ++ rest ≡ ls
  pub named : AllName h y names symbols
  pub ends : IsRest rest comment
  pub value : v ≡ aig_of h t (y ++ symbols) comment

ok_is : {v u : Aig} → ◌≡◌ {A = Result Aig AigFault} (Ok u) (Ok v) → v ≡ u
ok_is e = cc

at_end : (h : Head) (v : Aig) (t : Taken) (y : List Symbol) (ls : List (List ℕ)) (comment : Option (List ℕ)) → IsRest ls comment → (whole h t y comment).read ≡ Ok v → Titled h v t y ls
at_end h v t y ls comment is e = record { names = []; rest = ls; symbols = []; comment = comment; split = refl; named = tt; ends = is; value = ok_is e ∙ ap (λ (z : List Symbol). aig_of h t z comment) (sym (append-nil y)) }

pub symbols_back : (h : Head) (v : Aig) (t : Taken) (k : ℕ) (y : List Symbol) (ls : List (List ℕ)) → (read_symbols h k t y ls).read ≡ Ok v → Titled h v t y ls
unfolding read_symbols
symbols_back h v t k y [] e = at_end h v t y [] None refl e
symbols_back h v t k y (l ∷ ls) e = by_test (begins_comment l) refl (λ more q. symbols_back h v t (k + 1) more ls q) e where
  by_named : (s : Symbol) (b : Bool) → begins_comment l ≡ false → symbol_of h (bare l) ≡ Some s → is_named y s.kind s.place ≡ b → ((more : List Symbol) → (read_symbols h (k + 1) t more ls).read ≡ Ok v → Titled h v t more ls)
      → (then_symbols (cond b (Err codes.Symbol) (Ok (y ++ s ∷ []))) t k (λ more. read_symbols h (k + 1) t more ls)).read ≡ Ok v → Titled h v t y (l ∷ ls)
  by_named s true plain is named ih e = absurd cc
  by_named s false plain is named ih e =
      let w = ih (y ++ s ∷ []) e in
      record {
        names = l ∷ w.names;
        rest = w.rest;
        symbols = s ∷ w.symbols;
        comment = w.comment;
        split = ap (λ (xs : List (List ℕ)). l ∷ xs) w.split;
        named = (plain, is, named, w.named);
        ends = w.ends;
        value = w.value ∙ ap (λ (z : List Symbol). aig_of h t z w.comment) (append_assoc y (s ∷ []) w.symbols);
      }

  by_symbol : (o : Option Symbol) → begins_comment l ≡ false → symbol_of h (bare l) ≡ o → ((more : List Symbol) → (read_symbols h (k + 1) t more ls).read ≡ Ok v → Titled h v t more ls)
      → (then_symbols (named_by o y) t k (λ more. read_symbols h (k + 1) t more ls)).read ≡ Ok v → Titled h v t y (l ∷ ls)
  by_symbol None plain is ih e = absurd cc
  by_symbol (Some s) plain is ih e = by_named s (is_named y s.kind s.place) plain is refl ih e

  by_test : (b : Bool) → begins_comment l ≡ b → ((more : List Symbol) → (read_symbols h (k + 1) t more ls).read ≡ Ok v → Titled h v t more ls)
      → (cond b (whole h t y (Some (comment_of (joined (l ∷ ls))))) (then_symbols (add_symbol h y (bare l)) t k (λ more. read_symbols h (k + 1) t more ls))).read ≡ Ok v → Titled h v t y (l ∷ ls)
  by_test true is ih e = at_end h v t y (l ∷ ls) (Some (comment_of (joined (l ∷ ls)))) (is, refl) e
  by_test false is ih e = by_symbol (symbol_of h (bare l)) is refl ih e
