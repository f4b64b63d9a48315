-- Symbols and the comment are read as they are written.
use Rattle.std.proofs.Common.{◌≡◌, ℕ, ◌+◌, ◌<◌, ◌≤◌, ◌^◌, Bool, true, false, ◌&&◌, cond, List, [], ◌∷◌, ◌++◌, length, decimal, inl, inr, Option, Some, None, option_map, Result, Ok, Err, refl, ap, sym, ◌∙◌, subst, append_assoc, arith}
use Rattle.std.specs.Prelude.{◌==◌}
use Rattle.std.specs.Char.{is_ascii_digit}
use Rattle.std.specs.List.{flat_map}
use Rattle.std.specs.Str.{all_ascii_digits}
use Rattle.std.proofs.lemmas.Bool.{cases_eq, ne_eqb, lt-ltb}
use Rattle.std.proofs.lemmas.Fmt.{decimal_nonempty}
use Rattle.std.proofs.lemmas.List.{append-nil}
use Rattle.gi_text.proofs.Spellings.{magnitude-decimal}
use Rattle.gi_aiger.specs.declared.aig.Symbol.{Symbol}
use Rattle.gi_aiger.specs.declared.fault.AigCode.{AigCode}
use Rattle.gi_aiger.specs.declared.fault.AigCode.TheVariants as codes
use Rattle.gi_aiger.specs.declared.head.Head.{Head}
use Rattle.gi_aiger.specs.declared.taken.Taken.{Taken}
use Rattle.gi_aiger.specs.Fields.{split_space}
use Rattle.gi_aiger.specs.Lines.{lines_of, is_plain}
use Rattle.gi_aiger.specs.Symbols.{places_of, place_in, symbol_named, symbol_parts, symbol_of}
use Rattle.gi_aiger.specs.Named.{is_named, named_by, add_symbol}
use Rattle.gi_aiger.specs.Files.{whole, begins_comment, then_symbols, read_symbols}
use Rattle.gi_aiger.specs.Texts.{symbol_line, comment_text}
use Rattle.gi_aiger.proofs.Lining.{joined_lines, plain_cons, bare_whole}
use Rattle.gi_aiger.specs.Good.{IsTitle}
use Rattle.gi_aiger_binary.specs.Numbered.{AreSymbols}
use Rattle.gi_aiger_binary.proofs.Counts.{both, no_space, decimal_digits, plain_append, plain_decimal}
use Rattle.gi_aiger_binary.proofs.Rowed.{line_first}
use Rattle.gi_aiger.specs.Limits.{most_items}

abbrev parts : List ℕ → List ℕ → Option (List ℕ × List ℕ)
parts xs ys = Some (xs, ys)

split_first : (ds rest : List ℕ) → all_ascii_digits ds ≡ true → split_space (ds ++ 32 ∷ rest) ≡ parts ds rest
unfolding split_space
split_first [] rest h = refl
split_first (d ∷ ds) rest h =
    let t = both (is_ascii_digit d) (all_ascii_digits ds) h in
    rw (no_space d t.0) (ap (option_map (λ p. (d ∷ p.0, p.1))) (split_first ds rest t.1))

-- a symbol's line, without its LF
abbrev word : Symbol → List ℕ
word s = s.kind ∷ ((decimal s.place ++ 32 ∷ []) ++ s.name)

no_comment : (kind : ℕ) (ds more : List ℕ) → all_ascii_digits ds ≡ true → 0 < length ds → begins_comment (kind ∷ (((ds ++ 32 ∷ []) ++ more) ++ 10 ∷ [])) ≡ false
no_comment kind [] more h some = absurd (omega arith)
no_comment kind (d ∷ ds) more h some =
    let t = both (is_ascii_digit d) (all_ascii_digits ds) h in
    rw t.0 (and_false (kind == 99))
  where
    and_false : (b : Bool) → (b && false) ≡ false
    and_false true = refl
    and_false false = refl

module _ (h : Head) (limit : (kind : ℕ) → places_of h kind ≤ most_items) where
  no_end : (s : Symbol) → IsTitle h s → (s.kind == 10) ≡ false
  no_end s is = elim (cases_eq s.kind 10) [
    | inl e ↦ (let none : s.place < 0 = subst (λ (kind : ℕ). s.place < places_of h kind) e is.place in absurd (omega arith))
    | inr ne ↦ ne_eqb s.kind 10 ne
  ]

  place_small : (s : Symbol) → IsTitle h s → s.place < 2 ^ 64
  place_small s is = let l = limit s.kind in omega (arith, l, is.place)

  plain_word : (s : Symbol) → IsTitle h s → is_plain (word s) ≡ true
  plain_word s is = plain_cons s.kind ((decimal s.place ++ 32 ∷ []) ++ s.name) (no_end s is) (plain_append (decimal s.place ++ 32 ∷ []) s.name (plain_append (decimal s.place) (32 ∷ []) (plain_decimal s.place (place_small s is)) refl) is.plain)

  symbol_is : (s : Symbol) → IsTitle h s → symbol_of h (word s) ≡ Some s
  symbol_is s is =
      ap (λ (xs : List ℕ). symbol_parts (places_of h s.kind) s.kind (split_space xs)) (append_assoc (decimal s.place) (32 ∷ []) s.name)
      ∙ ap (symbol_parts (places_of h s.kind) s.kind) (split_first (decimal s.place) s.name (decimal_digits s.place (place_small s is)))
      ∙ ap (λ (o : Option ℕ). symbol_named s.kind (place_in (places_of h s.kind) o) s.name) (magnitude-decimal s.place (place_small s is))
      ∙ ap (λ (b : Bool). symbol_named s.kind (cond b (Some s.place) None) s.name) (lt-ltb s.place (places_of h s.kind) is.place)
      ∙ ap (λ (b : Bool). cond b None (Some s)) (let some = is.name in ne_eqb (length s.name) 0 (λ e. omega arith))

  added : (s : Symbol) (before : List Symbol) → IsTitle h s → is_named before s.kind s.place ≡ false → add_symbol h before (word s) ≡ Ok (before ++ s ∷ [])
  added s before is new = ap (λ (o : Option Symbol). named_by o before) (symbol_is s is) ∙ ap (λ (b : Bool). cond b (Err codes.Symbol) (Ok (before ++ s ∷ []))) new

  line_read : (t : Taken) (s : Symbol) (before : List Symbol) (k : ℕ) (ls : List (List ℕ)) → IsTitle h s → is_named before s.kind s.place ≡ false → read_symbols h k t before ((word s ++ 10 ∷ []) ∷ ls) ≡ read_symbols h (k + 1) t (before ++ s ∷ []) ls
  unfolding read_symbols
  line_read t s before k ls is new =
      rw (no_comment s.kind (decimal s.place) s.name (decimal_digits s.place (place_small s is)) (decimal_nonempty s.place (place_small s is)))
      (ap (λ (l : List ℕ). then_symbols (add_symbol h before l) t k (λ more. read_symbols h (k + 1) t more ls)) (bare_whole (word s) [] (plain_word s is))
      ∙ ap (λ (r : Result (List Symbol) AigCode). then_symbols r t k (λ more. read_symbols h (k + 1) t more ls)) (added s before is new))

  pub symbols_read : (t : Taken) (comment : Option (List ℕ)) (ss before : List Symbol) (k : ℕ) → AreSymbols h before ss → read_symbols h k t before (lines_of (flat_map symbol_line ss ++ comment_text comment)) ≡ whole h t (before ++ ss) comment
  unfolding read_symbols lines_of
  symbols_read t None [] before k are = ap (λ (xs : List Symbol). whole h t xs None) (sym (append-nil before))
  symbols_read t (Some text) [] before k are = ap (λ (xs : List ℕ). whole h t before (Some xs)) (joined_lines text) ∙ ap (λ (xs : List Symbol). whole h t xs (Some text)) (sym (append-nil before))
  symbols_read t comment (s ∷ ss) before k are =
      ap (read_symbols h k t before) (ap lines_of (append_assoc (word s ++ 10 ∷ []) (flat_map symbol_line ss) (comment_text comment) ∙ append_assoc (word s) (10 ∷ []) (flat_map symbol_line ss ++ comment_text comment)) ∙ line_first (word s) (flat_map symbol_line ss ++ comment_text comment) (plain_word s are.0))
      ∙ line_read t s before k (lines_of (flat_map symbol_line ss ++ comment_text comment)) are.0 are.1
      ∙ symbols_read t comment ss (before ++ s ∷ []) (k + 1) are.2
      ∙ ap (λ (xs : List Symbol). whole h t xs comment) (append_assoc before (s ∷ []) ss)
