-- The lines of latches in the binary form, and what the lines of each section say together.
use Rattle.std.proofs.Common.{◌≡◌, ℕ, suc, ◌+◌, ◌*◌, ◌≤◌, true, List, [], ◌∷◌, ◌++◌, length, map, decimal, Option, Some, Result, Ok, refl, ap, sym, ◌∙◌, append_assoc, length-append, arith}
use Rattle.std.specs.List.{flat_map}
use Rattle.std.proofs.lemmas.List.{append-nil}
use Rattle.gi_aiger.specs.declared.aig.Aig.{Aig}
use Rattle.gi_aiger.specs.declared.aig.Latch.{Latch}
use Rattle.gi_aiger.specs.declared.fault.AigCode.{AigCode}
use Rattle.gi_aiger.specs.declared.row.Section.TheVariants as sections
use Rattle.gi_aiger.specs.declared.row.Row.{Row}
use Rattle.gi_aiger.specs.declared.row.Row.TheVariants as rows
use Rattle.gi_aiger.specs.declared.taken.Taken.{Taken}
use Rattle.gi_aiger.specs.Fields.{numbers_of, with_own}
use Rattle.gi_aiger.specs.Lines.{is_plain}
use Rattle.gi_aiger.specs.Rows.{row_read}
use Rattle.gi_aiger.specs.Taking.{with_row, room, then_row, add_row, add_line, own_latch}
use Rattle.gi_aiger.specs.Texts.{reset_text}
use Rattle.gi_aiger_binary.specs.Numbered.{evens_from, AreWithin, head_of_aig}
use Rattle.gi_aiger_binary.proofs.Counts.{line_numbers, plain_append, plain_decimal, plain_counts}
use Rattle.gi_aiger_binary.proofs.Rowed.{AllAdd, takes, reset_numbers, reset_counts, reset_small, parts_are}
use Rattle.gi_aiger.specs.Limits.{most_items}

abbrev pub words_of : Latch → List ℕ
words_of l = decimal l.next ++ reset_text l.lit l.reset

module _ (v : Aig) (limit : length v.inputs + length v.latches + length v.gates ≤ most_items) where
  abbrev top : ℕ
  top = length v.inputs + length v.latches + length v.gates

  line_is : (l : Latch) → l.lit ≤ 2 * top + 1 → l.next ≤ 2 * top + 1 → numbers_of (words_of l) ≡ Some (l.next ∷ reset_numbers v limit l.lit l.reset)
  line_is l lit next = ap (λ (xs : List ℕ). numbers_of (decimal l.next ++ xs)) (reset_counts v limit l.lit l.reset) ∙ line_numbers l.next (reset_numbers v limit l.lit l.reset) (omega (arith, next), reset_small v limit l.lit l.reset (omega (arith, lit)))

  plain_latch : (l : Latch) → l.lit ≤ 2 * top + 1 → l.next ≤ 2 * top + 1 → is_plain (words_of l) ≡ true
  plain_latch l lit next =
      plain_append (decimal l.next) (reset_text l.lit l.reset) (plain_decimal l.next (omega (arith, next)))
      (ap is_plain (reset_counts v limit l.lit l.reset) ∙ plain_counts (reset_numbers v limit l.lit l.reset) (reset_small v limit l.lit l.reset (omega (arith, lit))))

  one_latch : (t : Taken) (l : Latch) → l.lit ≡ 2 * (length v.inputs + length t.latches + 1) → l.lit ≤ 2 * top + 1 → l.next ≤ 2 * top + 1 → add_line (head_of_aig v) t sections.Latch (words_of l) ≡ Ok (with_row t (rows.Latch l))
  one_latch t l own lit next =
      ap (λ (o : Option (List ℕ)). then_row (row_read top (room t) sections.Latch (with_own (Some (own_latch (head_of_aig v) t)) o)) (add_row (head_of_aig v) t)) (line_is l lit next)
      ∙ ap (λ (n : ℕ). then_row (row_read top (room t) sections.Latch (Some (n ∷ l.next ∷ reset_numbers v limit l.lit l.reset))) (add_row (head_of_aig v) t)) (sym own)
      ∙ ap (λ (r : Result Row AigCode). then_row r (add_row (head_of_aig v) t)) (parts_are v limit (room t) l.lit l.next l.reset (omega (arith, own)) (omega (arith, own)) lit next)

  pub all_latches : (t : Taken) (ls : List Latch) → map (λ (l : Latch). l.lit) ls ≡ evens_from (length v.inputs + length t.latches + 1) (length ls) → length v.inputs + length t.latches + length ls ≤ top → AreWithin top (map (λ (l : Latch). l.next) ls) → AllAdd (head_of_aig v) sections.Latch words_of rows.Latch t ls
  all_latches t [] e le within = tt
  all_latches t (l ∷ ls) e le within =
      let own : l.lit ≡ 2 * (length v.inputs + length t.latches + 1) = cc in
      let rest : map (λ (l : Latch). l.lit) ls ≡ evens_from (suc (length v.inputs + length t.latches + 1)) (length ls) = cc in
      let lit : l.lit ≤ 2 * top + 1 = omega (arith, own, le) in
      let n = length-append t.latches (l ∷ []) in
      let m : suc (length v.inputs + length t.latches + 1) ≡ length v.inputs + length (t.latches ++ l ∷ []) + 1 = omega (arith, n) in
      (plain_latch l lit within.0, one_latch t l own lit within.0, all_latches (with_row t (rows.Latch l)) ls (rest ∙ ap (λ (k : ℕ). evens_from k (length ls)) m) (omega (arith, n, le)) within.1)

-- what the lines of a section say together, where each adds one item to a list
takes_list : {X : Type 0} (row : X → Row) (list : Taken → List X) (put : Taken → List X → Taken) → ((t : Taken) → put t (list t) ≡ t) → ((t : Taken) (x : X) → with_row t (row x) ≡ put t (list t ++ x ∷ []))
    → ((t : Taken) (xs : List X) → list (put t xs) ≡ xs) → ((t : Taken) (xs ys : List X) → put (put t xs) ys ≡ put t ys) → (t : Taken) (xs : List X) → takes row t xs ≡ put t (list t ++ xs)
takes_list row list put here one got again t [] = sym (ap (put t) (append-nil (list t)) ∙ here t)
takes_list row list put here one got again t (x ∷ xs) =
    let front = list t ++ x ∷ [] in
    ap (λ (u : Taken). takes row u xs) (one t x)
    ∙ takes_list row list put here one got again (put t front) xs
    ∙ again t front (list (put t front) ++ xs)
    ∙ ap (λ ys. put t (ys ++ xs)) (got t front)
    ∙ ap (put t) (append_assoc (list t) (x ∷ []) xs)

pub takes_latches : (t : Taken) (xs : List Latch) → takes rows.Latch t xs ≡ record t { latches = t.latches ++ xs }
takes_latches t xs = takes_list rows.Latch (λ t. t.latches) (λ t xs. record t { latches = xs }) (λ t. refl) (λ t x. refl) (λ t xs. refl) (λ t xs ys. refl) t xs

pub takes_outs : (t : Taken) (xs : List ℕ) → takes rows.Out t xs ≡ record t { outs = t.outs ++ xs }
takes_outs t xs = takes_list rows.Out (λ t. t.outs) (λ t xs. record t { outs = xs }) (λ t. refl) (λ t x. refl) (λ t xs. refl) (λ t xs ys. refl) t xs

pub takes_bads : (t : Taken) (xs : List ℕ) → takes rows.Bad t xs ≡ record t { bads = t.bads ++ xs }
takes_bads t xs = takes_list rows.Bad (λ t. t.bads) (λ t xs. record t { bads = xs }) (λ t. refl) (λ t x. refl) (λ t xs. refl) (λ t xs ys. refl) t xs

pub takes_cons : (t : Taken) (xs : List ℕ) → takes rows.Con t xs ≡ record t { cons = t.cons ++ xs }
takes_cons t xs = takes_list rows.Con (λ t. t.cons) (λ t xs. record t { cons = xs }) (λ t. refl) (λ t x. refl) (λ t xs. refl) (λ t xs ys. refl) t xs

pub takes_justice : (t : Taken) (xs : List ℕ) → takes rows.Justice t xs ≡ record t { justice = t.justice ++ xs }
takes_justice t xs = takes_list rows.Justice (λ t. t.justice) (λ t xs. record t { justice = xs }) (λ t. refl) (λ t x. refl) (λ t xs. refl) (λ t xs ys. refl) t xs

pub takes_fair : (t : Taken) (xs : List ℕ) → takes rows.Fair t xs ≡ record t { fair = t.fair ++ xs }
takes_fair t xs = takes_list rows.Fair (λ t. t.fair) (λ t xs. record t { fair = xs }) (λ t. refl) (λ t x. refl) (λ t xs. refl) (λ t xs ys. refl) t xs

pub takes_sizes : (t : Taken) (lists : List (List ℕ)) → takes (λ (p : List ℕ). rows.Size (length p)) t lists ≡ record t { sizes = t.sizes ++ map (λ (p : List ℕ). length p) lists; total = t.total + length (flat_map (λ p. p) lists) }
takes_sizes t [] = ap (λ (xs : List ℕ). record t { sizes = xs }) (sym (append-nil t.sizes)) ∙ ap (λ (n : ℕ). record t { sizes = t.sizes ++ []; total = n }) (let e : t.total ≡ t.total + 0 = omega arith in e)
takes_sizes t (p ∷ ps) =
    takes_sizes (with_row t (rows.Size (length p))) ps
    ∙ ap (λ (xs : List ℕ). record t { sizes = xs; total = t.total + length p + length (flat_map (λ p. p) ps) }) (append_assoc t.sizes (length p ∷ []) (map (λ (p : List ℕ). length p) ps))
    ∙ ap (λ (n : ℕ). record t { sizes = t.sizes ++ length p ∷ map (λ (p : List ℕ). length p) ps; total = n }) (let n = length-append p (flat_map (λ p. p) ps) in let e : t.total + length p + length (flat_map (λ p. p) ps) ≡ t.total + length (p ++ flat_map (λ p. p) ps) = omega (arith, n) in e)
