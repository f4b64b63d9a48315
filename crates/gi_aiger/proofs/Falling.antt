-- Binary gates stand above their operands, so they have no cycles.
use Rattle.std.proofs.Common.{◌≡◌, ℕ, zero, suc, ◌+◌, ◌*◌, ◌/◌, ◌<◌, ◌≤◌, List, [], ◌∷◌, ◌++◌, length, Bool, true, false, Option, Some, None, Result, Ok, Err, refl, ap, sym, ◌∙◌, subst, arith}
use Rattle.std.specs.List.{AllByRecursion}
use Rattle.gi_aiger.specs.declared.aig.AndGate.{AndGate}
use Rattle.gi_aiger.specs.declared.fault.AigCode.{AigCode}
use Rattle.gi_aiger.specs.declared.fault.AigCode.TheVariants.{End}
use Rattle.gi_aiger.specs.declared.head.Form.{Form}
use Rattle.gi_aiger.specs.declared.head.Form.TheVariants.{Binary}
use Rattle.gi_aiger.specs.declared.head.Head.{Head}
use Rattle.gi_aiger.specs.declared.row.Section.{Section}
use Rattle.gi_aiger.specs.declared.row.Section.TheVariants as sections
use Rattle.gi_aiger.specs.declared.row.Row.{Row}
use Rattle.gi_aiger.specs.declared.row.Row.TheVariants as rows
use Rattle.gi_aiger.specs.declared.taken.Taken.{Taken}
use Rattle.gi_aiger.specs.Levels.{gate_at, HasLevels}
use Rattle.gi_aiger.specs.Lines.{lines_of, bare, joined}
use Rattle.gi_aiger.specs.Rows.{section_of}
use Rattle.gi_aiger.specs.Taking.{with_row, add_line}
use Rattle.gi_aiger.specs.Sections.{left_in, sections_of}
use Rattle.gi_aiger.specs.Groups.{groups_at, difference_of, greater_at, lesser_at}
use Rattle.gi_aiger.specs.Files.{Told, gate_stopped, own_gate, with_gate, then_groups, then_edge, read_gates, after_sections, then_line, read_section, read_sections, begin}
use Rattle.gi_aiger.proofs.Adding.{is_gate, line_same}
use Rattle.gi_aiger.proofs.Cutting.{symbols_gates}
use Rattle.gi_aiger.proofs.Pairing.{greater_back, lesser_back}

abbrev Falls : AndGate → Type 0
Falls g = (g.rhs0 / 2 < g.lhs / 2) × (g.rhs1 / 2 < g.lhs / 2)

abbrev AllFall : List AndGate → Type 0
AllFall gs = AllByRecursion Falls gs

all_more : (gs : List AndGate) (g : AndGate) → AllFall gs → Falls g → AllFall (gs ++ g ∷ [])
all_more [] g all f = (f, tt)
all_more (x ∷ gs) g all f = (all.0, all_more gs g all.1 f)

fall_at : (gs : List AndGate) (k : ℕ) → AllFall gs → k < length gs → Falls (gate_at gs k)
fall_at [] k all lt = absurd (omega (arith, lt))
fall_at (g ∷ gs) zero all lt = all.0
fall_at (g ∷ gs) (suc k) all lt = fall_at gs k all.1 (omega (arith, lt))

falling_levels : (gs : List AndGate) → AllFall gs → HasLevels gs
falling_levels gs all = record { level = λ v. v; left = λ k lt. (fall_at gs k all lt).0; right = λ k lt. (fall_at gs k all lt).1 }

gate_falls : (own n e l : ℕ) → own ≡ 2 * n → e < own → l ≤ e → (e / 2 < own / 2) × (l / 2 < own / 2)
gate_falls own n e l is lt le = (omega (arith, is, lt), omega (arith, is, lt, le))

-- binary gates, and the symbols behind them
abbrev Fall : Told → Type 0
Fall told = AllFall told.gates

gates_fall : (h : Head) (k n : ℕ) (t : Taken) (bytes : List ℕ) → AllFall t.gates → Fall (read_gates h k n t bytes)
unfolding read_gates
gates_fall h k zero t bytes all = subst AllFall (sym (symbols_gates h k t [] (lines_of bytes))) all
gates_fall h k (suc n) t bytes all = by_first (groups_at bytes) (λ u more all. gates_fall h k n u more all) where
  by_lesser : (r : Result ℕ AigCode) (e : ℕ) (more : List ℕ) (o : Option ℕ) → lesser_at e o ≡ r → e < own_gate h t → ((u : Taken) (more : List ℕ) → AllFall u.gates → Fall (read_gates h k n u more)) → Fall (then_edge r (gate_stopped t k) (λ l. read_gates h k n (with_gate t (own_gate h t) e l) more))
  by_lesser (Ok l) e more o is lt ih =
      ih (with_gate t (own_gate h t) e l) more (all_more t.gates (record { lhs = own_gate h t; rhs0 = e; rhs1 = l }) all (gate_falls (own_gate h t) (h.inputs + h.latches + length t.gates + 1) e l refl lt (lesser_back e o l is).1))
  by_lesser (Err c) e more o is lt ih = all

  by_second : (o : Option (List ℕ × List ℕ)) (e : ℕ) → e < own_gate h t → ((u : Taken) (more : List ℕ) → AllFall u.gates → Fall (read_gates h k n u more)) → Fall (then_groups o (gate_stopped t k End) (λ second more. then_edge (lesser_at e (difference_of second)) (gate_stopped t k) (λ l. read_gates h k n (with_gate t (own_gate h t) e l) more)))
  by_second None e lt ih = all
  by_second (Some p) e lt ih = by_lesser (lesser_at e (difference_of p.0)) e p.1 (difference_of p.0) refl lt ih

  by_greater : (r : Result ℕ AigCode) (rest : List ℕ) (o : Option ℕ) → greater_at (own_gate h t) o ≡ r → ((u : Taken) (more : List ℕ) → AllFall u.gates → Fall (read_gates h k n u more)) → Fall (then_edge r (gate_stopped t k) (λ e. then_groups (groups_at rest) (gate_stopped t k End) (λ second more. then_edge (lesser_at e (difference_of second)) (gate_stopped t k) (λ l. read_gates h k n (with_gate t (own_gate h t) e l) more))))
  by_greater (Ok e) rest o is ih = by_second (groups_at rest) e (greater_back (own_gate h t) o e is).1 ih
  by_greater (Err c) rest o is ih = all

  by_first : (o : Option (List ℕ × List ℕ)) → ((u : Taken) (more : List ℕ) → AllFall u.gates → Fall (read_gates h k n u more))
      → Fall (then_groups o (gate_stopped t k End) (λ first rest. then_edge (greater_at (own_gate h t) (difference_of first)) (gate_stopped t k) (λ e. then_groups (groups_at rest) (gate_stopped t k End) (λ second more. then_edge (lesser_at e (difference_of second)) (gate_stopped t k) (λ l. read_gates h k n (with_gate t (own_gate h t) e l) more)))))
  by_first None ih = all
  by_first (Some p) ih = by_greater (greater_at (own_gate h t) (difference_of p.0)) p.1 (difference_of p.0) refl ih

section_fall : (h : Head) (s : Section) (next : ℕ → Taken → List (List ℕ) → Told) → is_gate s ≡ false → ((k : ℕ) (u : Taken) (ls : List (List ℕ)) → AllFall u.gates → Fall (next k u ls)) → (n k : ℕ) (t : Taken) (ls : List (List ℕ)) → AllFall t.gates → Fall (read_section h s n k t ls next)
unfolding read_section
section_fall h s next plain nx zero k t ls all = nx k t ls all
section_fall h s next plain nx (suc n) k t [] all = all
section_fall h s next plain nx (suc n) k t (l ∷ ls) all = by_result (add_line h t s (bare l)) refl (λ u all. section_fall h s next plain nx n (k + 1) u ls all) where
  by_result : (r : Result Taken AigCode) → add_line h t s (bare l) ≡ r → ((u : Taken) → AllFall u.gates → Fall (read_section h s n (k + 1) u ls next)) → Fall (then_line r t k (λ u. read_section h s n (k + 1) u ls next))
  by_result (Ok u) e ih = ih u (subst AllFall (sym (line_same h t u s (bare l) plain e)) all)
  by_result (Err c) e ih = all

-- none of these sections has gates
abbrev pub NoGates : List Section → Type 0
NoGates ss = AllByRecursion (λ s. is_gate s ≡ false) ss

sections_fall : (h : Head) (ss : List Section) (k : ℕ) (t : Taken) (ls : List (List ℕ)) → h.form ≡ Binary → NoGates ss → AllFall t.gates → Fall (read_sections h ss k t ls)
unfolding read_sections
sections_fall h [] k t ls form plain all = subst (λ (f : Form). Fall (after_sections f h k t ls)) (sym form) (gates_fall h k (left_in h t sections.Gate) t (joined ls) all)
sections_fall h (s ∷ ss) k t ls form plain all = section_fall h s (λ k u more. read_sections h ss k u more) plain.0 (λ k u more all. sections_fall h ss k u more form plain.1 all) (left_in h t s) k t ls all

binary_sections : NoGates (sections_of Binary)
unfolding is_gate
binary_sections = (refl, (refl, (refl, (refl, (refl, (refl, (refl, (refl, tt))))))))

-- the binary form has no cycles
pub binary_levels : (h : Head) (ls : List (List ℕ)) → h.form ≡ Binary → HasLevels (read_sections h (sections_of Binary) 2 (begin h) ls).gates
binary_levels h ls form = falling_levels (read_sections h (sections_of Binary) 2 (begin h) ls).gates (sections_fall h (sections_of Binary) 2 (begin h) ls form binary_sections tt)
