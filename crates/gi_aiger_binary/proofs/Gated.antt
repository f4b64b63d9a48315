-- The gates of a numbered value are read as they are written.
use Rattle.std.proofs.Common.{◌≡◌, ℕ, suc, ◌+◌, ◌*◌, ◌-◌, ◌<◌, ◌≤◌, List, [], ◌∷◌, ◌++◌, length, map, Option, Result, Ok, refl, ap, sym, ◌∙◌, append_assoc, length-append, arith}
use Rattle.std.specs.List.{flat_map, AllByRecursion}
use Rattle.std.proofs.lemmas.Bool.{ne_eqb, le-ltb}
use Rattle.std.proofs.lemmas.List.{append-nil}
use Rattle.gi_aiger.specs.declared.aig.AndGate.{AndGate}
use Rattle.gi_aiger.specs.declared.fault.AigCode.{AigCode}
use Rattle.gi_aiger.specs.declared.fault.AigCode.TheVariants.{End}
use Rattle.gi_aiger.specs.declared.head.Head.{Head}
use Rattle.gi_aiger.specs.declared.row.Row.TheVariants as rows
use Rattle.gi_aiger.specs.declared.taken.Taken.{Taken}
use Rattle.gi_aiger.specs.Groups.{groups_at, difference_of, greater_at, lesser_at}
use Rattle.gi_aiger.specs.Taking.{with_row}
use Rattle.gi_aiger.specs.Files.{Told, gate_stopped, own_gate, with_gate, then_groups, then_edge, read_gates}
use Rattle.gi_aiger_binary.specs.Differences.{groups_of}
use Rattle.gi_aiger_binary.specs.Texts.{gate_text}
use Rattle.gi_aiger_binary.specs.Numbered.{evens_from, IsFalling}
use Rattle.gi_aiger_binary.proofs.Spelling.{groups_split, groups_read}

greater_is : (own edge : ℕ) → edge < own → own < 4294967296 → greater_at own (difference_of (groups_of (own - edge))) ≡ Ok edge
greater_is own edge lt small =
    ap (greater_at own) (groups_read (own - edge) (omega arith))
    ∙ rw (ne_eqb (own - edge) 0 (λ e. omega arith), le-ltb own (own - edge) (omega arith)) (ap Ok (let e : own - (own - edge) ≡ edge = omega arith in e))

lesser_is : (greater edge : ℕ) → edge ≤ greater → greater < 4294967296 → lesser_at greater (difference_of (groups_of (greater - edge))) ≡ Ok edge
lesser_is greater edge le small =
    ap (lesser_at greater) (groups_read (greater - edge) (omega arith))
    ∙ rw (le-ltb greater (greater - edge) (omega arith)) (ap Ok (let e : greater - (greater - edge) ≡ edge = omega arith in e))

module _ (h : Head) (k : ℕ) where
  -- behind a gate's second difference, and behind its first
  abbrev behind_second : ℕ → Taken → ℕ → ℕ → List ℕ → List ℕ → Told
  behind_second n t own greater second more = then_edge (lesser_at greater (difference_of second)) (gate_stopped t k) (λ lesser. read_gates h k n (with_gate t own greater lesser) more)

  abbrev behind_first : ℕ → Taken → ℕ → List ℕ → List ℕ → Told
  behind_first n t own first rest = then_edge (greater_at own (difference_of first)) (gate_stopped t k) (λ greater. then_groups (groups_at rest) (gate_stopped t k End) (behind_second n t own greater))

  gate_begins : (n : ℕ) (t : Taken) (bytes : List ℕ) → read_gates h k (suc n) t bytes ≡ then_groups (groups_at bytes) (gate_stopped t k End) (behind_first n t (own_gate h t))
  unfolding read_gates
  gate_begins n t bytes = refl

  gate_read : (n : ℕ) (t : Taken) (g : AndGate) (rest : List ℕ) → g.lhs ≡ own_gate h t → IsFalling g → g.lhs < 4294967296 → read_gates h k (suc n) t (gate_text g ++ rest) ≡ read_gates h k n (with_row t (rows.Gate g)) rest
  gate_read n t g rest own falls small =
      gate_begins n t (gate_text g ++ rest)
      ∙ ap (λ (o : ℕ). then_groups (groups_at (gate_text g ++ rest)) (gate_stopped t k End) (behind_first n t o)) (sym own)
      ∙ ap (λ (xs : List ℕ). then_groups (groups_at xs) (gate_stopped t k End) (behind_first n t g.lhs)) (append_assoc (groups_of (g.lhs - g.rhs0)) (groups_of (g.rhs0 - g.rhs1)) rest)
      ∙ ap (λ (o : Option (List ℕ × List ℕ)). then_groups o (gate_stopped t k End) (behind_first n t g.lhs)) (groups_split (g.lhs - g.rhs0) (groups_of (g.rhs0 - g.rhs1) ++ rest))
      ∙ ap (λ (r : Result ℕ AigCode). then_edge r (gate_stopped t k) (λ greater. then_groups (groups_at (groups_of (g.rhs0 - g.rhs1) ++ rest)) (gate_stopped t k End) (behind_second n t g.lhs greater))) (greater_is g.lhs g.rhs0 falls.0 small)
      ∙ ap (λ (o : Option (List ℕ × List ℕ)). then_groups o (gate_stopped t k End) (behind_second n t g.lhs g.rhs0)) (groups_split (g.rhs0 - g.rhs1) rest)
      ∙ ap (λ (r : Result ℕ AigCode). then_edge r (gate_stopped t k) (λ lesser. read_gates h k n (with_gate t g.lhs g.rhs0 lesser) rest)) (lesser_is g.rhs0 g.rhs1 falls.1 (let x = falls.0 in omega arith))

  pub gates_read : (gs : List AndGate) (t : Taken) (rest : List ℕ) → map (λ (g : AndGate). g.lhs) gs ≡ evens_from (h.inputs + h.latches + length t.gates + 1) (length gs) → AllByRecursion IsFalling gs → h.inputs + h.latches + length t.gates + length gs < 2147483647 → read_gates h k (length gs) t (flat_map gate_text gs ++ rest) ≡ read_gates h k 0 (record t { gates = t.gates ++ gs }) rest
  gates_read [] t rest e falls small = ap (λ (xs : List AndGate). read_gates h k 0 (record t { gates = xs }) rest) (sym (append-nil t.gates))
  gates_read (g ∷ gs) t rest e falls small =
      let own : g.lhs ≡ 2 * (h.inputs + h.latches + length t.gates + 1) = cc in
      let more : map (λ (g : AndGate). g.lhs) gs ≡ evens_from (suc (h.inputs + h.latches + length t.gates + 1)) (length gs) = cc in
      let n = length-append t.gates (g ∷ []) in
      let m : suc (h.inputs + h.latches + length t.gates + 1) ≡ h.inputs + h.latches + length (t.gates ++ g ∷ []) + 1 = omega (arith, n) in
      ap (read_gates h k (suc (length gs)) t) (append_assoc (gate_text g) (flat_map gate_text gs) rest)
      ∙ gate_read (length gs) t g (flat_map gate_text gs ++ rest) own falls.0 (omega (arith, own, small))
      ∙ gates_read gs (with_row t (rows.Gate g)) rest (more ∙ ap (λ (i : ℕ). evens_from i (length gs)) m) falls.1 (omega (arith, n, small))
      ∙ ap (λ (xs : List AndGate). read_gates h k 0 (record t { gates = xs }) rest) (append_assoc t.gates (g ∷ []) gs)
