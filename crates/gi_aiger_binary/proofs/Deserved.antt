-- Good values can be written, and are sound.
use Rattle.std.proofs.Common.{◌≡◌, ◌≢◌, ℕ, ◌+◌, ◌/◌, ◌<◌, List, [], ◌∷◌, ◌++◌, length, map, get_or, inl, inr, ap, sym, ◌∙◌, subst, arith, length-append}
use Rattle.std.specs.List.{All, AllPairs}
use Rattle.std.proofs.lemmas.Bool.{cases_lt}
use Rattle.std.proofs.lemmas.List.{length-map, map-append, get_or-map, get_or_append_left, get_or-append-add, get_or_default}
use Rattle.std.proofs.lemmas.List.Elements.{All-tail}
use Rattle.std.proofs.lemmas.List.Kept.{AllPairs-cons}
use Rattle.gi_aiger.specs.declared.aig.Aig.{Aig}
use Rattle.gi_aiger.specs.declared.aig.AndGate.{AndGate}
use Rattle.gi_aiger.specs.declared.aig.Latch.{Latch}
use Rattle.gi_aiger.specs.declared.aig.Symbol.{Symbol}
use Rattle.gi_aiger.specs.declared.head.Form.TheVariants.{Ascii}
use Rattle.gi_aiger.specs.Good as good
use Rattle.gi_aiger.specs.Levels.{IsDistinct}
use Rattle.gi_aiger.specs.Relation as said
use Rattle.gi_aiger.specs.Rows.{defined_variables}
use Rattle.gi_aiger.proofs.Limiting.{are_within}
use Rattle.gi_aiger.proofs.Sounding.{variables_are, defining_all}
use Rattle.gi_aiger_binary.specs.Numbered.{AreSymbols, head_of_aig, IsInLimits}
use Rattle.gi_aiger_binary.specs.Renumbering.{variables_of}
use Rattle.gi_aiger_binary.specs.Sound.{IsReadable, IsWritable}
use Rattle.gi_aiger_binary.proofs.InOrder.{var_at}
use Rattle.gi_aiger_binary.proofs.Numberings.{map-map}

all_left : {X : Type 0} (P : X → Type 0) (xs ys : List X) → All P (xs ++ ys) → All P xs
all_left P xs ys h k d lt = subst P (get_or_append_left xs ys d k lt) (h k d (omega (arith, lt, length-append xs ys)))

all_right : {X : Type 0} (P : X → Type 0) (xs ys : List X) → All P (xs ++ ys) → All P ys
all_right P xs ys h k d lt = subst P (get_or-append-add xs ys k d) (h (length xs + k) d (omega (arith, lt, length-append xs ys)))

once_pairs : (xs : List ℕ) → said.AreOnce xs → AllPairs (λ a b. a ≢ b) xs
once_pairs [] once = λ i j d lt jl e. omega arith
once_pairs (x ∷ xs) once = AllPairs-cons (λ a b. a ≢ b) x xs (λ k d lt e. once.0 (k, lt, get_or_default xs k x d lt ∙ sym e)) (once_pairs xs once.1)

symbols_are : (v : Aig) (ss before : List Symbol) → All (good.IsTitle (said.head_of_aig Ascii v)) ss → good.AreNew before ss → AreSymbols (head_of_aig v) before ss
symbols_are v [] before titles new = tt
symbols_are v (s ∷ ss) before titles new =
    let t : good.IsTitle (said.head_of_aig Ascii v) s = titles 0 s (omega arith) in
    (record { place = t.place; name = t.name; plain = t.plain }, new.0, symbols_are v ss (before ++ s ∷ []) (All-tail (good.IsTitle (said.head_of_aig Ascii v)) s ss titles) new.1)

module _ (v : Aig) (g : good.IsGood v) where
  abbrev s : said.IsSound v
  s = g.sound

  abbrev lits : List ℕ
  lits = map (λ (l : Latch). l.lit) v.latches

  abbrev lhss : List ℕ
  lhss = map (λ (x : AndGate). x.lhs) v.gates

  gates_defining : (k : ℕ) (d : AndGate) → k < length v.gates → said.IsDefining v.max (get_or v.gates k d).lhs
  gates_defining k d lt = subst (said.IsDefining v.max) (get_or-map (λ (x : AndGate). x.lhs) v.gates k d d.lhs lt) (all_right (said.IsDefining v.max) (v.inputs ++ lits) lhss s.defining k d.lhs (omega (arith, lt, length-map v.gates (λ (x : AndGate). x.lhs))))

  latches_defining : (k : ℕ) (d : Latch) → k < length v.latches → said.IsDefining v.max (get_or v.latches k d).lit
  latches_defining k d lt = subst (said.IsDefining v.max) (get_or-map (λ (l : Latch). l.lit) v.latches k d d.lit lt) (all_right (said.IsDefining v.max) v.inputs lits (all_left (said.IsDefining v.max) (v.inputs ++ lits) lhss s.defining) k d.lit (omega (arith, lt, length-map v.latches (λ (l : Latch). l.lit))))

  inputs_defining : All (said.IsDefining v.max) v.inputs
  inputs_defining = all_left (said.IsDefining v.max) v.inputs lits (all_left (said.IsDefining v.max) (v.inputs ++ lits) lhss s.defining)

  halves : map (λ l. l / 2) ((v.inputs ++ lits) ++ lhss) ≡ variables_of v v.gates
  halves =
      map-append (λ l. l / 2) (v.inputs ++ lits) lhss
      ∙ ap (λ (xs : List ℕ). xs ++ map (λ l. l / 2) lhss) (map-append (λ l. l / 2) v.inputs lits)
      ∙ ap (λ (xs : List ℕ). (map (λ l. l / 2) v.inputs ++ xs) ++ map (λ l. l / 2) lhss) (map-map (λ l. l / 2) (λ (l : Latch). l.lit) v.latches)
      ∙ ap (λ (xs : List ℕ). (map (λ l. l / 2) v.inputs ++ map (λ (l : Latch). l.lit / 2) v.latches) ++ xs) (map-map (λ l. l / 2) (λ (x : AndGate). x.lhs) v.gates)

  variables_same : defined_variables (said.rows_of v) ≡ variables_of v v.gates
  variables_same = variables_are (said.rows_of v) ∙ ap (map (λ l. l / 2)) (defining_all v) ∙ halves

  once : AllPairs (λ a b. a ≢ b) (variables_of v v.gates)
  once = once_pairs (variables_of v v.gates) (subst said.AreOnce variables_same s.once)

  abbrev front : List ℕ
  front = map (λ l. l / 2) v.inputs ++ map (λ (l : Latch). l.lit / 2) v.latches

  gate_place : (k : ℕ) → k < length v.gates → get_or (variables_of v v.gates) (length front + k) 0 ≡ var_at v.gates k
  gate_place k lt = get_or-append-add front (map (λ (x : AndGate). x.lhs / 2) v.gates) k 0 ∙ get_or-map (λ (x : AndGate). x.lhs / 2) v.gates k (record { lhs = 0; rhs0 = 0; rhs1 = 0 }) 0 lt

  inside : (k : ℕ) → k < length v.gates → length front + k < length (variables_of v v.gates)
  inside k lt = omega (arith, lt, length-append front (map (λ (x : AndGate). x.lhs / 2) v.gates), length-map v.gates (λ (x : AndGate). x.lhs / 2))

  gates_apart : IsDistinct v.gates
  gates_apart = record {
    apart = λ j k jl kl e. elim (cases_lt j k) [
      | inl lt ↦ absurd (once (length front + j) (length front + k) 0 (omega arith) (inside k kl) (gate_place j jl ∙ e ∙ sym (gate_place k kl)))
      | inr ge ↦ elim (cases_lt k j) [
        | inl lt ↦ absurd (once (length front + k) (length front + j) 0 (omega arith) (inside j jl) (gate_place k kl ∙ sym e ∙ sym (gate_place j jl)))
        | inr le ↦ omega arith
      ]
    ];
  }

  writable : IsWritable v
  writable =
      let w = are_within (said.head_of_aig Ascii v) g.within in
      let most = w.max in
      let fits = g.fits in
      record {
        room = omega (arith, fits, most);
        apart = gates_apart;
        levels = s.levels;
      }

  limits : IsInLimits v
  limits =
      let w = are_within (said.head_of_aig Ascii v) g.within in
      let most = w.max in
      let fits = g.fits in
      record {
        variables = omega (arith, fits, most);
        outs = w.outs;
        bads = w.bads;
        cons = w.cons;
        justice = w.justice;
        sizes = s.sizes;
        fair = w.fair;
        symbols = symbols_are v v.symbols [] g.titles g.apart;
      }

  sound : IsReadable v
  sound = record {
    inputs = λ k d lt. (let i = inputs_defining k d lt in (i.0, i.1));
    latches = λ k d lt. (let i = latches_defining k d lt in (i.0, i.1));
    gates = λ k d lt. (let i = gates_defining k d lt in (i.0, i.1));
    once = once;
    limits = limits;
  }

  pub good_writable : IsWritable v × IsReadable v
  good_writable = (writable, sound)
