-- Every choice has exactly one extension.
use Rattle.std.proofs.Common.{◌≡◌, ℕ, ◌+◌, ◌*◌, ◌/◌, ◌<◌, ◌≤◌, Bool, false, List, [], ◌∷◌, ◌++◌, length, get_or, take, drop, sym, ap, ◌∙◌, arith, length-append}
use Rattle.std.proofs.lemmas.List.{length-take-le, take_more, take-append-drop}
use Rattle.gi_lit.specs.Truth.{true_in}
use Rattle.gi_circuit.specs.Nodes.{node_values}
use Rattle.gi_circuit.specs.Systems.{System}
use Rattle.gi_circuit.specs.Frames.{Frames}
use Rattle.gi_circuit.specs.Encoding.{Chooses, Follows, IsUnrolled}
use Rattle.gi_circuit.specs.declared.node.Node.{Node}
use Rattle.gi_circuit.specs.declared.node.Node.TheVariants.{Input, Latch}
use Rattle.gi_circuit.proofs.Gates.{new_value}
use Rattle.gi_circuit.proofs.Meaning.{front_value}
use Rattle.gi_unroll.specs.Laws.{HasOneExtension}

-- a choice has the value that was chosen
input_value : (chosen : List Bool) (net : List Node) (k j : ℕ) → k < length net → get_or net k (Latch 0) ≡ Input j → get_or (node_values chosen [] net) (k + 1) false ≡ get_or chosen j false
input_value chosen net k j lt at =
    let len : length (take k net) ≡ k = length-take-le k net (omega arith) in
    let more : take (k + 1) net ≡ take k net ++ Input j ∷ [] = take_more net k (Latch 0) lt ∙ ap (λ z. take k net ++ z ∷ []) at in
    let split : net ≡ (take k net ++ Input j ∷ []) ++ drop (k + 1) net = sym (take-append-drop (k + 1) net) ∙ ap (λ z. z ++ drop (k + 1) net) more in
    ap (λ z. get_or (node_values chosen [] z) (k + 1) false) split
    ∙ front_value chosen [] (take k net ++ Input j ∷ []) (drop (k + 1) net) (k + 1) (omega (arith, length-append (take k net) (Input j ∷ []), len))
    ∙ new_value chosen [] (take k net) (Input j) (k + 1) (ap (λ z. z + 1) (sym len))

-- where each node has its value the choices are made
follows_chooses : (net : List Node) (lits : List ℕ) (chosen values : List Bool) → Follows net lits chosen values → Chooses net lits chosen values
follows_chooses net lits chosen values f k j lt at = f (k + 1) (omega arith) ∙ input_value chosen net k j lt at

-- of two values of a literal those of its variable follow
variable_agrees : (values others : List Bool) (l v : ℕ) → l / 2 ≡ v → true_in values l ≡ true_in others l → true_in values (2 * v) ≡ true_in others (2 * v)
unfolding true_in
variable_agrees values others l v at e = grind arith

pub one_extension : (s : System) (clauses : List (List ℕ)) (top : ℕ) (f : Frames) → IsUnrolled s clauses top f → 0 < f.made → HasOneExtension clauses f
one_extension s clauses top f u made =
    let o = u.sound made in
    record {
      exists = λ chosen others. let e = o.encodes.exists chosen others in (e.0, e.1, follows_chooses f.net f.lits chosen e.0 e.2, e.3);
      one = λ chosen values others sat sat' c c' v h.
          let lt = h.1 in
          let k : h.0 ≤ length f.net = omega (arith, lt, o.count) in
          variable_agrees values others (get_or f.lits h.0 0) v h.2 (o.encodes.determined chosen values sat c h.0 k ∙ sym (o.encodes.determined chosen others sat' c' h.0 k));
    }
