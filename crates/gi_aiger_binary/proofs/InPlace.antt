-- Gates whose levels don't fall are in order as they stand.
use Rattle.std.proofs.Common.{◌≡◌, ℕ, ◌<◌, ◌≤◌, List, length, map, ap, ◌∙◌, arith}
use Rattle.std.specs.List.{range_with_len}
use Rattle.std.proofs.lemmas.List.{length-map}
use Rattle.gi_levels.specs.Order as orders
use Rattle.gi_levels.proofs.Standing.{order_stands}
use Rattle.gi_aiger.specs.declared.aig.AndGate.{AndGate}
use Rattle.gi_aiger.specs.Levels.{gate_at, HasLevels, IsDistinct}
use Rattle.gi_aiger.specs.Places.{nodes_of, node_by, place_of, variable_level}
use Rattle.gi_aiger.proofs.Resolving.{own_place, whole_to_nodes}
use Rattle.gi_aiger_binary.specs.Renumbering.{in_order}
use Rattle.gi_aiger_binary.proofs.InOrder.{var_at}
use Rattle.gi_aiger_binary.proofs.Placing.{all_again}

pub in_place : (gates : List AndGate) → IsDistinct gates → HasLevels gates → ((i j : ℕ) → i ≤ j → j < length gates → variable_level gates (var_at gates i) ≤ variable_level gates (var_at gates j)) → in_order gates ≡ gates
in_place gates d h rises =
    let n : length (nodes_of gates) ≡ length gates = length-map gates (node_by (place_of gates)) in
    let up : (i j : ℕ) → i ≤ j → j < length (nodes_of gates) → orders.level_of (nodes_of gates) i ≤ orders.level_of (nodes_of gates) j = λ i j le lt.
    (let p = ap (orders.level_of (nodes_of gates)) (own_place gates d i (omega (arith, n, le, lt))) in
    let q = ap (orders.level_of (nodes_of gates)) (own_place gates d j (omega (arith, n, lt))) in
    let r = rises i j le (omega (arith, n, lt)) in
    omega (arith, p, q, r)) in
    ap (map (gate_at gates)) (order_stands (nodes_of gates) (whole_to_nodes gates h) up ∙ ap (range_with_len 0) n)
    ∙ all_again gates
