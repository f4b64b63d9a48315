-- What it means that frames encode a circuit.
use Rattle.std.specs.Prelude.{◌≡◌, ◌≢◌, ℕ, zero, suc, ◌+◌, ◌*◌, ◌/◌, ◌<◌, ◌≤◌, Bool, false, List, [], ◌∷◌, ◌++◌, length, drop, slice_index, slice_index_or, All}
use Rattle.gi_aiger.specs.declared.aig.Reset.{Reset}
use Rattle.gi_aiger.specs.declared.aig.Reset.TheVariants.{Zero, One, Free}
use Rattle.gi_lit.specs.Truth.{true_in, Satisfies}
use Rattle.gi_circuit.specs.Values.{value_in}
use Rattle.gi_circuit.specs.Nodes.{node_values, IsOrdered}
use Rattle.gi_circuit.specs.Systems.{System, latch_values, value}
use Rattle.gi_circuit.specs.Frames.{Draft, Frames}
use Rattle.gi_circuit.specs.declared.node.Node.{Node}
use Rattle.gi_circuit.specs.declared.node.Node.TheVariants.{Input, Latch}

-- the values make the choices: each input of the shared circuit has its literal's value
abbrev pub Chooses : List Node → List ℕ → List Bool → List Bool → Type 0
Chooses net lits chosen values = (k j : ℕ) → k < length net → slice_index_or net k (Latch 0) ≡ Input j → true_in values (slice_index lits (k + 1)) ≡ slice_index_or chosen j false

-- each node's literal has the value of the node
abbrev pub Follows : List Node → List ℕ → List Bool → List Bool → Type 0
Follows net lits chosen values = (k : ℕ) → k ≤ length net → true_in values (slice_index lits k) ≡ slice_index_or (node_values chosen [] net) k false

-- every choice has exactly one extension to the literals' variables that satisfies the clauses, and there each node has its value
pub record Encodes (clauses : List (List ℕ)) (net : List Node) (lits : List ℕ) : Type 0 where
  -- wherever the clauses hold and the choices are made
  pub determined : (chosen values : List Bool) → Satisfies values clauses → Chooses net lits chosen values → Follows net lits chosen values
  -- for all choices, and whatever the other variables are
  pub exists : (chosen others : List Bool) → (values : List Bool) × Satisfies values clauses × Follows net lits chosen values × ((v : ℕ) → 1 ≤ v → All (λ l. l / 2 ≢ v) lits → true_in values (2 * v) ≡ true_in others (2 * v))

-- all clauses, of the frames before and of the draft, encode the shared circuit
pub record IsSoundDraft (earlier : List (List ℕ)) (choices : ℕ) (d : Draft) : Type 0 where
  pub some : 1 ≤ d.next
  pub count : length d.lits ≡ length d.net + 1
  pub clauses_below : All (λ c. All (λ l. (1 ≤ l / 2) × (l / 2 < d.next)) c) (earlier ++ d.clauses)
  pub lits_below : All (λ l. (1 ≤ l / 2) × (l / 2 < d.next)) d.lits
  pub ordered : IsOrdered (record { inputs = choices; latches = 0; nodes = d.net })
  pub encodes : Encodes (earlier ++ d.clauses) d.net d.lits
  pub edges : All (λ e. e / 2 ≤ length d.net) d.edges

-- edges of the shared circuit that have the values that a function of the choices tells
pub record HaveValues (net : List Node) (edges : List ℕ) (n : ℕ) (told : List Bool → List Bool) : Type 0 where
  pub within : (j : ℕ) → j < n → slice_index edges j / 2 ≤ length net
  pub values : (chosen : List Bool) (j : ℕ) → j < n → value_in (node_values chosen [] net) (slice_index edges j) ≡ slice_index_or (told chosen) j false

-- how many latches are free at first
abbrev pub free_count : List Reset → ℕ
free_count [] = 0
free_count (Zero ∷ rs) = free_count rs
free_count (One ∷ rs) = free_count rs
free_count (Free ∷ rs) = suc (free_count rs)

-- how many choices the frames before a time made: frame 0 makes its inputs, then the free latches; each later one its inputs
abbrev pub choices_before : System → ℕ → ℕ
choices_before s zero = 0
choices_before s (suc t) = s.parts.inputs + free_count s.resets + t * s.parts.inputs

-- the choices as inputs at a time, and as values of the free latches; what is behind them isn't read
abbrev pub inputs_at : System → List Bool → ℕ → List Bool
inputs_at s chosen t = drop (choices_before s t) chosen

abbrev pub free_at : System → List Bool → List Bool
free_at s chosen = drop s.parts.inputs chosen

-- the frames so far, with all their clauses: they encode the shared circuit, and the edges of the next latch states have the latches' values
pub record IsUnrolled (s : System) (clauses : List (List ℕ)) (top : ℕ) (f : Frames) : Type 0 where
  pub start : f.made ≡ 0 → clauses ≡ []
  pub choices : f.choices ≡ choices_before s f.made
  pub sound : 0 < f.made → IsSoundDraft [] f.choices (record { net = f.net; choices = f.choices; lits = f.lits; next = top + 1; clauses = clauses; edges = [] })
  pub count : 0 < f.made → length f.latches ≡ length s.nexts
  pub latches : 0 < f.made → HaveValues f.net f.latches (length s.nexts) (λ chosen. latch_values s (inputs_at s chosen) (free_at s chosen) f.made)

-- whatever was chosen, wherever the clauses hold each literal of a list has the value of its edge at a time
abbrev pub TellValues : System → List (List ℕ) → Frames → ℕ → List ℕ → List ℕ → Type 0
TellValues s clauses f t lits edges = (chosen values : List Bool) → Satisfies values clauses → Chooses f.net f.lits chosen values
    → (j : ℕ) → j < length edges → true_in values (slice_index lits j) ≡ value s t (slice_index edges j) (inputs_at s chosen) (free_at s chosen)
