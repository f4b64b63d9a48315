-- Each choice has one node, so of all values a choice can be read.
use Rattle.std.proofs.Common.{◌≡◌, ℕ, zero, suc, ◌+◌, ◌-◌, ◌<◌, ◌≤◌, Bool, true, false, cond, List, [], ◌∷◌, ◌++◌, length, drop, get_or, Option, Some, None, inl, inr, refl, sym, ap, ◌∙◌, subst, arith}
use Rattle.std.specs.Prelude.{◌*◌, ◌==◌}
use Rattle.std.specs.List.{fold, range_with_len}
use Rattle.std.proofs.lemmas.Bool.{cases_eq, eq-eqb, ne_eqb}
use Rattle.std.proofs.lemmas.List.{get_or-drop}
use Rattle.gi_aiger.specs.declared.aig.Reset.{Reset}
use Rattle.gi_aiger.specs.declared.aig.Reset.TheVariants.{Zero, One, Free}
use Rattle.gi_lit.specs.Truth.{true_in}
use Rattle.gi_circuit.specs.Nodes.{Made, gate_from, folded, gate_in, and_in, pair_of}
use Rattle.gi_circuit.specs.Systems.{System}
use Rattle.gi_circuit.specs.Frames.{Draft, Along, Frames, edge_of, lit_of, gate_clauses, with_choice, with_made, with_node, input_along, reset_along, draft_of, latches_of, inputs_along, latches_along, rebuilt_draft}
use Rattle.gi_circuit.specs.declared.node.Node.{Node}
use Rattle.gi_circuit.specs.declared.node.Node.TheVariants.{Input, Latch, Gate}
use Rattle.gi_circuit.proofs.Gates.{and_in-folded, and_in-gate}
use Rattle.gi_unroll.specs.Steps.{choices_in, empty_draft, frames_of, HasChoices}
use Rattle.gi_unroll.specs.Frames.{IsUnrolling}
use Rattle.gi_unroll.specs.Choices.{read_choice, choice_of}
use Rattle.gi_unroll.specs.Laws.{ValuesChoose}

-- one number more
count_from : (a n : ℕ) → range_with_len a (suc n) ≡ range_with_len a n ++ (a + n) ∷ []
count_from a zero = let e : a ≡ a + 0 = omega arith in ap (λ (x : ℕ). x ∷ []) e
count_from a (suc n) =
    let e : a + 1 + n ≡ a + suc n = omega arith in
    ap (λ (xs : List ℕ). a ∷ xs) (count_from (a + 1) n ∙ ap (λ (x : ℕ). range_with_len (a + 1) n ++ x ∷ []) e)

count_next : (n : ℕ) → range_with_len 0 (n + 1) ≡ range_with_len 0 n ++ n ∷ []
count_next n =
    let e : n + 1 ≡ suc n = omega arith in
    let z : 0 + n ≡ n = omega arith in
    ap (range_with_len 0) e ∙ count_from 0 n ∙ ap (λ (x : ℕ). range_with_len 0 n ++ x ∷ []) z

-- a node more
with_input : (ns : List Node) (j : ℕ) → choices_in (ns ++ Input j ∷ []) ≡ choices_in ns ++ j ∷ []
unfolding choices_in
with_input [] j = refl
with_input (Input i ∷ ns) j = ap (λ (xs : List ℕ). i ∷ xs) (with_input ns j)
with_input (Latch i ∷ ns) j = with_input ns j
with_input (Gate a b ∷ ns) j = with_input ns j

with_new_gate : (ns : List Node) (a b : ℕ) → choices_in (ns ++ Gate a b ∷ []) ≡ choices_in ns
unfolding choices_in
with_new_gate [] a b = refl
with_new_gate (Input i ∷ ns) a b = ap (λ (xs : List ℕ). i ∷ xs) (with_new_gate ns a b)
with_new_gate (Latch i ∷ ns) a b = with_new_gate ns a b
with_new_gate (Gate c d ∷ ns) a b = with_new_gate ns a b

-- a conjunction makes no choice
and_choices : (nodes : List Node) (a b : ℕ) → choices_in (and_in nodes a b).nodes ≡ choices_in nodes
and_choices nodes a b = go (folded a b) refl
  where
    gate : (g : Option ℕ) → folded a b ≡ None → gate_from 1 nodes (pair_of a b).low (pair_of a b).high ≡ g → choices_in (and_in nodes a b).nodes ≡ choices_in nodes
    gate (Some k) f g = ap (λ (m : Made). choices_in m.nodes) (and_in-gate nodes a b f ∙ ap (gate_in nodes (pair_of a b).low (pair_of a b).high) g)
    gate None f g = ap (λ (m : Made). choices_in m.nodes) (and_in-gate nodes a b f ∙ ap (gate_in nodes (pair_of a b).low (pair_of a b).high) g) ∙ with_new_gate nodes (pair_of a b).low (pair_of a b).high

    go : (o : Option ℕ) → folded a b ≡ o → choices_in (and_in nodes a b).nodes ≡ choices_in nodes
    go (Some e) f = ap (λ (m : Made). choices_in m.nodes) (and_in-folded nodes a b e f)
    go None f = gate (gate_from 1 nodes (pair_of a b).low (pair_of a b).high) f refl

abbrev Has : Draft → Type 0
Has d = HasChoices d.net d.choices

has_choice : (d : Draft) → Has d → Has (with_choice d)
has_choice d h = with_input d.net d.choices ∙ ap (λ (xs : List ℕ). xs ++ d.choices ∷ []) h ∙ sym (count_next d.choices)

has_either : (t : Bool) (d e : Draft) → Has d → Has e → Has (cond t d e)
has_either true d e h k = h
has_either false d e h k = k

has_made : (d : Draft) (a b : ℕ) (m : Made) → choices_in m.nodes ≡ choices_in d.net → Has d → Has (with_made d a b m)
has_made d a b m same h = has_either (length m.nodes == length d.net) (record d { edges = d.edges ++ m.edge ∷ [] }) (record d {
  net = m.nodes;
  lits = d.lits ++ 2 * d.next ∷ [];
  next = d.next + 1;
  clauses = d.clauses ++ gate_clauses (2 * d.next) (lit_of d.lits (pair_of a b).low) (lit_of d.lits (pair_of a b).high);
  edges = d.edges ++ m.edge ∷ [];
}) h (same ∙ h)

has_nodes : (inputs latches : List ℕ) (ns : List Node) (d : Draft) → Has d → Has (fold (with_node inputs latches) d ns)
has_nodes inputs latches [] d h = h
has_nodes inputs latches (Input j ∷ ns) d h = has_nodes inputs latches ns (with_node inputs latches d (Input j)) h
has_nodes inputs latches (Latch j ∷ ns) d h = has_nodes inputs latches ns (with_node inputs latches d (Latch j)) h
has_nodes inputs latches (Gate a b ∷ ns) d h = has_nodes inputs latches ns (with_node inputs latches d (Gate a b)) (has_made d (edge_of d.edges a) (edge_of d.edges b) (and_in d.net (edge_of d.edges a) (edge_of d.edges b)) (and_choices d.net (edge_of d.edges a) (edge_of d.edges b)) h)

has_inputs : (n : ℕ) (a : Along) → Has a.draft → Has (input_along n a).draft
has_inputs zero a h = h
has_inputs (suc n) a h = has_choice (input_along n a).draft (has_inputs n a h)

has_resets : (rs : List Reset) (a : Along) → Has a.draft → Has (fold reset_along a rs).draft
has_resets [] a h = h
has_resets (Zero ∷ rs) a h = has_resets rs (reset_along a Zero) h
has_resets (One ∷ rs) a h = has_resets rs (reset_along a One) h
has_resets (Free ∷ rs) a h = has_resets rs (reset_along a Free) (has_choice a.draft h)

along_either : (t : Bool) (a b : Along) → Has a.draft → Has b.draft → Has (cond t a b).draft
along_either true a b h k = h
along_either false a b h k = k

has_latches : (s : System) (f : Frames) (a : Along) → Has a.draft → Has (latches_of s f a).draft
has_latches s f a h = along_either (f.made == 0) (fold reset_along a s.resets) (record a { edges = f.latches }) (has_resets s.resets a h) h

abbrev fresh_draft : Frames → ℕ → Draft
fresh_draft f n = record { net = []; choices = f.choices; lits = (2 * n + 1) ∷ []; next = n + 1; clauses = (2 * n ∷ []) ∷ []; edges = 0 ∷ [] }

abbrev later_draft : Frames → ℕ → Draft
later_draft f n = record { net = f.net; choices = f.choices; lits = f.lits; next = n; clauses = []; edges = 0 ∷ [] }

has_begun : (f : Frames) (n : ℕ) → (f.made ≡ 0 → (f.net ≡ []) × (f.lits ≡ [])) → HasChoices f.net f.choices → Has (draft_of f n)
has_begun f n start h = elim (cases_eq f.made 0) [
  | inl e ↦ subst (λ (t : Bool). Has (cond t (fresh_draft f n) (later_draft f n))) (sym (eq-eqb f.made 0 e)) (subst (λ (ns : List Node). HasChoices ns f.choices) (start e).0 h)
  | inr ne ↦ subst (λ (t : Bool). Has (cond t (fresh_draft f n) (later_draft f n))) (sym (ne_eqb f.made 0 ne)) h
]

-- the next frame keeps that
pub rebuilt_choices : (s : System) (f : Frames) (n : ℕ) → (f.made ≡ 0 → (f.net ≡ []) × (f.lits ≡ [])) → HasChoices f.net f.choices → HasChoices (rebuilt_draft s f n).net (rebuilt_draft s f n).choices
rebuilt_choices s f n start h =
    has_nodes (inputs_along s f n).edges (latches_along s f n).edges s.parts.nodes (latches_along s f n).draft
    (has_latches s f (record (inputs_along s f n) { edges = [] }) (has_inputs s.parts.inputs (record { draft = draft_of f n; edges = [] }) (has_begun f n start h)))

-- with no frame yet
no_choices : HasChoices [] 0
unfolding choices_in
no_choices = refl

pub none_kept : (s : System) (d : Draft) (latches : List ℕ) → d ≡ empty_draft → IsUnrolling (record { system = s; frames = frames_of d latches 0; top = 0 })
none_kept s d latches e =
    let net = ap (λ (x : Draft). x.net) e in
    let lits = ap (λ (x : Draft). x.lits) e in
    let count = ap (λ (x : Draft). length x.lits) e in
    record {
      start = λ z. (net, lits);
      lits = omega (arith, count);
      choices = subst (λ (x : Draft). HasChoices x.net x.choices) (sym e) no_choices;
      count = λ lt. absurd (omega (arith, lt));
      latches = λ lt. absurd (omega (arith, lt));
      within = λ lt. absurd (omega (arith, lt));
    }

-- what is read at a node's place
number_of : Node → ℕ
number_of (Input j) = j
number_of (Latch j) = 0
number_of (Gate a b) = 0

same_input : (i j : ℕ) → Input i ≡ Input j → i ≡ j
unfolding number_of
same_input i j e = ap number_of e

reads_at : (values : List Bool) (ns : List Node) (ls : List ℕ) (a n : ℕ) → choices_in ns ≡ range_with_len a n → (k j : ℕ) → k < length ns → get_or ns k (Latch 0) ≡ Input j
    → (a ≤ j) × (get_or (read_choice values ns ls) (j - a) false ≡ true_in values (get_or ls k 0))
unfolding choices_in read_choice
reads_at values [] ls a n e k j lt is = absurd (omega (arith, lt))
reads_at values (Input i ∷ ns) ls a zero e k j lt is = let l = ap length e in absurd (omega (arith, l))
reads_at values (Input i ∷ ns) ls a (suc n) e zero j lt is =
    let first : i ≡ a = ap (λ (xs : List ℕ). get_or xs 0 0) e in
    let same : i ≡ j = same_input i j is in
    let here : j - a ≡ 0 = omega (arith, first, same) in
    (omega (arith, first, same), ap (λ (q : ℕ). get_or (true_in values (get_or ls 0 0) ∷ read_choice values ns (drop 1 ls)) q false) here)
reads_at values (Input i ∷ ns) ls a (suc n) e (suc k) j lt is =
    let r = reads_at values ns (drop 1 ls) (a + 1) n (ap (λ (xs : List ℕ). drop 1 xs) e) k j (omega (arith, lt)) is in
    let le = r.0 in
    let there : j - a ≡ suc (j - (a + 1)) = omega (arith, le) in
    let next : 1 + k ≡ suc k = omega arith in
    (omega (arith, le), ap (λ (q : ℕ). get_or (true_in values (get_or ls 0 0) ∷ read_choice values ns (drop 1 ls)) q false) there ∙ r.1 ∙ ap (true_in values) (get_or-drop 1 ls k 0 ∙ ap (λ (q : ℕ). get_or ls q 0) next))
reads_at values (Latch i ∷ ns) ls a n e zero j lt is = absurd (let f : Latch i ≡ Input j = is in cc)
reads_at values (Latch i ∷ ns) ls a n e (suc k) j lt is =
    let r = reads_at values ns (drop 1 ls) a n e k j (omega (arith, lt)) is in
    let next : 1 + k ≡ suc k = omega arith in
    (r.0, r.1 ∙ ap (true_in values) (get_or-drop 1 ls k 0 ∙ ap (λ (q : ℕ). get_or ls q 0) next))
reads_at values (Gate b c ∷ ns) ls a n e zero j lt is = absurd (let f : Gate b c ≡ Input j = is in cc)
reads_at values (Gate b c ∷ ns) ls a n e (suc k) j lt is =
    let r = reads_at values ns (drop 1 ls) a n e k j (omega (arith, lt)) is in
    let next : 1 + k ≡ suc k = omega arith in
    (r.0, r.1 ∙ ap (true_in values) (get_or-drop 1 ls k 0 ∙ ap (λ (q : ℕ). get_or ls q 0) next))

pub values_choose : ValuesChoose
values_choose u kept values k j lt is =
    let r = reads_at values u.frames.net (drop 1 u.frames.lits) 0 u.frames.choices kept.choices k j lt is in
    let z : j ≡ j - 0 = omega arith in
    let next : k + 1 ≡ 1 + k = omega arith in
    ap (λ (q : ℕ). true_in values (get_or u.frames.lits q 0)) next
    ∙ ap (true_in values) (sym (get_or-drop 1 u.frames.lits k 0))
    ∙ sym r.1
    ∙ ap (λ (q : ℕ). get_or (choice_of values u.frames.net u.frames.lits) q false) (sym z)
