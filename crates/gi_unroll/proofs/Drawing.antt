use Rattle.std.proofs.Common.{◌≡◌, ◌≢◌, ℕ, ◌+◌, ◌*◌, ◌/◌, ◌<◌, ◌≤◌, cond, List, [], ◌∷◌, ◌++◌, length, get_or, refl, sym, ap, ◌∙◌, subst, arith, inl, inr}
use Rattle.std.specs.List.{All, fold, count_by, sum_by}
use Rattle.std.proofs.lemmas.Bool.{cases_eq, eq-eqb, ne_eqb}
use Rattle.std.proofs.lemmas.List.{append-nil}
use Rattle.std.proofs.lemmas.List.Elements.{All-cons, All-from_recursion, All-nil}
use Rattle.gi_circuit.specs.Nodes.{is_gate, IsPlaced, IsOrdered}
use Rattle.gi_circuit.specs.declared.node.Node.TheVariants.{Input}
use Rattle.gi_circuit.specs.Systems.{System, IsCircuit}
use Rattle.gi_circuit.specs.Frames.{Draft, Frames, Along, reset_along, draft_of, latches_of, inputs_along, latches_along, rebuilt_draft}
use Rattle.gi_unroll.specs.Steps.{IsReady, HasEdges, HasLiteral, along}
use Rattle.gi_unroll.specs.Frames.{most_of, IsUnrolling}
use Rattle.gi_unroll.proofs.Steps.{Grows, adds_none, Grows-trans, Grows-refl, AreEdges, AreEdges-none, AreEdges-inputs, AreEdges-resets, All-longer, length-longer, NodesMore, nodes_more}

-- what stands before a frame
abbrev pub before : Frames → ℕ → Draft
before f n = record { net = f.net; choices = f.choices; lits = f.lits; next = n; clauses = []; edges = [] }

abbrev pub first_draft : Frames → ℕ → Draft
first_draft f n = record { net = []; choices = f.choices; lits = (2 * n + 1) ∷ []; next = n + 1; clauses = (2 * n ∷ []) ∷ []; edges = 0 ∷ [] }

abbrev pub later_draft : Frames → ℕ → Draft
later_draft f n = record { net = f.net; choices = f.choices; lits = f.lits; next = n; clauses = []; edges = 0 ∷ [] }

pub draft_first : (f : Frames) (n : ℕ) → f.made ≡ 0 → draft_of f n ≡ first_draft f n
draft_first f n e = ap (λ t. cond t (first_draft f n) (later_draft f n)) (eq-eqb f.made 0 e)

pub draft_later : (f : Frames) (n : ℕ) → f.made ≢ 0 → draft_of f n ≡ later_draft f n
draft_later f n ne = ap (λ t. cond t (first_draft f n) (later_draft f n)) (ne_eqb f.made 0 ne)

pub latches_first : (s : System) (f : Frames) (a : Along) → f.made ≡ 0 → latches_of s f a ≡ fold reset_along a s.resets
latches_first s f a e = ap (λ t. cond t (fold reset_along a s.resets) (record a { edges = f.latches })) (eq-eqb f.made 0 e)

pub latches_later : (s : System) (f : Frames) (a : Along) → f.made ≢ 0 → latches_of s f a ≡ record a { edges = f.latches }
latches_later s f a ne = ap (λ t. cond t (fold reset_along a s.resets) (record a { edges = f.latches })) (ne_eqb f.made 0 ne)

module _ (s : System) (c : IsCircuit s) (f : Frames) (top n : ℕ) (kept : IsUnrolling (record { system = s; frames = f; top = top })) (above : top < n) where
  -- the beginning of a frame
  pub record IsBegun (d : Draft) : Type 0 where
    pub ready : IsReady d
    pub grows : Grows (before f n) d 1
    pub edges : d.edges ≡ 0 ∷ []
    pub few : length d.clauses ≤ 1
    pub short : sum_by (λ (c : List ℕ). length c) d.clauses ≤ 1

  begun_first : f.made ≡ 0 → IsBegun (first_draft f n)
  begun_first e =
      let k = kept.start e in
      record {
        ready = record { count = refl; fits = omega arith };
        grows = record {
          longer = record { net = ([], sym (append-nil f.net ∙ k.0)); lits = ((2 * n + 1) ∷ [], sym (ap (λ z. z ++ (2 * n + 1) ∷ []) k.1)) };
          from = omega arith;
          next = omega arith;
          same = λ q. absurd (omega arith);
          covers = λ v lo hi. (0, omega arith, (let half : (2 * n + 1) / 2 ≡ v = omega arith in half));
          fresh = All-from_recursion (λ l. (n ≤ l / 2) × (l / 2 < n + 1)) ((2 * n + 1) ∷ []) ((omega arith, omega arith), tt);
          clauses = record {
            more = (2 * n ∷ []) ∷ [];
            are = refl;
            known = All-from_recursion (All (λ l. HasLiteral ((2 * n + 1) ∷ []) (l / 2))) ((2 * n ∷ []) ∷ []) (All-from_recursion (λ l. HasLiteral ((2 * n + 1) ∷ []) (l / 2)) (2 * n ∷ []) ((0, omega arith, (let half : (2 * n + 1) / 2 ≡ (2 * n) / 2 = omega arith in half)), tt), tt);
            count = omega arith;
            literals = omega arith;
          };
        };
        edges = refl;
        few = omega arith;
        short = omega arith;
      }

  begun_later : f.made ≢ 0 → IsBegun (later_draft f n)
  begun_later ne = record {
    ready = record { count = kept.count (omega arith); fits = (let l = kept.lits in omega arith) };
    grows = record {
      longer = record { net = ([], sym (append-nil f.net)); lits = ([], sym (append-nil f.lits)) };
      from = omega arith;
      next = omega arith;
      same = λ q. record { net = refl; lits = refl; clauses = refl };
      covers = λ v lo hi. absurd (omega arith);
      fresh = All-nil (λ l. (n ≤ l / 2) × (l / 2 < n));
      clauses = adds_none (before f n) (later_draft f n) 1 refl;
    };
    edges = refl;
    few = omega arith;
    short = omega arith;
  }

  pub begun : IsBegun (draft_of f n)
  begun = elim (cases_eq f.made 0) [
    | inl e ↦ subst IsBegun (sym (draft_first f n e)) (begun_first e)
    | inr ne ↦ subst IsBegun (sym (draft_later f n ne)) (begun_later ne)
  ]

  abbrev ins : Along
  ins = inputs_along s f n

  abbrev ls : Along
  ls = latches_along s f n

  pub inputs_drawn : AreEdges (draft_of f n) s.parts.inputs (inputs_along s f n)
  inputs_drawn = AreEdges-inputs (draft_of f n) s.parts.inputs begun.ready

  to_inputs : Grows (before f n) ins.draft (1 + s.parts.inputs)
  to_inputs = Grows-trans (before f n) (draft_of f n) ins.draft 1 s.parts.inputs begun.grows inputs_drawn.grows

  latches_first_drawn : AreEdges ins.draft s.parts.latches (fold reset_along (along ins.draft []) s.resets)
  latches_first_drawn = subst (λ (z : ℕ). AreEdges ins.draft z (fold reset_along (along ins.draft []) s.resets)) (let e : 0 + length s.resets ≡ s.parts.latches = (let r = c.wired.resets in omega arith) in e) (AreEdges-resets ins.draft s.resets 0 (along ins.draft []) (AreEdges-none ins.draft inputs_drawn.ready))

  latches_later_drawn : f.made ≢ 0 → AreEdges ins.draft s.parts.latches (along ins.draft f.latches)
  latches_later_drawn ne = record {
    ready = inputs_drawn.ready;
    grows = Grows-refl ins.draft s.parts.latches;
    kept = refl;
    quiet = refl;
    count = kept.latches (omega arith) ∙ c.wired.nexts;
    within = All-longer (length f.net) (length ins.draft.net) f.latches (length-longer (before f n) ins.draft to_inputs.longer) (kept.within (omega arith));
  }

  pub latches_drawn : AreEdges (inputs_along s f n).draft s.parts.latches (latches_along s f n)
  latches_drawn = elim (cases_eq f.made 0) [
    | inl e ↦ subst (AreEdges ins.draft s.parts.latches) (sym (latches_first s f (along ins.draft []) e)) latches_first_drawn
    | inr ne ↦ subst (AreEdges ins.draft s.parts.latches) (sym (latches_later s f (along ins.draft []) ne)) (latches_later_drawn ne)
  ]

  pub edges_begun : HasEdges 0 (latches_along s f n).draft
  edges_begun =
      let e : ls.draft.edges ≡ 0 ∷ [] = latches_drawn.kept ∙ inputs_drawn.kept ∙ begun.edges in
      record { count = ap length e; within = subst (All (λ e. e / 2 ≤ length ls.draft.net)) (sym e) (All-cons (λ e. e / 2 ≤ length ls.draft.net) 0 [] (omega arith) (All-nil (λ e. e / 2 ≤ length ls.draft.net))) }

  pub inputs_within : All (λ e. e / 2 ≤ length (latches_along s f n).draft.net) (inputs_along s f n).edges
  inputs_within = All-longer (length ins.draft.net) (length ls.draft.net) ins.edges (length-longer ins.draft ls.draft latches_drawn.grows.longer) inputs_drawn.within

  pub ordered : IsOrdered (record { inputs = length (inputs_along s f n).edges; latches = length (latches_along s f n).edges; nodes = s.parts.nodes })
  ordered = subst (λ (z : ℕ). IsOrdered (record { inputs = z; latches = length ls.edges; nodes = s.parts.nodes })) (sym inputs_drawn.count) (subst (λ (z : ℕ). IsOrdered (record { inputs = s.parts.inputs; latches = z; nodes = s.parts.nodes })) (sym latches_drawn.count) c.net.ordered)

  pub nodes_drawn : NodesMore 0 (length s.parts.nodes) (latches_along s f n).draft (rebuilt_draft s f n) (count_by is_gate s.parts.nodes)
  nodes_drawn = nodes_more ins.edges ls.edges s.parts.nodes 0 ls.draft latches_drawn.ready edges_begun inputs_within latches_drawn.within (λ k lt. subst (λ (z : ℕ). IsPlaced (length ins.edges) (length ls.edges) z (get_or s.parts.nodes k (Input 0))) (let e : k ≡ 0 + k = omega arith in e) (ordered.each k lt))

  pub to_latches : Grows (before f n) ls.draft (1 + s.parts.inputs + s.parts.latches)
  to_latches = Grows-trans (before f n) ins.draft ls.draft (1 + s.parts.inputs) s.parts.latches to_inputs latches_drawn.grows

  pub all_drawn : Grows (before f n) (rebuilt_draft s f n) (most_of s)
  all_drawn = Grows-trans (before f n) ls.draft (rebuilt_draft s f n) (1 + s.parts.inputs + s.parts.latches) (count_by is_gate s.parts.nodes) to_latches nodes_drawn.grows

  -- a clause at most before the gates
  pub begun_few : (length ls.draft.clauses ≤ 1) × (sum_by (λ (c : List ℕ). length c) ls.draft.clauses ≤ 1)
  begun_few =
      let e : ls.draft.clauses ≡ (draft_of f n).clauses = latches_drawn.quiet ∙ inputs_drawn.quiet in
      subst (λ (cs : List (List ℕ)). (length cs ≤ 1) × (sum_by (λ (c : List ℕ). length c) cs ≤ 1)) (sym e) (begun.few, begun.short)
