use Rattle.std.proofs.Common.{◌≡◌, ◌≢◌, ℕ, suc, ◌+◌, ◌-◌, ◌/◌, ◌<◌, ◌≤◌, Bool, cond, List, [], ◌++◌, length, map, get_or, sym, ap, ◌∙◌, subst, arith, inl, inr, length-append}
use Rattle.std.specs.List.{All, sum_by}
use Rattle.std.proofs.lemmas.Bool.{cases_eq, cases_lt, eq-eqb, ne_eqb}
use Rattle.std.proofs.lemmas.List.{length-map, get_or_append_left, get_or-append-add}
use Rattle.std.proofs.lemmas.Grind.{get_or_default_zero}
use Rattle.std.proofs.lemmas.List.Elements.{All-map}
use Rattle.std.proofs.lemmas.List.Sums.{sum_by-append}
use Rattle.gi_circuit.specs.Systems.{System, IsCircuit}
use Rattle.gi_circuit.specs.Frames.{Draft, Frames, edge_of, lit_of, inputs_along, latches_along, rebuilt_draft, frame_of}
use Rattle.gi_circuit.specs.Encoding.{IsUnrolled}
use Rattle.gi_unroll.specs.Frames.{most_of, top_after, with_frame, IsUnrolling, KeepsEncoding, KeepsLiterals, IsNamed, NamesVariables, IsShort}
use Rattle.gi_unroll.specs.Steps.{HasLiteral}
use Rattle.gi_unroll.proofs.Steps.{Grows, edge_within, lit_known, All-longer, length-longer}
use Rattle.gi_unroll.proofs.Drawing.{before, nodes_drawn, all_drawn, inputs_within, latches_drawn, begun_few}
use Rattle.gi_unroll.proofs.Chosen.{rebuilt_choices}
use Rattle.gi_unroll.proofs.Framing.{IsUnrolled-more, IsUnrolled-same, tells}

module _ (s : System) (c : IsCircuit s) (f : Frames) (top n : ℕ) (kept : IsUnrolling (record { system = s; frames = f; top = top })) (above : top < n) where
  abbrev ending : Draft
  ending = rebuilt_draft s f n

  grown : Grows (before f n) ending (most_of s)
  grown = all_drawn s c f top n kept above

  -- where no variable was taken
  pub quiet : ending.next ≡ n → (0 < f.made) × (ending.net ≡ f.net) × (ending.lits ≡ f.lits) × (ending.clauses ≡ [])
  quiet e =
      let g = grown.same e in
      let first : f.made ≢ 0 = λ (z : f.made ≡ 0). not_first z in
      (omega arith, g.net, g.lits, g.clauses)
    where
      not_first : f.made ≡ 0 → ⊥
      not_first z =
          let k = kept.start z in
          let r = nodes_drawn s c f top n kept above in
          let l = r.ready.count in
          let g = grown.same e in
          let m = ap length (g.lits ∙ k.1) in
          let zero_is : 0 ≡ length ending.net + 1 = sym m ∙ l in
          omega arith

  pub fresh_within : ending.next - n ≤ most_of s
  fresh_within = let a = grown.next in omega arith

  lits_within : length ending.lits ≤ top_after top n (ending.next - n)
  lits_within =
      let r = nodes_drawn s c f top n kept above in
      let fits = r.ready.fits in
      let from = grown.from in
      elim (cases_eq (ending.next - n) 0) [
        | inl e ↦
            let q = quiet (omega arith) in
            let k = kept.lits in
            let l = ap length q.2 in
            let z : length ending.lits ≤ top = omega arith in
            subst (λ (t : Bool). length ending.lits ≤ cond t top (n + (ending.next - n) - 1)) (sym (eq-eqb (ending.next - n) 0 e)) z
        | inr ne ↦
            let z : length ending.lits ≤ n + (ending.next - n) - 1 = omega arith in
            subst (λ (t : Bool). length ending.lits ≤ cond t top (n + (ending.next - n) - 1)) (sym (ne_eqb (ending.next - n) 0 ne)) z
      ]

  -- what frames keep
  pub IsKept-frame : IsUnrolling (with_frame (record { system = s; frames = f; top = top }) n)
  unfolding frame_of
  IsKept-frame =
      let r = nodes_drawn s c f top n kept above in
      record {
        start = λ e. absurd (let z : suc f.made ≡ 0 = e in omega arith);
        lits = lits_within;
        choices = rebuilt_choices s f n kept.start kept.choices;
        count = λ lt. r.ready.count;
        latches = λ lt. length-map s.nexts (edge_of ending.edges);
        within = λ lt. All-map (λ e. e / 2 ≤ length ending.net) (edge_of ending.edges) s.nexts (λ k d jl. edge_within ending (0 + length s.parts.nodes) (get_or s.nexts k d) r.edges (let le = c.wired.next_nodes k d jl in omega arith));
      }

  -- the literals of a frame's variables, and of those before
  pub literals_kept : KeepsLiterals (record { system = s; frames = f; top = top }) n
  unfolding frame_of
  literals_kept = record {
    taken = λ v lo hi. let a = grown.from in grown.covers v lo (let h : v < n + (ending.next - n) = hi in omega arith);
    stay = grown.longer.lits;
    nodes = grown.longer.net;
  }

  unrolled_more : (earlier : List (List ℕ)) → IsUnrolled s earlier top f → IsUnrolled s (earlier ++ (frame_of s f n).added) (top_after top n (frame_of s f n).fresh) (frame_of s f n).frames
  unfolding frame_of
  unrolled_more earlier u =
      let from = grown.from in
      elim (cases_eq (ending.next - n) 0) [
        | inl e ↦
            let q = quiet (omega arith) in
            subst (λ (t : Bool). IsUnrolled s (earlier ++ ending.clauses) (cond t top (n + (ending.next - n) - 1)) (frame_of s f n).frames) (sym (eq-eqb (ending.next - n) 0 e))
            (IsUnrolled-same s c.net.ordered c.wired.resets c.wired.nexts c.wired.next_nodes earlier top f u n above q.0 q.1 q.2 q.3)
        | inr ne ↦
            let z : ending.next - 1 ≡ n + (ending.next - n) - 1 = omega arith in
            subst (λ (t : Bool). IsUnrolled s (earlier ++ ending.clauses) (cond t top (n + (ending.next - n) - 1)) (frame_of s f n).frames) (sym (ne_eqb (ending.next - n) 0 ne))
            (subst (λ (x : ℕ). IsUnrolled s (earlier ++ ending.clauses) x (frame_of s f n).frames) z
            (IsUnrolled-more s c.net.ordered c.wired.resets c.wired.nexts c.wired.next_nodes earlier top f u n above))
      ]

  -- the clauses encode all frames, and the frame's literals have their values
  pub encoding_kept : KeepsEncoding (record { system = s; frames = f; top = top }) n
  encoding_kept earlier u = (
    unrolled_more earlier u,
    tells s c.net.ordered c.wired.resets c.wired.nexts c.wired.next_nodes earlier top f u n above c.wired.out_nodes c.wired.bad_nodes c.wired.con_nodes,
  )

  -- each literal that a node has is of a variable of the frame or of those before
  named : (v : ℕ) → HasLiteral ending.lits v → IsNamed (record { system = s; frames = f; top = top }) n v
  unfolding frame_of
  named v h =
      let more : List ℕ = grown.longer.lits.0 in
      let q : ending.lits ≡ f.lits ++ grown.longer.lits.0 = grown.longer.lits.1 in
      let n_le = grown.from in
      let l = ap length q in
      let lt = h.1 in
      let at : get_or (f.lits ++ grown.longer.lits.0) h.0 0 / 2 ≡ v = ap (λ zs. get_or zs h.0 0 / 2) (sym q) ∙ h.2 in
      elim (cases_lt h.0 (length f.lits)) [
        | inl below ↦ inr (h.0, below, ap (λ z. z / 2) (sym (get_or_append_left f.lits grown.longer.lits.0 0 h.0 below)) ∙ at)
        | inr ge ↦
            let j : ℕ = h.0 - length f.lits in
            let r = grown.fresh (h.0 - length f.lits) 0 (omega (arith, lt, l, ge, length-append f.lits grown.longer.lits.0)) in
            let r0 = r.0 in
            let r1 = r.1 in
            let here : get_or grown.longer.lits.0 (h.0 - length f.lits) 0 / 2 ≡ v =
            ap (λ z. z / 2) (sym (get_or-append-add f.lits grown.longer.lits.0 (h.0 - length f.lits) 0)) ∙ ap (λ i. get_or (f.lits ++ grown.longer.lits.0) i 0 / 2) (let e : length f.lits + (h.0 - length f.lits) ≡ h.0 = omega arith in e) ∙ at in
            inl (omega (arith, r0, here), (let w : v < n + (ending.next - n) = omega (arith, r1, here, n_le) in w))
      ]

  abbrev Named : ℕ → Type 0
  Named l = IsNamed (record { system = s; frames = f; top = top }) n (l / 2)

  edge_named : (e : ℕ) → e / 2 ≤ length ending.net → Named (lit_of ending.lits e)
  edge_named e le = let r = nodes_drawn s c f top n kept above in let count = r.ready.count in named (lit_of ending.lits e / 2) (lit_known ending.lits e (omega arith))

  edges_named : (es : List ℕ) → All (λ e. e / 2 ≤ length ending.net) es → All Named (map (lit_of ending.lits) es)
  edges_named es h = All-map Named (lit_of ending.lits) es (λ k d lt. edge_named (get_or es k d) (h k d lt))

  list_named : (es : List ℕ) → All (λ e. e / 2 ≤ length s.parts.nodes) es → All Named (map (lit_of ending.lits) (map (edge_of ending.edges) es))
  list_named es h =
      let r = nodes_drawn s c f top n kept above in
      edges_named (map (edge_of ending.edges) es) (All-map (λ e. e / 2 ≤ length ending.net) (edge_of ending.edges) es (λ k d jl. edge_within ending (0 + length s.parts.nodes) (get_or es k d) r.edges (let le = h k d jl in omega arith)))

  -- all that the frame names
  pub variables_named : NamesVariables (record { system = s; frames = f; top = top }) n
  unfolding frame_of
  variables_named =
      let r = nodes_drawn s c f top n kept above in
      let longer = length-longer (latches_along s f n).draft ending r.grows.longer in
      record {
        nodes = λ k d lt. named (get_or ending.lits k d / 2) (k, lt, ap (λ (l : ℕ). l / 2) (sym (get_or_default_zero ending.lits k d lt)));
        clauses = subst (All (All Named)) (sym grown.clauses.are) (λ k d lt i e il. named (get_or (get_or grown.clauses.more k d) i e / 2) (grown.clauses.known k d lt i e il));
        inputs = edges_named (inputs_along s f n).edges (All-longer (length (latches_along s f n).draft.net) (length ending.net) (inputs_along s f n).edges longer (inputs_within s c f top n kept above));
        latches = edges_named (latches_along s f n).edges (All-longer (length (latches_along s f n).draft.net) (length ending.net) (latches_along s f n).edges longer (latches_drawn s c f top n kept above).within);
        outs = list_named s.outs c.wired.out_nodes;
        bads = list_named s.bads c.wired.bad_nodes;
        cons = list_named s.cons c.wired.con_nodes;
      }

  pub few_clauses : IsShort s (frame_of s f n).added
  unfolding frame_of
  few_clauses =
      let g = (nodes_drawn s c f top n kept above).grows.clauses in
      let b = begun_few s c f top n kept above in
      let few = b.0 in
      let short = b.1 in
      let l = ap (λ (cs : List (List ℕ)). length cs) g.are in
      let m = ap (λ (cs : List (List ℕ)). sum_by (λ (c : List ℕ). length c) cs) g.are in
      record {
        clauses = omega (arith, few, l, g.count, length-append (latches_along s f n).draft.clauses g.more);
        literals = omega (arith, short, m, g.literals, sum_by-append (λ (c : List ℕ). length c) (latches_along s f n).draft.clauses g.more);
      }

  -- how many variables it took, and how many frames there are with it
  pub fresh_of : (frame_of s f n).fresh ≤ most_of s
  unfolding frame_of
  fresh_of = fresh_within

  pub made_of : (frame_of s f n).frames.made ≡ f.made + 1
  unfolding frame_of
  made_of = let e : suc f.made ≡ f.made + 1 = omega arith in e
