use Rattle.std.proofs.Common.{◌≡◌, ◌≢◌, ℕ, zero, suc, ◌+◌, ◌-◌, ◌*◌, ◌/◌, ◌%◌, ◌<◌, ◌≤◌, Bool, true, false, not, cond, List, [], ◌∷◌, ◌++◌, length, get_or, drop, map, refl, sym, ap, ◌∙◌, subst, arith, inl, inr}
use Rattle.std.specs.Prelude.{◌||◌}
use Rattle.std.specs.List.{All, fold}
use Rattle.std.proofs.lemmas.Bool.{cases_eq, eq-eqb, ne_eqb}
use Rattle.std.proofs.lemmas.List.{append-nil, get_or-map, length-map}
use Rattle.std.proofs.lemmas.List.Elements.{All-nil, All-cons, All-weaker}
use Rattle.gi_lit.specs.Literals.{opposite}
use Rattle.gi_lit.specs.Truth.{true_in, clause_true, Satisfies}
use Rattle.gi_lit.proofs.Literals.{true_in-opposite}
use Rattle.gi_circuit.specs.Values.{value_in}
use Rattle.gi_circuit.specs.Nodes.{node_values, IsOrdered}
use Rattle.gi_circuit.specs.Systems.{System, reset_values, latch_values, value}
use Rattle.gi_circuit.specs.Frames.{lit_of, edge_of, Draft, with_node, Frames, Along, reset_along, draft_of, inputs_along, latches_along, frame_of}
use Rattle.gi_circuit.specs.Encoding.{Chooses, Follows, Encodes, IsSoundDraft, HaveValues, free_count, choices_before, inputs_at, free_at, IsUnrolled, TellValues}
use Rattle.gi_unroll.proofs.Rebuilding.{IsRebuilt}
use Rattle.gi_circuit.specs.declared.node.Node.{Node}
use Rattle.gi_unroll.proofs.Encoding.{put, put_lit, put_else, lit_follows}
use Rattle.gi_circuit.proofs.Sound.{IsOrdered-more}
use Rattle.gi_circuit.proofs.Meaning.{value_zero, value_in-zero}
use Rattle.gi_unroll.proofs.Rebuilding.{IsRebuilt-all, all_choices, edge_within, edge_right}
use Rattle.gi_unroll.specs.Frames.{TellsFrame}
use Rattle.gi_unroll.proofs.Unrolling.{HaveValues-more, IsAlong, inputs-along, resets-along}

odd : (n : ℕ) → opposite (2 * n) ≡ 2 * n + 1
unfolding opposite
odd n = let even : (2 * n) % 2 ≡ 0 = omega arith in rw even refl

or_false : (t : Bool) → (t || false) ≡ true → t ≡ true
or_false true e = refl
or_false false e = e

true_or : (t : Bool) → t ≡ true → (t || false) ≡ true
true_or t e = ap (λ z. z || false) e

-- the variable that is true
module _ (n : ℕ) (big : 1 ≤ n) where
  false_lit : (values : List Bool) → true_in values (2 * n) ≡ true → Follows [] ((2 * n + 1) ∷ []) [] values
  false_lit values t k le =
      let zero_is : k ≡ 0 = omega arith in
      subst (λ (z : ℕ). true_in values (get_or ((2 * n + 1) ∷ []) z 0) ≡ get_or (false ∷ []) z false) (sym zero_is)
      (ap (true_in values) (sym (odd n)) ∙ true_in-opposite values (2 * n) ∙ ap not t)

  pub Encodes-true : Encodes ((2 * n ∷ []) ∷ []) [] ((2 * n + 1) ∷ [])
  Encodes-true = record {
    determined = λ chosen values s c. false_lit values (or_false (true_in values (2 * n)) (s.each 0 [] (omega arith)));
    exists = λ chosen others.
        let t : true_in (put others (n - 1) true) (2 * n) ≡ true = put_lit others n true big in (
          put others (n - 1) true,
          record { each = All-cons (λ c. clause_true (put others (n - 1) true) c ≡ true) (2 * n ∷ []) [] (true_or (true_in (put others (n - 1) true) (2 * n)) t) (All-nil (λ c. clause_true (put others (n - 1) true) c ≡ true)) },
          false_lit (put others (n - 1) true) t,
          λ v vb none. let ne = none 0 0 (omega arith) in let half : (2 * n + 1) / 2 ≡ n = omega arith in put_else others n true (2 * v) big (omega arith) (λ e. ne (half ∙ sym e ∙ omega arith)),
        );
  }

module _ (s : System) (clauses : List (List ℕ)) (top : ℕ) (f : Frames) (u : IsUnrolled s clauses top f) (n : ℕ) (above : top < n) (choices : ℕ) (more : f.choices ≤ choices) where
  abbrev first_draft : Draft
  first_draft = record { net = []; choices = f.choices; lits = (2 * n + 1) ∷ []; next = n + 1; clauses = (2 * n ∷ []) ∷ []; edges = 0 ∷ [] }

  abbrev later_draft : Draft
  later_draft = record { net = f.net; choices = f.choices; lits = f.lits; next = n; clauses = []; edges = 0 ∷ [] }

  first_sound : f.made ≡ 0 → IsSoundDraft clauses choices first_draft
  first_sound e = subst (λ (cs : List (List ℕ)). IsSoundDraft cs choices first_draft) (sym (u.start e)) (record {
    some = omega arith;
    count = refl;
    clauses_below = All-cons (λ c. All (λ l. (1 ≤ l / 2) × (l / 2 < n + 1)) c) (2 * n ∷ []) [] (All-cons (λ l. (1 ≤ l / 2) × (l / 2 < n + 1)) (2 * n) [] (omega arith, omega arith) (All-nil (λ l. (1 ≤ l / 2) × (l / 2 < n + 1)))) (All-nil (λ c. All (λ l. (1 ≤ l / 2) × (l / 2 < n + 1)) c));
    lits_below = All-cons (λ l. (1 ≤ l / 2) × (l / 2 < n + 1)) (2 * n + 1) [] (omega arith, omega arith) (All-nil (λ l. (1 ≤ l / 2) × (l / 2 < n + 1)));
    ordered = record { each = λ k lt. absurd (omega arith) };
    encodes = Encodes-true n (omega arith);
    edges = All-cons (λ e. e / 2 ≤ 0) 0 [] (omega arith) (All-nil (λ e. e / 2 ≤ 0));
  })

  later_sound : 0 < f.made → IsSoundDraft clauses choices later_draft
  later_sound e =
      let o = u.sound e in
      record {
        some = omega arith;
        count = o.count;
        clauses_below = subst (All (λ c. All (λ l. (1 ≤ l / 2) × (l / 2 < n)) c)) (sym (append-nil clauses)) (All-weaker (λ c. All (λ l. (1 ≤ l / 2) × (l / 2 < top + 1)) c) (λ c. All (λ l. (1 ≤ l / 2) × (l / 2 < n)) c) (λ c h k z lt. let r = h k z lt in (r.0, omega (arith, r.1))) clauses o.clauses_below);
        lits_below = All-weaker (λ l. (1 ≤ l / 2) × (l / 2 < top + 1)) (λ l. (1 ≤ l / 2) × (l / 2 < n)) (λ l r. (r.0, omega (arith, r.1))) f.lits o.lits_below;
        ordered = IsOrdered-more f.choices choices 0 0 f.net more (omega arith) o.ordered;
        encodes = subst (λ (cs : List (List ℕ)). Encodes cs f.net f.lits) (sym (append-nil clauses)) o.encodes;
        edges = All-cons (λ e. e / 2 ≤ length f.net) 0 [] (omega arith) (All-nil (λ e. e / 2 ≤ length f.net));
      }

  pub draft_sound : IsSoundDraft clauses choices (draft_of f n)
  draft_sound = elim (cases_eq f.made 0) [
    | inl e ↦ subst (λ (t : Bool). IsSoundDraft clauses choices (cond t first_draft later_draft)) (sym (eq-eqb f.made 0 e)) (first_sound e)
    | inr ne ↦ subst (λ (t : Bool). IsSoundDraft clauses choices (cond t first_draft later_draft)) (sym (ne_eqb f.made 0 ne)) (later_sound (omega arith))
  ]

  pub draft_net : 0 < f.made → (draft_of f n).net ≡ f.net
  draft_net lt = ap (λ t. (cond t first_draft later_draft).net) (ne_eqb f.made 0 (omega arith))

  pub draft_choices : (draft_of f n).choices ≡ f.choices
  draft_choices = elim (cases_eq f.made 0) [
    | inl e ↦ ap (λ t. (cond t first_draft later_draft).choices) (eq-eqb f.made 0 e)
    | inr ne ↦ ap (λ t. (cond t first_draft later_draft).choices) (ne_eqb f.made 0 ne)
  ]

  pub draft_edges : (draft_of f n).edges ≡ 0 ∷ []
  draft_edges = elim (cases_eq f.made 0) [
    | inl e ↦ ap (λ t. (cond t first_draft later_draft).edges) (eq-eqb f.made 0 e)
    | inr ne ↦ ap (λ t. (cond t first_draft later_draft).edges) (ne_eqb f.made 0 ne)
  ]

-- a frame more
module _ (s : System) (o : IsOrdered s.parts) (resets : length s.resets ≡ s.parts.latches) (nexts : length s.nexts ≡ s.parts.latches) (within : All (λ e. e / 2 ≤ length s.parts.nodes) s.nexts) (clauses : List (List ℕ)) (top : ℕ) (f : Frames) (u : IsUnrolled s clauses top f) (n : ℕ) (above : top < n) where
  abbrev total : ℕ
  total = choices_before s (suc f.made)

  abbrev ins : Along
  ins = inputs_along s f n

  abbrev ls : Along
  ls = latches_along s f n

  abbrev inputs : List Bool → List Bool
  inputs chosen = inputs_at s chosen f.made

  abbrev latches : List Bool → List Bool
  latches chosen = latch_values s (inputs_at s chosen) (free_at s chosen) f.made

  abbrev ending : Draft
  ending = fold (with_node ins.edges ls.edges) ls.draft s.parts.nodes

  -- how many choices the frame makes
  enough : (m : ℕ) → choices_before s m + s.parts.inputs ≤ choices_before s (suc m)
  enough zero = omega arith
  enough (suc m) = omega arith

  inputs_made : IsAlong clauses total (draft_of f n) s.parts.inputs (λ chosen. drop f.choices chosen) ins × (ins.draft.choices ≡ f.choices + s.parts.inputs)
  inputs_made =
      let e = enough f.made in
      let d = draft_choices s clauses top f u n above total (omega (arith, e, u.choices)) in
      let r = inputs-along clauses total (draft_of f n) s.parts.inputs (draft_sound s clauses top f u n above total (omega (arith, e, u.choices))) (omega (arith, e, u.choices, d)) in
      (subst (λ (z : ℕ). IsAlong clauses total (draft_of f n) s.parts.inputs (λ chosen. drop z chosen) ins) d r.0, r.1 ∙ ap (λ z. z + s.parts.inputs) d)

  abbrev start : Along
  start = record (inputs_along s f n) { edges = [] }

  abbrev reset : Along
  reset = fold reset_along start s.resets

  abbrev old : Along
  old = record start { edges = f.latches }

  abbrev AreLatches : Along → Type 0
  AreLatches a = IsAlong clauses total ins.draft s.parts.latches latches a × (a.draft.choices ≡ total)

  told_first : f.made ≡ 0 → (chosen : List Bool) → latches chosen ≡ reset_values (drop s.parts.inputs chosen) s.resets
  unfolding latch_values
  told_first e chosen = ap (latch_values s (inputs_at s chosen) (free_at s chosen)) e

  at_start : f.made ≡ 0 → AreLatches reset
  at_start e =
      let im = inputs_made in
      let before : choices_before s f.made ≡ 0 = ap (choices_before s) e in
      let c : start.draft.choices ≡ s.parts.inputs = omega (arith, im.1, u.choices, before) in
      let t : total ≡ s.parts.inputs + free_count s.resets = ap (λ m. s.parts.inputs + free_count s.resets + m * s.parts.inputs) e ∙ omega arith in
      let h : IsAlong clauses total ins.draft 0 latches start = record { sound = im.0.sound; more = []; net = sym (append-nil ins.draft.net); kept = refl; count = refl; have = record { within = λ j jl. absurd (omega arith); values = λ chosen j jl. absurd (omega arith) } } in
      let r = resets-along clauses total ins.draft latches s.resets 0 start h (omega (arith, c, t)) (λ chosen j. ap (λ z. get_or (latches chosen) z false) (let z : 0 + j ≡ j = omega arith in z) ∙ ap (λ z. get_or z j false) (told_first e chosen) ∙ ap (λ z. get_or (reset_values (drop z chosen) s.resets) j false) (sym c)) in
      (subst (λ (z : ℕ). IsAlong clauses total ins.draft z latches reset) (let z : 0 + length s.resets ≡ s.parts.latches = omega (arith, resets) in z) r.0, r.1 ∙ omega (arith, c, t))

  step : (m : ℕ) → m ≢ 0 → choices_before s m + s.parts.inputs ≡ choices_before s (suc m)
  step zero ne = absurd (ne refl)
  step (suc m) ne = omega arith

  later : f.made ≢ 0 → AreLatches old
  later ne =
      let im = inputs_made in
      let pos : 0 < f.made = omega arith in
      let net : ins.draft.net ≡ f.net ++ im.0.more = im.0.net ∙ ap (λ z. z ++ im.0.more) (draft_net s clauses top f u n above total (let e = enough f.made in omega (arith, e, u.choices)) pos) in
      let h : HaveValues (f.net ++ im.0.more) f.latches (length s.nexts) latches = HaveValues-more f.net im.0.more f.latches (length s.nexts) latches (u.latches pos) in (
        record {
          sound = im.0.sound;
          more = [];
          net = sym (append-nil ins.draft.net);
          kept = refl;
          count = u.count pos ∙ nexts;
          have = subst (λ (z : List Node). HaveValues z f.latches s.parts.latches latches) (sym net) (subst (λ (z : ℕ). HaveValues (f.net ++ im.0.more) f.latches z latches) nexts h);
        },
        im.1 ∙ ap (λ z. z + s.parts.inputs) u.choices ∙ step f.made ne,
      )

  latches_made : AreLatches ls
  latches_made = elim (cases_eq f.made 0) [
    | inl e ↦ subst (λ (t : Bool). AreLatches (cond t reset old)) (sym (eq-eqb f.made 0 e)) (at_start e)
    | inr ne ↦ subst (λ (t : Bool). AreLatches (cond t reset old)) (sym (ne_eqb f.made 0 ne)) (later ne)
  ]

  ins_have : HaveValues ls.draft.net ins.edges s.parts.inputs inputs
  ins_have =
      let im = inputs_made in
      let lm = latches_made in
      let told : (z : ℕ) → f.choices ≡ z → HaveValues ins.draft.net ins.edges s.parts.inputs (λ chosen. drop z chosen) = λ (z : ℕ) (e : f.choices ≡ z). subst (λ (z : ℕ). HaveValues ins.draft.net ins.edges s.parts.inputs (λ chosen. drop z chosen)) e im.0.have in
      subst (λ (z : List Node). HaveValues z ins.edges s.parts.inputs inputs) (sym lm.0.net) (HaveValues-more ins.draft.net lm.0.more ins.edges s.parts.inputs inputs (told (choices_before s f.made) u.choices))

  edges_first : ls.draft.edges ≡ 0 ∷ []
  edges_first = latches_made.0.kept ∙ inputs_made.0.kept ∙ draft_edges s clauses top f u n above total (let e = enough f.made in omega (arith, e, u.choices))

  pub rebuilt : IsRebuilt clauses total ls.draft inputs latches s.parts.nodes ending
  rebuilt = IsRebuilt-all clauses total ls.draft inputs latches s.parts.inputs s.parts.latches ins.edges ls.edges ins_have latches_made.0.have s.parts.nodes [] ls.draft o (record {
    sound = latches_made.0.sound;
    more = [];
    net = sym (append-nil ls.draft.net);
    count = ap length edges_first;
    right = λ chosen k le.
        let k_is : k ≡ 0 = omega arith in
        subst (λ (z : ℕ). value_in (node_values chosen [] ls.draft.net) (get_or ls.draft.edges z 0) ≡ get_or (false ∷ []) z false) (sym k_is)
        (ap (λ es. value_in (node_values chosen [] ls.draft.net) (get_or es 0 0)) edges_first ∙ value_in-zero (node_values chosen [] ls.draft.net) (value_zero chosen [] ls.draft.net));
  })

  abbrev next : Frames
  next = record { net = ending.net; choices = ending.choices; lits = ending.lits; latches = map (edge_of ending.edges) s.nexts; made = suc f.made }

  next_latches : HaveValues ending.net (map (edge_of ending.edges) s.nexts) (length s.nexts) (λ chosen. latch_values s (inputs_at s chosen) (free_at s chosen) (suc f.made))
  unfolding latch_values
  next_latches = record {
    within = λ j jl. subst (λ (z : ℕ). z / 2 ≤ length ending.net) (sym (get_or-map (edge_of ending.edges) s.nexts j 0 0 jl)) (edge_within clauses total ls.draft inputs latches s.parts.nodes ending rebuilt (get_or s.nexts j 0) (within j 0 jl));
    values = λ chosen j jl.
        ap (value_in (node_values chosen [] ending.net)) (get_or-map (edge_of ending.edges) s.nexts j 0 0 jl)
        ∙ edge_right clauses total ls.draft inputs latches s.parts.nodes ending rebuilt chosen (get_or s.nexts j 0) (within j 0 jl)
        ∙ sym (get_or-map (value_in (node_values (inputs chosen) (latches chosen) s.parts.nodes)) s.nexts j 0 false jl);
  }

  ending_choices : ending.choices ≡ total
  ending_choices = all_choices ins.edges ls.edges s.parts.nodes ls.draft ∙ latches_made.1

  -- the frames so far, with this one
  pub IsUnrolled-more : IsUnrolled s (clauses ++ ending.clauses) (ending.next - 1) next
  IsUnrolled-more =
      let q = rebuilt.sound in
      let last : ending.next - 1 + 1 ≡ ending.next = let b = q.some in omega arith in
      record {
        start = λ e. absurd (let z : suc f.made ≡ 0 = e in omega arith);
        choices = ending_choices;
        sound = λ lt. subst (λ (c : ℕ). IsSoundDraft [] c (record { net = ending.net; choices = ending.choices; lits = ending.lits; next = ending.next - 1 + 1; clauses = clauses ++ ending.clauses; edges = [] })) (sym ending_choices)
            (subst (λ (x : ℕ). IsSoundDraft [] total (record { net = ending.net; choices = ending.choices; lits = ending.lits; next = x; clauses = clauses ++ ending.clauses; edges = [] })) (sym last)
            (record { some = q.some; count = q.count; clauses_below = q.clauses_below; lits_below = q.lits_below; ordered = q.ordered; encodes = q.encodes; edges = All-nil (λ e. e / 2 ≤ length ending.net) }));
        count = λ lt. length-map s.nexts (edge_of ending.edges);
        latches = λ lt. next_latches;
      }

  -- a literal of the frame has the value of its edge
  pub frame_tells : (chosen values : List Bool) → Satisfies values (clauses ++ ending.clauses) → Chooses ending.net ending.lits chosen values → (e : ℕ) → e / 2 ≤ length s.parts.nodes → true_in values (lit_of ending.lits (edge_of ending.edges e)) ≡ value s f.made e (inputs_at s chosen) (free_at s chosen)
  frame_tells chosen values sat c e le =
      lit_follows ending.net ending.lits chosen values (edge_of ending.edges e) (rebuilt.sound.encodes.determined chosen values sat c) (edge_within clauses total ls.draft inputs latches s.parts.nodes ending rebuilt e le)
      ∙ edge_right clauses total ls.draft inputs latches s.parts.nodes ending rebuilt chosen e le

  pub frames_are : ((frame_of s f n).frames ≡ next) × ((frame_of s f n).added ≡ ending.clauses)
  unfolding frame_of
  frames_are = (refl, refl)

  -- edges that have values are told by their literals
  list_tells : (edges : List ℕ) (k : ℕ) (told : List Bool → List Bool) → length edges ≡ k → HaveValues ls.draft.net edges k told → (chosen values : List Bool) → Satisfies values (clauses ++ ending.clauses) → Chooses ending.net ending.lits chosen values
      → (j : ℕ) → j < length (map (lit_of ending.lits) edges) → true_in values (get_or (map (lit_of ending.lits) edges) j 0) ≡ get_or (told chosen) j false
  list_tells edges k told len have chosen values sat c j lt =
      let h : HaveValues ending.net edges k told = subst (λ (z : List Node). HaveValues z edges k told) (sym rebuilt.net) (HaveValues-more ls.draft.net rebuilt.more edges k told have) in
      let jl : j < length edges = (let l = length-map edges (lit_of ending.lits) in omega arith) in
      let jk : j < k = omega arith in
      ap (true_in values) (get_or-map (lit_of ending.lits) edges j 0 0 jl)
      ∙ lit_follows ending.net ending.lits chosen values (get_or edges j 0) (rebuilt.sound.encodes.determined chosen values sat c) (h.within j jk)
      ∙ h.values chosen j jk

  outs_tell : (edges : List ℕ) → All (λ e. e / 2 ≤ length s.parts.nodes) edges → TellValues s (clauses ++ ending.clauses) next f.made (map (lit_of ending.lits) (map (edge_of ending.edges) edges)) edges
  outs_tell edges h chosen values sat c j lt =
      let l = length-map edges (edge_of ending.edges) in
      ap (true_in values) (get_or-map (lit_of ending.lits) (map (edge_of ending.edges) edges) j 0 0 (omega arith) ∙ ap (lit_of ending.lits) (get_or-map (edge_of ending.edges) edges j 0 0 lt))
      ∙ frame_tells chosen values sat c (get_or edges j 0) (h j 0 lt)

  -- each literal of the frame
  pub tells : All (λ e. e / 2 ≤ length s.parts.nodes) s.outs → All (λ e. e / 2 ≤ length s.parts.nodes) s.bads → All (λ e. e / 2 ≤ length s.parts.nodes) s.cons → TellsFrame s (clauses ++ (frame_of s f n).added) f.made (frame_of s f n)
  unfolding frame_of
  tells ho hb hc = record {
    inputs = list_tells ins.edges s.parts.inputs inputs inputs_made.0.count ins_have;
    latches = list_tells ls.edges s.parts.latches latches latches_made.0.count latches_made.0.have;
    outs = outs_tell s.outs ho;
    bads = outs_tell s.bads hb;
    cons = outs_tell s.cons hc;
  }

  -- where nothing was made, the greatest variable stays
  pub IsUnrolled-same : 0 < f.made → ending.net ≡ f.net → ending.lits ≡ f.lits → ending.clauses ≡ [] → IsUnrolled s (clauses ++ ending.clauses) top next
  IsUnrolled-same pos sn sl sc =
      let u' = IsUnrolled-more in
      let o = u.sound pos in
      let cs : clauses ++ ending.clauses ≡ clauses = ap (λ z. clauses ++ z) sc ∙ append-nil clauses in
      let more : f.choices ≤ ending.choices = (let e = enough f.made in omega (arith, ending_choices, u.choices, e)) in
      record {
        start = u'.start;
        choices = u'.choices;
        sound = λ lt. record {
          some = o.some;
          count = ap length sl ∙ o.count ∙ ap (λ z. length z + 1) (sym sn);
          clauses_below = subst (All (λ c. All (λ l. (1 ≤ l / 2) × (l / 2 < top + 1)) c)) (sym cs) o.clauses_below;
          lits_below = subst (All (λ l. (1 ≤ l / 2) × (l / 2 < top + 1))) (sym sl) o.lits_below;
          ordered = subst (λ (z : List Node). IsOrdered (record { inputs = ending.choices; latches = 0; nodes = z })) (sym sn) (IsOrdered-more f.choices ending.choices 0 0 f.net more (omega arith) o.ordered);
          encodes = subst (λ (z : List (List ℕ)). Encodes z ending.net ending.lits) (sym cs) (subst (λ (z : List Node). Encodes clauses z ending.lits) (sym sn) (subst (λ (z : List ℕ). Encodes clauses f.net z) (sym sl) o.encodes));
          edges = All-nil (λ e. e / 2 ≤ length ending.net);
        };
        count = u'.count;
        latches = u'.latches;
      }
