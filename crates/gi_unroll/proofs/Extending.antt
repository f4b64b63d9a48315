use Rattle.std.proofs.Common.{◌≡◌, ℕ, suc, ◌+◌, ◌/◌, ◌<◌, ◌≤◌, List, [], length, map, sym, ap, ◌∙◌, subst, arith}
use Rattle.std.specs.List.{All, fold}
use Rattle.gi_circuit.specs.Nodes.{IsOrdered}
use Rattle.gi_circuit.specs.Systems.{System, IsCircuit}
use Rattle.gi_circuit.specs.Frames.{Draft, Frames, Along, edge_of, with_node, input_along, draft_of, latches_of, framed, inputs_along, latches_along, rebuilt_draft, frame_of}
use Rattle.gi_unroll.specs.Steps.{IsReady, HasEdges, IsLonger, frames_of, along}
use Rattle.gi_unroll.specs.Frames.{most_of, IsUnrolling, IsFrame}
use Rattle.gi_unroll.specs.declared.frame.Frame.{Frame}
use Rattle.gi_unroll.proofs.Steps.{All-longer, length-longer}
use Rattle.gi_unroll.proofs.Drawing.{begun, latches_drawn, edges_begun, inputs_within, ordered, nodes_drawn, to_latches, all_drawn}

-- the code's steps are the definition's
module _ (s : System) (c : IsCircuit s) (start : Draft) (latches : List ℕ) (made top n : ℕ) (kept : IsUnrolling (record { system = s; frames = frames_of start latches made; top = top })) (above : top < n) where
  abbrev f : Frames
  f = frames_of start latches made

  -- a frame is begun
  module _ (one : Draft) (e1 : one ≡ draft_of (frames_of start [] made) n) where
    pub ready_one : IsReady one
    ready_one = subst IsReady (sym e1) (begun s c f top n kept above).ready

    pub room_one : one.next ≤ n + 1
    room_one = let g = (begun s c f top n kept above).grows.next in let e = ap (λ (d : Draft). d.next) e1 in omega (arith, g, e)

    pub longer_one : IsLonger start one
    longer_one = subst (IsLonger start) (sym e1) (record { net = (begun s c f top n kept above).grows.longer.net; lits = (begun s c f top n kept above).grows.longer.lits })

    -- inputs and latches have edges
    module _ (two : Draft) (ins ls : List ℕ) (ei : ins ≡ (input_along s.parts.inputs (along one [])).edges) (el : along two ls ≡ latches_of s (frames_of one latches made) (record (input_along s.parts.inputs (along one [])) { edges = [] })) where
      inputs_are : ins ≡ (inputs_along s f n).edges
      inputs_are = ei ∙ ap (λ (d : Draft). (input_along s.parts.inputs (along d [])).edges) e1

      latches_are : along two ls ≡ latches_along s f n
      latches_are = el ∙ ap (λ (d : Draft). latches_of s (frames_of d latches made) (record (input_along s.parts.inputs (along d [])) { edges = [] })) e1

      two_is : two ≡ (latches_along s f n).draft
      two_is = ap (λ (a : Along). a.draft) latches_are

      ls_is : ls ≡ (latches_along s f n).edges
      ls_is = ap (λ (a : Along). a.edges) latches_are

      pub ready_two : IsReady two
      ready_two = subst IsReady (sym two_is) (latches_drawn s c f top n kept above).ready

      pub room_two : two.next ≤ n + (1 + s.parts.inputs + s.parts.latches)
      room_two = let g = (to_latches s c f top n kept above).next in let e = ap (λ (d : Draft). d.next) two_is in omega (arith, g, e)

      pub edges_two : HasEdges 0 two
      edges_two = subst (HasEdges 0) (sym two_is) (edges_begun s c f top n kept above)

      pub ordered_two : IsOrdered (record { inputs = length ins; latches = length ls; nodes = s.parts.nodes })
      ordered_two = subst (λ (z : List ℕ). IsOrdered (record { inputs = length z; latches = length ls; nodes = s.parts.nodes })) (sym inputs_are) (subst (λ (z : List ℕ). IsOrdered (record { inputs = length (inputs_along s f n).edges; latches = length z; nodes = s.parts.nodes })) (sym ls_is) (ordered s c f top n kept above))

      pub inputs_two : All (λ e. e / 2 ≤ length two.net) ins
      inputs_two = subst (λ (z : List ℕ). All (λ e. e / 2 ≤ length two.net) z) (sym inputs_are) (subst (λ (d : Draft). All (λ e. e / 2 ≤ length d.net) (inputs_along s f n).edges) (sym two_is) (inputs_within s c f top n kept above))

      pub latches_two : All (λ e. e / 2 ≤ length two.net) ls
      latches_two = subst (λ (z : List ℕ). All (λ e. e / 2 ≤ length two.net) z) (sym ls_is) (subst (λ (d : Draft). All (λ e. e / 2 ≤ length d.net) (latches_along s f n).edges) (sym two_is) (latches_drawn s c f top n kept above).within)

      pub longer_two : IsLonger start two
      longer_two = subst (IsLonger start) (sym two_is) (record { net = (to_latches s c f top n kept above).longer.net; lits = (to_latches s c f top n kept above).longer.lits })

      -- all nodes have edges
      module _ (three : Draft) (e3 : three ≡ fold (with_node ins ls) two s.parts.nodes) where
        three_is : three ≡ rebuilt_draft s f n
        three_is =
            e3
            ∙ ap (λ z. fold (with_node z ls) two s.parts.nodes) inputs_are
            ∙ ap (λ z. fold (with_node (inputs_along s f n).edges z) two s.parts.nodes) ls_is
            ∙ ap (λ (z : Draft). fold (with_node (inputs_along s f n).edges (latches_along s f n).edges) z s.parts.nodes) two_is

        pub edges_three : HasEdges (length s.parts.nodes) three
        edges_three = subst (λ (d : Draft). HasEdges (length s.parts.nodes) d) (sym three_is) (record { count = (nodes_drawn s c f top n kept above).edges.count ∙ (let e : 0 + length s.parts.nodes + 1 ≡ length s.parts.nodes + 1 = omega arith in e); within = (nodes_drawn s c f top n kept above).edges.within })

        pub ready_three : IsReady three
        ready_three = subst IsReady (sym three_is) (nodes_drawn s c f top n kept above).ready

        pub from_three : n ≤ three.next
        from_three = let g = (all_drawn s c f top n kept above).from in let e = ap (λ (d : Draft). d.next) three_is in omega (arith, g, e)

        pub longer_three : IsLonger start three
        longer_three = subst (IsLonger start) (sym three_is) (record { net = (all_drawn s c f top n kept above).longer.net; lits = (all_drawn s c f top n kept above).longer.lits })

        nodes_grow : length two.net ≤ length three.net
        nodes_grow = subst (λ (d : Draft). length d.net ≤ length three.net) (sym two_is) (subst (λ (d : Draft). length (latches_along s f n).draft.net ≤ length d.net) (sym three_is) (length-longer (latches_along s f n).draft (rebuilt_draft s f n) (nodes_drawn s c f top n kept above).grows.longer))

        pub inputs_three : All (λ e. e / 2 ≤ length three.net) ins
        inputs_three = All-longer (length two.net) (length three.net) ins nodes_grow inputs_two

        pub latches_three : All (λ e. e / 2 ≤ length three.net) ls
        latches_three = All-longer (length two.net) (length three.net) ls nodes_grow latches_two

        -- what is given is the frame
        pub frame_is : (r : Frame) → IsFrame r made (framed s (frames_of three [] made) n ins ls three) → IsFrame r made (frame_of s f n)
        unfolding frame_of
        frame_is r h =
            subst (λ (d : Draft). IsFrame r made (framed s f n (inputs_along s f n).edges (latches_along s f n).edges d)) three_is
            (subst (λ (z : List ℕ). IsFrame r made (framed s f n (inputs_along s f n).edges z three)) ls_is
            (subst (λ (z : List ℕ). IsFrame r made (framed s f n z ls three)) inputs_are h))

        pub frames_are : (four : Draft) (nexts : List ℕ) → four ≡ record three { clauses = [] } → nexts ≡ map (edge_of three.edges) s.nexts → frames_of four nexts (made + 1) ≡ (frame_of s f n).frames
        unfolding frame_of
        frames_are four nexts ef en =
            ap (λ (d : Draft). frames_of d nexts (made + 1)) ef
            ∙ ap (λ z. frames_of three z (made + 1)) en
            ∙ ap (λ (d : Draft). frames_of d (map (edge_of d.edges) s.nexts) (made + 1)) three_is
            ∙ ap (λ k. frames_of (rebuilt_draft s f n) (map (edge_of (rebuilt_draft s f n).edges) s.nexts) k) (let e : made + 1 ≡ suc made = omega arith in e)

        pub fresh_is : (r : Frame) → IsFrame r made (framed s (frames_of three [] made) n ins ls three) → r.fresh ≤ most_of s
        fresh_is r h =
            let a = ap (λ (z : Frame). z.fresh) h in
            let g = (all_drawn s c f top n kept above).next in
            let e = ap (λ (d : Draft). d.next) three_is in
            omega (arith, a, g, e)
