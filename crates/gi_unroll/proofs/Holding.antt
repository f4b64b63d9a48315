-- The clauses of frames say what traces are.
use Rattle.std.proofs.Common.{◌≡◌, ◌≢◌, ℕ, suc, ◌+◌, ◌-◌, ◌*◌, ◌/◌, ◌<◌, ◌≤◌, Bool, true, false, List, [], ◌∷◌, length, get_or, refl, sym, ap, ◌∙◌, subst, arith}
use Rattle.std.specs.List.{All}
use Rattle.std.proofs.lemmas.List.{length-map}
use Rattle.std.proofs.lemmas.List.Elements.{All-nil}
use Rattle.gi_lit.specs.Truth.{true_in, clause_true, Satisfies}
use Rattle.gi_circuit.specs.Systems.{System, IsCircuit}
use Rattle.gi_circuit.specs.Frames.{Frames, Framed, frame_of, lit_of, inputs_along, latches_along, rebuilt_draft}
use Rattle.gi_circuit.specs.Encoding.{Chooses, inputs_at, free_at}
use Rattle.gi_unroll.specs.Frames.{Unrolled, unrolled, with_frame, IsUnrolling, TellsFrameAt}
use Rattle.gi_unroll.specs.Choices.{choice_of, SameTrace, packed}
use Rattle.gi_unroll.specs.Laws.{HasOneExtension}
use Rattle.gi_unroll.specs.Steps.{empty_draft}
use Rattle.gi_unroll.specs.OneByOne.{with_frames, clauses_with, AreAbove, AllTell, AreUnrolled}
use Rattle.gi_unroll.specs.Traces.{HoldsTrace, AllHold, FramesAreTraces, NoFrameSaysNothing}
use Rattle.gi_unroll.proofs.Drawing.{inputs_drawn, latches_drawn}
use Rattle.gi_unroll.proofs.Extensions.{one_extension}
use Rattle.gi_unroll.proofs.Continuing.{frames_keep}
use Rattle.gi_unroll.proofs.Chosen.{values_choose, none_kept}
use Rattle.gi_unroll.proofs.Tracing.{values_depend, traces_packed}
use Rattle.gi_unroll.proofs.Following.{frames_one_by_one}

-- a frame's literals of inputs and latches are as many as these
input_count : (u : Unrolled) (n : ℕ) → IsCircuit u.system → IsUnrolling u → u.top < n → length (frame_of u.system u.frames n).inputs ≡ u.system.parts.inputs
unfolding frame_of
input_count u n c kept above =
    length-map (inputs_along u.system u.frames n).edges (lit_of (rebuilt_draft u.system u.frames n).lits)
    ∙ (inputs_drawn u.system c u.frames u.top n kept above).count

latch_count : (u : Unrolled) (n : ℕ) → IsCircuit u.system → IsUnrolling u → u.top < n → length (frame_of u.system u.frames n).latches ≡ u.system.parts.latches
unfolding frame_of
latch_count u n c kept above =
    length-map (latches_along u.system u.frames n).edges (lit_of (rebuilt_draft u.system u.frames n).lits)
    ∙ (latches_drawn u.system c u.frames u.top n kept above).count

-- where the clauses hold, each frame holds the trace that was chosen
module _ (clauses : List (List ℕ)) (all : Frames) (chosen values : List Bool) (sat : Satisfies values clauses) (choose : Chooses all.net all.lits chosen values) where
  frame_holds : (s : System) (t : ℕ) (g : Framed) → length g.inputs ≡ s.parts.inputs → length g.latches ≡ s.parts.latches → TellsFrameAt s clauses all t g → HoldsTrace s (inputs_at s chosen) (free_at s chosen) values t g
  frame_holds s t g ins ls tells = record {
    input_count = ins;
    latch_count = ls;
    inputs_hold = tells.inputs chosen values sat choose;
    latches_hold = tells.latches chosen values sat choose;
    outs_hold = tells.outs chosen values sat choose;
    bads_hold = tells.bads chosen values sat choose;
    cons_hold = tells.cons chosen values sat choose;
  }

  all_hold : (u : Unrolled) (ns : List ℕ) → IsCircuit u.system → IsUnrolling u → AreAbove u ns → AllTell clauses all u ns → AllHold (inputs_at u.system chosen) (free_at u.system chosen) values u ns
  all_hold u [] c kept above tell = tt
  all_hold u (n ∷ ns) c kept above tell = (
    frame_holds u.system u.frames.made (frame_of u.system u.frames n) (input_count u n c kept above.0) (latch_count u n c kept above.0) tell.0,
    all_hold (with_frame u n) ns c (frames_keep u n c kept above.0).kept above.1 tell.1,
  )

-- what holds a trace holds each that is the same up to the time
module _ (s : System) (c : IsCircuit s) (last : ℕ) (inputs others : ℕ → List Bool) (free rest values : List Bool) (same : SameTrace s last inputs others free rest) where
  up_to : (t : ℕ) → t ≤ last → SameTrace s t inputs others free rest
  up_to t le = record { inputs_agree = λ u lt. same.inputs_agree u (omega (arith, le, lt)); free_agree = same.free_agree }

  frame_same : (t : ℕ) (g : Framed) → t ≤ last → HoldsTrace s inputs free values t g → HoldsTrace s others rest values t g
  frame_same t g le h =
      let count = h.input_count in
      let depend = values_depend s c in
      record {
        input_count = h.input_count;
        latch_count = h.latch_count;
        inputs_hold = λ j lt. h.inputs_hold j lt ∙ (up_to t le).inputs_agree t (omega arith) j (omega (arith, lt, count));
        latches_hold = λ j lt. h.latches_hold j lt ∙ ap (λ (vs : List Bool). get_or vs j false) (depend.latches t inputs others free rest (up_to t le));
        outs_hold = λ j lt. h.outs_hold j lt ∙ depend.edges t (get_or s.outs j 0) inputs others free rest (up_to t le);
        bads_hold = λ j lt. h.bads_hold j lt ∙ depend.edges t (get_or s.bads j 0) inputs others free rest (up_to t le);
        cons_hold = λ j lt. h.cons_hold j lt ∙ depend.edges t (get_or s.cons j 0) inputs others free rest (up_to t le);
      }

-- a frame more counts as one
made_one : (u : Unrolled) (n : ℕ) → (with_frame u n).frames.made ≡ suc u.frames.made
unfolding frame_of
made_one u n = refl

made_all : (u : Unrolled) (ns : List ℕ) → (with_frames u ns).frames.made ≡ u.frames.made + length ns
unfolding with_frames
made_all u [] = omega arith
made_all u (n ∷ ns) = omega (arith, made_all (with_frame u n) ns, made_one u n)

all_same : (u : Unrolled) (ns : List ℕ) (last : ℕ) (inputs others : ℕ → List Bool) (free rest values : List Bool) → IsCircuit u.system → u.frames.made + length ns ≤ suc last → SameTrace u.system last inputs others free rest
    → AllHold inputs free values u ns → AllHold others rest values u ns
all_same u [] last inputs others free rest values c le same h = tt
all_same u (n ∷ ns) last inputs others free rest values c le same h = (
  frame_same u.system c last inputs others free rest values same u.frames.made (frame_of u.system u.frames n) (omega (arith, le)) h.0,
  all_same (with_frame u n) ns last inputs others free rest values c (omega (arith, le, made_one u n)) same h.1,
)

none_satisfied : (values : List Bool) → Satisfies values []
none_satisfied values = record { each = All-nil (λ c. clause_true values c ≡ true) }

no_clauses : (s : System) → clauses_with (unrolled s) [] ≡ []
unfolding clauses_with
no_clauses s = refl

read_trace : (s : System) (ns : List ℕ) → IsCircuit s → AreAbove (unrolled s) ns → AreUnrolled s ns → (values : List Bool) → Satisfies values (clauses_with (unrolled s) ns)
    → (inputs : ℕ → List Bool) × (free : List Bool) × AllHold inputs free values (unrolled s) ns
read_trace s ns c above all values sat =
    let f = (with_frames (unrolled s) ns).frames in
    let chosen = choice_of values f.net f.lits in
    (inputs_at s chosen, free_at s chosen, all_hold (clauses_with (unrolled s) ns) f chosen values sat (values_choose (with_frames (unrolled s) ns) all.kept values) (unrolled s) ns c (none_kept s empty_draft [] refl) above all.tell)

held_trace : (s : System) (ns : List ℕ) → IsCircuit s → AreAbove (unrolled s) ns → AreUnrolled s ns → (inputs : ℕ → List Bool) (free others : List Bool)
    → (values : List Bool) × Satisfies values (clauses_with (unrolled s) ns) × AllHold inputs free values (unrolled s) ns
    × ((v : ℕ) → 1 ≤ v → All (λ l. l / 2 ≢ v) (with_frames (unrolled s) ns).frames.lits → true_in values (2 * v) ≡ true_in others (2 * v))
held_trace s [] c above all inputs free others = (others, subst (Satisfies others) (sym (no_clauses s)) (none_satisfied others), tt, (λ v some apart. refl))
held_trace s (n ∷ ns) c above all inputs free others =
    let every = with_frames (unrolled s) (n ∷ ns) in
    let f = every.frames in
    let made = made_all (unrolled s) (n ∷ ns) in
    let some : 0 < f.made = omega (arith, made) in
    let last = f.made - 1 in
    let chosen = packed s inputs free last in
    let clauses = clauses_with (unrolled s) (n ∷ ns) in
    let e = (one_extension s clauses every.top f all.encoded some).exists chosen others in
    let holds = all_hold clauses f chosen e.0 e.1 e.2 (unrolled s) (n ∷ ns) c (none_kept s empty_draft [] refl) above all.tell in (
      e.0,
      e.1,
      all_same (unrolled s) (n ∷ ns) last (inputs_at s chosen) inputs (free_at s chosen) free e.0 c (omega (arith, made, some)) (traces_packed s last inputs free) holds,
      e.3,
    )

pub frames_are_traces : FramesAreTraces
frames_are_traces s ns c above =
    let all = frames_one_by_one s ns c above in
    record { trace = read_trace s ns c above all; held = held_trace s ns c above all }

-- with no frame there is no node, and no literal
none_extends : (f : Frames) → f.net ≡ [] → f.lits ≡ [] → HasOneExtension [] f
none_extends f net lits =
    let no_nodes : length f.net ≡ 0 = ap length net in
    let no_lits : length f.lits ≡ 0 = ap length lits in
    record {
      exists = λ chosen others. (others, none_satisfied others, (λ k j lt. absurd (omega (arith, lt, no_nodes))), (λ v some apart. refl));
      one = λ chosen values others sat sat' choose choose' v h. let lt = h.1 in absurd (omega (arith, lt, no_lits));
    }

pub no_frame_says : NoFrameSaysNothing
no_frame_says u clauses kept encoded none =
    let start = kept.start none in
    let no_clauses = encoded.start none in
    (no_clauses, subst (λ (cs : List (List ℕ)). HasOneExtension cs u.frames) (sym no_clauses) (none_extends u.frames start.0 start.1))
