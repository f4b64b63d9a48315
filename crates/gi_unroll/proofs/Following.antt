-- Frames one after another encode the circuit, and each keeps its values.
use Rattle.std.proofs.Common.{ℕ, ◌<◌, List, [], ◌∷◌, ◌++◌, refl, sym, ap, ◌∙◌, subst, arith, append_assoc}
use Rattle.std.proofs.lemmas.List.{append-nil}
use Rattle.gi_circuit.specs.Systems.{System, IsCircuit}
use Rattle.gi_circuit.specs.Frames.{Frames, no_frames, frame_of}
use Rattle.gi_circuit.specs.Encoding.{IsUnrolled}
use Rattle.gi_circuit.specs.declared.node.Node.{Node}
use Rattle.gi_unroll.specs.Frames.{Unrolled, unrolled, with_frame, IsUnrolling, TellsFrameAt}
use Rattle.gi_unroll.specs.Laws.{IsContinued}
use Rattle.gi_unroll.specs.OneByOne.{with_frames, clauses_with, AreAbove, AllTell, FramesOneByOne}
use Rattle.gi_unroll.specs.Steps.{empty_draft}
use Rattle.gi_unroll.proofs.Chosen.{none_kept}
use Rattle.gi_unroll.proofs.Continuing.{frames_keep, frames_continue, earlier_stay}

continued_then : (a b c : Frames) → IsContinued a b → IsContinued b c → IsContinued a c
continued_then a b c x y = record {
  count = x.count;
  net = (x.net.0 ++ y.net.0, y.net.1 ∙ ap (λ (ns : List Node). ns ++ y.net.0) x.net.1 ∙ append_assoc a.net x.net.0 y.net.0);
  lits = (x.lits.0 ++ y.lits.0, y.lits.1 ∙ ap (λ (ls : List ℕ). ls ++ y.lits.0) x.lits.1 ∙ append_assoc a.lits x.lits.0 y.lits.0);
}

-- so many frames more, behind clauses that encode those before
record More (u : Unrolled) (earlier : List (List ℕ)) (ns : List ℕ) : Type 0 where
  kept : IsUnrolling (with_frames u ns)
  encoded : IsUnrolled u.system (earlier ++ clauses_with u ns) (with_frames u ns).top (with_frames u ns).frames
  tell : AllTell (earlier ++ clauses_with u ns) (with_frames u ns).frames u ns
  goes : 0 < u.frames.made → IsContinued u.frames (with_frames u ns).frames

more : (u : Unrolled) (earlier : List (List ℕ)) (ns : List ℕ) → IsCircuit u.system → IsUnrolling u → IsUnrolled u.system earlier u.top u.frames → AreAbove u ns → More u earlier ns
unfolding with_frames clauses_with
more u earlier [] c kept encoded above = record {
  kept = kept;
  encoded = subst (λ (cs : List (List ℕ)). IsUnrolled u.system cs u.top u.frames) (sym (append-nil earlier)) encoded;
  tell = tt;
  goes = λ some. record { count = kept.count some; net = ([], sym (append-nil u.frames.net)); lits = ([], sym (append-nil u.frames.lits)) };
}
more u earlier (n ∷ ns) c kept encoded above =
    let k = frames_keep u n c kept above.0 in
    let e = k.encoding earlier encoded in
    let new = with_frame u n in
    let added = (frame_of u.system u.frames n).added in
    let m = more new (earlier ++ added) ns c k.kept e.0 above.1 in
    let some : 0 < new.frames.made = omega (arith, k.made) in
    let all = with_frames new ns in
    let clauses = append_assoc earlier added (clauses_with new ns) in
    record {
      kept = m.kept;
      encoded = subst (λ (cs : List (List ℕ)). IsUnrolled u.system cs all.top all.frames) clauses m.encoded;
      tell = (
        subst (λ (cs : List (List ℕ)). TellsFrameAt u.system cs all.frames u.frames.made (frame_of u.system u.frames n)) clauses
            (earlier_stay u.system (earlier ++ added) (clauses_with new ns) new.frames all.frames u.frames.made (frame_of u.system u.frames n) (m.goes some) e.1),
        subst (λ (cs : List (List ℕ)). AllTell cs all.frames new ns) clauses m.tell,
      );
      goes = λ made. continued_then u.frames new.frames all.frames (frames_continue u n c kept made above.0) (m.goes some);
    }

none_encoded : (s : System) → IsUnrolled s [] 0 no_frames
none_encoded s = record {
  start = λ e. refl;
  choices = refl;
  sound = λ lt. absurd (omega (arith, lt));
  count = λ lt. absurd (omega (arith, lt));
  latches = λ lt. absurd (omega (arith, lt));
}

pub frames_one_by_one : FramesOneByOne
frames_one_by_one s ns c above =
    let m = more (unrolled s) [] ns c (none_kept s empty_draft [] refl) (none_encoded s) above in
    record { kept = m.kept; encoded = m.encoded; tell = m.tell }
