-- One frame more behind others.
use Rattle.std.proofs.Common.{[], ◌∷◌, ◌++◌, refl, sym, ap, ◌∙◌, append_assoc}
use Rattle.std.proofs.lemmas.List.{append-nil}
use Rattle.gi_circuit.specs.Frames.{frame_of}
use Rattle.gi_unroll.specs.Frames.{with_frame}
use Rattle.gi_unroll.specs.OneByOne.{with_frames, clauses_with, IsOneMore, FramesGrow}

pub frames_grow : FramesGrow
unfolding with_frames clauses_with
frames_grow u [] n = record {
  frames = refl;
  system = refl;
  clauses = append-nil (frame_of u.system u.frames n).added;
  above = λ a lt. (lt, tt);
}
frames_grow u (m ∷ ms) n = go (frames_grow (with_frame u m) ms n)
  where
    go : IsOneMore (with_frame u m) ms n → IsOneMore u (m ∷ ms) n
    go h = record {
      frames = h.frames;
      system = h.system;
      clauses = ap (λ cs. (frame_of u.system u.frames m).added ++ cs) h.clauses ∙ sym (append_assoc (frame_of u.system u.frames m).added (clauses_with (with_frame u m) ms) (frame_of (with_frames (with_frame u m) ms).system (with_frames (with_frame u m) ms).frames n).added);
      above = λ a lt. (a.0, h.above a.1 lt);
    }
