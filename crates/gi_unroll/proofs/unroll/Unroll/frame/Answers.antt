use Rattle.std.proofs.Common.{◌≡◌, ℕ, ◌+◌, ◌<◌, List, sym, ap, ◌∙◌, subst, arith}
use Rattle.gi_circuit.specs.Frames.{Frames, frame_of}
use Rattle.gi_unroll.specs.Steps.{frames_of}
use Rattle.gi_unroll.specs.Frames.{Unrolled, top_after, IsUnrolling, KeepsEncoding, KeepsLiterals, NamesVariables, IsShort}
use Rattle.gi_unroll.specs.declared.frame.Frame.{Frame}
use Rattle.gi_unroll.proofs.Adding.{IsKept-frame, literals_kept, encoding_kept, variables_named, few_clauses}
use Rattle.gi_unroll.proofs.unroll.Unroll.frame.Goals as goal

pub invariant_of-self : goal.invariant_of-self
invariant_of-self c =
    let above : c.self.inside.top < c.args.next_var = (let t = ap (λ (u : Unrolled). u.top) c.self.view_is in omega (arith, t, c.requires.above)) in
    let frames : frames_of c.extend.new.builder c.in-Ok.extended.nexts.items (c.self.inside.made + 1) ≡ (frame_of c.self.inside.circuit (frames_of c.self.inside.builder c.self.inside.latches.items c.self.inside.made) c.args.next_var).frames =
    c.in-Ok.ensures.frames ∙ ap (λ (ls : List ℕ). (frame_of c.self.inside.circuit (frames_of c.self.inside.builder ls c.self.inside.made) c.args.next_var).frames) c.deref.ensures.value in
    let fresh : c.in-Ok.extended.frame.fresh ≡ (frame_of c.self.inside.circuit (frames_of c.self.inside.builder c.self.inside.latches.items c.self.inside.made) c.args.next_var).fresh =
    ap (λ (r : Frame). r.fresh) c.in-Ok.ensures.frame ∙ ap (λ (ls : List ℕ). (frame_of c.self.inside.circuit (frames_of c.self.inside.builder ls c.self.inside.made) c.args.next_var).fresh) c.deref.ensures.value in
    let top : c.top_after-self-inside.result ≡ top_after c.self.inside.top c.args.next_var (frame_of c.self.inside.circuit (frames_of c.self.inside.builder c.self.inside.latches.items c.self.inside.made) c.args.next_var).fresh =
    c.top_after-self-inside.ensures ∙ ap (top_after c.self.inside.top c.args.next_var) fresh in
    subst (λ (z : Frames). IsUnrolling (record { system = c.self.inside.circuit; frames = z; top = c.top_after-self-inside.result })) (sym frames)
    (subst (λ (t : ℕ). IsUnrolling (record { system = c.self.inside.circuit; frames = (frame_of c.self.inside.circuit (frames_of c.self.inside.builder c.self.inside.latches.items c.self.inside.made) c.args.next_var).frames; top = t })) (sym top)
    (IsKept-frame c.self.inside.circuit c.counts-counts.ensures.circuit (frames_of c.self.inside.builder c.self.inside.latches.items c.self.inside.made) c.self.inside.top c.args.next_var c.self.invariant above))

pub returns-in-Ok-clause-encodes : goal.returns-in-Ok-clause-encodes
returns-in-Ok-clause-encodes c =
    let above : c.self.inside.top < c.args.next_var = (let t = ap (λ (u : Unrolled). u.top) c.self.view_is in omega (arith, t, c.requires.above)) in
    subst (λ (u : Unrolled). KeepsEncoding u c.args.next_var) c.self.view_is (encoding_kept c.self.inside.circuit c.counts-counts.ensures.circuit (frames_of c.self.inside.builder c.self.inside.latches.items c.self.inside.made) c.self.inside.top c.args.next_var c.self.invariant above)

pub returns-in-Ok-clause-literals : goal.returns-in-Ok-clause-literals
returns-in-Ok-clause-literals c =
    let above : c.self.inside.top < c.args.next_var = (let t = ap (λ (u : Unrolled). u.top) c.self.view_is in omega (arith, t, c.requires.above)) in
    subst (λ (u : Unrolled). KeepsLiterals u c.args.next_var) c.self.view_is (literals_kept c.self.inside.circuit c.counts-counts.ensures.circuit (frames_of c.self.inside.builder c.self.inside.latches.items c.self.inside.made) c.self.inside.top c.args.next_var c.self.invariant above)

pub returns-in-Ok-clause-names : goal.returns-in-Ok-clause-names
returns-in-Ok-clause-names c =
    let above : c.self.inside.top < c.args.next_var = (let t = ap (λ (u : Unrolled). u.top) c.self.view_is in omega (arith, t, c.requires.above)) in
    subst (λ (u : Unrolled). NamesVariables u c.args.next_var) c.self.view_is (variables_named c.self.inside.circuit c.counts-counts.ensures.circuit (frames_of c.self.inside.builder c.self.inside.latches.items c.self.inside.made) c.self.inside.top c.args.next_var c.self.invariant above)

pub returns-in-Ok-clause-short : goal.returns-in-Ok-clause-short
returns-in-Ok-clause-short c =
    let above : c.self.inside.top < c.args.next_var = (let t = ap (λ (u : Unrolled). u.top) c.self.view_is in omega (arith, t, c.requires.above)) in
    let added : c.in-Ok.extended.frame.added ≡ (frame_of c.self.inside.circuit (frames_of c.self.inside.builder c.self.inside.latches.items c.self.inside.made) c.args.next_var).added =
    ap (λ (r : Frame). r.added) c.in-Ok.ensures.frame ∙ ap (λ (ls : List ℕ). (frame_of c.self.inside.circuit (frames_of c.self.inside.builder ls c.self.inside.made) c.args.next_var).added) c.deref.ensures.value in
    subst (λ (u : Unrolled). IsShort u.system c.in-Ok.extended.frame.added) c.self.view_is
    (subst (IsShort c.self.inside.circuit) (sym added) (few_clauses c.self.inside.circuit c.counts-counts.ensures.circuit (frames_of c.self.inside.builder c.self.inside.latches.items c.self.inside.made) c.self.inside.top c.args.next_var c.self.invariant above))
