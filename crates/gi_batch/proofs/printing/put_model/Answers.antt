use Rattle.std.proofs.Common.{◌≡◌, ℕ, ◌/◌, List, [], ◌++◌, length, subst, arith}
use Rattle.std.specs.List.{flat_map, range_with_len}
use Rattle.std.specs.Fork.{slice_chunk}
use Rattle.gi_outside.specs.Outbox.{Stands}
use Rattle.gi_batch.specs.Output.{line_text, model_text, words_of}
use Rattle.gi_batch.proofs.Lines.{lines_more}
use Rattle.gi_batch.proofs.printing.put_model.Goals as goal

pub loop-i-preserved : goal.loop-i-preserved
loop-i-preserved g c = λ start h.
    subst (λ (text : List ℕ). Stands start (g.L.Link.state c.put_full_line.new.user) c.put_full_line.new.outbox text)
    (lines_more (λ i. line_text (slice_chunk (words_of c.args.literals.now) 12 i)) [] c.loop-i.i)
    (c.put_full_line.ensures start _ (c.loop-i.invariant start h))

pub returns : goal.returns
unfolding model_text
returns g c = λ start h.
    let f : ℕ → List ℕ = λ i. line_text (slice_chunk (words_of c.args.literals.now) 12 i) in
    let is : c.loop-i.i ≡ length c.args.literals.now / 12 = omega arith in
    let all : Stands start (g.L.Link.state c.loop-i.user) c.loop-i.outbox ([] ++ flat_map f (range_with_len 0 (length c.args.literals.now / 12)))
    = subst (λ n. Stands start (g.L.Link.state c.loop-i.user) c.loop-i.outbox ([] ++ flat_map f (range_with_len 0 n))) is (c.loop-i.invariant start h) in
    subst (λ (text : List ℕ). Stands start (g.L.Link.state c.put_last_line.new.user) c.put_last_line.new.outbox text) (lines_more f [] (length c.args.literals.now / 12)) (c.put_last_line.ensures start _ all)
