use Rattle.std.proofs.Common.{ℕ, List, [], ◌∷◌, get_or, ◌≢◌, false, drop, ap, sym, ◌∙◌, arith, subst}
use Rattle.gi_text.specs.Words.{words_of, is_white}
use Rattle.gi_text.proofs.WordRuns.{words_skip, words_run, words_nil}
use Rattle.gi_text.proofs.words.split_word.Goals as goal

pub returns-then-n-eq0 : goal.returns-then-n-eq0
returns-then-n-eq0 c =
    words_nil c.args.line.now c.skip-line.result.now c.run_len.result c.run_len.ensures.fits c.run_len.ensures.same c.run_len.ensures.ends c.skip-line.ensures.value
    (λ h. subst (λ (k : ℕ). is_white (get_or c.skip-line.result.now k 0) ≢ false) c.if-n-eq0.true (c.run_len-n.ensures.ends (omega arith)))

pub returns : goal.returns
returns c =
    words_skip c.args.line.now c.run_len.result c.run_len.ensures.fits c.run_len.ensures.same
    ∙ ap words_of (sym c.skip-line.ensures.value)
    ∙ words_run [] c.skip-line.result.now c.run_len-n.result c.run_len-n.ensures.fits c.run_len-n.ensures.same c.run_len-n.ensures.ends (omega arith)
    ∙ ap (λ (xs : List ℕ). xs ∷ words_of (drop c.run_len-n.result c.skip-line.result.now)) (sym c.split_at.ensures.front)
    ∙ ap (λ (xs : List ℕ). c.split_at.result.0.now ∷ words_of xs) (sym c.split_at.ensures.back)
