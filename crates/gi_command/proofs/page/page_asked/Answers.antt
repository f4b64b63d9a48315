use Rattle.std.proofs.Common.{◌≡◌, ◌∙◌, length, sym, subst, arith}
use Rattle.std.specs.Prelude.{string_bytes}
use Rattle.gi_command.proofs.Paging.{Paged, paged_one, paged_option, paged_other, paged_start, paged_word}
use Rattle.gi_command.proofs.page.page_asked.Goals as goal
use Rattle.gi_command.proofs.page.page_asked.Goals.{then-is_option, else-is_option}

pub loop-word-init : goal.loop-word-init
loop-word-init c = paged_start (λ word. string_bytes word) c.args.words.now

pub loop-word-preserved : goal.loop-word-preserved
loop-word-preserved c = elim c.if-is_option.branch [
  | then-is_option w ↦ rw (w.options-is, w.page-is, w.page_named-page.ensures, w.as_bytes.ensures.value)
      (paged_option (λ word. string_bytes word) c.args.words.now c.loop-word.word-index c.loop-word.options c.loop-word.page c.word-item.result c.loop-word-test.true (sym c.word-item.is) c.loop-word.invariant
      (sym c.is_option.ensures ∙ w.if-is_option.true))
  | else-is_option w ↦ rw (w.options-is, w.page-is)
      (paged_word (λ word. string_bytes word) c.args.words.now c.loop-word.word-index c.loop-word.options c.loop-word.page c.word-item.result c.loop-word-test.true (sym c.word-item.is) c.loop-word.invariant
      (sym c.is_option.ensures ∙ w.if-is_option.false))
]

pub overflow_add-options : goal.overflow_add-options
overflow_add-options c = let b = c.loop-word.invariant.bound in omega arith

pub returns-then-options-eq1 : goal.returns-then-options-eq1
returns-then-options-eq1 c =
    let end : c.loop-word.word-index ≡ length c.args.words.now = omega arith in
    paged_one (λ word. string_bytes word) c.args.words.now c.loop-word.options c.loop-word.page
    (subst (λ i. Paged (λ word. string_bytes word) c.args.words.now i c.loop-word.options c.loop-word.page) end c.loop-word.invariant) c.if-options-eq1.true

pub returns : goal.returns
returns c =
    let end : c.loop-word.word-index ≡ length c.args.words.now = omega arith in
    paged_other (λ word. string_bytes word) c.args.words.now c.loop-word.options c.loop-word.page
    (subst (λ i. Paged (λ word. string_bytes word) c.args.words.now i c.loop-word.options c.loop-word.page) end c.loop-word.invariant) c.if-options-eq1.false
