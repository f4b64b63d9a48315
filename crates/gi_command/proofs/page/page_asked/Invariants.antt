use Rattle.std.specs.Prelude.{string_bytes}
use Rattle.gi_command.proofs.Paging.{Paged}
use Rattle.gi_command.proofs.page.page_asked.Given as goal

abbrev pub invariant-loop-word : goal.invariant-loop-word
invariant-loop-word l = Paged (λ word. string_bytes word) l.words l.word-index l.options l.page
