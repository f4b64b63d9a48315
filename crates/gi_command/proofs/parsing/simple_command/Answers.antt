use Rattle.std.proofs.Common.{◌≡◌, ◌∙◌, ap, ap₂, rules, true}
use Rattle.std.proofs.lemmas.Result.{IfOk-weaker}
use Rattle.clap.specs.Simple.{app_of, app_of_fields, on_top, with_rule}
use Rattle.clap.specs.Walk.{rule_of}
use Rattle.clap.specs.declared.builder.command.Command.{Command}
use Rattle.clap.specs.declared.builder.command.Command.TheOpen.{Command-F}
use Rattle.gi_command.specs.Parsing.{bare_program, budget_rule, program, quiet_rule, words_rule}
use Rattle.gi_command.proofs.parsing.simple_command.Goals as goal

abbrev without_help : Command-F Command → Command-F Command
without_help f = record f { disable_help_flag = true }

pub returns : goal.returns
unfolding program
returns c =
    let words_is : rule_of c.action-words.result ≡ words_rule = search rules in
    let quiet_is : rule_of c.action-quiet.result ≡ quiet_rule = search rules in
    let budget_is : rule_of c.action-budget.result ≡ budget_rule = search rules in
    let bare_is : app_of c.disable_help_flag.result ≡ bare_program =
    ap app_of_fields (c.disable_help_flag.ensures ∙ ap without_help c.no_binary_name.ensures)
    ∙ ap (on_top (λ s. record s { no_binary_name = true; disable_help_flag = true })) c.new-4.ensures.app in
    let first_is = c.in_ok-arg.ensures.shape (search rules) ∙ ap₂ with_rule bare_is words_is in
    let second_is = c.in_ok-arg-2.ensures.shape (search rules) ∙ ap₂ with_rule first_is quiet_is in
    IfOk-weaker c.arg-3.result _ _ (λ made h. h.shape (search rules) ∙ ap₂ with_rule second_is budget_is) c.arg-3.ensures
