use Rattle.std.proofs.Common.{ℕ, List, IfOk, IsTrue, ◌↔◌, sym, subst}
use Rattle.gi_model.specs.declared.replies.Reply.{Reply}
use Rattle.gi_kept.specs.Exchanges.{IsTrueReply}
use Rattle.gi_kept.specs.Truth.{IsTrueTo}
use Rattle.gi_call.proofs.server.believes.Goals as goal

pub returns-in-Model : goal.returns-in-Model
returns-in-Model c =
    subst (λ (r : Reply). IfOk c.is_true.result (λ told. IsTrue told ↔ IsTrueReply c.args.kept.now r)) (sym c.in-Model.is)
    (subst (λ (ls : List ℕ). IfOk c.is_true.result (λ told. IsTrue told ↔ IsTrueTo c.args.kept.now ls)) c.as_slice.ensures c.is_true.ensures)
