-- What is counted among the answers.
use Rattle.std.specs.Prelude.{ℕ, ◌+◌, min, List, [], ◌∷◌}
use Rattle.gi_model.specs.History.{Entry}
use Rattle.gi_model.specs.declared.calls.Call.{Call}
use Rattle.gi_model.specs.declared.calls.Call.TheVariants.{Vars, Add, Wait}
use Rattle.gi_model.specs.declared.replies.Reply.{Reply}
use Rattle.gi_model.specs.declared.replies.Reply.TheVariants as reply
use Rattle.gi_model.specs.declared.replies.Status.{Status}
use Rattle.gi_model.specs.declared.replies.Status.TheVariants as status
use Rattle.gi_drill.specs.declared.kind.Kind.{Kind}
use Rattle.gi_drill.specs.declared.kind.Kind.TheVariants as kind
use Rattle.gi_drill.specs.declared.tally.Tally.{Tally}

-- nothing counted yet
abbrev pub new_tally : Tally
new_tally = record { vars = 0; clauses = 0; sat = 0; unsat = 0 }

-- one more; the count stands still at its type's end
unfoldable pub raised : ℕ → ℕ
raised n = min (n + 1) 18446744073709551615

-- the number of variables as last told
abbrev pub vars_noted : Tally → Reply → Tally
vars_noted t (reply.Vars n) = record t { vars = n }
vars_noted t other = t

-- a clause that was taken
abbrev pub add_noted : Tally → Reply → Tally
add_noted t reply.Done = record t { clauses = raised t.clauses }
add_noted t other = t

abbrev pub status_noted : Tally → Status → Tally
status_noted t status.Sat = record t { sat = raised t.sat }
status_noted t other = t

-- a solve that ended with a model, or with a failing set
abbrev pub wait_noted : Tally → Reply → Tally
wait_noted t (reply.Status serial status) = status_noted t status
wait_noted t (reply.Unsat serial failed) = record t { unsat = raised t.unsat }
wait_noted t other = t

-- what of a call's reply is noted
abbrev pub kind_of : Call → Kind
kind_of (Vars k) = kind.Vars
kind_of (Add c) = kind.Add
kind_of Wait = kind.Wait
kind_of call = kind.Other

abbrev pub kind_noted : Tally → Kind → Reply → Tally
kind_noted t kind.Vars answer = vars_noted t answer
kind_noted t kind.Add answer = add_noted t answer
kind_noted t kind.Wait answer = wait_noted t answer
kind_noted t kind.Other answer = t

-- with one more entry
abbrev pub noted : Tally → Call → Reply → Tally
noted t call answer = kind_noted t (kind_of call) answer

-- with these entries
unfoldable pub tally_from : Tally → List Entry → Tally
tally_from t [] = t
tally_from t (e ∷ es) = tally_from (noted t e.call e.reply) es

abbrev pub tally_of : List Entry → Tally
tally_of entries = tally_from new_tally entries
