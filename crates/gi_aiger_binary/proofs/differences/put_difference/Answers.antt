use Rattle.std.proofs.Common.{◌++◌, ℕ, ◌+◌, ◌/◌, ◌%◌, List, [], ◌∷◌, Result, Ok, Err, OnOk, append_assoc, sym, ap, ◌∙◌}
use Rattle.gi_aiger_binary.specs.Differences.{groups_of}
use Rattle.gi_aiger_binary.proofs.Grouping.{groups_last, groups_more}
use Rattle.gi_aiger_binary.proofs.differences.put_difference.Goals as goal

pub groups-preserved : goal.groups-preserved
groups-preserved c =
    ap (λ (xs : List ℕ). xs ++ groups_of (c.groups.rest / 128)) c.in_ok-extend.ensures.ok
    ∙ append_assoc c.groups.out ((c.groups.rest % 128 + 128) ∷ []) (groups_of (c.groups.rest / 128))
    ∙ ap (λ (xs : List ℕ). c.groups.out ++ xs) (sym (groups_more c.groups.rest c.groups-test.true))
    ∙ c.groups.invariant

on_ok : {T E : Type 0} (r : Result T E) (P Q : Type 0) → (P → Q) → OnOk r P → OnOk r Q
on_ok (Ok x) P Q f p = f p
on_ok (Err e) P Q f p = tt

pub returns : goal.returns
returns c = on_ok c.extend-2.result _ _ (λ e. e ∙ ap (λ (xs : List ℕ). c.groups.out ++ xs) (sym (groups_last c.groups.rest c.groups-test.false)) ∙ c.groups.invariant) c.extend-2.ensures.ok
