-- Promptness of a tape that goes on.
use Rattle.std.proofs.Common.{◌≡◌, ℕ, ◌≤◌, List, [], ◌∷◌, ◌++◌, length, map, false, refl, ap, sym, ◌∙◌, append_assoc, arith, length-append, subst}
use Rattle.std.specs.List.{AllByRecursion, flat_map}
use Rattle.std.proofs.lemmas.List.{append-nil, map-append, length-map}
use Rattle.gi_outside.specs.Link.{ins, outs}
use Rattle.gi_outside.specs.declared.link.Piece.{Piece}
use Rattle.gi_outside.specs.declared.link.Piece.TheVariants.{In, Out}
use Rattle.gi_model.specs.History.{Entry}
use Rattle.gi_net.specs.Entries.{replies}
use Rattle.gi_wire.specs.Items.{items}
use Rattle.gi_net.specs.Answers.{Answer, answers, calls, texts}
use Rattle.gi_net.specs.Served.{IsQuiet, IsShort, PromptFrom}
use Rattle.gi_net.proofs.Answering.{answers_kept}

-- with more entries
pub prompt_kept : (own more : List Entry) (i o : List ℕ) (tape : List Piece) → PromptFrom own i o tape → PromptFrom (own ++ more) i o tape
prompt_kept own more i o [] h = tt
prompt_kept own more i o (In b ∷ tape) h =
    let enough : length (calls (items false i)) ≤ length (own ++ more) = omega (arith, h.0.0, length-append own more) in
    let few : length (calls (items false i)) ≤ length (replies own) = omega (arith, h.0.0, length-map own (λ (e : Entry). e.reply)) in
    let same : answers (items false i) (replies (own ++ more)) ≡ answers (items false i) (replies own) =
    ap (answers (items false i)) (map-append (λ (e : Entry). e.reply) own more) ∙ answers_kept (items false i) (replies own) (replies more) few in
    ((enough, h.0.1 ∙ ap texts (sym same), subst (λ (xs : List Answer). AllByRecursion IsQuiet xs) (sym same) h.0.2), prompt_kept own more (i ++ b) o tape h.1)
prompt_kept own more i o (Out b ∷ tape) h = prompt_kept own more i (o ++ b) tape h

-- with one tape behind another
pub prompt_on : (own : List Entry) (i o : List ℕ) (t u : List Piece) → PromptFrom own i o t → PromptFrom own (i ++ ins t) (o ++ outs t) u → PromptFrom own i o (t ++ u)
unfolding ins outs
prompt_on own i o [] u h k = subst (λ (p : List ℕ × List ℕ). PromptFrom own p.0 p.1 u) (ap (λ (xs : List ℕ). (xs, o ++ [])) (append-nil i) ∙ ap (λ (xs : List ℕ). (i, xs)) (append-nil o)) k
prompt_on own i o (In b ∷ t) u h k = (h.0, prompt_on own (i ++ b) o t u h.1 (subst (λ (xs : List ℕ). PromptFrom own xs (o ++ outs t) u) (sym (append_assoc i b (ins t))) k))
prompt_on own i o (Out b ∷ t) u h k = prompt_on own i (o ++ b) t u h (subst (λ (xs : List ℕ). PromptFrom own (i ++ ins t) xs u) (sym (append_assoc o b (outs t))) k)

-- writes alone
pub prompt_outs : (own : List Entry) (i o : List ℕ) (ps : List (List ℕ)) → PromptFrom own i o (map Out ps)
prompt_outs own i o [] = tt
prompt_outs own i o (p ∷ ps) = prompt_outs own i (o ++ p) ps

pub outs_of_outs : (ps : List (List ℕ)) → outs (map Out ps) ≡ flat_map (λ p. p) ps
unfolding outs
outs_of_outs [] = refl
outs_of_outs (p ∷ ps) = ap (λ xs. p ++ xs) (outs_of_outs ps)

pub ins_of_outs : (ps : List (List ℕ)) → ins (map Out ps) ≡ []
unfolding ins
ins_of_outs [] = refl
ins_of_outs (p ∷ ps) = ins_of_outs ps

pub short_outs : (ps : List (List ℕ)) → AllByRecursion IsShort (map Out ps)
short_outs [] = tt
short_outs (p ∷ ps) = (tt, short_outs ps)
