-- Turns on a tape that goes on.
use Rattle.std.proofs.Common.{◌≡◌, ℕ, Bool, List, [], ◌∷◌, ◌++◌, map, ap, sym, ◌∙◌, subst, append_assoc}
use Rattle.std.specs.List.{flat_map}
use Rattle.std.proofs.lemmas.List.{append-nil}
use Rattle.gi_outside.specs.Link.{ins, outs}
use Rattle.gi_outside.specs.declared.link.Piece.{Piece}
use Rattle.gi_outside.specs.declared.link.Piece.TheVariants.{In, Out}
use Rattle.gi_model.specs.declared.calls.Call.{Call}
use Rattle.gi_kept.specs.Exchanges.{Exchange}
use Rattle.gi_wire.specs.CallText.{call_text}
use Rattle.gi_call.specs.Exchanged.{Heard, IsTurn, TurnsFrom, call_texts}

turn_kept : (es more : List Exchange) (came written : List ℕ) → IsTurn es came written → IsTurn (es ++ more) came written
turn_kept es more came written t = record {
  done = t.done;
  later = t.later ++ more;
  split = ap (λ xs. xs ++ more) t.split ∙ append_assoc t.done t.later more;
  ended = t.ended;
  behind = t.behind;
  heard = t.heard;
  call = t.call;
  missing = t.missing;
  written_is = t.written_is;
}

-- with more exchanges
pub turns_kept : (es more : List Exchange) (came written : List ℕ) (tape : List Piece) → TurnsFrom es came written tape → TurnsFrom (es ++ more) came written tape
turns_kept es more came written [] h = tt
turns_kept es more came written (In b ∷ tape) h = turns_kept es more (came ++ b) written tape h
turns_kept es more came written (Out b ∷ tape) h = (turn_kept es more came (written ++ b) h.0, turns_kept es more came (written ++ b) tape h.1)

-- with one tape behind another
pub turns_on : (es : List Exchange) (i o : List ℕ) (t u : List Piece) → TurnsFrom es i o t → TurnsFrom es (i ++ ins t) (o ++ outs t) u → TurnsFrom es i o (t ++ u)
unfolding ins outs
turns_on es i o [] u h k = subst (λ (p : List ℕ × List ℕ). TurnsFrom es p.0 p.1 u) (ap (λ (xs : List ℕ). (xs, o ++ [])) (append-nil i) ∙ ap (λ (xs : List ℕ). (i, xs)) (append-nil o)) k
turns_on es i o (In b ∷ t) u h k = turns_on es (i ++ b) o t u h (subst (λ (xs : List ℕ). TurnsFrom es xs (o ++ outs t) u) (sym (append_assoc i b (ins t))) k)
turns_on es i o (Out b ∷ t) u h k = (h.0, turns_on es i (o ++ b) t u h.1 (subst (λ (xs : List ℕ). TurnsFrom es (i ++ ins t) xs u) (sym (append_assoc o b (outs t))) k))

-- pieces of the text of one call more
pub turns_outs : (es : List Exchange) (came behind : List ℕ) (ended : Bool) (call : Call) (w : List ℕ) (ps : List (List ℕ)) (missing : List ℕ) → Heard es behind ended came
    → w ++ (flat_map (λ p. p) ps ++ missing) ≡ call_texts es ++ call_text call → TurnsFrom es came w (map Out ps)
turns_outs es came behind ended call w [] missing heard e = tt
turns_outs es came behind ended call w (p ∷ ps) missing heard e =
    let rest : List ℕ = flat_map (λ q. q) ps ++ missing in
    let same : (w ++ p) ++ rest ≡ call_texts es ++ call_text call = append_assoc w p rest ∙ ap (λ xs. w ++ xs) (sym (append_assoc p (flat_map (λ q. q) ps) missing)) ∙ e in (
      record {
        done = es;
        later = [];
        split = sym (append-nil es);
        ended = ended;
        behind = behind;
        heard = heard;
        call = call;
        missing = rest;
        written_is = same;
      },
      turns_outs es came behind ended call (w ++ p) ps missing heard same,
    )
