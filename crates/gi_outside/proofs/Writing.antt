-- What was written, one write after another.
use Rattle.std.proofs.Common.{◌≡◌, ℕ, ◌≤◌, List, [], ◌∷◌, ◌++◌, map, Option, Some, None, option_map, refl, ap, sym, ◌∙◌, append_assoc, arith, length-append}
use Rattle.std.specs.List.{flat_map}
use Rattle.std.proofs.lemmas.List.{append-nil}
use Rattle.gi_outside.specs.Link.{Rose}
use Rattle.gi_outside.specs.Told.{Adds}
use Rattle.gi_outside.specs.World.{World, Wrote, WroteCut}
use Rattle.gi_outside.specs.declared.link.Piece.{Piece}
use Rattle.gi_outside.specs.declared.link.Piece.TheVariants.{Out}

pub adds_more : {A : Type 0} (a b c : Option (List A)) (x y : List A) → Adds a b x → Adds b c y → Adds a c (x ++ y)
adds_more None b c x y e f = f ∙ ap (option_map (λ xs. xs ++ y)) e
adds_more (Some xs) b c x y e f = f ∙ ap (option_map (λ xs. xs ++ y)) e ∙ ap Some (append_assoc xs x y)

pub adds_none : {A : Type 0} (a : Option (List A)) → Adds a a []
adds_none None = refl
adds_none (Some xs) = ap Some (sym (append-nil xs))

outs_more : (ps qs : List (List ℕ)) → map Out (ps ++ qs) ≡ map Out ps ++ map Out qs
outs_more [] qs = refl
outs_more (p ∷ ps) qs = ap (λ xs. Out p ∷ xs) (outs_more ps qs)

joined_more : (ps qs : List (List ℕ)) → flat_map (λ p. p) (ps ++ qs) ≡ flat_map (λ p. p) ps ++ flat_map (λ p. p) qs
joined_more [] qs = refl
joined_more (p ∷ ps) qs = ap (λ xs. p ++ xs) (joined_more ps qs) ∙ sym (append_assoc p (flat_map (λ p. p) ps) (flat_map (λ p. p) qs))

-- nothing was written yet
pub wrote_none : (w : World) → Wrote w w []
wrote_none w = record { pieces = []; joined = refl; tape = adds_none w.tape; rest = refl; ended = refl; reads = refl; writes = omega arith }

-- one run of writes after another
pub wrote_more : (s v w : World) (a b : List ℕ) → Wrote s v a → Wrote v w b → Wrote s w (a ++ b)
wrote_more s v w a b h k = record {
  pieces = h.pieces ++ k.pieces;
  joined = joined_more h.pieces k.pieces ∙ ap (λ xs. xs ++ flat_map (λ p. p) k.pieces) h.joined ∙ ap (λ xs. a ++ xs) k.joined;
  tape = adds_more s.tape v.tape w.tape (map Out h.pieces) (map Out k.pieces) h.tape k.tape ∙ ap (λ (xs : List Piece). option_map (λ ys. ys ++ xs) s.tape) (sym (outs_more h.pieces k.pieces));
  rest = k.rest ∙ h.rest;
  ended = k.ended ∙ h.ended;
  reads = k.reads ∙ h.reads;
  writes = omega (arith, h.writes, k.writes);
}

-- one write
pub wrote_piece : (v w : World) (b : List ℕ) → Adds v.tape w.tape (Out b ∷ []) → w.rest ≡ v.rest → w.ended ≡ v.ended → w.failed_reads ≡ v.failed_reads → v.failed_writes ≤ w.failed_writes → Wrote v w b
wrote_piece v w b tape rest ended reads writes = record { pieces = b ∷ []; joined = append-nil b; tape = tape; rest = rest; ended = ended; reads = reads; writes = writes }

-- a write that failed
pub wrote_failed : (v w : World) → Adds v.tape w.tape [] → w.rest ≡ v.rest → w.ended ≡ v.ended → w.failed_reads ≡ v.failed_reads → v.failed_writes ≤ w.failed_writes → Wrote v w []
wrote_failed v w tape rest ended reads writes = record { pieces = []; joined = refl; tape = tape; rest = rest; ended = ended; reads = reads; writes = writes }

-- the same bytes, spelled in another way
pub wrote_is : (s w : World) (a b : List ℕ) → a ≡ b → Wrote s w a → Wrote s w b
wrote_is s w a b e h = record { pieces = h.pieces; joined = h.joined ∙ e; tape = h.tape; rest = h.rest; ended = h.ended; reads = h.reads; writes = h.writes }

-- a rise is one since an earlier moment too
pub rose_since : (a b c : ℕ) → a ≤ b → Rose b c → Rose a c
rose_since a b c le rose = omega arith

-- a text that goes on lacks its last byte too
pub cut_more : (s v : World) (text more : List ℕ) → WroteCut s v text → WroteCut s v (text ++ more)
cut_more s v text more h = record {
  sent = h.sent;
  wrote = h.wrote;
  cut = (h.cut.0 ++ more, omega (arith, h.cut.1, length-append h.cut.0 more), sym (append_assoc h.sent h.cut.0 more) ∙ ap (λ xs. xs ++ more) h.cut.2);
  cause = h.cause;
}
