-- What a link gave, one read after another.
use Rattle.std.proofs.Common.{◌≡◌, ℕ, ◌≤◌, true, List, [], ◌∷◌, ◌++◌, length, map, Option, Some, None, option_map, IfSome, refl, ap, sym, ◌∙◌, subst, append_assoc, arith}
use Rattle.std.specs.List.{flat_map}
use Rattle.std.proofs.lemmas.List.{append-nil}
use Rattle.gi_outside.specs.Told.{Adds, Takes}
use Rattle.gi_outside.specs.World.{World}
use Rattle.gi_outside.specs.declared.link.Piece.{Piece}
use Rattle.gi_outside.specs.declared.link.Piece.TheVariants.{In}
use Rattle.gi_outside.proofs.Writing.{adds_more, adds_none}
use Rattle.gi_dimacs.specs.declared.content.Format.{Format}
use Rattle.gi_dimacs.specs.Reader.{HasRead, Reading}
use Rattle.gi_files.specs.Input.{Gave, IsAll}

takes_none : (a : Option (List ℕ)) → Takes a a []
takes_none None = refl
takes_none (Some xs) = refl

two_takes : (x y : List ℕ) (c : Option (List ℕ)) → option_map (λ xs. x ++ xs) (option_map (λ xs. y ++ xs) c) ≡ option_map (λ xs. (x ++ y) ++ xs) c
two_takes x y None = refl
two_takes x y (Some xs) = ap Some (sym (append_assoc x y xs))

takes_more : (a b c : Option (List ℕ)) (x y : List ℕ) → Takes a b x → Takes b c y → Takes a c (x ++ y)
takes_more a b c x y e f = e ∙ ap (option_map (λ xs. x ++ xs)) f ∙ two_takes x y c

ins_more : (ps qs : List (List ℕ)) → map In (ps ++ qs) ≡ map In ps ++ map In qs
ins_more [] qs = refl
ins_more (p ∷ ps) qs = ap (λ xs. In p ∷ xs) (ins_more ps qs)

joined_more : (ps qs : List (List ℕ)) → flat_map (λ p. p) (ps ++ qs) ≡ flat_map (λ p. p) ps ++ flat_map (λ p. p) qs
joined_more [] qs = refl
joined_more (p ∷ ps) qs = ap (λ xs. p ++ xs) (joined_more ps qs) ∙ sym (append_assoc p (flat_map (λ p. p) ps) (flat_map (λ p. p) qs))

-- nothing came yet
pub gave_none : (w : World) → Gave w w []
gave_none w = record { pieces = []; joined = refl; tape = adds_none w.tape; rest = takes_none w.rest; reads = omega arith; writes = refl }

-- one run of reads after another
pub gave_more : (s v w : World) (a b : List ℕ) → Gave s v a → Gave v w b → Gave s w (a ++ b)
gave_more s v w a b h k = record {
  pieces = h.pieces ++ k.pieces;
  joined = joined_more h.pieces k.pieces ∙ ap (λ xs. xs ++ flat_map (λ p. p) k.pieces) h.joined ∙ ap (λ xs. a ++ xs) k.joined;
  tape = adds_more s.tape v.tape w.tape (map In h.pieces) (map In k.pieces) h.tape k.tape ∙ ap (λ (xs : List Piece). option_map (λ ys. ys ++ xs) s.tape) (sym (ins_more h.pieces k.pieces));
  rest = takes_more s.rest v.rest w.rest a b h.rest k.rest;
  reads = omega (arith, h.reads, k.reads);
  writes = k.writes ∙ h.writes;
}

-- one read that gave bytes
pub gave_piece : (v w : World) (b : List ℕ) → Adds v.tape w.tape (In b ∷ []) → Takes v.rest w.rest b → v.failed_reads ≤ w.failed_reads → w.failed_writes ≡ v.failed_writes → Gave v w b
gave_piece v w b tape rest reads writes = record { pieces = b ∷ []; joined = append-nil b; tape = tape; rest = rest; reads = reads; writes = writes }

-- one read that gave none
pub gave_nothing : (v w : World) → Adds v.tape w.tape [] → Takes v.rest w.rest [] → v.failed_reads ≤ w.failed_reads → w.failed_writes ≡ v.failed_writes → Gave v w []
gave_nothing v w tape rest reads writes = record { pieces = []; joined = refl; tape = tape; rest = rest; reads = reads; writes = writes }

held : (old new : Option (List ℕ)) (bytes : List ℕ) → Takes old new bytes → IfSome new (λ left. left ≡ []) → IfSome old (λ all. all ≡ bytes)
held old None bytes e h = subst (λ (o : Option (List ℕ)). IfSome o (λ all. all ≡ bytes)) (sym e) tt
held old (Some left) bytes e h = subst (λ (o : Option (List ℕ)). IfSome o (λ all. all ≡ bytes)) (sym e) (ap (λ xs. bytes ++ xs) h ∙ append-nil bytes)

-- a reader has been fed what the link gave
pub record Going (start now : World) (format : Format) (reader : Reading) (taken : ℕ) : Type 0 where
  pub bytes : List ℕ
  pub gave : Gave start now bytes
  pub read : HasRead format reader bytes
  pub count : length bytes ≡ taken

-- nothing was fed yet
pub begun : (w : World) (format : Format) (reader : Reading) → HasRead format reader [] → Going w w format reader 0
begun w format reader h = record { bytes = []; gave = gave_none w; read = h; count = refl }

-- the bytes of so far, and those of one more read
pub gave_on : {start v : World} {format : Format} {reader : Reading} {taken : ℕ} (w : World) (b : List ℕ) → (going : Going start v format reader taken) → Gave v w b → Gave start w (going.bytes ++ b)
gave_on {start = start} {v = v} w b going g = gave_more start v w going.bytes b going.gave g

-- nothing is left
pub all_came : (start w : World) (bytes : List ℕ) → Gave start w bytes → w.ended ≡ true → IfSome w.rest (λ left. left ≡ []) → IsAll start w bytes
all_came start w bytes g ended empty = record { ended = ended; all = held start.rest w.rest bytes g.rest empty }
