-- Values that some file says.
use Rattle.std.specs.Prelude.{◌≡◌, ◌+◌, ◌<◌, ◌≤◌, true, false, List, [], ◌∷◌, ◌++◌, length, All}
use Rattle.gi_aiger.specs.declared.aig.Aig.{Aig}
use Rattle.gi_aiger.specs.declared.aig.Symbol.{Symbol}
use Rattle.gi_aiger.specs.declared.head.Form.TheVariants.{Ascii}
use Rattle.gi_aiger.specs.declared.head.Head.{Head}
use Rattle.gi_aiger.specs.Header.{is_within}
use Rattle.gi_aiger.specs.Lines.{is_plain}
use Rattle.gi_aiger.specs.Symbols.{places_of}
use Rattle.gi_aiger.specs.Named.{is_named}
use Rattle.gi_aiger.specs.Relation.{IsSound, head_of_aig}

-- a symbol names a place of a section, by a name of one byte at least and without LF
pub record IsTitle (h : Head) (s : Symbol) : Type 0 where
  pub place : s.place < places_of h s.kind
  pub name : 1 ≤ length s.name
  pub plain : is_plain s.name ≡ true

-- each symbol has another kind or place than those before it
abbrev pub AreNew : List Symbol → List Symbol → Type 0
AreNew before [] = Unit {0}
AreNew before (s ∷ ss) = (is_named before s.kind s.place ≡ false) × AreNew (before ++ s ∷ []) ss

-- a value that some file says: within the limits, and sound
pub record IsGood (v : Aig) : Type 0 where
  pub fits : length v.inputs + length v.latches + length v.gates ≤ v.max
  pub within : is_within (head_of_aig Ascii v) ≡ true
  pub titles : All (IsTitle (head_of_aig Ascii v)) v.symbols
  pub apart : AreNew [] v.symbols
  pub sound : IsSound v
