-- What a call of a link does to its counts, its tape and the bytes still to come.
use Rattle.std.specs.Prelude.{ℕ, zero, suc, ◌+◌, ◌-◌, ◌^◌, ◌≤◌, min, Bool, true, false, List, [], ◌∷◌, ◌++◌, take, Result, Ok, Err}
use Rattle.gi_outside.specs.declared.link.Got.{Got}
use Rattle.gi_outside.specs.declared.link.Put.{Put}
use Rattle.gi_outside.specs.declared.link.Piece.{Piece}
use Rattle.gi_outside.specs.declared.link.Got.TheVariants as got
use Rattle.gi_outside.specs.declared.link.Put.TheVariants as put
use Rattle.gi_outside.specs.declared.link.Piece.TheVariants.{In, Out}

-- one more, up to the last value of a u64
abbrev pub up : ℕ → ℕ
up n = min (n + 1) (2 ^ 64 - 1)

-- a count went up in a call, or stands at the last value of its type
abbrev pub Rose : ℕ → ℕ → Type 0
Rose before now = up before ≤ now

-- what a read gives is from 1 to the room there is
abbrev pub ReadFits : Got → ℕ → Type 0
ReadFits (got.Bytes n) room = (1 ≤ n) × (n ≤ room)
ReadFits got.End room = Unit {0}
ReadFits got.Failed room = Unit {0}

-- what a write takes is from 1 to the length of the piece
abbrev pub WriteFits : Put → ℕ → Type 0
WriteFits (put.Took n) room = (1 ≤ n) × (n ≤ room)
WriteFits put.Failed room = Unit {0}

-- what a read of the system is: no bytes into some room are the end
abbrev pub got_of : {E : Type 0} → Result ℕ E → Got
got_of (Ok zero) = got.End
got_of (Ok (suc n)) = got.Bytes (suc n)
got_of (Err e) = got.Failed

-- what a write of the system is: to take nothing is a fault
abbrev pub put_of : {E : Type 0} → Result ℕ E → Put
put_of (Ok zero) = put.Failed
put_of (Ok (suc n)) = put.Took (suc n)
put_of (Err e) = put.Failed

-- the bytes that a read gave
abbrev pub bytes_read : Got → List ℕ → List ℕ
bytes_read (got.Bytes n) into = take n into
bytes_read got.End into = []
bytes_read got.Failed into = []

-- the pieces that a read adds to the tape
abbrev pub pieces_read : Got → List ℕ → List Piece
pieces_read (got.Bytes n) into = In (take n into) ∷ []
pieces_read got.End into = []
pieces_read got.Failed into = []

-- the pieces that a write adds to the tape
abbrev pub pieces_put : Put → List ℕ → List Piece
pieces_put (put.Took n) piece = Out (take n piece) ∷ []
pieces_put put.Failed piece = []

-- whether a read answered End
abbrev pub is_end : Got → Bool
is_end (got.Bytes n) = false
is_end got.End = true
is_end got.Failed = false

-- the Out pieces joined
unfoldable pub outs : List Piece → List ℕ
outs [] = []
outs (In bytes ∷ pieces) = outs pieces
outs (Out bytes ∷ pieces) = bytes ++ outs pieces

-- the In pieces joined
unfoldable pub ins : List Piece → List ℕ
ins [] = []
ins (In bytes ∷ pieces) = bytes ++ ins pieces
ins (Out bytes ∷ pieces) = ins pieces
