-- What a call does to a shelf.
use Rattle.std.specs.Prelude.{◌≡◌, ◌⊎◌, [], ◌∷◌, ◌++◌, option_map}
use Rattle.gi_outside.specs.Link.{Rose}
use Rattle.gi_room.specs.Seen.{Seen}
use Rattle.gi_serve.specs.ShelfState.{ShelfState}

-- the pass was put at the end, or it was dropped, and the count of lost passes rose
abbrev pub Puts : Seen → ShelfState → ShelfState → Type 0
Puts pass old new =
    (new ≡ record old { shelved = option_map (λ passes. passes ++ pass ∷ []) old.shelved })
    ⊎ ((new ≡ record old { lost = new.lost }) × Rose old.lost new.lost)
