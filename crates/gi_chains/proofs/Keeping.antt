use Rattle.std.proofs.Common.{◌≡◌, ℕ, zero, suc, ◌<◌, ◌^◌, Option, Some, None, List, ◌∷◌, ◌++◌, length, map, replicate, refl, sym, ap, ◌∙◌, subst}
use Rattle.std.specs.Option.{MatchOption}
use Rattle.std.proofs.lemmas.List.{length-map, map-append}
use Rattle.gi_chains.specs.Lists.{Lists, StandsAt, IsLinked, IsFree, IsApart}
use Rattle.gi_chains.specs.Links.{blank, walked, IsChained}
use Rattle.gi_chains.specs.Seats.{nodes_of, words_of, blank_seat, IsCompact}
use Rattle.gi_chains.specs.declared.node.Seat.{Seat}
use Rattle.gi_chains.specs.declared.node.Ends.{Ends}
use Rattle.gi_chains.proofs.Linking.{apart, walked-same}

pub length-nodes : (seats : List Seat) → length (nodes_of seats) ≡ length seats
length-nodes seats = length-map seats _

pub length-words : (seats : List Seat) → length (words_of seats) ≡ length seats
length-words seats = length-map seats _

-- what contracts see
abbrev pub seen : List Ends → List Seat → Lists
seen ends seats = record { lists = walked ends (nodes_of seats); nodes = length seats; words = words_of seats }

pub kept_apart : (ends : List Ends) (seats : List Seat) → IsCompact ends seats → IsApart (seen ends seats)
kept_apart ends seats h = apart ends (nodes_of seats) (walked ends (nodes_of seats)) h.chained (length seats) (length-nodes seats) (words_of seats) (length-words seats)

-- what is left of a call on the fields: the invariant, and the view
pub settled : (es ends : List Ends) (ss seats : List Seat) (lists : List (List ℕ)) → es ≡ ends → ss ≡ seats → IsChained ends (nodes_of seats) lists → length ends < 2 ^ 32 → length seats < 2 ^ 32 → IsCompact es ss
settled es ends ss seats lists a b h few_lists few_nodes =
    let now : IsCompact ends seats = record { chained = subst (IsChained ends (nodes_of seats)) (sym (walked-same ends (nodes_of seats) lists h)) h; few_lists = few_lists; few_nodes = few_nodes } in
    subst (λ (x : List Ends). IsCompact x ss) (sym a) (subst (λ (x : List Seat). IsCompact ends x) (sym b) now)

pub viewed : (es ends : List Ends) (ss seats : List Seat) (lists : List (List ℕ)) → es ≡ ends → ss ≡ seats → IsChained ends (nodes_of seats) lists → (n : ℕ) → length seats ≡ n → (ls : List (List ℕ)) → lists ≡ ls → (ws : List ℕ) → words_of seats ≡ ws → seen es ss ≡ record { lists = ls; nodes = n; words = ws }
viewed es ends ss seats lists a b h n e ls f ws w =
    let made : List (List ℕ) → ℕ → List ℕ → Lists = λ x y z. record { lists = x; nodes = y; words = z } in
    ap (λ x. seen x ss) a
    ∙ ap (λ x. seen ends x) b
    ∙ ap (λ x. made x (length seats) (words_of seats)) (walked-same ends (nodes_of seats) lists h ∙ f)
    ∙ ap (λ y. made ls y (words_of seats)) e
    ∙ ap (made ls n) w

pub few : (m n : ℕ) → m ≡ n → n < 2 ^ 32 → m < 2 ^ 32
few m n e h = subst (λ z. z < 2 ^ 32) (sym e) h

-- a node in a list is found there
pub none_linked : (o : Option ℕ) (lists : List (List ℕ)) (k : ℕ) → MatchOption o (IsFree lists k) (λ l. (i : ℕ) × StandsAt lists l i k) → IsLinked lists k → ((l : ℕ) → o ≡ Some l → ⊥) → ⊥
none_linked None lists k h linked n = h linked.0 linked.1 linked.2
none_linked (Some l) lists k h linked n = n l refl

map_replicate : {X Y : Type 0} (f : X → Y) (x : X) (m : ℕ) → map f (replicate m x) ≡ replicate m (f x)
map_replicate f x zero = refl
map_replicate f x (suc m) = ap (λ z. f x ∷ z) (map_replicate f x m)

pub nodes_more : (seats : List Seat) (m : ℕ) → nodes_of (seats ++ replicate m blank_seat) ≡ nodes_of seats ++ replicate m blank
nodes_more seats m = map-append (λ (s : Seat). s.node) seats (replicate m blank_seat) ∙ ap (λ z. nodes_of seats ++ z) (map_replicate (λ (s : Seat). s.node) blank_seat m)

pub words_more : (seats : List Seat) (m : ℕ) → words_of (seats ++ replicate m blank_seat) ≡ words_of seats ++ replicate m 0
words_more seats m = map-append (λ (s : Seat). s.word) seats (replicate m blank_seat) ∙ ap (λ z. words_of seats ++ z) (map_replicate (λ (s : Seat). s.word) blank_seat m)
