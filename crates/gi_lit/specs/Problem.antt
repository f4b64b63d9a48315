-- The problem: variables, plain clauses, and clauses under guards that come and go.
use Rattle.std.specs.Prelude.{◌≡◌, ℕ, ◌+◌, ◌*◌, ◌-◌, ◌/◌, ◌<◌, ◌≤◌, ◌==◌, Bool, true, not, ◌&&◌, ◌||◌, nat_le, nat_eq, if◌then◌else◌, List, [], ◌∷◌, ◌++◌, length, map, max, filter, sum_by, All, Contains, ◌⊎◌}
use Rattle.std.specs.List.{list_any, list_all}
use Rattle.gi_lit.specs.Lists.{IsDistinct}

-- a clause that counts where all its guards are true
pub record Group : Type 0 where
  pub guards : List ℕ
  pub clause : List ℕ

-- variables, clauses and guards
pub record Problem : Type 0 where
  pub vars : ℕ  -- the variables are 1 to vars
  pub plain : List (List ℕ)
  pub groups : List Group
  pub active : List ℕ  -- guards in use, the one made active last stands last
  pub freed : List ℕ  -- guards to be used again, the one freed last stands first

-- with nothing in it
abbrev pub empty_problem : Problem
empty_problem = record { vars = 0; plain = []; groups = []; active = []; freed = [] }

-- whether the list has the number
abbrev pub has : List ℕ → ℕ → Bool
has xs x = list_any (nat_eq x) xs

-- a variable that is neither an active nor a freed guard
abbrev pub is_problem_var : Problem → ℕ → Bool
is_problem_var p v = nat_le 1 v && nat_le v p.vars && not (has p.active v) && not (has p.freed v)

-- the same as a fact
abbrev pub IsProblemVar : Problem → ℕ → Type 0
IsProblemVar p v = is_problem_var p v ≡ true

-- a literal of a problem variable, or of a variable that isn't there yet
abbrev pub is_usable : Problem → ℕ → Bool
is_usable p l = is_problem_var p (l / 2) || not (nat_le (l / 2) p.vars)

-- the positive literal of an active guard
abbrev pub is_guard_lit : Problem → ℕ → Bool
is_guard_lit p l = (l == 2 * (l / 2)) && has p.active (l / 2)

-- a literal of a problem variable, or the positive literal of an active guard
abbrev pub IsAssumable : Problem → ℕ → Type 0
IsAssumable p l = IsProblemVar p (l / 2) ⊎ (is_guard_lit p l ≡ true)

-- a variable that is no freed guard
abbrev pub IsLiveVar : Problem → ℕ → Type 0
IsLiveVar p v = (1 ≤ v) × (v ≤ p.vars) × ¬ Contains p.freed v

-- whether the positive literal of each guard is given
abbrev pub are_given : List ℕ → List ℕ → Bool
are_given given guards = list_all (λ g. has given (2 * g)) guards

-- the clauses of the groups all of whose guards are given
abbrev pub forced : List ℕ → List Group → List (List ℕ)
forced given [] = []
forced given (q ∷ qs) = if are_given given q.guards then q.clause ∷ forced given qs
    else forced given qs

-- the negative literals of guards, in order
abbrev pub negatives : List ℕ → List ℕ
negatives guards = map (λ g. 2 * g + 1) guards

-- the group as one clause: one of its guards is false, or its clause holds
abbrev pub guarded : Group → List ℕ
guarded q = q.clause ++ negatives q.guards

-- the clauses in force where the literals are given
unfoldable pub in_force : Problem → List ℕ → List (List ℕ)
in_force p given = p.plain ++ forced given p.groups

-- the full clauses: the plain ones, and each group as one clause
unfoldable pub full : Problem → List (List ℕ)
full p = p.plain ++ map guarded p.groups

-- how many literals a group has as given: those of its clause, and one for each of its guards after
-- the first
abbrev pub as_given : Group → ℕ
as_given q = length q.clause + (length q.guards - 1)

-- how many literals its clauses have as given
unfoldable pub lit_count : Problem → ℕ
lit_count p = sum_by length p.plain + sum_by as_given p.groups

-- how many clauses it has, those under guards among them
abbrev pub clause_count : Problem → ℕ
clause_count p = length p.plain + length p.groups

-- the greatest variable of a list of literals, 0 for none
unfoldable pub top : List ℕ → ℕ
top [] = 0
top (l ∷ ls) = max (l / 2) (top ls)

-- at least n variables; the new ones are problem variables
abbrev pub grown : ℕ → Problem → Problem
grown n p = record p { vars = max p.vars n }

-- a plain clause more
abbrev pub with_clause : List ℕ → Problem → Problem
with_clause c p = record p { vars = max p.vars (top c); plain = p.plain ++ c ∷ [] }

-- plain clauses more, in order
abbrev pub with_clauses : List (List ℕ) → Problem → Problem
with_clauses [] p = p
with_clauses (c ∷ cs) p = with_clauses cs (with_clause c p)

-- a clause more under guards
abbrev pub with_group : List ℕ → List ℕ → Problem → Problem
with_group gs c p = record p {
  vars = max p.vars (top c);
  groups = p.groups ++ record { guards = gs; clause = c } ∷ [];
}

-- the guard that comes next, where these are freed: the one freed last, else a new variable
abbrev pub guard_next : ℕ → List ℕ → ℕ
guard_next vars [] = vars + 1
guard_next vars (g ∷ gs) = g

-- the guard that the problem gives next
abbrev pub next_guard : Problem → ℕ
next_guard p = guard_next p.vars p.freed

-- that guard made active, where these are freed
abbrev pub guard_made : Problem → List ℕ → Problem
guard_made p [] = record p { vars = p.vars + 1; active = p.active ++ (p.vars + 1) ∷ [] }
guard_made p (g ∷ gs) = record p { active = p.active ++ g ∷ []; freed = gs }

-- the next guard made active
abbrev pub with_guard : Problem → Problem
with_guard p = guard_made p p.freed

-- the clause names the variable
abbrev pub names : ℕ → List ℕ → Bool
names v clause = list_any (λ l. l / 2 == v) clause

-- the clauses that don't name the variable, in order
unfoldable pub without_var : ℕ → List (List ℕ) → List (List ℕ)
without_var v clauses = filter (λ c. not (names v c)) clauses

-- the groups that don't name the guard, in order
unfoldable pub without_groups : ℕ → List Group → List Group
without_groups g groups = filter (λ (q : Group). not (has q.guards g)) groups

-- the other numbers, in order
unfoldable pub without : ℕ → List ℕ → List ℕ
without x xs = filter (λ y. not (y == x)) xs

-- an active guard freed: the groups that name it are gone
abbrev pub without_guard : ℕ → Problem → Problem
without_guard g p = record p {
  groups = without_groups g p.groups;
  active = without g p.active;
  freed = g ∷ p.freed;
}

-- a clause of problem variables alone
abbrev pub IsPlain : Problem → List ℕ → Type 0
IsPlain p c = All (λ l. IsProblemVar p (l / 2)) c

-- a clause of problem variables under active guards, one at least
abbrev pub IsGroup : Problem → Group → Type 0
IsGroup p q = IsPlain p q.clause × All (Contains p.active) q.guards × (0 < length q.guards)

-- clauses have problem variables alone, groups have active guards, and the guards are different
-- variables of the problem
pub record IsWellFormed (p : Problem) : Type 0 where
  pub plain : All (IsPlain p) p.plain
  pub groups : All (IsGroup p) p.groups
  pub distinct : IsDistinct (p.freed ++ p.active)
  pub low : All (λ g. 1 ≤ g) (p.freed ++ p.active)
  pub high : All (λ g. g ≤ p.vars) (p.freed ++ p.active)
