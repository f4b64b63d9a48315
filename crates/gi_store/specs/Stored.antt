-- How the clauses lie in memory: in one slab, and their keys in three lists.
use Rattle.std.specs.Prelude.{◌≡◌, ℕ, ◌+◌, ◌-◌, ◌/◌, ◌≤◌, Bool, List, [], ◌++◌, length, map, take, drop, reverse, Contains, IsSome, unwrap_or}
use Rattle.slab.specs.Slab.{Slab, get}
use Rattle.gi_lit.specs.Lists.{IsDistinct}
use Rattle.gi_lit.specs.Problem.{lit_count, names}
use Rattle.gi_store.specs.StoreView.{Entry, GroupEntry, StoreView, full_entry, problem_of}
use Rattle.gi_store.specs.Whole.{IsWhole, IsTable}
use Rattle.gi_store.specs.declared.group_key.GroupKey.{GroupKey}
use Rattle.gi_store.specs.declared.kind.VarKind.{VarKind}

-- the clause at a key
abbrev pub clause_at : Slab (List ℕ) → ℕ → List ℕ
clause_at slab k = unwrap_or (get slab k) []

abbrev pub entry_at : Slab (List ℕ) → ℕ → Entry
entry_at slab k = record { key = k; lits = clause_at slab k }

-- the keys of groups
abbrev pub keys_in : List GroupKey → List ℕ
keys_in groups = map (λ (g : GroupKey). g.key) groups

-- of the clause stored for a group the last literals are its guards'
abbrev pub guard_part : ℕ → List ℕ → List ℕ
guard_part n c = drop (length c - n) c

abbrev pub group_of : GroupKey → List ℕ → GroupEntry
group_of g c = record {
  key = g.key;
  guards = map (λ l. l / 2) (guard_part g.guards c);
  clause = take (length c - g.guards) c;
}

abbrev pub group_at : Slab (List ℕ) → GroupKey → GroupEntry
group_at slab g = group_of g (clause_at slab g.key)

-- whether the group names the guard
abbrev pub is_under : ℕ → Slab (List ℕ) → GroupKey → Bool
is_under guard slab g = names guard (guard_part g.guards (clause_at slab g.key))

-- the store with these lists; the guard freed last is the last of its list
abbrev pub held_of : ℕ → Slab (List ℕ) → List ℕ → List GroupKey → List ℕ → List ℕ → List ℕ
    → StoreView
held_of vars slab plain groups learnt active freed = record {
  vars = vars;
  plain = map (entry_at slab) plain;
  groups = map (group_at slab) groups;
  active = active;
  freed = reverse freed;
  learnt = map (entry_at slab) learnt;
}

-- each key has a clause, and no key stands twice
pub record AreKeys (slab : Slab (List ℕ)) (keys : List ℕ) : Type 0 where
  pub live : (k : ℕ) → Contains keys k → IsSome (get slab k)
  pub distinct : IsDistinct keys

-- a group's clause ends with the negative literals of its guards
pub record IsStored (slab : Slab (List ℕ)) (plain : List ℕ) (groups : List GroupKey)
    (learnt : List ℕ) : Type 0 where
  pub keys : AreKeys slab (plain ++ (keys_in groups ++ learnt))
  pub ends : (g : GroupKey) → Contains groups g → entry_at slab g.key ≡ full_entry (group_at slab g)

-- all that a store keeps; each active guard has its room among the freed ones
pub record StoreInvariant (kinds : List VarKind) (slab : Slab (List ℕ)) (plain : List ℕ)
    (groups : List GroupKey) (learnt active freed : List ℕ) (room : ℕ) : Type 0 where
  pub stored : IsStored slab plain groups learnt
  pub whole : IsWhole (held_of (length kinds) slab plain groups learnt active freed)
  pub table : IsTable (held_of (length kinds) slab plain groups learnt active freed) kinds
  pub rooms : length freed + length active ≤ room

-- how many literals a group has as given
abbrev pub group_length : Slab (List ℕ) → GroupKey → ℕ
group_length slab g = length (clause_at slab g.key) - 1

-- and with its count of literals
pub record IsCounted (kinds : List VarKind) (slab : Slab (List ℕ)) (plain : List ℕ)
    (groups : List GroupKey) (learnt active freed : List ℕ) (room lits : ℕ) : Type 0 where
  pub kept : StoreInvariant kinds slab plain groups learnt active freed room
  pub count : lit_count (problem_of (held_of (length kinds) slab plain groups learnt active freed))
      ≡ lits
