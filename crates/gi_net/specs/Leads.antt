-- Steps, one after another.
-- the end comes from the start by such steps
pub data Leads {A : Type 0} (goes : A → A → Type 0) (start : A) : A → Type 0 where
  none : Leads goes start start
  more : (mid end : A) → Leads goes start mid → goes mid end → Leads goes start end
