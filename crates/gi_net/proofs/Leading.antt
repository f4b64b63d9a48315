-- Steps, one after another.
use Rattle.gi_net.specs.Leads.{Leads, none, more}

pub leads_both : {A : Type 0} (goes : A → A → Type 0) (a b c : A) → Leads goes a b → Leads goes b c → Leads goes a c
leads_both goes a b c f none = f
leads_both goes a b c f (more mid d g h) = more mid d (leads_both goes a b mid f g) h

-- what holds of no step and goes on by one holds of all
pub leads_to : {A : Type 0} (goes holds : A → A → Type 0) → ((a : A) → holds a a) → ((a b c : A) → holds a b → goes b c → holds a c) → (a b : A) → Leads goes a b → holds a b
leads_to goes holds still on a b none = still a
leads_to goes holds still on a b (more mid c g h) = on a mid c (leads_to goes holds still on a mid g) h
