-- A command that nothing disturbs prints the output for its input.
use Rattle.std.proofs.Common.{◌≡◌, ℕ, inl, inr, List, refl, ap, sym, ◌∙◌, subst, arith}
use Rattle.gi_outside.specs.Link.{Rose}
use Rattle.gi_outside.specs.World.{World}
use Rattle.gi_outside.proofs.Writing.{wrote_is}
use Rattle.gi_dimacs.specs.Answers.{IsFault}
use Rattle.gi_dimacs.specs.Content.{File}
use Rattle.gi_dimacs.specs.Laws.{OneAnswer}
use Rattle.gi_dimacs.specs.Texts.{cnf_file, icnf_file}
use Rattle.gi_dimacs.specs.declared.cnf.Cnf.{Cnf}
use Rattle.gi_dimacs.specs.declared.cnf.Icnf.{Icnf}
use Rattle.gi_dimacs.specs.declared.fault.CnfFault.{CnfFault}
use Rattle.gi_dimacs.specs.declared.items.Item.{Item}
use Rattle.gi_dimacs.specs.declared.content.Content.TheVariants.{Clauses, Items}
use Rattle.gi_dimacs.specs.declared.content.Format.TheVariants as formats
use Rattle.gi_files.specs.declared.command.Command.{Command}
use Rattle.gi_files.specs.declared.form.Form.{Form}
use Rattle.gi_files.specs.declared.form.Form.TheVariants as forms
use Rattle.gi_files.specs.declared.commands.Done.{Done}
use Rattle.gi_files.specs.declared.commands.Done.TheVariants as done
use Rattle.gi_files.specs.Commands.{Accepts, Does, cnf_output, format_of, icnf_output}
use Rattle.gi_files.specs.Completeness.{IsAnswered, Undisturbed}
use Rattle.gi_files.specs.Texts.{refused_text}

pub same_cnf : (v w : Cnf) → cnf_file v ≡ cnf_file w → v ≡ w
same_cnf v w e =
    let vars : v.vars ≡ w.vars = ap (λ (f : File). f.vars) e in
    let contents : Clauses v.clauses ≡ Clauses w.clauses = ap (λ (f : File). f.content) e in
    let clauses : v.clauses ≡ w.clauses = cc in
    ap (λ (n : ℕ). record v { vars = n }) vars ∙ ap (λ (cs : List (List ℕ)). record w { clauses = cs }) clauses

pub same_icnf : (v w : Icnf) → icnf_file v ≡ icnf_file w → v ≡ w
same_icnf v w e =
    let vars : v.vars ≡ w.vars = ap (λ (f : File). f.vars) e in
    let contents : Items v.items ≡ Items w.items = ap (λ (f : File). f.content) e in
    let items : v.items ≡ w.items = cc in
    ap (λ (n : ℕ). record v { vars = n }) vars ∙ ap (λ (xs : List Item). record w { items = xs }) items

-- an input has one output
one_output : OneAnswer → (command : Command) (form : Form) (bytes text other : List ℕ) → Accepts command form bytes text → Accepts command form bytes other → text ≡ other
one_output one command forms.Cnf bytes text other a b = elim (one formats.Cnf bytes) [
  | inl h ↦ a.2 ∙ ap (cnf_output command) (same_cnf a.0 b.0 (h.only (cnf_file a.0) refl a.1 ∙ sym (h.only (cnf_file b.0) refl b.1))) ∙ sym b.2
  | inr h ↦ absurd (h.no_value (cnf_file a.0) refl a.1)
]
one_output one command forms.Icnf bytes text other a b = elim (one formats.Icnf bytes) [
  | inl h ↦ a.2 ∙ ap (icnf_output command) (same_icnf a.0 b.0 (h.only (icnf_file a.0) refl a.1 ∙ sym (h.only (icnf_file b.0) refl b.1))) ∙ sym b.2
  | inr h ↦ absurd (h.no_value (icnf_file a.0) refl a.1)
]

-- or one fault
pub one_fault : OneAnswer → (form : Form) (bytes : List ℕ) (fault other : CnfFault) → IsFault (format_of form) fault bytes → IsFault (format_of form) other bytes → fault ≡ other
one_fault one form bytes fault other a b = elim (one (format_of form) bytes) [
  | inl h ↦ absurd (h.no_fault fault a)
  | inr h ↦ h.only fault a ∙ sym (h.only other b)
]

-- an input has no value beside a fault
not_both : (command : Command) (form : Form) (bytes text : List ℕ) (fault : CnfFault) → Accepts command form bytes text → IsFault (format_of form) fault bytes → ⊥
not_both command forms.Cnf bytes text fault a b = b.none (cnf_file a.0) refl a.1
not_both command forms.Icnf bytes text fault a b = b.none (icnf_file a.0) refl a.1

pub answered : OneAnswer → (command : Command) (form : Form) (answer : Done) (old new : World) (d : Does command form answer old new)
    → Undisturbed command form answer old new d → IsAnswered command form answer old new d
answered one command form done.Accepted old new d calm = record {
  ends = inl refl;
  all = d.ends.1;
  accepted = λ text is. (refl, wrote_is d.mid new d.ends.0 text (one_output one command form d.bytes d.ends.0 text d.ends.2 is) d.ends.3);
  refused = λ fault is. absurd (not_both command form d.bytes d.ends.0 fault d.ends.2 is);
}
answered one command form (done.Refused told) old new d calm = record {
  ends = inr (told, refl);
  all = d.ends.0;
  accepted = λ text is. absurd (not_both command form d.bytes text told is d.ends.1);
  refused = λ fault is.
      let same : told ≡ fault = one_fault one form d.bytes told fault d.ends.1 is in
      (ap done.Refused same, wrote_is d.mid new (refused_text told) (refused_text fault) (ap refused_text same) d.ends.2);
}
answered one command form done.NoMemory old new d calm = absurd (calm.memory refl)
answered one command form done.ReadFault old new d calm = absurd (calm.reads (subst (λ (w : World). Rose old.failed_reads w.failed_reads) (sym d.ends.1) d.ends.0))
answered one command form done.WriteFault old new d calm = absurd (calm.writes (subst (λ (n : ℕ). Rose n new.failed_writes) d.gave.writes d.ends.3.cause))
answered one command form done.TooMuch old new d calm = absurd (omega (arith, d.ends.0, calm.bytes))
