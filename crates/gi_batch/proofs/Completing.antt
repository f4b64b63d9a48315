-- Solving a file that nothing disturbs does all of its steps.
use Rattle.std.proofs.Common.{◌≡◌, ℕ, inl, inr, List, Ok, refl, ap, sym, ◌∙◌, subst, arith}
use Rattle.gi_outside.specs.Link.{Rose}
use Rattle.gi_outside.specs.World.{World}
use Rattle.gi_outside.proofs.Writing.{wrote_is}
use Rattle.gi_dimacs.specs.Answers.{IsFault}
use Rattle.gi_dimacs.specs.Laws.{OneAnswer}
use Rattle.gi_dimacs.specs.Texts.{cnf_file, icnf_file}
use Rattle.gi_dimacs.specs.declared.content.Format.TheVariants as formats
use Rattle.gi_dimacs.specs.declared.fault.CnfFault.{CnfFault}
use Rattle.gi_files.proofs.Completing.{one_fault, same_cnf, same_icnf}
use Rattle.gi_files.specs.Commands.{format_of}
use Rattle.gi_files.specs.Texts.{refused_text}
use Rattle.gi_files.specs.declared.form.Form.{Form}
use Rattle.gi_files.specs.declared.form.Form.TheVariants as forms
use Rattle.gi_net.specs.Standing.{Standing}
use Rattle.gi_batch.specs.declared.answer.Answer.{Answer}
use Rattle.gi_batch.specs.declared.answer.Answer.TheVariants as answers
use Rattle.gi_batch.specs.declared.answer.Solved.{Solved}
use Rattle.gi_batch.specs.declared.answer.Solved.TheVariants as solved
use Rattle.gi_batch.specs.Completeness.{IsAnsweredWhole, Undisturbed}
use Rattle.gi_batch.specs.Done.{IsDone}
use Rattle.gi_batch.specs.Solves.{AnswersSolve, Solves, solved_of}
use Rattle.gi_batch.specs.Steps.{BatchStep, HasSteps, cnf_steps, icnf_steps}

-- bytes have one list of steps
one_steps : OneAnswer → (form : Form) (bytes : List ℕ) (s t : List BatchStep) → HasSteps form bytes s → HasSteps form bytes t → s ≡ t
one_steps one forms.Cnf bytes s t a b = elim (one formats.Cnf bytes) [
  | inl h ↦ a.2 ∙ ap cnf_steps (same_cnf a.0 b.0 (h.only (cnf_file a.0) refl a.1 ∙ sym (h.only (cnf_file b.0) refl b.1))) ∙ sym b.2
  | inr h ↦ absurd (h.no_value (cnf_file a.0) refl a.1)
]
one_steps one forms.Icnf bytes s t a b = elim (one formats.Icnf bytes) [
  | inl h ↦ a.2 ∙ ap icnf_steps (same_icnf a.0 b.0 (h.only (icnf_file a.0) refl a.1 ∙ sym (h.only (icnf_file b.0) refl b.1))) ∙ sym b.2
  | inr h ↦ absurd (h.no_value (icnf_file a.0) refl a.1)
]

-- and none beside a fault
not_both : (form : Form) (bytes : List ℕ) (fault : CnfFault) (steps : List BatchStep) → HasSteps form bytes steps → IsFault (format_of form) fault bytes → ⊥
not_both forms.Cnf bytes fault steps a b = b.none (cnf_file a.0) refl a.1
not_both forms.Icnf bytes fault steps a b = b.none (icnf_file a.0) refl a.1

module _ (one : OneAnswer) (form : Form) (budget : ℕ) (old new : World) (h k : Standing) where
  answered_whole : (answer : Answer) (s : Solves (solved_of (Ok answer)) form budget old new h k) → AnswersSolve answer form budget old s.mid new h k s.bytes → IsAnsweredWhole (solved_of (Ok answer)) form budget old new h k s
  answered_whole answer s a = record {
    all = a.all;
    accepted = λ steps are. record {
      answer = answer;
      done = subst (λ (x : List BatchStep). IsDone budget x s.mid new h k answers.Unknown answer) (one_steps one form s.bytes a.steps steps a.are are) a.done;
      told = refl;
    };
    refused = λ fault is. absurd (not_both form s.bytes fault a.steps a.are is);
  }

  pub whole : (result : Solved) (s : Solves result form budget old new h k) → Undisturbed result form budget old new h k s → IsAnsweredWhole result form budget old new h k s
  whole solved.Sat s calm = answered_whole answers.Sat s s.ends
  whole solved.Unsat s calm = answered_whole answers.Unsat s s.ends
  whole solved.Unknown s calm = answered_whole answers.Unknown s s.ends
  whole (solved.Refused told) s calm = record {
    all = s.ends.0.all;
    accepted = λ steps are. absurd (not_both form s.bytes told steps are s.ends.0.faulty);
    refused = λ fault is.
        let same : told ≡ fault = one_fault one form s.bytes told fault s.ends.0.faulty is in
        (ap solved.Refused same, wrote_is s.mid new (refused_text told) (refused_text fault) (ap refused_text same) s.ends.1);
  }
  whole solved.NoMemory s calm = absurd (calm.memory refl)
  whole solved.Denied s calm = absurd (calm.alive refl)
  whole solved.ReadFault s calm = absurd (calm.reads (subst (λ (w : World). Rose old.failed_reads w.failed_reads) (sym s.ends.1) s.ends.0))
  whole solved.WriteFault s calm = absurd (calm.writes (subst (λ (n : ℕ). Rose n new.failed_writes) s.gave.writes (elim s.ends [ inl cut ↦ cut.2.cause | inr stops ↦ stops.begun.cause.1.cause ])))
  whole solved.TooMuch s calm = absurd (elim s.ends [ inl many ↦ omega (arith, many.0, calm.bytes) | inr stops ↦ omega (arith, stops.begun.cause.3, calm.calls) ])
