-- A whole file, from its bytes to the last answer.
use Rattle.std.proofs.Common.{◌≡◌, ℕ, List, Result, Ok, Err, refl, inl, inr, subst, sym}
use Rattle.gi_outside.specs.World.{World}
use Rattle.gi_dimacs.specs.Answers.{IsFault}
use Rattle.gi_dimacs.specs.Content.{File}
use Rattle.gi_dimacs.specs.Relation.{IsFile}
use Rattle.gi_dimacs.specs.declared.content.Format.{Format}
use Rattle.gi_dimacs.specs.declared.fault.CnfFault.{CnfFault}
use Rattle.gi_files.specs.Commands.{format_of}
use Rattle.gi_files.specs.Input.{IsAll, Reads}
use Rattle.gi_files.specs.declared.form.Form.{Form}
use Rattle.gi_files.specs.declared.reading.FileInput.TheVariants as input
use Rattle.gi_net.specs.Standing.{Standing}
use Rattle.gi_batch.specs.declared.answer.Answer.{Answer}
use Rattle.gi_batch.specs.declared.answer.Answer.TheVariants as answers
use Rattle.gi_batch.specs.declared.answer.Stop.{Stop}
use Rattle.gi_batch.specs.declared.answer.Stop.TheVariants as stops
use Rattle.gi_batch.specs.declared.answer.Solved.{Solved}
use Rattle.gi_batch.specs.declared.answer.Solved.TheVariants as solved
use Rattle.gi_batch.specs.Steps.{BatchStep, HasSteps}
use Rattle.gi_batch.specs.Done.{Goes}
use Rattle.gi_batch.specs.Solves.{SolveEnds, PrintsRefusal, Solves, solved_of}

module _ (form : Form) (budget : ℕ) (old mid new : World) (h k : Standing) (bytes : List ℕ) where
  -- a file whose steps were done or begun
  ends_file : (r : Result Answer Stop) (steps : List BatchStep) → IsAll old mid bytes → HasSteps form bytes steps → Goes r budget steps mid new h k answers.Unknown → SolveEnds (solved_of r) form budget old mid new h k bytes
  ends_file (Ok answers.Sat) steps all are done = record { all = all; steps = steps; are = are; done = done }
  ends_file (Ok answers.Unsat) steps all are done = record { all = all; steps = steps; are = are; done = done }
  ends_file (Ok answers.Unknown) steps all are done = record { all = all; steps = steps; are = are; done = done }
  ends_file (Err stops.NoMemory) steps all are begun = inr (record { all = all; steps = steps; are = are; begun = begun })
  ends_file (Err stops.WriteFault) steps all are begun = inr (record { all = all; steps = steps; are = are; begun = begun })
  ends_file (Err stops.TooMuch) steps all are begun = inr (record { all = all; steps = steps; are = are; begun = begun })
  ends_file (Err stops.Denied) steps all are begun = record { all = all; steps = steps; are = are; begun = begun }

  -- a refused one
  ends_refused : (result : Solved) (fault : CnfFault) → IsAll old mid bytes → IsFault (format_of form) fault bytes → PrintsRefusal result fault mid new → SolveEnds result form budget old mid new h h bytes
  ends_refused (solved.Refused told) fault all is wrote =
      subst (λ f. SolveEnds (solved.Refused f) form budget old mid new h h bytes) (sym wrote.0) (record { all = all; faulty = is; same = refl }, wrote.1)
  ends_refused solved.WriteFault fault all is cut = inl (fault, record { all = all; faulty = is; same = refl }, cut)
  ends_refused solved.Sat fault all is none = absurd none
  ends_refused solved.Unsat fault all is none = absurd none
  ends_refused solved.Unknown fault all is none = absurd none
  ends_refused solved.NoMemory fault all is none = absurd none
  ends_refused solved.ReadFault fault all is none = absurd none
  ends_refused solved.TooMuch fault all is none = absurd none
  ends_refused solved.Denied fault all is none = absurd none

module _ {V : Type 0} (format : Format) (file : V → File) (form : Form) (budget : ℕ) (old mid : World) (h : Standing) where
  pub file_solves : (v : V) (steps : List BatchStep) → ((bytes : List ℕ) → IsFile (file v) bytes → HasSteps form bytes steps) → (new : World) (k : Standing) (r : Result Answer Stop) → Reads format file (input.Value v) old mid → Goes r budget steps mid new h k answers.Unknown → Solves (solved_of r) form budget old new h k
  file_solves v steps has new k r read goes = record { bytes = read.bytes; mid = mid; gave = read.gave; bounded = read.bounded; ends = ends_file form budget old mid new h k read.bytes r steps read.is.0 (has read.bytes read.is.1) goes }

  pub file_refused : format_of form ≡ format → (fault : CnfFault) (new : World) (result : Solved) → Reads format file (input.Refused fault) old mid → PrintsRefusal result fault mid new → Solves result form budget old new h h
  file_refused e fault new result read prints = record { bytes = read.bytes; mid = mid; gave = read.gave; bounded = read.bounded; ends = ends_refused form budget old mid new h h read.bytes result fault read.is.0 (subst (λ f. IsFault f fault read.bytes) (sym e) read.is.1) prints }

  pub file_no_memory : Reads format file input.NoMemory old mid → Solves solved.NoMemory form budget old mid h h
  file_no_memory read = record { bytes = read.bytes; mid = mid; gave = read.gave; bounded = read.bounded; ends = inl (refl, refl) }

  pub file_read_fault : Reads format file input.ReadFault old mid → Solves solved.ReadFault form budget old mid h h
  file_read_fault read = record { bytes = read.bytes; mid = mid; gave = read.gave; bounded = read.bounded; ends = (read.is, refl, refl) }

  pub file_too_much : Reads format file input.TooMuch old mid → Solves solved.TooMuch form budget old mid h h
  file_too_much read = record { bytes = read.bytes; mid = mid; gave = read.gave; bounded = read.bounded; ends = inl (read.is, refl, refl) }
