use Rattle.std.proofs.Common.{[], refl, subst, ℕ, List}
use Rattle.gi_dimacs.specs.Reader.{HasRead}
use Rattle.gi_dimacs.specs.declared.content.Format.TheVariants as format
use Rattle.gi_reference.proofs.Loading.{loaded_value, loaded_fault}
use Rattle.gi_reference.proofs.loads.read_payload.Goals as goal

pub returns-in-Value : goal.returns-in-Value
returns-in-Value c = rw (loaded_value c.in-Value.cnf c.args.bytes.now (c.in-Value.ensures.read c.args.bytes.now (rw c.as_slice.ensures at (c.in_ok-feed.ensures.ok [] c.new-reader.ensures.nothing)))) (record { vars = refl; clauses = refl; refused = refl })

pub returns-in-Fault : goal.returns-in-Fault
returns-in-Fault c = rw (loaded_fault c.in-Fault.fault c.args.bytes.now (c.in-Fault.ensures.read c.args.bytes.now (rw c.as_slice.ensures at (c.in_ok-feed.ensures.ok [] c.new-reader.ensures.nothing)))) (record { vars = refl; clauses = c.new.ensures; refused = refl })
