use Rattle.std.proofs.Common.{◌∙◌, ap, sym, []}
use Rattle.gi_dimacs.proofs.Accepting.{file_is_read}
use Rattle.gi_dimacs.specs.Texts.{cnf_file}
use Rattle.gi_model.specs.Loads.{file_clauses, file_vars, loaded}
use Rattle.gi_kept.proofs.load.read_load.Goals as goal

pub returns-in-Value : goal.returns-in-Value
unfolding loaded
returns-in-Value c =
    let read = c.in-Value.ensures.read c.args.bytes.now (c.in_ok-feed.ensures.ok [] c.new-reader.ensures.nothing) in
    let is = file_is_read (cnf_file c.in-Value.file) c.args.bytes.now read in
    (sym (ap file_vars is), sym (ap file_clauses is))

pub returns-in-Fault : goal.returns-in-Fault
unfolding loaded
returns-in-Fault c =
    let read = c.in-Fault.ensures.read c.args.bytes.now (c.in_ok-feed.ensures.ok [] c.new-reader.ensures.nothing) in
    (sym (ap file_vars read.first), c.new.ensures ∙ sym (ap file_clauses read.first))
