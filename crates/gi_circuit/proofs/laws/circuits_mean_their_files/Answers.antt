use Rattle.gi_circuit.proofs.Files.{value_means}
use Rattle.gi_circuit.proofs.laws.circuits_mean_their_files.Goals as goal

pub returns : goal.returns
returns c = value_means
