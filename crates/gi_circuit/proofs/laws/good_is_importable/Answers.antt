use Rattle.gi_circuit.proofs.Goodness.{importable}
use Rattle.gi_circuit.proofs.laws.good_is_importable.Goals as goal

pub returns : goal.returns
returns c = importable
