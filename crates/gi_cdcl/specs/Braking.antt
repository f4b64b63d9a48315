-- How often a brake was asked.
use Rattle.std.specs.Prelude.{ℕ}
use Rattle.gi_cdcl.specs.declared.no_brake.NoBrake.{NoBrake}

abbrev pub asks_of : NoBrake → ℕ
asks_of b = b.asks
