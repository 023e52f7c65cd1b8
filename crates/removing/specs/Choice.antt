-- What a scan for blocked items finds, as numbers.
use Rattle.std.specs.Prelude.{◌<◌}
use Rattle.fieldset.specs.Fields.{only}
use Rattle.scanning.specs.declared.Blocked.{Blocked}
use Rattle.scanning.specs.declared.Blocked.TheVariants.{Link, Stay}
use Rattle.removing.specs.declared.Chosen.{Chosen}

-- a stay is that of one of 64 fields
abbrev pub OfField : Blocked → Type 0
OfField (Link i l) = Unit {0}
OfField (Stay f) = f < 64

-- the number as a setter, the outputs and the covered fields of the link or stay
abbrev pub chosen_of : Blocked → Chosen
chosen_of (Link i l) = record { number = i; outputs = l.outputs; covered = l.covered }
chosen_of (Stay f) = record { number = 128; outputs = only f; covered = only f }
