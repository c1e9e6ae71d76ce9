use Rattle.std.proofs.Common.{◌≡◌, ◌<◌, true, length, Decides}
use Rattle.tables.specs.Numbers.{beside}
use Rattle.tables.specs.Sets.{member}
use Rattle.kits.specs.Steps.{listed}
use Rattle.units.proofs.closure.fn.has_opposites.any.Given as goal

abbrev pub ensures : goal.ensures
ensures l r = Decides r ((l.k.0 < length (listed l.table.entry.now)) × (member l.set.entry.now (beside l.k.0) ≡ true))
