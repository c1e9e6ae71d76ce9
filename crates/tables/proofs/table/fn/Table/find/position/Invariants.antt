use Rattle.std.proofs.Common.{◌≡◌, Decides}
use Rattle.tables.proofs.table.fn.Table.find.position.Given as goal

abbrev pub ensures : goal.ensures
ensures l r = Decides r (l.found.entry.now ≡ l.shape)
