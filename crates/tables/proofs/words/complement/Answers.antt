use Rattle.std.proofs.Common.{not, ◌&&◌, ap, ◌∙◌}
use Rattle.tables.specs.Rows.{bit}
use Rattle.tables.proofs.BitTests.{bit_without}
use Rattle.tables.proofs.words.complement.Goals as goal

pub returns : goal.returns
returns c i = bit_without c.positions-all.result c.args.row i ∙ ap (λ b. b && not (bit c.args.row i)) (c.positions-all.ensures i)
