use Rattle.std.proofs.Common.{vec_items, sym, ◌∙◌, arith}
use Rattle.tables.proofs.Listed.{length_formulas}
use Rattle.tables.proofs.table.Table.len.Goals as goal

pub returns : goal.returns
returns c =
    let v = c.args.self.now.shapes in
    record { value = c.len.ensures ∙ v.ok.0 ∙ sym (length_formulas (vec_items v)); few = omega (arith, c.len.ensures, c.args.self.now.few) }
