use Rattle.std.proofs.Common.{◌<◌, length, get_or, vec_items, ap, ◌∙◌, arith}
use Rattle.std.proofs.lemmas.List.{length-set}
use Rattle.pltl.specs.declared.Shape.TheVariants.{True}
use Rattle.tables.specs.Listing.{numbered, formulas}
use Rattle.tables.proofs.Listed.{length_formulas}
use Rattle.tables.proofs.RowPass.{row_added}
use Rattle.tables.proofs.table.Table.rows.Goals as goal

pub loop-i-preserved : goal.loop-i-preserved
loop-i-preserved c =
    let t = c.args.self.now in
    let ss = vec_items t.shapes in
    let i = c.loop-i.i in
    let words = c.loop-i.rows.words in
    let inv = c.loop-i.invariant in
    let items = c.deref-shape-items.ensures.value in
    let inside : i < length ss = omega (arith, ap length items) in
    let room : i < length words = omega (arith, inv.0, t.few, t.shapes.ok.0) in (
      ap length c.set.ensures ∙ length-set words i _ ∙ inv.0,
      λ k lt r is turn.
          row_added ss t.order words i _ inside room r (λ m l. inv.1 m l r is turn) _ (ap (λ l. get_or l i True) items)
          (c.evaluate-row.ensures r is turn (λ n. numbered (formulas ss) n.0)) _ c.set.ensures k lt,
    )

pub returns : goal.returns
returns c r is turn n lt =
    let ss = vec_items c.args.self.now.shapes in
    let items = c.deref-shape-items.ensures.value in
    c.loop-i.invariant.1 n (omega (arith, ap length items, length_formulas ss, lt)) r is turn
