use Rattle.std.proofs.Common.{◌≡◌, ℕ, ◌<◌, length, get_or, vec_items}
use Rattle.pltl.specs.Runs.{Run}
use Rattle.tables.specs.Listing.{numbered, formulas}
use Rattle.tables.specs.Rows.{recorded, RowOf}
use Rattle.tables.proofs.table.Table.rows.Given as goal

-- the rows of the numbers so far
abbrev pub invariant-loop-i : goal.invariant-loop-i
invariant-loop-i l =
    (length l.rows.words ≡ 512)
    × ((k : ℕ) → k < l.i → (r : Run) → r.states ≡ recorded l.states.letters l.states.len → r.back ≡ l.back → RowOf r (numbered (formulas (vec_items l.self.shapes)) k) (get_or l.rows.words k 0))
