-- What is true of every case, whatever calls it took. Assumes nothing.
use Rattle.std.specs.Prelude.{◌≡◌, ℕ, ◌<◌, true, length, Some, slice_index_or}
use Rattle.calculus.specs.Sequents.{NoRun}
use Rattle.tables.specs.Listing.{numbered}
use Rattle.tables.specs.Sets.{chosen}
use Rattle.cases.specs.Loops.{looped}
use Rattle.cases.specs.Models.{SteppedModel}
use Rattle.cases.specs.Roots.{contains, all_below}
use Rattle.cases.specs.Steps.{nothing}

pub record Good (c : SteppedModel) : Type 0 where
  -- root formulas are in the table
  pub rooted : all_below (length c.case.formulas) c.case.roots ≡ true
  -- conclusions of taken steps are in the table, and have no run
  pub inside : (i n : ℕ) → i < length c.steps → slice_index_or c.steps i nothing n ≡ true → n < length c.case.formulas
  pub refuted : (i : ℕ) → i < length c.steps → NoRun (chosen (slice_index_or c.steps i nothing) c.case.formulas)
  -- a closed run goes on at one of its positions, and satisfies the root formulas
  pub closed : (b : ℕ) → c.case.run.back ≡ Some b → b < length c.case.run.states
  pub shown : (b n : ℕ) → c.case.run.back ≡ Some b → contains c.case.roots n ≡ true → looped c.case.run.states b (numbered c.case.formulas n) ≡ true
