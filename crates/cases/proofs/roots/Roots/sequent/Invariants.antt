use Rattle.std.proofs.Common.{◌≡◌, ℕ, ◌&&◌, ◌||◌, ltb, drop, vec_items}
use Rattle.tables.specs.Sets.{member}
use Rattle.cases.specs.Roots.{contains, plain}
use Rattle.cases.proofs.roots.Roots.sequent.Given as goal

-- the set has what is past
abbrev pub invariant-loop-number : goal.invariant-loop-number
invariant-loop-number l = (k : ℕ) → (member l.set k || (ltb k 512 && contains (plain (drop l.number-index (vec_items l.self.numbers))) k)) ≡ (ltb k 512 && contains (plain (vec_items l.self.numbers)) k)
