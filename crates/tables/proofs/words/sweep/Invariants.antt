use Rattle.std.proofs.Common.{ℕ, ◌^◌, Decides}
use Rattle.tables.specs.Rows.{bit}
use Rattle.tables.specs.Words.{In}
use Rattle.tables.proofs.Sweeps.{Each, Soon}
use Rattle.tables.proofs.words.sweep.Given as goal

-- what was found within the span, and where `through` holds all along the span
abbrev pub invariant-loop-span : goal.invariant-loop-span
invariant-loop-span l =
    ((i : ℕ) → Decides (bit l.reached i) (Soon (2 ^ l.span-index) (In l.initial.through) (In l.goal) i))
    × ((i : ℕ) → Decides (bit l.through i) (Each (2 ^ l.span-index) (In l.initial.through) i))
