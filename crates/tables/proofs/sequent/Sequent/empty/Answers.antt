use Rattle.std.proofs.Common.{ℕ, replicate, ap, ◌∙◌}
use Rattle.std.proofs.lemmas.List.{get_or-replicate}
use Rattle.tables.specs.Rows.{bit}
use Rattle.tables.proofs.BitTests.{bit_zero}
use Rattle.tables.proofs.InSets.{members_empty}
use Rattle.tables.proofs.sequent.Sequent.empty.Goals as goal

pub returns : goal.returns
returns c = members_empty (record { words = replicate 8 0 }) (λ i j a b. ap (λ w. bit w j) (get_or-replicate {A = ℕ} 8 i 0 0 a) ∙ bit_zero j)
