-- The numbers of the rules. Assumes nothing.
use Rattle.std.proofs.Common.{◌≡◌, arith}
use Rattle.sequents.specs.declared.rule.SequentRule.{SequentRule}
use Rattle.sequents.specs.declared.rule.SequentRule.TheVariants as rule
use Rattle.sequents.specs.Numbered.{rule_number}

-- only next has the number 11
pub not_eleven : (r : SequentRule) → (r ≡ rule.Next → ⊥) → rule_number r ≡ 11 → ⊥
not_eleven rule.Contra other e = omega (arith, e)
not_eleven rule.False other e = omega (arith, e)
not_eleven rule.And other e = omega (arith, e)
not_eleven rule.Or other e = omega (arith, e)
not_eleven rule.Always other e = omega (arith, e)
not_eleven rule.Some other e = omega (arith, e)
not_eleven rule.Until other e = omega (arith, e)
not_eleven rule.Release other e = omega (arith, e)
not_eleven rule.SomeAgain other e = omega (arith, e)
not_eleven rule.UntilAgain other e = omega (arith, e)
not_eleven rule.Next other e = other cc
