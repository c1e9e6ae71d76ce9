-- The numbers of the rules of kit `s`, by the enum of the code. Assumes nothing.
use Rattle.std.specs.Prelude.{ℕ, cond, Some, None, Ok, Err, Option, Result, ◌==◌}
use Rattle.kits.specs.declared.faults.KitFault.{KitFault}
use Rattle.kits.specs.declared.faults.KitFault.TheVariants.{Unknown}
use Rattle.sequents.specs.declared.rule.SequentRule.{SequentRule}
use Rattle.sequents.specs.declared.rule.SequentRule.TheVariants as rule

abbrev pub rule_number : SequentRule → ℕ
rule_number rule.Contra = 1
rule_number rule.False = 2
rule_number rule.And = 3
rule_number rule.Or = 4
rule_number rule.Always = 5
rule_number rule.Some = 6
rule_number rule.Until = 7
rule_number rule.Release = 8
rule_number rule.SomeAgain = 9
rule_number rule.UntilAgain = 10
rule_number rule.Next = 11

-- The rule of a number; a number that is no rule's is unknown.
abbrev pub rule_numbered : ℕ → Result SequentRule KitFault
rule_numbered n =
    cond (n == 1) (Ok rule.Contra) (
    cond (n == 2) (Ok rule.False) (
    cond (n == 3) (Ok rule.And) (
    cond (n == 4) (Ok rule.Or) (
    cond (n == 5) (Ok rule.Always) (
    cond (n == 6) (Ok rule.Some) (
    cond (n == 7) (Ok rule.Until) (
    cond (n == 8) (Ok rule.Release) (
    cond (n == 9) (Ok rule.SomeAgain) (
    cond (n == 10) (Ok rule.UntilAgain) (
    cond (n == 11) (Ok rule.Next) (Err Unknown)))))))))))

-- The number of a rule, if there is one.
abbrev pub named_number : Option SequentRule → Option ℕ
named_number None = None
named_number (Some r) = Some (rule_number r)
