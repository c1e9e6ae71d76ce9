use Rattle.std.proofs.Common.{◌≡◌, ◌-◌, ltb, ap, ◌∙◌, arith}
use Rattle.std.proofs.lemmas.Nat.{one_shl}
use Rattle.tables.specs.Rows.{bit}
use Rattle.tables.proofs.BitTests.{bit_first}
use Rattle.tables.proofs.words.positions.Goals as goal

pub returns-then-len-lt64 : goal.returns-then-len-lt64
returns-then-len-lt64 c i = ap (λ w. bit (w - 1) i) (one_shl c.args.len 64 c.if-len-lt64.true) ∙ bit_first c.args.len i

pub returns-else-len-lt64 : goal.returns-else-len-lt64
returns-else-len-lt64 c i =
    let whole : 64 ≡ c.args.len = omega arith in
    bit_first 64 i ∙ ap (ltb i) whole
