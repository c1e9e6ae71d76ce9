use Rattle.std.proofs.Common.{◌≡◌, ℕ, suc, ◌-◌, ◌/◌, ◌%◌, ◌^◌, ◌<◌, true, false, eqb, ap, subst, pow-suc, arith}
use lib.Count.{count_leading_zeros}
use Rattle.std.proofs.lemmas.Nat.{pow_pos, le-div, div_below, leading_top}
use Rattle.tables.specs.Rows.{bit}
use Rattle.tables.proofs.BitTests.{bit_past}
use Rattle.tables.proofs.words.last_in.Goals as goal

pub returns : goal.returns
returns c =
    let a = c.args.row in
    let t = leading_top 64 a (omega arith) c.ranges.row.fits in
    let j = t.0 in
    let is : j ≡ 63 - count_leading_zeros 64 a = omega (arith, t.1) in
    let pos = pow_pos j in
    let one : a / 2 ^ j ≡ 1 = omega (arith, le-div 1 a (2 ^ j) pos (omega (arith, t.2)), div_below a (2 ^ j) 2 pos (omega (arith, t.3, pow-suc 2 j))) in
    subst (λ n. (n < 64) × (bit a n ≡ true) × ((i : ℕ) → n < i → bit a i ≡ false)) is
    (omega (arith, t.1), ap (λ x. eqb (x % 2) 1) one, λ i lt. bit_past a (suc j) i t.3 (omega arith))
