-- Which sign a byte is. Assumes nothing.
use Rattle.std.specs.Prelude.{ℕ, ◌-◌, cond, ◌&&◌, List, [], ◌∷◌, ◌==◌, nat_le}
use Rattle.texts.specs.declared.Sign.{Sign}
use Rattle.texts.specs.declared.Sign.TheVariants.{Not, Next, Always, Eventually, Until, Release, And, Or, Minus, Greater, Open, Close, One, Zero, Letter, Other}

abbrev pub classified : ℕ → Sign
classified b =
    cond (b == 33) Not (cond (b == 88) Next (cond (b == 71) Always (cond (b == 70) Eventually
    (cond (b == 85) Until (cond (b == 82) Release (cond (b == 38) And (cond (b == 124) Or
    (cond (b == 45) Minus (cond (b == 62) Greater (cond (b == 40) Open (cond (b == 41) Close
    (cond (b == 49) One (cond (b == 48) Zero (cond (nat_le 97 b && nat_le b 122) (Letter (b - 97)) Other))))))))))))))

-- the same, shut, for what speaks of a text's signs
unfoldable pub sign_of : ℕ → Sign
sign_of b = classified b

-- the sign that some bytes begin with; the end is none
abbrev pub sign_from : List ℕ → Sign
sign_from [] = Other
sign_from (b ∷ w) = sign_of b
