-- Bits of words, operation by operation. Assumes nothing.
use Rattle.std.proofs.Common.{◌≡◌, ℕ, zero, suc, ◌+◌, ◌-◌, ◌*◌, ◌/◌, ◌%◌, ◌^◌, ◌<◌, ◌≤◌, min, max, true, false, not, ◌&&◌, ◌||◌, eqb, ltb, sym, refl, ap, ◌∙◌, ⊎_elim, lt_of_lt_of_le, suc-mul, add_comm, pow-suc, arith, pow_mono}
use native.Mathlib.Nat.{div-eq_of_lt, div_self}
use lib.Bits.{bit_and, bit_or, bit_xor, differ, and_step, or_step, xor_step}
use Rattle.std.proofs.lemmas.Nat.{pow_pos, pow-add, shr-shr, shl-shr, and_shr, or_shr, xor_shr, div-mul-add, pow_below}
use Rattle.std.proofs.lemmas.Bool.{cases_lt, cases_order, both_ways, eq-eqb, ne_eqb, lt-ltb, le-ltb}
use Rattle.tables.specs.Rows.{bit}

-- what holds of the four pairs of bits
by_bits : (P : ℕ → ℕ → Type 0) → P 0 0 → P 0 1 → P 1 0 → P 1 1 → (u v : ℕ) → u < 2 → v < 2 → P u v
by_bits P a b c d zero zero p q = a
by_bits P a b c d zero (suc zero) p q = b
by_bits P a b c d (suc zero) zero p q = c
by_bits P a b c d (suc zero) (suc zero) p q = d
by_bits P a b c d zero (suc (suc v)) p q = absurd (omega arith)
by_bits P a b c d (suc zero) (suc (suc v)) p q = absurd (omega arith)
by_bits P a b c d (suc (suc u)) v p q = absurd (omega arith)

and_bits : (u v : ℕ) → u < 2 → v < 2 → eqb (min u v) 1 ≡ (eqb u 1 && eqb v 1)
and_bits = by_bits (λ u v. eqb (min u v) 1 ≡ (eqb u 1 && eqb v 1)) refl refl refl refl

or_bits : (u v : ℕ) → u < 2 → v < 2 → eqb (max u v) 1 ≡ (eqb u 1 || eqb v 1)
or_bits = by_bits (λ u v. eqb (max u v) 1 ≡ (eqb u 1 || eqb v 1)) refl refl refl refl

without_bits : (u v : ℕ) → u < 2 → v < 2 → eqb (differ u (min v u) % 2) 1 ≡ (eqb u 1 && not (eqb v 1))
without_bits = by_bits (λ u v. eqb (differ u (min v u) % 2) 1 ≡ (eqb u 1 && not (eqb v 1))) refl refl refl refl

low_and : (x y : ℕ) → bit_and x y % 2 ≡ min (x % 2) (y % 2)
low_and x y = omega (arith, and_step x y)

low_or : (x y : ℕ) → bit_or x y % 2 ≡ max (x % 2) (y % 2)
low_or x y = omega (arith, or_step x y)

low_without : (x y : ℕ) → bit_xor x (bit_and y x) % 2 ≡ differ (x % 2) (min (y % 2) (x % 2)) % 2
low_without x y = omega (arith, xor_step x (bit_and y x), ap (differ (x % 2)) (low_and y x))

pub bit_of_and : (a b i : ℕ) → bit (bit_and a b) i ≡ (bit a i && bit b i)
bit_of_and a b i =
    let x = a / 2 ^ i in
    let y = b / 2 ^ i in
    ap (λ z. eqb (z % 2) 1) (and_shr a b i) ∙ ap (λ z. eqb z 1) (low_and x y) ∙ and_bits (x % 2) (y % 2) (omega arith) (omega arith)

pub bit_of_or : (a b i : ℕ) → bit (bit_or a b) i ≡ (bit a i || bit b i)
bit_of_or a b i =
    let x = a / 2 ^ i in
    let y = b / 2 ^ i in
    ap (λ z. eqb (z % 2) 1) (or_shr a b i) ∙ ap (λ z. eqb z 1) (low_or x y) ∙ or_bits (x % 2) (y % 2) (omega arith) (omega arith)

-- one word without the bits of another
pub bit_without : (a b i : ℕ) → bit (bit_xor a (bit_and b a)) i ≡ (bit a i && not (bit b i))
bit_without a b i =
    let x = a / 2 ^ i in
    let y = b / 2 ^ i in
    ap (λ z. eqb (z % 2) 1) (xor_shr a (bit_and b a) i ∙ ap (bit_xor x) (and_shr b a i)) ∙ ap (λ z. eqb z 1) (low_without x y) ∙ without_bits (x % 2) (y % 2) (omega arith) (omega arith)

pub bit_shr : (a k i : ℕ) → bit (a / 2 ^ k) i ≡ bit a (i + k)
bit_shr a k i = ap (λ x. eqb (x % 2) 1) (shr-shr a k i ∙ ap (λ n. a / 2 ^ n) (add_comm k i))

-- a word has no bit from its size on
pub bit_past : (a k i : ℕ) → a < 2 ^ k → k ≤ i → bit a i ≡ false
bit_past a k i h le = ap (λ x. eqb (x % 2) 1) (div-eq_of_lt (lt_of_lt_of_le h (pow_mono le)))

pub bit_inside : (a k i : ℕ) → a < 2 ^ k → bit a i ≡ true → i < k
bit_inside a k i h b = ⊎_elim (λ l. l) (λ g. absurd (both_ways (bit a i) (bit_past a k i h g) b)) (cases_lt i k)

pub bit_zero : (i : ℕ) → bit 0 i ≡ false
bit_zero i = bit_past 0 0 i (omega arith) (omega arith)

-- a word of which only bit k is set
pub bit_only : (k i : ℕ) → bit (2 ^ k) i ≡ eqb i k
bit_only k i =
    ⊎_elim
    (λ e. ap (λ x. eqb (x % 2) 1) (ap (λ n. 2 ^ k / 2 ^ n) e ∙ div_self (pow_pos k)) ∙ sym (eq-eqb i k e))
    (λ o. ⊎_elim
    (λ l.
    let m = k - i - 1 in
    let e : k ≡ suc m + i = omega arith in
    let d : 2 ^ k / 2 ^ i ≡ 2 ^ m * 2 = ap (λ n. 2 ^ n / 2 ^ i) e ∙ ap (λ x. x / 2 ^ i) (pow-add 2 (suc m) i) ∙ shl-shr (2 ^ suc m) i ∙ pow-suc 2 m in
    let even : 2 ^ k / 2 ^ i % 2 ≡ 0 = omega (arith, d) in
    ap (λ x. eqb x 1) even ∙ sym (ne_eqb i k (omega arith)))
    (λ g. bit_past (2 ^ k) i i (pow_below k i g) (omega arith) ∙ sym (ne_eqb i k (omega arith)))
    o)
    (cases_order i k)

-- a word of which the first n bits are set
pub bit_first : (n i : ℕ) → bit (2 ^ n - 1) i ≡ ltb i n
bit_first n i =
    ⊎_elim
    (λ l.
    let m = n - i - 1 in
    let e : n ≡ suc m + i = omega arith in
    let two : 2 ^ suc m ≡ 2 ^ m * 2 = pow-suc 2 m in
    let pos = pow_pos m in
    let whole : 2 ^ n ≡ 2 ^ suc m * 2 ^ i = ap (λ k. 2 ^ k) e ∙ pow-add 2 (suc m) i in
    let up : 2 ^ suc m ≡ suc (2 ^ suc m - 1) = omega arith in
    let split : 2 ^ suc m * 2 ^ i ≡ (2 ^ suc m - 1) * 2 ^ i + 2 ^ i = ap (λ x. x * 2 ^ i) up ∙ suc-mul (2 ^ suc m - 1) (2 ^ i) in
    let below : 2 ^ n - 1 ≡ (2 ^ suc m - 1) * 2 ^ i + (2 ^ i - 1) = omega (arith, pow_pos i) in
    let d : (2 ^ n - 1) / 2 ^ i ≡ 2 ^ suc m - 1 = ap (λ x. x / 2 ^ i) below ∙ div-mul-add (2 ^ suc m - 1) (2 ^ i) (2 ^ i - 1) (omega (arith, pow_pos i)) in
    let odd : (2 ^ n - 1) / 2 ^ i % 2 ≡ 1 = omega (arith, d) in
    ap (λ x. eqb x 1) odd ∙ sym (lt-ltb i n l))
    (λ g. bit_past (2 ^ n - 1) n i (omega (arith, pow_pos n)) g ∙ sym (le-ltb i n g))
    (cases_lt i n)
