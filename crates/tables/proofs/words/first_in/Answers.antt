use Rattle.std.proofs.Common.{◌≡◌, ℕ, zero, suc, ◌+◌, ◌-◌, ◌/◌, ◌%◌, ◌^◌, ◌<◌, true, false, eqb, sym, refl, ap, ◌∙◌, ⊎_elim, pow-suc, add-one, arith}
use lib.Count.{count_trailing_zeros, under}
use Rattle.std.proofs.lemmas.Bool.{cases_eq}
use Rattle.tables.specs.Rows.{bit}
use Rattle.tables.proofs.BitTests.{bit_shr}
use Rattle.tables.proofs.words.first_in.Goals as goal

-- bit n is the lowest one of a word that is set, and one of the first k
abbrev Lowest : ℕ → ℕ → ℕ → Type 0
Lowest k a n = (n < k) × (bit a n ≡ true) × ((i : ℕ) → i < n → bit a i ≡ false)

bit_first : (a d : ℕ) → a % 2 ≡ d → bit a 0 ≡ eqb d 1
bit_first a d e = let low : a / 2 ^ 0 % 2 ≡ d = omega arith in ap (λ x. eqb x 1) low

-- below the first bit d is the lowest bit of the rest, t
lowest_under : (k a t d : ℕ) → a % 2 ≡ d → (d ≡ 0 → Lowest k (a / 2) t) → Lowest (suc k) a (under d t)
lowest_under k a t zero e rest =
    let r = rest refl in (
      omega (arith, r.0),
      ap (bit a) (sym (add-one t)) ∙ sym (bit_shr a 1 t) ∙ r.1,
      λ i lt. ⊎_elim
          (λ z. ap (bit a) z ∙ bit_first a 0 e)
          (λ o. let p : i ≡ (i - 1) + 1 = omega arith in ap (bit a) p ∙ sym (bit_shr a 1 (i - 1)) ∙ r.2 (i - 1) (omega arith))
          (cases_eq i 0),
    )
lowest_under k a t (suc d) e rest = let one : a % 2 ≡ 1 = omega arith in (omega arith, bit_first a 1 one, λ i lt. absurd (omega arith))

lowest : (k a : ℕ) → 0 < a → a < 2 ^ k → Lowest k a (count_trailing_zeros k a)
unfolding count_trailing_zeros
lowest zero a p h = absurd (omega arith)
lowest (suc k) a p h = lowest_under k a (count_trailing_zeros k (a / 2)) (a % 2) refl (λ e. lowest k (a / 2) (omega arith) (omega (arith, pow-suc 2 k)))

pub returns : goal.returns
returns c = lowest 64 c.args.row (omega arith) c.ranges.row.fits
