use Rattle.std.proofs.Common.{◌≡◌, ℕ, Bool, zero, suc, ◌*◌, ◌^◌, ◌<◌, [], ◌∷◌, get_or, Decides, add-one, pow-suc, sym, refl, ap, ◌∙◌, subst, arith}
use Rattle.tables.specs.Rows.{bit}
use Rattle.tables.specs.Words.{In}
use Rattle.tables.proofs.Sweeps.{Each, Soon}
use Rattle.tables.proofs.SweptWords.{found_doubled, along_doubled, found_all}
use Rattle.tables.proofs.words.sweep.Goals as goal

-- the span of a turn
span_of : (k : ℕ) → k < 6 → get_or (1 ∷ 2 ∷ 4 ∷ 8 ∷ 16 ∷ 32 ∷ []) k 0 ≡ 2 ^ k
span_of zero lt = refl
span_of (suc zero) lt = refl
span_of (suc (suc zero)) lt = refl
span_of (suc (suc (suc zero))) lt = refl
span_of (suc (suc (suc (suc zero)))) lt = refl
span_of (suc (suc (suc (suc (suc zero))))) lt = refl
span_of (suc (suc (suc (suc (suc (suc k)))))) lt = absurd (omega arith)

wider : (r : Bool) (P : ℕ → Type 0) (m n : ℕ) → m ≡ n → Decides r (P m) → Decides r (P n)
wider r P m n e = subst (λ k. Decides r (P k)) e

pub loop-span-preserved : goal.loop-span-preserved
loop-span-preserved c =
    let through = In c.args.through in
    let goals = In c.args.goal in
    let inv = c.loop-span.invariant in
    let k = c.loop-span.span-index in
    let span : ℕ = get_or (1 ∷ 2 ∷ 4 ∷ 8 ∷ 16 ∷ 32 ∷ []) k 0 in
    let is = span_of k (omega arith) in
    let next = ap (λ n. n * 2) is ∙ sym (pow-suc 2 k) ∙ ap (λ n. 2 ^ n) (sym (add-one k)) in
    let found = λ (i : ℕ). wider (bit c.loop-span.reached i) (λ n. Soon n through goals i) _ _ (sym is) (inv.0 i) in
    let along = λ (i : ℕ). wider (bit c.loop-span.through i) (λ n. Each n through i) _ _ (sym is) (inv.1 i) in (
      λ i. wider _ (λ n. Soon n through goals i) _ _ next (found_doubled _ _ _ _ span found along i),
      λ i. wider _ (λ n. Each n through i) _ _ next (along_doubled _ c.args.goal c.loop-span.reached _ span found along i),
    )

pub returns : goal.returns
returns c =
    let inv = c.loop-span.invariant in
    let k = c.loop-span.span-index in
    let end : k ≡ 6 = omega arith in
    found_all _ _ _ _ (2 ^ k) inv.0 inv.1 c.ranges.goal.fits (omega (arith, ap (λ n. 2 ^ n) end))
