-- What the verdict of a good case means, and that two cases with the same root formulas never have opposite verdicts.
-- Assumes nothing.
use Rattle.std.proofs.Common.{◌≡◌, ℕ, zero, suc, ◌<◌, Bool, true, false, cond, not, ◌||◌, eqb, List, [], ◌∷◌, map, length, get_or, Some, None, Option, sym, refl, ap, ◌∙◌, subst, inl, inr, ⊎_elim, arith}
use Rattle.std.proofs.lemmas.Bool.{cases_lt, and_parts, or_cases, eqb-true, false≢true, and_from, or_left, or_right, eq-eqb}
use Rattle.pltl.specs.Formulas.{Formula}
use Rattle.pltl.specs.Formulas as formula
use Rattle.pltl.specs.Runs.{Run, Satisfies}
use Rattle.calculus.specs.Sequents.{NoRun, SatisfiesAll, ◌∈◌}
use Rattle.tables.proofs.Chosen.{chosen_from}
use Rattle.tables.specs.Listing.{numbered}
use Rattle.tables.specs.Sets.{chosen}
use Rattle.cases.specs.Good.{Good}
use Rattle.cases.specs.Models.{CaseModel, SteppedModel}
use Rattle.cases.specs.Recordings.{is_closed}
use Rattle.cases.specs.Roots.{contains}
use Rattle.cases.specs.Steps.{nothing}
use Rattle.std.specs.List.{list_any}
use Rattle.cases.specs.Verdicts.{root_formulas, only_roots, Recorded, Means, all_in, SameFormulas, verdict}
use Rattle.cases.proofs.Looped.{satisfied_tells, looped_is}

-- the formulas of a list of numbers
pub in_map : (f : ℕ → Formula) (ns : List ℕ) (n : ℕ) → contains ns n ≡ true → f n ∈ map f ns
in_map f [] n e = absurd (false≢true e)
in_map f (m ∷ ns) n e = ⊎_elim (λ (q : eqb m n ≡ true). inl (ap f (sym (eqb-true m n q)))) (λ r. inr (in_map f ns n r)) (or_cases _ _ e)

pub from_map : (f : ℕ → Formula) (ns : List ℕ) (g : Formula) → g ∈ map f ns → (n : ℕ) × (contains ns n ≡ true) × (g ≡ f n)
from_map f [] g h = absurd h
from_map f (m ∷ ns) g (inl e) = (m, or_left _ _ (eq-eqb m m refl), e)
from_map f (m ∷ ns) g (inr h) = let r = from_map f ns g h in (r.0, or_right _ _ r.1, r.2)

-- a formula of a set is at an index
at_index_of : (g : Formula) (Γ : List Formula) → g ∈ Γ → (i : ℕ) × (i < length Γ) × (get_or Γ i formula.True ≡ g)
at_index_of g [] h = absurd h
at_index_of g (f ∷ Γ) (inl e) = (0, omega arith, sym e)
at_index_of g (f ∷ Γ) (inr h) = let r = at_index_of g Γ h in (suc r.0, omega (arith, r.1), r.2)

-- a chosen formula is that of a number of the set
pub from_chosen : (S : ℕ → Bool) (fs : List Formula) (g : Formula) → g ∈ chosen S fs → (n : ℕ) × (n < length fs) × (S n ≡ true) × (g ≡ numbered fs n)
from_chosen S fs g h =
    let i = at_index_of g (chosen S fs) h in
    let n = chosen_from S fs i.0 i.1 in
    (n.0, n.1, n.2, sym i.2 ∙ n.3)

pub all_in_tells : (n : ℕ) (S T : ℕ → Bool) → all_in n S T ≡ true → (k : ℕ) → k < n → S k ≡ true → T k ≡ true
all_in_tells zero S T e k lt s = absurd (omega arith)
all_in_tells (suc n) S T e k lt s =
    let p = and_parts _ _ e in
    ⊎_elim (λ l. all_in_tells n S T p.1 k l s) (λ g. let here : n ≡ k = omega arith in subst (λ j. S j ≡ true → T j ≡ true) here (implied (S n) (T n) p.0) s) (cases_lt k n)
  where
    implied : (a b : Bool) → (not a || b) ≡ true → a ≡ true → b ≡ true
    implied true b e h = e
    implied false b e h = absurd (false≢true h)

pub all_in_from : (n : ℕ) (S T : ℕ → Bool) → ((k : ℕ) → S k ≡ true → T k ≡ true) → all_in n S T ≡ true
all_in_from zero S T h = refl
all_in_from (suc n) S T h = and_from _ _ (implies (S n) (T n) (h n)) (all_in_from n S T h)
  where
    implies : (a b : Bool) → (a ≡ true → b ≡ true) → (not a || b) ≡ true
    implies true b f = f refl
    implies false b f = refl

-- a test that some element passes
pub some_of_at : {X : Type 0} (test : X → Bool) (xs : List X) (d : X) → list_any test xs ≡ true → (i : ℕ) × (i < length xs) × (test (get_or xs i d) ≡ true)
some_of_at test [] d e = absurd (false≢true e)
some_of_at test (x ∷ xs) d e = ⊎_elim (λ h. (0, omega arith, h)) (λ r. let i = some_of_at test xs d r in (suc i.0, omega (arith, i.1), i.2)) (or_cases _ _ e)

-- a set without a run whose formulas are among others
pub no_run_more : (Γ Δ : List Formula) → ((g : Formula) → g ∈ Γ → g ∈ Δ) → NoRun Γ → NoRun Δ
no_run_more Γ Δ among none r h = none r (λ g m. h g (among g m))

only_roots_among : (c : CaseModel) (S : ℕ → Bool) → only_roots c S ≡ true → (g : Formula) → g ∈ chosen S c.formulas → g ∈ root_formulas c
only_roots_among c S e g m =
    let n = from_chosen S c.formulas g m in
    subst (λ f. f ∈ root_formulas c) (sym n.3) (in_map (numbered c.formulas) c.roots n.0 (all_in_tells _ S (contains c.roots) e n.0 n.1 n.2))

verdict_one : (refuted closed : Bool) → ◌≡◌ {A = ℕ} (cond refuted 1 (cond closed 2 0)) 1 → refuted ≡ true
verdict_one true closed e = refl
verdict_one false true e = absurd (omega arith)
verdict_one false false e = absurd (omega arith)

verdict_two : (refuted closed : Bool) → ◌≡◌ {A = ℕ} (cond refuted 1 (cond closed 2 0)) 2 → closed ≡ true
verdict_two true closed e = absurd (omega arith)
verdict_two false true e = refl
verdict_two false false e = absurd (omega arith)

closed_at : (o : Option ℕ) → is_closed o ≡ true → (b : ℕ) × (o ≡ Some b)
closed_at None e = absurd (false≢true e)
closed_at (Some b) e = (b, refl)

holds_means : (c : SteppedModel) → Good c → verdict c ≡ 1 → NoRun (root_formulas c.case)
holds_means c h e =
    let i = some_of_at (only_roots c.case) c.steps nothing (verdict_one (list_any (only_roots c.case) c.steps) (is_closed c.case.run.back) e) in
    no_run_more _ _ (only_roots_among c.case (get_or c.steps i.0 nothing) i.2) (h.refuted i.0 i.1)

counterexample_means : (c : SteppedModel) → Good c → verdict c ≡ 2 → (r : Run) × Recorded c.case r × SatisfiesAll r (root_formulas c.case)
counterexample_means c h e =
    let back = closed_at c.case.run.back (verdict_two (list_any (only_roots c.case) c.steps) (is_closed c.case.run.back) e) in
    let r : Run = record { states = c.case.run.states; back = back.0; within = h.closed back.0 back.1 } in (
      r,
      (refl, back.1),
      λ g m.
          let n = from_map (numbered c.case.formulas) c.case.roots g m in
          subst (Satisfies r) (sym n.2) ((satisfied_tells r (numbered c.case.formulas n.0)).0 (sym (looped_is r c.case.run.states back.0 (numbered c.case.formulas n.0) refl refl) ∙ h.shown back.0 n.0 back.1 n.1)),
    )

pub good_means : (c : SteppedModel) → Good c → Means c.case (verdict c)
good_means c h = record { holds = holds_means c h; counterexample = counterexample_means c h }

-- never does one case hold while another with the same root formulas has a counterexample
pub never_both : {c d : CaseModel} {v w : ℕ} → Means c v → Means d w → SameFormulas (root_formulas c) (root_formulas d) → (v ≡ 1 → w ≡ 2 → ⊥) × (v ≡ 2 → w ≡ 1 → ⊥)
never_both {c} {d} m o same = (
  λ e f. let r = o.counterexample f in no_run_more _ _ (λ g. (same g).0) (m.holds e) r.0 r.2,
  λ e f. let r = m.counterexample e in no_run_more _ _ (λ g. (same g).1) (o.holds f) r.0 r.2,
)
