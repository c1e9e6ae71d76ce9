-- What an allowed step is, and how premises by number fit. Assumes nothing.
use Rattle.std.specs.Prelude.{◌≡◌, ℕ, Bool, true, false, List, [], ◌∷◌, map, length, Decides, ◌==◌, ◌≢◌, slice_index_or, refl}
use Rattle.std.proofs.Common.{sym, ap, subst, arith}
use Rattle.std.proofs.lemmas.Bool.{and_parts, and_from, eqb-true}
use Rattle.pltl.specs.Formulas.{Formula}
use Rattle.pltl.specs.Formulas as f
use Rattle.calculus.specs.Sequents.{◌∈◌}
use Rattle.calculus.specs.Rules.{Rule, Fits}
use Rattle.calculus.specs.Rules as rule
use Rattle.calculus.proofs.DecidedRules.{rule_decided}
use Rattle.tables.specs.declared.sequent.Sequent.{Sequent}
use Rattle.tables.specs.Listing.{numbered}
use Rattle.tables.proofs.Places.{from_decided, to_decided}
use Rattle.sequents.specs.declared.rooms.Room.{Room}
use Rattle.sequents.specs.declared.rooms.Plan.TheVariants.{Closed, One, Two}
use Rattle.sequents.specs.Rooms.{FitsRoom, FitsPlan}
use Rattle.sequents.specs.SequentRules.{principal_fits, sequent_allows}
use Rattle.kits.specs.Steps.{StepModel, formulas_in}
use Rattle.sequents.specs.RulePlans.{next_step}

module _ (fs : List Formula) (st : StepModel) where
  -- a step is allowed exactly where its principal number fits and it is one by its rule
  abbrev Step : Type 0
  Step = Rule st.conclusion (numbered fs st.principal) st.rule st.premises

  pub allowed_is : sequent_allows fs st ≡ true → (principal_fits fs st.rule st.principal ≡ true) × Step
  unfolding sequent_allows
  allowed_is e =
      let h = and_parts _ _ e in
      (h.0, from_decided (rule_decided st.conclusion (numbered fs st.principal) st.rule st.premises) h.1)

  pub is_allowed : principal_fits fs st.rule st.principal ≡ true → Step → sequent_allows fs st ≡ true
  unfolding sequent_allows
  is_allowed e s = and_from _ _ e (to_decided (rule_decided st.conclusion (numbered fs st.principal) st.rule st.premises) s)

-- tests that are true together are equal
pub same_tests : (a b : Bool) → (a ≡ true → b ≡ true) → (b ≡ true → a ≡ true) → a ≡ b
same_tests true b to from = sym (to refl)
same_tests false true to from = from refl
same_tests false false to from = refl

-- every rule but next has its principal formula in the conclusion
pub principal_in : {Γ : List Formula} {m : Formula} {n : ℕ} {Δs : List (List Formula)} → Rule Γ m n Δs → (n ≢ 11) → m ∈ Γ
principal_in (rule.contra i o) other = i
principal_in (rule.false i s) other = i
principal_in (rule.and i s fits) other = i
principal_in (rule.or i s fits fits-too) other = i
principal_in (rule.always i s fits) other = i
principal_in (rule.some i s fits fits-too) other = i
principal_in (rule.until i s fits fits-too) other = i
principal_in (rule.release i s fits fits-too) other = i
principal_in (rule.some+ i s fits fits-too) other = i
principal_in (rule.until+ i s fits fits-too) other = i
principal_in (rule.next fits) other = absurd (other refl)

-- a list of one, and of two
pub only_one : (ps : List Sequent) (d : Sequent) → length ps ≡ 1 → ps ≡ slice_index_or ps 0 d ∷ []
only_one [] d e = absurd (omega arith)
only_one (p ∷ []) d e = refl
only_one (p ∷ q ∷ ps) d e = absurd (omega arith)

pub only_two : (ps : List Sequent) (d e : Sequent) → length ps ≡ 2 → ps ≡ slice_index_or ps 0 d ∷ slice_index_or ps 1 e ∷ []
only_two [] d e l = absurd (omega arith)
only_two (p ∷ []) d e l = absurd (omega arith)
only_two (p ∷ q ∷ []) d e l = refl
only_two (p ∷ q ∷ o ∷ ps) d e l = absurd (omega arith)

-- a step by next has one premise, and what it has
pub next_fits : {Γ : List Formula} {m : Formula} {Δ : List Formula} → Rule Γ m 11 (Δ ∷ []) → Fits Δ (λ g. f.Next g ∈ Γ)
next_fits (rule.next fits) = fits

map_one : (fs : List Formula) (ps : List Sequent) (Δ : List Formula) → map (formulas_in fs) ps ≡ Δ ∷ [] → length ps ≡ 1
map_one fs [] Δ e = absurd (omega (arith, ap length e))
map_one fs (p ∷ []) Δ e = refl
map_one fs (p ∷ q ∷ ps) Δ e = absurd (omega (arith, ap length e))

pub next_long : (fs : List Formula) (ps : List Sequent) {Γ : List Formula} {m : Formula} → Rule Γ m 11 (map (formulas_in fs) ps) → length ps ≡ 1
next_long fs ps s = let h = next_step (map (formulas_in fs) ps) s in map_one fs ps h.0 h.1

module _ (fs : List Formula) (rest : Sequent) where
  abbrev Δs : List Sequent → List (List Formula)
  Δs ps = map (formulas_in fs) ps

  pub closed_fits : (ps : List Sequent) → Decides (length ps == 0) (FitsPlan fs rest Closed (Δs ps))
  closed_fits [] = (λ _. tt, λ _. refl)
  closed_fits (p ∷ ps) = (λ e. absurd (omega (arith, eqb-true (length (p ∷ ps)) 0 e)), λ f. absurd f)

  pub one_long : (r : Room) (ps : List Sequent) → FitsPlan fs rest (One r) (Δs ps) → length ps ≡ 1
  one_long r [] f = absurd f
  one_long r (p ∷ []) f = refl
  one_long r (p ∷ q ∷ ps) f = absurd f

  pub two_long : (r s : Room) (ps : List Sequent) → FitsPlan fs rest (Two r s) (Δs ps) → length ps ≡ 2
  two_long r s [] f = absurd f
  two_long r s (p ∷ []) f = absurd f
  two_long r s (p ∷ q ∷ []) f = refl
  two_long r s (p ∷ q ∷ o ∷ ps) f = absurd f

  module _ (r : Room) (ps : List Sequent) (d : Sequent) (l : length ps ≡ 1) where
    pub one_from : FitsRoom fs rest r (formulas_in fs (slice_index_or ps 0 d)) → FitsPlan fs rest (One r) (Δs ps)
    one_from f = subst (λ qs. FitsPlan fs rest (One r) (Δs qs)) (sym (only_one ps d l)) f

    pub one_to : FitsPlan fs rest (One r) (Δs ps) → FitsRoom fs rest r (formulas_in fs (slice_index_or ps 0 d))
    one_to f = subst (λ qs. FitsPlan fs rest (One r) (Δs qs)) (only_one ps d l) f

  module _ (r s : Room) (ps : List Sequent) (d e : Sequent) (l : length ps ≡ 2) where
    pub two_from : FitsRoom fs rest r (formulas_in fs (slice_index_or ps 0 d)) → FitsRoom fs rest s (formulas_in fs (slice_index_or ps 1 e)) → FitsPlan fs rest (Two r s) (Δs ps)
    two_from f g = subst (λ qs. FitsPlan fs rest (Two r s) (Δs qs)) (sym (only_two ps d e l)) (f, g)

    pub two_to : FitsPlan fs rest (Two r s) (Δs ps) → FitsRoom fs rest r (formulas_in fs (slice_index_or ps 0 d)) × FitsRoom fs rest s (formulas_in fs (slice_index_or ps 1 e))
    two_to f = subst (λ qs. FitsPlan fs rest (Two r s) (Δs qs)) (only_two ps d e l) f
