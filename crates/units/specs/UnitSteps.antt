-- Which steps kit `u` allows, part by part. Assumes nothing.
use Rattle.std.specs.Prelude.{◌≡◌, true, ◌&&◌, List, [], ◌∷◌, map, length, ◌==◌, refl}
use Rattle.std.proofs.Common.{arith}
use Rattle.std.proofs.lemmas.Bool.{false≢true, and_from, and_parts, eqb-true, eq-eqb}
use Rattle.pltl.specs.Formulas.{Formula}
use Rattle.calculus.specs.Units.{Contradicts}
use Rattle.calculus.proofs.DecidedUnits.{contradiction_decided}
use Rattle.tables.specs.declared.sequent.Sequent.{Sequent}
use Rattle.tables.specs.Entering.{decided}
use Rattle.tables.proofs.Places.{from_decided, to_decided}
use Rattle.kits.specs.Steps.{StepModel, formulas_in}
use Rattle.units.specs.UnitRule.{unit_knows, none, unit_allows}

-- no sequents are no sets
pub none_from_length : (fs : List Formula) (ps : List Sequent) → length ps ≡ 0 → none (map (formulas_in fs) ps) ≡ true
none_from_length fs [] e = refl
none_from_length fs (p ∷ ps) e = absurd (omega arith)

pub length_from_none : (fs : List Formula) (ps : List Sequent) → none (map (formulas_in fs) ps) ≡ true → length ps ≡ 0
length_from_none fs [] e = refl
length_from_none fs (p ∷ ps) e = absurd (false≢true e)

-- a step with all that the rule asks for is allowed
pub unit_allowed : (st : StepModel) → st.rule ≡ 1 → st.principal ≡ 0 → none st.premises ≡ true → Contradicts st.conclusion → unit_allows st ≡ true
unfolding unit_allows
unit_allowed st r p n c =
    and_from (unit_knows st.rule) _ (eq-eqb st.rule 1 r)
    (and_from (st.principal == 0) _ (eq-eqb st.principal 0 p)
    (and_from (none st.premises) _ n (to_decided (contradiction_decided st.conclusion) c)))

-- an allowed step has all that the rule asks for
pub unit_asks : (st : StepModel) → unit_allows st ≡ true → (st.rule ≡ 1) × (st.principal ≡ 0) × (none st.premises ≡ true) × Contradicts st.conclusion
unfolding unit_allows
unit_asks st e =
    let known = and_parts (unit_knows st.rule) (st.principal == 0 && (none st.premises && decided (contradiction_decided st.conclusion))) e in
    let first = and_parts (st.principal == 0) (none st.premises && decided (contradiction_decided st.conclusion)) known.1 in
    let last = and_parts (none st.premises) (decided (contradiction_decided st.conclusion)) first.1 in
    (eqb-true st.rule 1 known.0, eqb-true st.principal 0 first.0, last.0, from_decided (contradiction_decided st.conclusion) last.1)
