-- What it means that nothing is objected to a call, both ways. Assumes nothing.
use Rattle.std.proofs.Common.{◌≡◌, ℕ, ◌+◌, ◌/◌, ◌^◌, ◌<◌, ◌≤◌, Bool, true, false, cond, ◌&&◌, eqb, ltb, leb, List, [], ◌∷◌, length, Some, None, Option, sym, refl, ap, ◌∙◌, subst, ⊎_elim, arith}
use lib.Count.{count_trailing_zeros}
use Rattle.std.proofs.lemmas.Bool.{and_parts, or_cases, ltb-true, ltb-false, leb-false, eqb-true, false≢true, cond-true, cond-false, lt-ltb, le-ltb, lt-leb, eq-eqb, true≢false}
use Rattle.tables.specs.Listing.{numbered}
use Rattle.kits.specs.declared.faults.KitFault.{KitFault}
use Rattle.cases.specs.Loops.{looped, false_root, root_objection, loop_objection}
use Rattle.cases.specs.Models.{RunModel, CaseModel, SteppedModel, KitModel}
use Rattle.cases.specs.Recordings.{is_closed, event_objection, stray, letters_objection}
use Rattle.cases.specs.Roots.{contains, least_failing}
use Rattle.cases.specs.Steps.{StepCallModel, first_unfit, first_missing, at_index, or_else, premises_objection, numbers_objection, step_read, kit_objection, case_then_kit, step_objection}
use Rattle.cases.specs.declared.faults.CaseFault.{CaseFault}
use Rattle.cases.specs.declared.faults.CaseFault.TheVariants.{TooManySteps, NotInTable, NoSuchStep, ClosedRun, NoPosition, TooManyPositions}
use Rattle.cases.specs.declared.recorder.Event.TheVariants.{State, Loop}
use Rattle.cases.proofs.Smallest.{Least, least_found}

pub none_some : {X A : Type 0} {x : X} → None ≡ Some x → A
none_some e = let z : ◌≡◌ {A = ℕ} 0 1 = cc in absurd (omega arith)

-- a test objects, or what stands beside it
pub none_unless : {X : Type 0} (t : Bool) (f : X) (o : Option X) → cond t (Some f) o ≡ None → (t ≡ false) × (o ≡ None)
none_unless true f o e = none_some (sym e)
none_unless false f o e = (refl, e)

pub none_where : {X : Type 0} (t : Bool) (f : X) (o : Option X) → cond t o (Some f) ≡ None → (t ≡ true) × (o ≡ None)
none_where true f o e = (refl, e)
none_where false f o e = none_some (sym e)

none_at_index : (fault : ℕ → CaseFault) (o : Option ℕ) → at_index fault o ≡ None → o ≡ None
none_at_index fault None e = refl
none_at_index fault (Some i) e = none_some (sym e)

none_or_else : (o p : Option CaseFault) → or_else o p ≡ None → (o ≡ None) × (p ≡ None)
none_or_else None p e = (refl, e)
none_or_else (Some f) p e = none_some (sym e)

none_then_kit : (o : Option CaseFault) (p : Option KitFault) → case_then_kit o p ≡ None → (o ≡ None) × (p ≡ None)
none_then_kit None None e = (refl, refl)
none_then_kit None (Some f) e = none_some (sym e)
none_then_kit (Some f) p e = none_some (sym e)

none_of_kit : (known allowed : Bool) → kit_objection known allowed ≡ None → (known ≡ true) × (allowed ≡ true)
none_of_kit true true e = (refl, refl)
none_of_kit true false e = none_some (sym e)
none_of_kit false allowed e = none_some (sym e)

none_of_roots : (e : Option CaseFault) (o : Option ℕ) → root_objection e o ≡ None → (e ≡ None) × (o ≡ None)
none_of_roots None None e = (refl, refl)
none_of_roots None (Some n) e = none_some (sym e)
none_of_roots (Some f) o e = none_some (sym e)

-- nothing is objected to a step
pub record StepAdmitted (k : KitModel) (c : SteppedModel) (s : StepCallModel) : Type 0 where
  pub room : length c.steps < 400
  pub fits : first_unfit (length c.case.formulas) 0 0 s.conclusion ≡ None
  pub few : length s.premises ≤ 2
  pub earlier : first_missing (length c.steps) 0 s.premises ≡ None
  pub known : k.knows s.rule ≡ true
  pub allowed : k.allows c.case.formulas (step_read c s) ≡ true

module _ (k : KitModel) (c : SteppedModel) (s : StepCallModel) where
  -- the tests and what they object
  abbrev unfit : Option CaseFault
  unfit = at_index NotInTable (first_unfit (length c.case.formulas) 0 0 s.conclusion)

  abbrev missing : Option CaseFault
  missing = at_index NoSuchStep (first_missing (length c.steps) 0 s.premises)

  abbrev by_kit : Option KitFault
  by_kit = kit_objection (k.knows s.rule) (k.allows c.case.formulas (step_read c s))

  pub step_admitted : step_objection k c s ≡ None → StepAdmitted k c s
  step_admitted e =
      let both = none_then_kit (numbers_objection c s) by_kit e in
      let kit = none_of_kit (k.knows s.rule) (k.allows c.case.formulas (step_read c s)) both.1 in
      let room = none_unless (leb 400 (length c.steps)) TooManySteps (or_else unfit (premises_objection (length c.steps) s.premises)) both.0 in
      let parts = none_or_else unfit (premises_objection (length c.steps) s.premises) room.1 in
      let few = none_unless (ltb 2 (length s.premises)) (NoSuchStep 2) missing parts.1 in
      record {
        room = leb-false 400 (length c.steps) room.0;
        fits = none_at_index NotInTable _ parts.0;
        few = ltb-false 2 (length s.premises) few.0;
        earlier = none_at_index NoSuchStep _ few.1;
        known = kit.0;
        allowed = kit.1;
      }

  pub admitted_step : StepAdmitted k c s → step_objection k c s ≡ None
  admitted_step a =
      let premises : premises_objection (length c.steps) s.premises ≡ None =
      cond-false (ltb 2 (length s.premises)) (Some (NoSuchStep 2)) missing (le-ltb 2 (length s.premises) a.few) ∙ ap (at_index NoSuchStep) a.earlier in
      let numbers : numbers_objection c s ≡ None =
      cond-false (leb 400 (length c.steps)) (Some TooManySteps) (or_else unfit (premises_objection (length c.steps) s.premises)) (lt-leb 400 (length c.steps) a.room)
      ∙ ap (λ o. or_else (at_index NotInTable o) (premises_objection (length c.steps) s.premises)) a.fits
      ∙ premises in
      let kit : by_kit ≡ None = ap (λ b. kit_objection b (k.allows c.case.formulas (step_read c s))) a.known ∙ ap (kit_objection true) a.allowed in
      ap (λ o. case_then_kit o by_kit) numbers ∙ ap (case_then_kit None) kit

-- numbers that fit are below n
pub fit_below : (n low i : ℕ) (ks : List ℕ) → first_unfit n low i ks ≡ None → (m : ℕ) → contains ks m ≡ true → m < n
fit_below n low i [] e m c = absurd (false≢true c)
fit_below n low i (k ∷ ks) e m c =
    let u = none_where (leb low k && ltb k n) i (first_unfit n (k + 1) (i + 1) ks) e in
    ⊎_elim
    (λ (q : eqb k m ≡ true). subst (λ j. j < n) (eqb-true k m q) (ltb-true k n (and_parts _ _ u.0).1))
    (λ r. fit_below n (k + 1) (i + 1) ks u.1 m r)
    (or_cases _ _ c)

not_closed : (o : Option ℕ) → is_closed o ≡ false → o ≡ None
not_closed None e = refl
not_closed (Some b) e = absurd (true≢false e)

-- a state is admitted to an open run, one with room and a word of letters
pub state_open : (m : RunModel) (w : ℕ) → event_objection m (State w) ≡ None → m.back ≡ None
state_open m w e = not_closed m.back (none_unless (is_closed m.back) ClosedRun (letters_objection (stray w) (length m.states)) e).0

stray_none : (w : ℕ) → w < 2 ^ 26 → stray w ≡ None
stray_none w lt = cond-true (eqb (w / 2 ^ 26) 0) None (Some (26 + count_trailing_zeros 32 (w / 2 ^ 26))) (eq-eqb (w / 2 ^ 26) 0 (omega arith))

pub admitted_state : (m : RunModel) (w : ℕ) → m.back ≡ None → length m.states < 64 → w < 2 ^ 26 → event_objection m (State w) ≡ None
admitted_state m w unclosed room letters =
    cond-false (is_closed m.back) (Some ClosedRun) (letters_objection (stray w) (length m.states)) (ap is_closed unclosed)
    ∙ ap (λ o. letters_objection o (length m.states)) (stray_none w letters)
    ∙ cond-false (leb 64 (length m.states)) (Some TooManyPositions) None (lt-leb 64 (length m.states) room)

-- where every number passes, none is the smallest that fails
all_pass : (p : ℕ → Bool) (ns : List ℕ) → ((n : ℕ) → contains ns n ≡ true → p n ≡ true) → least_failing p None ns ≡ None
all_pass p ns pass = none-by (least_failing p None ns) (least_found p ns)
  where
    none-by : (o : Option ℕ) → Least p (contains ns) o → o ≡ None
    none-by None l = refl
    none-by (Some n) l = absurd (true≢false (sym (pass n l.0) ∙ l.1))

-- nothing is objected to a loop
pub record LoopAdmitted (c : CaseModel) (b : ℕ) : Type 0 where
  pub unclosed : c.run.back ≡ None
  pub held : b < length c.run.states
  pub true_roots : (n : ℕ) → contains c.roots n ≡ true → looped c.run.states b (numbered c.formulas n) ≡ true

module _ (c : CaseModel) (b : ℕ) where
  abbrev not_held : Option CaseFault
  not_held = cond (ltb b (length c.run.states)) None (Some NoPosition)

  pub loop_admitted : loop_objection c b ≡ None → LoopAdmitted c b
  loop_admitted e =
      let both = none_of_roots (event_objection c.run (Loop b)) (false_root c b) e in
      let back = none_unless (is_closed c.run.back) ClosedRun not_held both.0 in
      record {
        unclosed = not_closed c.run.back back.0;
        held = ltb-true b _ (none_where (ltb b (length c.run.states)) NoPosition None back.1).0;
        true_roots = subst (Least (λ n. looped c.run.states b (numbered c.formulas n)) (contains c.roots)) both.1 (least_found _ c.roots);
      }

  pub admitted_loop : LoopAdmitted c b → loop_objection c b ≡ None
  admitted_loop a =
      let event : event_objection c.run (Loop b) ≡ None =
      cond-false (is_closed c.run.back) (Some ClosedRun) not_held (ap is_closed a.unclosed) ∙ cond-true (ltb b (length c.run.states)) None (Some NoPosition) (lt-ltb b _ a.held) in
      ap (λ x. root_objection x (false_root c b)) event ∙ ap (root_objection None) (all_pass (λ n. looped c.run.states b (numbered c.formulas n)) c.roots a.true_roots)
