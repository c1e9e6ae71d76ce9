-- Rows and root formulas at the first position of a looping run. Assumes nothing.
use Rattle.std.proofs.Common.{◌≡◌, ℕ, suc, ◌<◌, ◌≤◌, Bool, true, false, ◌⊎◌, List, length, get_or, Some, None, Ok, Err, Option, sym, refl, ap, ◌∙◌, subst, inl, inr, arith}
use mathlib.Core.HLevel.{is_prop→PathP}
use native.Mathlib.Decide.{dec_lt}
use native.Mathlib.Bridge.{le_prop}
use Rattle.pltl.specs.Formulas.{Formula}
use Rattle.pltl.specs.Runs.{Run, Satisfies}
use Rattle.pltl.specs.Truth.{State}
use Rattle.pltl.proofs.Decisions.{decided}
use Rattle.std.proofs.lemmas.Bool.{false≢true, true≢false}
use Rattle.tables.specs.Listing.{numbered}
use Rattle.tables.specs.Rows.{bit, RowOf, RowsOf}
use Rattle.cases.specs.declared.faults.CaseFault.{CaseFault}
use Rattle.cases.specs.declared.faults.CaseFault.TheVariants.{FalseRoot}
use Rattle.cases.specs.declared.recorder.Event.TheVariants.{Loop}
use Rattle.cases.specs.Loops.{satisfied_if, looped, false_root, root_objection, loop_objection, with_run, LoopMeans}
use Rattle.cases.specs.Recordings.{event_objection, after_event, answer_unless, kept_unless}
use Rattle.cases.specs.Models.{RunModel, CaseModel}
use Rattle.cases.specs.Roots.{contains, all_below, least_failing}
use Rattle.cases.specs.Satisfied.{which, satisfied}
use Rattle.cases.proofs.Smallest.{Least, least_found, least_agrees}

-- a run is its states and its back position
run_path : (r s : Run) → r.states ≡ s.states → r.back ≡ s.back → r ≡ s
run_path r s p q = λ i. record { states = p i; back = q i; within = is_prop→PathP (λ j. suc (q j) ≤ length (p j)) (λ j. le_prop) r.within s.within i }

-- the test tells
which_tells : (r : Run) (f : Formula) (d : Satisfies r f ⊎ (Satisfies r f → ⊥)) → (which d ≡ true → Satisfies r f) × (Satisfies r f → which d ≡ true)
which_tells r f (inl h) = (λ _. h, λ _. refl)
which_tells r f (inr n) = (λ e. absurd (false≢true e), λ h. absurd (n h))

pub satisfied_tells : (r : Run) (f : Formula) → (satisfied r f ≡ true → Satisfies r f) × (Satisfies r f → satisfied r f ≡ true)
unfolding satisfied
satisfied_tells r f = which_tells r f (decided r f 0)

looped_if : (r : Run) (states : List State) (back : ℕ) (f : Formula) (d : Dec (back < length states)) → r.states ≡ states → r.back ≡ back → satisfied_if states back d f ≡ satisfied r f
looped_if r states back f (yes h) p q = ap (λ x. satisfied x f) (run_path (record { states = states; back = back; within = h }) r (sym p) (sym q))
looped_if r states back f (no h) p q = absurd (h (subst (λ x. x < length states) q (subst (λ l. r.back < length l) p r.within)))

-- the test by states and back position is the test of each such run
pub looped_is : (r : Run) (states : List State) (back : ℕ) (f : Formula) → r.states ≡ states → r.back ≡ back → looped states back f ≡ satisfied r f
unfolding looped
looped_is r states back f = looped_if r states back f (dec_lt back (length states))

same_test : (a b : Bool) → (a ≡ true → b ≡ true) → (b ≡ true → a ≡ true) → a ≡ b
same_test true true f g = refl
same_test true false f g = sym (f refl)
same_test false true f g = g refl
same_test false false f g = refl

-- bit 0 of a row is the test
pub row_looped : (states : List State) (back : ℕ) (f : Formula) (w : ℕ) → back < length states → ((r : Run) → r.states ≡ states → r.back ≡ back → RowOf r f w) → bit w 0 ≡ looped states back f
row_looped states back f w held row =
    let r : Run = record { states = states; back = back; within = held } in
    let told = satisfied_tells r f in
    let here = row r refl refl 0 in
    same_test _ _ (λ e. told.1 (here.0 e).1) (λ e. here.1 (omega arith) (told.0 e)) ∙ sym (looped_is r states back f refl refl)

-- the smallest root whose row lacks position 0 is the smallest false root
pub false_root_is : (c : CaseModel) (back : ℕ) (ws : List ℕ) → back < length c.run.states → RowsOf c.run.states back c.formulas ws → all_below (length c.formulas) c.roots ≡ true → least_failing (λ n. bit (get_or ws n 0) 0) None c.roots ≡ false_root c back
false_root_is c back ws held rows inside =
    least_agrees _ _ (length c.formulas) (λ n lt. row_looped c.run.states back (numbered c.formulas n) (get_or ws n 0) held (λ r p q. rows r p q n lt)) None c.roots inside

module _ (c : CaseModel) (back : ℕ) (r : Run) (p : r.states ≡ c.run.states) (q : r.back ≡ back) where
  root_true : (n : ℕ) → looped c.run.states back (numbered c.formulas n) ≡ true → Satisfies r (numbered c.formulas n)
  root_true n e = (satisfied_tells r (numbered c.formulas n)).0 (sym (looped_is r _ back (numbered c.formulas n) p q) ∙ e)

  -- where no root is false, the run satisfies them all
  pub taken_means : (n : ℕ) → false_root c back ≡ None → LoopMeans c r (Ok n)
  taken_means n none m e =
      root_true m (subst (Least (λ k. looped c.run.states back (numbered c.formulas k)) (contains c.roots)) none (least_found _ c.roots) m e)

  pub refused_means : (n : ℕ) → false_root c back ≡ Some n → LoopMeans c r (Err (FalseRoot n))
  refused_means n some k e =
      let l = subst (Least (λ j. looped c.run.states back (numbered c.formulas j)) (contains c.roots)) some (least_found _ c.roots) in
      let same : n ≡ k = cc in
      subst (λ j. (contains c.roots j ≡ true) × (Satisfies r (numbered c.formulas j) → ⊥) × ((m : ℕ) → contains c.roots m ≡ true → m < j → Satisfies r (numbered c.formulas m))) same
      (l.0, (λ h. true≢false (sym ((satisfied_tells r (numbered c.formulas n)).1 h) ∙ sym (looped_is r _ back (numbered c.formulas n) p q) ∙ l.1)), λ m seen lt. root_true m (l.2 m seen lt))

-- an answer tells that nothing was objected
pub unobjected : (o : Option CaseFault) (n k : ℕ) → Ok k ≡ answer_unless o n → (o ≡ None) × (k ≡ n)
unobjected None n k e = (refl, cc)
unobjected (Some f) n k e = let z : ◌≡◌ {A = ℕ} 0 1 = cc in absurd (omega arith)

-- a loop that is taken, and one that a false root refuses
pub loop_taken : (c : CaseModel) (back k : ℕ) (m : RunModel) → Ok k ≡ answer_unless (event_objection c.run (Loop back)) (length c.run.states) → m ≡ kept_unless (event_objection c.run (Loop back)) (after_event c.run (Loop back)) c.run → None ≡ false_root c back → (Ok k ≡ answer_unless (loop_objection c back) (length c.run.states)) × (with_run c m ≡ kept_unless (loop_objection c back) (with_run c (after_event c.run (Loop back))) c)
loop_taken c back k m ok run none =
    let u = unobjected (event_objection c.run (Loop back)) (length c.run.states) k ok in
    let o : loop_objection c back ≡ None = ap (λ x. root_objection x (false_root c back)) u.0 ∙ ap (root_objection None) (sym none) in (
      ap Ok u.1 ∙ ap (λ x. answer_unless x (length c.run.states)) (sym o),
      ap (with_run c) (run ∙ ap (λ x. kept_unless x (after_event c.run (Loop back)) c.run) u.0) ∙ ap (λ x. kept_unless x (with_run c (after_event c.run (Loop back))) c) (sym o),
    )

pub loop_refused : (c : CaseModel) (back k n : ℕ) → Ok k ≡ answer_unless (event_objection c.run (Loop back)) (length c.run.states) → Some n ≡ false_root c back → (Err (FalseRoot n) ≡ answer_unless (loop_objection c back) (length c.run.states)) × (c ≡ kept_unless (loop_objection c back) (with_run c (after_event c.run (Loop back))) c)
loop_refused c back k n ok some =
    let u = unobjected (event_objection c.run (Loop back)) (length c.run.states) k ok in
    let o : loop_objection c back ≡ Some (FalseRoot n) = ap (λ x. root_objection x (false_root c back)) u.0 ∙ ap (root_objection None) (sym some) in
    (ap (λ x. answer_unless x (length c.run.states)) (sym o), ap (λ x. kept_unless x (with_run c (after_event c.run (Loop back))) c) (sym o))
