-- A good case stays good under every call. Assumes nothing.
use Rattle.std.proofs.Common.{◌≡◌, ℕ, ◌+◌, ◌-◌, ◌<◌, Bool, true, ◌&&◌, ltb, leb, List, [], ◌∷◌, ◌++◌, map, length, get_or, Some, None, Ok, Err, Option, Result, sym, refl, ap, ◌∙◌, subst, ⊎_elim, arith}
use mathlib.Core.Bool.{Bool-set}
use mathlib.Core.HLevel.{⊥_prop}
use mathlib.Core.Logic.{∥∥₁_elim}
use native.Mathlib.Bridge.{le_prop}
use Rattle.std.proofs.lemmas.List.{length_push, get_or_append_left, get_or_push}
use Rattle.std.proofs.lemmas.Bool.{cases_Bool, cases_lt, cond_both, and_parts, leb-true}
use Rattle.pltl.specs.Formulas.{Tree, Formula}
use Rattle.pltl.specs.Formulas as formula
use Rattle.calculus.specs.Laws.{NoRuns}
use Rattle.calculus.specs.Sequents.{NoRun}
use Rattle.texts.specs.Scan.{reading}
use Rattle.texts.specs.declared.faults.TextFault.{TextFault}
use Rattle.tables.proofs.Chosen.{chosen_more}
use Rattle.tables.proofs.Growth.{grown_none, length_grown, enter_grown}
use Rattle.tables.specs.Answers.{entry, after_read, after}
use Rattle.tables.specs.Entering.{enter}
use Rattle.tables.specs.Listing.{numbered}
use Rattle.tables.specs.Sets.{chosen}
use Rattle.tables.specs.Steps.{Grown}
use Rattle.tables.specs.declared.table.entering.Form.{Form}
use Rattle.tables.specs.declared.table.entering.Form.TheVariants.{Itself}
use Rattle.cases.specs.Calls.{CallModel, form, step, state, loop, drop, verdict, after_call, after_calls}
use Rattle.cases.specs.Drafts.{sealed, after_form}
use Rattle.cases.specs.Good.{Good}
use Rattle.cases.specs.Loops.{looped, loop_objection, with_run}
use Rattle.cases.specs.Models.{DraftModel, RunModel, SteppedModel, KitModel}
use Rattle.cases.specs.Promise.{KitLaw}
use Rattle.cases.specs.Recordings.{event_objection, after_event, kept_unless}
use Rattle.cases.specs.Roots.{contains, noted, all_below}
use Rattle.cases.specs.Steps.{StepCallModel, first_missing, nothing, conclusion_of, step_read, step_objection, without_steps, with_case, with_step, changed_unless, after_step}
use Rattle.cases.specs.declared.faults.CallFault.{CallFault}
use Rattle.cases.specs.declared.faults.CaseFault.{CaseFault}
use Rattle.cases.specs.declared.recorder.Event.TheVariants.{State, Loop, Drop}
use Rattle.cases.proofs.Admitted.{none_some, none_where, step_admitted, fit_below, loop_admitted}
use Rattle.cases.proofs.Inside.{all_below_more, all_below_noted, below_contained}

good_prop : (c : SteppedModel) → IsProp (Good c)
good_prop c x y = λ i. record {
  rooted = Bool-set _ _ x.rooted y.rooted i;
  inside = λ j n lt e. le_prop (x.inside j n lt e) (y.inside j n lt e) i;
  refuted = λ j lt r h. ⊥_prop (x.refuted j lt r h) (y.refuted j lt r h) i;
  closed = λ b e. le_prop (x.closed b e) (y.closed b e) i;
  shown = λ b n e h. Bool-set _ _ (x.shown b n e h) (y.shown b n e h) i;
}

pub good_from : {c : SteppedModel} → ∥ Good c ∥₁ → Good c
good_from {c} t = ∥∥₁_elim t (good_prop c) (λ g. g)

-- what a draft is sealed to
pub good_sealed : (d : DraftModel) → 0 < length d.formulas → all_below (length d.formulas) d.roots ≡ true → Good (without_steps (sealed d))
good_sealed d some below = record {
  rooted = cond_both d.property d.roots (noted d.roots 0) (λ ns. all_below (length d.formulas) ns ≡ true) (λ _. below) (λ _. all_below_noted d.roots _ 0 below some);
  inside = λ i n lt e. absurd (omega arith);
  refuted = λ i lt. absurd (omega arith);
  closed = λ b e. none_some e;
  shown = λ b n e h. none_some e;
}

-- growth moves no number
pub numbered_grown : {fs gs : List Formula} (n : ℕ) → Grown fs gs → n < length fs → numbered gs n ≡ numbered fs n
numbered_grown {fs} n g lt = ap (λ l. numbered l n) g.is ∙ get_or_append_left fs g.more formula.True n lt

-- formulas that are added have numbers outside a set of old ones
pub chosen_grown : {fs gs : List Formula} (S : ℕ → Bool) → Grown fs gs → ((n : ℕ) → S n ≡ true → n < length fs) → chosen S gs ≡ chosen S fs
chosen_grown {fs} S g old =
    ap (chosen S) g.is ∙ chosen_more S fs g.more (λ n le. ⊎_elim (λ e. absurd (omega (arith, old n e))) (λ e. e) (cases_Bool (S n)))

pub good_grown : (c : SteppedModel) (fs : List Formula) → Grown c.case.formulas fs → Good c → Good (with_case c (record { formulas = fs; roots = c.case.roots; run = c.case.run }))
good_grown c fs g h = record {
  rooted = all_below_more c.case.roots _ _ (length_grown g) h.rooted;
  inside = λ i n lt e. omega (arith, h.inside i n lt e, length_grown g);
  refuted = λ i lt. subst NoRun (sym (chosen_grown (get_or c.steps i nothing) g (λ n. h.inside i n lt))) (h.refuted i lt);
  closed = h.closed;
  shown = λ b n e r. ap (looped c.case.run.states b) (numbered_grown n g (below_contained c.case.roots _ n h.rooted r)) ∙ h.shown b n e r;
}

-- a text only adds formulas
after_read_grown : (fs : List Formula) (m : Form) (x : Result Tree TextFault) → Grown fs (after_read fs m x)
after_read_grown fs m (Ok t) = cond_both (ltb 512 (length (enter fs (entry m t)))) fs (enter fs (entry m t)) (Grown fs) (λ _. grown_none fs) (λ _. enter_grown fs (entry m t))
after_read_grown fs m (Err f) = grown_none fs

pub after_grown : (fs : List Formula) (m : Form) (w : List ℕ) → Grown fs (after fs m w)
after_grown fs m w = after_read_grown fs m (reading w)

pub good_form : (c : SteppedModel) (w : List ℕ) → Good c → Good (with_case c (after_form c.case w))
good_form c w = good_grown c (after c.case.formulas Itself w) (after_grown c.case.formulas Itself w)

-- a run that is not closed shows nothing
pub good_open : (c : SteppedModel) (m : RunModel) → m.back ≡ None → Good c → Good (with_case c (with_run c.case m))
good_open c m unclosed h = record {
  rooted = h.rooted;
  inside = h.inside;
  refuted = h.refuted;
  closed = λ b e. none_some (sym unclosed ∙ e);
  shown = λ b n e r. none_some (sym unclosed ∙ e);
}

good_state_by : (c : SteppedModel) (w : ℕ) (o : Option CaseFault) → Good c → Good (with_case c (with_run c.case (kept_unless o (after_event c.case.run (State w)) c.case.run)))
good_state_by c w None h = good_open c (after_event c.case.run (State w)) refl h
good_state_by c w (Some f) h = h

pub good_state : (c : SteppedModel) (w : ℕ) → Good c → Good (with_case c (with_run c.case (kept_unless (event_objection c.case.run (State w)) (after_event c.case.run (State w)) c.case.run)))
good_state c w = good_state_by c w (event_objection c.case.run (State w))

pub good_drop : (c : SteppedModel) → Good c → Good (with_case c (with_run c.case (after_event c.case.run Drop)))
good_drop c = good_open c (after_event c.case.run Drop) refl

good_closed : (c : SteppedModel) (b : ℕ) → loop_objection c.case b ≡ None → Good c → Good (with_case c (with_run c.case (after_event c.case.run (Loop b))))
good_closed c b o h =
    let a = loop_admitted c.case b o in
    record {
      rooted = h.rooted;
      inside = h.inside;
      refuted = h.refuted;
      closed = λ k e. let same : b ≡ k = cc in subst (λ j. j < length c.case.run.states) same a.held;
      shown = λ k n e r. let same : b ≡ k = cc in subst (λ j. looped c.case.run.states j (numbered c.case.formulas n) ≡ true) same (a.true_roots n r);
    }

good_loop_by : (c : SteppedModel) (b : ℕ) (o : Option CaseFault) → loop_objection c.case b ≡ o → Good c → Good (with_case c (kept_unless o (with_run c.case (after_event c.case.run (Loop b))) c.case))
good_loop_by c b None e h = good_closed c b e h
good_loop_by c b (Some f) e h = h

pub good_loop : (c : SteppedModel) (b : ℕ) → Good c → Good (with_case c (kept_unless (loop_objection c.case b) (with_run c.case (after_event c.case.run (Loop b))) c.case))
good_loop c b = good_loop_by c b (loop_objection c.case b) refl

-- premises that are conclusions of taken steps have no run
premises_refuted : (c : SteppedModel) → Good c → (i : ℕ) (ps : List ℕ) → first_missing (length c.steps) i ps ≡ None → NoRuns (map (λ p. chosen (conclusion_of c.steps p) c.case.formulas) ps)
premises_refuted c h i [] e = tt
premises_refuted c h i (p ∷ ps) e =
    let u = none_where (leb 1 p && leb p (length c.steps)) i (first_missing (length c.steps) (i + 1) ps) e in
    let b = and_parts (leb 1 p) (leb p (length c.steps)) u.0 in
    (h.refuted (p - 1) (omega (arith, leb-true 1 p b.0, leb-true p _ b.1)), premises_refuted c h (i + 1) ps u.1)

-- one more set behind some: each is an old one or the new one
pub pushed_at : {X : Type 0} (P : X → Type 0) (xs : List X) (x d : X) → ((i : ℕ) → i < length xs → P (get_or xs i d)) → P x → (i : ℕ) → i < length (xs ++ x ∷ []) → P (get_or (xs ++ x ∷ []) i d)
pushed_at P xs x d old new i lt =
    ⊎_elim
    (λ l. subst P (sym (get_or_append_left xs (x ∷ []) d i l)) (old i l))
    (λ g. let here : length xs ≡ i = omega (arith, length_push xs x) in subst P (sym (get_or_push xs x d i here)) new)
    (cases_lt i (length xs))

good_with_step : (c : SteppedModel) (S : ℕ → Bool) → ((n : ℕ) → S n ≡ true → n < length c.case.formulas) → NoRun (chosen S c.case.formulas) → Good c → Good (with_step c S)
good_with_step c S below none h = record {
  rooted = h.rooted;
  inside = λ i n lt. pushed_at (λ T. T n ≡ true → n < length c.case.formulas) c.steps S nothing (λ j. h.inside j n) (below n) i lt;
  refuted = pushed_at (λ T. NoRun (chosen T c.case.formulas)) c.steps S nothing h.refuted none;
  closed = h.closed;
  shown = h.shown;
}

good_step_by : (k : KitModel) → KitLaw k → (c : SteppedModel) (s : StepCallModel) (o : Option CallFault) → step_objection k c s ≡ o → Good c → Good (changed_unless o (with_step c (contains s.conclusion)) c)
good_step_by k law c s None e h =
    let u = step_admitted k c s e in
    good_with_step c (contains s.conclusion) (fit_below _ 0 0 s.conclusion u.fits) (law.sound c.case.formulas (step_read c s) u.allowed (premises_refuted c h 0 s.premises u.earlier)) h
good_step_by k law c s (Some f) e h = h

pub good_step : (k : KitModel) → KitLaw k → (c : SteppedModel) (s : StepCallModel) → Good c → Good (after_step k c s)
good_step k law c s = good_step_by k law c s (step_objection k c s) refl

pub good_call : (k : KitModel) → KitLaw k → (c : SteppedModel) (x : CallModel) → Good c → Good (after_call k c x)
good_call k law c (form w) h = good_form c w h
good_call k law c (step s) h = good_step k law c s h
good_call k law c (state w) h = good_state c w h
good_call k law c (loop b) h = good_loop c b h
good_call k law c drop h = good_drop c h
good_call k law c verdict h = h

pub good_calls : (k : KitModel) → KitLaw k → (c : SteppedModel) (xs : List CallModel) → Good c → Good (after_calls k c xs)
good_calls k law c [] h = h
good_calls k law c (x ∷ xs) h = good_calls k law (after_call k c x) xs (good_call k law c x h)
