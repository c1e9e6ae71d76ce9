-- The promise of every record. Assumes nothing.
use Rattle.std.proofs.Common.{◌≡◌, ℕ, suc, ◌+◌, ◌^◌, ◌<◌, ◌≤◌, Bool, true, cond, ◌&&◌, ltb, leb, List, [], ◌∷◌, ◌++◌, map, length, get_or, Some, None, Ok, Result, sym, refl, ap, ◌∙◌, subst, append_assoc, append-nil, arith}
use Rattle.std.proofs.lemmas.List.{length_push, length-map, get_or_at}
use Rattle.std.proofs.lemmas.Bool.{and_parts, cond-true, and_from, or_left, or_right}
use Rattle.pltl.specs.Runs.{Run}
use Rattle.pltl.specs.Truth as truth
use Rattle.calculus.specs.Sequents.{NoRun, SatisfiesAll}
use Rattle.tables.specs.Listing.{numbered}
use Rattle.tables.specs.Rows.{state_of}
use Rattle.cases.specs.Calls.{CallModel, form, step, state, loop, verdict, after_call, after_calls, case_answer, answer_to, answers_to, recorded_by}
use Rattle.cases.specs.Drafts.{no_run}
use Rattle.cases.specs.Good.{Good}
use Rattle.cases.specs.Loops.{loop_objection, with_run}
use Rattle.cases.specs.Models.{RunModel, CaseModel, SteppedModel, KitModel}
use Rattle.cases.specs.Promise.{KitLaw, rising, among, DerivationStep, Derivation, counted, Promise}
use Rattle.cases.specs.Recordings.{is_closed, event_objection, after_event, kept_unless, answer_unless}
use Rattle.cases.specs.Roots.{contains}
use Rattle.cases.specs.Steps.{StepCallModel, first_unfit, first_missing, step_read, step_objection, without_steps, with_case, with_step, changed_unless, number_unless}
use Rattle.std.specs.List.{list_any}
use Rattle.cases.specs.Verdicts.{root_formulas, only_roots, Means}
use Rattle.cases.specs.Verdicts as v
use Rattle.cases.specs.declared.faults.CallFault.{CallFault}
use Rattle.cases.specs.declared.recorder.Event.TheVariants.{State, Loop}
use Rattle.cases.proofs.Admitted.{admitted_step, admitted_state, admitted_loop}
use Rattle.cases.proofs.Goods.{good_calls}
use Rattle.cases.proofs.Kept.{all_roots_kept, calls_recorded}
use Rattle.cases.proofs.Looped.{satisfied_tells, looped_is}
use Rattle.cases.proofs.Meant.{in_map, all_in_from, good_means}

-- the answers to calls and to what comes behind them
pub answers_append : (k : KitModel) (c : SteppedModel) (xs ys : List CallModel) → answers_to k c (xs ++ ys) ≡ answers_to k c xs ++ answers_to k (after_calls k c xs) ys
answers_append k c [] ys = refl
answers_append k c (x ∷ xs) ys = ap (λ l. answer_to k c x ∷ l) (answers_append k (after_call k c x) xs ys)

pub length_answers : (k : KitModel) (c : SteppedModel) (xs : List CallModel) → length (answers_to k c xs) ≡ length xs
length_answers k c [] = refl
length_answers k c (x ∷ xs) = ap suc (length_answers k (after_call k c x) xs)

-- a call among others is answered by the case after those before it
pub answer_at : (k : KitModel) (c : SteppedModel) (before : List CallModel) (x : CallModel) (after : List CallModel) (d : Result ℕ CallFault) → get_or (answers_to k c (before ++ x ∷ after)) (length before) d ≡ answer_to k (after_calls k c before) x
answer_at k c before x after d =
    ap (λ l. get_or l (length before) d) (answers_append k c before (x ∷ after))
    ∙ get_or_at (answers_to k c before) (answer_to k (after_calls k c before) x) (answers_to k (after_call k (after_calls k c before) x) after) d (length before) (length_answers k c before)

module _ (k : KitModel) (c : SteppedModel) (law : KitLaw k) (good : Good c) (calls before after : List CallModel) (is : calls ≡ before ++ verdict ∷ after) where
  verdict_at : (n : ℕ) → get_or (answers_to k c calls) (length before) (Ok 0) ≡ Ok n → v.verdict (after_calls k c before) ≡ n
  verdict_at n e =
      let told : Ok (v.verdict (after_calls k c before)) ≡ Ok n = sym (answer_at k c before verdict after (Ok 0)) ∙ ap (λ l. get_or (answers_to k c l) (length before) (Ok 0)) (sym is) ∙ e in
      cc

  means_before : Means (after_calls k c before).case (v.verdict (after_calls k c before))
  means_before = good_means (after_calls k c before) (good_calls k law c before good)

  holds_true : get_or (answers_to k c calls) (length before) (Ok 0) ≡ Ok 1 → NoRun (root_formulas c.case)
  holds_true e = subst NoRun (all_roots_kept k law c before good) (means_before.holds (verdict_at 1 e))

  recorded_before : c.case.run ≡ no_run → recorded_by no_run before (answers_to k c calls) ≡ (after_calls k c before).case.run
  recorded_before empty =
      ap (λ m. recorded_by m before (answers_to k c calls)) (sym empty)
      ∙ ap (recorded_by c.case.run before) (ap (answers_to k c) is ∙ answers_append k c before (verdict ∷ after))
      ∙ calls_recorded k c before (answers_to k (after_calls k c before) (verdict ∷ after))

  counterexample_one : c.case.run ≡ no_run → get_or (answers_to k c calls) (length before) (Ok 0) ≡ Ok 2 → (r : Run) × (recorded_by no_run before (answers_to k c calls) ≡ record { states = r.states; back = Some r.back }) × SatisfiesAll r (root_formulas c.case)
  counterexample_one empty e =
      let r = means_before.counterexample (verdict_at 2 e) in
      (r.0, recorded_before empty ∙ run_is (after_calls k c before).case.run r.0 r.1, subst (SatisfiesAll r.0) (all_roots_kept k law c before good) r.2)
    where
      run_is : (m : RunModel) (r : Run) → (r.states ≡ m.states) × (m.back ≡ Some r.back) → m ≡ record { states = r.states; back = Some r.back }
      run_is m r p = λ i. record { states = sym p.0 i; back = p.1 i }

-- what a list of form calls keeps
pub forms_keep_steps : (k : KitModel) (c : SteppedModel) (texts : List (List ℕ)) → (after_calls k c (map form texts)).steps ≡ c.steps
forms_keep_steps k c [] = refl
forms_keep_steps k c (w ∷ texts) = forms_keep_steps k (after_call k c (form w)) texts

pub forms_keep_run : (k : KitModel) (c : SteppedModel) (texts : List (List ℕ)) → (after_calls k c (map form texts)).case.run ≡ c.case.run
forms_keep_run k c [] = refl
forms_keep_run k c (w ∷ texts) = forms_keep_run k (after_call k c (form w)) texts

-- rising numbers fit, and numbers of taken steps are not missing
pub rising_fits : (n low i : ℕ) (ks : List ℕ) → rising n low ks ≡ true → first_unfit n low i ks ≡ None
rising_fits n low i [] e = refl
rising_fits n low i (j ∷ ks) e =
    let p = and_parts (leb low j) (ltb j n && rising n (j + 1) ks) e in
    let q = and_parts (ltb j n) (rising n (j + 1) ks) p.1 in
    cond-true (leb low j && ltb j n) (first_unfit n (j + 1) (i + 1) ks) (Some i) (and_from _ _ p.0 q.0) ∙ rising_fits n (j + 1) (i + 1) ks q.1

pub among_found : (n i : ℕ) (ps : List ℕ) → among n ps ≡ true → first_missing n i ps ≡ None
among_found n i [] e = refl
among_found n i (j ∷ ps) e =
    let p = and_parts (leb 1 j) (leb j n && among n ps) e in
    let q = and_parts (leb j n) (among n ps) p.1 in
    cond-true (leb 1 j && leb j n) (first_missing n (i + 1) ps) (Some i) (and_from _ _ p.0 q.0) ∙ among_found n (i + 1) ps q.1

-- nothing is objected to a step of a derivation
pub derivation_admitted : (k : KitModel) → KitLaw k → (c : SteppedModel) (s : StepCallModel) → length c.steps < 400 → DerivationStep k c s → step_objection k c s ≡ None
derivation_admitted k law c s room d = admitted_step k c s (record {
  room = room;
  fits = rising_fits (length c.case.formulas) 0 0 s.conclusion d.in_table;
  few = d.few;
  earlier = among_found (length c.steps) 0 s.premises d.earlier;
  known = law.known c.case.formulas (step_read c s) d.allowed;
  allowed = d.allowed;
})

-- a step of a derivation is answered its number, and is then taken
step_taken : (k : KitModel) → KitLaw k → (c : SteppedModel) (s : StepCallModel) (n : ℕ) (rest : List CallModel) → length c.steps ≡ n → n < 400 → DerivationStep k c s → answers_to k c (step s ∷ rest) ≡ Ok (n + 1) ∷ answers_to k (with_step c (contains s.conclusion)) rest
step_taken k law c s n rest len lt d =
    let o : step_objection k c s ≡ None = derivation_admitted k law c s (omega arith) d in
    ap (λ x. number_unless x (length c.steps + 1) ∷ answers_to k (changed_unless x (with_step c (contains s.conclusion)) c) rest) o
    ∙ ap (λ m. Ok (m + 1) ∷ answers_to k (with_step c (contains s.conclusion)) rest) len

some_of_last : {X : Type 0} (test : X → Bool) (xs : List X) (x : X) → test x ≡ true → list_any test (xs ++ x ∷ []) ≡ true
some_of_last test [] x e = or_left _ _ e
some_of_last test (y ∷ xs) x e = or_right _ _ (some_of_last test xs x e)

-- the verdict is 1 when the last conclusion has only root formulas
verdict_holds : (c : SteppedModel) (S : ℕ → Bool) → ((n : ℕ) → S n ≡ true → contains c.case.roots n ≡ true) → v.verdict (with_step c S) ≡ 1
verdict_holds c S roots =
    cond-true (list_any (only_roots c.case) (c.steps ++ S ∷ [])) 1 (cond (is_closed c.case.run.back) 2 0) (some_of_last (only_roots c.case) c.steps S (all_in_from (length c.case.formulas) S (contains c.case.roots) roots))

pub derivation_taken : (k : KitModel) → KitLaw k → (c : SteppedModel) (ss : List StepCallModel) (n : ℕ) → length c.steps ≡ n → n + length ss ≤ 400 → Derivation k c ss → answers_to k c (map step ss ++ verdict ∷ []) ≡ counted (n + 1) ss ++ Ok 1 ∷ []
derivation_taken k law c [] n len few d = absurd d
derivation_taken k law c (s ∷ []) n len few d =
    step_taken k law c s n (verdict ∷ []) len (omega arith) d.0 ∙ ap (λ m. Ok (n + 1) ∷ Ok m ∷ []) (verdict_holds c (contains s.conclusion) d.1)
derivation_taken k law c (s ∷ t ∷ ss) n len few d =
    step_taken k law c s n (map step (t ∷ ss) ++ verdict ∷ []) len (omega arith) d.0
    ∙ ap (λ l. Ok (n + 1) ∷ l) (derivation_taken k law (with_step c (contains s.conclusion)) (t ∷ ss) (n + 1) (length_push c.steps (contains s.conclusion) ∙ ap (λ m. m + 1) len) (omega arith) d.1)

-- the run with states behind those that it has, not closed
abbrev with_states : SteppedModel → List truth.State → SteppedModel
with_states c more = with_case c (with_run c.case (record { states = c.case.run.states ++ more; back = None }))

pub states_taken : (k : KitModel) (c : SteppedModel) (words : List ℕ) (rest : List CallModel) (n : ℕ) → c.case.run.back ≡ None → length c.case.run.states ≡ n → n + length words ≤ 64 → ((i : ℕ) → i < length words → get_or words i 0 < 2 ^ 26) → answers_to k c (map state words ++ rest) ≡ counted n words ++ answers_to k (with_states c (map state_of words)) rest
states_taken k c [] rest n unclosed len few letters =
    ap (λ m. answers_to k (with_case c (with_run c.case m)) rest) (λ i. record { states = sym (append-nil c.case.run.states) i; back = unclosed i })
states_taken k c (w ∷ words) rest n unclosed len few letters =
    let o : event_objection c.case.run (State w) ≡ None = admitted_state c.case.run w unclosed (omega arith) (letters 0 (omega arith)) in
    let next = with_states c (state_of w ∷ []) in
    ap (λ x. case_answer (answer_unless x (length c.case.run.states)) ∷ answers_to k (with_case c (with_run c.case (kept_unless x (after_event c.case.run (State w)) c.case.run))) (map state words ++ rest)) o
    ∙ ap (λ m. Ok m ∷ answers_to k next (map state words ++ rest)) len
    ∙ ap (λ l. Ok n ∷ l) (
    states_taken k next words rest (n + 1) refl (length_push c.case.run.states (state_of w) ∙ ap (λ m. m + 1) len) (omega arith) (λ i lt. letters (suc i) (omega arith))
    ∙ ap (λ l. counted (n + 1) words ++ answers_to k (with_case c (with_run c.case (record { states = l; back = None }))) rest) (append_assoc c.case.run.states (state_of w ∷ []) (map state_of words))
    )

-- a loop that closes the states to a run that satisfies the root formulas
pub run_admitted : (c : CaseModel) (r : Run) → c.run.back ≡ None → r.states ≡ c.run.states → SatisfiesAll r (root_formulas c) → loop_objection c r.back ≡ None
run_admitted c r unclosed states sat = admitted_loop c r.back (record {
  unclosed = unclosed;
  held = subst (λ l. r.back < length l) states r.within;
  true_roots = λ n e. looped_is r c.run.states r.back (numbered c.formulas n) states refl ∙ (satisfied_tells r (numbered c.formulas n)).1 (sat _ (in_map (numbered c.formulas) c.roots n e));
})

-- a run that satisfies the root formulas is taken whole, where there are no steps and no states
pub run_taken : (k : KitModel) (c : SteppedModel) (words : List ℕ) (r : Run) → c.steps ≡ [] → c.case.run ≡ no_run → ((i : ℕ) → i < length words → get_or words i 0 < 2 ^ 26) → length words ≤ 64 → r.states ≡ map state_of words → SatisfiesAll r (root_formulas c.case) → answers_to k c (map state words ++ (loop r.back ∷ verdict ∷ [])) ≡ counted 0 words ++ (Ok (length words) ∷ Ok 2 ∷ [])
run_taken k c words r none empty letters few states sat =
    let last = with_states c (map state_of words) in
    let held : last.case.run.states ≡ map state_of words = ap (λ m. m.states ++ map state_of words) empty in
    let o : loop_objection last.case r.back ≡ None = run_admitted last.case r refl (states ∙ sym held) sat in
    states_taken k c words (loop r.back ∷ verdict ∷ []) 0 (ap (λ m. m.back) empty) (ap (λ m. length m.states) empty) (omega arith) letters
    ∙ ap (λ l. counted 0 words ++ l) (
    ap (λ x. case_answer (answer_unless x (length last.case.run.states)) ∷ Ok (v.verdict (with_case last (kept_unless x (with_run last.case (after_event last.case.run (Loop r.back))) last.case))) ∷ []) o
    ∙ ap (λ m. Ok m ∷ Ok (v.verdict (with_case last (with_run last.case (after_event last.case.run (Loop r.back))))) ∷ []) (ap length held ∙ length-map words state_of)
    ∙ ap (λ t. Ok (length words) ∷ Ok (cond t 1 2) ∷ []) (ap (list_any (only_roots last.case)) none)
    )

pub promised : (k : KitModel) (m : CaseModel) → KitLaw k → Good (without_steps m) → m.run ≡ no_run → (calls : List CallModel) → Promise k m calls (answers_to k (without_steps m) calls)
promised k m law good empty calls = let c = without_steps m in record {
  holds_is_true = λ before after is e. holds_true k c law good calls before after is e;
  counterexample_is_one = λ before after is e. counterexample_one k c law good calls before after is empty e;
  derivations_are_taken = λ texts ss is few d.
      ap (answers_to k c) is
      ∙ answers_append k c (map form texts) (map step ss ++ verdict ∷ [])
      ∙ ap (λ l. answers_to k c (map form texts) ++ l) (derivation_taken k law (after_calls k c (map form texts)) ss 0 (ap length (forms_keep_steps k c texts)) (omega arith) d);
  runs_are_taken = λ texts words r is letters few states sat.
      ap (answers_to k c) is
      ∙ answers_append k c (map form texts) (map state words ++ (loop r.back ∷ verdict ∷ []))
      ∙ ap (λ l. answers_to k c (map form texts) ++ l) (
      run_taken k (after_calls k c (map form texts)) words r (forms_keep_steps k c texts) (forms_keep_run k c texts ∙ empty) letters few states
      (subst (SatisfiesAll r) (sym (all_roots_kept k law c (map form texts) good)) sat)
      );
}
