-- The call clause, by its ways. Assumes nothing.
use Rattle.std.proofs.Common.{◌≡◌, ℕ, ◌+◌, ◌<◌, ◌≤◌, ◌&&◌, leb, List, [], ◌∷◌, ◌++◌, length, Some, None, Result, sym, ap, ◌∙◌, subst, ⊎_elim, arith}
use Rattle.std.proofs.lemmas.List.{length_push}
use Rattle.std.proofs.lemmas.Bool.{cases_Bool, cond-true, cond-false, leb-false}
use Rattle.pltl.specs.Formulas.{Tree, Formula}
use Rattle.pltl.specs.Formulas as formula
use Rattle.tables.specs.Answers.{entry, answer, after}
use Rattle.tables.specs.Listing.{Lawful}
use Rattle.tables.specs.Steps.{Names}
use Rattle.tables.specs.declared.number.Number.{Number}
use Rattle.tables.proofs.Laws.{named_beside}
use Rattle.texts.specs.declared.faults.TextFault.{TextFault}
use Rattle.cases.specs.declared.faults.CaseFault.{CaseFault}
use Rattle.cases.specs.declared.faults.CaseFault.TheVariants.{SecondProperty, TooManyClauses}
use Rattle.cases.specs.declared.kind.ClauseKind.{ClauseKind}
use Rattle.cases.specs.declared.kind.ClauseKind.TheVariants.{Init, Invariant, Transition, Property}
use Rattle.cases.specs.Drafts.{root_formula, form_of, root_number, is_property, objection, clause_of_kind, draft_of_kind, clause_unless, draft_unless, clause_of, after_clause_of}
use Rattle.cases.specs.Models.{DraftModel}
use Rattle.cases.specs.Roots.{contains, noted}

-- what the text is answered is answered by the call
pub clause_admitted : (d : DraftModel) (w : List ℕ) (k : ClauseKind) → objection d (Some k) ≡ None → (r : Result ℕ TextFault) → r ≡ answer d.formulas (form_of k) w
    → (clause_of_kind d k r ≡ clause_of d (Some k) w) × (draft_of_kind d (after d.formulas (form_of k) w) k r ≡ after_clause_of d (Some k) w)
clause_admitted d w k admitted r e =
    (ap (clause_of_kind d k) e ∙ ap (λ o. clause_unless o d (Some k) w) (sym admitted), ap (draft_of_kind d (after d.formulas (form_of k) w) k) e ∙ ap (λ o. draft_unless o d (Some k) w) (sym admitted))

-- the root formula has the number that is answered
pub root_named : (fs : List Formula) (k : ClauseKind) (t : Tree) (m n : Number) → Lawful fs → Prim.Native.Nat.◌%◌ (length fs) 2 ≡ 0 → n.0 ≡ root_number k m.0 → Names fs m (entry (form_of k) t) → Names fs n (root_formula k t)
root_named fs Init t m n law even e h = subst (λ x. Names fs (record { 0 = x }) (root_formula Init t)) (sym e) h
root_named fs Invariant t m n law even e h = subst (λ x. Names fs (record { 0 = x }) (root_formula Invariant t)) (sym e) h
root_named fs Transition t m n law even e h = subst (λ x. Names fs (record { 0 = x }) (root_formula Transition t)) (sym e) h
root_named fs Property t m n law even e h =
    let b = named_beside fs law even m.0 h.0 in
    subst (λ x. Names fs (record { 0 = x }) (root_formula Property t)) (sym e) (b.0, b.1 ∙ ap formula.opposite h.1)

pub length_noted : (ms : List ℕ) (n : ℕ) → length (noted ms n) ≤ length ms + 1
length_noted ms n =
    ⊎_elim
    (λ e. omega (arith, ap length (cond-true (contains ms n) ms (ms ++ n ∷ []) e)))
    (λ e. omega (arith, ap length (cond-false (contains ms n) ms (ms ++ n ∷ []) e), length_push ms n))
    (cases_Bool (contains ms n))

-- a clause is admitted only where fewer than forty are taken
pub admitted_room : (d : DraftModel) (k : ClauseKind) → objection d (Some k) ≡ None → d.clauses < 40
admitted_room d k e =
    ⊎_elim
    (λ full.
    let second = is_property k && d.property in
    let some : (f : CaseFault) × (objection d (Some k) ≡ Some f) =
    ⊎_elim
    (λ b. (SecondProperty, cond-true second _ _ b))
    (λ b. (TooManyClauses, cond-false second _ _ b ∙ cond-true (leb 40 d.clauses) _ _ full))
    (cases_Bool second) in
    let z : ◌≡◌ {A = ℕ} 0 1 = cc some.1 in absurd (omega arith))
    (λ free. leb-false 40 d.clauses free)
    (cases_Bool (leb 40 d.clauses))
