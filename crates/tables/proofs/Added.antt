-- A shape and its opposite behind the shapes of a table. Assumes nothing.
use Rattle.std.proofs.Common.{◌≡◌, ℕ, ◌+◌, ◌%◌, ◌≤◌, true, List, [], ◌∷◌, ◌++◌, length, sym, ap, ◌∙◌, subst, append_assoc, arith}
use Rattle.std.proofs.lemmas.List.{length-append, length_push, get_or_at}
use Rattle.std.proofs.lemmas.Bool.{cond-true, cond-false, lt-ltb, le-ltb}
use Rattle.pltl.specs.Formulas.{Formula, opposite}
use Rattle.pltl.specs.Formulas as formula
use Rattle.pltl.specs.declared.Shape.{Shape}
use Rattle.tables.specs.declared.number.Number.{Number}
use Rattle.tables.specs.Entering.{place, added}
use Rattle.tables.specs.Listing.{numbered, formula_over, formulas, parts_below, PartsFirst, Lawful}
use Rattle.tables.specs.Steps.{Grown, Names}
use Rattle.tables.proofs.Laws.{lawful_more}
use Rattle.tables.proofs.Listed.{length_formulas, formulas_push, formula_over_grown, parts_first_push, parts_below_more}
use Rattle.tables.proofs.Places.{place_first}

-- a formula that is there adds nothing
pub added_old : (fs : List Formula) (n : Number) (f : Formula) → Names fs n f → added fs f ≡ fs
unfolding added
added_old fs n f h = cond-true _ _ _ (lt-ltb (place fs f) (length fs) (omega (arith, place_first fs f n.0 h.0 h.1, h.0)))

pub added_new : (fs : List Formula) (f : Formula) → length fs ≤ place fs f → added fs f ≡ fs ++ f ∷ opposite f ∷ []
unfolding added
added_new fs f new = cond-false _ _ _ (le-ltb (place fs f) (length fs) new)

pub added_new_length : (fs : List Formula) (f : Formula) → length fs ≤ place fs f → length (added fs f) ≡ length fs + 2
added_new_length fs f new = ap length (added_new fs f new) ∙ length-append fs (f ∷ opposite f ∷ [])

module _ (ss : List (Shape Number)) (s o : Shape Number) where
  module _ (below-s : parts_below (length (formulas ss)) s ≡ true) (below-o : parts_below (length (formulas ss)) o ≡ true) (dual : formula_over (formulas ss) o ≡ opposite (formula_over (formulas ss) s)) where
    pub formulas_pushed : formulas ((ss ++ s ∷ []) ++ o ∷ []) ≡ formulas ss ++ formula_over (formulas ss) s ∷ opposite (formula_over (formulas ss) s) ∷ []
    formulas_pushed =
        let f = formula_over (formulas ss) s in
        let one : formulas (ss ++ s ∷ []) ≡ formulas ss ++ f ∷ [] = formulas_push ss s in
        let grown : Grown (formulas ss) (formulas (ss ++ s ∷ [])) = record { more = f ∷ []; is = one } in
        formulas_push (ss ++ s ∷ []) o
        ∙ ap (λ x. formulas (ss ++ s ∷ []) ++ x ∷ []) (formula_over_grown o grown below-o ∙ dual)
        ∙ ap (λ l. l ++ opposite f ∷ []) one
        ∙ append_assoc (formulas ss) (f ∷ []) (opposite f ∷ [])

    pub order_pushed : PartsFirst ss → PartsFirst ((ss ++ s ∷ []) ++ o ∷ [])
    order_pushed order =
        let long = length_formulas ss in
        let more = length_push ss s in
        parts_first_push (ss ++ s ∷ []) o
        (parts_first_push ss s order (subst (λ k. parts_below k s ≡ true) long below-s))
        (parts_below_more (length (formulas ss)) (length (ss ++ s ∷ [])) o (omega arith) below-o)

    module _ (new : length (formulas ss) ≤ place (formulas ss) (formula_over (formulas ss) s)) where
      pub pushed_added : formulas ((ss ++ s ∷ []) ++ o ∷ []) ≡ added (formulas ss) (formula_over (formulas ss) s)
      pushed_added = formulas_pushed ∙ sym (added_new _ _ new)

      pub lawful_pushed : Lawful (formulas ss) → length ss % 2 ≡ 0 → 2 ≤ length ss → Lawful (formulas ((ss ++ s ∷ []) ++ o ∷ []))
      lawful_pushed law even begun =
          let long = length_formulas ss in
          subst Lawful (sym formulas_pushed) (lawful_more (formulas ss) law (subst (λ n. n % 2 ≡ 0) (sym long) even) (formula_over (formulas ss) s) (omega arith) new)

    -- the number that the formula takes
    pub number_pushed : (n : ℕ) → n ≡ length ss → Names (formulas ((ss ++ s ∷ []) ++ o ∷ [])) (record { 0 = n }) (formula_over (formulas ss) s)
    number_pushed n e =
        let f = formula_over (formulas ss) s in
        let at : length (formulas ss) ≡ n = length_formulas ss ∙ sym e in (
          omega (arith, ap length formulas_pushed ∙ length-append (formulas ss) (f ∷ opposite f ∷ [])),
          ap (λ l. numbered l n) formulas_pushed ∙ get_or_at (formulas ss) f (opposite f ∷ []) formula.True n at,
        )
