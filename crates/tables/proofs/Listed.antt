-- The formulas of a list of shapes. Assumes nothing.
use Rattle.std.proofs.Common.{◌≡◌, ℕ, ◌%◌, ◌<◌, ◌≤◌, true, ltb, List, [], ◌∷◌, ◌++◌, length, get_or, sym, refl, ap, ◌∙◌, subst, ap₂, ⊎_elim, arith}
use Rattle.std.proofs.lemmas.List.{get_or_append_left, get_or_push, length_push}
use Rattle.std.proofs.lemmas.Bool.{cases_lt, ltb-true, lt-ltb}
use Rattle.pltl.specs.Formulas.{Formula, opposite}
use Rattle.pltl.specs.Formulas as formula
use Rattle.pltl.specs.Shapes.{formula_of, all_parts, Each}
use Rattle.pltl.specs.declared.Shape.{Shape}
use Rattle.pltl.specs.declared.Shape.TheVariants.{True, False, Letter, NotLetter, Next, Always, Eventually, Until, Release, And, Or}
use Rattle.pltl.proofs.Built.{built_push, built_append, length_built, value_at, value_front}
use Rattle.pltl.proofs.Tests.{all_parts_weaker, each_from_test, formula_agrees}
use Rattle.tables.specs.declared.number.Number.{Number}
use Rattle.tables.specs.Entering.{place}
use Rattle.tables.specs.Listing.{numbered, formula_over, formulas, parts_below, PartsFirst, PartsSmaller, Lawful}
use Rattle.tables.specs.Numbers.{beside_number}
use Rattle.tables.specs.Steps.{Grown}
use Rattle.tables.proofs.Laws.{place_is, named_beside}
use Rattle.tables.proofs.Places.{numbered_place}

pub length_formulas : (ss : List (Shape Number)) → length (formulas ss) ≡ length ss
unfolding formulas
length_formulas ss = omega (arith, length_built formula_over [] ss)

pub formulas_push : (ss : List (Shape Number)) (s : Shape Number) → formulas (ss ++ s ∷ []) ≡ formulas ss ++ formula_over (formulas ss) s ∷ []
unfolding formulas
formulas_push = built_push formula_over

-- growth of the shapes is growth of the formulas
pub formulas_grown : {ss ts : List (Shape Number)} → Grown ss ts → Grown (formulas ss) (formulas ts)
unfolding formulas
formulas_grown {ss} g =
    let r = Rattle.pltl.proofs.Built.built_front formula_over (formulas ss) g.more in
    record { more = r.0; is = ap formulas g.is ∙ built_append formula_over [] ss g.more ∙ r.1 }

parts_agree : (fs gs : List Formula) (i : ℕ) (s : Shape Number) → ((a : ℕ) → a < i → numbered fs a ≡ numbered gs a) → parts_below i s ≡ true → formula_over fs s ≡ formula_over gs s
parts_agree fs gs i s h b =
    formula_agrees _ _ s (each_from_test (λ n. ltb n.0 i) (λ n. numbered fs n.0 ≡ numbered gs n.0) (λ n t. h n.0 (ltb-true n.0 i t)) s b)

-- the formula of a shape stays as formulas are added
pub formula_over_grown : {fs gs : List Formula} (s : Shape Number) → Grown fs gs → parts_below (length fs) s ≡ true → formula_over gs s ≡ formula_over fs s
formula_over_grown {fs} {gs} s g b = parts_agree gs fs (length fs) s (λ a lt. ap (λ l. numbered l a) g.is ∙ get_or_append_left fs g.more formula.True a lt) b

-- the formula of each number, by its shape
pub formula_of_number : (ss : List (Shape Number)) (i : ℕ) → PartsFirst ss → i < length ss → numbered (formulas ss) i ≡ formula_over (formulas ss) (get_or ss i True)
unfolding formulas
formula_of_number ss i o lt =
    value_at formula_over ss i True formula.True lt
    ∙ parts_agree _ _ i (get_or ss i True) (λ a l. value_front formula_over ss i a formula.True lt l) (o i lt)

pub parts_below_more : (i j : ℕ) (s : Shape Number) → i ≤ j → parts_below i s ≡ true → parts_below j s ≡ true
parts_below_more i j s le = all_parts_weaker (λ n. ltb n.0 i) (λ n. ltb n.0 j) (λ n t. lt-ltb n.0 j (omega (arith, ltb-true n.0 i t))) s

pub parts_first_push : (ss : List (Shape Number)) (s : Shape Number) → PartsFirst ss → parts_below (length ss) s ≡ true → PartsFirst (ss ++ s ∷ [])
parts_first_push ss s o b i lt =
    let long = length_push ss s in
    ⊎_elim
    (λ l. subst (λ m. parts_below i m ≡ true) (sym (get_or_append_left ss (s ∷ []) True i l)) (o i l))
    (λ g. let e : length ss ≡ i = omega arith in
    subst (λ m. parts_below i m ≡ true) (sym (get_or_push ss s True i e)) (subst (λ k. parts_below k s ≡ true) e b))
    (cases_lt i (length ss))

-- the shape of a formula whose parts have the numbers that p gives
abbrev shaped : (Formula → Number) → Formula → Shape Number
shaped p formula.True = True
shaped p formula.False = False
shaped p (formula.Is k) = Letter k
shaped p (formula.Isn't k) = NotLetter k
shaped p (formula.Next a) = Next (p a)
shaped p (formula.Always a) = Always (p a)
shaped p (formula.Eventually a) = Eventually (p a)
shaped p (formula.Until a b) = Until (p a) (p b)
shaped p (formula.Release a b) = Release (p a) (p b)
shaped p (formula.And a b) = And (p a) (p b)
shaped p (formula.Or a b) = Or (p a) (p b)

shaped_back : (p : Formula → Number) (f : Number → Formula) (s : Shape Number) → Each (λ n. p (f n) ≡ n) s → shaped p (formula_of f s) ≡ s
shaped_back p f True h = refl
shaped_back p f False h = refl
shaped_back p f (Letter k) h = refl
shaped_back p f (NotLetter k) h = refl
shaped_back p f (Next a) h = ap Next h
shaped_back p f (Always a) h = ap Always h
shaped_back p f (Eventually a) h = ap Eventually h
shaped_back p f (Until a b) h = ap₂ Until h.0 h.1
shaped_back p f (Release a b) h = ap₂ Release h.0 h.1
shaped_back p f (And a b) h = ap₂ And h.0 h.1
shaped_back p f (Or a b) h = ap₂ Or h.0 h.1

module _ (fs : List Formula) (law : Lawful fs) (even : length fs % 2 ≡ 0) where
  at_place : Formula → Number
  at_place f = record { 0 = place fs f }

  back : (s : Shape Number) → parts_below (length fs) s ≡ true → shaped at_place (formula_over fs s) ≡ s
  unfolding at_place
  back s b =
      shaped_back at_place (λ n. numbered fs n.0) s
      (each_from_test (λ n. ltb n.0 (length fs)) (λ n. at_place (numbered fs n.0) ≡ n)
      (λ n t. ap (λ k. record { 0 = k }) (place_is fs law even (numbered fs n.0) n.0 (ltb-true n.0 (length fs) t) refl)) s b)

  -- shapes of one formula are equal
  pub one_shape : (s t : Shape Number) → parts_below (length fs) s ≡ true → parts_below (length fs) t ≡ true → formula_over fs s ≡ formula_over fs t → s ≡ t
  one_shape s t p q e = sym (back s p) ∙ ap (shaped at_place) e ∙ back t q

  -- the number beside each part names its opposite
  pub duals_named : (s : Shape Number) → parts_below (length fs) s ≡ true → Each (λ n. numbered fs (beside_number n).0 ≡ opposite (numbered fs n.0)) s
  duals_named s b = each_from_test (λ n. ltb n.0 (length fs)) (λ n. numbered fs (beside_number n).0 ≡ opposite (numbered fs n.0)) (λ n t. (named_beside fs law even n.0 (ltb-true n.0 (length fs) t)).1) s b

  pub duals_below : (s : Shape Number) → parts_below (length fs) s ≡ true → all_parts (λ n. ltb (beside_number n).0 (length fs)) s ≡ true
  duals_below s b = all_parts_weaker (λ n. ltb n.0 (length fs)) (λ n. ltb (beside_number n).0 (length fs)) (λ n t. lt-ltb _ _ (named_beside fs law even n.0 (ltb-true n.0 (length fs) t)).0) s b

-- a formula none of whose shapes is listed is not in the table
pub not_listed : (ss : List (Shape Number)) (s : Shape Number) → Lawful (formulas ss) → length ss % 2 ≡ 0 → PartsFirst ss → parts_below (length (formulas ss)) s ≡ true → ((k : ℕ) → k < length ss → get_or ss k True ≡ s → ⊥) → length (formulas ss) ≤ place (formulas ss) (formula_over (formulas ss) s)
not_listed ss s law even o b none =
    let fs = formulas ss in
    let long = length_formulas ss in
    let f = formula_over fs s in
    ⊎_elim
    (λ l.
    let k = place fs f in
    let inside : k < length ss = omega arith in
    let here = o k inside in
    absurd (none k inside
    (one_shape fs law (subst (λ n. n % 2 ≡ 0) (sym long) even) (get_or ss k True) s (parts_below_more k (length fs) (get_or ss k True) (omega arith) here) b
    (sym (formula_of_number ss k o inside) ∙ numbered_place fs f l))))
    (λ g. g)
    (cases_lt (place fs f) (length fs))

pub parts_smaller : (ss : List (Shape Number)) → PartsFirst ss → PartsSmaller (formulas ss)
parts_smaller ss o n lt =
    let inside : n < length ss = omega (arith, length_formulas ss) in
    (get_or ss n True, sym (formula_of_number ss n o inside), o n inside)
