-- What entering formulas does to a list of formulas. Assumes nothing.
use Rattle.std.proofs.Common.{◌≡◌, ◌≤◌, ltb, List, [], ◌∷◌, ◌++◌, length, Option, sym, refl, ap, ◌∙◌, subst, ⊎_elim, append_assoc, append-nil, arith}
use Rattle.std.proofs.lemmas.List.{length-append, get_or_append_left}
use Rattle.std.proofs.lemmas.Bool.{cases_Bool, cond-true, cond-false}
use Rattle.pltl.specs.Formulas.{Tree, Formula, opposite, normal}
use Rattle.pltl.specs.Formulas as formula
use Rattle.tables.specs.declared.number.Number.{Number}
use Rattle.tables.specs.declared.table.entering.Form.{Form}
use Rattle.tables.specs.declared.table.entering.Form.TheVariants.{Itself, Always}
use Rattle.tables.specs.Answers.{entry}
use Rattle.tables.specs.Entering.{place, added, enter, enter_parts}
use Rattle.tables.specs.Listing.{numbered}
use Rattle.tables.specs.Steps.{Grown, Names, Reaches}

pub grown_none : {X : Type 0} (xs : List X) → Grown xs xs
grown_none xs = record { more = []; is = sym (append-nil xs) }

pub grown_on : {X : Type 0} {xs ys zs : List X} → Grown xs ys → Grown ys zs → Grown xs zs
grown_on {xs = xs} g h = record { more = g.more ++ h.more; is = h.is ∙ ap (λ l. l ++ h.more) g.is ∙ append_assoc xs g.more h.more }

pub length_grown : {X : Type 0} {xs ys : List X} → Grown xs ys → length xs ≤ length ys
length_grown {xs = xs} g = omega (arith, ap length g.is ∙ length-append xs g.more)

-- growth moves no number
pub names_grown : {fs gs : List Formula} (n : Number) (f : Formula) → Grown fs gs → Names fs n f → Names gs n f
names_grown {fs} n f g h =
    (omega (arith, length_grown g, h.0), ap (λ l. numbered l n.0) g.is ∙ get_or_append_left fs g.more formula.True n.0 h.0 ∙ h.1)

pub added_grown : (fs : List Formula) (f : Formula) → Grown fs (added fs f)
unfolding added
added_grown fs f =
    ⊎_elim
    (λ e. record { more = []; is = cond-true (ltb (place fs f) (length fs)) fs (fs ++ f ∷ opposite f ∷ []) e ∙ sym (append-nil fs) })
    (λ e. record { more = f ∷ opposite f ∷ []; is = cond-false (ltb (place fs f) (length fs)) fs (fs ++ f ∷ opposite f ∷ []) e })
    (cases_Bool (ltb (place fs f) (length fs)))

pub enter_is : (fs : List Formula) (f : Formula) → enter fs f ≡ added (enter_parts fs f) f
unfolding enter
enter_is fs formula.True = refl
enter_is fs formula.False = refl
enter_is fs (formula.Is p) = refl
enter_is fs (formula.Isn't p) = refl
enter_is fs (formula.Next a) = refl
enter_is fs (formula.Always a) = refl
enter_is fs (formula.Eventually a) = refl
enter_is fs (formula.Until a b) = refl
enter_is fs (formula.Release a b) = refl
enter_is fs (formula.And a b) = refl
enter_is fs (formula.Or a b) = refl

pub enter_more : (fs : List Formula) (f : Formula) → length (enter_parts fs f) ≤ length (enter fs f)
enter_more fs f = omega (arith, length_grown (added_grown (enter_parts fs f) f), ap length (enter_is fs f))

pub enter_grown : (fs : List Formula) (f : Formula) → Grown fs (enter fs f)
unfolding enter
enter_grown fs formula.True = added_grown fs _
enter_grown fs formula.False = added_grown fs _
enter_grown fs (formula.Is p) = added_grown fs _
enter_grown fs (formula.Isn't p) = added_grown fs _
enter_grown fs (formula.Next a) = grown_on (enter_grown fs a) (added_grown _ _)
enter_grown fs (formula.Always a) = grown_on (enter_grown fs a) (added_grown _ _)
enter_grown fs (formula.Eventually a) = grown_on (enter_grown fs a) (added_grown _ _)
enter_grown fs (formula.Until a b) = grown_on (enter_grown fs a) (grown_on (enter_grown (enter fs a) b) (added_grown _ _))
enter_grown fs (formula.Release a b) = grown_on (enter_grown fs a) (grown_on (enter_grown (enter fs a) b) (added_grown _ _))
enter_grown fs (formula.And a b) = grown_on (enter_grown fs a) (grown_on (enter_grown (enter fs a) b) (added_grown _ _))
enter_grown fs (formula.Or a b) = grown_on (enter_grown fs a) (grown_on (enter_grown (enter fs a) b) (added_grown _ _))

-- adding a formula after its parts is entering it
pub reaches_entered : (fs gs hs : List Formula) (f g : Formula) (r : Option Number) → gs ≡ enter_parts fs f → g ≡ f → Reaches (added gs g) hs (λ n. Names hs n g) r → Reaches (enter fs f) hs (λ n. Names hs n f) r
reaches_entered fs gs hs f g r e d h =
    subst (λ l. Reaches l hs (λ n. Names hs n f) r) (sym (enter_is fs f))
    (subst (λ l. Reaches (added l f) hs (λ n. Names hs n f) r) e (subst (λ x. Reaches (added gs x) hs (λ n. Names hs n x) r) d h))

pub entry_more : (fs : List Formula) (m : Form) (t : Tree) → length (enter fs (normal t)) ≤ length (enter fs (entry m t))
unfolding enter
entry_more fs Itself t = omega arith
entry_more fs Always t = length_grown (added_grown (enter fs (normal t)) (formula.Always (normal t)))
