-- The plan of each rule: what a step by the rule has, and that it has no more. Assumes nothing.
use Rattle.std.specs.Prelude.{◌≡◌, ℕ, ◌<◌, ◌≤◌, true, false, ◌&&◌, List, [], ◌∷◌, length, Some, None, ◌≢◌, nat_lt, refl}
use Rattle.std.proofs.Common.{sym, ap, subst, ◌∙◌, arith}
use Rattle.std.proofs.lemmas.Bool.{ltb-true, lt-ltb, and_parts, and_from, both_ways}
use Rattle.pltl.specs.Formulas.{Formula, opposite}
use Rattle.pltl.specs.Formulas as f
use Rattle.pltl.specs.declared.Shape.{Shape}
use Rattle.pltl.specs.declared.Shape.TheVariants.{False, Always, Eventually, Until, Release, And, Or}
use Rattle.pltl.proofs.Opposites.{opposite_differs}
use Rattle.calculus.specs.Sequents.{◌∈◌}
use Rattle.calculus.specs.Rules.{Set, Without, With, With2, Fits, SomeAgain, UntilAgain, Rule}
use Rattle.calculus.specs.Rules as rule
use Rattle.calculus.proofs.Decided.{parts}
use Rattle.tables.specs.declared.number.Number.{Number}
use Rattle.tables.specs.declared.sequent.Sequent.{Sequent}
use Rattle.tables.specs.Listing.{numbered, formula_over, parts_below}
use Rattle.tables.specs.Numbers.{beside}
use Rattle.tables.specs.Sets.{member}
use Rattle.tables.proofs.Laws.{named_beside}
use Rattle.sequents.specs.declared.rooms.More.{More}
use Rattle.sequents.specs.declared.rooms.More.TheVariants.{Nothing, NextOf}
use Rattle.sequents.specs.declared.rooms.More.TheVariants as more
use Rattle.sequents.specs.declared.rooms.Room.{Room}
use Rattle.sequents.specs.declared.rooms.Plan.TheVariants.{Closed, One, Two}
use Rattle.kits.specs.Steps.{formulas_in}
use Rattle.sequents.specs.Rooms.{Inside, FitsRoom, FitsPlan, more_inside, Principal, Plans}
use Rattle.kits.proofs.InSequents.{in_from_number, member_from_in}
use Rattle.sequents.specs.RoomSets.{Same, WithNumber, Filled, rest_from, rest_to, with_same, with2_same, plain_same, next_same, with_next_same, some_again_same, until_again_same, part_inside}
use Rattle.sequents.specs.ShapesOf.{shape_of}

-- the numbers of the rules
pub rule_known : {Γ : List Formula} {m : Formula} {n : ℕ} {Δs : List (List Formula)} → Rule Γ m n Δs → (1 ≤ n) × (n ≤ 11)
rule_known (rule.contra i o) = (omega arith, omega arith)
rule_known (rule.false i s) = (omega arith, omega arith)
rule_known (rule.and i s fits) = (omega arith, omega arith)
rule_known (rule.or i s fits fits-too) = (omega arith, omega arith)
rule_known (rule.always i s fits) = (omega arith, omega arith)
rule_known (rule.some i s fits fits-too) = (omega arith, omega arith)
rule_known (rule.until i s fits fits-too) = (omega arith, omega arith)
rule_known (rule.release i s fits fits-too) = (omega arith, omega arith)
rule_known (rule.some+ i s fits fits-too) = (omega arith, omega arith)
rule_known (rule.until+ i s fits fits-too) = (omega arith, omega arith)
rule_known (rule.next fits) = (omega arith, omega arith)

-- the premises are one that fits, or two
abbrev OneFits : Set → List (List Formula) → Type 0
OneFits S Δs = (Δ : List Formula) × (Δs ≡ Δ ∷ []) × Fits Δ S

abbrev TwoFit : Set → Set → List (List Formula) → Type 0
TwoFit S T Δs = (Δ : List Formula) × (Ε : List Formula) × (Δs ≡ Δ ∷ Ε ∷ []) × Fits Δ S × Fits Ε T

-- what a step by a rule has, where the principal formula is known
module _ {Γ : List Formula} {m : Formula} where
  pub and_step : (a b : Formula) → m ≡ f.And a b → (Δs : List (List Formula)) → Rule Γ m 3 Δs → OneFits (With2 (Without Γ m) a b) Δs
  and_step a b e Δs (rule.and {Δ = Δ} i s fits) =
      let same = ap parts (sym s ∙ e) in
      (Δ, refl, subst (λ q. Fits Δ (With2 (Without Γ m) q.0 q.1)) same fits)

  pub or_step : (a b : Formula) → m ≡ f.Or a b → (Δs : List (List Formula)) → Rule Γ m 4 Δs → TwoFit (With (Without Γ m) a) (With (Without Γ m) b) Δs
  or_step a b e Δs (rule.or {Δ = Δ} {Ε = Ε} i s fits fits-too) =
      let same = ap parts (sym s ∙ e) in
      (Δ, Ε, refl, subst (λ q. Fits Δ (With (Without Γ m) q.0)) same fits, subst (λ q. Fits Ε (With (Without Γ m) q.1)) same fits-too)

  pub always_step : (a : Formula) → m ≡ f.Always a → (Δs : List (List Formula)) → Rule Γ m 5 Δs → OneFits (With2 (Without Γ m) a (f.Next m)) Δs
  always_step a e Δs (rule.always {Δ = Δ} i s fits) =
      let same = ap parts (sym s ∙ e) in
      (Δ, refl, subst (λ q. Fits Δ (With2 (Without Γ m) q.0 (f.Next m))) same fits)

  pub some_step : (a : Formula) → m ≡ f.Eventually a → (Δs : List (List Formula)) → Rule Γ m 6 Δs → TwoFit (With (Without Γ m) a) (With (Without Γ m) (f.Next m)) Δs
  some_step a e Δs (rule.some {Δ = Δ} {Ε = Ε} i s fits fits-too) =
      let same = ap parts (sym s ∙ e) in
      (Δ, Ε, refl, subst (λ q. Fits Δ (With (Without Γ m) q.0)) same fits, fits-too)

  pub until_step : (a b : Formula) → m ≡ f.Until a b → (Δs : List (List Formula)) → Rule Γ m 7 Δs → TwoFit (With (Without Γ m) b) (With2 (Without Γ m) a (f.Next m)) Δs
  until_step a b e Δs (rule.until {Δ = Δ} {Ε = Ε} i s fits fits-too) =
      let same = ap parts (sym s ∙ e) in
      (Δ, Ε, refl, subst (λ q. Fits Δ (With (Without Γ m) q.1)) same fits, subst (λ q. Fits Ε (With2 (Without Γ m) q.0 (f.Next m))) same fits-too)

  pub release_step : (a b : Formula) → m ≡ f.Release a b → (Δs : List (List Formula)) → Rule Γ m 8 Δs → TwoFit (With2 (Without Γ m) a b) (With2 (Without Γ m) b (f.Next m)) Δs
  release_step a b e Δs (rule.release {Δ = Δ} {Ε = Ε} i s fits fits-too) =
      let same = ap parts (sym s ∙ e) in
      (Δ, Ε, refl, subst (λ q. Fits Δ (With2 (Without Γ m) q.0 q.1)) same fits, subst (λ q. Fits Ε (With2 (Without Γ m) q.1 (f.Next m))) same fits-too)

  pub some+_step : (a : Formula) → m ≡ f.Eventually a → (Δs : List (List Formula)) → Rule Γ m 9 Δs → TwoFit (With (Without Γ m) a) (SomeAgain (Without Γ m) a) Δs
  some+_step a e Δs (rule.some+ {Δ = Δ} {Ε = Ε} i s fits fits-too) =
      let same = ap parts (sym s ∙ e) in
      (Δ, Ε, refl, subst (λ q. Fits Δ (With (Without Γ m) q.0)) same fits, subst (λ q. Fits Ε (SomeAgain (Without Γ m) q.0)) same fits-too)

  pub until+_step : (a b : Formula) → m ≡ f.Until a b → (Δs : List (List Formula)) → Rule Γ m 10 Δs → TwoFit (With (Without Γ m) b) (UntilAgain (Without Γ m) a b) Δs
  until+_step a b e Δs (rule.until+ {Δ = Δ} {Ε = Ε} i s fits fits-too) =
      let same = ap parts (sym s ∙ e) in
      (Δ, Ε, refl, subst (λ q. Fits Δ (With (Without Γ m) q.1)) same fits, subst (λ q. Fits Ε (UntilAgain (Without Γ m) q.0 q.1)) same fits-too)

  pub next_step : (Δs : List (List Formula)) → Rule Γ m 11 Δs → OneFits (λ g. f.Next g ∈ Γ) Δs
  next_step Δs (rule.next {Δ = Δ} fits) = (Δ, refl, fits)

module _ (fs : List Formula) (conclusion : Sequent) (m : Number) (shape : Shape Number) (rest : Sequent) (p : Principal fs conclusion m shape rest) where
  abbrev Γ : List Formula
  Γ = formulas_in fs conclusion

  abbrev M : Formula
  M = numbered fs m.0

  abbrev D : Set
  D = Without Γ M

  abbrev At : Number → Formula
  At a = numbered fs a.0

  here : M ∈ Γ
  here = in_from_number fs conclusion m.0 p.inside p.here

  -- the principal formula by its shape, and its parts
  is_made : (s : Shape Number) → shape ≡ s → M ≡ formula_over fs s
  is_made s e = sym p.is ∙ ap (formula_over fs) e

  low : (s : Shape Number) → shape ≡ s → parts_below m.0 s ≡ true
  low s e = subst (λ s. parts_below m.0 s ≡ true) e p.parts

  low_one : (a : Number) → nat_lt a.0 m.0 ≡ true → a.0 < m.0
  low_one a t = ltb-true a.0 m.0 t

  low_both : (a b : Number) → (nat_lt a.0 m.0 && nat_lt b.0 m.0) ≡ true → (a.0 < m.0) × (b.0 < m.0)
  low_both a b t = let h = and_parts _ _ t in (low_one a h.0, low_one b h.1)

  -- plans without premises
  closed_plan : (n : ℕ) → Rule Γ M n [] → ((Δs : List (List Formula)) → Rule Γ M n Δs → Δs ≡ []) → Plans fs rest (Rule Γ M n) (Some Closed)
  closed_plan n r none = (refl, λ Δs. (λ s. subst (FitsPlan fs rest Closed) (sym (none Δs s)) tt, back Δs))
    where
      back : (Δs : List (List Formula)) → FitsPlan fs rest Closed Δs → Rule Γ M n Δs
      back [] fits = r
      back (Δ ∷ Δs) fits = absurd fits

  -- plans with one premise, and with two, each with its room
  module _ (n : ℕ) (r : Room) (t : Sequent) (x : More) (is : r ≡ record { set = t; more = x }) (S : Set) (inside : more_inside fs x ≡ true) (same : Same (Filled fs rest t x) S) where
    room_from : (Δ : List Formula) → FitsRoom fs rest r Δ → Fits Δ S
    room_from Δ fits g i = (same g).0 (subst (λ r. FitsRoom fs rest r Δ) is fits g i)

    room_to : (Δ : List Formula) → Fits Δ S → FitsRoom fs rest r Δ
    room_to Δ fits = subst (λ r. FitsRoom fs rest r Δ) (sym is) (λ g i. (same g).1 (fits g i))

    room_inside : more_inside fs r.more ≡ true
    room_inside = subst (λ r. more_inside fs r.more ≡ true) (sym is) inside

    one_plan : ((Δs : List (List Formula)) → Rule Γ M n Δs → OneFits S Δs) → ((Δ : List Formula) → Fits Δ S → Rule Γ M n (Δ ∷ [])) → Plans fs rest (Rule Γ M n) (Some (One r))
    one_plan step to = (room_inside, λ Δs. (λ s. let h = step Δs s in subst (FitsPlan fs rest (One r)) (sym h.1) (room_to h.0 h.2), back Δs))
      where
        back : (Δs : List (List Formula)) → FitsPlan fs rest (One r) Δs → Rule Γ M n Δs
        back [] fits = absurd fits
        back (Δ ∷ []) fits = to Δ (room_from Δ fits)
        back (Δ ∷ Ε ∷ Δs) fits = absurd fits

  module _ (n : ℕ) (r : Room) (t : Sequent) (x : More) (is : r ≡ record { set = t; more = x }) (S : Set) (inside : more_inside fs x ≡ true) (same : Same (Filled fs rest t x) S)
      (q : Room) (u : Sequent) (y : More) (is-too : q ≡ record { set = u; more = y }) (T : Set) (inside_too : more_inside fs y ≡ true) (same-too : Same (Filled fs rest u y) T) where
    two_plan : ((Δs : List (List Formula)) → Rule Γ M n Δs → TwoFit S T Δs) → ((Δ Ε : List Formula) → Fits Δ S → Fits Ε T → Rule Γ M n (Δ ∷ Ε ∷ [])) → Plans fs rest (Rule Γ M n) (Some (Two r q))
    two_plan step to = (
      and_from _ _ (room_inside n r t x is S inside same) (room_inside n q u y is-too T inside_too same-too),
      λ Δs. (
        λ s. let h = step Δs s in
            subst (FitsPlan fs rest (Two r q)) (sym h.2)
            (room_to n r t x is S inside same h.0 h.3, room_to n q u y is-too T inside_too same-too h.1 h.4),
        back Δs,
      ),
    )
      where
        back : (Δs : List (List Formula)) → FitsPlan fs rest (Two r q) Δs → Rule Γ M n Δs
        back [] fits = absurd fits
        back (Δ ∷ []) fits = absurd fits
        back (Δ ∷ Ε ∷ []) fits = to Δ Ε (room_from n r t x is S inside same Δ fits.0) (room_from n q u y is-too T inside_too same-too Ε fits.1)
        back (Δ ∷ Ε ∷ Ζ ∷ Δs) fits = absurd fits

  inside_m : more_inside fs (NextOf m) ≡ true
  inside_m = lt-ltb m.0 (length fs) p.inside

  -- contra: the opposite is in the rest exactly where it is in the conclusion
  opposite_named : (beside m.0 < length fs) × (numbered fs (beside m.0) ≡ opposite M)
  opposite_named = named_beside fs p.lawful p.even m.0 p.inside

  pub contra_plan : member rest (beside m.0) ≡ true → Plans fs rest (Rule Γ M 1) (Some Closed)
  contra_plan e = closed_plan 1 (rule.contra here (rest_from fs conclusion m shape rest p (opposite M) (subst (Inside fs rest) opposite_named.1 (in_from_number fs rest (beside m.0) opposite_named.0 e))).0) none
    where
      none : (Δs : List (List Formula)) → Rule Γ M 1 Δs → Δs ≡ []
      none Δs (rule.contra i o) = refl

  pub contra_none : member rest (beside m.0) ≡ false → Plans fs rest (Rule Γ M 1) None
  contra_none e Δs (rule.contra i o) =
      both_ways _ e
      (member_from_in fs p.lawful rest (beside m.0) opposite_named.0
      (subst (Inside fs rest) (sym opposite_named.1) (rest_to fs conclusion m shape rest p (opposite M) (o, opposite_differs M))))

  pub false_plan : shape ≡ False → Plans fs rest (Rule Γ M 2) (Some Closed)
  false_plan s = closed_plan 2 (rule.false here (is_made False s)) none
    where
      none : (Δs : List (List Formula)) → Rule Γ M 2 Δs → Δs ≡ []
      none Δs (rule.false i o) = refl

  pub false_none : (shape ≢ False) → Plans fs rest (Rule Γ M 2) None
  false_none differs Δs (rule.false i o) = differs (shape_of fs shape f.False (p.is ∙ o))

  pub and_none : ((x y : Number) → shape ≢ And x y) → Plans fs rest (Rule Γ M 3) None
  and_none differs Δs (rule.and {a = a} {b = b} i s fits) = differs _ _ (shape_of fs shape (f.And a b) (p.is ∙ s))

  pub or_none : ((x y : Number) → shape ≢ Or x y) → Plans fs rest (Rule Γ M 4) None
  or_none differs Δs (rule.or {a = a} {b = b} i s fits fits-too) = differs _ _ (shape_of fs shape (f.Or a b) (p.is ∙ s))

  pub always_none : ((x : Number) → shape ≢ Always x) → Plans fs rest (Rule Γ M 5) None
  always_none differs Δs (rule.always {a = a} i s fits) = differs _ (shape_of fs shape (f.Always a) (p.is ∙ s))

  pub some_none : ((x : Number) → shape ≢ Eventually x) → Plans fs rest (Rule Γ M 6) None
  some_none differs Δs (rule.some {a = a} i s fits fits-too) = differs _ (shape_of fs shape (f.Eventually a) (p.is ∙ s))

  pub until_none : ((x y : Number) → shape ≢ Until x y) → Plans fs rest (Rule Γ M 7) None
  until_none differs Δs (rule.until {a = a} {b = b} i s fits fits-too) = differs _ _ (shape_of fs shape (f.Until a b) (p.is ∙ s))

  pub release_none : ((x y : Number) → shape ≢ Release x y) → Plans fs rest (Rule Γ M 8) None
  release_none differs Δs (rule.release {a = a} {b = b} i s fits fits-too) = differs _ _ (shape_of fs shape (f.Release a b) (p.is ∙ s))

  pub some+_none : ((x : Number) → shape ≢ Eventually x) → Plans fs rest (Rule Γ M 9) None
  some+_none differs Δs (rule.some+ {a = a} i s fits fits-too) = differs _ (shape_of fs shape (f.Eventually a) (p.is ∙ s))

  pub until+_none : ((x y : Number) → shape ≢ Until x y) → Plans fs rest (Rule Γ M 10) None
  until+_none differs Δs (rule.until+ {a = a} {b = b} i s fits fits-too) = differs _ _ (shape_of fs shape (f.Until a b) (p.is ∙ s))

  pub and_plan : (a b : Number) → shape ≡ And a b → (t u : Sequent) → WithNumber rest a t → WithNumber t b u → (r : Room) → r ≡ record { set = u; more = Nothing } → Plans fs rest (Rule Γ M 3) (Some (One r))
  and_plan a b s t u wt wu r e =
      let l = low_both a b (low (And a b) s) in
      let made = is_made (And a b) s in
      one_plan 3
      r u Nothing e (With2 D (At a) (At b)) refl (plain_same fs conclusion m shape rest p u (With2 D (At a) (At b)) (with2_same fs conclusion m shape rest p a l.0 t wt b l.1 u wu))
      (and_step (At a) (At b) made) (λ Δ. rule.and here made)

  pub or_plan : (a b : Number) → shape ≡ Or a b → (t u : Sequent) → WithNumber rest a t → WithNumber rest b u → (r q : Room) → r ≡ record { set = t; more = Nothing } → q ≡ record { set = u; more = Nothing } → Plans fs rest (Rule Γ M 4) (Some (Two r q))
  or_plan a b s t u wt wu r q e e-too =
      let l = low_both a b (low (Or a b) s) in
      let made = is_made (Or a b) s in
      two_plan 4
      r t Nothing e (With D (At a)) refl (plain_same fs conclusion m shape rest p t (With D (At a)) (with_same fs conclusion m shape rest p a l.0 t wt))
      q u Nothing e-too (With D (At b)) refl (plain_same fs conclusion m shape rest p u (With D (At b)) (with_same fs conclusion m shape rest p b l.1 u wu))
      (or_step (At a) (At b) made) (λ Δ Ε. rule.or here made)

  pub always_plan : (a : Number) → shape ≡ Always a → (t : Sequent) → WithNumber rest a t → (r : Room) → r ≡ record { set = t; more = NextOf m } → Plans fs rest (Rule Γ M 5) (Some (One r))
  always_plan a s t wt r e =
      let l = low_one a (low (Always a) s) in
      let made = is_made (Always a) s in
      one_plan 5
      r t (NextOf m) e (With2 D (At a) (f.Next M)) inside_m (with_next_same fs conclusion m shape rest p a l t wt)
      (always_step (At a) made) (λ Δ. rule.always here made)

  pub some_plan : (a : Number) → shape ≡ Eventually a → (t : Sequent) → WithNumber rest a t → (r q : Room) → r ≡ record { set = t; more = Nothing } → q ≡ record { set = rest; more = NextOf m } → Plans fs rest (Rule Γ M 6) (Some (Two r q))
  some_plan a s t wt r q e e-too =
      let l = low_one a (low (Eventually a) s) in
      let made = is_made (Eventually a) s in
      two_plan 6
      r t Nothing e (With D (At a)) refl (plain_same fs conclusion m shape rest p t (With D (At a)) (with_same fs conclusion m shape rest p a l t wt))
      q rest (NextOf m) e-too (With D (f.Next M)) inside_m (next_same fs conclusion m shape rest p)
      (some_step (At a) made) (λ Δ Ε. rule.some here made)

  pub until_plan : (a b : Number) → shape ≡ Until a b → (t u : Sequent) → WithNumber rest b t → WithNumber rest a u → (r q : Room) → r ≡ record { set = t; more = Nothing } → q ≡ record { set = u; more = NextOf m } → Plans fs rest (Rule Γ M 7) (Some (Two r q))
  until_plan a b s t u wt wu r q e e-too =
      let l = low_both a b (low (Until a b) s) in
      let made = is_made (Until a b) s in
      two_plan 7
      r t Nothing e (With D (At b)) refl (plain_same fs conclusion m shape rest p t (With D (At b)) (with_same fs conclusion m shape rest p b l.1 t wt))
      q u (NextOf m) e-too (With2 D (At a) (f.Next M)) inside_m (with_next_same fs conclusion m shape rest p a l.0 u wu)
      (until_step (At a) (At b) made) (λ Δ Ε. rule.until here made)

  pub release_plan : (a b : Number) → shape ≡ Release a b → (t u v : Sequent) → WithNumber rest a t → WithNumber t b u → WithNumber rest b v → (r q : Room) → r ≡ record { set = u; more = Nothing } → q ≡ record { set = v; more = NextOf m } → Plans fs rest (Rule Γ M 8) (Some (Two r q))
  release_plan a b s t u v wt wu wv r q e e-too =
      let l = low_both a b (low (Release a b) s) in
      let made = is_made (Release a b) s in
      two_plan 8
      r u Nothing e (With2 D (At a) (At b)) refl (plain_same fs conclusion m shape rest p u (With2 D (At a) (At b)) (with2_same fs conclusion m shape rest p a l.0 t wt b l.1 u wu))
      q v (NextOf m) e-too (With2 D (At b) (f.Next M)) inside_m (with_next_same fs conclusion m shape rest p b l.1 v wv)
      (release_step (At a) (At b) made) (λ Δ Ε. rule.release here made)

  pub some+_plan : (a : Number) → shape ≡ Eventually a → (t : Sequent) → WithNumber rest a t → (r q : Room) → r ≡ record { set = t; more = Nothing } → q ≡ record { set = rest; more = more.SomeAgain a } → Plans fs rest (Rule Γ M 9) (Some (Two r q))
  some+_plan a s t wt r q e e-too =
      let l = low_one a (low (Eventually a) s) in
      let made = is_made (Eventually a) s in
      two_plan 9
      r t Nothing e (With D (At a)) refl (plain_same fs conclusion m shape rest p t (With D (At a)) (with_same fs conclusion m shape rest p a l t wt))
      q rest (more.SomeAgain a) e-too (SomeAgain D (At a)) (lt-ltb a.0 (length fs) (part_inside fs conclusion m shape rest p a l)) (some_again_same fs conclusion m shape rest p a)
      (some+_step (At a) made) (λ Δ Ε. rule.some+ here made)

  pub until+_plan : (a b : Number) → shape ≡ Until a b → (t u : Sequent) → WithNumber rest b t → WithNumber rest a u → (r q : Room) → r ≡ record { set = t; more = Nothing } → q ≡ record { set = u; more = more.UntilAgain a b } → Plans fs rest (Rule Γ M 10) (Some (Two r q))
  until+_plan a b s t u wt wu r q e e-too =
      let l = low_both a b (low (Until a b) s) in
      let made = is_made (Until a b) s in
      two_plan 10
      r t Nothing e (With D (At b)) refl (plain_same fs conclusion m shape rest p t (With D (At b)) (with_same fs conclusion m shape rest p b l.1 t wt))
      q u (more.UntilAgain a b) e-too (UntilAgain D (At a) (At b)) (and_from _ _ (lt-ltb a.0 (length fs) (part_inside fs conclusion m shape rest p a l.0)) (lt-ltb b.0 (length fs) (part_inside fs conclusion m shape rest p b l.1))) (until_again_same fs conclusion m shape rest p a l.0 u wu b)
      (until+_step (At a) (At b) made) (λ Δ Ε. rule.until+ here made)
