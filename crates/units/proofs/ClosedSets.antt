-- Sets of formula numbers that grow by what unit closure brings, until they are closed. Assumes nothing.
use Rattle.std.proofs.Common.{◌≡◌, ℕ, zero, suc, ◌+◌, ◌%◌, ◌<◌, ◌≤◌, Bool, true, false, cond, ◌&&◌, ◌||◌, eqb, ltb, ◌⊎◌, List, length, sym, refl, ap, ◌∙◌, subst, inl, inr, ⊎_elim, arith}
use Rattle.std.proofs.lemmas.Bool.{true≢false, cases_lt, or_cases, or_left, or_right, and_parts, and_from, eqb-true, eq-eqb, lt-ltb}
use Rattle.pltl.specs.Formulas.{Formula, opposite}
use Rattle.pltl.specs.Formulas as f
use Rattle.calculus.specs.Sequents.{◌∈◌}
use Rattle.calculus.specs.Units.{Closure, given, and_left, and_right, always, or_left as or-left-side, or_right as or-right-side}
use Rattle.tables.specs.declared.sequent.Sequent.{Sequent}
use Rattle.tables.specs.Listing.{numbered, Lawful}
use Rattle.tables.specs.Numbers.{beside}
use Rattle.tables.specs.Sets.{member}
use Rattle.tables.proofs.Laws.{named_beside}
use Rattle.units.specs.Closures.{Within, Brought}
use Rattle.kits.specs.Steps.{formulas_in}
use Rattle.kits.proofs.InSequents.{in_from_number, number_from_in, member_from_in, member_few}

-- all numbers of a sequent are in another
abbrev pub Inside : Sequent → Sequent → Type 0
Inside s r = (j : ℕ) → member s j ≡ true → member r j ≡ true

-- a sequent with a number more, if a test holds
abbrev pub Plus : Bool → ℕ → Sequent → Sequent → Type 0
Plus b n s r = (j : ℕ) → member r j ≡ (member s j || (b && (ltb j 512 && eqb j n)))

module _ (b : Bool) (n : ℕ) (s r : Sequent) (plus : Plus b n s r) where
  pub plus_keeps : Inside s r
  plus_keeps j e = plus j ∙ or_left (member s j) (b && (ltb j 512 && eqb j n)) e

  pub plus_has : b ≡ true → n < 512 → member r n ≡ true
  plus_has t lt =
      plus n
      ∙ or_right (member s n) (b && (ltb n 512 && eqb n n)) (and_from b (ltb n 512 && eqb n n) t (and_from (ltb n 512) (eqb n n) (lt-ltb n 512 lt) (eq-eqb n n refl)))

  plus_from : (j : ℕ) → member r j ≡ true → (member s j ≡ true) ⊎ ((b ≡ true) × (j ≡ n))
  plus_from j e =
      ⊎_elim
      inl
      (λ h. let p = and_parts b (ltb j 512 && eqb j n) h in inr (p.0, eqb-true j n (and_parts (ltb j 512) (eqb j n) p.1).1))
      (or_cases (member s j) (b && (ltb j 512 && eqb j n)) (sym (plus j) ∙ e))

  -- if the number's formula follows, so does all of the sequent
  pub plus_within : (fs Γ : List Formula) → (b ≡ true → Closure Γ (numbered fs n)) → Within Γ (formulas_in fs s) → Within Γ (formulas_in fs r)
  plus_within fs Γ new old g i =
      let k = number_from_in fs r g i in
      ⊎_elim
      (λ m. subst (Closure Γ) k.3 (old (numbered fs k.0) (in_from_number fs s k.0 k.1 m)))
      (λ p. subst (Closure Γ) (ap (numbered fs) (sym p.1) ∙ k.3) (new p.0))
      (plus_from k.0 k.2)

-- the formulas of numbers that are all in another sequent
pub inside_formulas : (fs : List Formula) (s r : Sequent) → Inside s r → (g : Formula) → g ∈ formulas_in fs s → g ∈ formulas_in fs r
inside_formulas fs s r kept g i =
    let k = number_from_in fs s g i in
    subst (λ h. h ∈ formulas_in fs r) k.3 (in_from_number fs r k.0 k.1 (kept k.0 k.2))

-- what formulas of each sign bring
module _ (S G : List Formula) (g x y : Formula) where
  pub brought_by_and : f.And x y ≡ g → x ∈ G → y ∈ G → Brought S G g
  brought_by_and e p q = record {
    and = λ a b h.
        let l : x ≡ a = cc in
        let r : y ≡ b = cc in
        (subst (λ z. z ∈ G) l p, subst (λ z. z ∈ G) r q);
    always = λ a h. let z : ◌≡◌ {A = ℕ} 0 1 = cc in absurd (omega arith);
    or_left = λ a b h. let z : ◌≡◌ {A = ℕ} 0 1 = cc in absurd (omega arith);
    or_right = λ a b h. let z : ◌≡◌ {A = ℕ} 0 1 = cc in absurd (omega arith);
  }

  pub brought_by_or : f.Or x y ≡ g → (opposite y ∈ S → x ∈ G) → (opposite x ∈ S → y ∈ G) → Brought S G g
  brought_by_or e p q = record {
    and = λ a b h. let z : ◌≡◌ {A = ℕ} 0 1 = cc in absurd (omega arith);
    always = λ a h. let z : ◌≡◌ {A = ℕ} 0 1 = cc in absurd (omega arith);
    or_left = λ a b h o.
        let l : x ≡ a = cc in
        let r : b ≡ y = cc in
        subst (λ z. z ∈ G) l (p (subst (λ z. opposite z ∈ S) r o));
    or_right = λ a b h o.
        let l : a ≡ x = cc in
        let r : y ≡ b = cc in
        subst (λ z. z ∈ G) r (q (subst (λ z. opposite z ∈ S) l o));
  }

pub brought_by_always : (S G : List Formula) (g x : Formula) → f.Always x ≡ g → x ∈ G → Brought S G g
brought_by_always S G g x e p = record {
  and = λ a b h. let z : ◌≡◌ {A = ℕ} 0 1 = cc in absurd (omega arith);
  always = λ a h. let l : x ≡ a = cc in subst (λ z. z ∈ G) l p;
  or_left = λ a b h. let z : ◌≡◌ {A = ℕ} 0 1 = cc in absurd (omega arith);
  or_right = λ a b h. let z : ◌≡◌ {A = ℕ} 0 1 = cc in absurd (omega arith);
}

-- what is brought with more at hand, into a smaller set
pub brought_more : (S T G H : List Formula) (g : Formula) → ((x : Formula) → x ∈ S → x ∈ T) → ((x : Formula) → x ∈ G → x ∈ H) → Brought T G g → Brought S H g
brought_more S T G H g less more b = record {
  and = λ x y e. (more x (b.and x y e).0, more y (b.and x y e).1);
  always = λ x e. more x (b.always x e);
  or_left = λ x y e o. more x (b.or_left x y e (less (opposite y) o));
  or_right = λ x y e o. more y (b.or_right x y e (less (opposite x) o));
}

-- a set that has all that its formulas bring has the closure of each of its subsets
module _ (Γ S : List Formula) (has : (g : Formula) → g ∈ Γ → g ∈ S) (full : (g : Formula) → g ∈ S → Brought S S g) where
  pub closed_has_closure : (g : Formula) → Closure Γ g → g ∈ S
  closed_has_closure g (given i) = has g i
  closed_has_closure g (and_left {a = a} {b = b} c) = ((full (f.And a b) (closed_has_closure (f.And a b) c)).and a b refl).0
  closed_has_closure g (and_right {a = a} {b = b} c) = ((full (f.And a b) (closed_has_closure (f.And a b) c)).and a b refl).1
  closed_has_closure g (always {a = a} c) = (full (f.Always a) (closed_has_closure (f.Always a) c)).always a refl
  closed_has_closure g (or-left-side {a = a} {b = b} c o) =
      (full (f.Or a b) (closed_has_closure (f.Or a b) c)).or_left a b refl (closed_has_closure (opposite b) o)
  closed_has_closure g (or-right-side {a = a} {b = b} c o) =
      (full (f.Or a b) (closed_has_closure (f.Or a b) c)).or_right a b refl (closed_has_closure (opposite a) o)

-- how many of the numbers below n are not in a set
unfoldable pub missing : (ℕ → Bool) → ℕ → ℕ
missing S zero = 0
missing S (suc n) = cond (S n) 0 1 + missing S n

-- in a larger set fewer are missing, or it has no others
module _ (S G : ℕ → Bool) (kept : (k : ℕ) → S k ≡ true → G k ≡ true) where
  abbrev Fewer : ℕ → ℕ → ℕ → Type 0
  Fewer n g s = (g < s) ⊎ ((g ≡ s) × ((k : ℕ) → k < n → G k ≡ true → S k ≡ true))

  fewer_by : (n g s : ℕ) (a b : Bool) → G n ≡ a → S n ≡ b → Fewer n g s → Fewer (suc n) (cond a 0 1 + g) (cond b 0 1 + s)
  fewer_by n g s true true p q (inl l) = inl (omega arith)
  fewer_by n g s true true p q (inr r) =
      inr (omega (arith, r.0), λ k lt e. ⊎_elim (λ l. r.1 k l e) (λ h. let is : n ≡ k = omega arith in subst (λ m. S m ≡ true) is q) (cases_lt k n))
  fewer_by n g s true false p q (inl l) = inl (omega arith)
  fewer_by n g s true false p q (inr r) = inl (omega (arith, r.0))
  fewer_by n g s false true p q h = absurd (true≢false (sym (kept n q) ∙ p))
  fewer_by n g s false false p q (inl l) = inl (omega arith)
  fewer_by n g s false false p q (inr r) =
      inr (omega (arith, r.0), λ k lt e. ⊎_elim (λ l. r.1 k l e) (λ h. let is : k ≡ n = omega arith in absurd (true≢false (sym e ∙ ap G is ∙ p))) (cases_lt k n))

  fewer_missing : (n : ℕ) → Fewer n (missing G n) (missing S n)
  unfolding missing
  fewer_missing zero = inr (refl, λ k lt e. absurd (omega arith))
  fewer_missing (suc n) = fewer_by n (missing G n) (missing S n) (G n) (S n) refl refl (fewer_missing n)

-- a sequent with another inside, and a number that is not in it, has fewer missing
pub missing_falls : (s r : Sequent) → Inside s r → (Inside r s → ⊥) → missing (member r) 512 < missing (member s) 512
missing_falls s r kept some =
    ⊎_elim (λ l. l) (λ h. absurd (some (λ j e. h.1 j (member_few r j e) e))) (fewer_missing (member s) (member r) kept 512)

-- opposites, by number
module _ (fs : List Formula) (law : Lawful fs) (even : length fs % 2 ≡ 0) (s : Sequent) (k : ℕ) (lt : k < length fs) where
  pub opposite_from_beside : member s (beside k) ≡ true → opposite (numbered fs k) ∈ formulas_in fs s
  opposite_from_beside e =
      let b = named_beside fs law even k lt in
      subst (λ g. g ∈ formulas_in fs s) b.1 (in_from_number fs s (beside k) b.0 e)

  pub beside_from_opposite : opposite (numbered fs k) ∈ formulas_in fs s → member s (beside k) ≡ true
  beside_from_opposite i =
      let b = named_beside fs law even k lt in
      member_from_in fs law s (beside k) b.0 (subst (λ g. g ∈ formulas_in fs s) (sym b.1) i)

-- what a sequent gains by the formula of a number: it keeps its numbers, all follows, and what the formula brings is there
abbrev pub Gained : List Formula → ℕ → Sequent → Sequent → Type 0
Gained fs k s r =
    Inside s r
    × ((Γ : List Formula) → Within Γ (formulas_in fs s) → Within Γ (formulas_in fs r))
    × Brought (formulas_in fs s) (formulas_in fs r) (numbered fs k)

module _ (fs : List Formula) (few : length fs ≤ 512) (s : Sequent) (k : ℕ) (lt : k < length fs) (here : member s k ≡ true) where
  follows : (Γ : List Formula) (g : Formula) → g ≡ numbered fs k → Within Γ (formulas_in fs s) → Closure Γ g
  follows Γ g e w = subst (Closure Γ) (sym e) (w (numbered fs k) (in_from_number fs s k lt here))

  pub and_gained : (a b : ℕ) (m r : Sequent) → f.And (numbered fs a) (numbered fs b) ≡ numbered fs k → a < k → b < k → Plus true a s m → Plus true b m r → Gained fs k s r
  and_gained a b m r e below-a below-b one two = (
    λ j h. plus_keeps true b m r two j (plus_keeps true a s m one j h),
    λ Γ w. plus_within true b m r two fs Γ (λ t. and_right (follows Γ _ e w)) (plus_within true a s m one fs Γ (λ t. and_left (follows Γ _ e w)) w),
    brought_by_and (formulas_in fs s) (formulas_in fs r) (numbered fs k) (numbered fs a) (numbered fs b) e
        (in_from_number fs r a (omega arith) (plus_keeps true b m r two a (plus_has true a s m one refl (omega arith))))
        (in_from_number fs r b (omega arith) (plus_has true b m r two refl (omega arith))),
  )

  pub always_gained : (a : ℕ) (r : Sequent) → f.Always (numbered fs a) ≡ numbered fs k → a < k → Plus true a s r → Gained fs k s r
  always_gained a r e below-a one = (
    plus_keeps true a s r one,
    λ Γ w. plus_within true a s r one fs Γ (λ t. always (follows Γ _ e w)) w,
    brought_by_always (formulas_in fs s) (formulas_in fs r) (numbered fs k) (numbered fs a) e
        (in_from_number fs r a (omega arith) (plus_has true a s r one refl (omega arith))),
  )

  pub or_gained : Lawful fs → length fs % 2 ≡ 0 → (a b : ℕ) (m r : Sequent) → f.Or (numbered fs a) (numbered fs b) ≡ numbered fs k → a < k → b < k → Plus (member s (beside b)) a s m → Plus (member m (beside a)) b m r → Gained fs k s r
  or_gained law even a b m r e below-a below-b one two =
      let in-a : a < length fs = omega arith in
      let in_b : b < length fs = omega arith in (
        λ j h. plus_keeps (member m (beside a)) b m r two j (plus_keeps (member s (beside b)) a s m one j h),
        λ Γ w.
            let left_in : Within Γ (formulas_in fs m) = plus_within (member s (beside b)) a s m one fs Γ (λ t. or-left-side (follows Γ _ e w) (w _ (opposite_from_beside fs law even s b in_b t))) w in
            plus_within (member m (beside a)) b m r two fs Γ (λ t. or-right-side (follows Γ _ e w) (left_in _ (opposite_from_beside fs law even m a in-a t))) left_in,
        brought_by_or (formulas_in fs s) (formulas_in fs r) (numbered fs k) (numbered fs a) (numbered fs b) e
            (λ o.
            in_from_number fs r a in-a
            (plus_keeps (member m (beside a)) b m r two a
            (plus_has (member s (beside b)) a s m one (beside_from_opposite fs law even s b in_b o) (omega arith))))
            (λ o.
            in_from_number fs r b in_b
            (plus_has (member m (beside a)) b m r two (plus_keeps (member s (beside b)) a s m one (beside a) (beside_from_opposite fs law even s a in-a o)) (omega arith))),
      )
