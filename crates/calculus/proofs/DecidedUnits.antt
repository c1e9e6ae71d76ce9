-- Whether unit closure brings a contradiction is decided: the set grows by what its members bring until it is closed. Assumes nothing.
use Rattle.std.proofs.Common.{◌≡◌, ℕ, zero, suc, ◌⊎◌, List, [], ◌∷◌, ◌++◌, length, sym, refl, ap, ◌∙◌, subst, inl, inr, ⊎_elim, arith}
use mathlib.Core.Logic.Dec
use mathlib.Core.HLevel.{dec→stable}
use Rattle.pltl.specs.Formulas.{Formula, opposite}
use Rattle.pltl.specs.Formulas as f
use Rattle.calculus.specs.Sequents.{◌∈◌}
use Rattle.calculus.specs.Rules.{Fits}
use Rattle.calculus.specs.Units.{Closure, given, and_left, and_right, always, or_left, or_right, Contradicts}
use Rattle.calculus.proofs.Decided.{iff_decided, or_decided, equal_decided, member_decided, some_decided, parts}

in_first : (g : Formula) (Γ Δ : List Formula) → g ∈ Γ → g ∈ (Γ ++ Δ)
in_first g [] Δ i = absurd i
in_first g (h ∷ Γ) Δ (inl e) = inl e
in_first g (h ∷ Γ) Δ (inr i) = inr (in_first g Γ Δ i)

in_second : (g : Formula) (Γ Δ : List Formula) → g ∈ Δ → g ∈ (Γ ++ Δ)
in_second g [] Δ i = i
in_second g (h ∷ Γ) Δ i = inr (in_second g Γ Δ i)

in_either : (g : Formula) (Γ Δ : List Formula) → g ∈ (Γ ++ Δ) → (g ∈ Γ) ⊎ (g ∈ Δ)
in_either g [] Δ i = inr i
in_either g (h ∷ Γ) Δ (inl e) = inl (inl e)
in_either g (h ∷ Γ) Δ (inr i) = ⊎_elim (λ j. inl (inr j)) inr (in_either g Γ Δ i)

-- the set has the parts of its members
abbrev HasParts : List Formula → Type 0
HasParts Γ = (g : Formula) → g ∈ Γ → ((parts g).0 ∈ Γ) × ((parts g).1 ∈ Γ)

has_parts_append : (Γ Δ : List Formula) → HasParts Γ → HasParts Δ → HasParts (Γ ++ Δ)
has_parts_append Γ Δ in-Γ in-Δ g i =
    ⊎_elim
    (λ j. (in_first (parts g).0 Γ Δ (in-Γ g j).0, in_first (parts g).1 Γ Δ (in-Γ g j).1))
    (λ j. (in_second (parts g).0 Γ Δ (in-Δ g j).0, in_second (parts g).1 Γ Δ (in-Δ g j).1))
    (in_either g Γ Δ i)

has_parts_cons : (g : Formula) (Γ : List Formula) → (parts g).0 ∈ (g ∷ Γ) → (parts g).1 ∈ (g ∷ Γ) → HasParts Γ → HasParts (g ∷ Γ)
has_parts_cons g Γ l r rest h =
    ⊎_elim
    (λ e. subst (λ h. ((parts h).0 ∈ (g ∷ Γ)) × ((parts h).1 ∈ (g ∷ Γ))) (sym e) (l, r))
    (λ i. (inr (rest h i).0, inr (rest h i).1))

-- what stands below a formula
abbrev pub below : Formula → List Formula
below f.True = []
below f.False = []
below (f.Is p) = []
below (f.Isn't p) = []
below (f.Next a) = a ∷ below a
below (f.Always a) = a ∷ below a
below (f.Eventually a) = a ∷ below a
below (f.Until a b) = (a ∷ below a) ++ (b ∷ below b)
below (f.Release a b) = (a ∷ below a) ++ (b ∷ below b)
below (f.And a b) = (a ∷ below a) ++ (b ∷ below b)
below (f.Or a b) = (a ∷ below a) ++ (b ∷ below b)

no_part : (g : Formula) → parts g ≡ (g, g) → HasParts (g ∷ [])
no_part g e = has_parts_cons g [] (inl (ap (λ p. p.0) e)) (inl (ap (λ p. p.1) e)) (λ h i. absurd i)

one_part : (g a : Formula) → parts g ≡ (a, a) → HasParts (a ∷ below a) → HasParts (g ∷ a ∷ below a)
one_part g a e = has_parts_cons g (a ∷ below a) (inr (inl (ap (λ p. p.0) e))) (inr (inl (ap (λ p. p.1) e)))

two_parts : (g a b : Formula) → parts g ≡ (a, b) → HasParts (a ∷ below a) → HasParts (b ∷ below b) →
    HasParts (g ∷ ((a ∷ below a) ++ (b ∷ below b)))
two_parts g a b e l r =
    has_parts_cons g ((a ∷ below a) ++ (b ∷ below b))
    (inr (inl (ap (λ p. p.0) e)))
    (inr (in_second (parts g).1 (a ∷ below a) (b ∷ below b) (inl (ap (λ p. p.1) e))))
    (has_parts_append (a ∷ below a) (b ∷ below b) l r)

below_has_parts : (g : Formula) → HasParts (g ∷ below g)
below_has_parts f.True = no_part f.True refl
below_has_parts f.False = no_part f.False refl
below_has_parts (f.Is p) = no_part (f.Is p) refl
below_has_parts (f.Isn't p) = no_part (f.Isn't p) refl
below_has_parts (f.Next a) = one_part (f.Next a) a refl (below_has_parts a)
below_has_parts (f.Always a) = one_part (f.Always a) a refl (below_has_parts a)
below_has_parts (f.Eventually a) = one_part (f.Eventually a) a refl (below_has_parts a)
below_has_parts (f.Until a b) = two_parts (f.Until a b) a b refl (below_has_parts a) (below_has_parts b)
below_has_parts (f.Release a b) = two_parts (f.Release a b) a b refl (below_has_parts a) (below_has_parts b)
below_has_parts (f.And a b) = two_parts (f.And a b) a b refl (below_has_parts a) (below_has_parts b)
below_has_parts (f.Or a b) = two_parts (f.Or a b) a b refl (below_has_parts a) (below_has_parts b)

-- the members and all below them
abbrev pub all_parts : List Formula → List Formula
all_parts [] = []
all_parts (g ∷ Γ) = (g ∷ below g) ++ all_parts Γ

all_have_parts : (Γ : List Formula) → HasParts (all_parts Γ)
all_have_parts [] = λ g i. absurd i
all_have_parts (g ∷ Γ) = has_parts_append (g ∷ below g) (all_parts Γ) (below_has_parts g) (all_have_parts Γ)

in_all_parts : (g : Formula) (Γ : List Formula) → g ∈ Γ → g ∈ all_parts Γ
in_all_parts g [] i = absurd i
in_all_parts g (h ∷ Γ) (inl e) = inl e
in_all_parts g (h ∷ Γ) (inr i) = in_second g (h ∷ below h) (all_parts Γ) (in_all_parts g Γ i)

-- the list without one member
remove : (u : Formula) (Γ : List Formula) → u ∈ Γ → List Formula
remove u [] i = absurd i
remove u (g ∷ Γ) (inl e) = Γ
remove u (g ∷ Γ) (inr i) = g ∷ remove u Γ i

remove_shortens : (u : Formula) (Γ : List Formula) (i : u ∈ Γ) → length Γ ≡ suc (length (remove u Γ i))
unfolding remove
remove_shortens u [] i = absurd i
remove_shortens u (g ∷ Γ) (inl e) = refl
remove_shortens u (g ∷ Γ) (inr i) = ap suc (remove_shortens u Γ i)

remove_keeps : (u : Formula) (Γ : List Formula) (i : u ∈ Γ) (g : Formula) → g ∈ Γ → (g ≡ u) ⊎ (g ∈ remove u Γ i)
unfolding remove
remove_keeps u [] i g j = absurd j
remove_keeps u (h ∷ Γ) (inl e) g (inl d) = inl (d ∙ sym e)
remove_keeps u (h ∷ Γ) (inl e) g (inr j) = inr j
remove_keeps u (h ∷ Γ) (inr i) g (inl d) = inr (inl d)
remove_keeps u (h ∷ Γ) (inr i) g (inr j) = ⊎_elim inl (λ k. inr (inr k)) (remove_keeps u Γ i g j)

-- s brings its left part, and its right part, where S has the opposites
abbrev pub BringsLeft : List Formula → Formula → Type 0
BringsLeft S s =
    (s ≡ f.And (parts s).0 (parts s).1)
    ⊎ (s ≡ f.Always (parts s).0)
    ⊎ ((s ≡ f.Or (parts s).0 (parts s).1) × (opposite (parts s).1 ∈ S))

abbrev pub BringsRight : List Formula → Formula → Type 0
BringsRight S s =
    (s ≡ f.And (parts s).0 (parts s).1)
    ⊎ ((s ≡ f.Or (parts s).0 (parts s).1) × (opposite (parts s).0 ∈ S))

-- s brings what is not in S
abbrev pub BringsMore : List Formula → Formula → Type 0
BringsMore S s = (BringsLeft S s × ((parts s).0 ∈ S → ⊥)) ⊎ (BringsRight S s × ((parts s).1 ∈ S → ⊥))

module _ (S : List Formula) (s : Formula) where
  unfoldable pub brings_left_decided : Dec (BringsLeft S s)
  unfolding or_decided Dec.and equal_decided member_decided
  brings_left_decided =
      or_decided (equal_decided s (f.And (parts s).0 (parts s).1))
      (or_decided (equal_decided s (f.Always (parts s).0))
      (Dec.and (equal_decided s (f.Or (parts s).0 (parts s).1)) (member_decided (opposite (parts s).1) S)))

  unfoldable pub brings_right_decided : Dec (BringsRight S s)
  unfolding or_decided Dec.and equal_decided member_decided
  brings_right_decided =
      or_decided (equal_decided s (f.And (parts s).0 (parts s).1))
      (Dec.and (equal_decided s (f.Or (parts s).0 (parts s).1)) (member_decided (opposite (parts s).0) S))

  unfoldable pub brings_more_decided : Dec (BringsMore S s)
  unfolding or_decided Dec.and Dec.not member_decided brings_left_decided brings_right_decided
  brings_more_decided =
      or_decided
      (Dec.and brings_left_decided (Dec.not (member_decided (parts s).0 S)))
      (Dec.and brings_right_decided (Dec.not (member_decided (parts s).1 S)))

module _ (Γ : List Formula) where
  module _ (S : List Formula) (inside : Fits S (Closure Γ)) where
    left_follows : (s : Formula) → Closure Γ s → BringsLeft S s → Closure Γ (parts s).0
    left_follows s c (inl e) = and_left (subst (Closure Γ) e c)
    left_follows s c (inr (inl e)) = always (subst (Closure Γ) e c)
    left_follows s c (inr (inr (e, o))) = or_left (subst (Closure Γ) e c) (inside (opposite (parts s).1) o)

    right_follows : (s : Formula) → Closure Γ s → BringsRight S s → Closure Γ (parts s).1
    right_follows s c (inl e) = and_right (subst (Closure Γ) e c)
    right_follows s c (inr (e, o)) = or_right (subst (Closure Γ) e c) (inside (opposite (parts s).0) o)

  -- a set from which nothing more comes has the whole closure
  module _ (S : List Formula) (has : Fits Γ (λ g. g ∈ S)) (full : (s : Formula) × (s ∈ S) × BringsMore S s → ⊥) where
    left_in : (s : Formula) → s ∈ S → BringsLeft S s → (parts s).0 ∈ S
    left_in s i b = dec→stable (member_decided (parts s).0 S) (λ out. full (s, i, inl (b, out)))

    right_in : (s : Formula) → s ∈ S → BringsRight S s → (parts s).1 ∈ S
    right_in s i b = dec→stable (member_decided (parts s).1 S) (λ out. full (s, i, inr (b, out)))

    pub closure_in : (g : Formula) → Closure Γ g → g ∈ S
    closure_in g (given i) = has g i
    closure_in g (and_left {a = a} {b = b} c) = left_in (f.And a b) (closure_in (f.And a b) c) (inl refl)
    closure_in g (and_right {a = a} {b = b} c) = right_in (f.And a b) (closure_in (f.And a b) c) (inl refl)
    closure_in g (always {a = a} c) = left_in (f.Always a) (closure_in (f.Always a) c) (inr (inl refl))
    closure_in g (or_left {a = a} {b = b} c o) =
        left_in (f.Or a b) (closure_in (f.Or a b) c) (inr (inr (refl, closure_in (opposite b) o)))
    closure_in g (or_right {a = a} {b = b} c o) =
        right_in (f.Or a b) (closure_in (f.Or a b) c) (inr (refl, closure_in (opposite a) o))

  -- at most k parts are not in S
  abbrev pub Room : List Formula → ℕ → Type 0
  Room S k = (R : List Formula) × (length R ≡ k) × Fits (all_parts Γ) (λ g. (g ∈ S) ⊎ (g ∈ R))

  -- S lies between Γ and its closure, among the parts of Γ
  pub record Grown (S : List Formula) (k : ℕ) : Type 0 where
    pub inside : Fits S (Closure Γ)
    pub has : Fits Γ (λ g. g ∈ S)
    pub among : Fits S (λ g. g ∈ all_parts Γ)
    pub room : Room S k

  abbrev pub More : List Formula → Type 0
  More S = (s : Formula) × (s ∈ S) × BringsMore S s

  unfoldable pub more_decided : (S : List Formula) → Dec (More S)
  unfolding some_decided brings_more_decided
  more_decided S = some_decided (BringsMore S) (brings_more_decided S) S

  -- what comes next
  unfoldable pub brought : (S : List Formula) → More S → Formula
  brought S (s, i, inl b) = (parts s).0
  brought S (s, i, inr b) = (parts s).1

  module _ (S : List Formula) (k : ℕ) (grown : Grown S k) where
    brought_follows : (m : More S) → Closure Γ (brought S m)
    unfolding brought
    brought_follows (s, i, inl b) = left_follows S grown.inside s (grown.inside s i) b.0
    brought_follows (s, i, inr b) = right_follows S grown.inside s (grown.inside s i) b.0

    pub brought_among : (m : More S) → brought S m ∈ all_parts Γ
    unfolding brought
    brought_among (s, i, inl b) = (all_have_parts Γ s (grown.among s i)).0
    brought_among (s, i, inr b) = (all_have_parts Γ s (grown.among s i)).1

    pub brought_is_new : (m : More S) → brought S m ∈ S → ⊥
    unfolding brought
    brought_is_new (s, i, inl b) = b.1
    brought_is_new (s, i, inr b) = b.1

  module _ (S : List Formula) (u : Formula) (among : u ∈ all_parts Γ) (new : u ∈ S → ⊥) where
    new_is_left : {k : ℕ} (room : Room S k) → u ∈ room.0
    new_is_left room = ⊎_elim (λ i. absurd (new i)) (λ i. i) (room.2 u among)

    pub no_room : Room S zero → ⊥
    no_room room =
        let none : length room.0 ≡ zero = room.1 in
        let some = remove_shortens u room.0 (new_is_left room) in
        omega arith

    less_room : {k : ℕ} → Room S (suc k) → Room (u ∷ S) k
    less_room {k = k} room =
        let i = new_is_left room in
        let rest = remove u room.0 i in
        let most : length room.0 ≡ suc k = room.1 in
        let some = remove_shortens u room.0 i in
        let fewer : length rest ≡ k = omega arith in (
          rest,
          fewer,
          λ g p. ⊎_elim
              (λ j. inl (inr j))
              (λ j. ⊎_elim (λ e. inl (inl e)) inr (remove_keeps u room.0 i g j))
              (room.2 g p),
        )

  pub with_brought : (S : List Formula) (k : ℕ) → Grown S (suc k) → (m : More S) → Grown (brought S m ∷ S) k
  with_brought S k grown m = record {
    inside = λ g. ⊎_elim (λ e. subst (Closure Γ) (sym e) (brought_follows S (suc k) grown m)) (grown.inside g);
    has = λ g i. inr (grown.has g i);
    among = λ g. ⊎_elim (λ e. subst (λ g. g ∈ all_parts Γ) (sym e) (brought_among S (suc k) grown m)) (grown.among g);
    room = less_room S (brought S m) (brought_among S (suc k) grown m) (brought_is_new S (suc k) grown m) grown.room;
  }

  unfoldable pub full_decided : (S : List Formula) (k : ℕ) → Grown S k → (More S → ⊥) → Dec (Contradicts Γ)
  unfolding iff_decided or_decided member_decided some_decided
  full_decided S k grown full =
      let all = closure_in S grown.has full in
      iff_decided
      (⊎_elim
      (λ i. inl (grown.inside f.False i))
      (λ s. inr (s.0, grown.inside s.0 s.1, grown.inside (opposite s.0) s.2)))
      (⊎_elim
      (λ c. inl (all f.False c))
      (λ c. inr (c.0, all c.0 c.1, all (opposite c.0) c.2)))
      (or_decided (member_decided f.False S) (some_decided (λ a. opposite a ∈ S) (λ a. member_decided (opposite a) S) S))

  unfoldable pub grown_decided : (k : ℕ) (S : List Formula) → Grown S k → Dec (More S) → Dec (Contradicts Γ)
  unfolding more_decided brought full_decided
  grown_decided zero S grown (no full) = full_decided S zero grown full
  grown_decided zero S grown (yes m) =
      absurd (no_room S (brought S m) (brought_among S zero grown m) (brought_is_new S zero grown m) grown.room)
  grown_decided (suc k) S grown (no full) = full_decided S (suc k) grown full
  grown_decided (suc k) S grown (yes m) =
      grown_decided k (brought S m ∷ S) (with_brought S k grown m) (more_decided (brought S m ∷ S))

  pub first_grown : Grown Γ (length (all_parts Γ))
  first_grown = record {
    inside = λ g i. given i;
    has = λ g i. i;
    among = λ g i. in_all_parts g Γ i;
    room = (all_parts Γ, refl, λ g i. inr i);
  }

unfoldable pub contradiction_decided : (Γ : List Formula) → Dec (Contradicts Γ)
unfolding more_decided grown_decided
contradiction_decided Γ = grown_decided Γ (length (all_parts Γ)) Γ (first_grown Γ) (more_decided Γ Γ)
