-- On a looping run each formula is true or false, its opposite is true where it is false, and the normal form keeps truth. Assumes nothing.
use Rattle.std.proofs.Common.{ℕ, ◌+◌, ◌<◌, ◌⊎◌, ◌↔◌, inl, inr, ⊎_elim}
use Rattle.std.proofs.lemmas.Bool.{cases_Bool, both_ways}
use Rattle.pltl.specs.Formulas.{Formula, opposite, normal}
use Rattle.pltl.specs.Formulas as pltl
use Rattle.pltl.specs.Truth.{EveryFrom, SomeFrom, UntilFrom, ReleaseFrom, Holds, HoldsAsWritten}
use Rattle.pltl.specs.Runs.{Run, endless}
use Rattle.pltl.specs.Theorems.{ExactlyOne, NormalKeepsTruth, ReleaseByUntil}
use Rattle.pltl.proofs.Positions.{Decided, Not, Again, not_not, until_weaker, until_decided, release_decided, some_decided, every_decided, every_or_some_not}
use Rattle.pltl.proofs.Loops.{period, period_positive}
use Rattle.pltl.proofs.Carried.{periodic}

pub decided : (r : Run) (f : Formula) (i : ℕ) → Holds (endless r) f i ⊎ (Holds (endless r) f i → ⊥)
decided r pltl.True i = inl tt
decided r pltl.False i = inr (λ no. no)
decided r (pltl.Is p) i = ⊎_elim inl (λ e. inr (both_ways (endless r i p) e)) (cases_Bool (endless r i p))
decided r (pltl.Isn't p) i = ⊎_elim (λ e. inr (λ no. both_ways (endless r i p) no e)) inl (cases_Bool (endless r i p))
decided r (pltl.Next a) i = decided r a (i + 1)
decided r (pltl.Always a) i = every_decided r.back (period r) (period_positive r) (Holds (endless r) a) (decided r a) (periodic r a) i
decided r (pltl.Eventually a) i = some_decided r.back (period r) (period_positive r) (Holds (endless r) a) (decided r a) (periodic r a) i
decided r (pltl.Until a b) i =
    until_decided r.back (period r) (period_positive r) (Holds (endless r) a) (Holds (endless r) b) (decided r a) (decided r b) (periodic r b) i
decided r (pltl.Release a b) i =
    release_decided r.back (period r) (period_positive r) (Holds (endless r) a) (Holds (endless r) b) (decided r a) (decided r b) (periodic r b) i
decided r (pltl.And a b) i =
    ⊎_elim (λ p. ⊎_elim (λ q. inl (p, q)) (λ no. inr (λ h. no h.1)) (decided r b i)) (λ no. inr (λ h. no h.0)) (decided r a i)
decided r (pltl.Or a b) i =
    ⊎_elim (λ p. inl (inl p)) (λ no. ⊎_elim (λ q. inl (inr q)) (λ not-b. inr (⊎_elim no not-b)) (decided r b i)) (decided r a i)

-- one predicate is true where the other is false
abbrev Opposes : (ℕ → Type 0) → (ℕ → Type 0) → Type 0
Opposes P Q = (k : ℕ) → Q k ↔ (P k → ⊥)

module _ (A C : ℕ → Type 0) (ac : Opposes A C) where
  opposes_excludes : (k : ℕ) → A k → Not C k
  opposes_excludes k a c = (ac k).0 c a

  opposes_returns : Decided A → (k : ℕ) → Not C k → A k
  opposes_returns dec k not-c = not_not A dec k (λ not_a. not-c ((ac k).1 not_a))

  some_opposes : (back turn : ℕ) → 0 < turn → Decided A → Again back turn A → Opposes (λ i. EveryFrom i A) (λ i. SomeFrom i C)
  some_opposes back turn moves dec again i = (
    λ s e. (ac s.0).0 s.2 (e s.0 s.1),
    λ no. ⊎_elim (λ e. absurd (no e)) (λ s. (s.0, s.1, (ac s.0).1 s.2)) (every_or_some_not back turn moves A dec again i),
  )

  every_opposes : Opposes (λ i. SomeFrom i A) (λ i. EveryFrom i C)
  every_opposes i = (λ e s. (ac s.0).0 (e s.0 s.1) s.2, λ no j le. (ac j).1 (λ a. no (j, le, a)))

module _ (A B C D : ℕ → Type 0) (ac : Opposes A C) (bd : Opposes B D) where
  release_opposes : Decided A → Decided B → Opposes (λ i. UntilFrom i A B) (λ i. ReleaseFrom i C D)
  release_opposes decA decB i = (
    λ r u. r (until_weaker A B (Not C) (Not D) (opposes_excludes A C ac) (opposes_excludes B D bd) i u),
    λ no u. no (until_weaker (Not C) (Not D) A B (opposes_returns A C ac decA) (opposes_returns B D bd decB) i u),
  )

  release_excludes_until : (i : ℕ) → ReleaseFrom i A B ↔ (UntilFrom i C D → ⊥)
  release_excludes_until i = (
    λ r u. r (until_weaker C D (Not A) (Not B) (λ k. (ac k).0) (λ k. (bd k).0) i u),
    λ no u. no (until_weaker (Not A) (Not B) C D (λ k. (ac k).1) (λ k. (bd k).1) i u),
  )

  until_opposes : Decided (λ i. UntilFrom i C D) → Opposes (λ i. ReleaseFrom i A B) (λ i. UntilFrom i C D)
  until_opposes dec i = (
    λ u r. (release_excludes_until i).0 r u,
    λ no. not_not (λ k. UntilFrom k C D) dec i (λ n. no ((release_excludes_until i).1 n)),
  )

pub opposite_is_not : (r : Run) (f : Formula) (i : ℕ) → Holds (endless r) (opposite f) i ↔ (Holds (endless r) f i → ⊥)
opposite_is_not r pltl.True i = (λ no _. no, λ no. no tt)
opposite_is_not r pltl.False i = (λ _ no. no, λ _. tt)
opposite_is_not r (pltl.Is p) i =
    (both_ways (endless r i p), λ no. ⊎_elim (λ e. absurd (no e)) (λ e. e) (cases_Bool (endless r i p)))
opposite_is_not r (pltl.Isn't p) i =
    (λ e no. both_ways (endless r i p) no e, λ no. ⊎_elim (λ e. e) (λ e. absurd (no e)) (cases_Bool (endless r i p)))
opposite_is_not r (pltl.Next a) i = opposite_is_not r a (i + 1)
opposite_is_not r (pltl.Always a) i =
    some_opposes (Holds (endless r) a) (Holds (endless r) (opposite a)) (opposite_is_not r a)
    r.back (period r) (period_positive r) (decided r a) (periodic r a) i
opposite_is_not r (pltl.Eventually a) i =
    every_opposes (Holds (endless r) a) (Holds (endless r) (opposite a)) (opposite_is_not r a) i
opposite_is_not r (pltl.Until a b) i =
    release_opposes (Holds (endless r) a) (Holds (endless r) b) (Holds (endless r) (opposite a)) (Holds (endless r) (opposite b))
    (opposite_is_not r a) (opposite_is_not r b) (decided r a) (decided r b) i
opposite_is_not r (pltl.Release a b) i =
    until_opposes (Holds (endless r) a) (Holds (endless r) b) (Holds (endless r) (opposite a)) (Holds (endless r) (opposite b))
    (opposite_is_not r a) (opposite_is_not r b) (decided r (pltl.Until (opposite a) (opposite b))) i
opposite_is_not r (pltl.And a b) i = (
  ⊎_elim (λ na h. (opposite_is_not r a i).0 na h.0) (λ nb h. (opposite_is_not r b i).0 nb h.1),
  λ no. ⊎_elim
      (λ p. inr ((opposite_is_not r b i).1 (λ q. no (p, q))))
      (λ na. inl ((opposite_is_not r a i).1 na))
      (decided r a i),
)
opposite_is_not r (pltl.Or a b) i = (
  λ h. ⊎_elim ((opposite_is_not r a i).0 h.0) ((opposite_is_not r b i).0 h.1),
  λ no. ((opposite_is_not r a i).1 (λ p. no (inl p)), (opposite_is_not r b i).1 (λ q. no (inr q))),
)

pub exactly_one : ExactlyOne
exactly_one r f i =
    (⊎_elim inl (λ no. inr ((opposite_is_not r f i).1 no)) (decided r f i), λ h o. (opposite_is_not r f i).0 o h)

pub release_by_until : ReleaseByUntil
release_by_until r a b =
    release_excludes_until (Holds (endless r) a) (Holds (endless r) b) (Holds (endless r) (opposite a)) (Holds (endless r) (opposite b))
    (opposite_is_not r a) (opposite_is_not r b)

-- one predicate is true where the other is true
abbrev Same : (ℕ → Type 0) → (ℕ → Type 0) → Type 0
Same P Q = (k : ℕ) → P k ↔ Q k

every_same : (P Q : ℕ → Type 0) → Same P Q → Same (λ i. EveryFrom i P) (λ i. EveryFrom i Q)
every_same P Q pq i = (λ e j le. (pq j).0 (e j le), λ e j le. (pq j).1 (e j le))

some_same : (P Q : ℕ → Type 0) → Same P Q → Same (λ i. SomeFrom i P) (λ i. SomeFrom i Q)
some_same P Q pq i = (λ s. (s.0, s.1, (pq s.0).0 s.2), λ s. (s.0, s.1, (pq s.0).1 s.2))

not_same : (P Q : ℕ → Type 0) → Same P Q → Same (Not P) (Not Q)
not_same P Q pq i = (λ no q. no ((pq i).1 q), λ no p. no ((pq i).0 p))

until_same : (A B C D : ℕ → Type 0) → Same A C → Same B D → Same (λ i. UntilFrom i A B) (λ i. UntilFrom i C D)
until_same A B C D ac bd i =
    (until_weaker A B C D (λ k. (ac k).0) (λ k. (bd k).0) i, until_weaker C D A B (λ k. (ac k).1) (λ k. (bd k).1) i)

release_same : (A B C D : ℕ → Type 0) → Same A C → Same B D → Same (λ i. ReleaseFrom i A B) (λ i. ReleaseFrom i C D)
release_same A B C D ac bd =
    not_same (λ i. UntilFrom i (Not A) (Not B)) (λ i. UntilFrom i (Not C) (Not D))
    (until_same (Not A) (Not B) (Not C) (Not D) (not_same A C ac) (not_same B D bd))

pub normal_keeps_truth : NormalKeepsTruth
normal_keeps_truth r pltl.one i = (λ h. h, λ h. h)
normal_keeps_truth r pltl.zero i = (λ h. h, λ h. h)
normal_keeps_truth r (pltl.letter p) i = (λ h. h, λ h. h)
normal_keeps_truth r (pltl.not a) i =
    let same = normal_keeps_truth r a i in
    (λ no. (opposite_is_not r (normal a) i).1 (λ h. no (same.1 h)), λ o h. (opposite_is_not r (normal a) i).0 o (same.0 h))
normal_keeps_truth r (pltl.next a) i = normal_keeps_truth r a (i + 1)
normal_keeps_truth r (pltl.always a) i =
    every_same (HoldsAsWritten (endless r) a) (Holds (endless r) (normal a)) (normal_keeps_truth r a) i
normal_keeps_truth r (pltl.eventually a) i =
    some_same (HoldsAsWritten (endless r) a) (Holds (endless r) (normal a)) (normal_keeps_truth r a) i
normal_keeps_truth r (pltl.until a b) i =
    until_same (HoldsAsWritten (endless r) a) (HoldsAsWritten (endless r) b) (Holds (endless r) (normal a)) (Holds (endless r) (normal b))
    (normal_keeps_truth r a) (normal_keeps_truth r b) i
normal_keeps_truth r (pltl.release a b) i =
    release_same (HoldsAsWritten (endless r) a) (HoldsAsWritten (endless r) b) (Holds (endless r) (normal a)) (Holds (endless r) (normal b))
    (normal_keeps_truth r a) (normal_keeps_truth r b) i
normal_keeps_truth r (pltl.and a b) i =
    let l = normal_keeps_truth r a i in
    let s = normal_keeps_truth r b i in
    (λ h. (l.0 h.0, s.0 h.1), λ h. (l.1 h.0, s.1 h.1))
normal_keeps_truth r (pltl.or a b) i =
    let l = normal_keeps_truth r a i in
    let s = normal_keeps_truth r b i in
    (⊎_elim (λ h. inl (l.0 h)) (λ h. inr (s.0 h)), ⊎_elim (λ h. inl (l.1 h)) (λ h. inr (s.1 h)))
normal_keeps_truth r (pltl.implies a b) i =
    let l = normal_keeps_truth r a i in
    let s = normal_keeps_truth r b i in (
      λ h. ⊎_elim (λ p. inr (s.0 (h (l.1 p)))) (λ no. inl ((opposite_is_not r (normal a) i).1 no)) (decided r (normal a) i),
      ⊎_elim (λ o p. absurd ((opposite_is_not r (normal a) i).0 o (l.0 p))) (λ q _. s.1 q),
    )
