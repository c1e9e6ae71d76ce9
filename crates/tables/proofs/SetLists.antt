-- The list of a set's numbers: its first number, what is in it, and what holds of all of it. Assumes nothing.
use Rattle.std.proofs.Common.{◌≡◌, ℕ, zero, suc, ◌+◌, ◌<◌, ◌≤◌, Bool, true, false, not, ◌&&◌, ◌||◌, ◌⊎◌, cond, eqb, Decides, MatchBool, MatchOption, Option, Contains, List, [], ◌∷◌, length, get_or, sym, refl, ap, ◌∙◌, subst, ap₂, inl, inr, ⊎_elim, arith}
use Rattle.std.proofs.Math.Bool.{and-true}
use Rattle.std.proofs.lemmas.Bool.{cases_lt, cond-true, cond-false, and_left, and_right, or_cases, or_from, or_left, or_right, false_from_ne_true, both_ways, eqb-true, eq-eqb, ne_eqb, cases_Bool, not_from_true}
use Rattle.std.proofs.lemmas.List.Elements.{Contains-get_or, Contains-append_cases, Contains-append_right}
use Rattle.std.proofs.lemmas.Iterator.{cases_from_all, cases_from_any}
use Rattle.std.proofs.lemmas.Iterator.Consumers.{YieldsList-from_first}
use Rattle.std.specs.Cmp.{both_ways as each_from_other}
use Rattle.std.specs.Fn.{Called}
use Rattle.std.specs.Iterator.{YieldsFirst, YieldsThen}
use Rattle.std.specs.List.{AllWithin, HoldsAt, FoldsTo}
use denote.Param.Members.{Mut}
use Rattle.tables.specs.declared.number.Number.{Number}
use Rattle.tables.specs.declared.sequent.Sequent.{Sequent}
use Rattle.tables.specs.declared.sequent.iter.Members.{Members}
use Rattle.tables.specs.Sets.{member, numbers_from, numbers, numbers_left}
use Rattle.tables.proofs.InSets.{member_past}

-- sets that agree from a on have the same numbers there
from_agree : (S T : ℕ → Bool) (n a : ℕ) → ((k : ℕ) → a ≤ k → S k ≡ T k) → numbers_from S a n ≡ numbers_from T a n
unfolding numbers_from
from_agree S T zero a h = refl
from_agree S T (suc n) a h =
    ap₂ (λ (b : Bool) (l : List Number). cond b (record { 0 = a } ∷ l) l) (h a (omega arith)) (from_agree S T n (a + 1) (λ k le. h k (omega arith)))

from_none : (S : ℕ → Bool) (n a : ℕ) → ((k : ℕ) → S k ≡ false) → numbers_from S a n ≡ []
unfolding numbers_from
from_none S zero a h = refl
from_none S (suc n) a h = cond-false (S a) _ _ (h a) ∙ from_none S n (a + 1) h

-- the smallest number comes first, and then those of the set without it
module _ (S T : ℕ → Bool) (f : ℕ) (here : S f ≡ true) (before : (k : ℕ) → k < f → S k ≡ false) (is : (k : ℕ) → T k ≡ (S k && not (eqb k f))) where
  from_taken : (n a : ℕ) → a ≤ f → f < a + n → numbers_from S a n ≡ record { 0 = f } ∷ numbers_from T a n
  unfolding numbers_from
  from_taken zero a le lt = absurd (omega arith)
  from_taken (suc n) a le lt =
      ⊎_elim
      (λ l.
      cond-false (S a) _ _ (before a l) ∙ from_taken n (a + 1) (omega arith) (omega arith)
      ∙ ap (λ l. record { 0 = f } ∷ l) (sym (cond-false (T a) _ _ (is a ∙ and_left (S a) _ (before a l)))))
      (λ g.
      let e : a ≡ f = omega arith in
      cond-true (S a) _ _ (ap S e ∙ here)
      ∙ ap₂ (λ k (l : List Number). record { 0 = k } ∷ l) e
      (from_agree S T n (a + 1) (λ k more. sym (is k ∙ ap (λ b. S k && not b) (ne_eqb k f (omega arith)) ∙ and-true (S k)))
      ∙ sym (cond-false (T a) _ _ (is a ∙ and_right (S a) _ (not_from_true (eqb a f) (eq-eqb a f e))))))
      (cases_lt a f)

pub numbers_none : (s : Sequent) → ((k : ℕ) → member s k ≡ false) → numbers s ≡ []
numbers_none s = from_none (member s) 512 0

pub numbers_taken : (s t : Sequent) (f : Number) → (f.0 < 512) × (member s f.0 ≡ true) × ((k : ℕ) → k < f.0 → member s k ≡ false) → ((k : ℕ) → member t k ≡ (member s k && not (eqb k f.0))) → numbers s ≡ f ∷ numbers t
numbers_taken s t f first is = from_taken (member s) (member t) f.0 first.1 first.2 is 512 0 (omega arith) (omega (arith, first.0))

-- a list with one more in front, if a test holds
contains_one : (x y : Number) → Contains (x ∷ []) y → x ≡ y
contains_one x y (zero, lt, e) = e
contains_one x y (suc k, lt, e) = absurd (omega arith)

contains_front : (b : Bool) (x y : Number) (l : List Number) → Contains (cond b (x ∷ l) l) y → ((b ≡ true) × (x ≡ y)) ⊎ Contains l y
contains_front true x y l h = ⊎_elim (λ o. inl (refl, contains_one x y o)) inr (Contains-append_cases (x ∷ []) l y h)
contains_front false x y l h = inr h

contains_kept : (b : Bool) (x y : Number) (l : List Number) → Contains l y → Contains (cond b (x ∷ l) l) y
contains_kept true x y l h = Contains-append_right (x ∷ []) l y h
contains_kept false x y l h = h

contains_here : (b : Bool) (x : Number) (l : List Number) → b ≡ true → Contains (cond b (x ∷ l) l) x
contains_here true x l e = (0, omega arith, refl)
contains_here false x l e = absurd (both_ways false refl e)

-- what is in the list is in the set, and what is in the set is in the list
from_contains : (S : ℕ → Bool) (n a : ℕ) (x : Number) → Contains (numbers_from S a n) x → S x.0 ≡ true
unfolding numbers_from
from_contains S zero a x h = let lt = h.1 in absurd (omega arith)
from_contains S (suc n) a x h = ⊎_elim (λ p. ap (λ m. S m.0) (sym p.1) ∙ p.0) (from_contains S n (a + 1) x) (contains_front (S a) _ x _ h)

from_has : (S : ℕ → Bool) (n a k : ℕ) → a ≤ k → k < a + n → S k ≡ true → Contains (numbers_from S a n) (record { 0 = k })
unfolding numbers_from
from_has S zero a k le lt h = absurd (omega arith)
from_has S (suc n) a k le lt h =
    ⊎_elim
    (λ l. contains_kept (S a) _ _ _ (from_has S n (a + 1) k (omega arith) (omega arith) h))
    (λ g.
    let e : a ≡ k = omega arith in
    subst (λ j. Contains (cond (S a) (record { 0 = a } ∷ numbers_from S (a + 1) n) (numbers_from S (a + 1) n)) (record { 0 = j })) e (contains_here (S a) (record { 0 = a }) _ (ap S e ∙ h)))
    (cases_lt a k)

pub member_from_numbers : (s : Sequent) (x : Number) → Contains (numbers s) x → member s x.0 ≡ true
member_from_numbers s = from_contains (member s) 512 0

pub numbers_from_member : (s : Sequent) (k : ℕ) → member s k ≡ true → Contains (numbers s) (record { 0 = k })
numbers_from_member s k e =
    ⊎_elim (λ l. from_has (member s) 512 0 k (omega arith) (omega arith) e) (λ g. absurd (both_ways (member s k) (member_past s k g) e)) (cases_lt k 512)

-- ---- a `for` over the numbers of a set, turn by turn
pub numbers_end : (s : Sequent) → numbers s ≡ [] → (k : ℕ) → member s k ≡ false
numbers_end s e k =
    false_from_ne_true (member s k) (λ h. let c = subst (λ l. Contains l (record { 0 = k })) e (numbers_from_member s k h) in let lt = c.1 in absurd (omega arith))

pub numbers_turn : (s t : Sequent) (x : Number) → numbers s ≡ x ∷ numbers t → (k : ℕ) → member s k ≡ (eqb k x.0 || member t k)
numbers_turn s t x e k =
    let y : Number = record { 0 = k } in
    each_from_other (member s k) (eqb k x.0 || member t k)
    (λ h.
    ⊎_elim
    (λ o. or_left (eqb k x.0) _ (eq-eqb k x.0 (ap (λ m. m.0) (sym (contains_one x y o)))))
    (λ i. or_right (eqb k x.0) _ (member_from_numbers t y i))
    (Contains-append_cases (x ∷ []) (numbers t) y (subst (λ l. Contains l y) e (numbers_from_member s k h))))
    (λ o.
    ⊎_elim
    (λ q. subst (λ m. member s m ≡ true) (sym (eqb-true k x.0 q)) (member_from_numbers s x (subst (λ l. Contains l x) (sym e) (0, omega arith, refl))))
    (λ i. member_from_numbers s y (subst (λ l. Contains l y) (sym e) (Contains-append_right (x ∷ []) (numbers t) y (numbers_from_member t k i))))
    (or_cases (eqb k x.0) (member t k) o))

-- a pass over the numbers of s, with those of `rest` to come: they are in s, and P holds of the others
abbrev pub Passing : (ℕ → Type 0) → Sequent → Sequent → Type 0
Passing P s rest =
    ((j : ℕ) → member rest j ≡ true → member s j ≡ true)
    × ((j : ℕ) → member s j ≡ true → member rest j ≡ false → P j)

module _ (P : ℕ → Type 0) (s rest : Sequent) where
  pub passing_start : rest ≡ s → Passing P s rest
  passing_start e = (
    λ j m. subst (λ r. member r j ≡ true) e m,
    λ j m n. absurd (both_ways (member s j) (subst (λ r. member r j ≡ false) e n) m),
  )

  pub passing_end : numbers rest ≡ [] → Passing P s rest → (j : ℕ) → member s j ≡ true → P j
  passing_end e h j m = h.1 j m (numbers_end rest e j)

  -- the pass goes on past its next number
  module _ (left : Sequent) (x : Number) (e : numbers rest ≡ x ∷ numbers left) where
    pub passing_here : Passing P s rest → member s x.0 ≡ true
    passing_here h = h.0 x.0 (numbers_turn rest left x e x.0 ∙ or_left (eqb x.0 x.0) _ (eq-eqb x.0 x.0 refl))

    pub passing_turn : (Q : ℕ → Type 0) → Passing P s rest → ((j : ℕ) → P j → Q j) → Q x.0 → Passing Q s left
    passing_turn Q h more here = (
      λ j m. h.0 j (numbers_turn rest left x e j ∙ or_right (eqb j x.0) _ m),
      λ j m n.
          ⊎_elim
          (λ t. subst Q (sym (eqb-true j x.0 t)) here)
          (λ f. more j (h.1 j m (numbers_turn rest left x e j ∙ or_from (eqb j x.0) (member left j) f n)))
          (cases_Bool (eqb j x.0)),
    )

-- ---- `all` and `any` over the numbers of a set
by_cases : (r : Bool) (A B Q : Type 0) → (A → Q) → (B → Q → ⊥) → MatchBool r A B → Decides r Q
by_cases true A B Q f g h = (λ _. f h, λ _. refl)
by_cases false A B Q f g h = (λ e. absurd (both_ways false refl e), λ q. absurd (g h q))

module _ (s : Sequent) (P : Number → Type 0) where
  each_number : AllWithin P (numbers s) 0 (length (numbers s)) → (k : ℕ) → member s k ≡ true → P (record { 0 = k })
  each_number h k e = let c = numbers_from_member s k e in subst P c.2 (h c.0 (record { 0 = k }) (omega arith) c.1)

  some_number : (i : ℕ) × (i < length (numbers s)) × HoldsAt P (numbers s) i → (k : ℕ) × (member s k ≡ true) × P (record { 0 = k })
  some_number h =
      let x : Number = get_or (numbers s) h.0 (record { 0 = 0 }) in
      (x.0, member_from_numbers s x (Contains-get_or (numbers s) h.0 (record { 0 = 0 }) h.1), h.2 (record { 0 = 0 }))

module _ {F : Type 0} {g : Mut F (Number × Unit {0}) Bool} (P : Number → Type 0) (s : Sequent) (m u : Members) (f : F) (r : Bool) (of : m.rest ≡ s) where
  pub decides_all : (xs : List Number) × (o : Option Number) × (j : F) × YieldsThen (YieldsFirst numbers_left) m xs o u × FoldsTo (λ p x q. Called g p (x, tt) true q) f xs j × MatchOption o (r ≡ true) (λ x. (r ≡ false) × ((h : F) × Called g j (x, tt) false h)) →
      ((x : Number) (b : Bool) (q : F) → Called g f (x, tt) b q → (q ≡ f) × Decides b (P x)) → Decides r ((k : ℕ) → member s k ≡ true → P (record { 0 = k }))
  decides_all ran says =
      by_cases r _ _ _ (each_number s P)
      (λ h q. let w = some_number s (λ x. P x → ⊥) h in w.2 (q w.0 w.1))
      (cases_from_all u f r P (λ x. P x → ⊥) ran (YieldsList-from_first (λ x. x) numbers_left (numbers s) (ap numbers of))
      (λ x q h. let d = says x true q h in (d.0, d.1.0 refl))
      (λ x q h. let d = says x false q h in λ p. both_ways false refl (d.1.1 p)))

  pub decides_any : (xs : List Number) × (o : Option Number) × (j : F) × YieldsThen (YieldsFirst numbers_left) m xs o u × FoldsTo (λ p x q. Called g p (x, tt) false q) f xs j × MatchOption o (r ≡ false) (λ x. (r ≡ true) × ((h : F) × Called g j (x, tt) true h)) →
      ((x : Number) (b : Bool) (q : F) → Called g f (x, tt) b q → (q ≡ f) × Decides b (P x)) → Decides r ((k : ℕ) × (member s k ≡ true) × P (record { 0 = k }))
  decides_any ran says =
      by_cases r _ _ _ (some_number s P)
      (λ h q. each_number s (λ x. P x → ⊥) h q.0 q.1 q.2)
      (cases_from_any u f r P (λ x. P x → ⊥) ran (YieldsList-from_first (λ x. x) numbers_left (numbers s) (ap numbers of))
      (λ x q h. (says x true q h).1.0 refl)
      (λ x q h. let d = says x false q h in (d.0, λ p. both_ways false refl (d.1.1 p))))
