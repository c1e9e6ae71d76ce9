-- What is in a sequent, word by word. Assumes nothing.
use Rattle.std.proofs.Common.{◌≡◌, ℕ, ◌+◌, ◌-◌, ◌*◌, ◌/◌, ◌%◌, ◌<◌, ◌≤◌, true, false, not, ◌&&◌, ◌||◌, eqb, ltb, List, [], ◌∷◌, ◌++◌, length, get_or, set, sym, refl, ap, ◌∙◌, subst, ap₂, ⊎_elim, arith}
use Rattle.std.proofs.lemmas.List.{length_push, get_or_push, get_or_append_left, get_or-set_same, get_or-set_other}
use Rattle.std.proofs.Math.Bool.{or-false}
use Rattle.std.proofs.lemmas.Bool.{cases_lt, cases_eq, lt-ltb, le-ltb, eq-eqb, ne_eqb, and_left}
use Rattle.tables.specs.declared.sequent.Sequent.{Sequent}
use Rattle.tables.specs.Rows.{bit}
use Rattle.tables.specs.Sets.{member}

-- what holds of each position of each word, and of the numbers past the last, holds of every number
by_words : (P : ℕ → Type 0) → ((i j : ℕ) → i < 8 → j < 64 → P (i * 64 + j)) → ((k : ℕ) → 512 ≤ k → P k) → (k : ℕ) → P k
by_words P inside past k =
    ⊎_elim
    (λ l. let e : k / 64 * 64 + k % 64 ≡ k = omega arith in subst P e (inside (k / 64) (k % 64) (omega arith) (omega arith)))
    (past k)
    (cases_lt k 512)

module _ (s : Sequent) where
  pub member_inside : (k : ℕ) → k < 512 → member s k ≡ bit (get_or s.words (k / 64) 0) (k % 64)
  unfolding member
  member_inside k lt = ap (λ b. b && bit (get_or s.words (k / 64) 0) (k % 64)) (lt-ltb k 512 lt)

  pub member_past : (k : ℕ) → 512 ≤ k → member s k ≡ false
  unfolding member
  member_past k le = and_left (ltb k 512) _ (le-ltb k 512 le)

  -- position j of word i
  member_word : (i j : ℕ) → i < 8 → j < 64 → member s (i * 64 + j) ≡ bit (get_or s.words i 0) j
  member_word i j in_words_lem in-word =
      let word : (i * 64 + j) / 64 ≡ i = omega arith in
      let place : (i * 64 + j) % 64 ≡ j = omega arith in
      member_inside (i * 64 + j) (omega arith) ∙ ap₂ (λ a b. bit (get_or s.words a 0) b) word place

  -- a number of which word i has the position
  member_of_word : (i k : ℕ) → i < 8 → i * 64 ≤ k → k < (i + 1) * 64 → member s k ≡ bit (get_or s.words i 0) (k - i * 64)
  member_of_word i k in_words_lem le lt =
      let e : k ≡ i * 64 + (k - i * 64) = omega arith in
      ap (member s) e ∙ member_word i (k - i * 64) in_words_lem (omega arith)

  pub members_empty : ((i j : ℕ) → i < 8 → j < 64 → bit (get_or s.words i 0) j ≡ false) → (k : ℕ) → member s k ≡ false
  members_empty h = by_words (λ k. member s k ≡ false) (λ i j a b. member_word i j a b ∙ h i j a b) member_past

  -- a search for the smallest number, where no word before word i has one
  module _ (i : ℕ) (in_words_lem : i < 8) (none : (k : ℕ) → k < i * 64 → member s k ≡ false) where
    pub none_before_more : ((j : ℕ) → bit (get_or s.words i 0) j ≡ false) → (k : ℕ) → k < (i + 1) * 64 → member s k ≡ false
    none_before_more empty k lt = ⊎_elim (none k) (λ g. member_of_word i k in_words_lem g lt ∙ empty (k - i * 64)) (cases_lt k (i * 64))

    pub smallest_found : (j : ℕ) → j < 64 → bit (get_or s.words i 0) j ≡ true → ((m : ℕ) → m < j → bit (get_or s.words i 0) m ≡ false) →
        (i * 64 + j < 512) × (member s (i * 64 + j) ≡ true) × ((k : ℕ) → k < i * 64 + j → member s k ≡ false)
    smallest_found j in-word here before = (
      omega arith,
      member_word i j in_words_lem in-word ∙ here,
      λ k lt. ⊎_elim (none k) (λ g. member_of_word i k in_words_lem g (omega arith) ∙ before (k - i * 64) (omega arith)) (cases_lt k (i * 64)),
    )

  -- a search for the largest number, where no word after word i has one
  module _ (i : ℕ) (in_words_lem : i < 8) (none : (k : ℕ) → (i + 1) * 64 ≤ k → member s k ≡ false) where
    pub none_after_more : ((j : ℕ) → bit (get_or s.words i 0) j ≡ false) → (k : ℕ) → i * 64 ≤ k → member s k ≡ false
    none_after_more empty k le = ⊎_elim (λ l. member_of_word i k in_words_lem le l ∙ empty (k - i * 64)) (none k) (cases_lt k ((i + 1) * 64))

    pub largest_found : (j : ℕ) → j < 64 → bit (get_or s.words i 0) j ≡ true → ((m : ℕ) → j < m → bit (get_or s.words i 0) m ≡ false) →
        (i * 64 + j < 512) × (member s (i * 64 + j) ≡ true) × ((k : ℕ) → i * 64 + j < k → member s k ≡ false)
    largest_found j in-word here after = (
      omega arith,
      member_word i j in_words_lem in-word ∙ here,
      λ k lt. ⊎_elim (λ l. member_of_word i k in_words_lem (omega arith) l ∙ after (k - i * 64) (omega arith)) (none k) (cases_lt k ((i + 1) * 64)),
    )

-- a search from the last word on: the words that are left begin the set's words, and no number is in those that were seen
abbrev pub Seen : Sequent → List ℕ → Type 0
Seen s left =
    (length left ≤ 8)
    × ((k : ℕ) → k < length left → get_or left k 0 ≡ get_or s.words k 0)
    × ((k : ℕ) → length left * 64 ≤ k → member s k ≡ false)

pub seen_none : (s : Sequent) (left : List ℕ) → length s.words ≡ 8 → left ≡ s.words → Seen s left
seen_none s left long e = (omega (arith, ap length e), λ k lt. ap (λ l. get_or l k 0) e, λ k le. member_past s k (omega (arith, ap length e)))

-- one turn, at a word with no word after it
module _ (s : Sequent) (before left : List ℕ) (w : ℕ) (e : before ≡ left ++ w ∷ []) (seen : Seen s before) where
  turn_long : length before ≡ length left + 1
  turn_long = ap length e ∙ length_push left w

  turn_word : w ≡ get_or s.words (length left) 0
  turn_word =
      sym (get_or_push left w 0 (length left) refl) ∙ ap (λ l. get_or l (length left) 0) (sym e) ∙ seen.1 (length left) (omega (arith, turn_long))

  turn_inside : length left < 8
  turn_inside = omega (arith, turn_long, seen.0)

  turn_none : (k : ℕ) → (length left + 1) * 64 ≤ k → member s k ≡ false
  turn_none k le = seen.2 k (omega (arith, turn_long))

  pub seen_found : (i j : ℕ) → i ≡ length left → j < 64 → bit w j ≡ true → ((m : ℕ) → j < m → bit w m ≡ false) → (i * 64 + j < 512) × (member s (i * 64 + j) ≡ true) × ((k : ℕ) → i * 64 + j < k → member s k ≡ false)
  seen_found i j is in-word here after =
      subst (λ n. (n * 64 + j < 512) × (member s (n * 64 + j) ≡ true) × ((k : ℕ) → n * 64 + j < k → member s k ≡ false)) (sym is)
      (largest_found s (length left) turn_inside turn_none j in-word (ap (λ x. bit x j) (sym turn_word) ∙ here) (λ m lt. ap (λ x. bit x m) (sym turn_word) ∙ after m lt))

  pub seen_more : ((j : ℕ) → bit w j ≡ false) → Seen s left
  seen_more empty = (
    omega (arith, turn_inside),
    λ k lt. sym (get_or_append_left left (w ∷ []) 0 k lt) ∙ ap (λ l. get_or l k 0) (sym e) ∙ seen.1 k (omega (arith, turn_long)),
    none_after_more s (length left) turn_inside turn_none (λ j. ap (λ x. bit x j) (sym turn_word) ∙ empty j),
  )

-- a set whose words have, position by position, what is in one set and not in another
pub members_minus : (r s t : Sequent) → ((i : ℕ) → i < 8 → (j : ℕ) → bit (get_or r.words i 0) j ≡ (bit (get_or s.words i 0) j && (ltb j 64 && not (bit (get_or t.words i 0) j)))) → (k : ℕ) → member r k ≡ (member s k && not (member t k))
members_minus r s t h =
    by_words (λ k. member r k ≡ (member s k && not (member t k)))
    (λ i j a b.
    member_word r i j a b ∙ h i a j ∙ ap (λ x. bit (get_or s.words i 0) j && (x && not (bit (get_or t.words i 0) j))) (lt-ltb j 64 b)
    ∙ sym (ap₂ (λ x y. x && not y) (member_word s i j a b) (member_word t i j a b)))
    (λ k le. member_past r k le ∙ sym (and_left (member s k) _ (member_past s k le)))

-- a set whose words have, position by position, what is below `len` in another
pub members_below : (r s : Sequent) (len : ℕ) → ((i : ℕ) → i < 8 → (j : ℕ) → j < 64 → bit (get_or r.words i 0) j ≡ (bit (get_or s.words i 0) j && ltb (i * 64 + j) len)) → (k : ℕ) → member r k ≡ (member s k && ltb k len)
members_below r s len h =
    by_words (λ k. member r k ≡ (member s k && ltb k len))
    (λ i j a b. member_word r i j a b ∙ h i a j b ∙ sym (ap (λ x. x && ltb (i * 64 + j) len) (member_word s i j a b)))
    (λ k le. member_past r k le ∙ sym (and_left (member s k) _ (member_past s k le)))

-- a set of which one word has one position more
pub members_with : (r s : Sequent) (n w : ℕ) → n < 512 → length s.words ≡ 8 → r.words ≡ set s.words (n / 64) w → ((j : ℕ) → bit w j ≡ (bit (get_or s.words (n / 64) 0) j || eqb j (n % 64))) → (k : ℕ) → member r k ≡ (member s k || (ltb k 512 && eqb k n))
members_with r s n w lt long is more =
    by_words (λ k. member r k ≡ (member s k || (ltb k 512 && eqb k n)))
    (λ i j a b.
    let k = i * 64 + j in
    let inside = lt-ltb k 512 (omega arith) in
    member_word r i j a b ∙ ap (λ l. bit (get_or l i 0) j) is
    ∙ ⊎_elim
    (λ e.
    ap (λ m. bit (get_or (set s.words (n / 64) w) m 0) j) e ∙ ap (λ x. bit x j) (get_or-set_same s.words (n / 64) w 0 (omega arith)) ∙ more j
    ∙ ap₂ (λ x y. x || y) (ap (λ m. bit (get_or s.words m 0) j) (sym e) ∙ sym (member_word s i j a b))
    (⊎_elim
    (λ p. eq-eqb j (n % 64) p ∙ sym (ap₂ (λ x y. x && y) inside (eq-eqb k n (omega arith))))
    (λ p. ne_eqb j (n % 64) p ∙ sym (ap₂ (λ x y. x && y) inside (ne_eqb k n (λ q. p (omega arith)))))
    (cases_eq j (n % 64))))
    (λ o.
    ap (λ x. bit x j) (get_or-set_other s.words (n / 64) i w 0 o) ∙ sym (member_word s i j a b) ∙ sym (or-false (member s k))
    ∙ ap (λ y. member s k || y) (sym (ap₂ (λ x y. x && y) inside (ne_eqb k n (λ q. o (omega arith))))))
    (cases_eq i (n / 64)))
    (λ k le. member_past r k le ∙ sym (ap₂ (λ x y. x || y) (member_past s k le) (and_left (ltb k 512) (eqb k n) (le-ltb k 512 le))))

-- 512 and what is above it need no test where a number is taken out
pub members_without : (s : Sequent) (n k : ℕ) → (member s k && not (ltb k 512 && eqb k n)) ≡ (member s k && not (eqb k n))
members_without s n k =
    ⊎_elim
    (λ l. ap (λ b. member s k && not (b && eqb k n)) (lt-ltb k 512 l))
    (λ g. let none = member_past s k g in and_left (member s k) _ none ∙ sym (and_left (member s k) _ none))
    (cases_lt k 512)
