-- Sweeps over words: a span that doubles, and the goals of the second sweep. Assumes nothing.
use Rattle.std.proofs.Common.{◌≡◌, ℕ, ◌+◌, ◌-◌, ◌*◌, ◌/◌, ◌^◌, ◌<◌, ◌≤◌, true, false, ◌&&◌, ◌||◌, eqb, ◌↔◌, Decides, sym, ap, ◌∙◌, subst, inl, inr, ⊎_elim, arith}
use lib.Bits.{bit_and, bit_or}
use Rattle.std.proofs.lemmas.Bool.{both_ways, and_parts, and_from, or_cases, or_left, or_right, eqb-true, eq-eqb, cases_eq, ne_eqb}
use Rattle.std.proofs.lemmas.Bool.Decides.{Decides-at, Decides-like, Decides-and, Decides-or}
use Rattle.pltl.specs.Truth.{UntilFrom}
use Rattle.pltl.proofs.Positions.{until_weaker}
use Rattle.tables.specs.Rows.{bit}
use Rattle.tables.specs.Words.{In, GoalOrTurn}
use Rattle.tables.proofs.BitTests.{bit_of_and, bit_of_or, bit_shr, bit_inside}
use Rattle.tables.proofs.Sweeps.{Each, Soon, each_more, soon_more, soon_is_until}

module _ (through goal : ℕ) where
  module _ (reached along span : ℕ) (found : (i : ℕ) → Decides (bit reached i) (Soon span (In through) (In goal) i)) (all : (i : ℕ) → Decides (bit along i) (Each span (In through) i)) where
    pub found_doubled : (i : ℕ) → Decides (bit (bit_or reached (bit_and along (reached / 2 ^ span))) i) (Soon (span * 2) (In through) (In goal) i)
    found_doubled i =
        let is : bit (bit_or reached (bit_and along (reached / 2 ^ span))) i ≡ (bit reached i || (bit along i && bit reached (i + span)))
        = bit_of_or reached (bit_and along (reached / 2 ^ span)) i ∙ ap (λ b. bit reached i || b) (bit_of_and along (reached / 2 ^ span) i ∙ ap (λ b. bit along i && b) (bit_shr reached span i)) in
        let e : span + span ≡ span * 2 = omega arith in
        let more = soon_more (In through) (In goal) i span span in
        subst (λ n. Decides (bit (bit_or reached (bit_and along (reached / 2 ^ span))) i) (Soon n (In through) (In goal) i)) e
        (Decides-at _ _ is (Decides-like _ more.1 more.0
        (Decides-or (bit reached i) (bit along i && bit reached (i + span)) (found i) (Decides-and (bit along i) (bit reached (i + span)) (all i) (found (i + span))))))

    pub along_doubled : (i : ℕ) → Decides (bit (bit_and along (along / 2 ^ span)) i) (Each (span * 2) (In through) i)
    along_doubled i =
        let is : bit (bit_and along (along / 2 ^ span)) i ≡ (bit along i && bit along (i + span))
        = bit_of_and along (along / 2 ^ span) i ∙ ap (λ b. bit along i && b) (bit_shr along span i) in
        let e : span + span ≡ span * 2 = omega arith in
        let more = each_more (In through) i span span in
        subst (λ n. Decides (bit (bit_and along (along / 2 ^ span)) i) (Each n (In through) i)) e
        (Decides-at _ _ is (Decides-like _ more.1 more.0 (Decides-and (bit along i) (bit along (i + span)) (all i) (all (i + span)))))

    -- a span of a whole word has found all
    pub found_all : goal < 2 ^ 64 → 64 ≤ span → (i : ℕ) → Decides (bit reached i) (UntilFrom i (In through) (In goal))
    found_all small long i =
        let all_of = soon_is_until (In through) (In goal) i span (λ j b. let in-word : j < 64 = bit_inside goal 64 j small b in omega arith) in
        Decides-like (bit reached i) all_of.0 all_of.1 (found i)

  module _ (len back : ℕ) (some : 0 < len) (swept : ℕ) (from_back : Decides (bit swept back) (UntilFrom back (In through) (In goal))) where
    pub goals_turned : bit swept back ≡ true → (goals : ℕ) → ((k : ℕ) → bit goals k ≡ (bit goal k || (bit through k && eqb k (len - 1)))) → (k : ℕ) → In goals k ↔ GoalOrTurn through goal len back k
    goals_turned t goals is k = (
      λ h. ⊎_elim
          inl
          (λ b.
          let both = and_parts (bit through k) (eqb k (len - 1)) b in
          let e : k ≡ len - 1 = eqb-true k (len - 1) both.1 in
          inr (omega arith, both.0, from_back.0 t))
          (or_cases (bit goal k) (bit through k && eqb k (len - 1)) (sym (is k) ∙ h)),
      ⊎_elim
          (λ g. is k ∙ or_left (bit goal k) _ g)
          (λ h.
          let e : k + 1 ≡ len = h.0 in
          is k ∙ or_right (bit goal k) _ (and_from (bit through k) (eqb k (len - 1)) h.1 (eq-eqb k (len - 1) (omega arith)))),
    )

    pub goals_plain : bit swept back ≡ false → (k : ℕ) → In goal k ↔ GoalOrTurn through goal len back k
    goals_plain f k = (inl, ⊎_elim (λ g. g) (λ h. absurd (both_ways (bit swept back) f (from_back.1 h.2))))

  pub swept_to : (goals w : ℕ) (G : ℕ → Type 0) → ((k : ℕ) → In goals k ↔ G k) → ((i : ℕ) → Decides (bit w i) (UntilFrom i (In through) (In goals))) → (i : ℕ) → Decides (bit w i) (UntilFrom i (In through) G)
  swept_to goals w G same h i =
      Decides-like (bit w i)
      (until_weaker (In through) (In goals) (In through) G (λ k a. a) (λ k. (same k).0) i)
      (until_weaker (In through) G (In through) (In goals) (λ k a. a) (λ k. (same k).1) i) (h i)

-- the bit of the last position, at the position before the next
pub last_bit : (len i : ℕ) → 0 < len → eqb i (len - 1) ≡ eqb (i + 1) len
last_bit len i some = ⊎_elim (λ e. eq-eqb i (len - 1) (omega arith) ∙ sym (eq-eqb (i + 1) len e)) (λ n. ne_eqb i (len - 1) (λ e. n (omega arith)) ∙ sym (ne_eqb (i + 1) len n)) (cases_eq (i + 1) len)
