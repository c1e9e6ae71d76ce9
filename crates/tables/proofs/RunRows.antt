-- Rows on a looping run, sign by sign. Assumes nothing.
use Rattle.std.proofs.Common.{◌≡◌, ℕ, ◌+◌, ◌-◌, ◌^◌, ◌<◌, true, false, not, ◌&&◌, ◌||◌, eqb, ltb, ◌↔◌, List, length, get_or, Decides, sym, ap, ◌∙◌, subst, ⊎_elim, arith}
use Rattle.std.proofs.lemmas.Bool.{cases_Bool, both_ways}
use Rattle.pltl.specs.Formulas.{Formula}
use Rattle.pltl.specs.Formulas as formula
use Rattle.pltl.specs.Runs.{Run, endless, no_letters}
use Rattle.pltl.specs.Truth.{Holds, UntilFrom}
use Rattle.pltl.proofs.Carried.{periodic}
use Rattle.pltl.proofs.Decisions.{decided}
use Rattle.pltl.proofs.Loops.{position_within}
use Rattle.pltl.proofs.Positions.{Not, Again, not_again}
use Rattle.tables.specs.Rows.{bit, recorded, RowOf}
use Rattle.tables.specs.Words.{In, GoalOrTurn}
use Rattle.tables.proofs.BitTests.{bit_inside}
use Rattle.tables.proofs.RecordedStates.{length_recorded, recorded_at}
use Rattle.tables.proofs.RowSigns.{Marks, marks_like, marks_all, marks_not, marks_next, marks_until, until_all_is_some, never_not_is_every}

abbrev Always_true : ℕ → Type 0
Always_true _ = Unit {0}

module _ (r : Run) (len back : ℕ) (long : length r.states ≡ len) (turn : r.back ≡ back) where
  inside : back < len
  inside = omega (arith, r.within)

  to : (P : ℕ → Type 0) (w : ℕ) → Marks (length r.states) P w → Marks len P w
  to P w = subst (λ n. Marks n P w) long

  from : (P : ℕ → Type 0) (w : ℕ) → Marks len P w → Marks (length r.states) P w
  from P w = subst (λ n. Marks n P w) (sym long)

  again : (f : Formula) → Again back (len - back) (Holds (endless r) f)
  again f = subst (λ n. Again back (n - back) (Holds (endless r) f)) long (subst (λ k. Again k (length r.states - k) (Holds (endless r) f)) turn (periodic r f))

  pub row_isn't : (p v u : ℕ) → RowOf r (formula.Is p) v → ((i : ℕ) → bit u i ≡ (ltb i len && not (bit v i))) → RowOf r (formula.Isn't p) u
  row_isn't p v u row is =
      let P : ℕ → Type 0 = λ i. endless r i p ≡ true in
      let Q : ℕ → Type 0 = λ i. endless r i p ≡ false in
      from Q u
      (marks_like len (Not P) Q u
      (λ i lt. (λ no. ⊎_elim (λ t. absurd (no t)) (λ f. f) (cases_Bool (endless r i p)), both_ways (endless r i p)))
      (marks_not len P v u (to P v row) is))

  pub row_next : (a : Formula) (v u : ℕ) → RowOf r a v → ((i : ℕ) → bit u i ≡ (bit v (i + 1) || (eqb (i + 1) len && bit v back))) → RowOf r (formula.Next a) u
  row_next a v u row is =
      let A = Holds (endless r) a in
      let end : back + (len - back) ≡ len = omega (arith, inside) in
      let at_turn : A back ↔ A len = subst (λ k. A back ↔ A k) end (again a back (omega arith)) in
      from (λ i. A (i + 1)) u (marks_next len back inside A v u at_turn (to A v row) is)

  pub row_until : (a b : Formula) (v w u : ℕ) → RowOf r a v → RowOf r b w → ((i : ℕ) → Decides (bit u i) (UntilFrom i (In v) (GoalOrTurn v w len back))) → RowOf r (formula.Until a b) u
  row_until a b v w u row-a row-b is =
      let A = Holds (endless r) a in
      let B = Holds (endless r) b in
      from (λ i. UntilFrom i A B) u (marks_until len back inside A B (again a) (again b) v w u (to A v row-a) (to B w row-b) is)

  pub row_eventually : (a : Formula) (all v u : ℕ) → ((i : ℕ) → bit all i ≡ ltb i len) → RowOf r a v → ((i : ℕ) → Decides (bit u i) (UntilFrom i (In all) (GoalOrTurn all v len back))) → RowOf r (formula.Eventually a) u
  row_eventually a all v u whole row is =
      let A = Holds (endless r) a in
      from (Holds (endless r) (formula.Eventually a)) u
      (marks_like len (λ i. UntilFrom i Always_true A) (Holds (endless r) (formula.Eventually a)) u (λ i lt. until_all_is_some A i)
      (marks_until len back inside Always_true A (λ k le. (λ t. t, λ t. t)) (again a) all v u (marks_all len all whole) (to A v row) is))

  -- the complement of a row, and of what the complement leads to
  pub row_always : (a : Formula) (all v not-v u not-u : ℕ) → ((i : ℕ) → bit all i ≡ ltb i len) → RowOf r a v → ((i : ℕ) → bit not-v i ≡ (ltb i len && not (bit v i))) →
      ((i : ℕ) → Decides (bit u i) (UntilFrom i (In all) (GoalOrTurn all not-v len back))) → ((i : ℕ) → bit not-u i ≡ (ltb i len && not (bit u i))) → RowOf r (formula.Always a) not-u
  row_always a all v not-v u not-u whole row is-not is is-not-u =
      let A = Holds (endless r) a in
      let U : ℕ → Type 0 = λ i. UntilFrom i Always_true (Not A) in
      from (Holds (endless r) (formula.Always a)) not-u
      (marks_like len (Not U) (Holds (endless r) (formula.Always a)) not-u (λ i lt. never_not_is_every A (decided r a) i)
      (marks_not len U u not-u
      (marks_until len back inside Always_true (Not A) (λ k le. (λ t. t, λ t. t)) (not_again back (len - back) A (again a)) all not-v u (marks_all len all whole) (marks_not len A v not-v (to A v row) is-not) is)
      is-not-u))

  pub row_release : (a b : Formula) (v w not-v not-w u not-u : ℕ) → RowOf r a v → RowOf r b w → ((i : ℕ) → bit not-v i ≡ (ltb i len && not (bit v i))) → ((i : ℕ) → bit not-w i ≡ (ltb i len && not (bit w i))) →
      ((i : ℕ) → Decides (bit u i) (UntilFrom i (In not-v) (GoalOrTurn not-v not-w len back))) → ((i : ℕ) → bit not-u i ≡ (ltb i len && not (bit u i))) → RowOf r (formula.Release a b) not-u
  row_release a b v w not-v not-w u not-u row-a row-b is-v is-w is is-u =
      let A = Holds (endless r) a in
      let B = Holds (endless r) b in
      let U : ℕ → Type 0 = λ i. UntilFrom i (Not A) (Not B) in
      from (Not U) not-u
      (marks_not len U u not-u
      (marks_until len back inside (Not A) (Not B) (not_again back (len - back) A (again a)) (not_again back (len - back) B (again b)) not-v not-w u
      (marks_not len A v not-v (to A v row-a) is-v) (marks_not len B w not-w (to B w row-b) is-w) is)
      is-u)

-- the word of a letter
pub row_is : (r : Run) (ws : List ℕ) (n p : ℕ) → r.states ≡ recorded ws n → get_or ws p 0 < 2 ^ n → RowOf r (formula.Is p) (get_or ws p 0)
row_is r ws n p is clean i =
    let long : length r.states ≡ n = ap length is ∙ length_recorded ws n in
    let at : i < n → endless r i p ≡ bit (get_or ws p 0) i = λ lt.
    ap (λ k. get_or r.states k no_letters p) (position_within r i (omega arith)) ∙ ap (λ l. get_or l i no_letters p) is ∙ ap (λ s. s p) (recorded_at ws n i lt) in (
      λ b. let lt = bit_inside (get_or ws p 0) n i clean b in (omega arith, at lt ∙ b),
      λ lt h. sym (at (omega arith)) ∙ h,
    )
