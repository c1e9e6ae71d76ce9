-- The pass answers a text as `Reads` asks, and `Reads` allows one answer.
use Rattle.std.proofs.Common.{◌≡◌, ℕ, ◌+◌, ◌<◌, eqb, ltb, ◌⊎◌, List, [], ◌∷◌, ◌++◌, length, take, drop, Ok, Err, Result, sym, refl, ap, ◌∙◌, subst, inl, inr, append_assoc, append-nil, add-zero, arith, length-append}
use Rattle.std.proofs.lemmas.List.{take_at, take-take, take-append-drop, length_push}
use Rattle.std.proofs.lemmas.Bool.{cond_both, cond-true, cond-false, eqb-true, eqb-false, ltb-true, ltb-false, eq-eqb, ne_eqb, lt-ltb, le-ltb, cases_order}
use Rattle.pltl.specs.Formulas.{Tree}
use Rattle.texts.specs.declared.faults.TextFault.{TextFault}
use Rattle.texts.specs.declared.faults.TextFault.TheVariants.{Empty, TooLong, Unexpected, Incomplete, Full}
use Rattle.texts.specs.Grammar.{Spells, implication, FormulaText, Begins}
use Rattle.texts.specs.Scan.{State, before, after, arrow, stuck, step, ended, unless_stuck, scan, start, reading}
use Rattle.texts.specs.Reading.{Sized, Reads}
use Rattle.texts.proofs.Passes.{Leads, ◌then◌, Live, unless_live, step_leads, scan_spelled, begun_goes_on}
use Rattle.texts.proofs.Frames.{Valid, step_keeps, begins_part, valid_begins, valid_spells, start_valid}

-- `Says w r`: r is the answer for the text w, whatever its size.
abbrev pub Says : List ℕ → Result Tree TextFault → Type 0
Says w (Ok t) = Spells implication t w
Says w (Err (Unexpected i)) = (i < length w) × Begins (take i w) × (Begins (take (i + 1) w) → ⊥)
Says w (Err (Incomplete n)) = (n ≡ length w) × Begins w × (FormulaText w → ⊥)
Says w (Err _) = ⊥

stuck_or_live : (s : State) → (s ≡ stuck) ⊎ Live s
stuck_or_live stuck = inl refl
stuck_or_live _ = inr tt

unfinished : {s : State} {q : List ℕ} → Live s → Leads start q s → Valid s q → ended (0 + length q) s ≡ Err (Incomplete (0 + length q)) → Says q (Err (Incomplete (length q)))
unfolding scan
unfinished {s = s} {q = q} v l h e = (
  refl,
  valid_begins s q v h,
  λ f.
      let n : ℕ = 0 + length q in
      let spelled : scan 0 start q ≡ Ok f.0 = scan_spelled f.1 in
      let goes : scan 0 start (q ++ []) ≡ ended n s = l.same 0 [] in
      let z : ◌≡◌ {A = ℕ} 0 1 = cc (append-nil q) in omega arith,
)

says_ended : (s : State) (q : List ℕ) → Live s → Leads start q s → Valid s q → Says q (ended (length q) s)
says_ended (before i d c t u fs) q v l h = unfinished v l h refl
says_ended (after i d c t x []) q v l h = valid_spells h
says_ended (after i d c t x (f ∷ fs)) q v l h = unfinished v l h refl
says_ended (arrow i d c t x fs) q v l h = unfinished v l h refl
says_ended stuck q v l h = absurd v

says_scan : (w q : List ℕ) (s : State) → Live s → Leads start q s → Valid s q → Says (q ++ w) (scan (length q) s w)
unfolding scan
says_scan [] q s v l h = rw append-nil (says_ended s q v l h)
says_scan (b ∷ w) q s v l h = elim (stuck_or_live (step s b)) [
  | inl e ↦
      let n : ℕ = length q in
      let here : take n (q ++ b ∷ w) ≡ q = take_at q (b ∷ w) n refl in
      let more : take (n + 1) (q ++ b ∷ w) ≡ q ++ b ∷ [] =
      ap (take (n + 1)) (sym (append_assoc q (b ∷ []) w)) ∙ take_at (q ++ b ∷ []) w (n + 1) (length_push q b) in
      subst (λ z. Says (q ++ b ∷ w) (unless_stuck n z (scan (n + 1) z w))) (sym e)
      (simp length-append (omega arith), subst Begins (sym here) (valid_begins s q v h), λ k. begun_goes_on b l e (subst Begins more k))
  | inr g ↦
      rw (unless_live (length q) (step s b) (scan (length q + 1) (step s b) w) g, ← length_push q b, ← append_assoc q (b ∷ []) w)
      (says_scan w (q ++ b ∷ []) (step s b) g (l then step_leads s b g) (step_keeps s b q h))
]

pub says_scanned : (w : List ℕ) → Says w (scan 0 start w)
says_scanned w = says_scan w [] start tt (record { same = λ n rest. ap (λ m. scan m start rest) (sym (add-zero n)) }) start_valid

begins_take : (n : ℕ) (w : List ℕ) → Begins w → Begins (take n w)
begins_take n w h = begins_part (take n w) (drop n w) (rw take-append-drop h)

begins_earlier : (i j : ℕ) (w : List ℕ) → i < j → Begins (take j w) → Begins (take (i + 1) w)
begins_earlier i j w l h = rw (← take-take (i + 1) j w (omega arith)) (begins_take (i + 1) (take j w) h)

text_begins : {w : List ℕ} → FormulaText w → Begins w
text_begins f = ([], (f.0, rw append-nil f.1))

module _ (w : List ℕ) (i : ℕ) (here : Begins (take i w)) (over : Begins (take (i + 1) w) → ⊥) where
  only_unexpected : (r : Result Tree TextFault) → Says w r → r ≡ Err (Unexpected i)
  only_unexpected (Ok t) h = absurd (over (begins_take (i + 1) w (text_begins (t, h))))
  only_unexpected (Err (Unexpected j)) h = elim (cases_order i j) [
    | inl e ↦ ap (λ n. Err (Unexpected n)) (sym e)
    | inr (inl l) ↦ absurd (over (begins_earlier i j w l h.1))
    | inr (inr l) ↦ absurd (h.2 (begins_earlier j i w l here))
  ]
  only_unexpected (Err (Incomplete n)) h = absurd (over (begins_take (i + 1) w h.1))
  only_unexpected (Err _) h = absurd h

module _ (w : List ℕ) (begun : Begins w) (none : FormulaText w → ⊥) where
  only_incomplete : (r : Result Tree TextFault) → Says w r → r ≡ Err (Incomplete (length w))
  only_incomplete (Ok t) h = absurd (none (t, h))
  only_incomplete (Err (Unexpected j)) h = absurd (h.2 (begins_take (j + 1) w begun))
  only_incomplete (Err (Incomplete n)) h = ap (λ m. Err (Incomplete m)) h.0
  only_incomplete (Err _) h = absurd h

pub sized_reading : (w : List ℕ) → Sized w → reading w ≡ scan 0 start w
unfolding reading
sized_reading w h =
    cond-false (eqb (length w) 0) _ _ (ne_eqb (length w) 0 (λ e. omega (arith, h.0))) ∙ cond-false (ltb 512 (length w)) _ _ (le-ltb 512 (length w) h.1)

reads_said : (w : List ℕ) (r : Result Tree TextFault) → Sized w → Says w r → Reads w r
reads_said w (Ok t) z h = (z, h)
reads_said w (Err (Unexpected i)) z h = (z, h.0, h.1, h.2)
reads_said w (Err (Incomplete n)) z h = (z, h.0, h.1, h.2)
reads_said w (Err _) z h = absurd h

pub reads_reading : (w : List ℕ) → Reads w (reading w)
unfolding reading
reads_reading w = cond_both (eqb (length w) 0) _ _ (Reads w) (eqb-true (length w) 0) (λ f.
    cond_both (ltb 512 (length w)) _ _ (Reads w) (ltb-true 512 (length w)) (λ g.
    reads_said w (scan 0 start w) (omega (arith, eqb-false (length w) 0 f), ltb-false 512 (length w) g) (says_scanned w)))

pub reads_as_reading : (w : List ℕ) (r : Result Tree TextFault) → Reads w r → reading w ≡ r
unfolding reading
reads_as_reading w (Ok t) h = sized_reading w h.0 ∙ scan_spelled h.1
reads_as_reading w (Err Empty) h = cond-true (eqb (length w) 0) _ _ (eq-eqb (length w) 0 h)
reads_as_reading w (Err TooLong) h =
    cond-false (eqb (length w) 0) _ _ (ne_eqb (length w) 0 (λ e. omega arith)) ∙ cond-true (ltb 512 (length w)) _ _ (lt-ltb 512 (length w) h)
reads_as_reading w (Err (Unexpected i)) h = sized_reading w h.0 ∙ only_unexpected w i h.2 h.3 _ (says_scanned w)
reads_as_reading w (Err (Incomplete n)) h =
    sized_reading w h.0 ∙ only_incomplete w h.2 h.3 _ (says_scanned w) ∙ ap (λ m. Err (Incomplete m)) (sym h.1)
reads_as_reading w (Err Full) h = absurd h

pub reads_once : (w : List ℕ) (r s : Result Tree TextFault) → Reads w r → Reads w s → r ≡ s
reads_once w r s g h = sym (reads_as_reading w r g) ∙ reads_as_reading w s h
