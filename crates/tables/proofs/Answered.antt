-- What a text that was read is answered. Assumes nothing.
use Rattle.std.proofs.Common.{◌≡◌, ℕ, ◌%◌, ◌<◌, ◌≤◌, ltb, List, length, Ok, Err, Result, sym, refl, ap, ◌∙◌, subst, ⊎_elim, arith}
use Rattle.std.proofs.lemmas.Bool.{cases_Bool, cond-true, cond-false, lt-ltb, le-ltb}
use Rattle.pltl.specs.Formulas.{Tree, Formula}
use Rattle.texts.specs.declared.faults.TextFault.{TextFault}
use Rattle.texts.specs.declared.faults.TextFault.TheVariants.{Full}
use Rattle.texts.specs.Scan.{reading}
use Rattle.tables.specs.declared.number.Number.{Number}
use Rattle.tables.specs.declared.table.entering.Form.{Form}
use Rattle.tables.specs.Answers.{entry, answer_read, after_read, answer, after}
use Rattle.tables.specs.Entering.{place, enter}
use Rattle.tables.specs.Listing.{Lawful}
use Rattle.tables.specs.Steps.{Names}
use Rattle.tables.proofs.Laws.{place_is}

module _ (fs : List Formula) (m : Form) (w : List ℕ) (t : Tree) (read : Ok t ≡ reading w) where
  pub full_answer : 512 < length (enter fs (entry m t)) → (Err Full ≡ answer fs m w) × (fs ≡ after fs m w)
  full_answer h =
      let e = lt-ltb 512 _ h in
      (sym (cond-true _ _ _ e) ∙ ap (answer_read fs m) read, sym (cond-true _ _ _ e) ∙ ap (after_read fs m) read)

  pub taken_answer : (gs : List Formula) (n : Number) → gs ≡ enter fs (entry m t) → length gs ≤ 512 → Lawful gs → length gs % 2 ≡ 0 → Names gs n (entry m t) → (Ok n.0 ≡ answer fs m w) × (gs ≡ after fs m w)
  taken_answer gs n is few law even named =
      let e = le-ltb 512 (length (enter fs (entry m t))) (subst (λ l. length l ≤ 512) is few) in
      let at : place (enter fs (entry m t)) (entry m t) ≡ n.0 = ap (λ l. place l (entry m t)) (sym is) ∙ place_is gs law even (entry m t) n.0 named.0 named.1 in
      (ap Ok (sym at) ∙ sym (cond-false _ _ _ e) ∙ ap (answer_read fs m) read, is ∙ sym (cond-false _ _ _ e) ∙ ap (after_read fs m) read)

after_read_refused : (fs : List Formula) (m : Form) (x : Result Tree TextFault) (f : TextFault) → Err f ≡ answer_read fs m x → after_read fs m x ≡ fs
after_read_refused fs m (Ok t) f e =
    ⊎_elim
    (λ b. cond-true _ _ _ b)
    (λ b. let z : ◌≡◌ {A = ℕ} 0 1 = cc (cond-false {A = Result ℕ TextFault} (ltb 512 (length (enter fs (entry m t)))) (Err Full) (Ok (place (enter fs (entry m t)) (entry m t))) b) in absurd (omega arith))
    (cases_Bool (ltb 512 (length (enter fs (entry m t)))))
after_read_refused fs m (Err g) f e = refl

-- a refused text leaves the formulas as they were
pub after_refused : (fs : List Formula) (m : Form) (w : List ℕ) (f : TextFault) → Err f ≡ answer fs m w → after fs m w ≡ fs
after_refused fs m w f e = after_read_refused fs m (reading w) f e
