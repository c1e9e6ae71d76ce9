-- What reading a spelled part does to the pass, level by level; so a text that spells a tree is answered with
-- that tree, and spells no other.
use Rattle.std.proofs.Common.{◌≡◌, ℕ, ◌+◌, ◌<◌, List, [], ◌∷◌, ◌++◌, length, Ok, Err, codes, Result, sym, refl, ap, ◌∙◌, subst, append_assoc, append-nil, arith, length-append}
use Rattle.std.proofs.lemmas.Bool.Decides.{nat_tests}
use Rattle.pltl.specs.Formulas.{Tree, letter, not, next, always, eventually, until, release, and, or, implies}
use Rattle.texts.specs.declared.Sign.TheVariants.{Letter}
use Rattle.texts.specs.declared.faults.TextFault.{TextFault}
use Rattle.texts.specs.declared.faults.TextFault.TheVariants.{Unexpected}
use Rattle.texts.specs.Signs.{sign_of}
use Rattle.texts.specs.Grammar
use Rattle.texts.specs.Grammar.{Level, implication, disjunction, conjunction, temporal, unary, Spells, Begins}
use Rattle.texts.specs.Scan.{Pending, nothing, Frame, State, before, after, stuck, step, step_before, unless_stuck, scan, start}

-- The bytes w lead the pass from s to z, whatever follows them.
pub record Leads (s : State) (w : List ℕ) (z : State) : Type 0 where
  pub same : (n : ℕ) (rest : List ℕ) → scan n s (w ++ rest) ≡ scan (n + length w) z rest

infixr 5 ◌then◌
pub ◌then◌ : {s y z : State} {v w : List ℕ} → Leads s v y → Leads y w z → Leads s (v ++ w) z
◌then◌ {s = s} {z = z} {v = v} {w = w} f g = record {
  same = λ n rest.
      let e : n + length v + length w ≡ n + length (v ++ w) = omega (arith, length-append v w) in
      ap (scan n s) (append_assoc v w rest) ∙ f.same n (w ++ rest) ∙ g.same (n + length v) rest ∙ ap (λ m. scan m z rest) e;
}

abbrev pub Live : State → Type 0
Live stuck = ⊥
Live _ = Unit

pub unless_live : (n : ℕ) (s : State) (r : Result Tree TextFault) → Live s → unless_stuck n s r ≡ r
unless_live n stuck r h = absurd h
unless_live n _ r h = refl

pub step_leads : (s : State) (b : ℕ) → Live (step s b) → Leads s (b ∷ []) (step s b)
unfolding scan
step_leads s b h = record { same = λ n rest. unless_live n (step s b) (scan (n + 1) (step s b) rest) h }

pub sign_letter : (k : ℕ) → k < 26 → sign_of (97 + k) ≡ Letter k
unfolding sign_of
sign_letter k h = grind (arith, nat_tests)

-- What reading a spelled part does to the pass: what is pending is still pending, or stands in the tree v.
abbrev pub Through : Level → Tree → List ℕ → Type 0
Through unary t w = (i d c k u : Pending) (fs : List Frame) → Leads (before i d c k u fs) w (after i d c k (u t) fs)
Through temporal t w = (i d c k : Pending) (fs : List Frame) →
    (k' : Pending) × (v : Tree) × (k' v ≡ k t) × Leads (before i d c k nothing fs) w (after i d c k' v fs)
Through conjunction t w = (i d c : Pending) (fs : List Frame) →
    (c' : Pending) × (k' : Pending) × (v : Tree) × (c' (k' v) ≡ c t) × Leads (before i d c nothing nothing fs) w (after i d c' k' v fs)
Through disjunction t w = (i d : Pending) (fs : List Frame) →
    (d' : Pending) × (c' : Pending) × (k' : Pending) × (v : Tree) × (d' (c' (k' v)) ≡ d t) × Leads (before i d nothing nothing nothing fs) w (after i d' c' k' v fs)
Through implication t w = (i : Pending) (fs : List Frame) →
    (i' : Pending) × (d' : Pending) × (c' : Pending) × (k' : Pending) × (v : Tree) × (i' (d' (c' (k' v))) ≡ i t) × Leads (before i nothing nothing nothing nothing fs) w (after i' d' c' k' v fs)

letter_leads : (k : ℕ) → k < 26 → Through unary (letter k) ((97 + k) ∷ [])
unfolding step
letter_leads k h i d c t u fs =
    let e : step (before i d c t u fs) (97 + k) ≡ after i d c t (u (letter k)) fs = ap (step_before i d c t u fs) (sign_letter k h) in
    subst (Leads _ _) e (step_leads _ (97 + k) (subst Live (sym e) tt))

pub through : {l : Level} {t : Tree} {w : List ℕ} → Spells l t w → Through l t w
unfolding step sign_of
through (Grammar.disjunction_alone h) = λ i fs.
    let r = through h i nothing fs in
    (i, r.0, r.1, r.2, r.3, ap i r.4, r.5)
through (Grammar.implies_text {b = b} g h) = λ i fs.
    let l = through g i nothing fs in
    let r = through h (λ x. i (implies (l.0 (l.1 (l.2 l.3))) x)) fs in
    (r.0, r.1, r.2, r.3, r.4, r.5 ∙ ap (λ x. i (implies x b)) l.4, l.5 then step_leads _ 45 tt then step_leads _ 62 tt then r.6)
through (Grammar.conjunction_alone h) = λ i d fs.
    let r = through h i d nothing fs in
    (d, r.0, r.1, r.2, ap d r.3, r.4)
through (Grammar.or_text {b = b} g h) = λ i d fs.
    let l = through g i d nothing fs in
    let r = through h i (λ x. d (or (l.0 (l.1 l.2)) x)) fs in
    (r.0, r.1, r.2, r.3, r.4 ∙ ap (λ x. d (or x b)) l.3, l.4 then step_leads _ 124 tt then r.5)
through (Grammar.temporal_alone h) = λ i d c fs.
    let r = through h i d c nothing fs in
    (c, r.0, r.1, ap c r.2, r.3)
through (Grammar.and_text {b = b} g h) = λ i d c fs.
    let l = through g i d c nothing fs in
    let r = through h i d (λ x. c (and (l.0 l.1) x)) fs in
    (r.0, r.1, r.2, r.3 ∙ ap (λ x. c (and x b)) l.2, l.3 then step_leads _ 38 tt then r.4)
through (Grammar.unary_alone {t = t} h) = λ i d c k fs. (k, t, refl, through h i d c k nothing fs)
through (Grammar.until_text {a = a} g h) = λ i d c k fs.
    let r = through h i d c (λ x. k (until a x)) fs in
    (r.0, r.1, r.2, through g i d c k nothing fs then step_leads _ 85 tt then r.3)
through (Grammar.release_text {a = a} g h) = λ i d c k fs.
    let r = through h i d c (λ x. k (release a x)) fs in
    (r.0, r.1, r.2, through g i d c k nothing fs then step_leads _ 82 tt then r.3)
through (Grammar.not_text h) = λ i d c k u fs. step_leads _ 33 tt then through h i d c k (λ x. u (not x)) fs
through (Grammar.next_text h) = λ i d c k u fs. step_leads _ 88 tt then through h i d c k (λ x. u (next x)) fs
through (Grammar.always_text h) = λ i d c k u fs. step_leads _ 71 tt then through h i d c k (λ x. u (always x)) fs
through (Grammar.eventually_text h) = λ i d c k u fs. step_leads _ 70 tt then through h i d c k (λ x. u (eventually x)) fs
through (Grammar.letter_text k h) = letter_leads k h
through Grammar.one_text = λ i d c k u fs. step_leads _ 49 tt
through Grammar.zero_text = λ i d c k u fs. step_leads _ 48 tt
through (Grammar.bracket_text {t = t} {w = w} h) = λ i d c k u fs.
    let r = through h nothing (record { implication = i; disjunction = d; conjunction = c; temporal = k; unary = u } ∷ fs) in
    subst (λ x. Leads (before i d c k u fs) (40 ∷ (w ++ codes ")")) (after i d c k (u x) fs)) r.5 (step_leads _ 40 tt then r.6 then step_leads _ 41 tt)

-- A text that spells a tree is answered with it.
pub scan_spelled : {t : Tree} {w : List ℕ} → Spells implication t w → scan 0 start w ≡ Ok t
unfolding scan
scan_spelled {w = w} h =
    let r = through h nothing [] in
    ap (scan 0 start) (sym (append-nil w)) ∙ r.6.same 0 [] ∙ ap Ok r.5

pub one_tree : {a b : Tree} {w : List ℕ} → Spells implication a w → Spells implication b w → a ≡ b
one_tree g h = cc (scan_spelled g, scan_spelled h)

-- No formula text begins with bytes at whose last the pass is stuck.
pub begun_goes_on : {s : State} {q : List ℕ} (b : ℕ) → Leads start q s → step s b ≡ stuck → Begins (q ++ b ∷ []) → ⊥
unfolding scan
begun_goes_on {s = s} {q = q} b l e h =
    let rest : List ℕ = h.0 in
    let t : Tree = h.1.0 in
    let n : ℕ = 0 + length q in
    let spelled : scan 0 start ((q ++ b ∷ []) ++ rest) ≡ Ok t = scan_spelled h.1.1 in
    let goes : scan 0 start (q ++ (b ∷ rest)) ≡ scan n s (b ∷ rest) = l.same 0 (b ∷ rest) in
    let ends : scan n s (b ∷ rest) ≡ Err (Unexpected n) = ap (λ z. unless_stuck n z (scan (n + 1) z rest)) e in
    let z : ◌≡◌ {A = ℕ} 0 1 = cc (append_assoc q (b ∷ []) rest) in omega arith
