-- What the state of the pass says of the bytes read so far: they begin a formula text unless the pass is
-- stuck, and are one if it could end here.
use Rattle.std.proofs.Common.{◌≡◌, ℕ, ◌+◌, ◌<◌, cond, eqb, leb, List, [], ◌∷◌, ◌++◌, codes, sym, refl, ap, ◌∙◌, subst, append_assoc, append-nil, arith}
use Rattle.std.proofs.lemmas.Bool.{cond_both, eqb-true, leb-true, and_parts}
use Rattle.pltl.specs.Formulas.{Tree, not, next, always, eventually, until, release, and, or, implies}
use Rattle.texts.specs.declared.Sign.{Sign}
use Rattle.texts.specs.declared.Sign.TheVariants.{Not, Next, Always, Eventually, Until, Release, And, Or, Minus, Greater, Open, Close, One, Zero, Letter, Other}
use Rattle.texts.specs.Signs.{sign_of}
use Rattle.texts.specs.Grammar.{Level, implication, disjunction, conjunction, temporal, unary, Spells, Begins, disjunction_alone, implies_text, conjunction_alone, or_text, temporal_alone, and_text, unary_alone, until_text, release_text, not_text, next_text, always_text, eventually_text, letter_text, one_text, zero_text, bracket_text}
use Rattle.texts.specs.Scan.{Pending, nothing, Frame, State, before, after, arrow, stuck, close, step, step_before, step_after, step_arrow, start}
use Rattle.texts.proofs.Passes.{Live}

-- `Stands g b`: the byte b is one that the sign g stands for.
abbrev pub Stands : Sign → ℕ → Type 0
Stands Not b = b ≡ 33
Stands Next b = b ≡ 88
Stands Always b = b ≡ 71
Stands Eventually b = b ≡ 70
Stands Until b = b ≡ 85
Stands Release b = b ≡ 82
Stands And b = b ≡ 38
Stands Or b = b ≡ 124
Stands Minus b = b ≡ 45
Stands Greater b = b ≡ 62
Stands Open b = b ≡ 40
Stands Close b = b ≡ 41
Stands One b = b ≡ 49
Stands Zero b = b ≡ 48
Stands (Letter k) b = (b ≡ 97 + k) × (k < 26)
Stands Other b = Unit

stands_or : (b n : ℕ) (g h : Sign) → (b ≡ n → Stands g b) → Stands h b → Stands (cond (eqb b n) g h) b
stands_or b n g h x y = cond_both (eqb b n) g h (λ z. Stands z b) (λ e. x (eqb-true b n e)) (λ _. y)

pub sign_stands : (b : ℕ) → Stands (sign_of b) b
unfolding sign_of
sign_stands b =
    stands_or b 33 Not _ (λ e. e) (stands_or b 88 Next _ (λ e. e) (stands_or b 71 Always _ (λ e. e) (stands_or b 70 Eventually _ (λ e. e)
    (stands_or b 85 Until _ (λ e. e) (stands_or b 82 Release _ (λ e. e) (stands_or b 38 And _ (λ e. e) (stands_or b 124 Or _ (λ e. e)
    (stands_or b 45 Minus _ (λ e. e) (stands_or b 62 Greater _ (λ e. e) (stands_or b 40 Open _ (λ e. e) (stands_or b 41 Close _ (λ e. e)
    (stands_or b 49 One _ (λ e. e) (stands_or b 48 Zero _ (λ e. e)
    (cond_both _ _ Other (λ z. Stands z b) (λ e. let p = and_parts (leb 97 b) (leb b 122) e in
    (omega (arith, leb-true 97 b p.0), omega (arith, leb-true 97 b p.0, leb-true b 122 p.1))) (λ _. tt)))))))))))))))

-- `Keeps l k p`: with the bytes p in front, what spells a tree at level l spells k of it.
abbrev pub Keeps : Level → Pending → List ℕ → Type 0
Keeps l k p = (t : Tree) (w : List ℕ) → Spells l t w → Spells l (k t) (p ++ w)

-- The bytes q end in some that keep level l by k, or that spell the tree v at it, behind bytes with S.
pub record Behind (S : List ℕ → Type 0) (l : Level) (k : Pending) (q : List ℕ) : Type 0 where
  pub front : List ℕ
  pub bytes : List ℕ
  pub holds : S front
  pub keeps : Keeps l k bytes
  pub split : q ≡ front ++ bytes

pub record Ends (S : List ℕ → Type 0) (l : Level) (v : Tree) (q : List ℕ) : Type 0 where
  pub front : List ℕ
  pub bytes : List ℕ
  pub holds : S front
  pub spells : Spells l v bytes
  pub split : q ≡ front ++ bytes

begin : {S : List ℕ → Type 0} {q : List ℕ} (l : Level) → S q → Behind S l nothing q
begin {q = q} l h = record { front = q; bytes = []; holds = h; keeps = λ t w s. s; split = sym (append-nil q) }

-- a one-sided sign
more : {S : List ℕ → Type 0} {l : Level} {k : Pending} {q : List ℕ} (g : Pending) (m : List ℕ) → Keeps l g m → Behind S l k q → Behind S l (λ x. k (g x)) (q ++ m)
more {l = l} {k = k} g m h b = record {
  front = b.front;
  bytes = b.bytes ++ m;
  holds = b.holds;
  keeps = λ t w s. rw append_assoc (b.keeps (g t) (m ++ w) (h t w s));
  split = ap (λ x. x ++ m) b.split ∙ append_assoc b.front b.bytes m;
}

-- the tree that was to come
fill : {S : List ℕ → Type 0} {l : Level} {k : Pending} {q : List ℕ} {v : Tree} {m : List ℕ} → Behind S l k q → Spells l v m → Ends S l (k v) (q ++ m)
fill {v = v} {m = m} b h = record {
  front = b.front;
  bytes = b.bytes ++ m;
  holds = b.holds;
  spells = b.keeps v m h;
  split = ap (λ x. x ++ m) b.split ∙ append_assoc b.front b.bytes m;
}

-- a level looser by itself, or after what is pending there
looser : {S : List ℕ → Type 0} {k : Pending} {l n : Level} {v : Tree} {q : List ℕ} →
    ((w : List ℕ) → Spells n v w → Spells l v w) → Ends (Behind S l k) n v q → Ends S l (k v) q
looser {S = S} {k = k} {l = l} {v = v} f b = subst (Ends S l (k v)) (sym b.split) (fill b.holds (f b.bytes b.spells))

-- a two-sided sign, whose left side ends here
left : {S : List ℕ → Type 0} {k : Pending} {l n : Level} {v : Tree} {q : List ℕ} (g : Pending) (m : List ℕ) →
    ((x : Tree) (e w : List ℕ) → Spells n v e → Spells l x w → Spells l (g x) (e ++ (m ++ w))) →
    Ends (Behind S l k) n v q → Behind S l (λ x. k (g x)) (q ++ m)
left {S = S} {k = k} {l = l} g m f b =
    subst (Behind S l (λ x. k (g x))) (sym (append_assoc b.front b.bytes m) ∙ ap (λ x. x ++ m) (sym b.split))
    (more g (b.bytes ++ m) (λ t w h. rw append_assoc (f t b.bytes w b.spells h)) b.holds)

-- The bytes behind what is pending at the four levels above unary.
abbrev pub Row : (List ℕ → Type 0) → Pending → Pending → Pending → Pending → List ℕ → Type 0
Row S i d c t = Behind (Behind (Behind (Behind S implication i) disjunction d) conjunction c) temporal t

-- The bytes up to the innermost open bracket.
abbrev pub Stack : List Frame → List ℕ → Type 0
Stack [] p = p ≡ []
Stack (f ∷ fs) p = (q : List ℕ) × Behind (Row (Stack fs) f.implication f.disjunction f.conjunction f.temporal) unary f.unary q × (p ≡ q ++ codes "(")

-- `Valid s q`: the state s fits the bytes q read so far.
abbrev pub Valid : State → List ℕ → Type 0
Valid (before i d c t u fs) q = Behind (Row (Stack fs) i d c t) unary u q
Valid (after i d c t v fs) q = Ends (Row (Stack fs) i d c t) unary v q
Valid (arrow i d c t v fs) q = (p : List ℕ) × Ends (Row (Stack fs) i d c t) unary v p × (q ≡ p ++ codes "-")
Valid stuck q = Unit

-- nothing is pending but at implication
only : {S : List ℕ → Type 0} {i : Pending} {q : List ℕ} → Behind S implication i q → Behind (Row S i nothing nothing nothing) unary nothing q
only h = begin unary (begin temporal (begin conjunction (begin disjunction h)))

-- A unary spells, with all that is pending, at every level.
module _ {S : List ℕ → Type 0} {i d c t : Pending} {v : Tree} {q : List ℕ} (h : Ends (Row S i d c t) unary v q) where
  at_temporal : Ends (Behind (Behind (Behind S implication i) disjunction d) conjunction c) temporal (t v) q
  at_temporal = looser (λ w. unary_alone) h

  at_conjunction : Ends (Behind (Behind S implication i) disjunction d) conjunction (c (t v)) q
  at_conjunction = looser (λ w. temporal_alone) at_temporal

  at_disjunction : Ends (Behind S implication i) disjunction (d (c (t v))) q
  at_disjunction = looser (λ w. conjunction_alone) at_conjunction

  at_implication : Ends S implication (i (d (c (t v)))) q
  at_implication = looser (λ w. disjunction_alone) at_disjunction

closed : {v : Tree} {q : List ℕ} (f : Frame) (fs : List Frame) → Ends (Stack (f ∷ fs)) implication v q →
    Ends (Row (Stack fs) f.implication f.disjunction f.conjunction f.temporal) unary (f.unary v) (q ++ codes ")")
closed {v = v} {q = q} f fs h =
    let o : List ℕ = h.holds.0 in
    let w : List ℕ = h.bytes in
    let e : o ++ (codes "(" ++ (w ++ codes ")")) ≡ q ++ codes ")" = rw (h.split, h.holds.2) (simp append_assoc) in
    subst (Ends (Row (Stack fs) f.implication f.disjunction f.conjunction f.temporal) unary (f.unary v)) e (fill h.holds.1 (bracket_text h.spells))

close_keeps : {i d c t : Pending} {v : Tree} {q : List ℕ} (fs : List Frame) → Valid (after i d c t v fs) q → Valid (close i d c t v fs) (q ++ codes ")")
close_keeps [] h = tt
close_keeps (f ∷ fs) h = closed f fs (at_implication h)

module _ {i d c t : Pending} {q : List ℕ} (fs : List Frame) (b : ℕ) where
  before_keeps : {u : Pending} (g : Sign) → Stands g b → Valid (before i d c t u fs) q → Valid (step_before i d c t u fs g) (q ++ b ∷ [])
  before_keeps Not e h = rw e (more not (codes "!") (λ t w s. not_text s) h)
  before_keeps Next e h = rw e (more next (codes "X") (λ t w s. next_text s) h)
  before_keeps Always e h = rw e (more always (codes "G") (λ t w s. always_text s) h)
  before_keeps Eventually e h = rw e (more eventually (codes "F") (λ t w s. eventually_text s) h)
  before_keeps Open e h = only (begin implication (q, h, ap (λ x. q ++ x ∷ []) e))
  before_keeps One e h = rw e (fill h one_text)
  before_keeps Zero e h = rw e (fill h zero_text)
  before_keeps (Letter k) e h = rw e.0 (fill h (letter_text k e.1))
  before_keeps _ e h = tt

  after_keeps : {v : Tree} (g : Sign) → Stands g b → Valid (after i d c t v fs) q → Valid (step_after i d c t v fs g) (q ++ b ∷ [])
  after_keeps {v = v} Until e h = rw e (begin unary (left (until v) (codes "U") (λ x e w. until_text) h))
  after_keeps {v = v} Release e h = rw e (begin unary (left (release v) (codes "R") (λ x e w. release_text) h))
  after_keeps {v = v} And e h = rw e (begin unary (begin temporal (left (and (t v)) (codes "&") (λ x e w. and_text) (at_temporal h))))
  after_keeps {v = v} Or e h = rw e (begin unary (begin temporal (begin conjunction (left (or (c (t v))) (codes "|") (λ x e w. or_text) (at_conjunction h)))))
  after_keeps Minus e h = (q, h, ap (λ x. q ++ x ∷ []) e)
  after_keeps Close e h = rw e (close_keeps fs h)
  after_keeps _ e h = tt

  arrow_keeps : {v : Tree} (g : Sign) → Stands g b → Valid (arrow i d c t v fs) q → Valid (step_arrow i d c t v fs g) (q ++ b ∷ [])
  arrow_keeps {v = v} Greater e h = rw (e, h.2, append_assoc)
      (only (left (implies (d (c (t v)))) (codes "->") (λ x e w. implies_text) (at_disjunction h.1)))
  arrow_keeps _ e h = tt

pub step_keeps : (s : State) (b : ℕ) (q : List ℕ) → Valid s q → Valid (step s b) (q ++ b ∷ [])
unfolding step
step_keeps (before i d c t u fs) b q h = before_keeps fs b (sign_of b) (sign_stands b) h
step_keeps (after i d c t v fs) b q h = after_keeps fs b (sign_of b) (sign_stands b) h
step_keeps (arrow i d c t v fs) b q h = arrow_keeps fs b (sign_of b) (sign_stands b) h
step_keeps stuck b q h = tt

pub begins_part : (p r : List ℕ) → Begins (p ++ r) → Begins p
begins_part p r h = (r ++ h.0, (h.1.0, rw (← append_assoc) h.1.1))

-- Closing every open bracket completes a text.
ends_begins : (fs : List Frame) (v : Tree) (q : List ℕ) → Ends (Stack fs) implication v q → Begins q
ends_begins [] v q h = ([], (v, rw (append-nil, h.split, h.holds) h.spells))
ends_begins (f ∷ fs) v q h = begins_part q (codes ")") (ends_begins fs _ _ (at_implication (closed f fs h)))

before_begins : {i d c t u : Pending} {q : List ℕ} (fs : List Frame) → Valid (before i d c t u fs) q → Begins q
before_begins {q = q} fs h = begins_part q (codes "1") (ends_begins fs _ _ (at_implication (fill h one_text)))

pub valid_begins : (s : State) (q : List ℕ) → Live s → Valid s q → Begins q
valid_begins (before i d c t u fs) q l h = before_begins fs h
valid_begins (after i d c t v fs) q l h = ends_begins fs _ q (at_implication h)
valid_begins (arrow i d c t v fs) q l h = begins_part q (codes ">") (before_begins fs (arrow_keeps fs 62 Greater refl h))
valid_begins stuck q l h = absurd l

pub valid_spells : {i d c t : Pending} {v : Tree} {q : List ℕ} → Valid (after i d c t v []) q → Spells implication (i (d (c (t v)))) q
valid_spells h = let e = at_implication h in rw (e.split, e.holds) e.spells

pub start_valid : Valid start []
start_valid = only (begin implication refl)
