-- What the answers of the five levels follow from: a part of a text that is read is one step of the pass, parts
-- and signs join to larger parts, and where a part fails the pass comes to the same fault. Assumes nothing.
use Rattle.std.proofs.Common.{◌≡◌, ℕ, ◌+◌, ◌-◌, ◌<◌, ◌≤◌, cond, ltb, List, [], ◌∷◌, ◌++◌, length, vec_len, get_or, take, drop, Ok, Err, Result, sym, refl, ap, ◌∙◌, subst, ⊎_elim, append_assoc, append-nil, arith, length-append, length-drop}
use Rattle.std.specs.Prelude.{IsErrAnd, slice_range}
use Rattle.std.proofs.Math.Seq.{take-append_seam}
use Rattle.std.proofs.lemmas.List.Folds.{drop_split}
use Rattle.std.proofs.lemmas.List.{drop_more, take_all, at_drop_more, at_drop_all, length-take-le, length_push}
use Rattle.std.proofs.lemmas.Bool.{cases_lt, lt-ltb, le-ltb, cond-true, cond-false}
use Rattle.pltl.specs.Formulas.{Tree, one, and, or, implies}
use Rattle.texts.specs.declared.Sign.{Sign}
use Rattle.texts.specs.declared.Sign.TheVariants.{Not, Next, Always, Eventually, Until, Release, And, Or, Minus, Greater, Open, Close, One, Zero, Letter, Other}
use Rattle.texts.specs.declared.faults.TextFault.{TextFault}
use Rattle.texts.specs.declared.faults.TextFault.TheVariants.{Unexpected, Incomplete}
use Rattle.texts.specs.declared.levels.Reader.{Reader}
use Rattle.texts.specs.declared.nodes.Node.{Node}
use Rattle.texts.specs.Grammar.{Level, implication, disjunction, conjunction, temporal, unary, Spells, bracket_text}
use Rattle.texts.specs.Parsing.{rank, looseness, rest, nodes_of, passed, Steps, ReadAs, outcome, Fails}
use Rattle.texts.specs.Scan.{Pending, nothing, Frame, State, before, after, arrow, stuck, close, step, step_before, step_after, step_arrow, ended, unless_stuck, scan, start}
use Rattle.texts.specs.Signs.{sign_of, sign_from}
use Rattle.texts.specs.Syntax.{trees, tree_over, tree_at}
use Rattle.texts.proofs.Frames.{Stands, sign_stands}
use Rattle.texts.proofs.Passes.{Leads, through}
use Rattle.texts.proofs.Trees.{tree_stays, tree_push}

-- Signs.

-- a sign, and neither the end of the text nor a byte that is none
abbrev pub Some : Sign → Type 0
Some Other = ⊥
Some _ = Unit

-- r' is r over the sign g
pub record Crosses (g : Sign) (r r' : Reader) : Type 0 where
  pub lies : r.at < length r.text.now
  pub sign : sign_of (get_or r.text.now r.at 0) ≡ g
  pub step : Steps r r'

pub crosses : {g : Sign} {r r' : Reader} → Some g → g ≡ sign_from (rest r) → Steps r r' → Crosses g r r'
crosses {r = r} s e m =
    ⊎_elim
    (λ l. record { lies = l; sign = sym (e ∙ at_drop_more sign_from r.text.now r.at 0 l); step = m })
    (λ h. absurd (subst Some (e ∙ at_drop_all sign_from r.text.now r.at h) s))
    (cases_lt r.at (length r.text.now))

pub stands : {g : Sign} {r r' : Reader} → Crosses g r r' → Stands g (get_or r.text.now r.at 0)
stands {r = r} h = subst (λ g. Stands g (get_or r.text.now r.at 0)) h.sign (sign_stands (get_or r.text.now r.at 0))

-- a sign that does not go on at a level, if no looser one did
pub every_loose : (g : Sign) → 0 < looseness g
every_loose Until = omega arith
every_loose _ = omega arith

pub past_until : (g : Sign) → (g ≡ Until → ⊥) → (g ≡ Release → ⊥) → 0 < looseness g → 1 < looseness g
past_until Until n m h = absurd (n refl)
past_until Release n m h = absurd (m refl)
past_until _ n m h = omega arith

pub past_and : (g : Sign) → (g ≡ And → ⊥) → 1 < looseness g → 2 < looseness g
past_and And n h = absurd (n refl)
past_and _ n h = omega arith

pub past_or : (g : Sign) → (g ≡ Or → ⊥) → 2 < looseness g → 3 < looseness g
past_or Or n h = absurd (n refl)
past_or _ n h = omega arith

pub past_minus : (g : Sign) → (g ≡ Minus → ⊥) → 3 < looseness g → 4 < looseness g
past_minus Minus n h = absurd (n refl)
past_minus _ n h = omega arith

-- Parts of a text.

-- r' is r over the bytes w
pub record Over (r r' : Reader) (w : List ℕ) : Type 0 where
  pub same_text : r'.text.now ≡ r.text.now
  pub ahead : r.at < r'.at
  pub at : r'.at ≡ r.at + length w
  pub split : rest r ≡ w ++ rest r'

-- a sign of one byte
pub byte : {g : Sign} {r r' : Reader} {b : ℕ} → Crosses g r r' → get_or r.text.now r.at 0 ≡ b → Over r r' (b ∷ [])
byte {r = r} h e = record {
  same_text = h.step.same_text;
  ahead = omega (arith, h.step.at);
  at = h.step.at;
  split = cc (drop_more r.text.now r.at 0 h.lies, e, h.step.at, h.step.same_text);
}

infixr 5 ◌followed-by◌
pub ◌followed-by◌ : {r r₁ r₂ : Reader} {v w : List ℕ} → Over r r₁ v → Over r₁ r₂ w → Over r r₂ (v ++ w)
◌followed-by◌ {r₂ = r₂} {v = v} {w = w} f g = record {
  same_text = g.same_text ∙ f.same_text;
  ahead = omega (arith, f.ahead, g.ahead);
  at = omega (arith, f.at, g.at, length-append v w);
  split = f.split ∙ ap (λ x. v ++ x) g.split ∙ sym (append_assoc v w (rest r₂));
}

pub passed_over : {r r' : Reader} {w : List ℕ} → Over r r' w → passed r r' ≡ w
passed_over {r = r} {r' = r'} {w = w} b =
    let e : r'.at - r.at ≡ length w = omega (arith, b.at) in
    ap (λ n. take n (rest r)) e ∙ ap (take (length w)) b.split ∙ take-append_seam w (rest r')

-- the bytes that a part was read from
pub read_bytes : {l : Level} {r r' : Reader} {p : ℕ} → ReadAs l r r' p → Over r r' (passed r r')
read_bytes {r = r} {r' = r'} f =
    let h : r.at ≤ r'.at = omega (arith, f.ahead) in
    let long : length (passed r r') ≡ r'.at - r.at = length-take-le (r'.at - r.at) (rest r) (omega (arith, length-drop r.at r.text.now, r'.within, ap length f.same_text)) in
    record {
      same_text = f.same_text;
      ahead = f.ahead;
      at = omega arith;
      split = drop_split r.text.now r.at r'.at h ∙ ap (λ t. passed r r' ++ drop r'.at t) (sym f.same_text);
    }

-- What is read.

-- a part is one of a looser level if the sign that follows does not go on there
pub alone : {l l' : Level} {r r' : Reader} {p : ℕ} {g : Sign} → ((t : Tree) (w : List ℕ) → Spells l t w → Spells l' t w) →
    ReadAs l r r' p → g ≡ sign_from (rest r') → (rank l < looseness g → rank l' < looseness g) → ReadAs l' r r' p
alone {l = l} {l' = l'} f r e s = record {
  same_text = r.same_text;
  ahead = r.ahead;
  made = r.made;
  grown = r.grown;
  few = r.few;
  spells = f _ _ r.spells;
  stops = subst (λ g. rank l < looseness g → rank l' < looseness g) e s r.stops;
}

-- r' is r with one node more, the n-th
abbrev pub Adds : Node → Reader → Reader → ℕ → Type 0
Adds node r r' n = (r'.text.now ≡ r.text.now) × (r'.at ≡ r.at) × (n ≡ vec_len r.syntax.now.nodes) × (nodes_of r' ≡ nodes_of r ++ node ∷ [])

-- the bytes w spell the tree of the node that is added
pub pushed : {l : Level} {r r₁ r₂ : Reader} {n : ℕ} {w : List ℕ} (node : Node) →
    Over r r₁ w → (more : List Node) × (nodes_of r₁ ≡ nodes_of r ++ more) → length (nodes_of r₁) + r.at < length (nodes_of r) + r₁.at →
    Spells l (tree_over (trees (nodes_of r₁)) node) w → rank l < looseness (sign_from (rest r₁)) → Adds node r₁ r₂ n → ReadAs l r r₂ n
pushed {l = l} {r = r} {r₁ = r₁} {r₂ = r₂} {n = n} {w = w} node b g few s k a =
    let e : nodes_of r₂ ≡ nodes_of r₁ ++ node ∷ [] = a.3 in
    let nth : n ≡ length (nodes_of r₁) = a.2 ∙ r₁.syntax.now.nodes.ok.0 in
    let long = length_push (nodes_of r₁) node in
    let long₂ : length (nodes_of r₂) ≡ length (nodes_of r₁) + 1 = ap length e ∙ long in
    let t : tree_over (trees (nodes_of r₁)) node ≡ tree_at (nodes_of r₂) n =
    sym (ap (tree_at (nodes_of r₂)) nth ∙ ap (λ m. tree_at m (length (nodes_of r₁))) e ∙ tree_push (nodes_of r₁) node) in
    let are : w ≡ passed r r₂ = sym (passed_over b) ∙ ap (slice_range r.text.now r.at) (sym a.1) in
    let rests : rest r₁ ≡ rest r₂ = cc (a.0, a.1) in
    record {
      same_text = a.0 ∙ b.same_text;
      ahead = omega (arith, b.ahead, a.1);
      made = omega arith;
      grown = (g.0 ++ node ∷ [], e ∙ ap (λ m. m ++ node ∷ []) g.1 ∙ append_assoc (nodes_of r) g.0 (node ∷ []));
      few = omega (arith, a.1);
      spells = subst (λ x. Spells l x (passed r r₂)) t (subst (Spells l (tree_over (trees (nodes_of r₁)) node)) are s);
      stops = subst (λ v. rank l < looseness (sign_from v)) rests k;
    }

-- two parts and the sign between them
module _ {l l' : Level} {r r₁ r₂ r₃ r₄ : Reader} {p q n : ℕ} {op : List ℕ} (node : Node) (J : Tree → Tree → Tree)
    (joins : (a b : Tree) (v w : List ℕ) → Spells l a v → Spells l' b w → Spells l' (J a b) (v ++ (op ++ w)))
    (both : (ts : List Tree) → tree_over ts node ≡ J (get_or ts p one) (get_or ts q one)) where
  pub joined : ReadAs l r r₁ p → Over r₁ r₂ op → nodes_of r₂ ≡ nodes_of r₁ → ReadAs l' r₂ r₃ q → Adds node r₃ r₄ n → ReadAs l' r r₄ n
  joined f b same g a =
      let more : nodes_of r₃ ≡ nodes_of r₁ ++ g.grown.0 = g.grown.1 ∙ ap (λ x. x ++ g.grown.0) same in
      let stays : tree_at (nodes_of r₃) p ≡ tree_at (nodes_of r₁) p =
      ap (λ x. tree_at x p) more ∙ tree_stays (nodes_of r₁) g.grown.0 p f.made in
      let t : J (tree_at (nodes_of r₁) p) (tree_at (nodes_of r₃) q) ≡ tree_over (trees (nodes_of r₃)) node =
      sym (both (trees (nodes_of r₃)) ∙ ap (λ x. J x (tree_at (nodes_of r₃) q)) stays) in
      pushed node (read_bytes f followed-by b followed-by read_bytes g)
      (f.grown.0 ++ g.grown.0, more ∙ ap (λ x. x ++ g.grown.0) f.grown.1 ∙ append_assoc (nodes_of r) f.grown.0 g.grown.0)
      (omega (arith, f.few, g.few, b.ahead, ap length same))
      (subst (λ x. Spells l' x (passed r r₁ ++ (op ++ passed r₂ r₃))) t (joins _ _ _ _ f.spells g.spells))
      g.stops a

-- a part and the sign before it
module _ {l : Level} {r r₁ r₂ r₃ : Reader} {p n : ℕ} {op : List ℕ} (node : Node) (J : Tree → Tree)
    (joins : (a : Tree) (w : List ℕ) → Spells l a w → Spells l (J a) (op ++ w))
    (both : (ts : List Tree) → tree_over ts node ≡ J (get_or ts p one)) where
  pub signed : Over r r₁ op → nodes_of r₁ ≡ nodes_of r → ReadAs l r₁ r₂ p → Adds node r₂ r₃ n → ReadAs l r r₃ n
  signed b same g a =
      pushed node (b followed-by read_bytes g) (g.grown.0, g.grown.1 ∙ ap (λ x. x ++ g.grown.0) same) (omega (arith, g.few, b.ahead, ap length same))
      (subst (λ x. Spells l x (op ++ passed r₁ r₂)) (sym (both (trees (nodes_of r₂)))) (joins _ _ g.spells)) g.stops a

-- a sign that is a part by itself
pub atom : {r r₁ r₂ : Reader} {n : ℕ} {op : List ℕ} (node : Node) → ((ts : List Tree) → Spells unary (tree_over ts node) op) →
    Over r r₁ op → nodes_of r₁ ≡ nodes_of r → Adds node r₁ r₂ n → ReadAs unary r r₂ n
atom {r = r} {r₁ = r₁} node s b same a =
    pushed node b ([], same ∙ sym (append-nil (nodes_of r))) (omega (arith, b.ahead, ap length same)) (s (trees (nodes_of r₁))) (every_loose (sign_from (rest r₁))) a

-- a part in brackets
pub in_brackets : {r r₁ r₂ r₃ : Reader} {p : ℕ} → Crosses Open r r₁ → ReadAs implication r₁ r₂ p → Crosses Close r₂ r₃ → ReadAs unary r r₃ p
in_brackets {r = r} {r₁ = r₁} {r₂ = r₂} {r₃ = r₃} {p = p} o f k =
    let b = byte o (stands o) followed-by read_bytes f followed-by byte k (stands k) in
    let first : length (nodes_of r₁) ≡ length (nodes_of r) = ap length o.step.same_nodes in
    let last : length (nodes_of r₃) ≡ length (nodes_of r₂) = ap length k.step.same_nodes in
    record {
      same_text = b.same_text;
      ahead = b.ahead;
      made = omega (arith, f.made);
      grown = (f.grown.0, k.step.same_nodes ∙ f.grown.1 ∙ ap (λ x. x ++ f.grown.0) o.step.same_nodes);
      few = omega (arith, f.few, o.step.at, k.step.at);
      spells = subst (λ x. Spells unary (tree_at x p) (passed r r₃)) (sym k.step.same_nodes)
          (subst (Spells unary (tree_at (nodes_of r₂) p)) (sym (passed_over b)) (bracket_text f.spells));
      stops = every_loose (sign_from (rest r₃));
    }

-- Faults.

-- a part that is read leads the pass past it
pub over : {l : Level} {r r' : Reader} {p : ℕ} {s z : State} → ReadAs l r r' p → Leads s (passed r r') z → outcome r s ≡ outcome r' z
over {r = r} {r' = r'} {s = s} {z = z} f g =
    let b = read_bytes f in
    ap (scan r.at s) b.split ∙ g.same r.at (rest r') ∙ ap (λ n. scan n z (rest r')) (sym b.at)

-- one step of the pass, by the sign
abbrev pub by_sign : State → Sign → State
by_sign (before i d c t u fs) g = step_before i d c t u fs g
by_sign (after i d c t v fs) g = step_after i d c t v fs g
by_sign (arrow i d c t v fs) g = step_arrow i d c t v fs g
by_sign stuck g = stuck

pub step_by_sign : (s : State) (b : ℕ) → step s b ≡ by_sign s (sign_of b)
unfolding step
step_by_sign stuck b = refl
step_by_sign _ b = refl

pub stepped : {g : Sign} {r r' : Reader} (s : State) → Crosses g r r' → outcome r s ≡ unless_stuck r.at (by_sign s g) (outcome r' (by_sign s g))
unfolding scan
stepped {g = g} {r = r} {r' = r'} s h =
    let e : scan (r.at + 1) (by_sign s g) (drop (r.at + 1) r.text.now) ≡ outcome r' (by_sign s g) = cc (h.step.at, h.step.same_text) in
    at_drop_more (scan r.at s) r.text.now r.at 0 h.lies
    ∙ ap (λ z. unless_stuck r.at z (scan (r.at + 1) z (drop (r.at + 1) r.text.now))) (step_by_sign s (get_or r.text.now r.at 0) ∙ ap (by_sign s) h.sign)
    ∙ ap (unless_stuck r.at (by_sign s g)) e

-- at a sign that leads nowhere
pub stuck_at : (r : Reader) (s : State) → r.at < length r.text.now → by_sign s (sign_from (rest r)) ≡ stuck → outcome r s ≡ Err (Unexpected r.at)
unfolding scan
stuck_at r s l e =
    let g = at_drop_more (λ w. by_sign s (sign_from w)) r.text.now r.at 0 l in
    at_drop_more (scan r.at s) r.text.now r.at 0 l
    ∙ ap (λ z. unless_stuck r.at z (scan (r.at + 1) z (drop (r.at + 1) r.text.now))) (step_by_sign s (get_or r.text.now r.at 0) ∙ sym g ∙ e)

-- at such a sign, or at the end of the text
pub unwanted_at : (r : Reader) {g : Sign} {f : TextFault} (s : State) → g ≡ sign_from (rest r) → by_sign s g ≡ stuck → ended r.at s ≡ Err (Incomplete r.at) →
    f ≡ cond (ltb r.at (length r.text.now)) (Unexpected r.at) (Incomplete (length r.text.now)) → outcome r s ≡ Err f
unfolding scan
unwanted_at r s e h k q =
    ⊎_elim
    (λ l. stuck_at r s l (ap (by_sign s) (sym e) ∙ h) ∙ ap Err (sym (q ∙ cond-true _ _ _ (lt-ltb r.at (length r.text.now) l))))
    (λ l. let m : r.at ≡ length r.text.now = omega (arith, r.within) in
    at_drop_all (scan r.at s) r.text.now r.at l ∙ k ∙ ap Err (ap Incomplete m ∙ sym (q ∙ cond-false _ _ _ (le-ltb r.at (length r.text.now) l))))
    (cases_lt r.at (length r.text.now))

-- no part begins with another sign
pub begins_none : (i d c t u : Pending) (fs : List Frame) (g : Sign) → (g ≡ Not → ⊥) → (g ≡ Next → ⊥) → (g ≡ Always → ⊥) → (g ≡ Eventually → ⊥) →
    (g ≡ Open → ⊥) → (g ≡ One → ⊥) → (g ≡ Zero → ⊥) → ((k : ℕ) → g ≡ Letter k → ⊥) → by_sign (before i d c t u fs) g ≡ stuck
begins_none i d c t u fs Not n x a e o y z l = absurd (n refl)
begins_none i d c t u fs Next n x a e o y z l = absurd (x refl)
begins_none i d c t u fs Always n x a e o y z l = absurd (a refl)
begins_none i d c t u fs Eventually n x a e o y z l = absurd (e refl)
begins_none i d c t u fs Open n x a e o y z l = absurd (o refl)
begins_none i d c t u fs One n x a e o y z l = absurd (y refl)
begins_none i d c t u fs Zero n x a e o y z l = absurd (z refl)
begins_none i d c t u fs (Letter k) n x a e o y z l = absurd (l k refl)
begins_none i d c t u fs _ n x a e o y z l = refl

-- after the minus, only the rest of the arrow
pub arrow_only : (i d c t : Pending) (v : Tree) (fs : List Frame) (g : Sign) → (g ≡ Greater → ⊥) → by_sign (arrow i d c t v fs) g ≡ stuck
arrow_only i d c t v fs Greater n = absurd (n refl)
arrow_only i d c t v fs _ n = refl

-- where an implication stops, only a closing bracket
pub close_only : (i d c t : Pending) (v : Tree) (fs : List Frame) (g : Sign) → 4 < looseness g → (g ≡ Close → close i d c t v fs ≡ stuck) → by_sign (after i d c t v fs) g ≡ stuck
close_only i d c t v fs Until h n = absurd (omega arith)
close_only i d c t v fs Release h n = absurd (omega arith)
close_only i d c t v fs And h n = absurd (omega arith)
close_only i d c t v fs Or h n = absurd (omega arith)
close_only i d c t v fs Minus h n = absurd (omega arith)
close_only i d c t v fs Close h n = n refl
close_only i d c t v fs _ h n = refl

-- the fault that `?` hands on
pub handed_on : {f : TextFault} (res : Result ℕ TextFault) → IsErrAnd res (λ y. y ≡ f) → res ≡ Err f
handed_on (Ok n) h = absurd h
handed_on (Err y) h = ap Err h

-- where the part after a sign fails, the whole fails
pub signed_fails : {r r' : Reader} {f : TextFault} {g : Sign} (P : Pending) →
    ((i d c t u : Pending) (fs : List Frame) → by_sign (before i d c t u fs) g ≡ before i d c t (λ x. u (P x)) fs) →
    Crosses g r r' → Fails unary r' f → Fails unary r f
signed_fails {r = r} {r' = r'} P e h k i d c t u fs =
    stepped _ h ∙ ap (λ z. unless_stuck r.at z (outcome r' z)) (e i d c t u fs) ∙ k i d c t (λ x. u (P x)) fs

pub bracket_fails : {r r' : Reader} {f : TextFault} → Crosses Open r r' → Fails implication r' f → Fails unary r f
bracket_fails h k i d c t u fs = stepped _ h ∙ k nothing (record { implication = i; disjunction = d; conjunction = c; temporal = t; unary = u } ∷ fs)

module _ {r r₁ r₂ : Reader} {p : ℕ} {f : TextFault} where
  pub temporal_fails : {g : Sign} (J : Tree → Tree → Tree) →
      ((i d c t : Pending) (v : Tree) (fs : List Frame) → by_sign (after i d c t v fs) g ≡ before i d c (λ x. t (J v x)) nothing fs) →
      ReadAs unary r r₁ p → Crosses g r₁ r₂ → Fails temporal r₂ f → Fails temporal r f
  temporal_fails J e a h k i d c t fs =
      let v : Tree = tree_at (nodes_of r₁) p in
      over a (through a.spells i d c t nothing fs) ∙ stepped (after i d c t v fs) h
      ∙ ap (λ z. unless_stuck r₁.at z (outcome r₂ z)) (e i d c t v fs) ∙ k i d c (λ x. t (J v x)) fs

  pub and_fails : ReadAs temporal r r₁ p → Crosses And r₁ r₂ → Fails conjunction r₂ f → Fails conjunction r f
  and_fails a h k i d c fs =
      let l = through a.spells i d c nothing fs in
      over a l.3 ∙ stepped (after i d c l.0 l.1 fs) h ∙ k i d (λ x. c (and (l.0 l.1) x)) fs

  pub or_fails : ReadAs conjunction r r₁ p → Crosses Or r₁ r₂ → Fails disjunction r₂ f → Fails disjunction r f
  or_fails a h k i d fs =
      let l = through a.spells i d nothing fs in
      over a l.4 ∙ stepped (after i d l.0 l.1 l.2 fs) h ∙ k i (λ x. d (or (l.0 (l.1 l.2)) x)) fs

  pub implies_fails : {r₃ : Reader} → ReadAs disjunction r r₁ p → Crosses Minus r₁ r₂ → Crosses Greater r₂ r₃ → Fails implication r₃ f → Fails implication r f
  implies_fails a h g k i fs =
      let l = through a.spells i nothing fs in
      over a l.5 ∙ stepped (after i l.0 l.1 l.2 l.3 fs) h ∙ stepped (arrow i l.0 l.1 l.2 l.3 fs) g ∙ k (λ x. i (implies (l.0 (l.1 (l.2 l.3))) x)) fs

  -- an arrow that is not one
  pub no_arrow : {g : Sign} → ReadAs disjunction r r₁ p → Crosses Minus r₁ r₂ → g ≡ sign_from (rest r₂) → (g ≡ Greater → ⊥) →
      f ≡ cond (ltb r₂.at (length r₂.text.now)) (Unexpected r₂.at) (Incomplete (length r₂.text.now)) → Fails implication r f
  no_arrow a h e n q i fs =
      let l = through a.spells i nothing fs in
      over a l.5 ∙ stepped (after i l.0 l.1 l.2 l.3 fs) h ∙ unwanted_at r₂ (arrow i l.0 l.1 l.2 l.3 fs) e (arrow_only i l.0 l.1 l.2 l.3 fs _ n) refl q

  -- a bracket that is not closed
  pub unclosed : {g : Sign} → Crosses Open r r₁ → ReadAs implication r₁ r₂ p → g ≡ sign_from (rest r₂) → (g ≡ Close → ⊥) →
      f ≡ cond (ltb r₂.at (length r₂.text.now)) (Unexpected r₂.at) (Incomplete (length r₂.text.now)) → Fails unary r f
  unclosed h a e n q i d c t u fs =
      let gs : List Frame = record { implication = i; disjunction = d; conjunction = c; temporal = t; unary = u } ∷ fs in
      let l = through a.spells nothing gs in
      stepped _ h ∙ over a l.6
      ∙ unwanted_at r₂ (after l.0 l.1 l.2 l.3 l.4 gs) e (close_only l.0 l.1 l.2 l.3 l.4 gs _ (subst (λ g. 4 < looseness g) (sym e) a.stops) (λ x. absurd (n x))) refl q

-- nothing that begins a part
pub none_begins : (r : Reader) {f : TextFault} {g : Sign} → g ≡ sign_from (rest r) →
    ((i d c t u : Pending) (fs : List Frame) → by_sign (before i d c t u fs) g ≡ stuck) →
    f ≡ cond (ltb r.at (length r.text.now)) (Unexpected r.at) (Incomplete (length r.text.now)) → Fails unary r f
none_begins r e n q i d c t u fs = unwanted_at r (before i d c t u fs) e (n i d c t u fs) refl q

-- all of a text
pub whole_text : {l : Level} {r r' : Reader} {p : ℕ} → ReadAs l r r' p → r.at ≡ 0 → length r.text.now ≤ r'.at → Spells l (tree_at (nodes_of r') p) r.text.now
whole_text {l = l} {r = r} {r' = r'} {p = p} a z h =
    let all : passed r r' ≡ r.text.now = ap (λ n. take (r'.at - n) (drop n r.text.now)) z ∙ take_all (r'.at - 0) r.text.now (omega arith) in
    subst (Spells l (tree_at (nodes_of r') p)) all a.spells

-- more after the whole
pub more_follows : {r r' : Reader} {p : ℕ} → ReadAs implication r r' p → r'.at < length r.text.now → outcome r start ≡ Err (Unexpected r'.at)
more_follows {r' = r'} a h =
    let l = through a.spells nothing [] in
    over a l.6 ∙ stuck_at r' (after l.0 l.1 l.2 l.3 l.4 []) (omega (arith, ap length a.same_text)) (close_only l.0 l.1 l.2 l.3 l.4 [] _ a.stops (λ e. refl))
