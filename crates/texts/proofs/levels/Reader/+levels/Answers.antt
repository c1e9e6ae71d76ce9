-- Why the functions of the five levels read as they say: `Parses.antt`, at what each call answered.
use Rattle.std.proofs.Common.{refl, ◌∙◌}
use Rattle.pltl.specs.Formulas.{not, next, always, eventually, until, release, and, or, implies}
use Rattle.texts.specs.declared.nodes.Node.TheVariants as node
use Rattle.texts.specs.Grammar.{disjunction_alone, implies_text, conjunction_alone, or_text, temporal_alone, and_text, unary_alone, until_text, release_text, not_text, next_text, always_text, eventually_text, letter_text, one_text, zero_text}
use Rattle.texts.proofs.Parses.{crosses, stands, byte, ◌followed-by◌, alone, joined, signed, atom, in_brackets, past_until, past_and, past_or, past_minus, begins_none, handed_on, signed_fails, bracket_fails, temporal_fails, and_fails, or_fails, implies_fails, no_arrow, unclosed, none_begins}
use Rattle.texts.proofs.levels.Reader.+levels.Goals as goal

pub implication-returns-in_default-clause-reads : goal.implication-returns-in_default-clause-reads
implication-returns-in_default-clause-reads t c = alone (λ t w. disjunction_alone) c.in_ok-left.ensures.reads c.sign.ensures (past_minus _ c.in_default.not-Minus)

pub implication-returns-in_default-sign-clause-reads : goal.implication-returns-in_default-sign-clause-reads
implication-returns-in_default-sign-clause-reads t c =
    no_arrow c.in_ok-left.ensures.reads (crosses tt c.in-Minus.ensures c.step.ensures.steps) c.sign-2.ensures c.in_default-sign.not-Greater c.unwanted.ensures

pub implication-returns-in_err-right-clause-reads : goal.implication-returns-in_err-right-clause-reads
implication-returns-in_err-right-clause-reads t c = rw (handed_on _ c.from_residual-in_err-right.ensures.1)
    (implies_fails c.in_ok-left.ensures.reads (crosses tt c.in-Minus.ensures c.step.ensures.steps) (crosses tt c.in-Greater.ensures c.step-2.ensures.steps) c.in_err-right.ensures.reads)

pub implication-returns-clause-reads : goal.implication-returns-clause-reads
implication-returns-clause-reads t c =
    let h = crosses tt c.in-Minus.ensures c.step.ensures.steps in
    let g = crosses tt c.in-Greater.ensures c.step-2.ensures.steps in
    joined (node.Implies c.in_ok-left.left c.in_ok-right.right) implies (λ a b v w. implies_text) (λ ts. refl)
    c.in_ok-left.ensures.reads (byte h (stands h) followed-by byte g (stands g)) (g.step.same_nodes ∙ h.step.same_nodes) c.in_ok-right.ensures.reads
    (refl, refl, c.push.ensures.value, c.push.ensures.items)

pub disjunction-returns-in_default-clause-reads : goal.disjunction-returns-in_default-clause-reads
disjunction-returns-in_default-clause-reads t c = alone (λ t w. conjunction_alone) c.in_ok-left.ensures.reads c.sign.ensures (past_or _ c.in_default.not-Or)

pub disjunction-returns-in_err-right-clause-reads : goal.disjunction-returns-in_err-right-clause-reads
disjunction-returns-in_err-right-clause-reads t c = rw (handed_on _ c.from_residual-in_err-right.ensures.1)
    (or_fails c.in_ok-left.ensures.reads (crosses tt c.in-Or.ensures c.step.ensures.steps) c.in_err-right.ensures.reads)

pub disjunction-returns-clause-reads : goal.disjunction-returns-clause-reads
disjunction-returns-clause-reads t c =
    let h = crosses tt c.in-Or.ensures c.step.ensures.steps in
    joined (node.Or c.in_ok-left.left c.in_ok-right.right) or (λ a b v w. or_text) (λ ts. refl)
    c.in_ok-left.ensures.reads (byte h (stands h)) h.step.same_nodes c.in_ok-right.ensures.reads
    (refl, refl, c.push.ensures.value, c.push.ensures.items)

pub conjunction-returns-in_default-clause-reads : goal.conjunction-returns-in_default-clause-reads
conjunction-returns-in_default-clause-reads t c = alone (λ t w. temporal_alone) c.in_ok-left.ensures.reads c.sign.ensures (past_and _ c.in_default.not-And)

pub conjunction-returns-in_err-right-clause-reads : goal.conjunction-returns-in_err-right-clause-reads
conjunction-returns-in_err-right-clause-reads t c = rw (handed_on _ c.from_residual-in_err-right.ensures.1)
    (and_fails c.in_ok-left.ensures.reads (crosses tt c.in-And.ensures c.step.ensures.steps) c.in_err-right.ensures.reads)

pub conjunction-returns-clause-reads : goal.conjunction-returns-clause-reads
conjunction-returns-clause-reads t c =
    let h = crosses tt c.in-And.ensures c.step.ensures.steps in
    joined (node.And c.in_ok-left.left c.in_ok-right.right) and (λ a b v w. and_text) (λ ts. refl)
    c.in_ok-left.ensures.reads (byte h (stands h)) h.step.same_nodes c.in_ok-right.ensures.reads
    (refl, refl, c.push.ensures.value, c.push.ensures.items)

pub temporal-returns-in_default-clause-reads : goal.temporal-returns-in_default-clause-reads
temporal-returns-in_default-clause-reads t c = alone (λ t w. unary_alone) c.in_ok-left.ensures.reads c.sign.ensures (past_until _ c.in_default.not-Until c.in_default.not-Release)

pub temporal-returns-in_err-right-in-Until-clause-reads : goal.temporal-returns-in_err-right-in-Until-clause-reads
temporal-returns-in_err-right-in-Until-clause-reads t c = rw (handed_on _ c.from_residual-in_err-right-in-Until.ensures.1)
    (temporal_fails until (λ i d k t v fs. refl) c.in_ok-left.ensures.reads (crosses tt c.in-Until.ensures c.step.ensures.steps) c.in_err-right-in-Until.ensures.reads)

pub temporal-returns-in_ok-right-in-Until-clause-reads : goal.temporal-returns-in_ok-right-in-Until-clause-reads
temporal-returns-in_ok-right-in-Until-clause-reads t c =
    let h = crosses tt c.in-Until.ensures c.step.ensures.steps in
    joined (node.Until c.in_ok-left.left c.in_ok-right-in-Until.right) until (λ a b v w. until_text) (λ ts. refl)
    c.in_ok-left.ensures.reads (byte h (stands h)) h.step.same_nodes c.in_ok-right-in-Until.ensures.reads
    (refl, refl, c.push.ensures.value, c.push.ensures.items)

pub temporal-returns-in_err-right-in-Release-clause-reads : goal.temporal-returns-in_err-right-in-Release-clause-reads
temporal-returns-in_err-right-in-Release-clause-reads t c = rw (handed_on _ c.from_residual-in_err-right-in-Release.ensures.1)
    (temporal_fails release (λ i d k t v fs. refl) c.in_ok-left.ensures.reads (crosses tt c.in-Release.ensures c.step-in-Release.ensures.steps) c.in_err-right-in-Release.ensures.reads)

pub temporal-returns-in_ok-right-in-Release-clause-reads : goal.temporal-returns-in_ok-right-in-Release-clause-reads
temporal-returns-in_ok-right-in-Release-clause-reads t c =
    let h = crosses tt c.in-Release.ensures c.step-in-Release.ensures.steps in
    joined (node.Release c.in_ok-left.left c.in_ok-right-in-Release.right) release (λ a b v w. release_text) (λ ts. refl)
    c.in_ok-left.ensures.reads (byte h (stands h)) h.step.same_nodes c.in_ok-right-in-Release.ensures.reads
    (refl, refl, c.push-in-Release.ensures.value, c.push-in-Release.ensures.items)

pub unary-returns-in_err-part-in-Not-clause-reads : goal.unary-returns-in_err-part-in-Not-clause-reads
unary-returns-in_err-part-in-Not-clause-reads t c = rw (handed_on _ c.from_residual.ensures.1)
    (signed_fails not (λ i d k t u fs. refl) (crosses tt c.in-Not.ensures c.step.ensures.steps) c.in_err-part-in-Not.ensures.reads)

pub unary-returns-in_ok-part-in-Not-clause-reads : goal.unary-returns-in_ok-part-in-Not-clause-reads
unary-returns-in_ok-part-in-Not-clause-reads t c =
    let h = crosses tt c.in-Not.ensures c.step.ensures.steps in
    signed (node.Not c.in_ok-part-in-Not.part) not (λ a w. not_text) (λ ts. refl) (byte h (stands h)) h.step.same_nodes c.in_ok-part-in-Not.ensures.reads
    (refl, refl, c.push.ensures.value, c.push.ensures.items)

pub unary-returns-in_err-part-in-Next-clause-reads : goal.unary-returns-in_err-part-in-Next-clause-reads
unary-returns-in_err-part-in-Next-clause-reads t c = rw (handed_on _ c.from_residual-in_err-part-in-Next.ensures.1)
    (signed_fails next (λ i d k t u fs. refl) (crosses tt c.in-Next.ensures c.step-in-Next.ensures.steps) c.in_err-part-in-Next.ensures.reads)

pub unary-returns-in_ok-part-in-Next-clause-reads : goal.unary-returns-in_ok-part-in-Next-clause-reads
unary-returns-in_ok-part-in-Next-clause-reads t c =
    let h = crosses tt c.in-Next.ensures c.step-in-Next.ensures.steps in
    signed (node.Next c.in_ok-part-in-Next.part) next (λ a w. next_text) (λ ts. refl) (byte h (stands h)) h.step.same_nodes c.in_ok-part-in-Next.ensures.reads
    (refl, refl, c.push-in-Next.ensures.value, c.push-in-Next.ensures.items)

pub unary-returns-in_err-part-in-Always-clause-reads : goal.unary-returns-in_err-part-in-Always-clause-reads
unary-returns-in_err-part-in-Always-clause-reads t c = rw (handed_on _ c.from_residual-in_err-part-in-Always.ensures.1)
    (signed_fails always (λ i d k t u fs. refl) (crosses tt c.in-Always.ensures c.step-in-Always.ensures.steps) c.in_err-part-in-Always.ensures.reads)

pub unary-returns-in_ok-part-in-Always-clause-reads : goal.unary-returns-in_ok-part-in-Always-clause-reads
unary-returns-in_ok-part-in-Always-clause-reads t c =
    let h = crosses tt c.in-Always.ensures c.step-in-Always.ensures.steps in
    signed (node.Always c.in_ok-part-in-Always.part) always (λ a w. always_text) (λ ts. refl) (byte h (stands h)) h.step.same_nodes c.in_ok-part-in-Always.ensures.reads
    (refl, refl, c.push-in-Always.ensures.value, c.push-in-Always.ensures.items)

pub unary-returns-in_err-part-in-Eventually-clause-reads : goal.unary-returns-in_err-part-in-Eventually-clause-reads
unary-returns-in_err-part-in-Eventually-clause-reads t c = rw (handed_on _ c.from_residual-in_err-part-in-Eventually.ensures.1)
    (signed_fails eventually (λ i d k t u fs. refl) (crosses tt c.in-Eventually.ensures c.step-in-Eventually.ensures.steps) c.in_err-part-in-Eventually.ensures.reads)

pub unary-returns-in_ok-part-in-Eventually-clause-reads : goal.unary-returns-in_ok-part-in-Eventually-clause-reads
unary-returns-in_ok-part-in-Eventually-clause-reads t c =
    let h = crosses tt c.in-Eventually.ensures c.step-in-Eventually.ensures.steps in
    signed (node.Eventually c.in_ok-part-in-Eventually.part) eventually (λ a w. eventually_text) (λ ts. refl) (byte h (stands h)) h.step.same_nodes c.in_ok-part-in-Eventually.ensures.reads
    (refl, refl, c.push-in-Eventually.ensures.value, c.push-in-Eventually.ensures.items)

pub unary-returns-in-One-clause-reads : goal.unary-returns-in-One-clause-reads
unary-returns-in-One-clause-reads t c =
    let h = crosses tt c.in-One.ensures c.step-in-One.ensures.steps in
    atom node.One (λ ts. one_text) (byte h (stands h)) h.step.same_nodes
    (refl, refl, c.push-in-One.ensures.value, c.push-in-One.ensures.items)

pub unary-returns-in-Zero-clause-reads : goal.unary-returns-in-Zero-clause-reads
unary-returns-in-Zero-clause-reads t c =
    let h = crosses tt c.in-Zero.ensures c.step-in-Zero.ensures.steps in
    atom node.Zero (λ ts. zero_text) (byte h (stands h)) h.step.same_nodes
    (refl, refl, c.push-in-Zero.ensures.value, c.push-in-Zero.ensures.items)

pub unary-returns-in-Letter-clause-reads : goal.unary-returns-in-Letter-clause-reads
unary-returns-in-Letter-clause-reads t c =
    let h = crosses tt c.in-Letter.ensures c.step-in-Letter.ensures.steps in
    atom (node.Letter c.in-Letter.letter) (λ ts. letter_text _ (stands h).1) (byte h (stands h).0) h.step.same_nodes
    (refl, refl, c.push-in-Letter.ensures.value, c.push-in-Letter.ensures.items)

pub unary-returns-in_err-inner-in-Open-clause-reads : goal.unary-returns-in_err-inner-in-Open-clause-reads
unary-returns-in_err-inner-in-Open-clause-reads t c = rw (handed_on _ c.from_residual-in_err-inner-in-Open.ensures.1)
    (bracket_fails (crosses tt c.in-Open.ensures c.step-in-Open.ensures.steps) c.in_err-inner-in-Open.ensures.reads)

pub unary-returns-in_default-sign-clause-reads : goal.unary-returns-in_default-sign-clause-reads
unary-returns-in_default-sign-clause-reads t c =
    unclosed (crosses tt c.in-Open.ensures c.step-in-Open.ensures.steps) c.in_ok-inner-in-Open.ensures.reads c.sign-in-Open.ensures c.in_default-sign.not-Close c.unwanted.ensures

pub unary-returns-in-Close-clause-reads : goal.unary-returns-in-Close-clause-reads
unary-returns-in-Close-clause-reads t c =
    in_brackets (crosses tt c.in-Open.ensures c.step-in-Open.ensures.steps) c.in_ok-inner-in-Open.ensures.reads (crosses tt c.in-Close.ensures c.step-in-Open-2.ensures.steps)

pub unary-returns-in_default-clause-reads : goal.unary-returns-in_default-clause-reads
unary-returns-in_default-clause-reads t c =
    none_begins c.args.self.now c.sign.ensures
    (λ i d e k u fs. begins_none i d e k u fs _ c.in_default.not-Not c.in_default.not-Next c.in_default.not-Always c.in_default.not-Eventually
    c.in_default.not-Open c.in_default.not-One c.in_default.not-Zero c.in_default.not-Letter)
    c.unwanted-in_default.ensures
