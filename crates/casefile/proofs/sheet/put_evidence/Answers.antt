use Rattle.std.proofs.Common.{◌≡◌, ℕ, ◌+◌, ◌*◌, ◌≤◌, List, sym, subst, arith}
use Rattle.casefile.specs.Sheets.{Kept}
use Rattle.casefile.proofs.Writing.{kept_on}
use Rattle.casefile.proofs.sheet.put_evidence.Goals as goal
use Rattle.casefile.proofs.sheet.put_evidence.Goals.{in-Ok, in-Err}

-- what is written at one place more keeps room, and the buffer past it
on : {xs ys zs us : List ℕ} {at next k : ℕ} (start i : ℕ) → (at ≤ start + 64 * i) × (start ≤ at) × Kept xs ys at → us ≡ zs → k ≡ next → next ≤ at + 64 → at ≤ next → Kept ys zs next → (k ≤ start + 64 * (i + 1)) × (start ≤ k) × Kept xs us k
on {xs} {zs = zs} {us = us} {k = k} start i inv same is room ahead kept =
    (omega (arith, inv.0, is, room), omega (arith, inv.1, is, ahead), subst (λ l. Kept xs l k) (sym same) (subst (λ n. Kept xs zs n) (sym is) (kept_on inv.2 kept ahead)))

pub loop-i-preserved : goal.loop-i-preserved
loop-i-preserved c =
    elim c.match-answer_line.branch [
      | in-Ok w ↦ on c.args.start c.loop-i.i c.loop-i.invariant w.out-is w.at-is w.put_answer-at.ensures.room w.put_answer-at.ensures.ahead w.put_answer-at.ensures.kept
      | in-Err w ↦ on c.args.start c.loop-i.i c.loop-i.invariant w.out-is w.at-is w.put_fault-at.ensures.room w.put_fault-at.ensures.ahead w.put_fault-at.ensures.kept
    ]
