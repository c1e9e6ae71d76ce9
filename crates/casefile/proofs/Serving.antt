-- What the sheet's loops keep: the room for the lines that are left, and the buffer past what is written. Assumes nothing.
use Rattle.std.proofs.Common.{◌≡◌, ℕ, ◌+◌, ◌-◌, ◌*◌, ◌<◌, ◌≤◌, true, ltb, List, [], length, drop, sym, ap, ◌∙◌, subst, arith}
use Rattle.std.proofs.lemmas.Bool.{ltb-true}
use Rattle.casefile.specs.Newlines.{newlines}
use Rattle.casefile.specs.Sheets.{Kept, LinesEnd}
use Rattle.casefile.proofs.Passing.{newline_ahead}
use Rattle.casefile.proofs.Writing.{kept_on, kept_none}

-- how much room the lines from i on may take
abbrev pub room : List ℕ → ℕ → ℕ
room file i = 64 * newlines (drop i file)

-- From the offset i in the file and `start` in the sheet, the file f is at j, and the sheet at `at`; the buffer xs is ys.
pub record Served (file f : List ℕ) (i j : ℕ) (xs ys : List ℕ) (start at : ℕ) : Type 0 where
  pub same : f ≡ file
  pub left : at + room file j ≤ start + room file i
  pub ahead : start ≤ at
  pub kept : Kept xs ys at

-- what the next line's passing says, from j to k in the file
pub record Next (f l : List ℕ) (j k : ℕ) : Type 0 where
  pub same : l ≡ f
  pub some : true ≡ ltb j (length f)
  pub passed : newlines (drop k f) ≡ newlines (drop j f) - 1

module _ {file f l xs ys : List ℕ} {i j k start at : ℕ} (e : LinesEnd file) (s : Served file f i j xs ys start at) (n : Next f l j k) where
  -- the room of the line that is passed is still to be written
  pub left_one : at + 64 * (1 + newlines (drop k file)) ≤ start + room file i
  left_one =
      let lt : j < length file = subst (λ x. j < length x) s.same (ltb-true j (length f) (sym n.some)) in
      let passed : newlines (drop k file) ≡ newlines (drop j file) - 1 = subst (λ x. newlines (drop k x) ≡ newlines (drop j x) - 1) s.same n.passed in
      omega (arith, s.left, newline_ahead file j lt e.ends, passed)

  pub room_one : start + room file i ≤ length xs → at + 64 ≤ length ys
  room_one fit = omega (arith, left_one, s.kept.long)

  pub served_on : {zs : List ℕ} {next : ℕ} → Kept ys zs next → at ≤ next → next ≤ at + 64 → Served file l i k xs zs start next
  served_on kept on within =
      record { same = n.same ∙ s.same; left = omega (arith, left_one); ahead = omega (arith, s.ahead); kept = kept_on s.kept kept on }

  pub line_short : {line : ℕ} → line ≤ k → k ≤ length l → line < 100000
  line_short counted inside = omega (arith, counted, inside, e.short, ap length (n.same ∙ s.same))

-- the first line's room, and that of the lines behind it
pub first_room : {file f l : List ℕ} {j k : ℕ} → LinesEnd file → f ≡ file → j ≡ 0 → Next f l j k → 64 + room l k ≤ 64 * newlines file
first_room {file} {f} {l} {j} {k} e same none n =
    let s : Served file f j j [] [] 0 0 = record { same = same; left = omega arith; ahead = omega arith; kept = kept_none [] 0 } in
    omega (arith, left_one e s n, ap (λ x. newlines (drop x file)) none, ap (λ x. newlines (drop k x)) (n.same ∙ same))
