-- Writing into a buffer, piece by piece. Assumes nothing.
use Rattle.std.proofs.Common.{◌≡◌, ℕ, ◌+◌, ◌-◌, ◌^◌, ◌<◌, ◌≤◌, List, [], ◌∷◌, ◌++◌, length, take, drop, codes, decimal, sym, refl, ap, ◌∙◌, append_assoc, arith, lit<}
use Rattle.std.proofs.lemmas.List.{length-append, length-take-le, length-drop, drop-drop, take_at, drop_at}
use Rattle.std.proofs.lemmas.Fmt.{length-decimal-le}
use Rattle.texts.specs.declared.faults.Refusal.{Refusal}
use Rattle.texts.specs.Faults.{layer_number}
use Rattle.casefile.specs.Buffers.{overwritten}
use Rattle.casefile.specs.Fields.{number_field, refusal_lines}
use Rattle.casefile.specs.Sheets.{Kept}

pub length_overwritten : (xs bs : List ℕ) (at : ℕ) → at + length bs ≤ length xs → length (overwritten xs at bs) ≡ length xs
length_overwritten xs bs at le =
    omega (arith, length-append (take at xs) (bs ++ drop (at + length bs) xs), length-append bs (drop (at + length bs) xs), length-take-le at xs (omega arith), length-drop (at + length bs) xs)

front : (xs bs : List ℕ) (at : ℕ) → at + length bs ≤ length xs → length (take at xs ++ bs) ≡ at + length bs
front xs bs at le = omega (arith, length-append (take at xs) bs, length-take-le at xs (omega arith))

-- what is written stays where it is
regroup : (xs bs : List ℕ) (at : ℕ) → overwritten xs at bs ≡ (take at xs ++ bs) ++ drop (at + length bs) xs
regroup xs bs at = sym (append_assoc (take at xs) bs (drop (at + length bs) xs))

-- the buffer past what is written stays
pub drop_overwritten : (xs bs : List ℕ) (at n : ℕ) → at + length bs ≤ length xs → at + length bs ≤ n → drop n (overwritten xs at bs) ≡ drop n xs
drop_overwritten xs bs at n le past =
    let m = at + length bs in
    let split : m + (n - m) ≡ n = omega arith in
    let behind : drop m (overwritten xs at bs) ≡ drop m xs = ap (drop m) (regroup xs bs at) ∙ drop_at (take at xs ++ bs) (drop m xs) m (front xs bs at le) in
    ap (λ k. drop k (overwritten xs at bs)) (sym split) ∙ sym (drop-drop (n - m) m (overwritten xs at bs)) ∙ ap (drop (n - m)) behind ∙ drop-drop (n - m) m xs ∙ ap (λ k. drop k xs) split

-- one piece after another is both pieces
pub overwritten_on : (xs bs cs : List ℕ) (at next : ℕ) → at + length bs ≤ length xs → next ≡ at + length bs → overwritten (overwritten xs at bs) next cs ≡ overwritten xs at (bs ++ cs)
overwritten_on xs bs cs at next le e =
    let m = at + length bs in
    let w = overwritten xs at bs in
    let before : take next w ≡ take at xs ++ bs = ap (take next) (regroup xs bs at) ∙ take_at (take at xs ++ bs) (drop m xs) next (front xs bs at le ∙ sym e) in
    let past : drop (next + length cs) w ≡ drop (next + length cs) xs = drop_overwritten xs bs at (next + length cs) le (omega arith) in
    let sum : next + length cs ≡ at + length (bs ++ cs) = omega (arith, length-append bs cs) in
    (λ i. before i ++ (cs ++ past i))
    ∙ append_assoc (take at xs) bs (cs ++ drop (next + length cs) xs)
    ∙ ap (λ l. take at xs ++ l) (sym (append_assoc bs cs (drop (next + length cs) xs)) ∙ ap (λ n. (bs ++ cs) ++ drop n xs) sum)

-- Pieces written one after another: `Wrote xs at bs ys next` says that the buffer xs became ys, with bs from `at` up to `next`.
pub record Wrote (xs : List ℕ) (at : ℕ) (bs : List ℕ) (ys : List ℕ) (next : ℕ) : Type 0 where
  pub value : next ≡ at + length bs
  pub after : ys ≡ overwritten xs at bs

-- after a piece that fits, the buffer is as long as before
pub wrote_length : {xs bs ys : List ℕ} {at next : ℕ} → Wrote xs at bs ys next → at + length bs ≤ length xs → length ys ≡ length xs
wrote_length {xs} {bs} {ys} {at} w le = ap length w.after ∙ length_overwritten xs bs at le

pub wrote_on : {xs bs ys cs zs : List ℕ} {at next end : ℕ} → Wrote xs at bs ys next → Wrote ys next cs zs end → at + length bs ≤ length xs → Wrote xs at (bs ++ cs) zs end
wrote_on {xs} {bs} {ys} {cs} {zs} {at} {next} {end} v w le = record {
  value = omega (arith, v.value, w.value, length-append bs cs);
  after = w.after ∙ ap (λ l. overwritten l next cs) v.after ∙ overwritten_on xs bs cs at next le v.value;
}

-- what is written leaves the buffer's length and all that is past it
pub wrote_kept : {xs bs ys : List ℕ} {at next : ℕ} → Wrote xs at bs ys next → at + length bs ≤ length xs → Kept xs ys next
wrote_kept {xs} {bs} {ys} {at} {next} w le = record {
  long = wrote_length w le;
  past = ap (drop next) w.after ∙ drop_overwritten xs bs at next le (omega (arith, w.value));
}

-- one after the other
pub kept_on : {xs ys zs : List ℕ} {m n : ℕ} → Kept xs ys m → Kept ys zs n → m ≤ n → Kept xs zs n
kept_on {xs} {ys} {zs} {m} {n} k l le =
    let split : m + (n - m) ≡ n = omega arith in
    record {
      long = l.long ∙ k.long;
      past = l.past ∙ ap (λ j. drop j ys) (sym split) ∙ sym (drop-drop (n - m) m ys) ∙ ap (drop (n - m)) k.past ∙ drop-drop (n - m) m xs ∙ ap (λ j. drop j xs) split;
    }

pub kept_none : (xs : List ℕ) (n : ℕ) → Kept xs xs n
kept_none xs n = record { long = refl; past = refl }

-- a field with a short key has room in 64 bytes, and so has a refusal
pub field_short : (key : List ℕ) (n : ℕ) → length key ≤ 8 → n < 2 ^ 64 → length (number_field key n) ≤ 30
field_short key n short fits =
    omega (arith, length-append key (61 ∷ (decimal n ++ 10 ∷ [])), length-append (decimal n) (10 ∷ []), length-decimal-le 20 n (lit< tt) (omega arith) fits)

field_by : (key : List ℕ) (k n : ℕ) → 0 < k → n < 10 ^ k → n < 2 ^ 64 → length (number_field key n) ≤ length key + k + 2
field_by key k n some below fits =
    omega (arith, length-append key (61 ∷ (decimal n ++ 10 ∷ [])), length-append (decimal n) (10 ∷ []), length-decimal-le k n some below fits)

pub refusal_short : (line : ℕ) (r : Refusal) → r.number < 100 → layer_number r.layer < 10 → line < 100000 → r.place < 2 ^ 64 → length (refusal_lines line r) ≤ 64
refusal_short line r a b c d =
    let as' = number_field (codes "refused") r.number in
    let bs = number_field (codes "layer") (layer_number r.layer) in
    let cs = number_field (codes "line") line in
    let ds = number_field (codes "place") r.place in
    omega (
      arith,
      length-append as' (bs ++ (cs ++ ds)),
      length-append bs (cs ++ ds),
      length-append cs ds,
      field_by (codes "refused") 2 r.number (lit< tt) a (omega arith),
      field_by (codes "layer") 1 (layer_number r.layer) (lit< tt) b (omega arith),
      field_by (codes "line") 5 line (lit< tt) c (omega arith),
      field_by (codes "place") 20 r.place (lit< tt) (omega arith) d,
    )
