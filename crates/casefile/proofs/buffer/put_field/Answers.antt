use Rattle.std.proofs.Common.{◌≡◌, ℕ, ◌+◌, ◌<◌, ◌≤◌, List, [], ◌∷◌, ◌++◌, length, decimal, ◌∙◌, subst, arith}
use Rattle.std.proofs.lemmas.List.{length-append, append_assoc}
use Rattle.casefile.specs.Fields.{number_field}
use Rattle.casefile.proofs.Writing.{Wrote, wrote_length, wrote_on}
use Rattle.casefile.proofs.buffer.put_field.Goals as goal

module _ (xs key : List ℕ) (at n : ℕ) (room : at + length (number_field key n) ≤ length xs) where
  parts : at + (length key + (1 + (length (decimal n) + 1))) ≤ length xs
  parts = omega (arith, room, length-append key (61 ∷ (decimal n ++ 10 ∷ [])), length-append (decimal n) (10 ∷ []))

  module _ (ys : List ℕ) (equals : ℕ) (w : Wrote xs at key ys equals) where
    after_key : equals < length ys
    after_key = omega (arith, parts, w.value, wrote_length w (omega (arith, parts)))

    module _ (zs : List ℕ) (value : ℕ) (v : Wrote ys equals (61 ∷ []) zs value) where
      so_far : Wrote xs at (key ++ 61 ∷ []) zs value
      so_far = wrote_on w v (omega (arith, parts))

      long : length (key ++ 61 ∷ []) ≡ length key + 1
      long = length-append key (61 ∷ [])

      after_equals : value + length (decimal n) ≤ length zs
      after_equals = omega (arith, parts, long, so_far.value, wrote_length so_far (omega (arith, parts, long)))

      module _ (us : List ℕ) (end : ℕ) (u : Wrote zs value (decimal n) us end) where
        digits : Wrote xs at ((key ++ 61 ∷ []) ++ decimal n) us end
        digits = wrote_on so_far u (omega (arith, parts, long))

        longer : length ((key ++ 61 ∷ []) ++ decimal n) ≡ length key + (1 + length (decimal n))
        longer = omega (arith, long, length-append (key ++ 61 ∷ []) (decimal n))

        after_digits : end < length us
        after_digits = omega (arith, parts, longer, digits.value, wrote_length digits (omega (arith, parts, longer)))

        whole : (ts : List ℕ) (next : ℕ) → Wrote us end (10 ∷ []) ts next → Wrote xs at (number_field key n) ts next
        whole ts next t =
            subst (λ l. Wrote xs at l ts next)
            (append_assoc (key ++ 61 ∷ []) (decimal n) (10 ∷ []) ∙ append_assoc key (61 ∷ []) (decimal n ++ 10 ∷ []))
            (wrote_on digits t (omega (arith, parts, longer)))

pub returns : goal.returns
returns c =
    let w = whole _ _ _ _ c.requires _ _ (record { value = c.put-equals.ensures.value; after = c.put-equals.ensures.after }) _ _ (record { value = c.put_byte-value.ensures.value; after = c.put_byte-value.ensures.after }) _ _ (record { value = c.put_number-end.ensures.value; after = c.put_number-end.ensures.after }) _ _ (record { value = c.put_byte.ensures.value; after = c.put_byte.ensures.after }) in
    record { value = w.value; after = w.after }
