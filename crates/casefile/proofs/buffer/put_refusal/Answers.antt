use Rattle.std.proofs.Common.{ℕ, ◌+◌, ◌≤◌, List, ◌++◌, length, codes, ◌∙◌, subst, arith}
use Rattle.std.proofs.lemmas.List.{length-append, append_assoc}
use Rattle.texts.specs.Faults.{layer_number}
use Rattle.casefile.specs.Fields.{number_field}
use Rattle.casefile.proofs.Writing.{Wrote, wrote_length, wrote_on}
use Rattle.casefile.proofs.buffer.put_refusal.Goals as goal

-- four pieces that fit together, one after another
module _ (xs ps bs cs ds : List ℕ) (at : ℕ) (room : at + length (ps ++ (bs ++ (cs ++ ds))) ≤ length xs) where
  parts : at + (length ps + (length bs + (length cs + length ds))) ≤ length xs
  parts = omega (arith, room, length-append ps (bs ++ (cs ++ ds)), length-append bs (cs ++ ds), length-append cs ds)

  module _ (ys : List ℕ) (i : ℕ) (w : Wrote xs at ps ys i) where
    after_one : i + length bs ≤ length ys
    after_one = omega (arith, parts, w.value, wrote_length w (omega (arith, parts)))

    module _ (zs : List ℕ) (j : ℕ) (v : Wrote ys i bs zs j) where
      two : Wrote xs at (ps ++ bs) zs j
      two = wrote_on w v (omega (arith, parts))

      after_two : j + length cs ≤ length zs
      after_two = omega (arith, parts, length-append ps bs, two.value, wrote_length two (omega (arith, parts, length-append ps bs)))

      module _ (us : List ℕ) (k : ℕ) (u : Wrote zs j cs us k) where
        three : Wrote xs at ((ps ++ bs) ++ cs) us k
        three = wrote_on two u (omega (arith, parts, length-append ps bs))

        after_three : k + length ds ≤ length us
        after_three = omega (arith, parts, length-append ps bs, length-append (ps ++ bs) cs, three.value, wrote_length three (omega (arith, parts, length-append ps bs, length-append (ps ++ bs) cs)))

        four : (ts : List ℕ) (l : ℕ) → Wrote us k ds ts l → Wrote xs at (ps ++ (bs ++ (cs ++ ds))) ts l
        four ts l t =
            subst (λ q. Wrote xs at q ts l) (append_assoc (ps ++ bs) cs ds ∙ append_assoc ps bs (cs ++ ds))
            (wrote_on three t (omega (arith, parts, length-append ps bs, length-append (ps ++ bs) cs)))

pub returns : goal.returns
returns c =
    let w = four _ (number_field (codes "refused") c.args.refusal.number) (number_field (codes "layer") (layer_number c.args.refusal.layer)) (number_field (codes "line") c.args.line) (number_field (codes "place") c.args.refusal.place) _ c.requires
    _ _ (record { value = c.put_field-layer.ensures.value; after = c.put_field-layer.ensures.after })
    _ _ (subst (λ n. Wrote c.put_field-layer.new.out c.put_field-layer.result (number_field (codes "layer") n) c.put_field-number.new.out c.put_field-number.result) c.into.ensures (record { value = c.put_field-number.ensures.value; after = c.put_field-number.ensures.after }))
    _ _ (record { value = c.put_field-place.ensures.value; after = c.put_field-place.ensures.after })
    _ _ (record { value = c.put_field.ensures.value; after = c.put_field.ensures.after }) in
    record { value = w.value; after = w.after }
