-- How a built list grows with its nodes. Assumes nothing.
use Rattle.std.proofs.Common.{◌≡◌, ℕ, ◌+◌, ◌<◌, List, [], ◌∷◌, ◌++◌, length, get_or, take, drop, sym, refl, ap, ◌∙◌, append_assoc, arith}
use Rattle.std.proofs.lemmas.List.{append-nil, get_or_append_left, get_or_push, length_push, take_more, length-take-le, take-append-drop}
use Rattle.pltl.specs.Built.{built}

module _ {N X : Type 0} (value : List X → N → X) where
  pub built_append : (xs : List X) (ns ms : List N) → built value xs (ns ++ ms) ≡ built value (built value xs ns) ms
  built_append xs [] ms = refl
  built_append xs (n ∷ ns) ms = built_append (xs ++ value xs n ∷ []) ns ms

  pub length_built : (xs : List X) (ns : List N) → length (built value xs ns) ≡ length xs + length ns
  length_built xs [] = omega arith
  length_built xs (n ∷ ns) = omega (arith, length_built (xs ++ value xs n ∷ []) ns, length_push xs (value xs n))

  -- the values so far are a front of the values to come
  pub built_front : (xs : List X) (ns : List N) → (more : List X) × (built value xs ns ≡ xs ++ more)
  built_front xs [] = ([], sym (append-nil xs))
  built_front xs (n ∷ ns) =
      let r = built_front (xs ++ value xs n ∷ []) ns in
      (value xs n ∷ r.0, r.1 ∙ append_assoc xs (value xs n ∷ []) r.0)

  -- more nodes leave each value as it was
  pub built_stays : (ns ms : List N) (i : ℕ) (d : X) → i < length ns → get_or (built value [] (ns ++ ms)) i d ≡ get_or (built value [] ns) i d
  built_stays ns ms i d lt =
      let r = built_front (built value [] ns) ms in
      let long = length_built [] ns in
      ap (λ l. get_or l i d) (built_append [] ns ms ∙ r.1) ∙ get_or_append_left _ r.0 d i (omega arith)

  pub built_push : (ns : List N) (n : N) → built value [] (ns ++ n ∷ []) ≡ built value [] ns ++ value (built value [] ns) n ∷ []
  built_push ns n = built_append [] ns (n ∷ [])

  -- the value of the node that is added
  pub value_push : (ns : List N) (n : N) (d : X) → get_or (built value [] (ns ++ n ∷ [])) (length ns) d ≡ value (built value [] ns) n
  value_push ns n d = ap (λ l. get_or l (length ns) d) (built_push ns n) ∙ get_or_push (built value [] ns) _ d (length ns) (omega (arith, length_built [] ns))

  -- the value of each node, over the values of the nodes before it
  pub value_at : (ns : List N) (i : ℕ) (e : N) (d : X) → i < length ns → get_or (built value [] ns) i d ≡ value (built value [] (take i ns)) (get_or ns i e)
  value_at ns i e d lt =
      let front = take i ns in
      let node = get_or ns i e in
      let long : length front ≡ i = length-take-le i ns (omega arith) in
      let more : take (i + 1) ns ≡ front ++ node ∷ [] = take_more ns i e lt in
      let split : ns ≡ (front ++ node ∷ []) ++ drop (i + 1) ns = sym (take-append-drop (i + 1) ns) ∙ ap (λ l. l ++ drop (i + 1) ns) more in
      ap (λ l. get_or (built value [] l) i d) split
      ∙ built_stays (front ++ node ∷ []) (drop (i + 1) ns) i d (omega (arith, length_push front node))
      ∙ ap (λ k. get_or (built value [] (front ++ node ∷ [])) k d) (sym long)
      ∙ value_push front node d

  -- a value among those of a front is the same among all
  pub value_front : (ns : List N) (i a : ℕ) (d : X) → i < length ns → a < i → get_or (built value [] (take i ns)) a d ≡ get_or (built value [] ns) a d
  value_front ns i a d lt below =
      sym (ap (λ l. get_or (built value [] l) a d) (sym (take-append-drop i ns))
      ∙ built_stays (take i ns) (drop i ns) a d (omega (arith, length-take-le i ns (omega arith))))
