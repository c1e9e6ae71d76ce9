-- Entries that are answered one after the other. Assumes nothing.
use Rattle.std.proofs.Common.{◌≡◌, ℕ, ◌≤◌, List, [], ◌∷◌, ◌++◌, map, length, take, drop, refl, ap, ◌∙◌, ap₂, append-nil}
use Rattle.std.proofs.lemmas.List.{drop_all, take_all}
use Rattle.cases.specs.Calls.{answer_to, after_call, answers_to, after_calls}
use Rattle.cases.specs.Models.{SteppedModel, KitModel}
use Rattle.cases.specs.Views.{entry_call, entry_answer, answered}
use Rattle.cases.specs.declared.call.Entry.{Entry}

-- the answers in the entries are those to their calls
pub answers_answered : (k : KitModel) (c : SteppedModel) (es : List Entry) → map entry_answer (answered k c es) ≡ answers_to k c (map entry_call es)
answers_answered k c [] = refl
answers_answered k c (e ∷ es) = ap (λ l. answer_to k c (entry_call e) ∷ l) (answers_answered k (after_call k c (entry_call e)) es)

-- no entries are left
pub all_answered : (k : KitModel) (c : SteppedModel) (es : List Entry) (i : ℕ) → length es ≤ i → take i es ++ answered k c (drop i es) ≡ es
all_answered k c es i all = ap₂ (λ l m. l ++ answered k c m) (take_all i es all) (drop_all i es all) ∙ append-nil es

pub all_taken : (k : KitModel) (c : SteppedModel) (es : List Entry) (i : ℕ) → length es ≤ i → after_calls k c (map entry_call (drop i es)) ≡ c
all_taken k c es i all = ap (λ l. after_calls k c (map entry_call l)) (drop_all i es all)
