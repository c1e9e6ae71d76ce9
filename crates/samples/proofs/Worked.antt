-- The marked samples, computed. Assumes nothing.
use Rattle.std.proofs.Common.{refl}
use native.Mathlib.Decide.{ℕ_discrete}
use Rattle.pltl.specs.Formulas.{letter, not, next, always, eventually, until}
use Rattle.texts.specs.Scan.{step, scan, reading}
use Rattle.texts.specs.Signs.{sign_of}
use Rattle.tables.specs.Entering.{same, place, added, enter}
use Rattle.tables.specs.Sets.{chosen}
use Rattle.calculus.proofs.DecidedRules.{rule_decided}
use Rattle.calculus.proofs.DecidedUnits.{contradiction_decided}
use Rattle.sequents.specs.SequentRules.{sequent_allows}
use Rattle.units.specs.UnitRule.{unit_allows}
use Rattle.cases.specs.Drafts.{clause, after_clause}
use Rattle.samples.specs.Marked.{MarkedSamples}
use Rattle.samples.proofs.TwoStates.{row_of_next, row_of_infinitely_often, row_of_at_last_always, row_of_only_once, row_of_until_not}

pub marked_samples : MarkedSamples
unfolding reading scan step sign_of enter added place same ℕ_discrete clause after_clause chosen unit_allows sequent_allows rule_decided contradiction_decided
marked_samples = record {
  opposite_first = refl;
  opposite_beside = refl;
  implies_to_the_right = refl;
  until_before_and = refl;
  text_layer = refl;
  only_begun = refl;
  two_letters = refl;
  bracket_open = refl;
  next_row = (next (letter 0), refl, row_of_next);
  infinitely_often = (always (eventually (letter 0)), refl, row_of_infinitely_often);
  at_last_always = (eventually (always (letter 0)), refl, row_of_at_last_always);
  only_once = (always (eventually (letter 0)), refl, row_of_only_once);
  until_not = (until (letter 0) (not (letter 0)), refl, row_of_until_not);
  unit_contradicts = refl;
  unit_leaves_open = refl;
  some_again = refl;
  some_not_again = refl;
  init_answered = refl;
  trans_answered = refl;
  prop_answered = refl;
  roots_counted = refl;
  derivation_taken = refl;
}
