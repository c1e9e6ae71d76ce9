use Rattle.cases.proofs.Meant.{never_both}
use Rattle.cases.proofs.draft.steps.verdicts.Goals as goal

pub returns : goal.returns
returns g c = record { value = (c.verdict.ensures.value, c.verdict-2.ensures.value); never_both = never_both c.verdict.ensures.means c.verdict-2.ensures.means }
