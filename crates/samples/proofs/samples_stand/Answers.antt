use Rattle.samples.proofs.Worked.{marked_samples}
use Rattle.samples.proofs.samples_stand.Goals as goal

pub returns : goal.returns
returns c = marked_samples
