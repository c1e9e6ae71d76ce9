use Rattle.std.proofs.Common.{sym, refl, arith}
use Rattle.tables.proofs.RecordedStates.{length_recorded, marked_clean, recorded_marked}
use Rattle.tables.proofs.states.States.push.Goals as goal

pub returns-then-at-ge-MOST_POSITIONS : goal.returns-then-at-ge-MOST_POSITIONS
returns-then-at-ge-MOST_POSITIONS c =
    let s = c.args.self.now in
    record { value = omega (arith, length_recorded s.letters s.len, s.few); after = refl }

pub returns : goal.returns
returns c =
    let s = c.args.self.now in
    record {
      value = (sym (length_recorded s.letters s.len), omega arith);
      after = recorded_marked s.letters _ c.args.letters s.len s.clean c.mark-words.ensures;
    }

pub invariant_of-self : goal.invariant_of-self
invariant_of-self c =
    let s = c.args.self.now in
    record { few = omega arith; clean = marked_clean s.letters _ c.args.letters s.len s.clean c.mark-words.ensures }
