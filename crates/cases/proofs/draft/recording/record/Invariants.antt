use Rattle.std.proofs.Common.{◌≡◌, ◌++◌, map, take, drop}
use Rattle.cases.specs.Calls.{after_calls}
use Rattle.cases.specs.Views.{stepped_model, kit_model, entry_call, answered}
use Rattle.cases.proofs.draft.recording.record.Given as goal

-- the entries that are left, answered from the case as it is, and those before them are what all are answered from the
-- case as it was; and both cases come to the same end
abbrev pub invariant-loop-entry : goal.invariant-loop-entry
invariant-loop-entry g l =
    (take l.entry-index l.entries ++ answered (kit_model g.K.Kit.knows g.K.Kit.allows l.initial.case.kit) (stepped_model l.case) (drop l.entry-index l.entries) ≡ answered (kit_model g.K.Kit.knows g.K.Kit.allows l.initial.case.kit) (stepped_model l.initial.case) l.initial.entries)
    × (after_calls (kit_model g.K.Kit.knows g.K.Kit.allows l.initial.case.kit) (stepped_model l.case) (map entry_call (drop l.entry-index l.entries)) ≡ after_calls (kit_model g.K.Kit.knows g.K.Kit.allows l.initial.case.kit) (stepped_model l.initial.case) (map entry_call l.initial.entries))
    × (l.case.kit ≡ l.initial.case.kit)
