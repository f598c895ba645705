-- The components are gone through in order. Assumes nothing.
use Rattle.std.proofs.Common.{length}
use Rattle.rules.specs.Lent.{SameEvidence}
use Rattle.describe.proofs.DeviceSteps.{PlacedBelow, DeviceEvidenceBelow}
use Rattle.describe.proofs.evidence.list_device_evidence.Given as goal

abbrev pub invariant-loop-id : goal.invariant-loop-id
invariant-loop-id l =
    SameEvidence l.initial.evidence l.evidence × DeviceEvidenceBelow l.components l.first l.initial.evidence l.evidence (length l.yielded) × PlacedBelow l.components.kinds.now l.first l.place (length l.yielded)
