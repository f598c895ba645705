-- The components are gone through in order. Assumes nothing.
use Rattle.rules.specs.Lent.{SameDevices}
use Rattle.describe.proofs.DeviceSteps.{PlacedBelow, DevicesBelow}
use Rattle.describe.proofs.devices.list_devices.Given as goal

abbrev pub invariant-loop-i : goal.invariant-loop-i
invariant-loop-i l = SameDevices l.initial.devices l.devices × DevicesBelow l.components l.initial.devices l.devices l.i × PlacedBelow l.components.kinds.now 0 l.count l.i
