-- The lists of an accepted scene fit, and are written. Assumes nothing.
use Rattle.describe.proofs.SceneDescribe.{edges_room, devices_room, evidence_room, call_described}
use Rattle.describe.proofs.describe.describe_placed.Goals as goal

pub list_timed_edges-requires-clause-room : goal.list_timed_edges-requires-clause-room
list_timed_edges-requires-clause-room c = edges_room c.args.scene.now c.args.lists.now c.requires.placed c.requires.accepted

pub list_devices-count-requires : goal.list_devices-count-requires
list_devices-count-requires c = devices_room c.args.scene.now c.args.lists.now c.requires.placed c.requires.accepted

pub list_evidence-requires : goal.list_evidence-requires
list_evidence-requires c = evidence_room c.args.scene.now c.args.lists.now c.requires.placed c.requires.accepted

pub returns-clause-described : goal.returns-clause-described
returns-clause-described c =
    call_described c.args.scene.now c.args.lists.now c.requires.placed c.requires.accepted _
    c.list_timed_edges.ensures.listed c.list_devices-count.ensures.listed c.list_evidence.ensures.listed _ c.list_devices-count.ensures.counted
