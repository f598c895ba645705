-- Connections first, then devices. Assumes nothing.
use Rattle.describe.proofs.EvidenceSteps.{still_fits, both_listed}
use Rattle.describe.proofs.evidence.list_evidence.Goals as goal

pub list_device_evidence-requires-clause-fits : goal.list_device_evidence-requires-clause-fits
list_device_evidence-requires-clause-fits c = still_fits _ _ _ c.requires.pairs c.list_connection_evidence.ensures.listed _ c.requires.fits

pub returns-clause-listed : goal.returns-clause-listed
returns-clause-listed c = both_listed _ _ _ _ c.requires.pairs c.list_connection_evidence.ensures.listed c.list_device_evidence.ensures.listed
