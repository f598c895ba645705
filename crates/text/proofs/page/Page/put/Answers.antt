-- The text stands where there was room for it. Assumes nothing.
use Rattle.std.proofs.Common.{ap, ◌∙◌, refl, arith}
use borrow.Rule.Slice.PartMut.{put_mid}
use Rattle.text.proofs.PutSteps.{text_put}
use Rattle.text.proofs.page.Page.put.Goals as goal

pub returns : goal.returns
returns c = record { room = c.requires; content = ap (put_mid _ _ _) c.copy_from_slice.ensures.after ∙ text_put _ _ _ _ (omega arith); after = refl; same = refl }
