-- What listing the Feedback ids promises. Assumes nothing: these are definitions.
use Rattle.std.specs.Prelude.{cond, List, Option, IfSome, is_some, ◌≡◌, ℕ, length}
use Rattle.rules.specs.Lists.{written}
use Rattle.reasons.specs.Fits.{feedback_fits}
use Rattle.reasons.specs.Listing.{shared_ids}

-- the call: its answer, and what list 4 holds after it
pub record FeedbackIds (ids kinds starts stops feedback feedback' : List ℕ) (r : Option ℕ) : Type 0 where
  pub answer : is_some r ≡ feedback_fits starts stops (length ids) (length kinds) (length feedback)
  pub lists : feedback' ≡ cond (is_some r) (written feedback (shared_ids ids kinds starts stops)) feedback
  pub counts : IfSome r (λ n. n ≡ length (shared_ids ids kinds starts stops))
