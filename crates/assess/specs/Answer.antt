-- The answer from what the passes find. Assumes nothing: these are definitions.
use Rattle.std.specs.Prelude.{ℕ, ◌-◌}
use Rattle.rules.specs.declared.answers.Assessment.{Assessment}
use Rattle.projection.specs.declared.Projected.{Projected}
use Rattle.reasons.specs.declared.ReasonsAssessed.{ReasonsAssessed}

-- the assessment of n components
abbrev pub assessed_of : (n : ℕ) → ReasonsAssessed → Projected → Assessment
assessed_of n r p =
    record {
      scope = r.scope;
      pattern = r.pattern;
      confidence = 100;
      reasons = r.reasons;
      feedback = r.feedback;
      retained = p.retained;
      compressed = n - p.retained;
      projected = p.projected;
      path_ids = p.path_ids;
    }
