-- A refused scene call changes nothing, and a call that answers otherwise was accepted. Assumes nothing.
use mathlib.Core.Path.{◌≡◌, refl, ap, ◌∙◌}
use native.Mathlib.Omega.{arith}
use Rattle.std.specs.Prelude.{Ok, Err}
use Rattle.rules.specs.Scene.{Scene, ComponentLists, ConnectionLists, scene_of}
use Rattle.rules.specs.Refusals.{Checked, accepted, SceneLimits}
use Rattle.rules.specs.Describe.{DescribeLists, describe_checked, DescribedBy, DescribeCall}
use Rattle.rules.specs.Assess.{AssessLists, assess_checked, AssessedBy, AssessCall}
use Rattle.rules.specs.Analyze.{AnalyzeLists, analysis_checked, AnalyzedBy, AnalyzeCall}
use Rattle.rules.specs.declared.answers.Analysis.{Analysis}
use Rattle.rules.specs.declared.answers.Assessment.{Assessment}
use Rattle.rules.specs.declared.answers.Description.{Description}
use Rattle.rules.specs.declared.answers.Refusal.{Refusal}

-- a call by what its checks find
assessed-by : (c : Checked) {s : Scene} {old new : AssessLists} {a : Assessment} → AssessedBy c s old new (Ok a) → (c ≡ accepted) × AssessedBy accepted s old new (Ok a)
assessed-by (Ok u) b = (refl, b)
assessed-by (Err e) b = cc

unassessed-by : (c : Checked) {s : Scene} {old new : AssessLists} {r : Refusal} → AssessedBy c s old new (Err r) → (c ≡ Err r) × (new ≡ old)
unassessed-by (Ok u) b = cc
unassessed-by (Err e) b = (cc, grind arith)

described-by : (c : Checked) {s : Scene} {old new : DescribeLists} {a : Description} → DescribedBy c s old new (Ok a) → (c ≡ accepted) × DescribedBy accepted s old new (Ok a)
described-by (Ok u) b = (refl, b)
described-by (Err e) b = cc

undescribed-by : (c : Checked) {s : Scene} {old new : DescribeLists} {r : Refusal} → DescribedBy c s old new (Err r) → (c ≡ Err r) × (new ≡ old)
undescribed-by (Ok u) b = cc
undescribed-by (Err e) b = (cc, grind arith)

analyzed-by : (c : Checked) {s : Scene} {old new : AnalyzeLists} {a : Analysis} → AnalyzedBy c s old new (Ok a) → (c ≡ accepted) × AnalyzedBy accepted s old new (Ok a)
analyzed-by (Ok u) b = (refl, b)
analyzed-by (Err e) b = absurd (let no = b.answered in cc)

unanalyzed-by : (c : Checked) {s : Scene} {old new : AnalyzeLists} {r : Refusal} → AnalyzedBy c s old new (Err r) → (c ≡ Err r) × (new ≡ old)
unanalyzed-by (Ok u) b = absurd (let no = b.answered in cc)
unanalyzed-by (Err e) {old = old} {new = new} b =
    let d = (undescribed-by (Err e) b.described).1 in
    let a = (unassessed-by (Err e) b.assessed).1 in
    (let same = b.answered in cc, ap (λ d. record { description = d; assessment = new.assessment }) d ∙ ap (λ a. record { description = old.description; assessment = a }) a)

module _ (limits : SceneLimits) (l : ComponentLists) (m : ConnectionLists) where
  -- "Each returns its number and a place; every lent list and the record keep their contents.": the refusal is the one that the checks
  -- find, and every lent list is as it was
  pub assess-refused : (old new : AssessLists) (r : Refusal) → AssessCall limits l m old new (Err r) → (assess_checked limits l m old ≡ Err r) × (new ≡ old)
  assess-refused old new r call = unassessed-by (assess_checked limits l m old) call

  pub describe-refused : (old new : DescribeLists) (r : Refusal) → DescribeCall limits l m old new (Err r) → (describe_checked limits l m old ≡ Err r) × (new ≡ old)
  describe-refused old new r call = undescribed-by (describe_checked limits l m old) call

  -- an assessment is given only where the checks accept, and so are the counts of lists 0, 1 and 2
  pub assess-accepted : (old new : AssessLists) (a : Assessment) → AssessCall limits l m old new (Ok a)
      → (assess_checked limits l m old ≡ accepted) × AssessedBy accepted (scene_of l m) old new (Ok a)
  assess-accepted old new a call = assessed-by (assess_checked limits l m old) call

  pub describe-accepted : (old new : DescribeLists) (a : Description) → DescribeCall limits l m old new (Ok a)
      → (describe_checked limits l m old ≡ accepted) × DescribedBy accepted (scene_of l m) old new (Ok a)
  describe-accepted old new a call = described-by (describe_checked limits l m old) call

  -- The same of the call that writes lists 0 to 8: under a refusal, by whichever of its nine lists, every one of them is as it was
  pub analyze-refused : (old new : AnalyzeLists) (r : Refusal) → AnalyzeCall limits l m old new (Err r) → (analysis_checked limits l m old ≡ Err r) × (new ≡ old)
  analyze-refused old new r call = unanalyzed-by (analysis_checked limits l m old) call

  pub analyze-accepted : (old new : AnalyzeLists) (a : Analysis) → AnalyzeCall limits l m old new (Ok a)
      → (analysis_checked limits l m old ≡ accepted) × AnalyzedBy accepted (scene_of l m) old new (Ok a)
  analyze-accepted old new a call = analyzed-by (analysis_checked limits l m old) call
