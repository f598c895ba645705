-- The call that writes lists 0 to 8, over connections listed in any order: what lists 0 to 8 hold after two such calls. Assumes nothing.
use mathlib.Core.Path.{◌≡◌, sym, ap, subst, ◌∙◌}
use Prim.Native.Nat.{ℕ}
use Rattle.std.specs.Prelude.{Result, Ok}
use lib.ListN.{length}
use Rattle.rules.specs.Scene.{Scene, ComponentLists, ConnectionLists, components_of, scene_of}
use Rattle.rules.specs.Refusals.{accepted, SceneLimits, answer_of, outputs_from, check_scene}
use Rattle.rules.specs.Analyze.{AnalyzeLists, analysis_lengths, analysis_checked, analysis, AnalyzeCall}
use Rattle.rules.specs.declared.answers.Analysis.{Analysis}
use Rattle.rules.specs.declared.answers.Refusal.{Refusal}
use Rattle.rules.proofs.Columns.{ConnectionsAligned}
use Rattle.laws.proofs.Reordering.{Reordered, same-answers, same-description, same-analyze}
use Rattle.laws.proofs.CallRefusals.{analyze-accepted}
use Rattle.laws.proofs.CallEntries.{assessed-same}
use Rattle.laws.proofs.CallReordering.{SameEntries, same_entries}
use Rattle.laws.proofs.DescribeReordering.{SameDescribed, same-described}
use Rattle.laws.proofs.CallsTogether.{analyze-parts}

-- what two calls with n components answer and leave in their lists
pub record SameAnalyzed (n : ℕ) (a a' : Analysis) (new new' : AnalyzeLists) : Type 0 where
  pub same_analysis : a ≡ a'
  pub same_description : SameDescribed a.description a'.description new.description new'.description
  pub same_assessment : SameEntries n a.assessment a'.assessment new.assessment new'.assessment

-- answers whose parts are the same are the same
parts-same : {a a' : Analysis} → a.description ≡ a'.description → a.assessment ≡ a'.assessment → a ≡ a'
parts-same {a} {a'} d e = ap (λ x. record { description = x; assessment = a.assessment }) d ∙ ap (λ x. record { description = a'.description; assessment = x }) e

-- what is said of two scenes that differ in the order of the connections is the same
same-analysis : (s t : Scene) → Reordered s t → analysis s ≡ analysis t
same-analysis s t r = parts-same (assessed-same (same-description s t r).same_counts) (same-answers s t r).same_assessment

module _ (limits : SceneLimits) (l l' : ComponentLists) (m m' : ConnectionLists) (r : Reordered (scene_of l m) (scene_of l' m')) where
  -- both calls accept: the answers and the entries in use are the same
  pub same-analyzed : (old new old' new' : AnalyzeLists) (a a' : Analysis)
      → AnalyzeCall limits l m old new (Ok a) → AnalyzeCall limits l' m' old' new' (Ok a') → SameAnalyzed (length (components_of l)) a a' new new'
  same-analyzed old new old' new' a a' one two =
      let p = analyze-parts limits l m old new a one in
      let q = analyze-parts limits l' m' old' new' a' two in
      let d = same-described limits l l' m m' r _ _ _ _ _ _ p.0 q.0 in
      let e = same_entries limits l l' m m' r _ _ _ _ _ _ p.1 q.1 in
      record { same_analysis = parts-same d.same_description e.same_assessment; same_description = d; same_assessment = e }

module _ (limits : SceneLimits) (l : ComponentLists) (m m' : ConnectionLists) (r : Reordered (scene_of l m) (scene_of l m')) (aligned : ConnectionsAligned m') where
  -- with lists as long, the one call is accepted if the other is, with the same answer
  pub analyzed-together : (old new old' new' : AnalyzeLists) (a : Analysis) (answer : Result Analysis Refusal) → analysis_lengths old ≡ analysis_lengths old'
      → AnalyzeCall limits l m old new (Ok a) → AnalyzeCall limits l m' old' new' answer → answer ≡ Ok a
  analyzed-together old new old' new' a answer lengths one two =
      let e = analyze-accepted limits l m old new a one in
      let e' : analysis_checked limits l m' old' ≡ accepted =
      subst (λ n. check_scene limits l m' (outputs_from 0 (length l.ids) (length m'.sources) n) ≡ accepted) lengths
      (same-analyze limits l m m' r aligned (analysis_lengths old) e.0) in
      two.answered ∙ ap (λ c. answer_of c (analysis (scene_of l m'))) e' ∙ ap Ok (sym (same-analysis (scene_of l m) (scene_of l m') r)) ∙ sym e.1.answered
