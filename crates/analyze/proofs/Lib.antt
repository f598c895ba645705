-- Lemmas of the call
pub mod SceneAnalyze
