pub mod EdgeSteps
pub mod DeviceSteps
pub mod EvidenceSteps
pub mod ByIds
pub mod SceneDescribe
