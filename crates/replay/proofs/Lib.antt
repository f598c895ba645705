mod ReplaySteps
mod TallySteps
