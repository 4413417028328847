pub mod CoreReplies
pub mod FilingSteps
pub mod LineSteps
pub mod Replays
pub mod RepliesTold
pub mod SearchSteps
pub mod TellerSteps
pub mod WholeRun
