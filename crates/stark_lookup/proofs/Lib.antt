pub mod FitSteps
pub mod CountSteps
pub mod DrawSteps
pub mod GroundSteps
pub mod SoundSteps
pub mod VerdictSteps
