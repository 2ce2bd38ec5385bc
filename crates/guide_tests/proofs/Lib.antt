pub mod CountingSteps
