mod TotalSteps
mod BalanceSteps
