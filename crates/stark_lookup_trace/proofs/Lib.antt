mod KeySteps
mod PassingSteps
mod SumSteps
mod TupleSteps
