pub mod Graphs
pub mod NodeSteps
pub mod DrawnRuns
pub mod NodesHold
pub mod Givers
