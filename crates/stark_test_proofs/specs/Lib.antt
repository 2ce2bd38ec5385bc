pub mod MadeProofs
