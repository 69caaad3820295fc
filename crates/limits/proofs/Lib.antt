pub mod ChainLaws
pub mod EveryLaws
pub mod AllLaws
pub mod ZeroLaws
pub mod LimitLaws
