pub mod Answering
pub mod TickLaws
pub mod TimeLaws
pub mod UnitLaws
