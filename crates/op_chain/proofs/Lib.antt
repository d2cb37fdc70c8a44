pub mod BothStand
pub mod HandedOn
pub mod TakenOut
