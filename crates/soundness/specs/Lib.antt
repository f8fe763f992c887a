pub mod Dead
pub mod Heights
pub mod Rounds
pub mod Totals
pub mod Opening
