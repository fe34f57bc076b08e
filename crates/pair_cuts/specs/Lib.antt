pub mod Cut
pub mod Table
pub mod Potentials
pub mod Coupled
