pub mod High
pub mod Fitting
pub mod Limited
pub mod Program
pub mod Machines
