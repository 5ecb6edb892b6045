pub mod Program
pub mod Imports
pub mod Telling
pub mod ReportOrders
pub mod Verifications
pub mod Refusals
pub mod Carrying
pub mod AfterCrash
