pub mod Agreement
pub mod Calls
pub mod Runs
pub mod Coverage
pub mod Quiet
pub mod Rooms
