mod Counted
mod Gated
mod Onward
mod Seated
mod Starting
mod Turning
mod Agreed
mod Lockstep
mod Unanimous
mod ClearGroups
mod Arriving
mod Gating
mod Ahead
mod Ending
mod Leading
pub mod Voting
mod Farthest
pub mod Changing
mod Curing
mod AtGate
mod Way
