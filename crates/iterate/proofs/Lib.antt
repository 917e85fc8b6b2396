mod Cuts
mod Found
mod Images
mod Places
mod Settled
mod Whole
