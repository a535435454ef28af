mod Claiming
mod Coming
mod Cuts
mod Errors
mod Taking
