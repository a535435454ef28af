pub mod Causes
mod Vacant
