mod Ending
mod Finishing
mod InOrder
mod Pushing
mod Reading
