pub mod Semaphore
