pub mod Wiping
