pub mod Executed
mod Places
mod Serial
