mod Backwards
mod Steps
mod WrittenOut
