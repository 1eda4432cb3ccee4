mod Moving
mod Nearer
