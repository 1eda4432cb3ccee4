mod Numbers
mod Turns
