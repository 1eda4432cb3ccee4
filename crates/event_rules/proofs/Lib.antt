mod Owing
mod Rules
mod Steps
mod RefusedSteps
mod FirstRefused
