mod Adding
mod Feeding
mod Fronts
mod Pushes
mod Rows
mod Stopping
