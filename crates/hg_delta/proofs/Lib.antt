mod Numbers
mod Hunks
mod Readings
mod Outcomes
mod Wholes
