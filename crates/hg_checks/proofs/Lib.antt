mod SameIds
mod Distinct
mod HeadTests
mod Faults
