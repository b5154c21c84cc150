mod Measuring
mod Measured
mod Weighed
mod Reading
mod Noting
mod Bundles
mod Known
