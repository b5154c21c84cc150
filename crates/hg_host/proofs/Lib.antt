mod Fronts
mod Beats
