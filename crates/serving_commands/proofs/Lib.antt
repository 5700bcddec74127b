mod Plans
mod Starts
