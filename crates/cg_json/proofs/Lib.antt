mod ReadBack
mod Shown
