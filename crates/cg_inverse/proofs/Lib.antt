mod Values
mod Going
